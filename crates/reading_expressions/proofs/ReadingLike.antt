-- The rows that the reader has beside given rows of the same text: no more is unfinished in them, and they allow what those allow.
use Rattle.std.proofs.Common.{◌≡◌, ◌≤◌, Bool, true, false, List, [], ◌∷◌, sym, subst, arith}
use Rattle.reading_trees.specs.declared.laid.Laid.{Laid}
use Rattle.reading_trees.specs.declared.operators.InfixOperator.{InfixOperator}
use Rattle.reading_trees.specs.Precedence.{Range, Above, infix_range}
use Rattle.reading_trees.specs.Fits.{FirstAbove}
use Rattle.reading_trees.specs.Trees.{Operands}
use Rattle.reading_machine.specs.declared.frame.Scope.{Scope}
use Rattle.reading_machine.specs.declared.frame.Scope.TheVariants as scopes
use Rattle.reading_machine.specs.declared.frame.Binder.{Binder}
use Rattle.reading_machine.specs.declared.frame.Binder.TheVariants as binders
use Rattle.reading_machine.specs.declared.frame.Frame.{Frame}
use Rattle.reading_machine.specs.declared.frame.Frame.TheVariants as frame
use Rattle.reading_machine.specs.declared.frame.Mode.TheVariants as mode
use Rattle.reading_open_rows.specs.Unfinished.{of_frames}
use Rattle.reading_machine.specs.OpenFits.{Open, in_binder, in_mode, Top, ScopeFits, BinderFits, Outermost}
use Rattle.reading_expressions.proofs.ReadingScopes.{ScopeStands, BinderStands}
use Rattle.reading_expressions.proofs.ReadingStarts.{Inner, Ready, is_ready, enter}
use Rattle.reading_machine.proofs.Runner.{Runner}

-- a chain may stand in the innermost row
abbrev pub Chains : List Frame → InfixOperator → Operands → Type 0
Chains fs o es = Top fs (λ r. Above (infix_range o) r × FirstAbove r es)

pub record Like (unit : Bool) (fs gs : List Frame) : Type 0 where
  pub none : fs ≡ [] → gs ≡ []
  pub inner : Outermost unit fs false → Inner unit gs
  pub open_so : Open fs → Open gs
  pub top : (o : InfixOperator) (es : Operands) → Chains fs o es → Chains gs o es
  pub count : of_frames gs ≤ of_frames fs

pub no_rows : (unit : Bool) → Like unit [] []
no_rows unit = record { none = λ q. q; inner = λ o. sym o; open_so = λ o. o; top = λ o es h. h; count = omega arith }

pub is_row : (f : Frame) (fs : List Frame) → f ∷ fs ≡ [] → ⊥
is_row f fs q = cc

open_same : (f : Frame) (fs gs : List Frame) → Open (f ∷ fs) → Open (f ∷ gs)
open_same (frame.Subscript k at e) fs gs h = h
open_same (frame.FairSubscript at) fs gs h = h
open_same f fs gs h = tt

top_same : (f : Frame) (fs gs : List Frame) (P : Range → Type 0) → Top (f ∷ fs) P → Top (f ∷ gs) P
top_same (frame.Prefix o p) fs gs P h = h
top_same (frame.Infix o es p) fs gs P h = h
top_same f fs gs P h = tt

pub one_row : (unit : Bool) (f : Frame) (fs gs : List Frame) → Like unit fs gs → Like unit (f ∷ fs) (f ∷ gs)
one_row unit f fs gs l =
    let c : of_frames gs ≤ of_frames fs = l.count in
    record {
      none = λ q. absurd (is_row f fs q);
      inner = λ o. tt;
      open_so = λ o. open_same f fs gs o;
      top = λ o es h. top_same f fs gs (λ r. Above (infix_range o) r × FirstAbove r es) h;
      count = omega (arith, c);
    }

-- ---- what may stand in the rows

pub ready : (unit : Bool) (fs gs : List Frame) → Like unit fs gs → Open fs → Outermost unit fs false → Ready unit gs
ready unit fs gs l h o = is_ready unit gs (l.inner o) (l.open_so h)

pub scope_stands : (unit : Bool) (s : Scope) (fs gs : List Frame) → Like unit fs gs → ScopeFits s fs → Open fs → Outermost unit fs (in_mode (mode.DefinitionName s)) → ScopeStands unit s gs
scope_stands unit (scopes.Let at ds) fs gs l f h o = (ready unit fs gs l h o, f)
scope_stands unit scopes.Unit fs gs l f h o = (l.none f, sym (subst (λ v. Outermost unit v true) f o))

pub binder_stands : (unit : Bool) (c : Binder) (fs gs : List Frame) → Like unit fs gs → BinderFits c fs → Open fs → Outermost unit fs (in_binder c) → BinderStands unit c gs
binder_stands unit (binders.Quantifier q at) fs gs l f h o = ready unit fs gs l h o
binder_stands unit (binders.Function at) fs gs l f h o = ready unit fs gs l h o
binder_stands unit (binders.Map at e) fs gs l f h o = (ready unit fs gs l h o, f.0, f.1)
binder_stands unit (binders.Defined s n p q) fs gs l f h o = scope_stands unit s fs gs l f h o

-- ---- where the reader stands

-- what was told is told from behind rows of the reader that are like these
pub record Stands (reader : Runner) (unit : Bool) (told : reader.Told) (ys : List Laid) (fs : List Frame) : Type 0 where
  pub rows : List Frame
  pub runs : told ≡ enter reader unit ys rows
  pub like : Like unit fs rows
