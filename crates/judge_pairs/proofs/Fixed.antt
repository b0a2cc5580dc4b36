-- The forms that the terms of a specification have, and those that they have where all variables are fixed before.
use Rattle.std.proofs.Common.{◌≡◌, refl, subst, sym, ◌∙◌, arith, ℕ, true, []}
use Rattle.std.specs.Prelude.{IfSome, Option, Some, None, Result, Ok, Err}
use Rattle.names_terms.specs.declared.ids.DefId.{DefId}
use Rattle.names_terms.specs.declared.operator.Operator.{Operator}
use Rattle.names_terms.specs.declared.spec.Spec.{Spec}
use Rattle.names_terms.specs.Terms.{Term}
use Rattle.actions_meanings.specs.declared.which.Which.TheVariants as which
use Rattle.actions_meanings.specs.declared.fault.FormFault.{FormFault}
use Rattle.actions_meanings.specs.Forms.{Setting}
use Rattle.actions_meanings.specs.Reads.{VariableSet, in_none}
use Rattle.actions_meanings.specs.Outcomes.{Fixes, FormOutcome, IsOutcome, IsWholeOutcome, unless, wholly}
use Rattle.steps_lines_defs.specs.Says.{Act, ActFixes, setting}
use Rattle.steps_lines_defs.specs.Steps.{silent_act}
use Rattle.judge_truth.specs.Truths.{everything}
use Rattle.actions_form_laws.specs.Growth.{FormsStay}
use Rattle.names_specification_laws.specs.IsSpec.{IsSilent}
use Rattle.steps_ready_defs.specs.Ready.{IsReadyAct, IsReadySpec}

-- what leaves every variable fixed leaves them fixed

ok_same : {A : Type 0} (x y : A) → ◌≡◌ {A = Result A FormFault} (Ok x) (Ok y) → x ≡ y
ok_same x y e = cc

not_ok : {A : Type 0} (f : FormFault) (y : A) → ◌≡◌ {A = Result A FormFault} (Err f) (Ok y) → ⊥
not_ok f y e = cc

unless_same : {A : Type 0} (o : Option FormFault) (C E : A) → unless o (Ok C) ≡ Ok E → C ≡ E
unless_same None C E e = ok_same C E e
unless_same (Some f) C E e = absurd (not_ok f E e)

outcome_fixes : (g : Setting) (a : Term) (B E : VariableSet) (o : FormOutcome) → IsOutcome g a B o → wholly g.variables a o ≡ Ok E → Fixes g a B E
outcome_fixes g a B E (Ok C) i e = subst (λ (X : VariableSet). Fixes g a B X) (unless_same _ C E e) i
outcome_fixes g a B E (Err f) i e = absurd (not_ok f E e)

whole_fixes : (g : Setting) (a : Term) (B E : VariableSet) → IsWholeOutcome g a B (Ok E) → Fixes g a B E
whole_fixes g a B E h = outcome_fixes g a B E h.0 h.1 h.2

-- from some set
abbrev pub HasForm : Setting → Term → VariableSet → Type 0
HasForm g a B = (C : VariableSet) × Fixes g a B C

none_in : (B : VariableSet) (x : ℕ) → in_none x ≡ true → B x ≡ true
none_in B x e = cc

module _ (stay : FormsStay) where
  -- where more is fixed before, as where all is
  pub form_there : (g : Setting) (a : Term) (B : VariableSet) → HasForm g a B → HasForm g a everything
  form_there g a B h = let r = stay g a B h.0 everything h.1 (λ x e. refl) in (r.0, r.1)

  pub form_from_none : (g : Setting) (a : Term) (B : VariableSet) → HasForm g a in_none → HasForm g a B
  form_from_none g a B h = let r = stay g a in_none h.0 B h.1 (λ x e. none_in B x e) in (r.0, r.1)

module _ (g : Spec) (ready : IsReadySpec g) where
  pub init_form : HasForm (setting which.Init g) g.init in_none
  init_form = (ready.init.0, whole_fixes (setting which.Init g) g.init in_none ready.init.0 ready.init.1)

  pub next_form : HasForm (setting which.Action g) g.next in_none
  next_form = (ready.next.0, whole_fixes (setting which.Action g) g.next in_none ready.next.0 ready.next.1)

-- the operator of the steps that no line shows has a form from nothing, and takes no arguments

same_operator : (o q : Operator) → ◌≡◌ {A = Option Operator} (Some o) (Some q) → o ≡ q
same_operator o q e = cc

same_act : (a b : Act) → ◌≡◌ {A = Option Act} (Some a) (Some b) → a ≡ b
same_act a b e = cc

no_act : (a : Act) → ◌≡◌ {A = Option Act} None (Some a) → ⊥
no_act a e = cc

silent_call : (g : Spec) (o : Option DefId) → IfSome o (λ d. IsSilent g.operators d.0) → ((a : Act) → silent_act o ≡ Some a → (C : VariableSet) × ActFixes g a in_none C) → (a : Act) → silent_act o ≡ Some a → IsReadyAct g in_none a
silent_call g None h f a e = absurd (no_act a e)
silent_call g (Some d) h f a e =
    let own : Act = record { operator = d.0; arguments = [] } in
    let x = f own refl in
    subst (λ (b : Act). IsReadyAct g in_none b) (same_act own a e) (
      h.operator,
      h.is,
      record {
        named = h.named;
        level = h.level;
        arguments = sym h.alone;
        values = λ v m. absurd (omega (arith, m.1));
        form = (x.0, subst (λ (o : Operator). Fixes (setting which.Action g) o.body in_none x.0) (same_operator x.1.0 h.operator (sym x.1.1 ∙ h.is)) x.1.2);
      },
    )

pub silent_ready : (g : Spec) → IsReadySpec g → (a : Act) → silent_act g.silent ≡ Some a → IsReadyAct g in_none a
silent_ready g ready = silent_call g g.silent ready.ordered.silent ready.silent
