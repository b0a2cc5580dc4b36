-- Rows in braces.
use Rattle.std.proofs.Common.{◌≡◌, ℕ, Bool, true, false, List, [], ◌∷◌, refl, sym, ap, subst, ◌∙◌}
use Rattle.std.specs.Prelude.{if◌then◌else◌}
use Rattle.base_core.specs.declared.place.Place.{Place}
use Rattle.reading_trees.specs.declared.laid.Laid.{Laid}
use Rattle.reading_trees.specs.declared.laid.Laid.TheVariants.{Plain, ListOpen, ListItem, ListClose}
use Rattle.reading_tokens.specs.declared.token.Kind.{Kind}
use Rattle.reading_tokens.specs.declared.token.Kind.TheVariants as kinds
use Rattle.reading_tokens.specs.declared.token.Symbol.{Symbol}
use Rattle.reading_tokens.specs.declared.token.Symbol.TheVariants as symbols
use Rattle.reading_trees.specs.declared.operators.InfixOperator.{InfixOperator}
use Rattle.reading_trees.specs.declared.operators.InfixOperator.TheVariants as infixes
use Rattle.reading_trees.specs.Precedence.{infix_symbol}
use Rattle.reading_trees.specs.Fits.{Fits, AllFit}
use Rattle.reading_trees.specs.Grammar.{Text, CommasBefore, begins_member, is_member}
use Rattle.reading_trees.specs.Trees as tree
use Rattle.reading_trees.specs.Trees.{Tree, Trees, NoTrees, MoreTrees, Bounds}
use Rattle.reading_machine.specs.declared.frame.Binder.TheVariants as binders
use Rattle.reading_machine.specs.declared.frame.Frame.{Frame}
use Rattle.reading_machine.specs.declared.frame.Frame.TheVariants as frame
use Rattle.reading_machine.specs.declared.frame.Mode.TheVariants as mode
use Rattle.reading_machine.specs.Machine.{Stepped, Reads, Stops, step, begins, follows, behind, brace_started, brace_named, on_joined, join, is_case_mark, begin_binding, want}
use Rattle.reading_machine.proofs.Runner.{Runner, after, run}
use Rattle.reading_machine.proofs.RunsParts.{Runs, Good, AllGood, BoundsGood, Closing, plain, part}
use Rattle.reading_machine.proofs.RunsBounds.{bounds_run}
use Rattle.reading_machine.proofs.RunsStarts.{is_closer, OpenKind, Opened, opened, SecondKind, Clear, clear_here, NamedKind, Named, Special, named}
use Rattle.reading_machine.proofs.RunsJoin.{begun}

abbrev pub is_in : Symbol → Bool
is_in symbols.Member = true
is_in _ = false

in_infixes : (o : InfixOperator) → is_member o ≡ false → is_in (infix_symbol o) ≡ false
in_infixes infixes.Member h = cc
in_infixes _ h = refl

special : Special is_in
special = record { infixes = in_infixes; prime = refl; bracket = refl; dot = refl; parenthesis = refl; exclamation = refl }

-- ---- where a tree begins in braces

named_symbol : (at : Place) (n : List ℕ) (p : Place) (fs : List Frame) (q : Place) (s : Symbol) → is_in s ≡ false
    → brace_named (plain (kinds.Symbol s) q) at n p fs s q ≡ follows (plain (kinds.Symbol s) q) (frame.Braces at NoTrees ∷ fs) (tree.Name p n)
named_symbol at n p fs q symbols.Member h = absurd (let e : true ≡ false = h in cc)
named_symbol at n p fs q _ h = refl

named_kind : (at : Place) (n : List ℕ) (p : Place) (fs : List Frame) (q : Place) (k : Kind) → SecondKind is_in k
    → step (plain k q) fs (mode.BraceName at n p) ≡ follows (plain k q) (frame.Braces at NoTrees ∷ fs) (tree.Name p n)
named_kind at n p fs q (kinds.Symbol s) h = named_symbol at n p fs q s h
named_kind at n p fs q _ h = refl

start_symbol : (at : Place) (fs : List Frame) (q : Place) (s : Symbol) → is_closer s ≡ false → brace_started (plain (kinds.Symbol s) q) at fs s q ≡ begins (plain (kinds.Symbol s) q) (frame.Braces at NoTrees ∷ fs)
start_symbol at fs q symbols.CloseBrace h = absurd (let e : true ≡ false = h in cc)
start_symbol at fs q _ h = refl

-- ---- the first expression in braces, up to the token behind it

-- what a token behind it does
pub record Ends (x : Laid) (at : Place) (fs : List Frame) (next : Tree → Stepped) : Type 0 where
  pub clear : Clear is_in (x ∷ [])
  pub closing : Closing x
  pub no_case : is_case_mark x ≡ false
  pub plainly : (e : Tree) → behind x (frame.Braces at NoTrees ∷ fs) e ≡ next e
  pub joined : (n : List ℕ) (p q : Place) (e : Tree) → behind x (frame.MaybeFilter at n p q ∷ fs) e ≡ on_joined (join (tree.Name p n) q e) q next

module _ (reader : Runner) where
  named_runs : (at : Place) (n : List ℕ) (p : Place) (fs : List Frame) (xs : List Laid) → Clear is_in xs → run reader xs fs (mode.BraceName at n p) ≡ run reader xs (frame.Braces at NoTrees ∷ fs) (mode.Have (tree.Name p n))
  named_runs at n p fs [] h = reader.brace_name at n p fs
  named_runs at n p fs (Plain t ∷ xs) h = ap (λ s. after reader s (Plain t ∷ xs) (run reader xs)) (named_kind at n p fs t.place t.kind h)
  named_runs at n p fs (ListOpen b q ∷ xs) h = refl
  named_runs at n p fs (ListItem b q ∷ xs) h = refl
  named_runs at n p fs (ListClose q ∷ xs) h = refl

  start_kind : (at : Place) (fs : List Frame) (q : Place) (xs : List Laid) (k : Kind) → OpenKind k → NamedKind is_in k xs
      → run reader (plain k q ∷ xs) fs (mode.BraceStart at) ≡ run reader (plain k q ∷ xs) (frame.Braces at NoTrees ∷ fs) mode.Want
  start_kind at fs q xs (kinds.Name n) o h = named_runs at n q fs xs h
  start_kind at fs q xs (kinds.Symbol s) o h = ap (λ v. after reader v (plain (kinds.Symbol s) q ∷ xs) (run reader xs)) (start_symbol at fs q s o)
  start_kind at fs q xs _ o h = refl

  pub starts : (at : Place) (fs : List Frame) (xs : List Laid) → Opened xs → Named is_in xs → run reader xs fs (mode.BraceStart at) ≡ run reader xs (frame.Braces at NoTrees ∷ fs) mode.Want
  starts at fs [] o h = absurd o
  starts at fs (Plain t ∷ xs) o h = start_kind at fs t.place xs t.kind o h
  starts at fs (ListOpen b q ∷ xs) o h = refl
  starts at fs (ListItem b q ∷ xs) o h = refl
  starts at fs (ListClose q ∷ xs) o h = refl

  pub braces_start : (e : Tree) → begins_member e ≡ false → (at : Place) (fs : List Frame) (xs ys : List Laid) → Text e xs ys → Clear is_in ys → run reader xs fs (mode.BraceStart at) ≡ run reader xs (frame.Braces at NoTrees ∷ fs) mode.Want
  braces_start e m at fs xs ys h c = starts at fs xs (opened e xs ys h) (named is_in special e m xs ys h (λ q. c))

  first_by : (e : Tree) → Good reader e → Fits e → (x : Laid) (at : Place) (fs : List Frame) (next : Tree → Stepped) → Ends x at fs next → (xs ys zs : List Laid) → Text e xs ys → ys ≡ x ∷ zs → (b : Bool) → begins_member e ≡ b
      → run reader xs fs (mode.BraceStart at) ≡ after reader (next e) (x ∷ zs) (run reader zs)
  first_by e g f x at fs next d xs ys zs h q false m =
      braces_start e m at fs xs ys h (subst (Clear is_in) (sym q) (clear_here is_in x [] zs d.clear))
      ∙ part reader _ _ e (frame.Braces at NoTrees ∷ fs) g.runs tt h q d.no_case d.closing
      ∙ ap (λ s. after reader s (x ∷ zs) (run reader zs)) (d.plainly e)
  first_by e g f x at fs next d xs ys zs h q true m =
      let b = begun e f m xs ys h in
      ap (λ v. run reader v fs (mode.BraceStart at)) b.here
      ∙ part reader _ _ _ (frame.MaybeFilter at b.name b.place b.sign ∷ fs) (g.rest m) tt b.text q d.no_case d.closing
      ∙ ap (λ s. after reader s (x ∷ zs) (run reader zs)) (d.joined b.name b.place b.sign _ ∙ ap (λ j. on_joined j b.sign next) b.joins)

  pub first_in_braces : (e : Tree) → Good reader e → Fits e → (x : Laid) (at : Place) (fs : List Frame) (next : Tree → Stepped) → Ends x at fs next → (xs ys zs : List Laid) → Text e xs ys → ys ≡ x ∷ zs
      → run reader xs fs (mode.BraceStart at) ≡ after reader (next e) (x ∷ zs) (run reader zs)
  first_in_braces e g f x at fs next d xs ys zs h q = first_by e g f x at fs next d xs ys zs h q (begins_member e) refl

  -- ---- rows

  -- expressions with a comma behind each, the first of them at the brace
  pub elements : (at : Place) (es : Trees) (e : Tree) → AllGood reader es → AllFit es → Good reader e → Fits e → (fs : List Frame) (xs ys : List Laid) → CommasBefore (MoreTrees es e) xs ys
      → run reader xs fs (mode.BraceStart at) ≡ run reader ys (frame.Braces at (MoreTrees es e) ∷ fs) mode.Want
  elements at NoTrees e gs fit g f fs xs ys h =
      ap (λ v. run reader v fs (mode.BraceStart at)) h.1
      ∙ first_in_braces e g f (plain (kinds.Symbol symbols.Comma) h.2.2.0) at fs (λ a. want (frame.Braces at (MoreTrees NoTrees a) ∷ fs))
      (record { clear = refl; closing = λ gs a. refl; no_case = refl; plainly = λ a. refl; joined = λ n p q a. refl })
      h.0 h.2.0 ys h.2.1 h.2.2.1
  elements at (MoreTrees es d) e gs fit g f fs xs ys h =
      elements at es d gs.0 fit.0 gs.1 fit.1 fs xs h.0 h.1
      ∙ part reader _ _ e (frame.Braces at (MoreTrees es d) ∷ fs) g.runs tt h.2.1 h.2.2.1 refl (λ gs a. refl)

  pub set_runs : (at : Place) (es : Trees) → AllGood reader es → AllFit es → Runs reader (tree.SetOf at es)
  set_runs at NoTrees g f fs top xs ys h =
      ap (λ v. run reader v fs mode.Want) h.1 ∙ ap (λ v. run reader v fs (mode.BraceStart at)) (h.2.1 ∙ h.2.2.1)
  set_runs at (MoreTrees NoTrees e) g f fs top xs ys h =
      ap (λ v. run reader v fs mode.Want) h.1
      ∙ ap (λ v. run reader v fs (mode.BraceStart at)) h.2.1.1
      ∙ first_in_braces e g.1 f.1 (plain (kinds.Symbol symbols.CloseBrace) h.2.2.0) at fs (λ a. Reads fs (mode.Have (tree.SetOf at (MoreTrees NoTrees a))))
      (record { clear = refl; closing = λ gs a. refl; no_case = refl; plainly = λ a. refl; joined = λ n p q a. refl })
      h.2.1.0 h.2.0 ys h.2.1.2 h.2.2.1
  set_runs at (MoreTrees (MoreTrees es d) e) g f fs top xs ys h =
      ap (λ v. run reader v fs mode.Want) h.1
      ∙ elements at es d g.0.0 f.0.0 g.0.1 f.0.1 fs h.0 h.2.1.0 h.2.1.1
      ∙ part reader _ _ e (frame.Braces at (MoreTrees es d) ∷ fs) g.1.runs tt h.2.1.2 h.2.2.1 refl (λ gs a. refl)

  pub filter_runs : (at : Place) (n : List ℕ) (s e : Tree) → Runs reader s → Runs reader e → Runs reader (tree.Filter at n s e)
  filter_runs at n s e rs r fs top xs ys h =
      ap (λ v. run reader v fs mode.Want) h.1
      ∙ ap (λ v. run reader v fs (mode.BraceStart at)) h.2.1.1
      ∙ ap (λ v. run reader v fs (mode.BraceName at n h.2.1.0)) h.2.2.1.1
      ∙ part reader _ _ s (frame.MaybeFilter at n h.2.1.0 h.2.2.1.0 ∷ fs) rs tt h.2.2.2.1 h.2.2.2.2.1.1 refl (λ gs a. refl)
      ∙ part reader _ _ e (frame.FilterTest at n s ∷ fs) r tt h.2.2.2.2.2.1 h.2.2.2.2.2.2.1 refl (λ gs a. refl)

  pub map_runs : (at : Place) (e : Tree) (bs : Bounds) → Runs reader e → BoundsGood reader bs → Runs reader (tree.Map at e bs)
  map_runs at e bs r g fs top xs ys h =
      let k = h.1 in
      ap (λ v. run reader v fs mode.Want) k.1
      ∙ braces_start e h.0 at fs k.0 k.2.0 k.2.1 (subst (Clear is_in) (sym k.2.2.1.1) refl)
      ∙ part reader _ _ e (frame.Braces at NoTrees ∷ fs) r tt k.2.1 k.2.2.1.1 refl (λ gs a. refl)
      ∙ ap (λ b. after reader (if b then Stops else Reads fs (begin_binding (binders.Map at e))) (plain (kinds.Symbol symbols.Colon) k.2.2.1.0 ∷ k.2.2.0) (run reader k.2.2.0)) h.0
      ∙ bounds_run reader symbols.CloseBrace k.2.2.2.2.0 (binders.Map at e) bs g fs k.2.2.0 k.2.2.2.0 ys k.2.2.2.1 k.2.2.2.2.1 refl (λ gs a. refl) (λ b cs ns s gs. refl)
