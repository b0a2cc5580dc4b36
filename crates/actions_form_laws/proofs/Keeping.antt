-- What holds of each step that an action takes, between what was fixed before it and what is fixed behind it, holds of the action.
use Rattle.std.proofs.Common.{◌≡◌, refl, subst, List, [], ◌∷◌}
use Rattle.std.specs.Prelude.{ℕ, zero, suc, Option, Result, Ok, option_to_list, slice_get}
use Rattle.std.specs.List.{AllByRecursion as Each}
use Rattle.names_terms.specs.Terms as term
use Rattle.names_terms.specs.Terms.{Term, place_of}
use Rattle.names_term_parts.specs.Parts.{set_list}
use Rattle.actions_meanings.specs.declared.fault.FormFault.{FormFault}
use Rattle.actions_meanings.specs.Forms.{Setting, Form, form, test, assign, choose, both, either, narrowed, some, branch, arms, inside, call, changing}
use Rattle.actions_meanings.specs.Reads.{VariableSet, body_of, reads_primed, with_variable}
use Rattle.actions_meanings.specs.Outcomes.{FormOutcome, Arm, next, unless, least, outside, too_early, first_early, early, arm, through, arms_of, case_arms, fixed_by_some, lacking, together, form_outcome, outcome_within}
use Rattle.actions_form_laws.proofs.Steps.{Doing, behind_arm, ok-same, next-ok, unless-ok}
use Rattle.actions_form_laws.proofs.Speaking.{SpeaksOnly, FormSpeaks, form-speaks}

-- it holds where nothing is done, of two steps behind each other, and where one of the variables is fixed
pub record Holds (T : ℕ → Type 0) (R : VariableSet → VariableSet → Type 0) : Type 0 where
  pub same : (B : VariableSet) → R B B
  pub further : (B C D : VariableSet) → R B C → R C D → R B D
  pub added : (B : VariableSet) (x : ℕ) → T x → R B (with_variable B x)

module _ (g : Setting) (T : ℕ → Type 0) (R : VariableSet → VariableSet → Type 0) (holds : Holds T R) where
  abbrev Only : Term → Type 0
  Only e = SpeaksOnly g.table T e

  abbrev ArmsKeep : VariableSet → List Arm → Type 0
  ArmsKeep B cs = Each (λ (c : Arm). R B c.set) cs

  abbrev done : VariableSet → FormOutcome
  done B = Ok B

  same-keeps : (B C : VariableSet) → done B ≡ Ok C → R B C
  same-keeps B C h = subst (R B) (ok-same (Ok B) B C refl h) (holds.same B)

  module _ (part : Doing) (keep : (e : Term) (B C : VariableSet) → Only e → part e B ≡ Ok C → R B C) where
    through-keeps : (es : List Term) (B C : VariableSet) → Each Only es → through part es B ≡ Ok C → R B C
    through-keeps [] B C s h = same-keeps B C h
    through-keeps (e ∷ es) B C s h =
        let p : (D : VariableSet) × (part e B ≡ Ok D) × (through part es D ≡ Ok C) = next-ok (part e B) (through part es) C h in
        holds.further B p.0 C (keep e B p.0 s.0 p.1) (through-keeps es p.0 C s.1 p.2)

    arm-keeps : (e : Term) (B : VariableSet) (r : Result (List Arm) FormFault) (cs : List Arm) → Only e → ((ds : List Arm) → r ≡ Ok ds → ArmsKeep B ds) → next (part e B) (behind_arm e r) ≡ Ok cs → ArmsKeep B cs
    arm-keeps e B r cs own rest h =
        let p : (C : VariableSet) × (part e B ≡ Ok C) × (behind_arm e r C ≡ Ok cs) = next-ok (part e B) (behind_arm e r) cs h in
        let q : (ds : List Arm) × (r ≡ Ok ds) × (Ok (arm e p.0 ∷ ds) ≡ Ok cs) = next-ok r (λ ds. Ok (arm e p.0 ∷ ds)) cs p.2 in
        subst (ArmsKeep B) (ok-same (Ok (arm e p.0 ∷ q.0)) (arm e p.0 ∷ q.0) cs refl q.2) (keep e B p.0 own p.1, rest q.0 q.1)

    arms-keep : (B : VariableSet) (es : List Term) → Each Only es → (cs : List Arm) → arms_of part B es ≡ Ok cs → ArmsKeep B cs
    arms-keep B [] s cs h = subst (ArmsKeep B) (ok-same (Ok []) [] cs refl h) tt
    arms-keep B (e ∷ es) s cs h = arm-keeps e B (arms_of part B es) cs s.0 (arms-keep B es s.1) h

    case-keeps : (unread : Term → Option FormFault) (B : VariableSet) (bs : List (Term × Term)) (other : Option Term) → Each (λ (c : Term × Term). Only c.1) bs → Each Only (option_to_list other) → (cs : List Arm) → case_arms unread part B bs other ≡ Ok cs → ArmsKeep B cs
    case-keeps unread B [] other s o cs h = arms-keep B (option_to_list other) o cs h
    case-keeps unread B (b ∷ bs) other s o cs h =
        arm-keeps b.1 B (case_arms unread part B bs other) cs s.0 (case-keeps unread B bs other s.1 o) (unless-ok (unread b.0) (next (part b.1 B) (behind_arm b.1 (case_arms unread part B bs other))) cs h).1

    together-keeps : (B : VariableSet) (cs : List Arm) (C : VariableSet) → ArmsKeep B cs → together g.variables B cs ≡ Ok C → R B C
    together-keeps B [] C s h = same-keeps B C h
    together-keeps B (c ∷ cs) C s h =
        subst (R B) (ok-same (Ok c.set) c.set C refl (unless-ok (lacking g.variables (fixed_by_some (c ∷ cs)) (c ∷ cs)) (Ok c.set) C h).1) s.0

    joined-keeps : (B : VariableSet) (r : Result (List Arm) FormFault) (C : VariableSet) → ((cs : List Arm) → r ≡ Ok cs → ArmsKeep B cs) → next r (together g.variables B) ≡ Ok C → R B C
    joined-keeps B r C s h =
        let p : (cs : List Arm) × (r ≡ Ok cs) × (together g.variables B cs ≡ Ok C) = next-ok r (together g.variables B) C h in
        together-keeps B p.0 C (s p.0 p.1) p.2

    added-keeps : (B C : VariableSet) (x : ℕ) (o : Option FormFault) → T x → unless o (Ok (with_variable B x)) ≡ Ok C → R B C
    added-keeps B C x o s h = subst (R B) (ok-same (Ok (with_variable B x)) (with_variable B x) C refl (unless-ok o (Ok (with_variable B x)) C h).1) (holds.added B x s)

    form-keeps : (k : ℕ) (a : Term) (B C : VariableSet) (f : Form) → FormSpeaks g.table T f → form_outcome g k part a B f ≡ Ok C → R B C
    form-keeps k a B C test s h = same-keeps B C (unless-ok (early g B (suc k) a) (Ok B) C h).1
    form-keeps k a B C (assign x e) s h = added-keeps B C x (early g B k e) s h
    form-keeps k a B C (choose x e) s h = added-keeps B C x (early g B k e) s h
    form-keeps k a B C (both es) s h = through-keeps es B C s h
    form-keeps k a B C (narrowed m es) s h = through-keeps es B C s h
    form-keeps k a B C (either es) s h = joined-keeps B (arms_of part B es) C (arms-keep B es s) h
    form-keeps k a B C (some bs e) s h = keep e B C s (unless-ok (first_early (early g B k) (set_list bs)) (part e B) C h).1
    form-keeps k a B C (branch p e f) s h =
        joined-keeps B (arms_of part B (e ∷ f ∷ [])) C (arms-keep B (e ∷ f ∷ []) (s.0, (s.1, tt))) (unless-ok (early g B k p) (next (arms_of part B (e ∷ f ∷ [])) (together g.variables B)) C h).1
    form-keeps k a B C (arms cs other) s h = joined-keeps B (case_arms (early g B k) part B cs other) C (case-keeps (early g B k) B cs other s.0 s.1) h
    form-keeps k a B C (inside e) s h = keep e B C s h
    form-keeps k a B C (call j es) s h =
        through-keeps (body_of (slice_get g.table j)) B C s (unless-ok (first_early (early g B k) es) (through part (body_of (slice_get g.table j)) B) C h).1
    form-keeps k a B C (changing e u) s h =
        let late : VariableSet → Option FormFault = λ D. too_early (place_of a) (least g.variables (outside D (reads_primed g.table k u term.NoSteps))) in
        let p : (D : VariableSet) × (part e B ≡ Ok D) × (unless (late D) (Ok D) ≡ Ok C) = next-ok (part e B) (λ D. unless (late D) (Ok D)) C h in
        subst (R B) (ok-same (Ok p.0) p.0 C refl (unless-ok (late p.0) (Ok p.0) C p.2).1) (keep e B p.0 s p.1)

  pub outcome-keeps : (k : ℕ) (a : Term) (B C : VariableSet) → Only a → outcome_within g k a B ≡ Ok C → R B C
  outcome-keeps zero a B C s h = same-keeps B C h
  outcome-keeps (suc k) a B C s h = form-keeps (outcome_within g k) (outcome-keeps k) k a B C (form g zero a) (form-speaks g T a s) h
