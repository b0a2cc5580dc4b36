-- The terms of a tuple under UNCHANGED in an action in order, and so further in: what they leave fixed as seen less high they leave fixed.
use Rattle.std.proofs.Common.{◌≡◌, ◌⊎◌, inl, inr, refl, sym, ◌∙◌, subst, ℕ, zero, suc, List, [], ◌∷◌, ◌++◌, map}
use Rattle.std.specs.Prelude.{false, Option, None, Some, Result, Ok, slice_get, option_to_list}
use Rattle.std.specs.List.{AllByRecursion}
use Rattle.std.proofs.lemmas.List.Elements.{All-cons, All-nil}
use Rattle.names_terms.specs.declared.level.Level.{Level}
use Rattle.names_terms.specs.declared.level.Level.TheVariants as levels
use Rattle.names_terms.specs.Terms.{Term, Placed, level_of, place_of}
use Rattle.names_term_parts.specs.Limits.{is_above}
use Rattle.eval_meanings.specs.Unchanged.{unchanged_of}
use Rattle.actions_meanings.specs.Forms.{Setting, Form, form, test, assign, choose, both, either, narrowed, some, branch, arms, inside, call, changing}
use Rattle.actions_meanings.specs.Outcomes.{FormOutcome, Fixes, outcome_within}
use Rattle.actions_meanings.specs.Reads.{Ends, VariableSet, body_of}
use Rattle.names_terms.specs.declared.operator.Operator.{Operator}
use Rattle.steps_walk_laws.specs.Stable.{IsOrderly, Reaches, highest}
use Rattle.steps_walk_laws.proofs.FormTerms.{Fact, FormTerms, IsMadeStill, OtherIs, form_terms}
use Rattle.steps_walk_laws.proofs.Made.{unchanged_rows}
use Rattle.steps_walk_laws.proofs.Rows.{Rows, Bodies, orderly_rows, orderly_bodies}
use Rattle.steps_walk_laws.proofs.Stable.{IsStill}
use Rattle.steps_walk_laws.proofs.StableOutcomes.{still_outcome}
use Rattle.eval_laws.proofs.FineContexts.{all_append}
use Rattle.names_specification_laws.specs.IsSpec.{IsAtMost}
use Rattle.steps_found_states.specs.Grounds.{FixesWithin, TuplesFix, form_parts, tuple_parts}
use Rattle.steps_found_states.proofs.FormParts.{same_form}

same_set : (C D : VariableSet) → ◌≡◌ {A = FormOutcome} (Ok C) (Ok D) → C ≡ D
same_set C D e = cc

constant_state : (l : Level) → is_above l levels.Constant ≡ false → is_above l levels.State ≡ false
constant_state levels.Constant h = refl
constant_state levels.State h = refl
constant_state levels.Action h = h
constant_state levels.Temporal h = h

module _ (g : Setting) (Q : ℕ → Type 0) (bodies : Bodies g.variables g.table Q) where
  abbrev L : Level
  L = highest g.which

  abbrev Is : ℕ → ℕ → Term → Type 0
  Is k n e = Fact g Q bodies L k n e

  constant_ends : (e : Term) → is_above (level_of e) levels.Constant ≡ false → Ends g.table 1 e
  constant_ends (Placed at levels.Constant m) h = tt
  constant_ends (Placed at levels.State m) h = absurd (cc)
  constant_ends (Placed at levels.Action m) h = absurd (cc)
  constant_ends (Placed at levels.Temporal m) h = absurd (cc)

  -- UNCHANGED of a constant is two levels high, and leaves fixed what was fixed
  still_fact : (n : ℕ) (e : Term) → IsMadeStill g Q bodies L n e → Is 2 n e
  still_fact n e s = subst (λ (x : Term). Is 2 n x) (sym s.2)
      (unchanged_rows g.variables g.table Q n s.0 s.1 s.3 (constant_state (level_of s.1) s.4), s.5, All-cons (Ends g.table 1) s.1 [] (constant_ends s.1 s.4) (All-nil (Ends g.table 1)))

  still_fixes : (j n : ℕ) (e : Term) → IsMadeStill g Q bodies L n e → FixesWithin g j e
  still_fixes j n e s B C q =
      let still : IsStill g Q bodies s.1 = ((n, s.3), s.4) in
      let one : outcome_within g j e B ≡ Ok B = subst (λ (x : Term). outcome_within g j x B ≡ Ok B) (sym s.2) (still_outcome g Q bodies j s.0 s.1 B still) in
      let fixes : outcome_within g 2 e B ≡ Ok B = subst (λ (x : Term). outcome_within g 2 x B ≡ Ok B) (sym s.2) (still_outcome g Q bodies 2 s.0 s.1 B still) in
      (2, (still_fact n e s).2, fixes ∙ (sym one ∙ q))

  each_fixes : (j m : ℕ) (es : List Term) → AllByRecursion (λ e. Is j m e ⊎ IsMadeStill g Q bodies L m e) es → AllByRecursion (FixesWithin g j) es
  each_fixes j m [] h = tt
  each_fixes j m (e ∷ es) h = (one h.0, each_fixes j m es h.1)
    where
      one : Is j m e ⊎ IsMadeStill g Q bodies L m e → FixesWithin g j e
      one (inl t) = λ B C q. (j, t.2, q)
      one (inr s) = still_fixes j m e s

  tuple_fixes : (j n : ℕ) (f : Form) → FormTerms g Q bodies L j n f → AllByRecursion (FixesWithin g j) (tuple_parts f)
  tuple_fixes j n (narrowed m es) h = each_fixes j m es h.1
  tuple_fixes j n f h = tt

  abbrev Goes : ℕ → Type 0
  Goes d = (k n : ℕ) (e : Term) → Is k n e → TuplesFix g d e

  all_go : (d : ℕ) → Goes d → (k n : ℕ) (es : List Term) → AllByRecursion (Is k n) es → AllByRecursion (TuplesFix g d) es
  all_go d ih k n [] h = tt
  all_go d ih k n (e ∷ es) h = (ih k n e h.0, all_go d ih k n es h.1)

  tuple_goes : (d : ℕ) → Goes d → (k m : ℕ) (es : List Term) → AllByRecursion (λ e. Is k m e ⊎ IsMadeStill g Q bodies L m e) es → AllByRecursion (TuplesFix g d) es
  tuple_goes d ih k m [] h = tt
  tuple_goes d ih k m (e ∷ es) h = (one h.0, tuple_goes d ih k m es h.1)
    where
      one : Is k m e ⊎ IsMadeStill g Q bodies L m e → TuplesFix g d e
      one (inl t) = ih k m e t
      one (inr s) = ih 2 m e (still_fact m e s)

  cases_go : (d : ℕ) → Goes d → (k n : ℕ) (cs : List (Term × Term)) → AllByRecursion (λ c. Is k n c.0 × Is k n c.1) cs → AllByRecursion (TuplesFix g d) (map (λ q. q.1) cs)
  cases_go d ih k n [] h = tt
  cases_go d ih k n (c ∷ cs) h = (ih k n c.1 h.0.1, cases_go d ih k n cs h.1)

  other_goes : (d : ℕ) → Goes d → (k n : ℕ) (other : Option Term) → OtherIs g Q bodies L k n other → AllByRecursion (TuplesFix g d) (option_to_list other)
  other_goes d ih k n None h = tt
  other_goes d ih k n (Some e) h = (ih k n e h, tt)

  form_goes : (d : ℕ) → Goes d → (k n : ℕ) (a : Term) (f : Form) → FormTerms g Q bodies L k n f → AllByRecursion (TuplesFix g d) (form_parts g (place_of a) f)
  form_goes d ih k n a test h = tt
  form_goes d ih k n a (assign x e) h = tt
  form_goes d ih k n a (choose x e) h = tt
  form_goes d ih k n a (both es) h = all_go d ih k n es h
  form_goes d ih k n a (either es) h = all_go d ih k n es h
  form_goes d ih k n a (narrowed m es) h = tuple_goes d ih k m es h.1
  form_goes d ih k n a (some bs e) h = (ih k _ e h.2, tt)
  form_goes d ih k n a (branch p e f) h = (ih k n e h.1, (ih k n f h.2, tt))
  form_goes d ih k n a (arms cs other) h = all_append (TuplesFix g d) (map (λ q. q.1) cs) (option_to_list other) (cases_go d ih k n cs h.0) (other_goes d ih k n other h.1)
  form_goes d ih k n a (inside e) h = (ih k n e h, tt)
  form_goes d ih k n a (call j es) h = subst (λ (o : Option Operator). AllByRecursion (TuplesFix g d) (body_of o)) (sym h.1) (ih k _ h.0.body h.5, tt)
  form_goes d ih k n a (changing e v) h = (ih k n e h.0, tt)

  goes : (d : ℕ) → Goes d
  goes zero k n a h = tt
  goes (suc d) zero n a h = absurd h.2
  goes (suc d) (suc k) n a h = (
    λ j e. subst (λ (es : List Term). AllByRecursion (FixesWithin g j) es) (same_form tuple_parts (λ m n es. refl) g n zero a)
        (tuple_fixes j n (form g n a) (form_terms g Q bodies L j n a (h.0, h.1, e))),
    subst (λ (es : List Term). AllByRecursion (TuplesFix g d) es) (same_form (form_parts g (place_of a)) (λ m n es. refl) g n zero a)
        (form_goes d (goes d) k n a (form g n a) (form_terms g Q bodies L k n a h)),
  )

pub orderly_tuples : (g : Setting) (d n : ℕ) (B C : VariableSet) (a : Term) → IsOrderly g.variables g.table n a → IsAtMost (highest g.which) a → Fixes g a B C → TuplesFix g d a
orderly_tuples g d n B C a o low x = goes g (Reaches g.table a) (orderly_bodies g.variables g.table n a o) d x.0 n a (orderly_rows g.variables g.table n a o, low, x.1)
