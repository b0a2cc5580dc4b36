-- A test in each of several places.
use Rattle.std.proofs.Common.{◌≡◌, sym, subst, ℕ, ◌+◌, ◌≤◌, List, [], ◌∷◌, ◌++◌, length, take}
use Rattle.std.specs.Prelude.{Bool, true, false, Contains, Ok, Err, if◌then◌else◌}
use Rattle.std.proofs.lemmas.List.{take_all}
use Rattle.names_terms.specs.Terms.{Term}
use Rattle.eval_meanings.specs.declared.fault.EvalFault.{EvalFault}
use Rattle.eval_meanings.specs.declared.fault.EvalFault.TheVariants.{Refused, NoMemory}
use Rattle.eval_meanings.specs.Answers.{Tells}
use Rattle.eval_meanings.specs.Contexts.{Context, Places}
use Rattle.eval_meanings.specs.Evaluates.{Evaluates}
use Rattle.eval_meanings.specs.Outcomes.{fault}
use Rattle.eval_meanings.specs.Unchanged.{TruthOf}
use Rattle.actions_meanings.specs.Forms.{Setting, form, test}
use Rattle.actions_meanings.specs.Reads.{VariableSet}
use Rattle.logs_updates.specs.declared.update.See.{See}
use Rattle.actions_meanings.specs.Filled.{Fills, at_next}
use Rattle.steps_found_states.specs.Walks.{FailsOf, Finds, HoldsOf}
use Rattle.steps_found_states.specs.Parts.{FoundEach}
use Rattle.steps_found_states.proofs.Finding.{each_more, each_none, each_refused}
use Rattle.steps_found_states.proofs.Simple.{finds_false, finds_true, meets_test}
use Rattle.steps_walk.specs.Walking.{EachTested, TestGrounds}
use Rattle.steps_walk.proofs.Loops.{Apart, within}

module _ (g : Setting) (d : ℕ) (sees : List See) (c : Context) (a : Term) (i : form g (length c.slots) a ≡ test) where
  abbrev pub TestedSoFar : List Places → ℕ → List Places → Type 0
  TestedSoFar ps k rs = (D : VariableSet) → ((p : Places) → Contains ps p → TestGrounds g sees D p c a) → FoundEach sees (take k ps) (λ C. C ≡ D) (HoldsOf g d c a) (FailsOf g d D c a) (Ok rs)

  pub tested_start : (ps rs : List Places) → rs ≡ [] → TestedSoFar ps 0 rs
  tested_start ps rs z D h = subst (λ (us : List Places). FoundEach sees [] (λ C. C ≡ D) (HoldsOf g d c a) (FailsOf g d D c a) (Ok us)) (sym z) (each_none sees (λ C. C ≡ D) (HoldsOf g d c a) (FailsOf g d D c a))

  one_tested : (b : Bool) (p : Places) (D : VariableSet) → TestGrounds g sees D p c a → TruthOf (Evaluates g.table d) (at_next g.which c p) a (Ok b)
      → Finds sees p (λ C. C ≡ D) (HoldsOf g d c a) (FailsOf g d D c a) (if b then p ∷ [] else [])
  one_tested true p D h t = finds_true g c a i d sees D p h.values (λ C. C ≡ D) h.agrees (λ C e. subst (λ (X : VariableSet). Fills X p) (sym e) h.fills) t
  one_tested false p D h t = finds_false g c a i d sees D p h.values (λ C. C ≡ D) t

  pub tested_step : (ps : List Places) (k : ℕ) (p : Places) (rs new : List Places) (b : Bool) → Apart ps k p → TruthOf (Evaluates g.table d) (at_next g.which c p) a (Ok b)
      → new ≡ rs ++ (if b then p ∷ [] else []) → TestedSoFar ps k rs → TestedSoFar ps (k + 1) new
  tested_step ps k p rs new b e t z s D h =
      let found = each_more sees (take k ps) p (λ C. C ≡ D) (HoldsOf g d c a) (FailsOf g d D c a) rs (if b then p ∷ [] else []) (s D h) (one_tested b p D (h p (within ps k p e)) t) in
      let more = subst (λ (us : List Places). FoundEach sees us (λ C. C ≡ D) (HoldsOf g d c a) (FailsOf g d D c a) (Ok (rs ++ (if b then p ∷ [] else [])))) (sym e.more) found in
      subst (λ (us : List Places). FoundEach sees (take (k + 1) ps) (λ C. C ≡ D) (HoldsOf g d c a) (FailsOf g d D c a) (Ok us)) (sym z) more

  pub tested_stop : (ps : List Places) (k : ℕ) (p : Places) (f : EvalFault) → Apart ps k p → Tells {A = Bool} (Err f) (TruthOf (Evaluates g.table d) (at_next g.which c p) a) → EachTested g d sees ps c a (Err f)
  tested_stop ps k p (Refused kind at) e t D h =
      let m = within ps k p e in
      let w = h p m in
      each_refused sees ps p (λ C. C ≡ D) (HoldsOf g d c a) (FailsOf g d D c a) (Refused kind at) m (meets_test g c a i d sees D p w.values w.agrees (fault kind at) t)
  tested_stop ps k p NoMemory e t D h = tt

  pub tested_done : (ps : List Places) (k : ℕ) (rs : List Places) → length ps ≤ k → TestedSoFar ps k rs → EachTested g d sees ps c a (Ok rs)
  tested_done ps k rs l s D h = subst (λ (us : List Places). FoundEach sees us (λ C. C ≡ D) (HoldsOf g d c a) (FailsOf g d D c a) (Ok rs)) (take_all k ps l) (s D h)
