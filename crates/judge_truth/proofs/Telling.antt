-- What is told of two whole states.
use Rattle.std.proofs.Common.{◌≡◌, sym, ap, ◌∙◌, subst, ℕ, length, map}
use Rattle.std.specs.Prelude.{Bool, Some, Result, Ok, Err, IfOk, slice_get}
use Rattle.std.proofs.lemmas.List.{length-map}
use Rattle.values_core.specs.IsValue.{IsValue}
use Rattle.states_core.specs.declared.fault.Fault.{Fault}
use Rattle.names_terms.specs.Terms.{Term}
use Rattle.eval_meanings.specs.declared.fault.EvalFault.{EvalFault}
use Rattle.eval_meanings.specs.declared.fault.EvalFault.TheVariants.{Refused, NoMemory}
use Rattle.eval_meanings.specs.Contexts.{Context, Places}
use Rattle.actions_meanings.specs.Forms.{Setting}
use Rattle.actions_meanings.specs.Holds.{Holds}
use Rattle.actions_meanings.specs.Fails.{Fails}
use Rattle.actions_meanings.specs.Filled.{Completes, at_next}
use Rattle.steps_found_states.proofs.Lists.{all_by_place, all_from}
use Rattle.judge_truth.specs.Truths.{AreStates, IsTold, IsWhole, everything}
use Rattle.judge_truth.specs.Deciding.{Answered, Grounded, IsDecided, IsToldFault}
use Rattle.judge_truth.specs.declared.told.Told.{Told}
use Rattle.judge_truth.proofs.Taken.{settled}

completed : (p : Places) (w : IsWhole p) → Completes p w.0
completed p w = record {
  long = sym (length-map w.0 Some) ∙ ap length (sym w.1);
  has = λ x v e. subst (λ (q : Places). slice_get q x ≡ Some (Some v)) w.1 e;
  values = all_by_place IsValue w.0 (all_from IsValue w.0 w.2);
}

-- what is answered of the state that completes the next places is answered of the two states
pub answered_here : (g : Setting) (d : ℕ) (x : Context) (a : Term) (r : Result Bool EvalFault) → AreStates g.which x.now x.next → IsWhole x.next → Grounded g d x.next x a → IsDecided g d x.next x a r
    → Answered (Holds g d x a) (λ f. Fails g d everything x a f) r
answered_here g d x a r s w gr h =
    let here : at_next g.which x (map Some w.0) ≡ x = ap (λ (q : Places). at_next g.which x q) (sym w.1) ∙ settled g.which x s in
    subst (λ (y : Context). Answered (Holds g d y a) (λ (f : Fault). Fails g d everything y a f) r) here (h w.0 (completed x.next w) gr)

told_refused : (g : Setting) (d : ℕ) (x : Context) (a : Term) (e : EvalFault) (r : Told) → Answered (Holds g d x a) (λ f. Fails g d everything x a f) (Err e) → IsToldFault e r → IsTold g d x a r
told_refused g d x a (Refused kind at) r h q = subst (λ (u : Told). IsTold g d x a u) (sym q) h
told_refused g d x a NoMemory r h q = absurd q

pub fault_told : {E : Type 0} (g : Setting) (d : ℕ) (x : Context) (a : Term) (e : EvalFault) (r : Result Told E) → Answered (Holds g d x a) (λ f. Fails g d everything x a f) (Err e) → IfOk r (IsToldFault e) → IfOk r (IsTold g d x a)
fault_told g d x a e (Ok u) h q = told_refused g d x a e u h q
fault_told g d x a e (Err y) h q = q
