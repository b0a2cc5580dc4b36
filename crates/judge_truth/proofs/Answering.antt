-- What is answered of a fact and its faults.
use Rattle.std.proofs.Common.{◌≡◌, ◌↔◌, refl}
use Rattle.std.specs.Prelude.{Bool, true, false, IsTrue, Result, Ok, Err}
use Rattle.states_core.specs.declared.fault.Fault.{Fault}
use Rattle.eval_meanings.specs.declared.fault.EvalFault.{EvalFault}
use Rattle.eval_meanings.specs.declared.fault.EvalFault.TheVariants.{Refused, NoMemory}
use Rattle.eval_meanings.specs.Answers.{Tells}
use Rattle.eval_meanings.specs.Outcomes.{Outcome, fault}
use Rattle.eval_meanings.proofs.AtMostOne.{One}
use Rattle.judge_truth.specs.Deciding.{Answered}

-- of another fact with its faults, which say the same
pub answered_so : (H K : Type 0) (F G : Fault → Type 0) → (H → K) → (K → H) → ((f : Fault) → F f → G f) → ((f : Fault) → G f → F f) → (r : Result Bool EvalFault) → Answered H F r → Answered K G r
answered_so H K F G to back there here (Ok true) h = (to h.0, λ f m. h.1 f (here f m))
answered_so H K F G to back there here (Ok false) h = (λ k. h.0 (back k), λ f m. h.1 f (here f m))
answered_so H K F G to back there here (Err (Refused kind at)) h = there (fault kind at) h
answered_so H K F G to back there here (Err NoMemory) h = tt

not_both : ◌≡◌ {A = Result Bool Fault} (Ok true) (Ok false) → ⊥
not_both e = cc

no_fault : {A : Type 0} (v : A) (f : Fault) → ◌≡◌ {A = Result A Fault} (Ok v) (Err f) → ⊥
no_fault v f e = cc

-- a call that tells the one outcome that there is
pub told_one : (P : Outcome Bool) → One P → (r : Result Bool EvalFault) → Tells r P → Answered (P (Ok true)) (λ f. P (Err f)) r
told_one P one (Ok true) h = (h, λ f m. no_fault true f (one (Ok true) (Err f) h m))
told_one P one (Ok false) h = (λ m. not_both (one (Ok true) (Ok false) m h), λ f m. no_fault false f (one (Ok false) (Err f) h m))
told_one P one (Err (Refused kind at)) h = h
told_one P one (Err NoMemory) h = tt

-- a test by the code, where there is no fault
pub answered_if : (H : Type 0) (F : Fault → Type 0) (b : Bool) → (IsTrue b ↔ H) → ((f : Fault) → ¬ F f) → Answered H F (Ok b)
answered_if H F true i n = (i.0 refl, n)
answered_if H F false i n = (λ m. false_true (i.1 m), n)
  where
    false_true : false ≡ true → ⊥
    false_true e = cc

-- a fault of what is evaluated first
pub answered_fault : {A : Type 0} (P : Outcome A) (H : Type 0) (F : Fault → Type 0) → ((f : Fault) → P (Err f) → F f) → (x : EvalFault) → Tells {A = A} (Err x) P → Answered H F (Err x)
answered_fault P H F to (Refused kind at) h = to (fault kind at) h
answered_fault P H F to NoMemory h = tt
