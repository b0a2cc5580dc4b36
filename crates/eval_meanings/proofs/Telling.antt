-- What a call tells whose parts have told their outcomes.
use Rattle.std.proofs.Common.{◌≡◌, inl, inr, refl, ap, sym, subst}
use Rattle.std.specs.Prelude.{Result, Ok, Err}
use Rattle.std.specs.Result.{IsErr, IsErrAnd}
use Rattle.base_core.specs.declared.place.Place.{Place}
use Rattle.values_core.specs.Data.{Val}
use Rattle.values_core.specs.declared.fault.OpFault.{OpFault}
use Rattle.values_sets.specs.DescribedSets.{Described, Nat, Int, Strings, Booleans, SeqOf, PowerOf, Interval, Functions, Records, Product, Union, Inter, Minus, Listed}
use Rattle.values_sets.specs.Listings.{Lists}
use Rattle.eval_meanings.specs.declared.fault.EvalFault.{EvalFault}
use Rattle.eval_meanings.specs.declared.fault.EvalFault.TheVariants.{Refused, NoMemory}
use Rattle.eval_meanings.specs.Answers.{Tells, IsUnlisted, placed}
use Rattle.eval_meanings.specs.Outcomes.{Outcome, Then, Operated, fault}
use Rattle.eval_meanings.specs.Sets.{list_at}
use Rattle.eval_meanings.proofs.Placing.{tells_placed}

-- behind a part that has a value, what follows tells
pub tells_then : {A B : Type 0} (P : Outcome A) (K : A → Outcome B) (v : A) (r : Result B EvalFault) → P (Ok v) → Tells r (K v) → Tells r (Then P K)
tells_then P K v (Ok w) h t = inl (v, h, t)
tells_then P K v (Err (Refused kind at)) h t = inl (v, h, t)
tells_then P K v (Err NoMemory) h t = tt

-- a part that faults ends the whole
pub tells_stop : {A B : Type 0} (P : Outcome A) (K : A → Outcome B) (f : EvalFault) → Tells {A = A} (Err f) P → Tells {A = B} (Err f) (Then P K)
tells_stop P K (Refused kind at) t = inr (fault kind at, t, refl)
tells_stop P K NoMemory t = tt

-- a fault that is handed on
pub tells_passed : {B : Type 0} (P : Outcome B) (r : Result B EvalFault) (f : EvalFault) → IsErr r → IsErrAnd r (λ e. e ≡ f) → Tells {A = B} (Err f) P → Tells r P
tells_passed P (Ok v) f h e t = cc
tells_passed {B = B} P (Err g) f h e t = let Q : EvalFault → Type 0 = λ x. Tells {A = B} (Err x) P in subst Q (sym e) t

-- an operation whose fault stands at one place
pub refused_at : {A : Type 0} (Q : Result A OpFault → Type 0) (at : Place) (e : OpFault) (f : EvalFault) → f ≡ placed (λ n. at) e → Q (Err e) → Tells {A = A} (Err f) (Operated Q (λ n. at))
refused_at {A = A} Q at e f p h = tells_placed Q (λ n. at) (Err e) (Err f) (ap (λ (g : EvalFault). Err g) p) h

-- a set that is no listed value is listed
pub unlisted : (d : Described) (at : Place) (r : Result Val EvalFault) → IsUnlisted d → Tells r (Operated (Lists d) (λ n. at)) → Tells r (list_at at d)
unlisted Nat at r u h = h
unlisted Int at r u h = h
unlisted Strings at r u h = h
unlisted Booleans at r u h = h
unlisted (SeqOf d) at r u h = h
unlisted (PowerOf d) at r u h = h
unlisted (Interval y z) at r u h = h
unlisted (Functions a d) at r u h = h
unlisted (Records fs) at r u h = h
unlisted (Product ps) at r u h = h
unlisted (Union c d) at r u h = h
unlisted (Inter c d) at r u h = h
unlisted (Minus c d) at r u h = h
unlisted (Listed v) at r u h = absurd u
