-- Outcomes that are kept: of the ways in which outcomes of parts make that of the whole.
use Rattle.std.proofs.Common.{inl, inr, List, [], ◌∷◌}
use Rattle.std.specs.Prelude.{Bool, true, false, Result, Ok, Err}
use Rattle.states_core.specs.declared.fault.Fault.{Fault}
use Rattle.eval_meanings.specs.Outcomes.{Outcome, Gives, Then, Either, Each, AllTrue, SomeTrue, IsTruth}

-- each outcome of the one is one of the other
abbrev pub Keeps : {A : Type 0} → Outcome A → Outcome A → Type 0
Keeps {A = A} P Q = (r : Result A Fault) → P r → Q r

pub keeps_itself : {A : Type 0} (P : Outcome A) → Keeps P P
keeps_itself P r h = h

pub keeps_then : {A B : Type 0} (P Q : Outcome A) (K L : A → Outcome B) → Keeps P Q → ((v : A) → Keeps (K v) (L v)) → Keeps (Then P K) (Then Q L)
keeps_then P Q K L p k r (inl (v, h, i)) = inl (v, p (Ok v) h, k v r i)
keeps_then P Q K L p k r (inr (f, h, i)) = inr (f, p (Err f) h, i)

-- where what comes of the value is the same
pub keeps_first : {A B : Type 0} (P Q : Outcome A) (K : A → Outcome B) → Keeps P Q → Keeps (Then P K) (Then Q K)
keeps_first P Q K p = keeps_then P Q K K p (λ v. keeps_itself (K v))

pub keeps_either : {A : Type 0} (b : Bool) (P Q S T : Outcome A) → Keeps P S → Keeps Q T → Keeps (Either b P Q) (Either b S T)
keeps_either true P Q S T p q = p
keeps_either false P Q S T p q = q

pub keeps_each : {A B : Type 0} (P Q : A → Outcome B) → ((x : A) → Keeps (P x) (Q x)) → (xs : List A) → Keeps (Each P xs) (Each Q xs)
keeps_each P Q p [] = keeps_itself (Gives [])
keeps_each P Q p (x ∷ xs) = keeps_then (P x) (Q x) _ _ (p x) (λ y. keeps_first (Each P xs) (Each Q xs) _ (keeps_each P Q p xs))

pub keeps_all_true : {A : Type 0} (P Q : A → Outcome Bool) → ((x : A) → Keeps (P x) (Q x)) → (xs : List A) → Keeps (AllTrue P xs) (AllTrue Q xs)
keeps_all_true P Q p [] = keeps_itself (Gives true)
keeps_all_true P Q p (x ∷ xs) =
    keeps_then (P x) (Q x) _ _ (p x) (λ b. keeps_either b (AllTrue P xs) (Gives false) (AllTrue Q xs) (Gives false) (keeps_all_true P Q p xs) (keeps_itself (Gives false)))

pub keeps_some_true : {A : Type 0} (P Q : A → Outcome Bool) → ((x : A) → Keeps (P x) (Q x)) → (xs : List A) → Keeps (SomeTrue P xs) (SomeTrue Q xs)
keeps_some_true P Q p [] = keeps_itself (Gives false)
keeps_some_true P Q p (x ∷ xs) =
    keeps_then (P x) (Q x) _ _ (p x) (λ b. keeps_either b (Gives true) (SomeTrue P xs) (Gives true) (SomeTrue Q xs) (keeps_itself (Gives true)) (keeps_some_true P Q p xs))

pub keeps_truth : (P Q : Outcome Bool) → Keeps P Q → Keeps (IsTruth P) (IsTruth Q)
keeps_truth P Q p = keeps_first P Q _ p
