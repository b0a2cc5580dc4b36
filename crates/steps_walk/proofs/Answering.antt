-- What is said of a value or of a fault that is handed on.
use Rattle.std.proofs.Common.{◌≡◌, inl, inr, refl, ap, sym, ◌∙◌, ℕ, zero, suc, min, List, [], ◌∷◌, ◌++◌, length, take, arith, rules}
use Rattle.std.specs.Prelude.{Result, Ok, Err, IfOk, IfErr}
use Rattle.eval_meanings.specs.Answers.{Tells}
use Rattle.eval_meanings.specs.Outcomes.{Each, Outcome, fault}
use Rattle.eval_meanings.specs.declared.fault.EvalFault.{EvalFault}
use Rattle.eval_meanings.specs.declared.fault.EvalFault.TheVariants.{NoMemory, Refused}
use Rattle.eval_parts.specs.Scenes.{Stops}

pub ok_then : {A E : Type 0} (r : Result A E) (P Q : A → Type 0) → ((x : A) → P x → Q x) → IfOk r P → IfOk r Q
ok_then (Ok x) P Q f h = f x h
ok_then (Err e) P Q f h = h

pub err_then : {A E : Type 0} (r : Result A E) (P Q : E → Type 0) → ((e : E) → P e → Q e) → IfErr r P → IfErr r Q
err_then (Ok x) P Q f h = h
err_then (Err e) P Q f h = f e h

-- nothing is left behind
pub all_left : {A : Type 0} (xs rest all : List A) → length rest ≡ 0 → xs ++ rest ≡ all → xs ≡ all
all_left xs [] all z e = sym (to_end xs) ∙ e
  where
    to_end : {A : Type 0} (xs : List A) → xs ++ [] ≡ xs
    to_end xs = search rules
all_left xs (x ∷ rest) all z e = absurd (omega (arith, z))

-- no more than there are
pub take_least : {X : Type 0} (xs : List X) (n m : ℕ) → m ≡ min n (length xs) → take m xs ≡ take n xs
take_least [] zero zero e = refl
take_least [] zero (suc m) e = refl
take_least [] (suc n) zero e = refl
take_least [] (suc n) (suc m) e = refl
take_least (x ∷ xs) zero zero e = refl
take_least (x ∷ xs) zero (suc m) e = absurd (omega (arith, e))
take_least (x ∷ xs) (suc n) zero e = absurd (omega (arith, e))
take_least (x ∷ xs) (suc n) (suc m) e = ap (λ ys. x ∷ ys) (take_least xs n m (omega (arith, e)))

-- no value is kept
pub none_kept : {X : Type 0} (n : ℕ) (xs us : List X) → n ≡ 0 → take n xs ++ us ≡ us
none_kept zero xs us e = refl
none_kept (suc n) xs us e = absurd (omega (arith, e))

-- what one term comes to, a list of it comes to
pub one_each : {A B : Type 0} (P : A → Outcome B) (x : A) (v : B) → P x (Ok v) → Each P (x ∷ []) (Ok (v ∷ []))
one_each P x v h = inl (v, h, inl ([], refl, refl))

pub one_stops : {A B : Type 0} (P : A → Outcome B) (x : A) (f : EvalFault) → Tells {A = B} (Err f) (P x) → Stops (Each P (x ∷ [])) f
one_stops P x (Refused kind at) h = inr (fault kind at, h, refl)
one_stops P x NoMemory h = tt
