-- The answer of an operation, placed: what is said of the answer is said of the outcome.
use Rattle.std.proofs.Common.{◌≡◌, refl, ap, sym, ◌∙◌, subst, arith, List, [], ◌∷◌, length}
use Rattle.std.specs.Prelude.{ℕ, zero, suc, Bool, true, false, not, ◌↔◌, IsTrue, Option, Some, None, Result, Ok, Err, slice_get}
use Rattle.std.specs.Prelude.{option_copied}
use Rattle.std.specs.List.{ItemBy}
use Rattle.std.proofs.lemmas.Option.{slice_get_past, slice_get_read}
use denote.Ref.{Bor}
use Rattle.base_core.specs.declared.place.Place.{Place}
use Rattle.values_core.specs.Data.{Val, truth}
use Rattle.values_core.specs.Order.{val_eq}
use Rattle.values_core.specs.OrderLaws.{val_same, val_eq_equiv}
use Rattle.values_core.specs.declared.fault.OpFault.{OpFault}
use Rattle.values_core.specs.declared.fault.OpFault.TheVariants as operation
use Rattle.eval_meanings.specs.declared.fault.EvalFault.{EvalFault}
use Rattle.eval_meanings.specs.Answers.{Tells, placed_answer}
use Rattle.eval_meanings.specs.Operations.{IsWhether, StandardAnswers}
use Rattle.names_terms.specs.declared.standard.StandardOperator.{StandardOperator}
use Rattle.eval_meanings.specs.Outcomes.{Operated, place_in}

tells_answer : {A : Type 0} (Q : Result A OpFault → Type 0) (p : ℕ → Place) (r : Result A OpFault) → Q r → Tells (placed_answer p r) (Operated Q p)
tells_answer Q p (Ok v) h = h
tells_answer Q p (Err (operation.Refused kind n)) h = (n, h, refl)
tells_answer Q p (Err operation.NoMemory) h = tt

pub tells_placed : {A : Type 0} (Q : Result A OpFault → Type 0) (p : ℕ → Place) (r : Result A OpFault) (t : Result A EvalFault) → t ≡ placed_answer p r → Q r → Tells t (Operated Q p)
tells_placed {A = A} Q p r t e h = let P : Result A EvalFault → Type 0 = λ u. Tells u (Operated Q p) in subst P (sym e) (tells_answer Q p r h)

-- the place of an operand is that of its index
pub place_in-get : (at : Place) (ps : List Place) (n : ℕ) (p : Place) → slice_get ps n ≡ Some p → p ≡ place_in at ps n
place_in-get at [] n p e = cc
place_in-get at (q ∷ ps) zero p e = let f : Some q ≡ Some p = e in cc
place_in-get at (q ∷ ps) (suc n) p e = place_in-get at ps n p e

pub place_in-past : (at : Place) (ps : List Place) (n : ℕ) → slice_get ps n ≡ None → at ≡ place_in at ps n
place_in-past at [] n e = refl
place_in-past at (q ∷ ps) zero e = cc
place_in-past at (q ∷ ps) (suc n) e = place_in-past at ps n e

-- equal values by their test
pub are_equal : (a b : Val) (t : Bool) → t ≡ val_eq a b → (IsTrue t ↔ (a ≡ b))
are_equal a b t e = (λ h. val_same a b (sym e ∙ h), λ q. e ∙ subst (λ (c : Val). IsTrue (val_eq a c)) q (val_eq_equiv.refl a))

pub are_unequal : (a b : Val) (t : Bool) → t ≡ val_eq a b → (IsTrue (not t) ↔ ¬ (a ≡ b))
are_unequal a b true e = (λ h q. let f : IsTrue false = h in cc, λ n. absurd (n (val_same a b (sym e))))
are_unequal a b false e = (λ h q. let f : false ≡ true = (are_equal a b false e).1 q in cc, λ n. refl)

pub is_whether : (P : Type 0) (b : Bool) (v : Val) → v ≡ truth b → (IsTrue b ↔ P) → IsWhether P (Ok v)
is_whether P b v e h = (b, h, ap Ok e)

-- what a slice gives at an index
pub item_of : {X : Type 0} (xs : List X) (i : ℕ) (r : Option (Bor X)) → ItemBy (λ (x : Bor X). x.now) xs i i r → option_copied r ≡ slice_get xs i
item_of xs i None l = sym (slice_get_past xs i l.3)
item_of xs i (Some x) l = sym (slice_get_read xs (length xs) i x.now refl l.3.0 l.1)

-- a list of known length by its items
some_is : {X : Type 0} (x y : X) → Some x ≡ Some y → x ≡ y
some_is x y e = cc

pub answers_one : (o : StandardOperator) (xs : List Val) (v : Val) (r : Result Val OpFault) → length xs ≡ 1 → slice_get xs 0 ≡ Some v → StandardAnswers o (v ∷ []) r → StandardAnswers o xs r
answers_one o [] v r n e h = absurd (omega (arith, n))
answers_one o (x ∷ []) v r n e h = let P : Val → Type 0 = λ u. StandardAnswers o (u ∷ []) r in subst P (sym (some_is x v e)) h
answers_one o (x ∷ y ∷ ys) v r n e h = absurd (omega (arith, n))

pub answers_two : (o : StandardOperator) (xs : List Val) (v w : Val) (r : Result Val OpFault) → length xs ≡ 2 → slice_get xs 0 ≡ Some v → slice_get xs 1 ≡ Some w → StandardAnswers o (v ∷ w ∷ []) r → StandardAnswers o xs r
answers_two o [] v w r n e f h = absurd (omega (arith, n))
answers_two o (x ∷ []) v w r n e f h = absurd (omega (arith, n))
answers_two o (x ∷ y ∷ []) v w r n e f h =
    let P : Val → Type 0 = λ u. StandardAnswers o (u ∷ w ∷ []) r in
    let Q : Val → Type 0 = λ u. StandardAnswers o (x ∷ u ∷ []) r in
    subst Q (sym (some_is y w f)) (subst P (sym (some_is x v e)) h)
answers_two o (x ∷ y ∷ z ∷ zs) v w r n e f h = absurd (omega (arith, n))

pub answers_three : (o : StandardOperator) (xs : List Val) (u v w : Val) (r : Result Val OpFault) → length xs ≡ 3 → slice_get xs 0 ≡ Some u → slice_get xs 1 ≡ Some v → slice_get xs 2 ≡ Some w → StandardAnswers o (u ∷ v ∷ w ∷ []) r → StandardAnswers o xs r
answers_three o [] u v w r n d e f h = absurd (omega (arith, n))
answers_three o (x ∷ []) u v w r n d e f h = absurd (omega (arith, n))
answers_three o (x ∷ y ∷ []) u v w r n d e f h = absurd (omega (arith, n))
answers_three o (x ∷ y ∷ z ∷ []) u v w r n d e f h =
    let P : Val → Type 0 = λ a. StandardAnswers o (a ∷ v ∷ w ∷ []) r in
    let Q : Val → Type 0 = λ a. StandardAnswers o (x ∷ a ∷ w ∷ []) r in
    let S : Val → Type 0 = λ a. StandardAnswers o (x ∷ y ∷ a ∷ []) r in
    subst S (sym (some_is z w f)) (subst Q (sym (some_is y v e)) (subst P (sym (some_is x u d)) h))
answers_three o (x ∷ y ∷ z ∷ a ∷ more) u v w r n d e f h = absurd (omega (arith, n))
