-- What holds of each item of a list, or of one, holds of the items of a list that is alike item by item.
use Rattle.std.proofs.Common.{refl, sym, subst, List, [], ◌∷◌, arith, ◌<◌}
use Rattle.std.specs.Prelude.{zero, suc, All, Any, flat_map}
use Rattle.std.specs.List.{AllZip}
use Rattle.twice_terms.proofs.Zips.{zip_append}

module _ {A : Type 0} (P : A → Type 0) where
  pub all_head : (x : A) (xs : List A) → All P (x ∷ xs) → P x
  all_head x xs h = h zero x (omega arith)

  pub all_tail : (x : A) (xs : List A) → All P (x ∷ xs) → All P xs
  all_tail x xs h k d lt = h (suc k) d (omega (arith, lt))

  pub all_none : All P []
  all_none k d lt = absurd (omega (arith, lt))

  pub all_more : (x : A) (xs : List A) → P x → All P xs → All P (x ∷ xs)
  all_more x xs p h zero d lt = p
  all_more x xs p h (suc k) d lt = h k d (omega (arith, lt))

  pub any_none : Any P [] → ⊥
  any_none h = let lt : h.0 < 0 = h.2 in absurd (omega arith)

  pub any_here : (x : A) (xs : List A) → P x → Any P (x ∷ xs)
  any_here x xs p = (zero, x, (omega arith), refl, p)

  pub any_there : (x : A) (xs : List A) → Any P xs → Any P (x ∷ xs)
  any_there x xs (k, y, lt, e, p) = (suc k, y, (omega (arith, lt)), e, p)

  pub any_more : (x : A) (xs : List A) (T : Type 0) → (P x → T) → (Any P xs → T) → Any P (x ∷ xs) → T
  any_more x xs T here there (zero, y, lt, e, p) = here (subst P (sym e) p)
  any_more x xs T here there (suc k, y, lt, e, p) = there (k, y, (omega (arith, lt)), e, p)

module _ {A B : Type 0} (R : A → B → Type 0) (P : A → Type 0) (Q : B → Type 0) (step : (x : A) (y : B) → R x y → P x → Q y) where
  pub all_zipped : (xs : List A) (ys : List B) → AllZip R xs ys → All P xs → All Q ys
  all_zipped [] [] z h = all_none Q
  all_zipped [] (y ∷ ys) z h = absurd z
  all_zipped (x ∷ xs) [] z h = absurd z
  all_zipped (x ∷ xs) (y ∷ ys) z h = all_more Q y ys (step x y z.0 (all_head P x xs h)) (all_zipped xs ys z.1 (all_tail P x xs h))

  pub any_zipped : (xs : List A) (ys : List B) → AllZip R xs ys → Any P xs → Any Q ys
  any_zipped [] [] z h = absurd (any_none P h)
  any_zipped [] (y ∷ ys) z h = absurd z
  any_zipped (x ∷ xs) [] z h = absurd z
  any_zipped (x ∷ xs) (y ∷ ys) z h =
      any_more P x xs (Any Q (y ∷ ys)) (λ p. any_here Q y ys (step x y z.0 p)) (λ more. any_there Q y ys (any_zipped xs ys z.1 more)) h

module _ {A B C D : Type 0} (R : A → B → Type 0) (S : C → D → Type 0) where
  pub flat_zipped : (f : A → List C) (g : B → List D) → ((x : A) (y : B) → R x y → AllZip S (f x) (g y)) → (xs : List A) (ys : List B) → AllZip R xs ys → AllZip S (flat_map f xs) (flat_map g ys)
  flat_zipped f g s [] [] z = tt
  flat_zipped f g s [] (y ∷ ys) z = absurd z
  flat_zipped f g s (x ∷ xs) [] z = absurd z
  flat_zipped f g s (x ∷ xs) (y ∷ ys) z = zip_append S (f x) (g y) (flat_map f xs) (flat_map g ys) (s x y z.0) (flat_zipped f g s xs ys z.1)
