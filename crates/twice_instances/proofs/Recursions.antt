-- Alike terms name functions that use themselves, made of alike parts, or both name none.
use Rattle.std.proofs.Common.{◌≡◌, refl, subst, sym, List, [], ◌∷◌}
use Rattle.std.specs.Prelude.{ℕ, zero, suc, replicate, Option, Some, None, slice_get}
use Rattle.std.specs.List.{AllZip}
use Rattle.base_core.specs.declared.place.Place.{Place}
use Rattle.values_core.specs.Data.{Val}
use Rattle.names_terms.specs.declared.level.Level.{Level}
use Rattle.names_terms.specs.declared.operator.Operator.{Operator}
use Rattle.names_terms.specs.declared.operator.Own.{Own}
use Rattle.names_terms.specs.declared.operator.Own.TheVariants as owns
use Rattle.names_terms.specs.Lists.{bounds_list}
use Rattle.names_terms.specs.Terms.{Term, Meaning, Placed, Bounds, Step, Steps}
use Rattle.twice_terms.specs.Alike.{placed_alike, function_alike, use_alike, no_terms_alike, more_terms_alike, prime_alike, index_alike, field_alike, no_steps_alike, more_steps_alike}
use Rattle.eval_meanings.specs.Contexts.{Table}
use Rattle.eval_meanings.specs.Recursion.{Recursion, applied_by, marked_so, names_at, recursion_at, recursion_of, sets_of_names}
use Rattle.twice_terms.proofs.Zips.{zip_append}
use Rattle.twice_instances.specs.Alikeness.{Like, LikeBounds, LikeMeanings, LikeOperators, LikeRows, LikeRowsBy, LikeStep, LikeSteps}
use Rattle.twice_instances.proofs.Lists.{LikeBeside, LikeLists, bounds_zip}
use Rattle.twice_instances.proofs.Opened.{rows_open}

pub data LikeRecursions (Stands : ℕ → ℕ → Type 0) (ops all : Table) : Option Recursion → Option Recursion → Type 0 where
  no_recursion : LikeRecursions Stands ops all None None
  both_recursions : (n : ℕ) (bs ds : Bounds) (e f : Term) → LikeBounds Stands ops all bs ds → Like Stands ops all e f
      → LikeRecursions Stands ops all (Some (record { around = n; bounds = bs; value = e })) (Some (record { around = n; bounds = ds; value = f }))

module _ (Stands : ℕ → ℕ → Type 0) (ops all : Table) where
  marked_meaning : (n : ℕ) (at : Place) (l : Level) (m k : Meaning) → LikeMeanings Stands ops all m k → LikeRecursions Stands ops all (marked_so owns.Function n (Placed at l m)) (marked_so owns.Function n (Placed at l k))
  marked_meaning n at l _ _ (function_alike bs ds e f t a) = both_recursions n bs ds e f t a
  marked_meaning n at l m k a = no_recursion

  marked_alike : (own : Own) (n : ℕ) (e f : Term) → Like Stands ops all e f → LikeRecursions Stands ops all (marked_so own n e) (marked_so own n f)
  marked_alike owns.Apart n e f a = no_recursion
  marked_alike owns.Itself n e f a = no_recursion
  marked_alike owns.Function n _ _ (placed_alike at l m k a) = marked_meaning n at l m k a

  operators_alike : (o p : Operator) → LikeOperators Stands ops all o p → LikeRecursions Stands ops all (recursion_at (Some o)) (recursion_at (Some p))
  operators_alike o p a =
      subst (λ (own : Own). LikeRecursions Stands ops all (recursion_at (Some o)) (marked_so own p.outer p.body)) a.own
      (subst (λ (n : ℕ). LikeRecursions Stands ops all (recursion_at (Some o)) (marked_so o.own n p.body)) a.outer (marked_alike o.own o.outer o.body p.body a.body))

  rows_alike : (k j : ℕ) → LikeRows Stands ops all k j → LikeRecursions Stands ops all (recursion_at (slice_get ops k)) (recursion_at (slice_get all j))
  rows_alike k j r =
      let h : LikeRowsBy Stands (LikeRows Stands ops all) ops all k j = rows_open Stands ops all k j r in
      subst (λ (x : Option Operator). LikeRecursions Stands ops all (recursion_at x) (recursion_at (slice_get all j))) (sym h.here)
      (subst (λ (y : Option Operator). LikeRecursions Stands ops all (recursion_at (Some h.left)) (recursion_at y)) (sym h.there) (operators_alike h.left h.right h.same))

  named_meaning : (at : Place) (l : Level) (m n : Meaning) → LikeMeanings Stands ops all m n → LikeRecursions Stands ops all (recursion_of ops (Placed at l m)) (recursion_of all (Placed at l n))
  named_meaning at l _ _ (use_alike k j _ _ r no_terms_alike) = rows_alike k j r
  named_meaning at l _ _ (use_alike k j _ _ r (more_terms_alike ts us e f t a)) = no_recursion
  named_meaning at l m n a = no_recursion

  named_alike_recursions : (e f : Term) → Like Stands ops all e f → LikeRecursions Stands ops all (recursion_of ops e) (recursion_of all f)
  named_alike_recursions _ _ (placed_alike at l m n a) = named_meaning at l m n a

  pub applied_alike : (e f : Term) → Like Stands ops all e f → (ss rs : Steps) → LikeSteps Stands ops all ss rs → (s r : Step) → LikeStep Stands ops all s r
      → LikeRecursions Stands ops all (applied_by ops e ss s) (applied_by all f rs r)
  applied_alike e f a _ _ no_steps_alike _ _ (index_alike ts us u) = named_alike_recursions e f a
  applied_alike e f a _ _ no_steps_alike _ _ prime_alike = no_recursion
  applied_alike e f a _ _ no_steps_alike _ _ (field_alike h) = no_recursion
  applied_alike e f a _ _ (more_steps_alike ss rs at x y t u) s r v = no_recursion

  -- the set of each name

  replicated : (n m : ℕ) (e f : Term) → n ≡ m → Like Stands ops all e f → LikeLists Stands ops all (replicate n e) (replicate m f)
  replicated n m e f q a = subst (λ (i : ℕ). LikeLists Stands ops all (replicate n e) (replicate i f)) q (times n)
    where
      times : (n : ℕ) → LikeLists Stands ops all (replicate n e) (replicate n f)
      times zero = tt
      times (suc n) = (a, times n)

  sets_zip : (xs ys : List (ℕ × Term)) → AllZip (LikeBeside Stands ops all) xs ys → LikeLists Stands ops all (sets_of_names xs) (sets_of_names ys)
  sets_zip [] [] z = tt
  sets_zip [] (y ∷ ys) z = absurd z
  sets_zip (x ∷ xs) [] z = absurd z
  sets_zip (x ∷ xs) (y ∷ ys) z =
      zip_append (Like Stands ops all) (replicate x.0 x.1) (replicate y.0 y.1) (sets_of_names xs) (sets_of_names ys) (replicated x.0 y.0 x.1 y.1 z.0.0 z.0.1) (sets_zip xs ys z.1)

  pub sets_alike : (bs ds : Bounds) → LikeBounds Stands ops all bs ds → LikeLists Stands ops all (sets_of_names (bounds_list bs)) (sets_of_names (bounds_list ds))
  sets_alike bs ds t = sets_zip (bounds_list bs) (bounds_list ds) (bounds_zip Stands ops all bs ds t)

  pub names_same : (es fs : List Term) → LikeLists Stands ops all es fs → (key : Val) → names_at es key ≡ names_at fs key
  names_same [] [] z key = refl
  names_same [] (f ∷ fs) z key = absurd z
  names_same (e ∷ es) [] z key = absurd z
  names_same (e ∷ []) (f ∷ []) z key = refl
  names_same (e ∷ []) (f ∷ g ∷ fs) z key = absurd z.1
  names_same (e ∷ x ∷ es) (f ∷ []) z key = absurd z.1
  names_same (e ∷ x ∷ es) (f ∷ g ∷ fs) z key = refl
