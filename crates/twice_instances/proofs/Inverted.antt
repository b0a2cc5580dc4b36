-- What is alike to a term of a known kind is of that kind.
use Rattle.std.proofs.Common.{◌≡◌, ◌∙◌, sym, refl, subst, List}
use Rattle.std.specs.Prelude.{ℕ, Some, slice_get}
use Rattle.base_core.specs.declared.place.Place.{Place}
use Rattle.names_terms.specs.declared.level.Level.{Level}
use Rattle.names_terms.specs.declared.operator.Operator.{Operator}
use Rattle.names_terms.specs.Terms.{Term, Placed, Meaning, Use, Terms, NoTerms, place_of, level_of}
use Rattle.twice_terms.specs.Alike.{placed_alike, use_alike, no_terms_alike}
use Rattle.twice_terms.proofs.Zips.{some_same}
use Rattle.twice_instances.specs.Alikeness.{Like, LikeMeanings, LikeOperators, LikeRows, LikeRowsBy, LikeTerms}
use Rattle.twice_instances.proofs.Opened.{rows_open}

module _ (Stands : ℕ → ℕ → Type 0) (ops all : List Operator) where
  pub same_place : (e f : Term) → Like Stands ops all e f → place_of e ≡ place_of f
  same_place _ _ (placed_alike at l m n a) = refl

  pub same_level : (e f : Term) → Like Stands ops all e f → level_of e ≡ level_of f
  same_level _ _ (placed_alike at l m n a) = refl

  pub alike_is : (at : Place) (l : Level) (m : Meaning) (f : Term) → Like Stands ops all (Placed at l m) f → (n : Meaning) × (f ≡ Placed at l n) × LikeMeanings Stands ops all m n
  alike_is _ _ _ _ (placed_alike at l m n a) = (n, refl, a)

  pub use_is : (k : ℕ) (ts : Terms) (n : Meaning) → LikeMeanings Stands ops all (Use k ts) n
      → (j : ℕ) × (us : Terms) × (n ≡ Use j us) × LikeRows Stands ops all k j × LikeTerms Stands ops all ts us
  use_is _ _ _ (use_alike k j ts us r t) = (j, us, refl, r, t)

  pub none_is : (us : Terms) → LikeTerms Stands ops all NoTerms us → us ≡ NoTerms
  none_is _ no_terms_alike = refl

  pub row_is : (k j : ℕ) (o : Operator) → LikeRows Stands ops all k j → slice_get ops k ≡ Some o
      → (p : Operator) × (slice_get all j ≡ Some p) × LikeOperators Stands ops all o p
  row_is k j o r q =
      let w : LikeRowsBy Stands (LikeRows Stands ops all) ops all k j = rows_open Stands ops all k j r in
      (w.right, w.there, subst (λ (y : Operator). LikeOperators Stands ops all y w.right) (some_same (sym w.here ∙ q)) w.same)
