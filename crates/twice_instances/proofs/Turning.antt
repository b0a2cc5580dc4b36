-- Terms that are alike are so turned, where variables stand for each other turned.
use Rattle.std.proofs.Common.{sym, List}
use Rattle.std.specs.Prelude.{ℕ, zero, suc}
use Rattle.names_terms.specs.declared.operator.Operator.{Operator}
use Rattle.names_terms.specs.Terms.{Term}
use Rattle.twice_terms.specs.Alike.{AlikeBy}
use Rattle.twice_terms.specs.Laws.{AreOne}
use Rattle.twice_terms.proofs.Turned.{by_term}
use Rattle.twice_instances.specs.Alikeness.{Like, LikeRows, LikeUpTo}

abbrev pub turned : (ℕ → ℕ → Type 0) → ℕ → ℕ → Type 0
turned Stands x y = Stands y x

module _ (Stands : ℕ → ℕ → Type 0) where
  turn_up_to : (ops all : List Operator) (n k j : ℕ) → LikeUpTo Stands ops all n k j → LikeUpTo (turned Stands) all ops n j k
  turn_up_to ops all zero k j h = record {
    left = h.right;
    right = h.left;
    here = h.there;
    there = h.here;
    outer = sym h.outer;
    params = sym h.params;
    level = sym h.level;
    own = sym h.own;
  }
  turn_up_to ops all (suc n) k j h =
      let body : AlikeBy AreOne (turned Stands) (LikeUpTo (turned Stands) all ops n) h.right.body h.left.body =
      by_term AreOne AreOne Stands (turned Stands) (LikeUpTo Stands ops all n) (LikeUpTo (turned Stands) all ops n) (λ v w q. sym q) (λ x y s. s) (turn_up_to ops all n) h.left.body h.right.body h.same.body in
      record {
        left = h.right;
        right = h.left;
        here = h.there;
        there = h.here;
        same = record { outer = sym h.same.outer; params = sym h.same.params; level = sym h.same.level; own = sym h.same.own; body = body };
      }

  pub turned_row : (ops all : List Operator) (k j : ℕ) → LikeRows Stands ops all k j → LikeRows (turned Stands) all ops j k
  turned_row ops all k j h n = turn_up_to ops all n k j (h n)

  pub turned_term : (ops all : List Operator) (e f : Term) → Like Stands ops all e f → Like (turned Stands) all ops f e
  turned_term ops all =
      by_term AreOne AreOne Stands (turned Stands) (LikeRows Stands ops all) (LikeRows (turned Stands) all ops) (λ v w q. sym q) (λ x y s. s) (turned_row ops all)
