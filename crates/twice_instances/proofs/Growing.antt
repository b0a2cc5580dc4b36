-- Definitions that are alike through one use more are alike.
use Rattle.std.proofs.Common.{List}
use Rattle.std.specs.Prelude.{ℕ, zero, suc}
use Rattle.names_terms.specs.declared.operator.Operator.{Operator}
use Rattle.twice_terms.specs.Alike.{AlikeBy}
use Rattle.twice_terms.specs.Laws.{AreOne}
use Rattle.twice_terms.proofs.Growing.{grow_term}
use Rattle.twice_instances.specs.Alikeness.{LikeRowsBy, LikeHeads, LikeUpTo}

module _ (Stands : ℕ → ℕ → Type 0) (ops all : List Operator) where
  pub grow_rows : (R S : ℕ → ℕ → Type 0) → ((k j : ℕ) → R k j → S k j) → (k j : ℕ) → LikeRowsBy Stands R ops all k j → LikeRowsBy Stands S ops all k j
  grow_rows R S grow k j r =
      let body : AlikeBy AreOne Stands S r.left.body r.right.body = grow_term AreOne Stands R S grow r.left.body r.right.body r.same.body in
      record {
        left = r.left;
        right = r.right;
        here = r.here;
        there = r.there;
        same = record { outer = r.same.outer; params = r.same.params; level = r.same.level; own = r.same.own; body = body };
      }

  pub heads_of : (R : ℕ → ℕ → Type 0) (k j : ℕ) → LikeRowsBy Stands R ops all k j → LikeHeads ops all k j
  heads_of R k j r = record {
    left = r.left;
    right = r.right;
    here = r.here;
    there = r.there;
    outer = r.same.outer;
    params = r.same.params;
    level = r.same.level;
    own = r.same.own;
  }

  pub fewer : (n k j : ℕ) → LikeUpTo Stands ops all (suc n) k j → LikeUpTo Stands ops all n k j
  fewer zero k j h = heads_of (LikeUpTo Stands ops all zero) k j h
  fewer (suc n) k j h = grow_rows (LikeUpTo Stands ops all (suc n)) (LikeUpTo Stands ops all n) (fewer n) k j h

  -- however many uses are seen, the heads are
  pub heads_up_to : (n k j : ℕ) → LikeUpTo Stands ops all n k j → LikeHeads ops all k j
  heads_up_to zero k j h = h
  heads_up_to (suc n) k j h = heads_of (LikeUpTo Stands ops all n) k j h
