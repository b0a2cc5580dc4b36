-- Definitions are alike just where their heads are the same and their bodies are alike.
use Rattle.std.proofs.Common.{◌≡◌, ◌∙◌, sym, subst, List}
use Rattle.std.specs.Prelude.{ℕ, zero, suc, Some, slice_get}
use Rattle.values_core.specs.Data.{Val}
use Rattle.names_terms.specs.declared.operator.Operator.{Operator}
use Rattle.twice_terms.specs.Alike.{AlikeBy, RowsBy, AlikeUpTo, AlikeRows, IsOneVariable}
use Rattle.twice_terms.proofs.Zips.{some_same}
use Rattle.twice_terms.proofs.Growing.{grow_rows, heads_of}
use Rattle.twice_terms.proofs.Limits.{limit_term}

module _ (Same : Val → Val → Type 0) (ops all : List Operator) where
  abbrev UpTo : ℕ → ℕ → ℕ → Type 0
  UpTo = AlikeUpTo Same IsOneVariable ops all

  abbrev Rows : ℕ → ℕ → Type 0
  Rows = AlikeRows Same ops all

  -- the bodies of these two definitions, whichever number of uses is seen
  body_at : (k j n : ℕ) (o p : Operator) → slice_get ops k ≡ Some o → slice_get all j ≡ Some p → RowsBy Same IsOneVariable (UpTo n) ops all k j → AlikeBy Same IsOneVariable (UpTo n) o.body p.body
  body_at k j n o p s t r =
      let q : r.left ≡ o = some_same (sym r.here ∙ s) in
      let u : r.right ≡ p = some_same (sym r.there ∙ t) in
      subst (λ (x : Operator). AlikeBy Same IsOneVariable (UpTo n) x.body p.body) q (subst (λ (y : Operator). AlikeBy Same IsOneVariable (UpTo n) r.left.body y.body) u r.same.body)

  pub rows_open : (k j : ℕ) → Rows k j → RowsBy Same IsOneVariable Rows ops all k j
  rows_open k j h =
      let first : RowsBy Same IsOneVariable (UpTo zero) ops all k j = h (suc zero) in
      let bodies : (n : ℕ) → AlikeBy Same IsOneVariable (UpTo n) first.left.body first.right.body = λ n. body_at k j n first.left first.right first.here first.there (h (suc n)) in
      let body : AlikeBy Same IsOneVariable Rows first.left.body first.right.body = limit_term Same IsOneVariable UpTo first.left.body first.right.body first.same.body bodies in
      record {
        left = first.left;
        right = first.right;
        here = first.here;
        there = first.there;
        same = record { name = first.same.name; outer = first.same.outer; params = first.same.params; level = first.same.level; own = first.same.own; body = body };
      }

  pub rows_close : (k j : ℕ) → RowsBy Same IsOneVariable Rows ops all k j → Rows k j
  rows_close k j r zero = heads_of Same IsOneVariable ops all Rows k j r
  rows_close k j r (suc n) = grow_rows Same IsOneVariable ops all Rows (UpTo n) (λ k j h. h n) k j r
