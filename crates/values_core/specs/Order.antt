-- The order of values: by kind, then by content.
use Rattle.std.specs.Prelude.{ℕ, Bool}
use Rattle.std.specs.declared.cmp.Ordering.{Ordering}
use Rattle.std.specs.declared.cmp.Ordering.TheVariants.{Less, Equal, Greater}
use Rattle.std.specs.Ordering.{nat_cmp, int_cmp, bool_cmp, ordering_then, is_eq}
use Rattle.std.specs.Cmp.Lexicographic.{slice_cmp}
use Rattle.values_core.specs.Data.{Val, model, truth, integer, string, set, function, Vals, no_vals, more_vals, Pairs, no_pairs, more_pairs}

-- where a value's kind stands among the six
abbrev pub kind_rank : Val → ℕ
kind_rank (model s) = 0
kind_rank (truth b) = 1
kind_rank (integer z) = 2
kind_rank (string s) = 3
kind_rank (set vs) = 4
kind_rank (function ps) = 5

unfoldable mutual
  pub val_cmp : Val → Val → Ordering
  val_cmp (model s) (model t) = slice_cmp nat_cmp s t
  val_cmp (truth a) (truth b) = bool_cmp a b
  val_cmp (integer y) (integer z) = int_cmp y z
  val_cmp (string s) (string t) = slice_cmp nat_cmp s t
  val_cmp (set us) (set vs) = vals_cmp us vs
  val_cmp (function ps) (function qs) = pairs_cmp ps qs
  val_cmp a b = nat_cmp (kind_rank a) (kind_rank b)

  pub vals_cmp : Vals → Vals → Ordering
  vals_cmp no_vals no_vals = Equal
  vals_cmp no_vals (more_vals v vs) = Less
  vals_cmp (more_vals u us) no_vals = Greater
  vals_cmp (more_vals u us) (more_vals v vs) = ordering_then (val_cmp u v) (vals_cmp us vs)

  pub pairs_cmp : Pairs → Pairs → Ordering
  pairs_cmp no_pairs no_pairs = Equal
  pairs_cmp no_pairs (more_pairs l w qs) = Less
  pairs_cmp (more_pairs k v ps) no_pairs = Greater
  pairs_cmp (more_pairs k v ps) (more_pairs l w qs) = ordering_then (val_cmp k l) (ordering_then (val_cmp v w) (pairs_cmp ps qs))

abbrev pub val_eq : Val → Val → Bool
val_eq a b = is_eq (val_cmp a b)
