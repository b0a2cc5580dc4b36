-- The order of values is total, and values that it does not tell apart are equal: by their trees.
use Rattle.std.specs.Prelude.{◌≡◌, ◌⊎◌, ℕ, ℤ, pos, Bool, true, false, List, [], ◌∷◌, refl, Some, IsTrue}
use Rattle.std.specs.declared.cmp.Ordering.{Ordering}
use Rattle.std.specs.declared.cmp.Ordering.TheVariants.{Less, Equal, Greater}
use Rattle.std.specs.Ordering.{nat_cmp, int_cmp, bool_cmp, ordering_then, ordering_reverse}
use Rattle.std.specs.Cmp.{IsTotalOrder, IsEquivalence, IsPartialOrder, po, Equal-is}
use Rattle.std.specs.Cmp.Lexicographic.{slice_cmp}
use Rattle.std.proofs.Common.{inl, inr, ap, sym, ◌∙◌, arith}
use Rattle.std.proofs.lemmas.Cmp.{int_cmp_total, int_ranked, eq_by_cmp_equiv}
use Rattle.std.proofs.lemmas.Bool.Decides.{nat_tests}
use Rattle.values_core.specs.Data.{Val, model, truth, integer, string, set, function, Vals, no_vals, more_vals, Pairs, no_pairs, more_pairs}
use Rattle.values_core.specs.Tree.{Tree, leaf, node, to_tree, from_tree, from_tree-to_tree, text_tree, vals_tree, pairs_tree, bit}
use Rattle.values_core.specs.Order.{val_eq, val_cmp, vals_cmp, pairs_cmp}

abbrev pub tree_cmp : Tree → Tree → Ordering
tree_cmp (leaf y) (leaf z) = int_cmp y z
tree_cmp (leaf y) (node c d) = Less
tree_cmp (node a b) (leaf z) = Greater
tree_cmp (node a b) (node c d) = ordering_then (tree_cmp a c) (tree_cmp b d)

int_ties : (y z : ℤ) → int_cmp y z ≡ Equal → y ≡ z
int_ties y z e = int_ranked y z Equal (sym e)

-- what a first and a second comparison say together
then_equal : (o p : Ordering) → ordering_then o p ≡ Equal → (o ≡ Equal) × (p ≡ Equal)
then_equal Less p e = cc
then_equal Equal p e = (refl, e)
then_equal Greater p e = cc

pub tree_ties : (a b : Tree) → tree_cmp a b ≡ Equal → a ≡ b
tree_ties (leaf y) (leaf z) e = ap leaf (int_ties y z e)
tree_ties (leaf y) (node c d) e = cc
tree_ties (node a b) (leaf z) e = cc
tree_ties (node a b) (node c d) e = let h = then_equal (tree_cmp a c) (tree_cmp b d) e in λ i. node (tree_ties a c h.0 i) (tree_ties b d h.1 i)

then_reverse : (o p : Ordering) → ordering_then (ordering_reverse o) (ordering_reverse p) ≡ ordering_reverse (ordering_then o p)
then_reverse Less p = refl
then_reverse Equal p = refl
then_reverse Greater p = refl

pub tree_antisymm : (a b : Tree) → tree_cmp a b ≡ ordering_reverse (tree_cmp b a)
tree_antisymm (leaf y) (leaf z) = int_cmp_total.antisymm y z
tree_antisymm (leaf y) (node c d) = refl
tree_antisymm (node a b) (leaf z) = refl
tree_antisymm (node a b) (node c d) = rw (tree_antisymm a c, tree_antisymm b d) (then_reverse (tree_cmp c a) (tree_cmp d b))

then_less : (o p : Ordering) → ordering_then o p ≡ Less → (o ≡ Less) ⊎ ((o ≡ Equal) × (p ≡ Less))
then_less Less p e = inl refl
then_less Equal p e = inr (refl, e)
then_less Greater p e = cc

pub tree_trans : (a b c : Tree) → tree_cmp a b ≡ Less → tree_cmp b c ≡ Less → tree_cmp a c ≡ Less
tree_trans (leaf x) (leaf y) (leaf z) p q = int_cmp_total.trans x y z p q
tree_trans (leaf x) b (node e f) p q = refl
tree_trans (leaf x) (node c d) (leaf z) p q = cc
tree_trans (node a b) (leaf y) c p q = cc
tree_trans (node a b) (node c d) (leaf z) p q = cc
tree_trans (node a b) (node c d) (node e f) p q =
    elim (then_less (tree_cmp a c) (tree_cmp b d) p) [
      | inl h ↦ elim (then_less (tree_cmp c e) (tree_cmp d f) q) [
        | inl k ↦ rw (tree_trans a c e h k) refl
        | inr k ↦ let s : c ≡ e = tree_ties c e k.0 in rw (← s, h) refl
      ]
      | inr h ↦ let s : a ≡ c = tree_ties a c h.0 in elim (then_less (tree_cmp c e) (tree_cmp d f) q) [
        | inl k ↦ rw (s, k) refl
        | inr k ↦ rw (s, k.0) (tree_trans b d f h.1 k.1)
      ]
    ]

pub tree_total : IsTotalOrder tree_cmp
tree_total = record {
  antisymm = tree_antisymm;
  trans = tree_trans;
  congr = λ x y z e. ap (λ t. tree_cmp t z) (tree_ties x y e);
}

nat_as_int : (x y : ℕ) → nat_cmp x y ≡ int_cmp (pos x) (pos y)
nat_as_int x y = grind (arith, nat_tests)

text_cmp : (s t : List ℕ) → slice_cmp nat_cmp s t ≡ tree_cmp (text_tree s) (text_tree t)
text_cmp [] [] = refl
text_cmp [] (y ∷ ys) = refl
text_cmp (x ∷ xs) [] = refl
text_cmp (x ∷ xs) (y ∷ ys) = rw (nat_as_int x y, text_cmp xs ys) refl

truth_cmp : (a b : Bool) → bool_cmp a b ≡ int_cmp (pos (bit a)) (pos (bit b))
truth_cmp false false = refl
truth_cmp false true = refl
truth_cmp true false = refl
truth_cmp true true = refl

mutual
  unfolding val_cmp vals_cmp pairs_cmp

  pub val_cmp-tree : (a b : Val) → val_cmp a b ≡ tree_cmp (to_tree a) (to_tree b)
  val_cmp-tree (model s) (model t) = text_cmp s t
  val_cmp-tree (truth a) (truth b) = truth_cmp a b
  val_cmp-tree (integer y) (integer z) = refl
  val_cmp-tree (string s) (string t) = text_cmp s t
  val_cmp-tree (set us) (set vs) = vals_cmp-tree us vs
  val_cmp-tree (function ps) (function qs) = pairs_cmp-tree ps qs
  val_cmp-tree a b = refl

  pub vals_cmp-tree : (us vs : Vals) → vals_cmp us vs ≡ tree_cmp (vals_tree us) (vals_tree vs)
  vals_cmp-tree no_vals no_vals = refl
  vals_cmp-tree no_vals (more_vals v vs) = refl
  vals_cmp-tree (more_vals u us) no_vals = refl
  vals_cmp-tree (more_vals u us) (more_vals v vs) = rw (val_cmp-tree u v, vals_cmp-tree us vs) refl

  pub pairs_cmp-tree : (ps qs : Pairs) → pairs_cmp ps qs ≡ tree_cmp (pairs_tree ps) (pairs_tree qs)
  pairs_cmp-tree no_pairs no_pairs = refl
  pairs_cmp-tree no_pairs (more_pairs l w qs) = refl
  pairs_cmp-tree (more_pairs k v ps) no_pairs = refl
  pairs_cmp-tree (more_pairs k v ps) (more_pairs l w qs) = rw (val_cmp-tree k l, val_cmp-tree v w, pairs_cmp-tree ps qs) refl

pub val_ties : (a b : Val) → val_cmp a b ≡ Equal → a ≡ b
val_ties a b e =
    let h : to_tree a ≡ to_tree b = tree_ties (to_tree a) (to_tree b) (sym (val_cmp-tree a b) ∙ e) in
    sym (from_tree-to_tree a) ∙ ap from_tree h ∙ from_tree-to_tree b

pub val_total : IsTotalOrder val_cmp
val_total = record {
  antisymm = λ a b. rw (val_cmp-tree a b, val_cmp-tree b a) (tree_antisymm (to_tree a) (to_tree b));
  trans = λ a b c p q. rw (val_cmp-tree a c) (tree_trans (to_tree a) (to_tree b) (to_tree c) (rw (val_cmp-tree a b) at p) (rw (val_cmp-tree b c) at q));
  congr = λ a b c e. ap (λ v. val_cmp v c) (val_ties a b e);
}

pub val_eq_equiv : IsEquivalence val_eq
val_eq_equiv = eq_by_cmp_equiv val_total

pub val_order : IsPartialOrder val_eq (λ a b. Some (val_cmp a b))
val_order = po val_total (λ a b. refl)

-- what `==` finds equal is one value
pub val_same : (a b : Val) → IsTrue (val_eq a b) → a ≡ b
val_same a b e = val_ties a b ((Equal-is (val_cmp a b)).0 e)
