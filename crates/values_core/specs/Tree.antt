-- A value as a binary tree of integers that has its order: the way to its code and to the laws of its order.
use Rattle.std.specs.Prelude.{◌≡◌, ℕ, zero, suc, ℤ, pos, negsuc, List, [], ◌∷◌, Bool, true, false, refl}
use Rattle.std.specs.Coded.{Coded, code_by}
use Rattle.std.proofs.Common.{ap}
use base.Stored.{Gv, gnil, gnum, gcons}
use denote.Struct.Codes.{itself}
use Rattle.values_core.specs.Data.{Val, model, truth, integer, string, set, function, Vals, no_vals, more_vals, Pairs, no_pairs, more_pairs}

pub data Tree : Type 0 where
  leaf : ℤ → Tree
  node : Tree → Tree → Tree

abbrev pub stored : Tree → Gv
stored (leaf (pos n)) = gcons (gnum 0) (gnum n)
stored (leaf (negsuc n)) = gcons (gnum 1) (gnum n)
stored (node a b) = gcons gnil (gcons (stored a) (stored b))

abbrev pub from_stored : Gv → Tree
from_stored (gcons gnil (gcons a b)) = node (from_stored a) (from_stored b)
from_stored (gcons (gnum zero) (gnum n)) = leaf (pos n)
from_stored (gcons (gnum (suc k)) (gnum n)) = leaf (negsuc n)
from_stored _ = leaf (pos 0)

pub from_stored-stored : (t : Tree) → from_stored (stored t) ≡ t
from_stored-stored (leaf (pos n)) = refl
from_stored-stored (leaf (negsuc n)) = refl
from_stored-stored (node a b) = λ i. node (from_stored-stored a i) (from_stored-stored b i)

abbrev pub text_tree : List ℕ → Tree
text_tree [] = leaf (pos 0)
text_tree (b ∷ bs) = node (leaf (pos b)) (text_tree bs)

abbrev pub tree_text : Tree → List ℕ
tree_text (node (leaf (pos b)) t) = b ∷ tree_text t
tree_text _ = []

pub tree_text-text_tree : (s : List ℕ) → tree_text (text_tree s) ≡ s
tree_text-text_tree [] = refl
tree_text-text_tree (b ∷ bs) = ap (λ t. b ∷ t) (tree_text-text_tree bs)

abbrev pub bit : Bool → ℕ
bit false = 0
bit true = 1

abbrev pub is_one : ℤ → Bool
is_one (pos zero) = false
is_one _ = true

abbrev mutual
  pub to_tree : Val → Tree
  to_tree (model s) = node (leaf (pos 0)) (text_tree s)
  to_tree (truth b) = node (leaf (pos 1)) (leaf (pos (bit b)))
  to_tree (integer z) = node (leaf (pos 2)) (leaf z)
  to_tree (string s) = node (leaf (pos 3)) (text_tree s)
  to_tree (set vs) = node (leaf (pos 4)) (vals_tree vs)
  to_tree (function ps) = node (leaf (pos 5)) (pairs_tree ps)

  pub vals_tree : Vals → Tree
  vals_tree no_vals = leaf (pos 0)
  vals_tree (more_vals v vs) = node (to_tree v) (vals_tree vs)

  pub pairs_tree : Pairs → Tree
  pairs_tree no_pairs = leaf (pos 0)
  pairs_tree (more_pairs k v ps) = node (to_tree k) (node (to_tree v) (pairs_tree ps))

abbrev pub leaf_number : Tree → ℤ
leaf_number (leaf z) = z
leaf_number (node a b) = pos 0

abbrev mutual
  pub from_tree : Tree → Val
  from_tree (leaf z) = truth false
  from_tree (node (leaf (pos zero)) t) = model (tree_text t)
  from_tree (node (leaf (pos (suc zero))) t) = truth (is_one (leaf_number t))
  from_tree (node (leaf (pos (suc (suc zero)))) t) = integer (leaf_number t)
  from_tree (node (leaf (pos (suc (suc (suc zero))))) t) = string (tree_text t)
  from_tree (node (leaf (pos (suc (suc (suc (suc zero)))))) t) = set (tree_vals t)
  from_tree (node (leaf (pos (suc (suc (suc (suc (suc k))))))) t) = function (tree_pairs t)
  from_tree (node _ t) = truth false

  pub tree_vals : Tree → Vals
  tree_vals (leaf z) = no_vals
  tree_vals (node a b) = more_vals (from_tree a) (tree_vals b)

  pub tree_pairs : Tree → Pairs
  tree_pairs (leaf z) = no_pairs
  tree_pairs (node a (leaf z)) = no_pairs
  tree_pairs (node a (node b c)) = more_pairs (from_tree a) (from_tree b) (tree_pairs c)

bit_back : (b : Bool) → is_one (pos (bit b)) ≡ b
bit_back false = refl
bit_back true = refl

mutual
  pub from_tree-to_tree : (v : Val) → from_tree (to_tree v) ≡ v
  from_tree-to_tree (model s) = ap model (tree_text-text_tree s)
  from_tree-to_tree (truth b) = ap truth (bit_back b)
  from_tree-to_tree (integer z) = refl
  from_tree-to_tree (string s) = ap string (tree_text-text_tree s)
  from_tree-to_tree (set vs) = ap set (tree_vals-vals_tree vs)
  from_tree-to_tree (function ps) = ap function (tree_pairs-pairs_tree ps)

  pub tree_vals-vals_tree : (vs : Vals) → tree_vals (vals_tree vs) ≡ vs
  tree_vals-vals_tree no_vals = refl
  tree_vals-vals_tree (more_vals v vs) = λ i. more_vals (from_tree-to_tree v i) (tree_vals-vals_tree vs i)

  pub tree_pairs-pairs_tree : (ps : Pairs) → tree_pairs (pairs_tree ps) ≡ ps
  tree_pairs-pairs_tree no_pairs = refl
  tree_pairs-pairs_tree (more_pairs k v ps) = λ i. more_pairs (from_tree-to_tree k i) (from_tree-to_tree v i) (tree_pairs-pairs_tree ps i)

abbrev pub tree_code : Coded Tree
tree_code = code_by Gv itself stored from_stored from_stored-stored

abbrev pub val_code : Coded Val
val_code = code_by Tree tree_code to_tree from_tree from_tree-to_tree
