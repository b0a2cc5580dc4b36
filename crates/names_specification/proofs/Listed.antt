-- The items of lists of trees are those that the lists were made of.
use Rattle.std.proofs.Common.{◌≡◌, ◌∙◌, sym, ap, ℕ, ◌≤◌, length, drop, List, [], ◌∷◌, ◌++◌, append_assoc, append-nil, rules}
use Rattle.std.specs.Prelude.{map}
use Rattle.reading_trees.specs.Trees as tree
use Rattle.reading_trees.specs.Trees.{Tree, Trees, Operands}
use Rattle.reading_trees.specs.TreeLists.{operands_list, trees_list}
use Rattle.reading_trees.specs.TreeViews.{operands_from, operands_of, trees_from, trees_of}
use Rattle.reading_trees.specs.declared.expr.Operand.{Operand}
use Rattle.names_program.proofs.Cuts.{cut_end}

append_none : {A : Type 0} (xs : List A) → xs ≡ xs ++ []
append_none xs = search rules

trees_grown : (ts : Trees) (xs : List Tree) → trees_list (trees_from ts xs) ≡ trees_list ts ++ xs
trees_grown ts [] = append_none _
trees_grown ts (x ∷ xs) = trees_grown (tree.MoreTrees ts x) xs ∙ append_assoc (trees_list ts) (x ∷ []) xs

pub trees_listed : (xs : List Tree) → trees_list (trees_of xs) ≡ xs
trees_listed xs = trees_grown tree.NoTrees xs

operands_grown : (ts : Operands) (xs : List Operand) → operands_list (operands_from ts xs) ≡ operands_list ts ++ map (λ (x : Operand). x.value) xs
operands_grown ts [] = append_none _
operands_grown ts (x ∷ xs) = operands_grown (tree.Next ts x.at x.value) xs ∙ append_assoc (operands_list ts) (x.value ∷ []) (map (λ (x : Operand). x.value) xs)

pub operands_listed : (t : Tree) (xs : List Operand) → operands_list (operands_of t xs) ≡ t ∷ map (λ (x : Operand). x.value) xs
operands_listed t xs = operands_grown (tree.First t) xs

-- behind all items stands the whole list
pub all_added : (found old items : List Tree) (i : ℕ) (ts : Trees) → length items ≤ i → trees_of items ≡ ts → found ++ drop i items ≡ old ++ items → found ≡ old ++ trees_list ts
all_added found old items i ts le is e =
    let none : drop i items ≡ [] = cut_end items i le in
    let behind : found ++ drop i items ≡ found = rw none (append-nil found) in
    sym behind ∙ e ∙ ap (λ (xs : List Tree). old ++ xs) (sym (trees_listed items) ∙ ap trees_list is)

pub all_operands_added : (found old pushed : List Tree) (first : Tree) (others : List Operand) (i : ℕ) (os : Operands) → length others ≤ i → operands_of first others ≡ os
    → pushed ≡ old ++ first ∷ [] → found ++ map (λ (x : Operand). x.value) (drop i others) ≡ pushed ++ map (λ (x : Operand). x.value) others → found ≡ old ++ operands_list os
all_operands_added found old pushed first others i os le is p e =
    let none : drop i others ≡ [] = cut_end others i le in
    let behind : found ++ map (λ (x : Operand). x.value) (drop i others) ≡ found = rw none (append-nil found) in
    let whole : pushed ++ map (λ (x : Operand). x.value) others ≡ old ++ (first ∷ map (λ (x : Operand). x.value) others) =
    rw p (append_assoc old (first ∷ []) (map (λ (x : Operand). x.value) others)) in
    sym behind ∙ e ∙ whole ∙ ap (λ (xs : List Tree). old ++ xs) (sym (operands_listed first others) ∙ ap operands_list is)
