-- The items of a list of trees are those that it was made of.
use Rattle.std.proofs.Common.{◌≡◌, ◌↔◌, ◌<◌, ◌+◌, zero, suc, ℕ, List, [], ◌∷◌, ◌++◌, length, Option, refl, sym, ap, ◌∙◌, append_assoc, arith, rules}
use Rattle.std.specs.Prelude.{map, option_copied, option_map, slice_get, IsSome, Some, None}
use Rattle.std.specs.List.{ItemBy}
use Rattle.std.proofs.lemmas.List.{length-map}
use Rattle.std.proofs.lemmas.Option.{slice_get-map, slice_get_past, slice_get_read, slice_get_within}
use Rattle.std.proofs.lemmas.Bool.{false≢true}
use denote.Ref.{Bor}
use Rattle.reading_trees.specs.Trees as tree
use Rattle.reading_trees.specs.Trees.{Tree, Trees, Operands, Steps, Bounds, Fields, Changes, Arms, Definitions}
use Rattle.reading_trees.specs.TreeViews.{step_view, operands_from, operands_of, trees_from, trees_of, steps_from, steps_of, bounds_from, bounds_of, fields_from, fields_of, changes_from, changes_of, arms_from, arms_of, definitions_from, definitions_of}
use Rattle.reading_trees.specs.TreeLists.{step_of, operands_list, trees_list, steps_list, bounds_list, fields_list, changes_list, arms_list, definitions_list}
use Rattle.reading_trees.specs.declared.expr.Step.{Step}
use Rattle.reading_trees.specs.declared.expr.Step.TheVariants as step
use Rattle.reading_trees.specs.declared.expr.StepAt.{StepAt}
use Rattle.reading_trees.specs.declared.expr.Operand.{Operand}
use Rattle.reading_trees.specs.declared.expr.Bound.{Bound}
use Rattle.reading_trees.specs.declared.expr.Field.{Field}
use Rattle.reading_trees.specs.declared.expr.Change.{Change}
use Rattle.reading_trees.specs.declared.expr.Arm.{Arm}
use Rattle.reading_trees.specs.declared.expr.Definition.{Definition}

append_none : {A : Type 0} (xs : List A) → xs ≡ xs ++ []
append_none xs = search rules

-- what a slice gives at an index
pub item_of : {X : Type 0} (xs : List X) (i : ℕ) (r : Option (Bor X)) → ItemBy (λ (x : Bor X). x.now) xs i i r → option_copied r ≡ slice_get xs i
item_of xs i None l = sym (slice_get_past xs i l.3)
item_of xs i (Some x) l = sym (slice_get_read xs (length xs) i x.now refl l.3.0 l.1)

none_within : {X : Type 0} (xs : List X) (i : ℕ) → i < length xs → slice_get xs i ≡ None → ⊥
none_within [] i l e = omega arith
none_within (x ∷ xs) zero l e = cc
none_within (x ∷ xs) (suc i) l e = none_within xs i (omega arith) e

-- it gives something just where the index is inside
pub within_at : {X : Type 0} (xs : List X) (i : ℕ) (r : Option X) → r ≡ slice_get xs i → IsSome r ↔ (i < length xs)
within_at xs i None e = (λ h. absurd (false≢true h), λ l. absurd (none_within xs i l (sym e)))
within_at xs i (Some x) e = (λ h. slice_get_within xs i x (sym e), λ l. refl)

pub within_of : {X : Type 0} (xs : List X) (i : ℕ) (r : Option (Bor X)) → option_copied r ≡ slice_get xs i → IsSome r ↔ (i < length xs)
within_of xs i None e = within_at xs i None e
within_of xs i (Some x) e = within_at xs i (Some x.now) e

step_back : (s : Step) → step_of (step_view s) ≡ s
step_back step.Prime = refl
step_back (step.Index es) = refl
step_back (step.Field h) = refl

trees_grown : (ts : Trees) (xs : List Tree) → trees_list (trees_from ts xs) ≡ trees_list ts ++ xs
trees_grown ts [] = append_none _
trees_grown ts (x ∷ xs) = trees_grown (tree.MoreTrees ts x) xs ∙ append_assoc (trees_list ts) (x ∷ []) xs

pub trees_listed : (xs : List Tree) → trees_list (trees_of xs) ≡ xs
trees_listed xs = trees_grown tree.NoTrees xs

steps_grown : (ts : Steps) (xs : List StepAt) → steps_list (steps_from ts xs) ≡ steps_list ts ++ xs
steps_grown ts [] = append_none _
steps_grown ts (x ∷ xs) =
    let same : steps_list ts ++ record { at = x.at; step = step_of (step_view x.step) } ∷ [] ≡ steps_list ts ++ x ∷ [] = ap (λ (s : Step). steps_list ts ++ record { at = x.at; step = s } ∷ []) (step_back x.step) in
    steps_grown (tree.MoreSteps ts x.at (step_view x.step)) xs ∙ ap (λ (ys : List StepAt). ys ++ xs) same ∙ append_assoc (steps_list ts) (x ∷ []) xs

pub steps_listed : (xs : List StepAt) → steps_list (steps_of xs) ≡ xs
steps_listed xs = steps_grown tree.NoSteps xs

bounds_grown : (ts : Bounds) (xs : List Bound) → bounds_list (bounds_from ts xs) ≡ bounds_list ts ++ xs
bounds_grown ts [] = append_none _
bounds_grown ts (x ∷ xs) = bounds_grown (tree.MoreBounds ts x.names x.set) xs ∙ append_assoc (bounds_list ts) (x ∷ []) xs

pub bounds_listed : (xs : List Bound) → bounds_list (bounds_of xs) ≡ xs
bounds_listed xs = bounds_grown tree.NoBounds xs

fields_grown : (ts : Fields) (xs : List Field) → fields_list (fields_from ts xs) ≡ fields_list ts ++ xs
fields_grown ts [] = append_none _
fields_grown ts (x ∷ xs) = fields_grown (tree.MoreFields ts x.name x.value) xs ∙ append_assoc (fields_list ts) (x ∷ []) xs

pub fields_listed : (xs : List Field) → fields_list (fields_of xs) ≡ xs
fields_listed xs = fields_grown tree.NoFields xs

changes_grown : (ts : Changes) (xs : List Change) → changes_list (changes_from ts xs) ≡ changes_list ts ++ xs
changes_grown ts [] = append_none _
changes_grown ts (x ∷ xs) = changes_grown (tree.MoreChanges ts x.path x.value) xs ∙ append_assoc (changes_list ts) (x ∷ []) xs

pub changes_listed : (xs : List Change) → changes_list (changes_of xs) ≡ xs
changes_listed xs = changes_grown tree.NoChanges xs

arms_grown : (ts : Arms) (xs : List Arm) → arms_list (arms_from ts xs) ≡ arms_list ts ++ xs
arms_grown ts [] = append_none _
arms_grown ts (x ∷ xs) = arms_grown (tree.MoreArms ts x.test x.value) xs ∙ append_assoc (arms_list ts) (x ∷ []) xs

pub arms_listed : (xs : List Arm) → arms_list (arms_of xs) ≡ xs
arms_listed xs = arms_grown tree.NoArms xs

definitions_grown : (ts : Definitions) (xs : List Definition) → definitions_list (definitions_from ts xs) ≡ definitions_list ts ++ xs
definitions_grown ts [] = append_none _
definitions_grown ts (x ∷ xs) = definitions_grown (tree.MoreDefinitions ts x.name x.at x.params x.form x.body) xs ∙ append_assoc (definitions_list ts) (x ∷ []) xs

pub definitions_listed : (xs : List Definition) → definitions_list (definitions_of xs) ≡ xs
definitions_listed xs = definitions_grown tree.NoDefinitions xs

operands_grown : (ts : Operands) (xs : List Operand) → operands_list (operands_from ts xs) ≡ operands_list ts ++ map (λ (x : Operand). x.value) xs
operands_grown ts [] = append_none _
operands_grown ts (x ∷ xs) = operands_grown (tree.Next ts x.at x.value) xs ∙ append_assoc (operands_list ts) (x.value ∷ []) (map (λ (x : Operand). x.value) xs)

pub operands_listed : (t : Tree) (xs : List Operand) → operands_list (operands_of t xs) ≡ t ∷ map (λ (x : Operand). x.value) xs
operands_listed t xs = operands_grown (tree.First t) xs

pub operands_long : (t : Tree) (xs : List Operand) → length (operands_list (operands_of t xs)) ≡ length xs + 1
operands_long t xs =
    let long = length-map xs (λ (x : Operand). x.value) in
    rw (operands_listed t xs) (omega (arith, long))

pub first_operand : (t : Tree) (xs : List Operand) (i : ℕ) → i ≡ 0 → Some t ≡ slice_get (operands_list (operands_of t xs)) i
first_operand t xs i z = rw (z, operands_listed t xs) refl

pub later_operand : (t : Tree) (xs : List Operand) (i j : ℕ) (r : Option Operand) → i ≡ suc j → r ≡ slice_get xs j
    → option_map (λ (x : Operand). x.value) r ≡ slice_get (operands_list (operands_of t xs)) i
later_operand t xs i j r n e =
    rw (n, operands_listed t xs) (ap (option_map (λ (x : Operand). x.value)) e ∙ sym (slice_get-map (λ (x : Operand). x.value) xs j))
