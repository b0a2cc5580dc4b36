-- Walks through lists, item by item.
use Rattle.std.proofs.Common.{◌≡◌, ◌∙◌, sym, ap, refl, List, [], ◌∷◌, ◌++◌, append_assoc, append-nil}
use Rattle.std.specs.Prelude.{ℕ, length, drop, ◌≤◌}
use Rattle.reading_trees.specs.Trees as tree
use Rattle.reading_trees.specs.Trees.{Tree}
use Rattle.reading_trees.specs.TreeViews.{step_view, trees_from, trees_of, operands_from, operands_of, steps_from, steps_of, bounds_from, bounds_of, fields_from, fields_of, changes_from, changes_of, arms_from, arms_of, definitions_from, definitions_of}
use Rattle.reading_trees.specs.declared.expr.Operand.{Operand}
use Rattle.reading_trees.specs.declared.expr.StepAt.{StepAt}
use Rattle.reading_trees.specs.declared.expr.Bound.{Bound}
use Rattle.reading_trees.specs.declared.expr.Field.{Field}
use Rattle.reading_trees.specs.declared.expr.Change.{Change}
use Rattle.reading_trees.specs.declared.expr.Arm.{Arm}
use Rattle.reading_trees.specs.declared.expr.Definition.{Definition}
use Rattle.names_scopes.specs.Scopes.{at_sign}
use Rattle.names_scopes.proofs.LevelLoops.{cut_end}
use Rattle.names_free.specs.Gathered.{NameList, bound_by, defined_by, gather, gather_each, gather_operands, gather_step, gather_steps, gather_bounds, gather_fields, gather_changes, gather_arms, gather_definitions}

abbrev pub names_bound : List Bound → NameList
names_bound [] = []
names_bound (x ∷ xs) = x.names ++ names_bound xs

bound_from : (l : tree.Bounds) (xs : List Bound) → bound_by (bounds_from l xs) ≡ bound_by l ++ names_bound xs
bound_from l [] = sym (append-nil (bound_by l))
bound_from l (x ∷ xs) = bound_from (tree.MoreBounds l x.names x.set) xs ∙ append_assoc (bound_by l) x.names (names_bound xs)

pub bound_items : (xs : List Bound) → bound_by (bounds_of xs) ≡ names_bound xs
bound_items xs = bound_from tree.NoBounds xs

abbrev pub names_defined : List Definition → NameList
names_defined [] = []
names_defined (x ∷ xs) = x.name ∷ names_defined xs

defined_from : (l : tree.Definitions) (xs : List Definition) → defined_by (definitions_from l xs) ≡ defined_by l ++ names_defined xs
defined_from l [] = sym (append-nil (defined_by l))
defined_from l (x ∷ xs) = defined_from (tree.MoreDefinitions l x.name x.at x.params x.form x.body) xs ∙ append_assoc (defined_by l) (x.name ∷ []) (names_defined xs)

pub defined_items : (xs : List Definition) → defined_by (definitions_of xs) ≡ names_defined xs
defined_items xs = defined_from tree.NoDefinitions xs

abbrev pub each_items : NameList → NameList → List Tree → NameList
each_items hs ns [] = ns
each_items hs ns (x ∷ xs) = each_items hs (gather hs ns x) xs

each_behind : (hs ns : NameList) (l : tree.Trees) (xs : List Tree) → gather_each hs ns (trees_from l xs) ≡ each_items hs (gather_each hs ns l) xs
each_behind hs ns l [] = refl
each_behind hs ns l (x ∷ xs) = each_behind hs ns (tree.MoreTrees l x) xs

pub each_are : (hs ns : NameList) (xs : List Tree) → each_items hs ns xs ≡ gather_each hs ns (trees_of xs)
each_are hs ns xs = sym (each_behind hs ns tree.NoTrees xs)

abbrev pub operands_items : NameList → NameList → List Operand → NameList
operands_items hs ns [] = ns
operands_items hs ns (x ∷ xs) = operands_items hs (gather hs ns x.value) xs

operands_behind : (hs ns : NameList) (l : tree.Operands) (xs : List Operand) → gather_operands hs ns (operands_from l xs) ≡ operands_items hs (gather_operands hs ns l) xs
operands_behind hs ns l [] = refl
operands_behind hs ns l (x ∷ xs) = operands_behind hs ns (tree.Next l x.at x.value) xs

pub operands_are : (hs ns : NameList) (t : Tree) (xs : List Operand) → operands_items hs (gather hs ns t) xs ≡ gather_operands hs ns (operands_of t xs)
operands_are hs ns t xs = sym (operands_behind hs ns (tree.First t) xs)

abbrev pub steps_items : NameList → NameList → List StepAt → NameList
steps_items hs ns [] = ns
steps_items hs ns (x ∷ xs) = steps_items hs (gather_step hs ns (step_view x.step)) xs

steps_behind : (hs ns : NameList) (l : tree.Steps) (xs : List StepAt) → gather_steps hs ns (steps_from l xs) ≡ steps_items hs (gather_steps hs ns l) xs
steps_behind hs ns l [] = refl
steps_behind hs ns l (x ∷ xs) = steps_behind hs ns (tree.MoreSteps l x.at (step_view x.step)) xs

pub steps_are : (hs ns : NameList) (xs : List StepAt) → steps_items hs ns xs ≡ gather_steps hs ns (steps_of xs)
steps_are hs ns xs = sym (steps_behind hs ns tree.NoSteps xs)

abbrev pub bounds_items : NameList → NameList → List Bound → NameList
bounds_items hs ns [] = ns
bounds_items hs ns (x ∷ xs) = bounds_items hs (gather hs ns x.set) xs

bounds_behind : (hs ns : NameList) (l : tree.Bounds) (xs : List Bound) → gather_bounds hs ns (bounds_from l xs) ≡ bounds_items hs (gather_bounds hs ns l) xs
bounds_behind hs ns l [] = refl
bounds_behind hs ns l (x ∷ xs) = bounds_behind hs ns (tree.MoreBounds l x.names x.set) xs

pub bounds_are : (hs ns : NameList) (xs : List Bound) → bounds_items hs ns xs ≡ gather_bounds hs ns (bounds_of xs)
bounds_are hs ns xs = sym (bounds_behind hs ns tree.NoBounds xs)

abbrev pub fields_items : NameList → NameList → List Field → NameList
fields_items hs ns [] = ns
fields_items hs ns (x ∷ xs) = fields_items hs (gather hs ns x.value) xs

fields_behind : (hs ns : NameList) (l : tree.Fields) (xs : List Field) → gather_fields hs ns (fields_from l xs) ≡ fields_items hs (gather_fields hs ns l) xs
fields_behind hs ns l [] = refl
fields_behind hs ns l (x ∷ xs) = fields_behind hs ns (tree.MoreFields l x.name x.value) xs

pub fields_are : (hs ns : NameList) (xs : List Field) → fields_items hs ns xs ≡ gather_fields hs ns (fields_of xs)
fields_are hs ns xs = sym (fields_behind hs ns tree.NoFields xs)

abbrev pub changes_items : NameList → NameList → List Change → NameList
changes_items hs ns [] = ns
changes_items hs ns (x ∷ xs) = changes_items hs (gather (hs ++ at_sign ∷ []) (gather_steps hs ns x.path) x.value) xs

changes_behind : (hs ns : NameList) (l : tree.Changes) (xs : List Change) → gather_changes hs ns (changes_from l xs) ≡ changes_items hs (gather_changes hs ns l) xs
changes_behind hs ns l [] = refl
changes_behind hs ns l (x ∷ xs) = changes_behind hs ns (tree.MoreChanges l x.path x.value) xs

pub changes_are : (hs ns : NameList) (xs : List Change) → changes_items hs ns xs ≡ gather_changes hs ns (changes_of xs)
changes_are hs ns xs = sym (changes_behind hs ns tree.NoChanges xs)

abbrev pub arms_items : NameList → NameList → List Arm → NameList
arms_items hs ns [] = ns
arms_items hs ns (x ∷ xs) = arms_items hs (gather hs (gather hs ns x.test) x.value) xs

arms_behind : (hs ns : NameList) (l : tree.Arms) (xs : List Arm) → gather_arms hs ns (arms_from l xs) ≡ arms_items hs (gather_arms hs ns l) xs
arms_behind hs ns l [] = refl
arms_behind hs ns l (x ∷ xs) = arms_behind hs ns (tree.MoreArms l x.test x.value) xs

pub arms_are : (hs ns : NameList) (xs : List Arm) → arms_items hs ns xs ≡ gather_arms hs ns (arms_of xs)
arms_are hs ns xs = sym (arms_behind hs ns tree.NoArms xs)

abbrev pub definitions_items : NameList → NameList → List Definition → NameList
definitions_items hs ns [] = ns
definitions_items hs ns (x ∷ xs) = definitions_items (hs ++ x.name ∷ []) (gather ((hs ++ x.name ∷ []) ++ x.params) ns x.body) xs

definitions_behind : (hs ns : NameList) (l : tree.Definitions) (xs : List Definition) → gather_definitions hs ns (definitions_from l xs) ≡ definitions_items (hs ++ defined_by l) (gather_definitions hs ns l) xs
definitions_behind hs ns l [] = refl
definitions_behind hs ns l (x ∷ xs) =
    definitions_behind hs ns (tree.MoreDefinitions l x.name x.at x.params x.form x.body) xs ∙ ap (λ h. definitions_items h (gather (hs ++ defined_by l ++ x.name ∷ [] ++ x.params) (gather_definitions hs ns l) x.body) xs) (sym (append_assoc hs (defined_by l) (x.name ∷ [])))

pub definitions_are : (hs ns : NameList) (xs : List Definition) → definitions_items hs ns xs ≡ gather_definitions hs ns (definitions_of xs)
definitions_are hs ns xs = ap (λ h. definitions_items h ns xs) (sym (append-nil hs)) ∙ sym (definitions_behind hs ns tree.NoDefinitions xs)

-- Ends of walks.

pub names_end : (hs old : NameList) (items : List Bound) (i : ℕ) (all : tree.Bounds) → length items ≤ i → bounds_of items ≡ all → hs ++ names_bound (drop i items) ≡ old ++ names_bound items → hs ≡ old ++ bound_by all
names_end hs old items i all le whole e =
    sym (append-nil hs) ∙ ap (λ l. hs ++ names_bound l) (sym (cut_end items i le)) ∙ e ∙ ap (λ l. old ++ l) (sym (bound_items items) ∙ ap bound_by whole)

pub defined_end : (hs old : NameList) (items : List Definition) (i : ℕ) (all : tree.Definitions) → length items ≤ i → definitions_of items ≡ all → hs ++ names_defined (drop i items) ≡ old ++ names_defined items → hs ≡ old ++ defined_by all
defined_end hs old items i all le whole e =
    sym (append-nil hs) ∙ ap (λ l. hs ++ names_defined l) (sym (cut_end items i le)) ∙ e ∙ ap (λ l. old ++ l) (sym (defined_items items) ∙ ap defined_by whole)

pub definitions_end : (hs ns ks old : NameList) (items : List Definition) (i : ℕ) (all : tree.Definitions) → length items ≤ i → definitions_of items ≡ all → definitions_items hs ns (drop i items) ≡ definitions_items ks old items → ns ≡ gather_definitions ks old all
definitions_end hs ns ks old items i all le whole e =
    ap (λ l. definitions_items hs ns l) (sym (cut_end items i le)) ∙ e ∙ definitions_are ks old items ∙ ap (λ l. gather_definitions ks old l) whole

pub each_end : (hs ns old : NameList) (items : List Tree) (i : ℕ) (all : tree.Trees) → length items ≤ i → trees_of items ≡ all → each_items hs ns (drop i items) ≡ each_items hs old items → ns ≡ gather_each hs old all
each_end hs ns old items i all le whole e =
    ap (λ l. each_items hs ns l) (sym (cut_end items i le)) ∙ e ∙ each_are hs old items ∙ ap (λ l. gather_each hs old l) whole

pub operands_end : (hs ns old : NameList) (t : Tree) (items : List Operand) (i : ℕ) (all : tree.Operands) → length items ≤ i → operands_of t items ≡ all → operands_items hs ns (drop i items) ≡ operands_items hs (gather hs old t) items → ns ≡ gather_operands hs old all
operands_end hs ns old t items i all le whole e =
    ap (λ l. operands_items hs ns l) (sym (cut_end items i le)) ∙ e ∙ operands_are hs old t items ∙ ap (λ l. gather_operands hs old l) whole

pub steps_end : (hs ns old : NameList) (items : List StepAt) (i : ℕ) (all : tree.Steps) → length items ≤ i → steps_of items ≡ all → steps_items hs ns (drop i items) ≡ steps_items hs old items → ns ≡ gather_steps hs old all
steps_end hs ns old items i all le whole e =
    ap (λ l. steps_items hs ns l) (sym (cut_end items i le)) ∙ e ∙ steps_are hs old items ∙ ap (λ l. gather_steps hs old l) whole

pub bounds_end : (hs ns old : NameList) (items : List Bound) (i : ℕ) (all : tree.Bounds) → length items ≤ i → bounds_of items ≡ all → bounds_items hs ns (drop i items) ≡ bounds_items hs old items → ns ≡ gather_bounds hs old all
bounds_end hs ns old items i all le whole e =
    ap (λ l. bounds_items hs ns l) (sym (cut_end items i le)) ∙ e ∙ bounds_are hs old items ∙ ap (λ l. gather_bounds hs old l) whole

pub fields_end : (hs ns old : NameList) (items : List Field) (i : ℕ) (all : tree.Fields) → length items ≤ i → fields_of items ≡ all → fields_items hs ns (drop i items) ≡ fields_items hs old items → ns ≡ gather_fields hs old all
fields_end hs ns old items i all le whole e =
    ap (λ l. fields_items hs ns l) (sym (cut_end items i le)) ∙ e ∙ fields_are hs old items ∙ ap (λ l. gather_fields hs old l) whole

pub changes_end : (hs ns old : NameList) (items : List Change) (i : ℕ) (all : tree.Changes) → length items ≤ i → changes_of items ≡ all → changes_items hs ns (drop i items) ≡ changes_items hs old items → ns ≡ gather_changes hs old all
changes_end hs ns old items i all le whole e =
    ap (λ l. changes_items hs ns l) (sym (cut_end items i le)) ∙ e ∙ changes_are hs old items ∙ ap (λ l. gather_changes hs old l) whole

pub arms_end : (hs ns old : NameList) (items : List Arm) (i : ℕ) (all : tree.Arms) → length items ≤ i → arms_of items ≡ all → arms_items hs ns (drop i items) ≡ arms_items hs old items → ns ≡ gather_arms hs old all
arms_end hs ns old items i all le whole e =
    ap (λ l. arms_items hs ns l) (sym (cut_end items i le)) ∙ e ∙ arms_are hs old items ∙ ap (λ l. gather_arms hs old l) whole

-- the first operand, and those behind it
pub operands_walked : (hs ks old ms ns : NameList) (t : Tree) (items : List Operand) (i : ℕ) (all : tree.Operands) → length items ≤ i → operands_of t items ≡ all → ks ≡ hs → ms ≡ gather hs old t → operands_items ks ns (drop i items) ≡ operands_items ks ms items → ns ≡ gather_operands hs old all
operands_walked hs ks old ms ns t items i all le whole k m e =
    operands_end hs ns old t items i all le whole (ap (λ (l : NameList). operands_items l ns (drop i items)) (sym k) ∙ e ∙ ap (λ (l : NameList). operands_items l ms items) k ∙ ap (λ (l : NameList). operands_items hs l items) m)
