-- Walks through lists, item by item.
use Rattle.std.proofs.Common.{◌≡◌, ◌∙◌, sym, ap, refl, List, [], ◌∷◌, ◌++◌, append_assoc, append-nil}
use Rattle.names_least_levels.specs.Rising.{Rising}
use Rattle.std.specs.Prelude.{ℕ, Bool, length, drop, ◌≤◌}
use Rattle.reading_trees.specs.Trees as tree
use Rattle.reading_trees.specs.Trees.{Tree}
use Rattle.reading_trees.specs.TreeViews.{step_view, trees_from, trees_of, operands_from, operands_of, steps_from, steps_of, bounds_from, bounds_of, fields_from, fields_of, changes_from, changes_of, arms_from, arms_of}
use Rattle.reading_trees.specs.declared.expr.Operand.{Operand}
use Rattle.reading_trees.specs.declared.expr.StepAt.{StepAt}
use Rattle.reading_trees.specs.declared.expr.Bound.{Bound}
use Rattle.reading_trees.specs.declared.expr.Field.{Field}
use Rattle.reading_trees.specs.declared.expr.Change.{Change}
use Rattle.reading_trees.specs.declared.expr.Arm.{Arm}
use Rattle.names_scopes.proofs.LevelLoops.{cut_end}
use Rattle.names_scopes.specs.Scopes.{at_sign}
use Rattle.names_found_levels.specs.Raised.{Marks, unmarked, names_marked, bound_by, raise, raise_each, raise_operands, raise_step, raise_steps, raise_bounds, raise_fields, raise_changes, raise_arms}

abbrev pub names_bound : List Bound → Marks
names_bound [] = []
names_bound (x ∷ xs) = names_marked x.names ++ names_bound xs

bound_from : (l : tree.Bounds) (xs : List Bound) → bound_by (bounds_from l xs) ≡ bound_by l ++ names_bound xs
bound_from l [] = sym (append-nil (bound_by l))
bound_from l (x ∷ xs) = bound_from (tree.MoreBounds l x.names x.set) xs ∙ append_assoc (bound_by l) (names_marked x.names) (names_bound xs)

pub bound_items : (xs : List Bound) → bound_by (bounds_of xs) ≡ names_bound xs
bound_items xs = bound_from tree.NoBounds xs

abbrev pub each_items : Rising → Marks → Bool → List Tree → Bool
each_items g hs ns [] = ns
each_items g hs ns (x ∷ xs) = each_items g hs (raise g hs ns x) xs

each_behind : (g : Rising) (hs : Marks) (ns : Bool) (l : tree.Trees) (xs : List Tree) → raise_each g hs ns (trees_from l xs) ≡ each_items g hs (raise_each g hs ns l) xs
each_behind g hs ns l [] = refl
each_behind g hs ns l (x ∷ xs) = each_behind g hs ns (tree.MoreTrees l x) xs

pub each_are : (g : Rising) (hs : Marks) (ns : Bool) (xs : List Tree) → each_items g hs ns xs ≡ raise_each g hs ns (trees_of xs)
each_are g hs ns xs = sym (each_behind g hs ns tree.NoTrees xs)

abbrev pub operands_items : Rising → Marks → Bool → List Operand → Bool
operands_items g hs ns [] = ns
operands_items g hs ns (x ∷ xs) = operands_items g hs (raise g hs ns x.value) xs

operands_behind : (g : Rising) (hs : Marks) (ns : Bool) (l : tree.Operands) (xs : List Operand) → raise_operands g hs ns (operands_from l xs) ≡ operands_items g hs (raise_operands g hs ns l) xs
operands_behind g hs ns l [] = refl
operands_behind g hs ns l (x ∷ xs) = operands_behind g hs ns (tree.Next l x.at x.value) xs

pub operands_are : (g : Rising) (hs : Marks) (ns : Bool) (t : Tree) (xs : List Operand) → operands_items g hs (raise g hs ns t) xs ≡ raise_operands g hs ns (operands_of t xs)
operands_are g hs ns t xs = sym (operands_behind g hs ns (tree.First t) xs)

abbrev pub steps_items : Rising → Marks → Bool → List StepAt → Bool
steps_items g hs ns [] = ns
steps_items g hs ns (x ∷ xs) = steps_items g hs (raise_step g hs ns (step_view x.step)) xs

steps_behind : (g : Rising) (hs : Marks) (ns : Bool) (l : tree.Steps) (xs : List StepAt) → raise_steps g hs ns (steps_from l xs) ≡ steps_items g hs (raise_steps g hs ns l) xs
steps_behind g hs ns l [] = refl
steps_behind g hs ns l (x ∷ xs) = steps_behind g hs ns (tree.MoreSteps l x.at (step_view x.step)) xs

pub steps_are : (g : Rising) (hs : Marks) (ns : Bool) (xs : List StepAt) → steps_items g hs ns xs ≡ raise_steps g hs ns (steps_of xs)
steps_are g hs ns xs = sym (steps_behind g hs ns tree.NoSteps xs)

abbrev pub bounds_items : Rising → Marks → Bool → List Bound → Bool
bounds_items g hs ns [] = ns
bounds_items g hs ns (x ∷ xs) = bounds_items g hs (raise g hs ns x.set) xs

bounds_behind : (g : Rising) (hs : Marks) (ns : Bool) (l : tree.Bounds) (xs : List Bound) → raise_bounds g hs ns (bounds_from l xs) ≡ bounds_items g hs (raise_bounds g hs ns l) xs
bounds_behind g hs ns l [] = refl
bounds_behind g hs ns l (x ∷ xs) = bounds_behind g hs ns (tree.MoreBounds l x.names x.set) xs

pub bounds_are : (g : Rising) (hs : Marks) (ns : Bool) (xs : List Bound) → bounds_items g hs ns xs ≡ raise_bounds g hs ns (bounds_of xs)
bounds_are g hs ns xs = sym (bounds_behind g hs ns tree.NoBounds xs)

abbrev pub fields_items : Rising → Marks → Bool → List Field → Bool
fields_items g hs ns [] = ns
fields_items g hs ns (x ∷ xs) = fields_items g hs (raise g hs ns x.value) xs

fields_behind : (g : Rising) (hs : Marks) (ns : Bool) (l : tree.Fields) (xs : List Field) → raise_fields g hs ns (fields_from l xs) ≡ fields_items g hs (raise_fields g hs ns l) xs
fields_behind g hs ns l [] = refl
fields_behind g hs ns l (x ∷ xs) = fields_behind g hs ns (tree.MoreFields l x.name x.value) xs

pub fields_are : (g : Rising) (hs : Marks) (ns : Bool) (xs : List Field) → fields_items g hs ns xs ≡ raise_fields g hs ns (fields_of xs)
fields_are g hs ns xs = sym (fields_behind g hs ns tree.NoFields xs)

abbrev pub changes_items : Rising → Marks → Bool → List Change → Bool
changes_items g hs ns [] = ns
changes_items g hs ns (x ∷ xs) = changes_items g hs (raise g (hs ++ unmarked at_sign ∷ []) (raise_steps g hs ns x.path) x.value) xs

changes_behind : (g : Rising) (hs : Marks) (ns : Bool) (l : tree.Changes) (xs : List Change) → raise_changes g hs ns (changes_from l xs) ≡ changes_items g hs (raise_changes g hs ns l) xs
changes_behind g hs ns l [] = refl
changes_behind g hs ns l (x ∷ xs) = changes_behind g hs ns (tree.MoreChanges l x.path x.value) xs

pub changes_are : (g : Rising) (hs : Marks) (ns : Bool) (xs : List Change) → changes_items g hs ns xs ≡ raise_changes g hs ns (changes_of xs)
changes_are g hs ns xs = sym (changes_behind g hs ns tree.NoChanges xs)

abbrev pub arms_items : Rising → Marks → Bool → List Arm → Bool
arms_items g hs ns [] = ns
arms_items g hs ns (x ∷ xs) = arms_items g hs (raise g hs (raise g hs ns x.test) x.value) xs

arms_behind : (g : Rising) (hs : Marks) (ns : Bool) (l : tree.Arms) (xs : List Arm) → raise_arms g hs ns (arms_from l xs) ≡ arms_items g hs (raise_arms g hs ns l) xs
arms_behind g hs ns l [] = refl
arms_behind g hs ns l (x ∷ xs) = arms_behind g hs ns (tree.MoreArms l x.test x.value) xs

pub arms_are : (g : Rising) (hs : Marks) (ns : Bool) (xs : List Arm) → arms_items g hs ns xs ≡ raise_arms g hs ns (arms_of xs)
arms_are g hs ns xs = sym (arms_behind g hs ns tree.NoArms xs)

-- Ends of walks.

pub names_end : (hs old : Marks) (items : List Bound) (i : ℕ) (all : tree.Bounds) → length items ≤ i → bounds_of items ≡ all → hs ++ names_bound (drop i items) ≡ old ++ names_bound items → hs ≡ old ++ bound_by all
names_end hs old items i all le whole e =
    sym (append-nil hs) ∙ ap (λ l. hs ++ names_bound l) (sym (cut_end items i le)) ∙ e ∙ ap (λ l. old ++ l) (sym (bound_items items) ∙ ap bound_by whole)

pub each_end : (g : Rising) (hs : Marks) (ns old : Bool) (items : List Tree) (i : ℕ) (all : tree.Trees) → length items ≤ i → trees_of items ≡ all → each_items g hs ns (drop i items) ≡ each_items g hs old items → ns ≡ raise_each g hs old all
each_end g hs ns old items i all le whole e =
    ap (λ l. each_items g hs ns l) (sym (cut_end items i le)) ∙ e ∙ each_are g hs old items ∙ ap (λ l. raise_each g hs old l) whole

pub operands_end : (g : Rising) (hs : Marks) (ns old : Bool) (t : Tree) (items : List Operand) (i : ℕ) (all : tree.Operands) → length items ≤ i → operands_of t items ≡ all → operands_items g hs ns (drop i items) ≡ operands_items g hs (raise g hs old t) items → ns ≡ raise_operands g hs old all
operands_end g hs ns old t items i all le whole e =
    ap (λ l. operands_items g hs ns l) (sym (cut_end items i le)) ∙ e ∙ operands_are g hs old t items ∙ ap (λ l. raise_operands g hs old l) whole

pub steps_end : (g : Rising) (hs : Marks) (ns old : Bool) (items : List StepAt) (i : ℕ) (all : tree.Steps) → length items ≤ i → steps_of items ≡ all → steps_items g hs ns (drop i items) ≡ steps_items g hs old items → ns ≡ raise_steps g hs old all
steps_end g hs ns old items i all le whole e =
    ap (λ l. steps_items g hs ns l) (sym (cut_end items i le)) ∙ e ∙ steps_are g hs old items ∙ ap (λ l. raise_steps g hs old l) whole

pub bounds_end : (g : Rising) (hs : Marks) (ns old : Bool) (items : List Bound) (i : ℕ) (all : tree.Bounds) → length items ≤ i → bounds_of items ≡ all → bounds_items g hs ns (drop i items) ≡ bounds_items g hs old items → ns ≡ raise_bounds g hs old all
bounds_end g hs ns old items i all le whole e =
    ap (λ l. bounds_items g hs ns l) (sym (cut_end items i le)) ∙ e ∙ bounds_are g hs old items ∙ ap (λ l. raise_bounds g hs old l) whole

pub fields_end : (g : Rising) (hs : Marks) (ns old : Bool) (items : List Field) (i : ℕ) (all : tree.Fields) → length items ≤ i → fields_of items ≡ all → fields_items g hs ns (drop i items) ≡ fields_items g hs old items → ns ≡ raise_fields g hs old all
fields_end g hs ns old items i all le whole e =
    ap (λ l. fields_items g hs ns l) (sym (cut_end items i le)) ∙ e ∙ fields_are g hs old items ∙ ap (λ l. raise_fields g hs old l) whole

pub changes_end : (g : Rising) (hs : Marks) (ns old : Bool) (items : List Change) (i : ℕ) (all : tree.Changes) → length items ≤ i → changes_of items ≡ all → changes_items g hs ns (drop i items) ≡ changes_items g hs old items → ns ≡ raise_changes g hs old all
changes_end g hs ns old items i all le whole e =
    ap (λ l. changes_items g hs ns l) (sym (cut_end items i le)) ∙ e ∙ changes_are g hs old items ∙ ap (λ l. raise_changes g hs old l) whole

pub arms_end : (g : Rising) (hs : Marks) (ns old : Bool) (items : List Arm) (i : ℕ) (all : tree.Arms) → length items ≤ i → arms_of items ≡ all → arms_items g hs ns (drop i items) ≡ arms_items g hs old items → ns ≡ raise_arms g hs old all
arms_end g hs ns old items i all le whole e =
    ap (λ l. arms_items g hs ns l) (sym (cut_end items i le)) ∙ e ∙ arms_are g hs old items ∙ ap (λ l. raise_arms g hs old l) whole

-- the first operand, and those behind it
pub operands_walked : (g : Rising) (hs ks : Marks) (old ms ns : Bool) (t : Tree) (items : List Operand) (i : ℕ) (all : tree.Operands) → length items ≤ i → operands_of t items ≡ all → ks ≡ hs → ms ≡ raise g hs old t → operands_items g ks ns (drop i items) ≡ operands_items g ks ms items → ns ≡ raise_operands g hs old all
operands_walked g hs ks old ms ns t items i all le whole k m e =
    operands_end g hs ns old t items i all le whole (ap (λ (l : Marks). operands_items g l ns (drop i items)) (sym k) ∙ e ∙ ap (λ (l : Marks). operands_items g l ms items) k ∙ ap (λ (l : Bool). operands_items g hs l items) m)
