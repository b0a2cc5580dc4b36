-- Lists that are made item by item.
use Rattle.std.proofs.Common.{◌≡◌, ◌∙◌, sym, ap, refl, List, [], ◌∷◌, ◌++◌, append_assoc, append-nil}
use Rattle.std.specs.Prelude.{ℕ, ◌+◌, length, drop, get_or, ◌≤◌, ◌<◌}
use Rattle.reading_trees.specs.Trees as tree
use Rattle.reading_trees.specs.Trees.{Tree}
use Rattle.reading_trees.specs.TreeViews.{step_view, trees_from, trees_of, operands_from, operands_of, steps_from, steps_of, bounds_from, bounds_of, fields_from, fields_of, changes_from, changes_of, arms_from, arms_of, definitions_from, definitions_of}
use Rattle.reading_trees.specs.declared.expr.Operand.{Operand}
use Rattle.reading_trees.specs.declared.expr.StepAt.{StepAt}
use Rattle.reading_trees.specs.declared.expr.Bound.{Bound}
use Rattle.reading_trees.specs.declared.expr.Field.{Field}
use Rattle.reading_trees.specs.declared.expr.Change.{Change}
use Rattle.reading_trees.specs.declared.expr.Arm.{Arm}
use Rattle.reading_trees.specs.declared.expr.Definition.{Definition}
use Rattle.names_scopes.proofs.LevelLoops.{cut_at, cut_end}
use Rattle.names_instances.specs.Made.{StandIns, bound_by, defined_by, made, made_each, made_operands, made_step, made_steps, made_bounds, made_fields, made_changes, made_arms, made_definitions}

abbrev pub NameList : Type 0
NameList = List (List ℕ)

abbrev pub names_bound : List Bound → NameList
names_bound [] = []
names_bound (x ∷ xs) = x.names ++ names_bound xs

bound_from : (l : tree.Bounds) (xs : List Bound) → bound_by (bounds_from l xs) ≡ bound_by l ++ names_bound xs
bound_from l [] = sym (append-nil (bound_by l))
bound_from l (x ∷ xs) = bound_from (tree.MoreBounds l x.names x.set) xs ∙ append_assoc (bound_by l) x.names (names_bound xs)

pub bound_items : (xs : List Bound) → bound_by (bounds_of xs) ≡ names_bound xs
bound_items xs = bound_from tree.NoBounds xs

pub names_end : (bs old : NameList) (items : List Bound) (i : ℕ) (all : tree.Bounds) → length items ≤ i → bounds_of items ≡ all → bs ++ names_bound (drop i items) ≡ old ++ names_bound items → bs ≡ old ++ bound_by all
names_end bs old items i all le whole e =
    sym (append-nil bs) ∙ ap (λ l. bs ++ names_bound l) (sym (cut_end items i le)) ∙ e ∙ ap (λ l. old ++ l) (sym (bound_items items) ∙ ap bound_by whole)

abbrev pub names_defined : List Definition → NameList
names_defined [] = []
names_defined (x ∷ xs) = x.name ∷ names_defined xs

defined_from : (l : tree.Definitions) (xs : List Definition) → defined_by (definitions_from l xs) ≡ defined_by l ++ names_defined xs
defined_from l [] = sym (append-nil (defined_by l))
defined_from l (x ∷ xs) = defined_from (tree.MoreDefinitions l x.name x.at x.params x.form x.body) xs ∙ append_assoc (defined_by l) (x.name ∷ []) (names_defined xs)

pub defined_items : (xs : List Definition) → defined_by (definitions_of xs) ≡ names_defined xs
defined_items xs = defined_from tree.NoDefinitions xs

pub defined_end : (bs old : NameList) (items : List Definition) (i : ℕ) (all : tree.Definitions) → length items ≤ i → definitions_of items ≡ all → bs ++ names_defined (drop i items) ≡ old ++ names_defined items → bs ≡ old ++ defined_by all
defined_end bs old items i all le whole e =
    sym (append-nil bs) ∙ ap (λ l. bs ++ names_defined l) (sym (cut_end items i le)) ∙ e ∙ ap (λ l. old ++ l) (sym (defined_items items) ∙ ap defined_by whole)

abbrev pub each_items : StandIns → NameList → tree.Trees → List Tree → tree.Trees
each_items by bs so [] = so
each_items by bs so (x ∷ xs) = each_items by bs (tree.MoreTrees so (made by bs x)) xs

each_behind : (by : StandIns) (bs : NameList) (l : tree.Trees) (xs : List Tree) → made_each by bs (trees_from l xs) ≡ each_items by bs (made_each by bs l) xs
each_behind by bs l [] = refl
each_behind by bs l (x ∷ xs) = each_behind by bs (tree.MoreTrees l x) xs

pub each_end : (by : StandIns) (bs : NameList) (so : tree.Trees) (items : List Tree) (i : ℕ) (all : tree.Trees) → length items ≤ i → trees_of items ≡ all → each_items by bs so (drop i items) ≡ each_items by bs tree.NoTrees items → so ≡ made_each by bs all
each_end by bs so items i all le whole e =
    ap (λ l. each_items by bs so l) (sym (cut_end items i le)) ∙ e ∙ sym (each_behind by bs tree.NoTrees items) ∙ ap (λ l. made_each by bs l) whole

abbrev pub steps_items : StandIns → NameList → tree.Steps → List StepAt → tree.Steps
steps_items by bs so [] = so
steps_items by bs so (x ∷ xs) = steps_items by bs (tree.MoreSteps so x.at (made_step by bs (step_view x.step))) xs

steps_behind : (by : StandIns) (bs : NameList) (l : tree.Steps) (xs : List StepAt) → made_steps by bs (steps_from l xs) ≡ steps_items by bs (made_steps by bs l) xs
steps_behind by bs l [] = refl
steps_behind by bs l (x ∷ xs) = steps_behind by bs (tree.MoreSteps l x.at (step_view x.step)) xs

pub steps_end : (by : StandIns) (bs : NameList) (so : tree.Steps) (items : List StepAt) (i : ℕ) (all : tree.Steps) → length items ≤ i → steps_of items ≡ all → steps_items by bs so (drop i items) ≡ steps_items by bs tree.NoSteps items → so ≡ made_steps by bs all
steps_end by bs so items i all le whole e =
    ap (λ l. steps_items by bs so l) (sym (cut_end items i le)) ∙ e ∙ sym (steps_behind by bs tree.NoSteps items) ∙ ap (λ l. made_steps by bs l) whole

abbrev pub bounds_items : StandIns → NameList → tree.Bounds → List Bound → tree.Bounds
bounds_items by bs so [] = so
bounds_items by bs so (x ∷ xs) = bounds_items by bs (tree.MoreBounds so x.names (made by bs x.set)) xs

bounds_behind : (by : StandIns) (bs : NameList) (l : tree.Bounds) (xs : List Bound) → made_bounds by bs (bounds_from l xs) ≡ bounds_items by bs (made_bounds by bs l) xs
bounds_behind by bs l [] = refl
bounds_behind by bs l (x ∷ xs) = bounds_behind by bs (tree.MoreBounds l x.names x.set) xs

pub bounds_end : (by : StandIns) (bs : NameList) (so : tree.Bounds) (items : List Bound) (i : ℕ) (all : tree.Bounds) → length items ≤ i → bounds_of items ≡ all → bounds_items by bs so (drop i items) ≡ bounds_items by bs tree.NoBounds items → so ≡ made_bounds by bs all
bounds_end by bs so items i all le whole e =
    ap (λ l. bounds_items by bs so l) (sym (cut_end items i le)) ∙ e ∙ sym (bounds_behind by bs tree.NoBounds items) ∙ ap (λ l. made_bounds by bs l) whole

abbrev pub fields_items : StandIns → NameList → tree.Fields → List Field → tree.Fields
fields_items by bs so [] = so
fields_items by bs so (x ∷ xs) = fields_items by bs (tree.MoreFields so x.name (made by bs x.value)) xs

fields_behind : (by : StandIns) (bs : NameList) (l : tree.Fields) (xs : List Field) → made_fields by bs (fields_from l xs) ≡ fields_items by bs (made_fields by bs l) xs
fields_behind by bs l [] = refl
fields_behind by bs l (x ∷ xs) = fields_behind by bs (tree.MoreFields l x.name x.value) xs

pub fields_end : (by : StandIns) (bs : NameList) (so : tree.Fields) (items : List Field) (i : ℕ) (all : tree.Fields) → length items ≤ i → fields_of items ≡ all → fields_items by bs so (drop i items) ≡ fields_items by bs tree.NoFields items → so ≡ made_fields by bs all
fields_end by bs so items i all le whole e =
    ap (λ l. fields_items by bs so l) (sym (cut_end items i le)) ∙ e ∙ sym (fields_behind by bs tree.NoFields items) ∙ ap (λ l. made_fields by bs l) whole

abbrev pub changes_items : StandIns → NameList → tree.Changes → List Change → tree.Changes
changes_items by bs so [] = so
changes_items by bs so (x ∷ xs) = changes_items by bs (tree.MoreChanges so (made_steps by bs x.path) (made by bs x.value)) xs

changes_behind : (by : StandIns) (bs : NameList) (l : tree.Changes) (xs : List Change) → made_changes by bs (changes_from l xs) ≡ changes_items by bs (made_changes by bs l) xs
changes_behind by bs l [] = refl
changes_behind by bs l (x ∷ xs) = changes_behind by bs (tree.MoreChanges l x.path x.value) xs

pub changes_end : (by : StandIns) (bs : NameList) (so : tree.Changes) (items : List Change) (i : ℕ) (all : tree.Changes) → length items ≤ i → changes_of items ≡ all → changes_items by bs so (drop i items) ≡ changes_items by bs tree.NoChanges items → so ≡ made_changes by bs all
changes_end by bs so items i all le whole e =
    ap (λ l. changes_items by bs so l) (sym (cut_end items i le)) ∙ e ∙ sym (changes_behind by bs tree.NoChanges items) ∙ ap (λ l. made_changes by bs l) whole

abbrev pub arms_items : StandIns → NameList → tree.Arms → List Arm → tree.Arms
arms_items by bs so [] = so
arms_items by bs so (x ∷ xs) = arms_items by bs (tree.MoreArms so (made by bs x.test) (made by bs x.value)) xs

arms_behind : (by : StandIns) (bs : NameList) (l : tree.Arms) (xs : List Arm) → made_arms by bs (arms_from l xs) ≡ arms_items by bs (made_arms by bs l) xs
arms_behind by bs l [] = refl
arms_behind by bs l (x ∷ xs) = arms_behind by bs (tree.MoreArms l x.test x.value) xs

pub arms_end : (by : StandIns) (bs : NameList) (so : tree.Arms) (items : List Arm) (i : ℕ) (all : tree.Arms) → length items ≤ i → arms_of items ≡ all → arms_items by bs so (drop i items) ≡ arms_items by bs tree.NoArms items → so ≡ made_arms by bs all
arms_end by bs so items i all le whole e =
    ap (λ l. arms_items by bs so l) (sym (cut_end items i le)) ∙ e ∙ sym (arms_behind by bs tree.NoArms items) ∙ ap (λ l. made_arms by bs l) whole

abbrev pub operands_items : StandIns → NameList → tree.Operands → List Operand → tree.Operands
operands_items by bs so [] = so
operands_items by bs so (x ∷ xs) = operands_items by bs (tree.Next so x.at (made by bs x.value)) xs

operands_behind : (by : StandIns) (bs : NameList) (l : tree.Operands) (xs : List Operand) → made_operands by bs (operands_from l xs) ≡ operands_items by bs (made_operands by bs l) xs
operands_behind by bs l [] = refl
operands_behind by bs l (x ∷ xs) = operands_behind by bs (tree.Next l x.at x.value) xs

pub operands_end : (by : StandIns) (old bs : NameList) (so before : tree.Operands) (t m : Tree) (items : List Operand) (i : ℕ) (all : tree.Operands) → length items ≤ i → operands_of t items ≡ all → bs ≡ old → m ≡ made by old t → before ≡ tree.First m → operands_items by bs so (drop i items) ≡ operands_items by bs before items → so ≡ made_operands by old all
operands_end by old bs so before t m items i all le whole kept first begun e =
    ap (λ l. operands_items by bs so l) (sym (cut_end items i le)) ∙ e ∙ ap (λ o. operands_items by bs o items) (begun ∙ ap (λ z. tree.First z) (first ∙ ap (λ (z : NameList). made by z t) (sym kept))) ∙ sym (operands_behind by bs (tree.First t) items)
    ∙ ap (λ (l : tree.Operands). made_operands by bs l) whole ∙ ap (λ (z : NameList). made_operands by z all) kept

-- each definition binds its name for itself and those behind it
abbrev pub definitions_items : StandIns → NameList → tree.Definitions → List Definition → tree.Definitions
definitions_items by bs so [] = so
definitions_items by bs so (x ∷ xs) =
    definitions_items by (bs ++ x.name ∷ []) (tree.MoreDefinitions so x.name x.at x.params x.form (made by (bs ++ x.name ∷ [] ++ x.params) x.body)) xs

definitions_behind : (by : StandIns) (bs : NameList) (l : tree.Definitions) (xs : List Definition) → made_definitions by bs (definitions_from l xs) ≡ definitions_items by (bs ++ defined_by l) (made_definitions by bs l) xs
definitions_behind by bs l [] = refl
definitions_behind by bs l (x ∷ xs) =
    definitions_behind by bs (tree.MoreDefinitions l x.name x.at x.params x.form x.body) xs ∙ ap (λ h. definitions_items by h (tree.MoreDefinitions (made_definitions by bs l) x.name x.at x.params x.form (made by (bs ++ defined_by l ++ x.name ∷ [] ++ x.params) x.body)) xs) (sym (append_assoc bs (defined_by l) (x.name ∷ [])))

definitions_are : (by : StandIns) (bs : NameList) (xs : List Definition) → definitions_items by bs tree.NoDefinitions xs ≡ made_definitions by bs (definitions_of xs)
definitions_are by bs xs = ap (λ h. definitions_items by h tree.NoDefinitions xs) (sym (append-nil bs)) ∙ sym (definitions_behind by bs tree.NoDefinitions xs)

pub definitions_end : (by : StandIns) (now old : NameList) (so : tree.Definitions) (items : List Definition) (i : ℕ) (all : tree.Definitions) → length items ≤ i → definitions_of items ≡ all → definitions_items by now so (drop i items) ≡ definitions_items by old tree.NoDefinitions items → so ≡ made_definitions by old all
definitions_end by now old so items i all le whole e =
    ap (λ l. definitions_items by now so l) (sym (cut_end items i le)) ∙ e ∙ definitions_are by old items ∙ ap (λ l. made_definitions by old l) whole

-- ---- one item more: what was made so far, with what will be made of those behind it, stays the same

on : {A L : Type 0} (all : L → List A → L) (one : L → A → L) → ((so : L) (x : A) (xs : List A) → all so (x ∷ xs) ≡ all (one so x) xs) → (so new target : L) (items : List A) (i : ℕ) (x : A) → i < length items → x ≡ get_or items i x
    → new ≡ one so x → all so (drop i items) ≡ target → all new (drop (i + 1) items) ≡ target
on all one step so new target items i x lt e n t = ap (λ l. all l (drop (i + 1) items)) n ∙ sym (step so x (drop (i + 1) items)) ∙ sym (ap (λ l. all so l) (cut_at items i x lt e)) ∙ t

pub each_on : (by : StandIns) (bs mid now : NameList) (so new target : tree.Trees) (items : List Tree) (i : ℕ) (x : Tree) (y : Tree) → i < length items → x ≡ get_or items i x → y ≡ made by mid x → now ≡ mid → new ≡ tree.MoreTrees so y
    → (each_items by bs so (drop i items) ≡ target) × (mid ≡ bs) → (each_items by bs new (drop (i + 1) items) ≡ target) × (now ≡ bs)
each_on by bs mid now so new target items i x y lt e ym kept pushed h =
    (on (each_items by bs) (λ so x. tree.MoreTrees so (made by bs x)) (λ so x xs. refl) so new target items i x lt e (pushed ∙ ap (λ (z : Tree). tree.MoreTrees so z) (ym ∙ ap (λ (z : NameList). made by z x) h.1)) h.0, kept ∙ h.1)

pub fields_on : (by : StandIns) (bs mid now : NameList) (so new target : tree.Fields) (items : List Field) (i : ℕ) (x : Field) (y : Tree) (m : List ℕ) → i < length items → x ≡ get_or items i x → y ≡ made by mid x.value → now ≡ mid → m ≡ x.name → new ≡ tree.MoreFields so m y
    → (fields_items by bs so (drop i items) ≡ target) × (mid ≡ bs) → (fields_items by bs new (drop (i + 1) items) ≡ target) × (now ≡ bs)
fields_on by bs mid now so new target items i x y m lt e ym kept mm pushed h =
    (on (fields_items by bs) (λ so x. tree.MoreFields so x.name (made by bs x.value)) (λ so x xs. refl) so new target items i x lt e (pushed ∙ ap (λ (z : List ℕ). tree.MoreFields so z y) mm ∙ ap (λ (z : Tree). tree.MoreFields so x.name z) (ym ∙ ap (λ (z : NameList). made by z x.value) h.1)) h.0, kept ∙ h.1)

pub operands_on : (by : StandIns) (bs mid now : NameList) (so new target : tree.Operands) (items : List Operand) (i : ℕ) (x : Operand) (y : Tree) → i < length items → x ≡ get_or items i x → y ≡ made by mid x.value → now ≡ mid → new ≡ tree.Next so x.at y
    → (operands_items by bs so (drop i items) ≡ target) × (mid ≡ bs) → (operands_items by bs new (drop (i + 1) items) ≡ target) × (now ≡ bs)
operands_on by bs mid now so new target items i x y lt e ym kept pushed h =
    (on (operands_items by bs) (λ so x. tree.Next so x.at (made by bs x.value)) (λ so x xs. refl) so new target items i x lt e (pushed ∙ ap (λ (z : Tree). tree.Next so x.at z) (ym ∙ ap (λ (z : NameList). made by z x.value) h.1)) h.0, kept ∙ h.1)

pub steps_on : (by : StandIns) (bs mid now : NameList) (so new target : tree.Steps) (items : List StepAt) (i : ℕ) (x : StepAt) (y : tree.Step) → i < length items → x ≡ get_or items i x → y ≡ made_step by mid (step_view x.step) → now ≡ mid → new ≡ tree.MoreSteps so x.at y
    → (steps_items by bs so (drop i items) ≡ target) × (mid ≡ bs) → (steps_items by bs new (drop (i + 1) items) ≡ target) × (now ≡ bs)
steps_on by bs mid now so new target items i x y lt e ym kept pushed h =
    (on (steps_items by bs) (λ so x. tree.MoreSteps so x.at (made_step by bs (step_view x.step))) (λ so x xs. refl) so new target items i x lt e (pushed ∙ ap (λ (z : tree.Step). tree.MoreSteps so x.at z) (ym ∙ ap (λ (z : NameList). made_step by z (step_view x.step)) h.1)) h.0, kept ∙ h.1)

pub bounds_on : (by : StandIns) (bs mid now : NameList) (so new target : tree.Bounds) (items : List Bound) (i : ℕ) (x : Bound) (y : Tree) (m : NameList) → i < length items → x ≡ get_or items i x → y ≡ made by mid x.set → now ≡ mid → m ≡ x.names → new ≡ tree.MoreBounds so m y
    → (bounds_items by bs so (drop i items) ≡ target) × (mid ≡ bs) → (bounds_items by bs new (drop (i + 1) items) ≡ target) × (now ≡ bs)
bounds_on by bs mid now so new target items i x y m lt e ym kept mm pushed h =
    (on (bounds_items by bs) (λ so x. tree.MoreBounds so x.names (made by bs x.set)) (λ so x xs. refl) so new target items i x lt e (pushed ∙ ap (λ (z : NameList). tree.MoreBounds so z y) mm ∙ ap (λ (z : Tree). tree.MoreBounds so x.names z) (ym ∙ ap (λ (z : NameList). made by z x.set) h.1)) h.0, kept ∙ h.1)

pub changes_on : (by : StandIns) (bs mid between now : NameList) (so new target : tree.Changes) (items : List Change) (i : ℕ) (x : Change) (p : tree.Steps) (y : Tree) → i < length items → x ≡ get_or items i x
    → p ≡ made_steps by mid x.path → between ≡ mid → y ≡ made by between x.value → now ≡ between → new ≡ tree.MoreChanges so p y
    → (changes_items by bs so (drop i items) ≡ target) × (mid ≡ bs) → (changes_items by bs new (drop (i + 1) items) ≡ target) × (now ≡ bs)
changes_on by bs mid between now so new target items i x p y lt e pm kept ym still pushed h = (
  on (changes_items by bs) (λ so x. tree.MoreChanges so (made_steps by bs x.path) (made by bs x.value)) (λ so x xs. refl) so new target items i x lt e
      (pushed ∙ ap (λ (z : tree.Steps). tree.MoreChanges so z y) (pm ∙ ap (λ (z : NameList). made_steps by z x.path) h.1) ∙ ap (λ (z : Tree). tree.MoreChanges so (made_steps by bs x.path) z) (ym ∙ ap (λ (z : NameList). made by z x.value) (kept ∙ h.1))) h.0,
  still ∙ kept ∙ h.1,
)

pub arms_on : (by : StandIns) (bs mid between now : NameList) (so new target : tree.Arms) (items : List Arm) (i : ℕ) (x : Arm) (p y : Tree) → i < length items → x ≡ get_or items i x
    → p ≡ made by mid x.test → between ≡ mid → y ≡ made by between x.value → now ≡ between → new ≡ tree.MoreArms so p y
    → (arms_items by bs so (drop i items) ≡ target) × (mid ≡ bs) → (arms_items by bs new (drop (i + 1) items) ≡ target) × (now ≡ bs)
arms_on by bs mid between now so new target items i x p y lt e pm kept ym still pushed h = (
  on (arms_items by bs) (λ so x. tree.MoreArms so (made by bs x.test) (made by bs x.value)) (λ so x xs. refl) so new target items i x lt e
      (pushed ∙ ap (λ (z : Tree). tree.MoreArms so z y) (pm ∙ ap (λ (z : NameList). made by z x.test) h.1) ∙ ap (λ (z : Tree). tree.MoreArms so (made by bs x.test) z) (ym ∙ ap (λ (z : NameList). made by z x.value) (kept ∙ h.1))) h.0,
  still ∙ kept ∙ h.1,
)

-- the name of a definition is bound, and then its body made
pub definitions_on : (by : StandIns) (old mid pushed_names now : NameList) (so new target : tree.Definitions) (items : List Definition) (i : ℕ) (x : Definition) (n : List ℕ) (ps : NameList) (y : Tree) → i < length items → x ≡ get_or items i x
    → pushed_names ≡ mid ++ x.name ∷ [] → y ≡ made by (pushed_names ++ x.params) x.body → now ≡ pushed_names → n ≡ x.name → ps ≡ x.params → new ≡ tree.MoreDefinitions so n x.at ps x.form y
    → (definitions_items by mid so (drop i items) ≡ target) × (mid ++ names_defined (drop i items) ≡ old ++ names_defined items)
    → (definitions_items by now new (drop (i + 1) items) ≡ target) × (now ++ names_defined (drop (i + 1) items) ≡ old ++ names_defined items)
definitions_on by old mid pushed_names now so new target items i x n ps y lt e named ym kept nn pp pushed h =
    let grown : now ≡ mid ++ x.name ∷ [] = kept ∙ named in (
      ap (λ (z : NameList). definitions_items by z new (drop (i + 1) items)) grown
          ∙ ap (λ (z : tree.Definitions). definitions_items by (mid ++ x.name ∷ []) z (drop (i + 1) items)) (pushed ∙ ap (λ (z : List ℕ). tree.MoreDefinitions so z x.at ps x.form y) nn ∙ ap (λ (z : NameList). tree.MoreDefinitions so x.name x.at z x.form y) pp ∙ ap (λ (z : Tree). tree.MoreDefinitions so x.name x.at x.params x.form z) (ym ∙ ap (λ (z : NameList). made by (z ++ x.params) x.body) named))
          ∙ sym (ap (λ l. definitions_items by mid so l) (cut_at items i x lt e)) ∙ h.0,
      ap (λ (z : NameList). z ++ names_defined (drop (i + 1) items)) grown ∙ append_assoc mid (x.name ∷ []) (names_defined (drop (i + 1) items)) ∙ sym (ap (λ l. mid ++ names_defined l) (cut_at items i x lt e)) ∙ h.1,
    )
