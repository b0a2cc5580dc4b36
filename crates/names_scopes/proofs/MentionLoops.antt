-- Whether a name occurs in a list, item by item.
use Rattle.std.proofs.Common.{◌≡◌, ◌∙◌, sym, ap, refl, List, [], ◌∷◌, length, ◌<◌, ◌≤◌}
use Rattle.std.specs.Prelude.{ℕ, ◌+◌, Bool, true, false, not, ◌&&◌, ◌||◌, drop, get_or}
use Rattle.std.specs.Str.{bytes_eq}
use Rattle.reading_trees.specs.Trees as tree
use Rattle.reading_trees.specs.Trees.{Tree, Trees}
use Rattle.reading_trees.specs.TreeSizes.{tree_size}
use Rattle.reading_trees.specs.TreeViews.{step_view, trees_from, trees_of, operands_from, operands_of, steps_from, steps_of, bounds_from, bounds_of, fields_from, fields_of, changes_from, changes_of, arms_from, arms_of, definitions_from, definitions_of}
use Rattle.reading_trees.specs.declared.expr.Operand.{Operand}
use Rattle.reading_trees.specs.declared.expr.StepAt.{StepAt}
use Rattle.reading_trees.specs.declared.expr.Bound.{Bound}
use Rattle.reading_trees.specs.declared.expr.Field.{Field}
use Rattle.reading_trees.specs.declared.expr.Change.{Change}
use Rattle.reading_trees.specs.declared.expr.Arm.{Arm}
use Rattle.reading_trees.specs.declared.expr.Definition.{Definition}
use Rattle.names_scopes.specs.Scopes.{at_sign}
use Rattle.names_scopes.specs.Mentions.{is_one_of, binds, defines, mentions, mentions_each, mentions_operands, mentions_step, mentions_steps, mentions_bounds, mentions_fields, mentions_changes, mentions_arms, mentions_definitions}
use Rattle.names_scopes.proofs.LevelLoops.{cut_at, cut_end}

neither : (a b : Bool) → a ≡ false → b ≡ false → (a || b) ≡ false
neither a b p q = ap (λ x. x || b) p ∙ q

second : (a b : Bool) → b ≡ true → (a || b) ≡ true
second true b q = refl
second false b q = q

first : (a b : Bool) → a ≡ true → (a || b) ≡ true
first a b p = ap (λ x. x || b) p

Each_stays : (n : List ℕ) (l : tree.Trees) (xs : List Tree) → mentions_each n l ≡ true → mentions_each n (trees_from l xs) ≡ true
Each_stays n l [] t = t
Each_stays n l (x ∷ xs) t = Each_stays n (tree.MoreTrees l x) xs (first (mentions_each n l) (mentions n x) t)

pub record EachSoFar (n : List ℕ) (items : List Tree) (i : ℕ) : Type 0 where
  pub so_far : tree.Trees
  pub whole : trees_from so_far (drop i items) ≡ trees_of items
  pub none : mentions_each n so_far ≡ false

pub Each_on : (n : List ℕ) (items : List Tree) (i : ℕ) (x : Tree) → i < length items → x ≡ get_or items i x → EachSoFar n items i → mentions n x ≡ false → EachSoFar n items (i + 1)
Each_on n items i x lt e h q0 =
    record {
      so_far = tree.MoreTrees h.so_far x;
      whole = ap (λ ts. trees_from h.so_far ts) (sym (cut_at items i x lt e)) ∙ h.whole;
      none = neither (mentions_each n h.so_far) (mentions n x) h.none q0;
    }

pub Each_end : (n : List ℕ) (items : List Tree) (i : ℕ) → length items ≤ i → EachSoFar n items i → mentions_each n (trees_of items) ≡ false
Each_end n items i le h = ap (λ (l : tree.Trees). mentions_each n l) (sym (ap (λ ts. trees_from h.so_far ts) (sym (cut_end items i le)) ∙ h.whole)) ∙ h.none

pub Each_found : (n : List ℕ) (items : List Tree) (i : ℕ) (x : Tree) → i < length items → x ≡ get_or items i x → EachSoFar n items i → mentions n x ≡ true → mentions_each n (trees_of items) ≡ true
Each_found n items i x lt e h q =
    ap (λ (l : tree.Trees). mentions_each n l) (sym (ap (λ ts. trees_from h.so_far ts) (sym (cut_at items i x lt e)) ∙ h.whole)) ∙ Each_stays n (tree.MoreTrees h.so_far x) (drop (i + 1) items) (second (mentions_each n h.so_far) (mentions n x) q)

Steps_stays : (n : List ℕ) (l : tree.Steps) (xs : List StepAt) → mentions_steps n l ≡ true → mentions_steps n (steps_from l xs) ≡ true
Steps_stays n l [] t = t
Steps_stays n l (x ∷ xs) t = Steps_stays n (tree.MoreSteps l x.at (step_view x.step)) xs (first (mentions_steps n l) (mentions_step n (step_view x.step)) t)

pub record StepsSoFar (n : List ℕ) (items : List StepAt) (i : ℕ) : Type 0 where
  pub so_far : tree.Steps
  pub whole : steps_from so_far (drop i items) ≡ steps_of items
  pub none : mentions_steps n so_far ≡ false

pub Steps_on : (n : List ℕ) (items : List StepAt) (i : ℕ) (x : StepAt) → i < length items → x ≡ get_or items i x → StepsSoFar n items i → mentions_step n (step_view x.step) ≡ false → StepsSoFar n items (i + 1)
Steps_on n items i x lt e h q0 =
    record {
      so_far = tree.MoreSteps h.so_far x.at (step_view x.step);
      whole = ap (λ ts. steps_from h.so_far ts) (sym (cut_at items i x lt e)) ∙ h.whole;
      none = neither (mentions_steps n h.so_far) (mentions_step n (step_view x.step)) h.none q0;
    }

pub Steps_end : (n : List ℕ) (items : List StepAt) (i : ℕ) → length items ≤ i → StepsSoFar n items i → mentions_steps n (steps_of items) ≡ false
Steps_end n items i le h = ap (λ (l : tree.Steps). mentions_steps n l) (sym (ap (λ ts. steps_from h.so_far ts) (sym (cut_end items i le)) ∙ h.whole)) ∙ h.none

pub Steps_found : (n : List ℕ) (items : List StepAt) (i : ℕ) (x : StepAt) → i < length items → x ≡ get_or items i x → StepsSoFar n items i → mentions_step n (step_view x.step) ≡ true → mentions_steps n (steps_of items) ≡ true
Steps_found n items i x lt e h q =
    ap (λ (l : tree.Steps). mentions_steps n l) (sym (ap (λ ts. steps_from h.so_far ts) (sym (cut_at items i x lt e)) ∙ h.whole)) ∙ Steps_stays n (tree.MoreSteps h.so_far x.at (step_view x.step)) (drop (i + 1) items) (second (mentions_steps n h.so_far) (mentions_step n (step_view x.step)) q)

Bounds_stays : (n : List ℕ) (l : tree.Bounds) (xs : List Bound) → mentions_bounds n l ≡ true → mentions_bounds n (bounds_from l xs) ≡ true
Bounds_stays n l [] t = t
Bounds_stays n l (x ∷ xs) t = Bounds_stays n (tree.MoreBounds l x.names x.set) xs (first (mentions_bounds n l) (mentions n x.set) t)

pub record BoundsSoFar (n : List ℕ) (items : List Bound) (i : ℕ) : Type 0 where
  pub so_far : tree.Bounds
  pub whole : bounds_from so_far (drop i items) ≡ bounds_of items
  pub none : mentions_bounds n so_far ≡ false

pub Bounds_on : (n : List ℕ) (items : List Bound) (i : ℕ) (x : Bound) → i < length items → x ≡ get_or items i x → BoundsSoFar n items i → mentions n x.set ≡ false → BoundsSoFar n items (i + 1)
Bounds_on n items i x lt e h q0 =
    record {
      so_far = tree.MoreBounds h.so_far x.names x.set;
      whole = ap (λ ts. bounds_from h.so_far ts) (sym (cut_at items i x lt e)) ∙ h.whole;
      none = neither (mentions_bounds n h.so_far) (mentions n x.set) h.none q0;
    }

pub Bounds_end : (n : List ℕ) (items : List Bound) (i : ℕ) → length items ≤ i → BoundsSoFar n items i → mentions_bounds n (bounds_of items) ≡ false
Bounds_end n items i le h = ap (λ (l : tree.Bounds). mentions_bounds n l) (sym (ap (λ ts. bounds_from h.so_far ts) (sym (cut_end items i le)) ∙ h.whole)) ∙ h.none

pub Bounds_found : (n : List ℕ) (items : List Bound) (i : ℕ) (x : Bound) → i < length items → x ≡ get_or items i x → BoundsSoFar n items i → mentions n x.set ≡ true → mentions_bounds n (bounds_of items) ≡ true
Bounds_found n items i x lt e h q =
    ap (λ (l : tree.Bounds). mentions_bounds n l) (sym (ap (λ ts. bounds_from h.so_far ts) (sym (cut_at items i x lt e)) ∙ h.whole)) ∙ Bounds_stays n (tree.MoreBounds h.so_far x.names x.set) (drop (i + 1) items) (second (mentions_bounds n h.so_far) (mentions n x.set) q)

Fields_stays : (n : List ℕ) (l : tree.Fields) (xs : List Field) → mentions_fields n l ≡ true → mentions_fields n (fields_from l xs) ≡ true
Fields_stays n l [] t = t
Fields_stays n l (x ∷ xs) t = Fields_stays n (tree.MoreFields l x.name x.value) xs (first (mentions_fields n l) (mentions n x.value) t)

pub record FieldsSoFar (n : List ℕ) (items : List Field) (i : ℕ) : Type 0 where
  pub so_far : tree.Fields
  pub whole : fields_from so_far (drop i items) ≡ fields_of items
  pub none : mentions_fields n so_far ≡ false

pub Fields_on : (n : List ℕ) (items : List Field) (i : ℕ) (x : Field) → i < length items → x ≡ get_or items i x → FieldsSoFar n items i → mentions n x.value ≡ false → FieldsSoFar n items (i + 1)
Fields_on n items i x lt e h q0 =
    record {
      so_far = tree.MoreFields h.so_far x.name x.value;
      whole = ap (λ ts. fields_from h.so_far ts) (sym (cut_at items i x lt e)) ∙ h.whole;
      none = neither (mentions_fields n h.so_far) (mentions n x.value) h.none q0;
    }

pub Fields_end : (n : List ℕ) (items : List Field) (i : ℕ) → length items ≤ i → FieldsSoFar n items i → mentions_fields n (fields_of items) ≡ false
Fields_end n items i le h = ap (λ (l : tree.Fields). mentions_fields n l) (sym (ap (λ ts. fields_from h.so_far ts) (sym (cut_end items i le)) ∙ h.whole)) ∙ h.none

pub Fields_found : (n : List ℕ) (items : List Field) (i : ℕ) (x : Field) → i < length items → x ≡ get_or items i x → FieldsSoFar n items i → mentions n x.value ≡ true → mentions_fields n (fields_of items) ≡ true
Fields_found n items i x lt e h q =
    ap (λ (l : tree.Fields). mentions_fields n l) (sym (ap (λ ts. fields_from h.so_far ts) (sym (cut_at items i x lt e)) ∙ h.whole)) ∙ Fields_stays n (tree.MoreFields h.so_far x.name x.value) (drop (i + 1) items) (second (mentions_fields n h.so_far) (mentions n x.value) q)

-- whether the new value of a change mentions the name, which hides `@`
abbrev new_value : List ℕ → Change → Bool
new_value n x = not (bytes_eq at_sign n) && mentions n x.value

none_hidden : (a b : Bool) → a ≡ true → (not a && b) ≡ false
none_hidden true b p = refl
none_hidden false b p = absurd (cc)

none_in : (a b : Bool) → b ≡ false → (not a && b) ≡ false
none_in true b q = refl
none_in false b q = q

one_in : (a b : Bool) → a ≡ false → b ≡ true → (not a && b) ≡ true
one_in true b p q = absurd (cc)
one_in false b p q = q

Changes_stays : (n : List ℕ) (l : tree.Changes) (xs : List Change) → mentions_changes n l ≡ true → mentions_changes n (changes_from l xs) ≡ true
Changes_stays n l [] t = t
Changes_stays n l (x ∷ xs) t = Changes_stays n (tree.MoreChanges l x.path x.value) xs (first (mentions_changes n l || mentions_steps n x.path) (new_value n x) (first (mentions_changes n l) (mentions_steps n x.path) t))

pub record ChangesSoFar (n : List ℕ) (items : List Change) (i : ℕ) : Type 0 where
  pub so_far : tree.Changes
  pub whole : changes_from so_far (drop i items) ≡ changes_of items
  pub none : mentions_changes n so_far ≡ false

Changes_on : (n : List ℕ) (items : List Change) (i : ℕ) (x : Change) → i < length items → x ≡ get_or items i x → ChangesSoFar n items i → mentions_steps n x.path ≡ false → new_value n x ≡ false → ChangesSoFar n items (i + 1)
Changes_on n items i x lt e h q0 q1 =
    record {
      so_far = tree.MoreChanges h.so_far x.path x.value;
      whole = ap (λ ts. changes_from h.so_far ts) (sym (cut_at items i x lt e)) ∙ h.whole;
      none = neither (mentions_changes n h.so_far || mentions_steps n x.path) (new_value n x) (neither (mentions_changes n h.so_far) (mentions_steps n x.path) h.none q0) q1;
    }

pub Changes_end : (n : List ℕ) (items : List Change) (i : ℕ) → length items ≤ i → ChangesSoFar n items i → mentions_changes n (changes_of items) ≡ false
Changes_end n items i le h = ap (λ (l : tree.Changes). mentions_changes n l) (sym (ap (λ ts. changes_from h.so_far ts) (sym (cut_end items i le)) ∙ h.whole)) ∙ h.none

pub Changes_found0 : (n : List ℕ) (items : List Change) (i : ℕ) (x : Change) → i < length items → x ≡ get_or items i x → ChangesSoFar n items i → mentions_steps n x.path ≡ true → mentions_changes n (changes_of items) ≡ true
Changes_found0 n items i x lt e h q =
    ap (λ (l : tree.Changes). mentions_changes n l) (sym (ap (λ ts. changes_from h.so_far ts) (sym (cut_at items i x lt e)) ∙ h.whole)) ∙ Changes_stays n (tree.MoreChanges h.so_far x.path x.value) (drop (i + 1) items) (first ((mentions_changes n h.so_far || mentions_steps n x.path)) (new_value n x) (second (mentions_changes n h.so_far) (mentions_steps n x.path) q))

Changes_found1 : (n : List ℕ) (items : List Change) (i : ℕ) (x : Change) → i < length items → x ≡ get_or items i x → ChangesSoFar n items i → new_value n x ≡ true → mentions_changes n (changes_of items) ≡ true
Changes_found1 n items i x lt e h q =
    ap (λ (l : tree.Changes). mentions_changes n l) (sym (ap (λ ts. changes_from h.so_far ts) (sym (cut_at items i x lt e)) ∙ h.whole)) ∙ Changes_stays n (tree.MoreChanges h.so_far x.path x.value) (drop (i + 1) items) (second ((mentions_changes n h.so_far || mentions_steps n x.path)) (new_value n x) q)

-- the value of a change does not see the name `@`
pub Changes_hidden : (n : List ℕ) (items : List Change) (i : ℕ) (x : Change) → i < length items → x ≡ get_or items i x → ChangesSoFar n items i → mentions_steps n x.path ≡ false → bytes_eq at_sign n ≡ true → ChangesSoFar n items (i + 1)
Changes_hidden n items i x lt e h q0 q1 = Changes_on n items i x lt e h q0 (none_hidden (bytes_eq at_sign n) (mentions n x.value) q1)

pub Changes_none : (n : List ℕ) (items : List Change) (i : ℕ) (x : Change) → i < length items → x ≡ get_or items i x → ChangesSoFar n items i → mentions_steps n x.path ≡ false → mentions n x.value ≡ false → ChangesSoFar n items (i + 1)
Changes_none n items i x lt e h q0 q1 = Changes_on n items i x lt e h q0 (none_in (bytes_eq at_sign n) (mentions n x.value) q1)

pub Changes_seen : (n : List ℕ) (items : List Change) (i : ℕ) (x : Change) → i < length items → x ≡ get_or items i x → ChangesSoFar n items i → bytes_eq at_sign n ≡ false → mentions n x.value ≡ true → mentions_changes n (changes_of items) ≡ true
Changes_seen n items i x lt e h q0 q1 = Changes_found1 n items i x lt e h (one_in (bytes_eq at_sign n) (mentions n x.value) q0 q1)

Arms_stays : (n : List ℕ) (l : tree.Arms) (xs : List Arm) → mentions_arms n l ≡ true → mentions_arms n (arms_from l xs) ≡ true
Arms_stays n l [] t = t
Arms_stays n l (x ∷ xs) t = Arms_stays n (tree.MoreArms l x.test x.value) xs (first (mentions_arms n l || mentions n x.test) (mentions n x.value) (first (mentions_arms n l) (mentions n x.test) t))

pub record ArmsSoFar (n : List ℕ) (items : List Arm) (i : ℕ) : Type 0 where
  pub so_far : tree.Arms
  pub whole : arms_from so_far (drop i items) ≡ arms_of items
  pub none : mentions_arms n so_far ≡ false

pub Arms_on : (n : List ℕ) (items : List Arm) (i : ℕ) (x : Arm) → i < length items → x ≡ get_or items i x → ArmsSoFar n items i → mentions n x.test ≡ false → mentions n x.value ≡ false → ArmsSoFar n items (i + 1)
Arms_on n items i x lt e h q0 q1 =
    record {
      so_far = tree.MoreArms h.so_far x.test x.value;
      whole = ap (λ ts. arms_from h.so_far ts) (sym (cut_at items i x lt e)) ∙ h.whole;
      none = neither (mentions_arms n h.so_far || mentions n x.test) (mentions n x.value) (neither (mentions_arms n h.so_far) (mentions n x.test) h.none q0) q1;
    }

pub Arms_end : (n : List ℕ) (items : List Arm) (i : ℕ) → length items ≤ i → ArmsSoFar n items i → mentions_arms n (arms_of items) ≡ false
Arms_end n items i le h = ap (λ (l : tree.Arms). mentions_arms n l) (sym (ap (λ ts. arms_from h.so_far ts) (sym (cut_end items i le)) ∙ h.whole)) ∙ h.none

pub Arms_found0 : (n : List ℕ) (items : List Arm) (i : ℕ) (x : Arm) → i < length items → x ≡ get_or items i x → ArmsSoFar n items i → mentions n x.test ≡ true → mentions_arms n (arms_of items) ≡ true
Arms_found0 n items i x lt e h q =
    ap (λ (l : tree.Arms). mentions_arms n l) (sym (ap (λ ts. arms_from h.so_far ts) (sym (cut_at items i x lt e)) ∙ h.whole)) ∙ Arms_stays n (tree.MoreArms h.so_far x.test x.value) (drop (i + 1) items) (first ((mentions_arms n h.so_far || mentions n x.test)) (mentions n x.value) (second (mentions_arms n h.so_far) (mentions n x.test) q))

pub Arms_found1 : (n : List ℕ) (items : List Arm) (i : ℕ) (x : Arm) → i < length items → x ≡ get_or items i x → ArmsSoFar n items i → mentions n x.value ≡ true → mentions_arms n (arms_of items) ≡ true
Arms_found1 n items i x lt e h q =
    ap (λ (l : tree.Arms). mentions_arms n l) (sym (ap (λ ts. arms_from h.so_far ts) (sym (cut_at items i x lt e)) ∙ h.whole)) ∙ Arms_stays n (tree.MoreArms h.so_far x.test x.value) (drop (i + 1) items) (second ((mentions_arms n h.so_far || mentions n x.test)) (mentions n x.value) q)

abbrev binds_in : List ℕ → tree.Bounds → Bool
binds_in n l = binds l n

abbrev defines_in : List ℕ → tree.Definitions → Bool
defines_in n l = defines l n

Binds_stays : (n : List ℕ) (l : tree.Bounds) (xs : List Bound) → binds_in n l ≡ true → binds_in n (bounds_from l xs) ≡ true
Binds_stays n l [] t = t
Binds_stays n l (x ∷ xs) t = Binds_stays n (tree.MoreBounds l x.names x.set) xs (first (binds_in n l) (is_one_of n x.names) t)

pub record BindsSoFar (n : List ℕ) (items : List Bound) (i : ℕ) : Type 0 where
  pub so_far : tree.Bounds
  pub whole : bounds_from so_far (drop i items) ≡ bounds_of items
  pub none : binds_in n so_far ≡ false

pub Binds_on : (n : List ℕ) (items : List Bound) (i : ℕ) (x : Bound) → i < length items → x ≡ get_or items i x → BindsSoFar n items i → is_one_of n x.names ≡ false → BindsSoFar n items (i + 1)
Binds_on n items i x lt e h q0 =
    record {
      so_far = tree.MoreBounds h.so_far x.names x.set;
      whole = ap (λ ts. bounds_from h.so_far ts) (sym (cut_at items i x lt e)) ∙ h.whole;
      none = neither (binds_in n h.so_far) (is_one_of n x.names) h.none q0;
    }

pub Binds_end : (n : List ℕ) (items : List Bound) (i : ℕ) → length items ≤ i → BindsSoFar n items i → binds_in n (bounds_of items) ≡ false
Binds_end n items i le h = ap (λ (l : tree.Bounds). binds_in n l) (sym (ap (λ ts. bounds_from h.so_far ts) (sym (cut_end items i le)) ∙ h.whole)) ∙ h.none

pub Binds_found : (n : List ℕ) (items : List Bound) (i : ℕ) (x : Bound) → i < length items → x ≡ get_or items i x → BindsSoFar n items i → is_one_of n x.names ≡ true → binds_in n (bounds_of items) ≡ true
Binds_found n items i x lt e h q =
    ap (λ (l : tree.Bounds). binds_in n l) (sym (ap (λ ts. bounds_from h.so_far ts) (sym (cut_at items i x lt e)) ∙ h.whole)) ∙ Binds_stays n (tree.MoreBounds h.so_far x.names x.set) (drop (i + 1) items) (second (binds_in n h.so_far) (is_one_of n x.names) q)

Defines_stays : (n : List ℕ) (l : tree.Definitions) (xs : List Definition) → defines_in n l ≡ true → defines_in n (definitions_from l xs) ≡ true
Defines_stays n l [] t = t
Defines_stays n l (x ∷ xs) t = Defines_stays n (tree.MoreDefinitions l x.name x.at x.params x.form x.body) xs (first (defines_in n l) (bytes_eq x.name n) t)

pub record DefinesSoFar (n : List ℕ) (items : List Definition) (i : ℕ) : Type 0 where
  pub so_far : tree.Definitions
  pub whole : definitions_from so_far (drop i items) ≡ definitions_of items
  pub none : defines_in n so_far ≡ false

pub Defines_on : (n : List ℕ) (items : List Definition) (i : ℕ) (x : Definition) → i < length items → x ≡ get_or items i x → DefinesSoFar n items i → bytes_eq x.name n ≡ false → DefinesSoFar n items (i + 1)
Defines_on n items i x lt e h q0 =
    record {
      so_far = tree.MoreDefinitions h.so_far x.name x.at x.params x.form x.body;
      whole = ap (λ ts. definitions_from h.so_far ts) (sym (cut_at items i x lt e)) ∙ h.whole;
      none = neither (defines_in n h.so_far) (bytes_eq x.name n) h.none q0;
    }

pub Defines_end : (n : List ℕ) (items : List Definition) (i : ℕ) → length items ≤ i → DefinesSoFar n items i → defines_in n (definitions_of items) ≡ false
Defines_end n items i le h = ap (λ (l : tree.Definitions). defines_in n l) (sym (ap (λ ts. definitions_from h.so_far ts) (sym (cut_end items i le)) ∙ h.whole)) ∙ h.none

pub Defines_found : (n : List ℕ) (items : List Definition) (i : ℕ) (x : Definition) → i < length items → x ≡ get_or items i x → DefinesSoFar n items i → bytes_eq x.name n ≡ true → defines_in n (definitions_of items) ≡ true
Defines_found n items i x lt e h q =
    ap (λ (l : tree.Definitions). defines_in n l) (sym (ap (λ ts. definitions_from h.so_far ts) (sym (cut_at items i x lt e)) ∙ h.whole)) ∙ Defines_stays n (tree.MoreDefinitions h.so_far x.name x.at x.params x.form x.body) (drop (i + 1) items) (second (defines_in n h.so_far) (bytes_eq x.name n) q)

-- Definitions.

no_more : (n : List ℕ) (l : tree.Definitions) (xs : List Definition) → defines l n ≡ true → mentions_definitions n (definitions_from l xs) ≡ mentions_definitions n l
no_more n l [] d = refl
no_more n l (x ∷ xs) d =
    let m : tree.Definitions = tree.MoreDefinitions l x.name x.at x.params x.form x.body in
    let hidden : (defines l n || bytes_eq x.name n || is_one_of n x.params) ≡ true =
    first (defines l n || bytes_eq x.name n) (is_one_of n x.params) (first (defines l n) (bytes_eq x.name n) d) in
    no_more n m xs (first (defines l n) (bytes_eq x.name n) d) ∙ ap (λ b. mentions_definitions n l || (not b && mentions n x.body)) hidden ∙ or_false (mentions_definitions n l)
  where
    or_false : (b : Bool) → (b || false) ≡ b
    or_false true = refl
    or_false false = refl

definitions_stay : (n : List ℕ) (l : tree.Definitions) (xs : List Definition) → mentions_definitions n l ≡ true → mentions_definitions n (definitions_from l xs) ≡ true
definitions_stay n l [] t = t
definitions_stay n l (x ∷ xs) t =
    definitions_stay n (tree.MoreDefinitions l x.name x.at x.params x.form x.body) xs (first (mentions_definitions n l) (not (defines l n || bytes_eq x.name n || is_one_of n x.params) && mentions n x.body) t)

pub record DefinitionsSoFar (n : List ℕ) (items : List Definition) (i : ℕ) : Type 0 where
  pub so_far : tree.Definitions
  pub whole : definitions_from so_far (drop i items) ≡ definitions_of items
  pub none : mentions_definitions n so_far ≡ false
  pub free : defines so_far n ≡ false

definitions_so : (n : List ℕ) (items : List Definition) (i : ℕ) (x : Definition) → i < length items → x ≡ get_or items i x → (h : DefinitionsSoFar n items i) → bytes_eq x.name n ≡ false → (not (defines h.so_far n || bytes_eq x.name n || is_one_of n x.params) && mentions n x.body) ≡ false → DefinitionsSoFar n items (i + 1)
definitions_so n items i x lt e h q r =
    record {
      so_far = tree.MoreDefinitions h.so_far x.name x.at x.params x.form x.body;
      whole = ap (λ ts. definitions_from h.so_far ts) (sym (cut_at items i x lt e)) ∙ h.whole;
      none = neither (mentions_definitions n h.so_far) (not (defines h.so_far n || bytes_eq x.name n || is_one_of n x.params) && mentions n x.body) h.none r;
      free = neither (defines h.so_far n) (bytes_eq x.name n) h.free q;
    }

pub definitions_hidden : (n : List ℕ) (items : List Definition) (i : ℕ) (x : Definition) → i < length items → x ≡ get_or items i x → DefinitionsSoFar n items i → bytes_eq x.name n ≡ false → is_one_of n x.params ≡ true → DefinitionsSoFar n items (i + 1)
definitions_hidden n items i x lt e h q r =
    definitions_so n items i x lt e h q (ap (λ b. not b && mentions n x.body) (second (defines h.so_far n || bytes_eq x.name n) (is_one_of n x.params) r))

and_false : (b c : Bool) → c ≡ false → (b && c) ≡ false
and_false true c e = e
and_false false c e = refl

pub definitions_on : (n : List ℕ) (items : List Definition) (i : ℕ) (x : Definition) → i < length items → x ≡ get_or items i x → DefinitionsSoFar n items i → bytes_eq x.name n ≡ false → mentions n x.body ≡ false → DefinitionsSoFar n items (i + 1)
definitions_on n items i x lt e h q r =
    definitions_so n items i x lt e h q (and_false (not (defines h.so_far n || bytes_eq x.name n || is_one_of n x.params)) (mentions n x.body) r)

pub definitions_end : (n : List ℕ) (items : List Definition) (i : ℕ) → length items ≤ i → DefinitionsSoFar n items i → mentions_definitions n (definitions_of items) ≡ false
definitions_end n items i le h =
    ap (λ (l : tree.Definitions). mentions_definitions n l) (sym (ap (λ ts. definitions_from h.so_far ts) (sym (cut_end items i le)) ∙ h.whole)) ∙ h.none

pub definitions_found : (n : List ℕ) (items : List Definition) (i : ℕ) (x : Definition) → i < length items → x ≡ get_or items i x → DefinitionsSoFar n items i → bytes_eq x.name n ≡ false → is_one_of n x.params ≡ false → mentions n x.body ≡ true → mentions_definitions n (definitions_of items) ≡ true
definitions_found n items i x lt e h q p r =
    let free : (defines h.so_far n || bytes_eq x.name n || is_one_of n x.params) ≡ false =
    neither (defines h.so_far n || bytes_eq x.name n) (is_one_of n x.params) (neither (defines h.so_far n) (bytes_eq x.name n) h.free q) p in
    ap (λ (l : tree.Definitions). mentions_definitions n l) (sym (ap (λ ts. definitions_from h.so_far ts) (sym (cut_at items i x lt e)) ∙ h.whole)) ∙ definitions_stay n (tree.MoreDefinitions h.so_far x.name x.at x.params x.form x.body) (drop (i + 1) items) (second (mentions_definitions n h.so_far) (not (defines h.so_far n || bytes_eq x.name n || is_one_of n x.params) && mentions n x.body) (ap (λ b. not b && mentions n x.body) free ∙ r))

-- behind a definition of the name nothing means the outer one
pub definitions_cut : (n : List ℕ) (items : List Definition) (i : ℕ) (x : Definition) → i < length items → x ≡ get_or items i x → DefinitionsSoFar n items i → bytes_eq x.name n ≡ true → mentions_definitions n (definitions_of items) ≡ false
definitions_cut n items i x lt e h q =
    let hidden : (defines h.so_far n || bytes_eq x.name n || is_one_of n x.params) ≡ true =
    first (defines h.so_far n || bytes_eq x.name n) (is_one_of n x.params) (second (defines h.so_far n) (bytes_eq x.name n) q) in
    ap (λ (l : tree.Definitions). mentions_definitions n l) (sym (ap (λ ts. definitions_from h.so_far ts) (sym (cut_at items i x lt e)) ∙ h.whole)) ∙ no_more n (tree.MoreDefinitions h.so_far x.name x.at x.params x.form x.body) (drop (i + 1) items) (second (defines h.so_far n) (bytes_eq x.name n) q) ∙ neither (mentions_definitions n h.so_far) (not (defines h.so_far n || bytes_eq x.name n || is_one_of n x.params) && mentions n x.body) h.none (ap (λ b. not b && mentions n x.body) hidden)

-- Operands behind others.

others_stay : (n : List ℕ) (l : tree.Operands) (xs : List Operand) → mentions_operands n l ≡ true → mentions_operands n (operands_from l xs) ≡ true
others_stay n l [] t = t
others_stay n l (x ∷ xs) t = others_stay n (tree.Next l x.at x.value) xs (first (mentions_operands n l) (mentions n x.value) t)

pub record OthersSoFar (n : List ℕ) (items : List Operand) (i : ℕ) : Type 0 where
  pub is : (before : tree.Operands) → mentions_operands n before ≡ false → (so_far : tree.Operands) × (operands_from so_far (drop i items) ≡ operands_from before items) × (mentions_operands n so_far ≡ false)

pub others_begin : (n : List ℕ) (items : List Operand) → OthersSoFar n items 0
others_begin n items = record { is = λ b h. (b, refl, h) }

pub others_on : (n : List ℕ) (items : List Operand) (i : ℕ) (x : Operand) → i < length items → x ≡ get_or items i x → OthersSoFar n items i → mentions n x.value ≡ false → OthersSoFar n items (i + 1)
others_on n items i x lt e h q =
    record {
      is = λ b f.
          let k : (so_far : tree.Operands) × (operands_from so_far (drop i items) ≡ operands_from b items) × (mentions_operands n so_far ≡ false) = h.is b f in
          (tree.Next k.0 x.at x.value, ap (λ ts. operands_from k.0 ts) (sym (cut_at items i x lt e)) ∙ k.1, neither (mentions_operands n k.0) (mentions n x.value) k.2 q);
    }

pub others_found : (n : List ℕ) (items : List Operand) (i : ℕ) (x : Operand) → i < length items → x ≡ get_or items i x → OthersSoFar n items i → mentions n x.value ≡ true → (before : tree.Operands) → mentions_operands n before ≡ false → true ≡ mentions_operands n (operands_from before items)
others_found n items i x lt e h q b f =
    let k : (so_far : tree.Operands) × (operands_from so_far (drop i items) ≡ operands_from b items) × (mentions_operands n so_far ≡ false) = h.is b f in
    sym (ap (λ (l : tree.Operands). mentions_operands n l) (sym (ap (λ ts. operands_from k.0 ts) (sym (cut_at items i x lt e)) ∙ k.1)) ∙ others_stay n (tree.Next k.0 x.at x.value) (drop (i + 1) items) (second (mentions_operands n k.0) (mentions n x.value) q))

pub others_end : (n : List ℕ) (items : List Operand) (i : ℕ) → length items ≤ i → OthersSoFar n items i → (before : tree.Operands) → mentions_operands n before ≡ false → false ≡ mentions_operands n (operands_from before items)
others_end n items i le h b f =
    let k : (so_far : tree.Operands) × (operands_from so_far (drop i items) ≡ operands_from b items) × (mentions_operands n so_far ≡ false) = h.is b f in
    sym (ap (λ (l : tree.Operands). mentions_operands n l) (sym (ap (λ ts. operands_from k.0 ts) (sym (cut_end items i le)) ∙ k.1)) ∙ k.2)

-- the first operand mentions the name
pub first_found : (n : List ℕ) (t : Tree) (items : List Operand) (all : tree.Operands) → operands_of t items ≡ all → mentions n t ≡ true → mentions_operands n all ≡ true
first_found n t items all e q = ap (λ (l : tree.Operands). mentions_operands n l) (sym e) ∙ others_stay n (tree.First t) items q

-- The rows that reach far right.

pub record Reaches (n : List ℕ) (t rest : Tree) : Type 0 where
  pub same : mentions n t ≡ mentions n rest
  pub within : tree_size rest ≤ tree_size t
