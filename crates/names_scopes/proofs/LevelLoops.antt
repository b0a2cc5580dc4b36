-- The levels of lists, item by item.
use Rattle.std.proofs.Common.{◌≡◌, ◌∙◌, sym, ap, refl, List, [], ◌∷◌, length, ◌<◌, ◌≤◌, arith, add-one, drop-cons}
use Rattle.std.specs.Prelude.{ℕ, zero, suc, ◌+◌, drop, get_or}
use Rattle.names_terms.specs.declared.level.Level.{Level}
use Rattle.names_terms.specs.Terms as term
use Rattle.names_terms.specs.Terms.{Term, Terms, level_of}
use Rattle.names_terms.specs.TermViews.{step_view, terms_from, terms_of, operands_from, steps_from, bounds_from, bounds_of, fields_from, fields_of, changes_from, changes_of, arms_from, arms_of}
use Rattle.names_terms.specs.declared.term.Operand.{Operand}
use Rattle.names_terms.specs.declared.term.StepAt.{StepAt}
use Rattle.names_terms.specs.declared.term.Bound.{Bound}
use Rattle.names_terms.specs.declared.term.Field.{Field}
use Rattle.names_terms.specs.declared.term.Change.{Change}
use Rattle.names_terms.specs.declared.term.Arm.{Arm}
use Rattle.names_terms.specs.Levels.{joined, of_terms, of_operands, of_step, of_steps, of_path, of_bounds, of_fields, of_changes, of_arms}

pub cut_at : {A : Type 0} (xs : List A) (i : ℕ) (x : A) → i < length xs → x ≡ get_or xs i x → drop i xs ≡ x ∷ drop (i + 1) xs
cut_at xs i x lt e = rw add-one (drop-cons xs i x lt ∙ ap (λ y. y ∷ drop (suc i) xs) (sym e))

pub cut_end : {A : Type 0} (xs : List A) (i : ℕ) → length xs ≤ i → drop i xs ≡ []
cut_end [] zero le = refl
cut_end [] (suc i) le = refl
cut_end (x ∷ xs) zero le = absurd (omega arith)
cut_end (x ∷ xs) (suc i) le = cut_end xs i (omega arith)

pub record TermsSoFar (items : List Term) (i : ℕ) (level : Level) : Type 0 where
  pub so_far : term.Terms
  pub whole : terms_from so_far (drop i items) ≡ terms_of items
  pub is : level ≡ of_terms so_far

pub terms_on : (items : List Term) (i : ℕ) (l k : Level) (x : Term) → i < length items → x ≡ get_or items i x → TermsSoFar items i l → k ≡ joined l (level_of x) → TermsSoFar items (i + 1) k
terms_on items i l k x lt e h j =
    record {
      so_far = term.MoreTerms h.so_far x;
      whole = ap (λ ts. terms_from h.so_far ts) (sym (cut_at items i x lt e)) ∙ h.whole;
      is = j ∙ ap (λ y. joined y (level_of x)) h.is;
    }

pub terms_end : (items : List Term) (i : ℕ) (l : Level) → length items ≤ i → TermsSoFar items i l → l ≡ of_terms (terms_of items)
terms_end items i l le h = h.is ∙ ap of_terms (ap (λ ts. terms_from h.so_far ts) (sym (cut_end items i le)) ∙ h.whole)

pub record BoundsSoFar (items : List Bound) (i : ℕ) (level : Level) : Type 0 where
  pub so_far : term.Bounds
  pub whole : bounds_from so_far (drop i items) ≡ bounds_of items
  pub is : level ≡ of_bounds so_far

pub bounds_on : (items : List Bound) (i : ℕ) (l k : Level) (x : Bound) → i < length items → x ≡ get_or items i x → BoundsSoFar items i l → k ≡ joined l (level_of x.set) → BoundsSoFar items (i + 1) k
bounds_on items i l k x lt e h j =
    record {
      so_far = term.MoreBounds h.so_far x.names x.set;
      whole = ap (λ ts. bounds_from h.so_far ts) (sym (cut_at items i x lt e)) ∙ h.whole;
      is = j ∙ ap (λ y. joined y (level_of x.set)) h.is;
    }

pub bounds_end : (items : List Bound) (i : ℕ) (l : Level) → length items ≤ i → BoundsSoFar items i l → l ≡ of_bounds (bounds_of items)
bounds_end items i l le h = h.is ∙ ap of_bounds (ap (λ ts. bounds_from h.so_far ts) (sym (cut_end items i le)) ∙ h.whole)

pub record FieldsSoFar (items : List Field) (i : ℕ) (level : Level) : Type 0 where
  pub so_far : term.Fields
  pub whole : fields_from so_far (drop i items) ≡ fields_of items
  pub is : level ≡ of_fields so_far

pub fields_on : (items : List Field) (i : ℕ) (l k : Level) (x : Field) → i < length items → x ≡ get_or items i x → FieldsSoFar items i l → k ≡ joined l (level_of x.value) → FieldsSoFar items (i + 1) k
fields_on items i l k x lt e h j =
    record {
      so_far = term.MoreFields h.so_far x.name x.value;
      whole = ap (λ ts. fields_from h.so_far ts) (sym (cut_at items i x lt e)) ∙ h.whole;
      is = j ∙ ap (λ y. joined y (level_of x.value)) h.is;
    }

pub fields_end : (items : List Field) (i : ℕ) (l : Level) → length items ≤ i → FieldsSoFar items i l → l ≡ of_fields (fields_of items)
fields_end items i l le h = h.is ∙ ap of_fields (ap (λ ts. fields_from h.so_far ts) (sym (cut_end items i le)) ∙ h.whole)

pub record ChangesSoFar (items : List Change) (i : ℕ) (level : Level) : Type 0 where
  pub so_far : term.Changes
  pub whole : changes_from so_far (drop i items) ≡ changes_of items
  pub is : level ≡ of_changes so_far

pub changes_on : (items : List Change) (i : ℕ) (l k : Level) (x : Change) → i < length items → x ≡ get_or items i x → ChangesSoFar items i l → k ≡ joined l (joined (of_path x.path) (level_of x.value)) → ChangesSoFar items (i + 1) k
changes_on items i l k x lt e h j =
    record {
      so_far = term.MoreChanges h.so_far x.path x.value;
      whole = ap (λ ts. changes_from h.so_far ts) (sym (cut_at items i x lt e)) ∙ h.whole;
      is = j ∙ ap (λ y. joined y (joined (of_path x.path) (level_of x.value))) h.is;
    }

pub changes_end : (items : List Change) (i : ℕ) (l : Level) → length items ≤ i → ChangesSoFar items i l → l ≡ of_changes (changes_of items)
changes_end items i l le h = h.is ∙ ap of_changes (ap (λ ts. changes_from h.so_far ts) (sym (cut_end items i le)) ∙ h.whole)

pub record ArmsSoFar (items : List Arm) (i : ℕ) (level : Level) : Type 0 where
  pub so_far : term.Arms
  pub whole : arms_from so_far (drop i items) ≡ arms_of items
  pub is : level ≡ of_arms so_far

pub arms_on : (items : List Arm) (i : ℕ) (l k : Level) (x : Arm) → i < length items → x ≡ get_or items i x → ArmsSoFar items i l → k ≡ joined l (joined (level_of x.test) (level_of x.value)) → ArmsSoFar items (i + 1) k
arms_on items i l k x lt e h j =
    record {
      so_far = term.MoreArms h.so_far x.test x.value;
      whole = ap (λ ts. arms_from h.so_far ts) (sym (cut_at items i x lt e)) ∙ h.whole;
      is = j ∙ ap (λ y. joined y (joined (level_of x.test) (level_of x.value))) h.is;
    }

pub arms_end : (items : List Arm) (i : ℕ) (l : Level) → length items ≤ i → ArmsSoFar items i l → l ≡ of_arms (arms_of items)
arms_end items i l le h = h.is ∙ ap of_arms (ap (λ ts. arms_from h.so_far ts) (sym (cut_end items i le)) ∙ h.whole)

-- what the level will be, of whatever operands stood before
pub record OthersSoFar (before : Level) (items : List Operand) (i : ℕ) (level : Level) : Type 0 where
  pub is : (so_far : term.Operands) → before ≡ of_operands so_far → (now : term.Operands) × (level ≡ of_operands now) × (operands_from now (drop i items) ≡ operands_from so_far items)

pub others_begin : (before : Level) (items : List Operand) → OthersSoFar before items 0 before
others_begin before items = record { is = λ s h. (s, h, refl) }

pub others_on : (before : Level) (items : List Operand) (i : ℕ) (l k : Level) (x : Operand) → i < length items → x ≡ get_or items i x → OthersSoFar before items i l → k ≡ joined l (level_of x.value) → OthersSoFar before items (i + 1) k
others_on before items i l k x lt e h j =
    record {
      is = λ s b.
          let n : (now : term.Operands) × (l ≡ of_operands now) × (operands_from now (drop i items) ≡ operands_from s items) = h.is s b in
          (term.Next n.0 x.at x.value, j ∙ ap (λ y. joined y (level_of x.value)) n.1, ap (λ ts. operands_from n.0 ts) (sym (cut_at items i x lt e)) ∙ n.2);
    }

pub others_end : (before : Level) (items : List Operand) (i : ℕ) (l : Level) → length items ≤ i → OthersSoFar before items i l → (s : term.Operands) → before ≡ of_operands s → l ≡ of_operands (operands_from s items)
others_end before items i l le h s b =
    let n : (now : term.Operands) × (l ≡ of_operands now) × (operands_from now (drop i items) ≡ operands_from s items) = h.is s b in
    n.1 ∙ ap of_operands (ap (λ ts. operands_from n.0 ts) (sym (cut_end items i le)) ∙ n.2)

-- what the level will be, of whatever steps stood before
pub record StepsSoFar (before : Level) (items : List StepAt) (i : ℕ) (level : Level) : Type 0 where
  pub is : (base : Level) (so_far : term.Steps) → before ≡ of_steps base so_far → (now : term.Steps) × (level ≡ of_steps base now) × (steps_from now (drop i items) ≡ steps_from so_far items)

pub steps_begin : (before : Level) (items : List StepAt) → StepsSoFar before items 0 before
steps_begin before items = record { is = λ base s h. (s, h, refl) }

pub steps_on : (before : Level) (items : List StepAt) (i : ℕ) (l k : Level) (x : StepAt) → i < length items → x ≡ get_or items i x → StepsSoFar before items i l → k ≡ of_step l (step_view x.step) → StepsSoFar before items (i + 1) k
steps_on before items i l k x lt e h j =
    record {
      is = λ base s b.
          let n : (now : term.Steps) × (l ≡ of_steps base now) × (steps_from now (drop i items) ≡ steps_from s items) = h.is base s b in
          (term.MoreSteps n.0 x.at (step_view x.step), j ∙ ap (λ y. of_step y (step_view x.step)) n.1, ap (λ ts. steps_from n.0 ts) (sym (cut_at items i x lt e)) ∙ n.2);
    }

pub steps_end : (before : Level) (items : List StepAt) (i : ℕ) (l : Level) → length items ≤ i → StepsSoFar before items i l → (base : Level) (s : term.Steps) → before ≡ of_steps base s → l ≡ of_steps base (steps_from s items)
steps_end before items i l le h base s b =
    let n : (now : term.Steps) × (l ≡ of_steps base now) × (steps_from now (drop i items) ≡ steps_from s items) = h.is base s b in
    n.1 ∙ ap (λ x. of_steps base x) (ap (λ ts. steps_from n.0 ts) (sym (cut_end items i le)) ∙ n.2)
