-- Each name that a fine tree mentions means something.
use Rattle.std.proofs.Common.{◌≡◌, ◌∙◌, refl, subst, List, length}
use Rattle.std.specs.Prelude.{ℕ, true, false, not, ◌&&◌, ◌||◌, Option, Some, None}
use Rattle.std.specs.Str.{bytes_eq}
use Rattle.base_core.specs.declared.place.Place.{Place}
use Rattle.reading_trees.specs.Trees.{Tree, Number, Str, Truth, Builtin, Name, Call, Qualified, At, Parenthesized, Junction, Prefix, Infix, Postfix, SetOf, Filter, Map, Tuple, Function, FunctionSet, Record, RecordSet, Except, Quantified, Choose, If, Case, CaseOther, Let, BoxAction, AngleAction, Fairness, Trees, NoTrees, MoreTrees, Operands, First, Next, Step, Prime, Index, Field, Steps, NoSteps, MoreSteps, Bounds, NoBounds, MoreBounds, Fields, NoFields, MoreFields, Changes, NoChanges, MoreChanges, Arms, NoArms, MoreArms, Definitions, NoDefinitions, MoreDefinitions}
use Rattle.names_scopes.specs.Scopes.{at_sign}
use Rattle.names_scopes.specs.Mentions.{mentions, mentions_each, mentions_operands, mentions_step, mentions_steps, mentions_bounds, mentions_fields, mentions_changes, mentions_arms, mentions_definitions, is_one_of, binds, defines}
use Rattle.names_meanings.specs.Complaints.{Taken, Takes, bound_name, with_name, with_names, with_bounds, with_definitions, with_itself, or_else, counted, number_of, itself, complaint, complaints, operands_complaint, step_complaint, steps_complaint, bounds_complaint, fields_complaint, changes_complaint, arms_complaint, definitions_complaint}
use Rattle.names_terms.specs.declared.operator.Own.{Own}
use Rattle.names_meanings.specs.Owning.{own_of}
use Rattle.names_meaning_laws.specs.Laws.{IsKnown}
use Rattle.names_meaning_laws.proofs.Bits.{left_none, right_none, or_elim, and_elim, same_name, left_false, middle_false, right_false}
use Rattle.names_meaning_laws.proofs.Hiding.{name_hidden, names_hidden, bounds_hidden, definitions_hidden, itself_hidden}

counted_known : (n : List ℕ) (at : Place) (found : ℕ) (o : Option Taken) → counted n at found o ≡ None → IsKnown o
counted_known n at found None h = absurd (cc)
counted_known n at found (Some k) h = (k, refl)

name_known : (g : Takes) (m n : List ℕ) → IsKnown (g m) → bytes_eq m n ≡ true → IsKnown (g n)
name_known g m n k e = subst (λ (x : List ℕ). IsKnown (g x)) (same_name m n e) k

mutual
  pub complaint_known : (g : Takes) (t : Tree) → complaint g t ≡ None → (n : List ℕ) → mentions n t ≡ true → IsKnown (g n)
  complaint_known g (Number at z) h n m = absurd (cc)
  complaint_known g (Str at s) h n m = absurd (cc)
  complaint_known g (Truth at b) h n m = absurd (cc)
  complaint_known g (Builtin at b) h n m = absurd (cc)
  complaint_known g (Name at k) h n m = name_known g k n (counted_known k at 0 (g k) h) m
  complaint_known g (Call at k es) h n m = (or_elim (bytes_eq k n) (mentions_each n es) (λ m. name_known g k n (counted_known k at (number_of es) (g k) (left_none (counted k at (number_of es) (g k)) (complaints g es) h)) m) (λ m. complaints_known g es (right_none (counted k at (number_of es) (g k)) (complaints g es) h) n m)) m
  complaint_known g (Qualified at k es) h n m = (or_elim (bytes_eq k n) (mentions_each n es) (λ m. name_known g k n (counted_known k at (number_of es) (g k) (left_none (counted k at (number_of es) (g k)) (complaints g es) h)) m) (λ m. complaints_known g es (right_none (counted k at (number_of es) (g k)) (complaints g es) h) n m)) m
  complaint_known g (At at) h n m = name_known g at_sign n (counted_known at_sign at 0 (g at_sign) h) m
  complaint_known g (Parenthesized at e) h n m = complaint_known g e h n m
  complaint_known g (Junction at b es) h n m = complaints_known g es h n m
  complaint_known g (Prefix at o e) h n m = complaint_known g e h n m
  complaint_known g (Infix at o os e) h n m = (or_elim (mentions_operands n os) (mentions n e) (λ m. operands_complaint_known g os (left_none (operands_complaint g os) (complaint g e) h) n m) (λ m. complaint_known g e (right_none (operands_complaint g os) (complaint g e) h) n m)) m
  complaint_known g (Postfix at e ss s) h n m = (or_elim ((mentions n e) || (mentions_steps n ss)) (mentions_step n s) (or_elim (mentions n e) (mentions_steps n ss) (λ m. complaint_known g e (left_none (complaint g e) (or_else (steps_complaint g ss) (step_complaint g s)) h) n m) (λ m. steps_complaint_known g ss (left_none (steps_complaint g ss) (step_complaint g s) (right_none (complaint g e) (or_else (steps_complaint g ss) (step_complaint g s)) h)) n m)) (λ m. step_complaint_known g s (right_none (steps_complaint g ss) (step_complaint g s) (right_none (complaint g e) (or_else (steps_complaint g ss) (step_complaint g s)) h)) n m)) m
  complaint_known g (SetOf at es) h n m = complaints_known g es h n m
  complaint_known g (Filter at k s e) h n m = (or_elim (mentions n s) (not (bytes_eq k n) && mentions n e) (λ m. complaint_known g s (left_none (complaint g s) (complaint (with_name g k bound_name) e) h) n m) (and_elim (bytes_eq k n) (mentions n e) (λ q m. subst IsKnown (name_hidden g k bound_name n q) (complaint_known (with_name g k bound_name) e (right_none (complaint g s) (complaint (with_name g k bound_name) e) h) n m)))) m
  complaint_known g (Map at e bs) h n m = (or_elim (not (binds bs n) && mentions n e) (mentions_bounds n bs) (and_elim (binds bs n) (mentions n e) (λ q m. subst IsKnown (bounds_hidden g bs n q) (complaint_known (with_bounds g bs) e (left_none (complaint (with_bounds g bs) e) (bounds_complaint g bs) h) n m))) (λ m. bounds_complaint_known g bs (right_none (complaint (with_bounds g bs) e) (bounds_complaint g bs) h) n m)) m
  complaint_known g (Tuple at es) h n m = complaints_known g es h n m
  complaint_known g (Function at bs e) h n m = (or_elim (mentions_bounds n bs) (not (binds bs n) && mentions n e) (λ m. bounds_complaint_known g bs (left_none (bounds_complaint g bs) (complaint (with_bounds g bs) e) h) n m) (and_elim (binds bs n) (mentions n e) (λ q m. subst IsKnown (bounds_hidden g bs n q) (complaint_known (with_bounds g bs) e (right_none (bounds_complaint g bs) (complaint (with_bounds g bs) e) h) n m)))) m
  complaint_known g (FunctionSet at s e) h n m = (or_elim (mentions n s) (mentions n e) (λ m. complaint_known g s (left_none (complaint g s) (complaint g e) h) n m) (λ m. complaint_known g e (right_none (complaint g s) (complaint g e) h) n m)) m
  complaint_known g (Record at fs) h n m = fields_complaint_known g fs h n m
  complaint_known g (RecordSet at fs) h n m = fields_complaint_known g fs h n m
  complaint_known g (Except at e cs) h n m = (or_elim (mentions n e) (mentions_changes n cs) (λ m. complaint_known g e (left_none (complaint g e) (changes_complaint g cs) h) n m) (λ m. changes_complaint_known g cs (right_none (complaint g e) (changes_complaint g cs) h) n m)) m
  complaint_known g (Quantified at q bs e) h n m = (or_elim (mentions_bounds n bs) (not (binds bs n) && mentions n e) (λ m. bounds_complaint_known g bs (left_none (bounds_complaint g bs) (complaint (with_bounds g bs) e) h) n m) (and_elim (binds bs n) (mentions n e) (λ q m. subst IsKnown (bounds_hidden g bs n q) (complaint_known (with_bounds g bs) e (right_none (bounds_complaint g bs) (complaint (with_bounds g bs) e) h) n m)))) m
  complaint_known g (Choose at k s e) h n m = (or_elim (mentions n s) (not (bytes_eq k n) && mentions n e) (λ m. complaint_known g s (left_none (complaint g s) (complaint (with_name g k bound_name) e) h) n m) (and_elim (bytes_eq k n) (mentions n e) (λ q m. subst IsKnown (name_hidden g k bound_name n q) (complaint_known (with_name g k bound_name) e (right_none (complaint g s) (complaint (with_name g k bound_name) e) h) n m)))) m
  complaint_known g (If at c e f) h n m = (or_elim ((mentions n c) || (mentions n e)) (mentions n f) (or_elim (mentions n c) (mentions n e) (λ m. complaint_known g c (left_none (complaint g c) (or_else (complaint g e) (complaint g f)) h) n m) (λ m. complaint_known g e (left_none (complaint g e) (complaint g f) (right_none (complaint g c) (or_else (complaint g e) (complaint g f)) h)) n m)) (λ m. complaint_known g f (right_none (complaint g e) (complaint g f) (right_none (complaint g c) (or_else (complaint g e) (complaint g f)) h)) n m)) m
  complaint_known g (Case at arms) h n m = arms_complaint_known g arms h n m
  complaint_known g (CaseOther at arms e) h n m = (or_elim (mentions_arms n arms) (mentions n e) (λ m. arms_complaint_known g arms (left_none (arms_complaint g arms) (complaint g e) h) n m) (λ m. complaint_known g e (right_none (arms_complaint g arms) (complaint g e) h) n m)) m
  complaint_known g (Let at ds e) h n m = (or_elim (mentions_definitions n ds) (not (defines ds n) && mentions n e) (λ m. definitions_complaint_known g ds (left_none (definitions_complaint g ds) (complaint (with_definitions g ds) e) h) n m) (and_elim (defines ds n) (mentions n e) (λ q m. subst IsKnown (definitions_hidden g ds n q) (complaint_known (with_definitions g ds) e (right_none (definitions_complaint g ds) (complaint (with_definitions g ds) e) h) n m)))) m
  complaint_known g (BoxAction at e v) h n m = (or_elim (mentions n e) (mentions n v) (λ m. complaint_known g e (left_none (complaint g e) (complaint g v) h) n m) (λ m. complaint_known g v (right_none (complaint g e) (complaint g v) h) n m)) m
  complaint_known g (AngleAction at e v) h n m = (or_elim (mentions n e) (mentions n v) (λ m. complaint_known g e (left_none (complaint g e) (complaint g v) h) n m) (λ m. complaint_known g v (right_none (complaint g e) (complaint g v) h) n m)) m
  complaint_known g (Fairness at v e) h n m = (or_elim (mentions n v) (mentions n e) (λ m. complaint_known g v (left_none (complaint g v) (complaint g e) h) n m) (λ m. complaint_known g e (right_none (complaint g v) (complaint g e) h) n m)) m

  pub complaints_known : (g : Takes) (t : Trees) → complaints g t ≡ None → (n : List ℕ) → mentions_each n t ≡ true → IsKnown (g n)
  complaints_known g NoTrees h n m = absurd (cc)
  complaints_known g (MoreTrees es e) h n m = (or_elim (mentions_each n es) (mentions n e) (λ m. complaints_known g es (left_none (complaints g es) (complaint g e) h) n m) (λ m. complaint_known g e (right_none (complaints g es) (complaint g e) h) n m)) m

  pub operands_complaint_known : (g : Takes) (t : Operands) → operands_complaint g t ≡ None → (n : List ℕ) → mentions_operands n t ≡ true → IsKnown (g n)
  operands_complaint_known g (First e) h n m = complaint_known g e h n m
  operands_complaint_known g (Next os at e) h n m = (or_elim (mentions_operands n os) (mentions n e) (λ m. operands_complaint_known g os (left_none (operands_complaint g os) (complaint g e) h) n m) (λ m. complaint_known g e (right_none (operands_complaint g os) (complaint g e) h) n m)) m

  pub step_complaint_known : (g : Takes) (t : Step) → step_complaint g t ≡ None → (n : List ℕ) → mentions_step n t ≡ true → IsKnown (g n)
  step_complaint_known g Prime h n m = absurd (cc)
  step_complaint_known g (Index es) h n m = complaints_known g es h n m
  step_complaint_known g (Field j) h n m = absurd (cc)

  pub steps_complaint_known : (g : Takes) (t : Steps) → steps_complaint g t ≡ None → (n : List ℕ) → mentions_steps n t ≡ true → IsKnown (g n)
  steps_complaint_known g NoSteps h n m = absurd (cc)
  steps_complaint_known g (MoreSteps ss at s) h n m = (or_elim (mentions_steps n ss) (mentions_step n s) (λ m. steps_complaint_known g ss (left_none (steps_complaint g ss) (step_complaint g s) h) n m) (λ m. step_complaint_known g s (right_none (steps_complaint g ss) (step_complaint g s) h) n m)) m

  pub bounds_complaint_known : (g : Takes) (t : Bounds) → bounds_complaint g t ≡ None → (n : List ℕ) → mentions_bounds n t ≡ true → IsKnown (g n)
  bounds_complaint_known g NoBounds h n m = absurd (cc)
  bounds_complaint_known g (MoreBounds bs ks e) h n m = (or_elim (mentions_bounds n bs) (mentions n e) (λ m. bounds_complaint_known g bs (left_none (bounds_complaint g bs) (complaint g e) h) n m) (λ m. complaint_known g e (right_none (bounds_complaint g bs) (complaint g e) h) n m)) m

  pub fields_complaint_known : (g : Takes) (t : Fields) → fields_complaint g t ≡ None → (n : List ℕ) → mentions_fields n t ≡ true → IsKnown (g n)
  fields_complaint_known g NoFields h n m = absurd (cc)
  fields_complaint_known g (MoreFields fs k e) h n m = (or_elim (mentions_fields n fs) (mentions n e) (λ m. fields_complaint_known g fs (left_none (fields_complaint g fs) (complaint g e) h) n m) (λ m. complaint_known g e (right_none (fields_complaint g fs) (complaint g e) h) n m)) m

  pub changes_complaint_known : (g : Takes) (t : Changes) → changes_complaint g t ≡ None → (n : List ℕ) → mentions_changes n t ≡ true → IsKnown (g n)
  changes_complaint_known g NoChanges h n m = absurd (cc)
  changes_complaint_known g (MoreChanges cs path e) h n m = (or_elim ((mentions_changes n cs) || (mentions_steps n path)) (not (bytes_eq at_sign n) && mentions n e) (or_elim (mentions_changes n cs) (mentions_steps n path) (λ m. changes_complaint_known g cs (left_none (changes_complaint g cs) (or_else (steps_complaint g path) (complaint (with_name g at_sign bound_name) e)) h) n m) (λ m. steps_complaint_known g path (left_none (steps_complaint g path) (complaint (with_name g at_sign bound_name) e) (right_none (changes_complaint g cs) (or_else (steps_complaint g path) (complaint (with_name g at_sign bound_name) e)) h)) n m)) (and_elim (bytes_eq at_sign n) (mentions n e) (λ q m. subst IsKnown (name_hidden g at_sign bound_name n q) (complaint_known (with_name g at_sign bound_name) e (right_none (steps_complaint g path) (complaint (with_name g at_sign bound_name) e) (right_none (changes_complaint g cs) (or_else (steps_complaint g path) (complaint (with_name g at_sign bound_name) e)) h)) n m)))) m

  pub arms_complaint_known : (g : Takes) (t : Arms) → arms_complaint g t ≡ None → (n : List ℕ) → mentions_arms n t ≡ true → IsKnown (g n)
  arms_complaint_known g NoArms h n m = absurd (cc)
  arms_complaint_known g (MoreArms arms c e) h n m = (or_elim ((mentions_arms n arms) || (mentions n c)) (mentions n e) (or_elim (mentions_arms n arms) (mentions n c) (λ m. arms_complaint_known g arms (left_none (arms_complaint g arms) (or_else (complaint g c) (complaint g e)) h) n m) (λ m. complaint_known g c (left_none (complaint g c) (complaint g e) (right_none (arms_complaint g arms) (or_else (complaint g c) (complaint g e)) h)) n m)) (λ m. complaint_known g e (right_none (complaint g c) (complaint g e) (right_none (arms_complaint g arms) (or_else (complaint g c) (complaint g e)) h)) n m)) m

  pub definitions_complaint_known : (g : Takes) (t : Definitions) → definitions_complaint g t ≡ None → (n : List ℕ) → mentions_definitions n t ≡ true → IsKnown (g n)
  definitions_complaint_known g NoDefinitions h n m = absurd (cc)
  definitions_complaint_known g (MoreDefinitions ds k at ps form e) h n m =
      let gd : Takes = with_definitions g ds in
      let own : Own = own_of form k ps e in
      let inner : Takes = with_names (with_itself own gd k (length ps)) ps in
      let rest : or_else (itself gd form k at ps e) (complaint inner e) ≡ None = right_none (definitions_complaint g ds) (or_else (itself gd form k at ps e) (complaint inner e)) h in
      or_elim (mentions_definitions n ds) (not (defines ds n || bytes_eq k n || is_one_of n ps) && mentions n e)
      (λ m. definitions_complaint_known g ds (left_none (definitions_complaint g ds) (or_else (itself gd form k at ps e) (complaint inner e)) h) n m)
      (and_elim (defines ds n || bytes_eq k n || is_one_of n ps) (mentions n e) (λ q m.
      subst IsKnown
      (names_hidden (with_itself own gd k (length ps)) ps n (right_false (defines ds n) (bytes_eq k n) (is_one_of n ps) q) ∙ itself_hidden own gd k (length ps) n (middle_false (defines ds n) (bytes_eq k n) (is_one_of n ps) q) ∙ definitions_hidden g ds n (left_false (defines ds n) (bytes_eq k n) (is_one_of n ps) q))
      (complaint_known inner e (right_none (itself gd form k at ps e) (complaint inner e) rest) n m)))
      m

-- a name that the body of a definition mentions is known around it, but for its own and its parameters
pub body_known : (own : Own) (g : Takes) (k : List ℕ) (c : ℕ) (ps : List (List ℕ)) (e : Tree) → complaint (with_names (with_itself own g k c) ps) e ≡ None → (n : List ℕ) → mentions n e ≡ true → is_one_of n ps ≡ false → bytes_eq k n ≡ false → IsKnown (g n)
body_known own g k c ps e h n m p q =
    subst IsKnown (names_hidden (with_itself own g k c) ps n p ∙ itself_hidden own g k c n q) (complaint_known (with_names (with_itself own g k c) ps) e h n m)
