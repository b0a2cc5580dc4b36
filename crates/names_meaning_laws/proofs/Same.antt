-- What is wrong with a tree depends on the names alone that it mentions.
use Rattle.std.proofs.Common.{◌≡◌, ◌∙◌, ap, refl, List, length}
use Rattle.std.specs.Prelude.{ℕ, true, false, not, ◌&&◌, ◌||◌, Option}
use Rattle.std.specs.Str.{bytes_eq}
use Rattle.reading_trees.specs.Trees.{Tree, Number, Str, Truth, Builtin, Name, Call, Qualified, At, Parenthesized, Junction, Prefix, Infix, Postfix, SetOf, Filter, Map, Tuple, Function, FunctionSet, Record, RecordSet, Except, Quantified, Choose, If, Case, CaseOther, Let, BoxAction, AngleAction, Fairness, Trees, NoTrees, MoreTrees, Operands, First, Next, Step, Prime, Index, Field, Steps, NoSteps, MoreSteps, Bounds, NoBounds, MoreBounds, Fields, NoFields, MoreFields, Changes, NoChanges, MoreChanges, Arms, NoArms, MoreArms, Definitions, NoDefinitions, MoreDefinitions}
use Rattle.names_meanings.specs.declared.fault.NameFault.{NameFault}
use Rattle.names_scopes.specs.Scopes.{at_sign}
use Rattle.names_scopes.specs.Mentions.{mentions, mentions_each, mentions_operands, mentions_step, mentions_steps, mentions_bounds, mentions_fields, mentions_changes, mentions_arms, mentions_definitions, is_one_of, binds, defines}
use Rattle.names_meanings.specs.Complaints.{Taken, Takes, bound_name, with_name, with_names, with_bounds, with_definitions, with_itself, or_else, counted, number_of, itself, complaint, complaints, operands_complaint, step_complaint, steps_complaint, bounds_complaint, fields_complaint, changes_complaint, arms_complaint, definitions_complaint}
use Rattle.names_terms.specs.declared.operator.Own.{Own}
use Rattle.names_terms.specs.declared.operator.Own.TheVariants as owns
use Rattle.names_meanings.specs.Owning.{own_of}
use Rattle.names_meanings.proofs.Risen.{other_name}
use Rattle.names_meaning_laws.proofs.Bits.{or_same, or_left, or_right, or_equal, hidden_and, none_of}
use Rattle.names_meaning_laws.proofs.Hiding.{name_same, names_same, bounds_same, definitions_same, rises_same, itself_same}
use Rattle.names_meaning_laws.proofs.Bits.{itself_is}

-- a body, where it is known whether the definition uses itself wrongly: else it does not mention its name, or sees itself by it
seen_same : (own : Own) (g g' : Takes) (k : List ℕ) (c : ℕ) (ps : List (List ℕ)) (e : Tree) → (own ≡ owns.Apart → (n : List ℕ) → mentions n e ≡ true → is_one_of n ps ≡ false → bytes_eq k n ≡ false) → ((n : List ℕ) → mentions n e ≡ true → is_one_of n ps ≡ false → bytes_eq k n ≡ false → g n ≡ g' n) → (n : List ℕ) → mentions n e ≡ true → with_names (with_itself own g k c) ps n ≡ with_names (with_itself own g' k c) ps n
seen_same owns.Apart g g' k c ps e w a n m = names_same g g' ps n (λ q. a n m q (w refl n m q))
seen_same owns.Itself g g' k c ps e w a n m = let it : Taken = record { needed = c; is_above = false } in names_same (with_name g k it) (with_name g' k it) ps n (λ q. name_same g g' k it n (λ r. a n m q r))
seen_same owns.Function g g' k c ps e w a n m = let it : Taken = record { needed = c; is_above = false } in names_same (with_name g k it) (with_name g' k it) ps n (λ q. name_same g g' k it n (λ r. a n m q r))

mutual
  pub complaint_same : (g g' : Takes) (t : Tree) → ((n : List ℕ) → mentions n t ≡ true → g n ≡ g' n) → complaint g t ≡ complaint g' t
  complaint_same g g' (Number at z) a = refl
  complaint_same g g' (Str at s) a = refl
  complaint_same g g' (Truth at b) a = refl
  complaint_same g g' (Builtin at b) a = refl
  complaint_same g g' (Name at k) a = ap (λ (x : Option Taken). counted k at 0 x) (a k (itself_is k))
  complaint_same g g' (Call at k es) a = or_same (counted k at (number_of es) (g k)) (counted k at (number_of es) (g' k)) (complaints g es) (complaints g' es) (ap (λ (x : Option Taken). counted k at (number_of es) x) (a k (or_left (bytes_eq k k) (mentions_each k es) (itself_is k)))) (complaints_same g g' es (λ n m. a n (or_right (bytes_eq k n) (mentions_each n es) m)))
  complaint_same g g' (Qualified at k es) a = or_same (counted k at (number_of es) (g k)) (counted k at (number_of es) (g' k)) (complaints g es) (complaints g' es) (ap (λ (x : Option Taken). counted k at (number_of es) x) (a k (or_left (bytes_eq k k) (mentions_each k es) (itself_is k)))) (complaints_same g g' es (λ n m. a n (or_right (bytes_eq k n) (mentions_each n es) m)))
  complaint_same g g' (At at) a = ap (λ (x : Option Taken). counted at_sign at 0 x) (a at_sign (itself_is at_sign))
  complaint_same g g' (Parenthesized at e) a = complaint_same g g' e (λ n m. a n m)
  complaint_same g g' (Junction at b es) a = complaints_same g g' es (λ n m. a n m)
  complaint_same g g' (Prefix at o e) a = complaint_same g g' e (λ n m. a n m)
  complaint_same g g' (Infix at o os e) a = or_same (operands_complaint g os) (operands_complaint g' os) (complaint g e) (complaint g' e) (operands_complaint_same g g' os (λ n m. a n (or_left (mentions_operands n os) (mentions n e) m))) (complaint_same g g' e (λ n m. a n (or_right (mentions_operands n os) (mentions n e) m)))
  complaint_same g g' (Postfix at e ss s) a = or_same (complaint g e) (complaint g' e) (or_else (steps_complaint g ss) (step_complaint g s)) (or_else (steps_complaint g' ss) (step_complaint g' s)) (complaint_same g g' e (λ n m. a n (or_left ((mentions n e) || (mentions_steps n ss)) (mentions_step n s) (or_left (mentions n e) (mentions_steps n ss) m)))) (or_same (steps_complaint g ss) (steps_complaint g' ss) (step_complaint g s) (step_complaint g' s) (steps_complaint_same g g' ss (λ n m. a n (or_left ((mentions n e) || (mentions_steps n ss)) (mentions_step n s) (or_right (mentions n e) (mentions_steps n ss) m)))) (step_complaint_same g g' s (λ n m. a n (or_right ((mentions n e) || (mentions_steps n ss)) (mentions_step n s) m))))
  complaint_same g g' (SetOf at es) a = complaints_same g g' es (λ n m. a n m)
  complaint_same g g' (Filter at k s e) a = or_same (complaint g s) (complaint g' s) (complaint (with_name g k bound_name) e) (complaint (with_name g' k bound_name) e) (complaint_same g g' s (λ n m. a n (or_left (mentions n s) (not (bytes_eq k n) && mentions n e) m))) (complaint_same (with_name g k bound_name) (with_name g' k bound_name) e (λ n m. name_same g g' k bound_name n (λ q. a n (or_right (mentions n s) (not (bytes_eq k n) && mentions n e) (hidden_and (bytes_eq k n) (mentions n e) q m)))))
  complaint_same g g' (Map at e bs) a = or_same (complaint (with_bounds g bs) e) (complaint (with_bounds g' bs) e) (bounds_complaint g bs) (bounds_complaint g' bs) (complaint_same (with_bounds g bs) (with_bounds g' bs) e (λ n m. bounds_same g g' bs n (λ q. a n (or_left (not (binds bs n) && mentions n e) (mentions_bounds n bs) (hidden_and (binds bs n) (mentions n e) q m))))) (bounds_complaint_same g g' bs (λ n m. a n (or_right (not (binds bs n) && mentions n e) (mentions_bounds n bs) m)))
  complaint_same g g' (Tuple at es) a = complaints_same g g' es (λ n m. a n m)
  complaint_same g g' (Function at bs e) a = or_same (bounds_complaint g bs) (bounds_complaint g' bs) (complaint (with_bounds g bs) e) (complaint (with_bounds g' bs) e) (bounds_complaint_same g g' bs (λ n m. a n (or_left (mentions_bounds n bs) (not (binds bs n) && mentions n e) m))) (complaint_same (with_bounds g bs) (with_bounds g' bs) e (λ n m. bounds_same g g' bs n (λ q. a n (or_right (mentions_bounds n bs) (not (binds bs n) && mentions n e) (hidden_and (binds bs n) (mentions n e) q m)))))
  complaint_same g g' (FunctionSet at s e) a = or_same (complaint g s) (complaint g' s) (complaint g e) (complaint g' e) (complaint_same g g' s (λ n m. a n (or_left (mentions n s) (mentions n e) m))) (complaint_same g g' e (λ n m. a n (or_right (mentions n s) (mentions n e) m)))
  complaint_same g g' (Record at fs) a = fields_complaint_same g g' fs (λ n m. a n m)
  complaint_same g g' (RecordSet at fs) a = fields_complaint_same g g' fs (λ n m. a n m)
  complaint_same g g' (Except at e cs) a = or_same (complaint g e) (complaint g' e) (changes_complaint g cs) (changes_complaint g' cs) (complaint_same g g' e (λ n m. a n (or_left (mentions n e) (mentions_changes n cs) m))) (changes_complaint_same g g' cs (λ n m. a n (or_right (mentions n e) (mentions_changes n cs) m)))
  complaint_same g g' (Quantified at q bs e) a = or_same (bounds_complaint g bs) (bounds_complaint g' bs) (complaint (with_bounds g bs) e) (complaint (with_bounds g' bs) e) (bounds_complaint_same g g' bs (λ n m. a n (or_left (mentions_bounds n bs) (not (binds bs n) && mentions n e) m))) (complaint_same (with_bounds g bs) (with_bounds g' bs) e (λ n m. bounds_same g g' bs n (λ q. a n (or_right (mentions_bounds n bs) (not (binds bs n) && mentions n e) (hidden_and (binds bs n) (mentions n e) q m)))))
  complaint_same g g' (Choose at k s e) a = or_same (complaint g s) (complaint g' s) (complaint (with_name g k bound_name) e) (complaint (with_name g' k bound_name) e) (complaint_same g g' s (λ n m. a n (or_left (mentions n s) (not (bytes_eq k n) && mentions n e) m))) (complaint_same (with_name g k bound_name) (with_name g' k bound_name) e (λ n m. name_same g g' k bound_name n (λ q. a n (or_right (mentions n s) (not (bytes_eq k n) && mentions n e) (hidden_and (bytes_eq k n) (mentions n e) q m)))))
  complaint_same g g' (If at c e f) a = or_same (complaint g c) (complaint g' c) (or_else (complaint g e) (complaint g f)) (or_else (complaint g' e) (complaint g' f)) (complaint_same g g' c (λ n m. a n (or_left ((mentions n c) || (mentions n e)) (mentions n f) (or_left (mentions n c) (mentions n e) m)))) (or_same (complaint g e) (complaint g' e) (complaint g f) (complaint g' f) (complaint_same g g' e (λ n m. a n (or_left ((mentions n c) || (mentions n e)) (mentions n f) (or_right (mentions n c) (mentions n e) m)))) (complaint_same g g' f (λ n m. a n (or_right ((mentions n c) || (mentions n e)) (mentions n f) m))))
  complaint_same g g' (Case at arms) a = arms_complaint_same g g' arms (λ n m. a n m)
  complaint_same g g' (CaseOther at arms e) a = or_same (arms_complaint g arms) (arms_complaint g' arms) (complaint g e) (complaint g' e) (arms_complaint_same g g' arms (λ n m. a n (or_left (mentions_arms n arms) (mentions n e) m))) (complaint_same g g' e (λ n m. a n (or_right (mentions_arms n arms) (mentions n e) m)))
  complaint_same g g' (Let at ds e) a = or_same (definitions_complaint g ds) (definitions_complaint g' ds) (complaint (with_definitions g ds) e) (complaint (with_definitions g' ds) e) (definitions_complaint_same g g' ds (λ n m. a n (or_left (mentions_definitions n ds) (not (defines ds n) && mentions n e) m))) (complaint_same (with_definitions g ds) (with_definitions g' ds) e (λ n m. definitions_same g g' ds (λ k t. a k (or_left (mentions_definitions k ds) (not (defines ds k) && mentions k e) t)) n (λ q. a n (or_right (mentions_definitions n ds) (not (defines ds n) && mentions n e) (hidden_and (defines ds n) (mentions n e) q m)))))
  complaint_same g g' (BoxAction at e v) a = or_same (complaint g e) (complaint g' e) (complaint g v) (complaint g' v) (complaint_same g g' e (λ n m. a n (or_left (mentions n e) (mentions n v) m))) (complaint_same g g' v (λ n m. a n (or_right (mentions n e) (mentions n v) m)))
  complaint_same g g' (AngleAction at e v) a = or_same (complaint g e) (complaint g' e) (complaint g v) (complaint g' v) (complaint_same g g' e (λ n m. a n (or_left (mentions n e) (mentions n v) m))) (complaint_same g g' v (λ n m. a n (or_right (mentions n e) (mentions n v) m)))
  complaint_same g g' (Fairness at v e) a = or_same (complaint g v) (complaint g' v) (complaint g e) (complaint g' e) (complaint_same g g' v (λ n m. a n (or_left (mentions n v) (mentions n e) m))) (complaint_same g g' e (λ n m. a n (or_right (mentions n v) (mentions n e) m)))

  pub complaints_same : (g g' : Takes) (t : Trees) → ((n : List ℕ) → mentions_each n t ≡ true → g n ≡ g' n) → complaints g t ≡ complaints g' t
  complaints_same g g' NoTrees a = refl
  complaints_same g g' (MoreTrees es e) a = or_same (complaints g es) (complaints g' es) (complaint g e) (complaint g' e) (complaints_same g g' es (λ n m. a n (or_left (mentions_each n es) (mentions n e) m))) (complaint_same g g' e (λ n m. a n (or_right (mentions_each n es) (mentions n e) m)))

  pub operands_complaint_same : (g g' : Takes) (t : Operands) → ((n : List ℕ) → mentions_operands n t ≡ true → g n ≡ g' n) → operands_complaint g t ≡ operands_complaint g' t
  operands_complaint_same g g' (First e) a = complaint_same g g' e (λ n m. a n m)
  operands_complaint_same g g' (Next os at e) a = or_same (operands_complaint g os) (operands_complaint g' os) (complaint g e) (complaint g' e) (operands_complaint_same g g' os (λ n m. a n (or_left (mentions_operands n os) (mentions n e) m))) (complaint_same g g' e (λ n m. a n (or_right (mentions_operands n os) (mentions n e) m)))

  pub step_complaint_same : (g g' : Takes) (t : Step) → ((n : List ℕ) → mentions_step n t ≡ true → g n ≡ g' n) → step_complaint g t ≡ step_complaint g' t
  step_complaint_same g g' Prime a = refl
  step_complaint_same g g' (Index es) a = complaints_same g g' es (λ n m. a n m)
  step_complaint_same g g' (Field j) a = refl

  pub steps_complaint_same : (g g' : Takes) (t : Steps) → ((n : List ℕ) → mentions_steps n t ≡ true → g n ≡ g' n) → steps_complaint g t ≡ steps_complaint g' t
  steps_complaint_same g g' NoSteps a = refl
  steps_complaint_same g g' (MoreSteps ss at s) a = or_same (steps_complaint g ss) (steps_complaint g' ss) (step_complaint g s) (step_complaint g' s) (steps_complaint_same g g' ss (λ n m. a n (or_left (mentions_steps n ss) (mentions_step n s) m))) (step_complaint_same g g' s (λ n m. a n (or_right (mentions_steps n ss) (mentions_step n s) m)))

  pub bounds_complaint_same : (g g' : Takes) (t : Bounds) → ((n : List ℕ) → mentions_bounds n t ≡ true → g n ≡ g' n) → bounds_complaint g t ≡ bounds_complaint g' t
  bounds_complaint_same g g' NoBounds a = refl
  bounds_complaint_same g g' (MoreBounds bs ks e) a = or_same (bounds_complaint g bs) (bounds_complaint g' bs) (complaint g e) (complaint g' e) (bounds_complaint_same g g' bs (λ n m. a n (or_left (mentions_bounds n bs) (mentions n e) m))) (complaint_same g g' e (λ n m. a n (or_right (mentions_bounds n bs) (mentions n e) m)))

  pub fields_complaint_same : (g g' : Takes) (t : Fields) → ((n : List ℕ) → mentions_fields n t ≡ true → g n ≡ g' n) → fields_complaint g t ≡ fields_complaint g' t
  fields_complaint_same g g' NoFields a = refl
  fields_complaint_same g g' (MoreFields fs k e) a = or_same (fields_complaint g fs) (fields_complaint g' fs) (complaint g e) (complaint g' e) (fields_complaint_same g g' fs (λ n m. a n (or_left (mentions_fields n fs) (mentions n e) m))) (complaint_same g g' e (λ n m. a n (or_right (mentions_fields n fs) (mentions n e) m)))

  pub changes_complaint_same : (g g' : Takes) (t : Changes) → ((n : List ℕ) → mentions_changes n t ≡ true → g n ≡ g' n) → changes_complaint g t ≡ changes_complaint g' t
  changes_complaint_same g g' NoChanges a = refl
  changes_complaint_same g g' (MoreChanges cs path e) a = or_same (changes_complaint g cs) (changes_complaint g' cs) (or_else (steps_complaint g path) (complaint (with_name g at_sign bound_name) e)) (or_else (steps_complaint g' path) (complaint (with_name g' at_sign bound_name) e)) (changes_complaint_same g g' cs (λ n m. a n (or_left ((mentions_changes n cs) || (mentions_steps n path)) (not (bytes_eq at_sign n) && mentions n e) (or_left (mentions_changes n cs) (mentions_steps n path) m)))) (or_same (steps_complaint g path) (steps_complaint g' path) (complaint (with_name g at_sign bound_name) e) (complaint (with_name g' at_sign bound_name) e) (steps_complaint_same g g' path (λ n m. a n (or_left ((mentions_changes n cs) || (mentions_steps n path)) (not (bytes_eq at_sign n) && mentions n e) (or_right (mentions_changes n cs) (mentions_steps n path) m)))) (complaint_same (with_name g at_sign bound_name) (with_name g' at_sign bound_name) e (λ n m. name_same g g' at_sign bound_name n (λ q. a n (or_right ((mentions_changes n cs) || (mentions_steps n path)) (not (bytes_eq at_sign n) && mentions n e) (hidden_and (bytes_eq at_sign n) (mentions n e) q m))))))

  pub arms_complaint_same : (g g' : Takes) (t : Arms) → ((n : List ℕ) → mentions_arms n t ≡ true → g n ≡ g' n) → arms_complaint g t ≡ arms_complaint g' t
  arms_complaint_same g g' NoArms a = refl
  arms_complaint_same g g' (MoreArms arms c e) a = or_same (arms_complaint g arms) (arms_complaint g' arms) (or_else (complaint g c) (complaint g e)) (or_else (complaint g' c) (complaint g' e)) (arms_complaint_same g g' arms (λ n m. a n (or_left ((mentions_arms n arms) || (mentions n c)) (mentions n e) (or_left (mentions_arms n arms) (mentions n c) m)))) (or_same (complaint g c) (complaint g' c) (complaint g e) (complaint g' e) (complaint_same g g' c (λ n m. a n (or_left ((mentions_arms n arms) || (mentions n c)) (mentions n e) (or_right (mentions_arms n arms) (mentions n c) m)))) (complaint_same g g' e (λ n m. a n (or_right ((mentions_arms n arms) || (mentions n c)) (mentions n e) m))))

  pub definitions_complaint_same : (g g' : Takes) (t : Definitions) → ((n : List ℕ) → mentions_definitions n t ≡ true → g n ≡ g' n) → definitions_complaint g t ≡ definitions_complaint g' t
  definitions_complaint_same g g' NoDefinitions a = refl
  definitions_complaint_same g g' (MoreDefinitions ds k at ps form e) a =
      let gd : Takes = with_definitions g ds in
      let gd' : Takes = with_definitions g' ds in
      let own : Own = own_of form k ps e in
      let inner : Takes = with_names (with_itself own gd k (length ps)) ps in
      let inner' : Takes = with_names (with_itself own gd' k (length ps)) ps in
      let before : (n : List ℕ) → mentions_definitions n ds ≡ true → g n ≡ g' n = λ n m. a n (or_left (mentions_definitions n ds) (not (defines ds n || bytes_eq k n || is_one_of n ps) && mentions n e) m) in
      let around : (n : List ℕ) → mentions n e ≡ true → is_one_of n ps ≡ false → bytes_eq k n ≡ false → gd n ≡ gd' n = λ n m q w.
      definitions_same g g' ds before n (λ r. a n (or_right (mentions_definitions n ds) (not (defines ds n || bytes_eq k n || is_one_of n ps) && mentions n e) (hidden_and (defines ds n || bytes_eq k n || is_one_of n ps) (mentions n e) (none_of (defines ds n) (bytes_eq k n) (is_one_of n ps) r w q) m))) in
      let own_same : itself gd form k at ps e ≡ itself gd' form k at ps e = itself_same gd gd' form k at ps e (rises_same gd gd' k ps e around) in
      or_same (definitions_complaint g ds) (definitions_complaint g' ds) (or_else (itself gd form k at ps e) (complaint inner e)) (or_else (itself gd' form k at ps e) (complaint inner' e))
      (definitions_complaint_same g g' ds before)
      (or_equal (itself gd form k at ps e) (complaint inner e) (complaint inner' e) (λ fine. complaint_same inner inner' e (seen_same own gd gd' k (length ps) ps e (λ apart n m q. other_name form gd k at ps e apart fine n m q) around))
      ∙ ap (λ (o : Option NameFault). or_else o (complaint inner' e)) own_same)
