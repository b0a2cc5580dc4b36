-- What is fine among some names is fine among more.
use Rattle.std.proofs.Common.{◌≡◌, ◌∙◌, sym, ap, refl, subst, List, length}
use Rattle.std.specs.Prelude.{ℕ, Bool, Option, Some, None}
use Rattle.base_core.specs.declared.place.Place.{Place}
use Rattle.reading_trees.specs.Trees.{Tree, Number, Str, Truth, Builtin, Name, Call, Qualified, At, Parenthesized, Junction, Prefix, Infix, Postfix, SetOf, Filter, Map, Tuple, Function, FunctionSet, Record, RecordSet, Except, Quantified, Choose, If, Case, CaseOther, Let, BoxAction, AngleAction, Fairness, Trees, NoTrees, MoreTrees, Operands, First, Next, Step, Prime, Index, Field, Steps, NoSteps, MoreSteps, Bounds, NoBounds, MoreBounds, Fields, NoFields, MoreFields, Changes, NoChanges, MoreChanges, Arms, NoArms, MoreArms, Definitions, NoDefinitions, MoreDefinitions}
use Rattle.names_scopes.specs.Scopes.{at_sign}
use Rattle.names_meanings.specs.Complaints.{Taken, Takes, bound_name, told, defined, with_name, with_names, with_bounds, with_definitions, with_itself, or_else, counted, number_of, itself, complaint, complaints, operands_complaint, step_complaint, steps_complaint, bounds_complaint, fields_complaint, changes_complaint, arms_complaint, definitions_complaint}
use Rattle.names_terms.specs.declared.operator.Own.{Own}
use Rattle.names_least_levels.specs.Rising.{rises, without, with_own}
use Rattle.names_meanings.specs.Owning.{own_of}
use Rattle.names_meaning_laws.specs.Laws.{Keeps, IsKnown}
use Rattle.names_meaning_laws.proofs.Bits.{or_none, left_none, right_none}
use Rattle.names_meaning_laws.proofs.Hiding.{keeps_name, keeps_names, keeps_bounds, keeps_itself, rises_same, itself_same}
use Rattle.names_meaning_laws.proofs.Known.{body_known}

counted_fine : (n : List ℕ) (at : Place) (found : ℕ) (o o' : Option Taken) → ((k : Taken) → o ≡ Some k → o' ≡ Some k) → counted n at found o ≡ None → counted n at found o' ≡ None
counted_fine n at found None o' p h = absurd (cc)
counted_fine n at found (Some k) o' p h = ap (λ (x : Option Taken). counted n at found x) (p k refl) ∙ h

known_kept : (o o' : Option Taken) → IsKnown o → ((k : Taken) → o ≡ Some k → o' ≡ Some k) → o ≡ o'
known_kept o o' k p = k.1 ∙ sym (p k.0 k.1)

-- the level of a body is the same, where nothing is wrong with its names
rises_kept : (own : Own) (g g' : Takes) (k : List ℕ) (c : ℕ) (ps : List (List ℕ)) (e : Tree) → Keeps g g' → complaint (with_names (with_itself own g k c) ps) e ≡ None → rises (without (with_own (told g) k) ps) e ≡ rises (without (with_own (told g') k) ps) e
rises_kept own g g' k c ps e p h = rises_same g g' k ps e (λ n m q r. known_kept (g n) (g' n) (body_known own g k c ps e h n m q r) (p n))

keeps_definitions : (g g' : Takes) → Keeps g g' → (ds : Definitions) → definitions_complaint g ds ≡ None → Keeps (with_definitions g ds) (with_definitions g' ds)
keeps_definitions g g' p NoDefinitions h = p
keeps_definitions g g' p (MoreDefinitions ds k at ps form e) h =
    let gd : Takes = with_definitions g ds in
    let gd' : Takes = with_definitions g' ds in
    let own : Own = own_of form k ps e in
    let inner : Takes = with_names (with_itself own gd k (length ps)) ps in
    let before : Keeps gd gd' = keeps_definitions g g' p ds (left_none (definitions_complaint g ds) (or_else (itself gd form k at ps e) (complaint inner e)) h) in
    let body : complaint inner e ≡ None = right_none (itself gd form k at ps e) (complaint inner e) (right_none (definitions_complaint g ds) (or_else (itself gd form k at ps e) (complaint inner e)) h) in
    subst (λ (b : Bool). Keeps (with_name gd k (defined gd k ps e)) (with_name gd' k (record { needed = length ps; is_above = b }))) (rises_kept own gd gd' k (length ps) ps e before body)
    (keeps_name gd gd' before k (defined gd k ps e))

mutual
  pub complaint_fine : (g g' : Takes) → Keeps g g' → (t : Tree) → complaint g t ≡ None → complaint g' t ≡ None
  complaint_fine g g' p (Number at z) h = refl
  complaint_fine g g' p (Str at s) h = refl
  complaint_fine g g' p (Truth at b) h = refl
  complaint_fine g g' p (Builtin at b) h = refl
  complaint_fine g g' p (Name at k) h = counted_fine k at 0 (g k) (g' k) (p k) h
  complaint_fine g g' p (Call at k es) h = or_none (counted k at (number_of es) (g' k)) (complaints g' es) (counted_fine k at (number_of es) (g k) (g' k) (p k) (left_none (counted k at (number_of es) (g k)) (complaints g es) h)) (complaints_fine g g' p es (right_none (counted k at (number_of es) (g k)) (complaints g es) h))
  complaint_fine g g' p (Qualified at k es) h = or_none (counted k at (number_of es) (g' k)) (complaints g' es) (counted_fine k at (number_of es) (g k) (g' k) (p k) (left_none (counted k at (number_of es) (g k)) (complaints g es) h)) (complaints_fine g g' p es (right_none (counted k at (number_of es) (g k)) (complaints g es) h))
  complaint_fine g g' p (At at) h = counted_fine at_sign at 0 (g at_sign) (g' at_sign) (p at_sign) h
  complaint_fine g g' p (Parenthesized at e) h = complaint_fine g g' p e h
  complaint_fine g g' p (Junction at b es) h = complaints_fine g g' p es h
  complaint_fine g g' p (Prefix at o e) h = complaint_fine g g' p e h
  complaint_fine g g' p (Infix at o os e) h = or_none (operands_complaint g' os) (complaint g' e) (operands_complaint_fine g g' p os (left_none (operands_complaint g os) (complaint g e) h)) (complaint_fine g g' p e (right_none (operands_complaint g os) (complaint g e) h))
  complaint_fine g g' p (Postfix at e ss s) h = or_none (complaint g' e) (or_else (steps_complaint g' ss) (step_complaint g' s)) (complaint_fine g g' p e (left_none (complaint g e) (or_else (steps_complaint g ss) (step_complaint g s)) h)) (or_none (steps_complaint g' ss) (step_complaint g' s) (steps_complaint_fine g g' p ss (left_none (steps_complaint g ss) (step_complaint g s) (right_none (complaint g e) (or_else (steps_complaint g ss) (step_complaint g s)) h))) (step_complaint_fine g g' p s (right_none (steps_complaint g ss) (step_complaint g s) (right_none (complaint g e) (or_else (steps_complaint g ss) (step_complaint g s)) h))))
  complaint_fine g g' p (SetOf at es) h = complaints_fine g g' p es h
  complaint_fine g g' p (Filter at k s e) h = or_none (complaint g' s) (complaint (with_name g' k bound_name) e) (complaint_fine g g' p s (left_none (complaint g s) (complaint (with_name g k bound_name) e) h)) (complaint_fine (with_name g k bound_name) (with_name g' k bound_name) (keeps_name g g' p k bound_name) e (right_none (complaint g s) (complaint (with_name g k bound_name) e) h))
  complaint_fine g g' p (Map at e bs) h = or_none (complaint (with_bounds g' bs) e) (bounds_complaint g' bs) (complaint_fine (with_bounds g bs) (with_bounds g' bs) (keeps_bounds g g' p bs) e (left_none (complaint (with_bounds g bs) e) (bounds_complaint g bs) h)) (bounds_complaint_fine g g' p bs (right_none (complaint (with_bounds g bs) e) (bounds_complaint g bs) h))
  complaint_fine g g' p (Tuple at es) h = complaints_fine g g' p es h
  complaint_fine g g' p (Function at bs e) h = or_none (bounds_complaint g' bs) (complaint (with_bounds g' bs) e) (bounds_complaint_fine g g' p bs (left_none (bounds_complaint g bs) (complaint (with_bounds g bs) e) h)) (complaint_fine (with_bounds g bs) (with_bounds g' bs) (keeps_bounds g g' p bs) e (right_none (bounds_complaint g bs) (complaint (with_bounds g bs) e) h))
  complaint_fine g g' p (FunctionSet at s e) h = or_none (complaint g' s) (complaint g' e) (complaint_fine g g' p s (left_none (complaint g s) (complaint g e) h)) (complaint_fine g g' p e (right_none (complaint g s) (complaint g e) h))
  complaint_fine g g' p (Record at fs) h = fields_complaint_fine g g' p fs h
  complaint_fine g g' p (RecordSet at fs) h = fields_complaint_fine g g' p fs h
  complaint_fine g g' p (Except at e cs) h = or_none (complaint g' e) (changes_complaint g' cs) (complaint_fine g g' p e (left_none (complaint g e) (changes_complaint g cs) h)) (changes_complaint_fine g g' p cs (right_none (complaint g e) (changes_complaint g cs) h))
  complaint_fine g g' p (Quantified at q bs e) h = or_none (bounds_complaint g' bs) (complaint (with_bounds g' bs) e) (bounds_complaint_fine g g' p bs (left_none (bounds_complaint g bs) (complaint (with_bounds g bs) e) h)) (complaint_fine (with_bounds g bs) (with_bounds g' bs) (keeps_bounds g g' p bs) e (right_none (bounds_complaint g bs) (complaint (with_bounds g bs) e) h))
  complaint_fine g g' p (Choose at k s e) h = or_none (complaint g' s) (complaint (with_name g' k bound_name) e) (complaint_fine g g' p s (left_none (complaint g s) (complaint (with_name g k bound_name) e) h)) (complaint_fine (with_name g k bound_name) (with_name g' k bound_name) (keeps_name g g' p k bound_name) e (right_none (complaint g s) (complaint (with_name g k bound_name) e) h))
  complaint_fine g g' p (If at c e f) h = or_none (complaint g' c) (or_else (complaint g' e) (complaint g' f)) (complaint_fine g g' p c (left_none (complaint g c) (or_else (complaint g e) (complaint g f)) h)) (or_none (complaint g' e) (complaint g' f) (complaint_fine g g' p e (left_none (complaint g e) (complaint g f) (right_none (complaint g c) (or_else (complaint g e) (complaint g f)) h))) (complaint_fine g g' p f (right_none (complaint g e) (complaint g f) (right_none (complaint g c) (or_else (complaint g e) (complaint g f)) h))))
  complaint_fine g g' p (Case at arms) h = arms_complaint_fine g g' p arms h
  complaint_fine g g' p (CaseOther at arms e) h = or_none (arms_complaint g' arms) (complaint g' e) (arms_complaint_fine g g' p arms (left_none (arms_complaint g arms) (complaint g e) h)) (complaint_fine g g' p e (right_none (arms_complaint g arms) (complaint g e) h))
  complaint_fine g g' p (Let at ds e) h = or_none (definitions_complaint g' ds) (complaint (with_definitions g' ds) e) (definitions_complaint_fine g g' p ds (left_none (definitions_complaint g ds) (complaint (with_definitions g ds) e) h)) (complaint_fine (with_definitions g ds) (with_definitions g' ds) (keeps_definitions g g' p ds (left_none (definitions_complaint g ds) (complaint (with_definitions g ds) e) h)) e (right_none (definitions_complaint g ds) (complaint (with_definitions g ds) e) h))
  complaint_fine g g' p (BoxAction at e v) h = or_none (complaint g' e) (complaint g' v) (complaint_fine g g' p e (left_none (complaint g e) (complaint g v) h)) (complaint_fine g g' p v (right_none (complaint g e) (complaint g v) h))
  complaint_fine g g' p (AngleAction at e v) h = or_none (complaint g' e) (complaint g' v) (complaint_fine g g' p e (left_none (complaint g e) (complaint g v) h)) (complaint_fine g g' p v (right_none (complaint g e) (complaint g v) h))
  complaint_fine g g' p (Fairness at v e) h = or_none (complaint g' v) (complaint g' e) (complaint_fine g g' p v (left_none (complaint g v) (complaint g e) h)) (complaint_fine g g' p e (right_none (complaint g v) (complaint g e) h))

  pub complaints_fine : (g g' : Takes) → Keeps g g' → (t : Trees) → complaints g t ≡ None → complaints g' t ≡ None
  complaints_fine g g' p NoTrees h = refl
  complaints_fine g g' p (MoreTrees es e) h = or_none (complaints g' es) (complaint g' e) (complaints_fine g g' p es (left_none (complaints g es) (complaint g e) h)) (complaint_fine g g' p e (right_none (complaints g es) (complaint g e) h))

  pub operands_complaint_fine : (g g' : Takes) → Keeps g g' → (t : Operands) → operands_complaint g t ≡ None → operands_complaint g' t ≡ None
  operands_complaint_fine g g' p (First e) h = complaint_fine g g' p e h
  operands_complaint_fine g g' p (Next os at e) h = or_none (operands_complaint g' os) (complaint g' e) (operands_complaint_fine g g' p os (left_none (operands_complaint g os) (complaint g e) h)) (complaint_fine g g' p e (right_none (operands_complaint g os) (complaint g e) h))

  pub step_complaint_fine : (g g' : Takes) → Keeps g g' → (t : Step) → step_complaint g t ≡ None → step_complaint g' t ≡ None
  step_complaint_fine g g' p Prime h = refl
  step_complaint_fine g g' p (Index es) h = complaints_fine g g' p es h
  step_complaint_fine g g' p (Field j) h = refl

  pub steps_complaint_fine : (g g' : Takes) → Keeps g g' → (t : Steps) → steps_complaint g t ≡ None → steps_complaint g' t ≡ None
  steps_complaint_fine g g' p NoSteps h = refl
  steps_complaint_fine g g' p (MoreSteps ss at s) h = or_none (steps_complaint g' ss) (step_complaint g' s) (steps_complaint_fine g g' p ss (left_none (steps_complaint g ss) (step_complaint g s) h)) (step_complaint_fine g g' p s (right_none (steps_complaint g ss) (step_complaint g s) h))

  pub bounds_complaint_fine : (g g' : Takes) → Keeps g g' → (t : Bounds) → bounds_complaint g t ≡ None → bounds_complaint g' t ≡ None
  bounds_complaint_fine g g' p NoBounds h = refl
  bounds_complaint_fine g g' p (MoreBounds bs ks e) h = or_none (bounds_complaint g' bs) (complaint g' e) (bounds_complaint_fine g g' p bs (left_none (bounds_complaint g bs) (complaint g e) h)) (complaint_fine g g' p e (right_none (bounds_complaint g bs) (complaint g e) h))

  pub fields_complaint_fine : (g g' : Takes) → Keeps g g' → (t : Fields) → fields_complaint g t ≡ None → fields_complaint g' t ≡ None
  fields_complaint_fine g g' p NoFields h = refl
  fields_complaint_fine g g' p (MoreFields fs k e) h = or_none (fields_complaint g' fs) (complaint g' e) (fields_complaint_fine g g' p fs (left_none (fields_complaint g fs) (complaint g e) h)) (complaint_fine g g' p e (right_none (fields_complaint g fs) (complaint g e) h))

  pub changes_complaint_fine : (g g' : Takes) → Keeps g g' → (t : Changes) → changes_complaint g t ≡ None → changes_complaint g' t ≡ None
  changes_complaint_fine g g' p NoChanges h = refl
  changes_complaint_fine g g' p (MoreChanges cs path e) h = or_none (changes_complaint g' cs) (or_else (steps_complaint g' path) (complaint (with_name g' at_sign bound_name) e)) (changes_complaint_fine g g' p cs (left_none (changes_complaint g cs) (or_else (steps_complaint g path) (complaint (with_name g at_sign bound_name) e)) h)) (or_none (steps_complaint g' path) (complaint (with_name g' at_sign bound_name) e) (steps_complaint_fine g g' p path (left_none (steps_complaint g path) (complaint (with_name g at_sign bound_name) e) (right_none (changes_complaint g cs) (or_else (steps_complaint g path) (complaint (with_name g at_sign bound_name) e)) h))) (complaint_fine (with_name g at_sign bound_name) (with_name g' at_sign bound_name) (keeps_name g g' p at_sign bound_name) e (right_none (steps_complaint g path) (complaint (with_name g at_sign bound_name) e) (right_none (changes_complaint g cs) (or_else (steps_complaint g path) (complaint (with_name g at_sign bound_name) e)) h))))

  pub arms_complaint_fine : (g g' : Takes) → Keeps g g' → (t : Arms) → arms_complaint g t ≡ None → arms_complaint g' t ≡ None
  arms_complaint_fine g g' p NoArms h = refl
  arms_complaint_fine g g' p (MoreArms arms c e) h = or_none (arms_complaint g' arms) (or_else (complaint g' c) (complaint g' e)) (arms_complaint_fine g g' p arms (left_none (arms_complaint g arms) (or_else (complaint g c) (complaint g e)) h)) (or_none (complaint g' c) (complaint g' e) (complaint_fine g g' p c (left_none (complaint g c) (complaint g e) (right_none (arms_complaint g arms) (or_else (complaint g c) (complaint g e)) h))) (complaint_fine g g' p e (right_none (complaint g c) (complaint g e) (right_none (arms_complaint g arms) (or_else (complaint g c) (complaint g e)) h))))

  pub definitions_complaint_fine : (g g' : Takes) → Keeps g g' → (t : Definitions) → definitions_complaint g t ≡ None → definitions_complaint g' t ≡ None
  definitions_complaint_fine g g' p NoDefinitions h = refl
  definitions_complaint_fine g g' p (MoreDefinitions ds k at ps form e) h =
      let gd : Takes = with_definitions g ds in
      let gd' : Takes = with_definitions g' ds in
      let own : Own = own_of form k ps e in
      let inner : Takes = with_names (with_itself own gd k (length ps)) ps in
      let inner' : Takes = with_names (with_itself own gd' k (length ps)) ps in
      let before : definitions_complaint g ds ≡ None = left_none (definitions_complaint g ds) (or_else (itself gd form k at ps e) (complaint inner e)) h in
      let rest : or_else (itself gd form k at ps e) (complaint inner e) ≡ None = right_none (definitions_complaint g ds) (or_else (itself gd form k at ps e) (complaint inner e)) h in
      let body : complaint inner e ≡ None = right_none (itself gd form k at ps e) (complaint inner e) rest in
      let keeps : Keeps gd gd' = keeps_definitions g g' p ds before in
      or_none (definitions_complaint g' ds) (or_else (itself gd' form k at ps e) (complaint inner' e)) (definitions_complaint_fine g g' p ds before)
      (or_none (itself gd' form k at ps e) (complaint inner' e)
      (sym (itself_same gd gd' form k at ps e (rises_kept own gd gd' k (length ps) ps e keeps body)) ∙ left_none (itself gd form k at ps e) (complaint inner e) rest)
      (complaint_fine inner inner' (keeps_names (with_itself own gd k (length ps)) (with_itself own gd' k (length ps)) (keeps_itself own gd gd' keeps k (length ps)) ps) e body))
