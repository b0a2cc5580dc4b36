-- The parts of alike terms are alike one by one.
use Rattle.std.proofs.Common.{◌≡◌, ap, ap₂, refl, subst, List, [], ◌∷◌, ◌++◌}
use Rattle.std.specs.Prelude.{Bool, true, ◌||◌}
use Rattle.std.specs.List.{AllZip}
use Rattle.values_core.specs.Data.{Val}
use Rattle.names_terms.specs.declared.operator.Operator.{Operator}
use Rattle.names_terms.specs.Terms.{Term, Meaning, Terms, Operands, Step, Steps, Bounds, Fields, Changes, Arms}
use Rattle.names_term_parts.specs.Parts.{Part, part, parts, parts_of, listed, operand_list, set_list, value_list, arm_list, is_prime, has_prime, step_parts, steps_parts, change_parts, primes}
use Rattle.twice_terms.specs.Alike.{Alike, AlikeMeanings, known_alike, named_alike, variable_alike, slot_alike, use_alike, standard_alike, parenthesized_alike, scoped_alike, all_alike, any_alike, prefix_alike, infix_alike, postfix_alike, set_alike, filter_alike, map_alike, tuple_alike, function_alike, function_set_alike, record_alike, record_set_alike, except_alike, quantified_alike, choose_alike, if_alike, case_alike, case_other_alike, box_alike, angle_alike, fairness_alike, AlikeTerms, no_terms_alike, more_terms_alike, AlikeOperands, first_alike, next_alike, AlikeStep, prime_alike, index_alike, field_alike, AlikeSteps, no_steps_alike, more_steps_alike, AlikeBounds, no_bounds_alike, more_bounds_alike, AlikeFields, no_fields_alike, more_fields_alike, AlikeChanges, no_changes_alike, more_changes_alike, AlikeArms, no_arms_alike, more_arms_alike}
use Rattle.twice_terms.specs.Laws.{AlikeParts}
use Rattle.twice_terms.proofs.Zips.{zip_append}

module _ (Same : Val → Val → Type 0) (ops all : List Operator) where
  abbrev AreTerms : List Term → List Term → Type 0
  AreTerms xs ys = AllZip (Alike Same ops all) xs ys

  abbrev AreParts : List Part → List Part → Type 0
  AreParts xs ys = AllZip (AlikeParts Same ops all) xs ys

  -- one term more
  more : (xs ys : List Term) (e f : Term) → AreTerms xs ys → Alike Same ops all e f → AreTerms (xs ++ e ∷ []) (ys ++ f ∷ [])
  more xs ys e f z a = zip_append (Alike Same ops all) xs ys (e ∷ []) (f ∷ []) z (a, tt)

  pub listed_zip : (ts us : Terms) → AlikeTerms Same ops all ts us → AreTerms (listed ts) (listed us)
  listed_zip _ _ no_terms_alike = tt
  listed_zip _ _ (more_terms_alike ts us e f t a) = more (listed ts) (listed us) e f (listed_zip ts us t) a

  operands_zip : (os ps : Operands) → AlikeOperands Same ops all os ps → AreTerms (operand_list os) (operand_list ps)
  operands_zip _ _ (first_alike e f a) = (a, tt)
  operands_zip _ _ (next_alike os ps at e f t a) = more (operand_list os) (operand_list ps) e f (operands_zip os ps t) a

  sets_zip : (bs cs : Bounds) → AlikeBounds Same ops all bs cs → AreTerms (set_list bs) (set_list cs)
  sets_zip _ _ no_bounds_alike = tt
  sets_zip _ _ (more_bounds_alike bs cs n e f t a) = more (set_list bs) (set_list cs) e f (sets_zip bs cs t) a

  values_zip : (fs gs : Fields) → AlikeFields Same ops all fs gs → AreTerms (value_list fs) (value_list gs)
  values_zip _ _ no_fields_alike = tt
  values_zip _ _ (more_fields_alike fs gs h e f t a) = more (value_list fs) (value_list gs) e f (values_zip fs gs t) a

  arms_zip : (ps qs : Arms) → AlikeArms Same ops all ps qs → AreTerms (arm_list ps) (arm_list qs)
  arms_zip _ _ no_arms_alike = tt
  arms_zip _ _ (more_arms_alike ps qs a b e f t c d) = zip_append (Alike Same ops all) (arm_list ps) (arm_list qs) (a ∷ e ∷ []) (b ∷ f ∷ []) (arms_zip ps qs t) (c, (d, tt))

  one : (b c : Bool) (e f : Term) → b ≡ c → Alike Same ops all e f → AlikeParts Same ops all (part b e) (part c f)
  one b c e f q a = record { terms = a; primed = q }

  all_parts : (b : Bool) (xs ys : List Term) → AreTerms xs ys → AreParts (parts_of b xs) (parts_of b ys)
  all_parts b [] [] z = tt
  all_parts b [] (y ∷ ys) z = absurd z
  all_parts b (x ∷ xs) [] z = absurd z
  all_parts b (x ∷ xs) (y ∷ ys) z = (one b b x y refl z.0, all_parts b xs ys z.1)

  same_prime : (s r : Step) → AlikeStep Same ops all s r → is_prime s ≡ is_prime r
  same_prime _ _ prime_alike = refl
  same_prime _ _ (index_alike ts us t) = refl
  same_prime _ _ (field_alike h) = refl

  any_prime : (ss rs : Steps) → AlikeSteps Same ops all ss rs → has_prime ss ≡ has_prime rs
  any_prime _ _ no_steps_alike = refl
  any_prime _ _ (more_steps_alike ss rs at s r t a) = ap₂ (λ (x y : Bool). x || y) (any_prime ss rs t) (same_prime s r a)

  step_zip : (b : Bool) (s r : Step) → AlikeStep Same ops all s r → AreParts (step_parts b s) (step_parts b r)
  step_zip b _ _ prime_alike = tt
  step_zip b _ _ (index_alike ts us t) = all_parts b (listed ts) (listed us) (listed_zip ts us t)
  step_zip b _ _ (field_alike h) = tt

  steps_zip : (b : Bool) (ss rs : Steps) → AlikeSteps Same ops all ss rs → AreParts (steps_parts b ss) (steps_parts b rs)
  steps_zip b _ _ no_steps_alike = tt
  steps_zip b _ _ (more_steps_alike ss rs at s r t a) =
      zip_append (AlikeParts Same ops all) (step_parts b s) (step_parts b r) (steps_parts (b || is_prime s) ss) (steps_parts (b || is_prime r) rs) (step_zip b s r a)
      (subst (λ (c : Bool). AreParts (steps_parts (b || is_prime s) ss) (steps_parts c rs)) (ap (λ (z : Bool). b || z) (same_prime s r a)) (steps_zip (b || is_prime s) ss rs t))

  changes_zip : (b : Bool) (cs ds : Changes) → AlikeChanges Same ops all cs ds → AreParts (change_parts b cs) (change_parts b ds)
  changes_zip b _ _ no_changes_alike = tt
  changes_zip b _ _ (more_changes_alike cs ds p q e f t s a) =
      zip_append (AlikeParts Same ops all) (change_parts b cs ++ steps_parts b p) (change_parts b ds ++ steps_parts b q) (part b e ∷ []) (part b f ∷ [])
      (zip_append (AlikeParts Same ops all) (change_parts b cs) (change_parts b ds) (steps_parts b p) (steps_parts b q) (changes_zip b cs ds t) (steps_zip b p q s))
      (one b b e f refl a, tt)

  -- terms, and one more behind them
  and_one : (b : Bool) (xs ys : List Term) (e f : Term) → AreTerms xs ys → Alike Same ops all e f → AreParts (parts_of b xs ++ part b e ∷ []) (parts_of b ys ++ part b f ∷ [])
  and_one b xs ys e f z a = zip_append (AlikeParts Same ops all) (parts_of b xs) (parts_of b ys) (part b e ∷ []) (part b f ∷ []) (all_parts b xs ys z) (one b b e f refl a, tt)

  two : (b c : Bool) (e f v w : Term) → Alike Same ops all e f → Alike Same ops all v w → AreParts (part b e ∷ part c v ∷ []) (part b f ∷ part c w ∷ [])
  two b c e f v w a d = (one b b e f refl a, (one c c v w refl d, tt))

  postfix_zip : (b : Bool) (e f : Term) (ss rs : Steps) (s r : Step) → Alike Same ops all e f → AlikeSteps Same ops all ss rs → AlikeStep Same ops all s r
      → AreParts (part ((b || is_prime s) || has_prime ss) e ∷ (step_parts b s ++ steps_parts (b || is_prime s) ss)) (part ((b || is_prime r) || has_prime rs) f ∷ (step_parts b r ++ steps_parts (b || is_prime r) rs))
  postfix_zip b e f ss rs s r a t d = (
    one ((b || is_prime s) || has_prime ss) ((b || is_prime r) || has_prime rs) e f (ap₂ (λ (x y : Bool). (b || x) || y) (same_prime s r d) (any_prime ss rs t)) a,
    zip_append (AlikeParts Same ops all) (step_parts b s) (step_parts b r) (steps_parts (b || is_prime s) ss) (steps_parts (b || is_prime r) rs) (step_zip b s r d)
        (subst (λ (c : Bool). AreParts (steps_parts (b || is_prime s) ss) (steps_parts c rs)) (ap (λ (z : Bool). b || z) (same_prime s r d)) (steps_zip (b || is_prime s) ss rs t)),
  )

  pub parts_zip : (b : Bool) (m n : Meaning) → AlikeMeanings Same ops all m n → AreParts (parts b m) (parts b n)
  parts_zip b _ _ (known_alike v w s) = tt
  parts_zip b _ _ (named_alike s) = tt
  parts_zip b _ _ (variable_alike x y q) = tt
  parts_zip b _ _ (slot_alike i) = tt
  parts_zip b _ _ (use_alike k j ts us r t) = all_parts b (listed ts) (listed us) (listed_zip ts us t)
  parts_zip b _ _ (standard_alike o ts us t) = all_parts b (listed ts) (listed us) (listed_zip ts us t)
  parts_zip b _ _ (parenthesized_alike e f a) = (one b b e f refl a, tt)
  parts_zip b _ _ (scoped_alike ks js e f r a) = (one b b e f refl a, tt)
  parts_zip b _ _ (all_alike ts us t) = all_parts b (listed ts) (listed us) (listed_zip ts us t)
  parts_zip b _ _ (any_alike ts us t) = all_parts b (listed ts) (listed us) (listed_zip ts us t)
  parts_zip b _ _ (prefix_alike o e f a) = (one (b || primes o) (b || primes o) e f refl a, tt)
  parts_zip b _ _ (infix_alike o os ps e f t a) = and_one b (operand_list os) (operand_list ps) e f (operands_zip os ps t) a
  parts_zip b _ _ (postfix_alike e f ss rs s r a t d) = postfix_zip b e f ss rs s r a t d
  parts_zip b _ _ (set_alike ts us t) = all_parts b (listed ts) (listed us) (listed_zip ts us t)
  parts_zip b _ _ (filter_alike v w e f a d) = two b b v w e f a d
  parts_zip b _ _ (map_alike e f bs cs a t) = (one b b e f refl a, all_parts b (set_list bs) (set_list cs) (sets_zip bs cs t))
  parts_zip b _ _ (tuple_alike ts us t) = all_parts b (listed ts) (listed us) (listed_zip ts us t)
  parts_zip b _ _ (function_alike bs cs e f t a) = and_one b (set_list bs) (set_list cs) e f (sets_zip bs cs t) a
  parts_zip b _ _ (function_set_alike v w e f a d) = two b b v w e f a d
  parts_zip b _ _ (record_alike fs gs t) = all_parts b (value_list fs) (value_list gs) (values_zip fs gs t)
  parts_zip b _ _ (record_set_alike fs gs t) = all_parts b (value_list fs) (value_list gs) (values_zip fs gs t)
  parts_zip b _ _ (except_alike e f cs ds a t) = (one b b e f refl a, changes_zip b cs ds t)
  parts_zip b _ _ (quantified_alike q bs cs e f t a) = and_one b (set_list bs) (set_list cs) e f (sets_zip bs cs t) a
  parts_zip b _ _ (choose_alike v w e f a d) = two b b v w e f a d
  parts_zip b _ _ (if_alike p q v w e f a c d) = (one b b p q refl a, (one b b v w refl c, (one b b e f refl d, tt)))
  parts_zip b _ _ (case_alike ps qs t) = all_parts b (arm_list ps) (arm_list qs) (arms_zip ps qs t)
  parts_zip b _ _ (case_other_alike ps qs e f t a) = and_one b (arm_list ps) (arm_list qs) e f (arms_zip ps qs t) a
  parts_zip b _ _ (box_alike e f v w a d) = two b true e f v w a d
  parts_zip b _ _ (angle_alike e f v w a d) = two b true e f v w a d
  parts_zip b _ _ (fairness_alike v w e f a d) = two b b v w e f a d
