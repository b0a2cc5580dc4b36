-- CASE, arm by arm.
use Rattle.std.proofs.Common.{◌≡◌, ◌∙◌, ap, sym, refl, List, [], ◌∷◌, ◌++◌, map, drop, length, get_or, arith, append_assoc}
use Rattle.std.specs.Prelude.{◌<◌, ◌≤◌, ◌+◌, ℕ, zero, suc, Option, Some, None, Result, Ok, Err, slice_get}
use Rattle.std.specs.List.{AllByRecursion as Each}
use Rattle.std.proofs.lemmas.List.{append-nil, drop_more, drop_all}
use Rattle.base_core.specs.declared.place.Place.{Place}
use Rattle.names_terms.specs.declared.term.Arm.{Arm as Row}
use Rattle.names_terms.specs.Lists.{arms_list}
use Rattle.names_terms.specs.TermViews.{arm_item, arms_from, arms_of as arms_made}
use Rattle.names_terms.specs.Terms as term
use Rattle.names_terms.specs.Terms.{Term, Placed, Meaning, Arms, place_of}
use Rattle.names_term_parts.specs.Parts.{arm_list}
use Rattle.names_term_parts.specs.Weights.{weight, in_arms}
use Rattle.actions_meanings.specs.declared.fault.FormFault.{FormFault}
use Rattle.actions_meanings.specs.Reads.{VariableSet}
use Rattle.actions_meanings.specs.Outcomes.{Arm, FormOutcome, arm, next, together, unless}
use Rattle.actions_early_reads.specs.declared.walking.Walk.{Walk}
use Rattle.actions_early_reads.specs.Keeping.{Fits}
use Rattle.actions_early_reads.specs.Ready.{table_of, IsWalked}
use Rattle.actions_early_reads.specs.Opened.{early_at, IsRow}
use Rattle.actions_early_reads.proofs.Each.{each-left, each-right, each-item}
use Rattle.actions_early_reads.proofs.Rows.{arms-hold}
use Rattle.actions_forms.specs.declared.arms.Arm.{Arm as Ended}
use Rattle.actions_forms.specs.Arms.{arm_of}
use Rattle.actions_forms.specs.Says.{AreWalked, CaseStops, Says, SaysAnywhere, SaysFixed, TellsCase, case_at, outcome_at}
use Rattle.actions_forms.proofs.Armed.{behind_arms, no-arms, arm-pushed}
use Rattle.actions_forms.proofs.Telling.{ClearTerm, FindsTerm, says-along, stops-along, stops-next, stops-unless}

-- the arms of the items
pub item_pairs : List Row → List (Term × Term)
item_pairs xs = map arm_item xs

arms_listed_from : (cs : Arms) (xs : List Row) → arms_list (arms_from cs xs) ≡ arms_list cs ++ map arm_item xs
arms_listed_from cs [] = sym (append-nil (arms_list cs))
arms_listed_from cs (x ∷ xs) = arms_listed_from (term.MoreArms cs x.test x.value) xs ∙ append_assoc (arms_list cs) ((x.test, x.value) ∷ []) (map arm_item xs)

pub list-of-arms : (xs : List Row) (cs : Arms) → arms_made xs ≡ cs → arms_list cs ≡ map arm_item xs
list-of-arms xs cs q = ap arms_list (sym q) ∙ arms_listed_from term.NoArms xs

pub arm-items : (xs : List Row) (i : ℕ) (x : Row) → i < length xs → x ≡ get_or xs i x → map arm_item (drop i xs) ≡ (x.test, x.value) ∷ map arm_item (drop (i + 1) xs)
arm-items xs i x lt is = ap (map arm_item) (drop_more xs i x lt ∙ ap (λ (y : Row). y ∷ drop (i + 1) xs) (sym is))

mapped_at : (xs : List Row) (i : ℕ) (x : Row) → i < length xs → x ≡ get_or xs i x → slice_get (map arm_item xs) i ≡ Some (x.test, x.value)
mapped_at [] i x lt is = absurd (omega arith)
mapped_at (y ∷ xs) zero x lt is = ap (λ (z : Row). Some (z.test, z.value)) (sym is)
mapped_at (y ∷ xs) (suc i) x lt is = mapped_at xs i x (omega arith) is

-- weights of items
weights_from : (cs : Arms) (xs : List Row) → in_arms cs ≤ in_arms (arms_from cs xs)
weights_from cs [] = omega arith
weights_from cs (x ∷ xs) = omega (arith, weights_from (term.MoreArms cs x.test x.value) xs)

arm_weighs : (cs : Arms) (xs : List Row) (i : ℕ) (d : Row) → i < length xs → weight (get_or xs i d).value ≤ in_arms (arms_from cs xs)
arm_weighs cs [] i d lt = absurd (omega arith)
arm_weighs cs (x ∷ xs) zero d lt = omega (arith, weights_from (term.MoreArms cs x.test x.value) xs)
arm_weighs cs (x ∷ xs) (suc i) d lt = arm_weighs (term.MoreArms cs x.test x.value) xs i d (omega arith)

pub arm-weight : (xs : List Row) (cs : Arms) (i : ℕ) (x : Row) → arms_made xs ≡ cs → i < length xs → x ≡ get_or xs i x → weight x.value ≤ in_arms cs
arm-weight xs cs i x q lt is = omega (arith, arm_weighs term.NoArms xs i x lt, ap (λ (z : Row). weight z.value) is, ap in_arms q)

abbrev pub CaseWay : Walk → ℕ → VariableSet → Arms → List Ended → List (Term × Term) → Type 0
CaseWay w bound B cs arms rest = (k : ℕ) (other : Option Term) → AreWalked w bound k (arm_list cs) → case_at w k B (arms_list cs) other ≡ behind_arms arms (case_at w k B rest other)

pub case-begin : (w : Walk) (bound : ℕ) (B : VariableSet) (cs : Arms) (xs : List Row) (arms : List Ended) → arms ≡ [] → arms_made xs ≡ cs → CaseWay w bound B cs arms (map arm_item xs)
case-begin w bound B cs xs arms empty q k other are =
    ap (λ (es : List (Term × Term)). case_at w k B es other) (list-of-arms xs cs q) ∙ no-arms (case_at w k B (map arm_item xs) other) ∙ ap (λ (ys : List Ended). behind_arms ys (case_at w k B (map arm_item xs) other)) (sym empty)

module _ (w : Walk) (bound : ℕ) (B : VariableSet) (cs : Arms) (xs : List Row) (arms : List Ended) (i : ℕ) (x : Row) (q : arms_made xs ≡ cs) (lt : i < length xs) (is : x ≡ get_or xs i x) (way : CaseWay w bound B cs arms (map arm_item (drop i xs))) where
  abbrev rest_at : ℕ → Option Term → Result (List Arm) FormFault
  rest_at k other = case_at w k B (map arm_item (drop (i + 1) xs)) other

  abbrev from_value : ℕ → Option Term → VariableSet → Result (List Arm) FormFault
  from_value k other C = next (rest_at k other) (λ more. Ok (arm x.value C ∷ more))

  abbrev from_test : ℕ → Option Term → Result (List Arm) FormFault
  from_test k other = next (outcome_at w k x.value B) (from_value k other)

  here : (k : ℕ) (other : Option Term) → AreWalked w bound k (arm_list cs) → case_at w k B (arms_list cs) other ≡ behind_arms arms (unless (early_at w B k x.test) (from_test k other))
  here k other are = way k other are ∙ ap (λ (es : List (Term × Term)). behind_arms arms (case_at w k B es other)) (arm-items xs i x lt is)

  abbrev Inside : ℕ → Term × Term → Type 0
  Inside k c = Fits (table_of w) w.variables bound k c.0 × Fits (table_of w) w.variables bound k c.1

  pair-fits : (k : ℕ) → AreWalked w bound k (arm_list cs) → Inside k (x.test, x.value)
  pair-fits k are =
      each-item (Inside k) (arms_list cs) i (x.test, x.value) (ap (λ (ys : List (Term × Term)). slice_get ys i) (list-of-arms xs cs q) ∙ mapped_at xs i x lt is) (arms-hold (Fits (table_of w) w.variables bound k) cs are.fit)

  test-walked : (k : ℕ) → AreWalked w bound k (arm_list cs) → IsWalked w bound k x.test
  test-walked k are = record { ready = are.ready; within = are.within; fits = (pair-fits k are).0 }

  value-walked : (k : ℕ) → AreWalked w bound k (arm_list cs) → IsWalked w bound k x.value
  value-walked k are = record { ready = are.ready; within = are.within; fits = (pair-fits k are).1 }

  pub case-early : (f : FormFault) → FindsTerm w bound B x.test f → CaseStops w bound B cs f
  case-early f lets k other are =
      stops-along f (behind_arms arms (unless (early_at w B k x.test) (from_test k other))) (case_at w k B (arms_list cs) other) (here k other are)
      (stops-next f (unless (early_at w B k x.test) (from_test k other)) (λ more. Ok (map arm_of arms ++ more)) (stops-unless f (early_at w B k x.test) (from_test k other) (lets k (test-walked k are))))

  after_test : ClearTerm w bound B x.test → (k : ℕ) (other : Option Term) → AreWalked w bound k (arm_list cs) → case_at w k B (arms_list cs) other ≡ behind_arms arms (from_test k other)
  after_test lets k other are = here k other are ∙ ap (λ (o : Option FormFault). behind_arms arms (unless o (from_test k other))) (lets k (test-walked k are))

  pub case-stop : (f : FormFault) → ClearTerm w bound B x.test → SaysFixed w bound B x.value (Err f) → CaseStops w bound B cs f
  case-stop f lets says k other are =
      stops-along f (behind_arms arms (from_test k other)) (case_at w k B (arms_list cs) other) (after_test lets k other are)
      (stops-next f (from_test k other) (λ more. Ok (map arm_of arms ++ more)) (stops-next f (outcome_at w k x.value B) (from_value k other) (says k (value-walked k are))))

  pub case-next : (new : List Ended) (c : ℕ) → ClearTerm w bound B x.test → SaysFixed w bound B x.value (Ok c) → new ≡ arms ++ record { at = place_of x.value; set = c } ∷ [] → CaseWay w bound B cs new (map arm_item (drop (i + 1) xs))
  case-next new c lets says pushed k other are =
      after_test lets k other are ∙ ap (λ (r : FormOutcome). behind_arms arms (next r (from_value k other))) (says k (value-walked k are)) ∙ arm-pushed arms new (record { at = place_of x.value; set = c }) (rest_at k other) pushed

pub case-end : (w : Walk) (bound : ℕ) (B : VariableSet) (cs : Arms) (xs : List Row) (arms : List Ended) (i : ℕ) → length xs ≤ i → CaseWay w bound B cs arms (map arm_item (drop i xs)) → TellsCase w bound B cs arms
case-end w bound B cs xs arms i past way k other are = way k other are ∙ ap (λ (ys : List Row). behind_arms arms (case_at w k B (map arm_item ys) other)) (drop_all i xs past)

-- THE ROWS

module _ (w : Walk) (bound : ℕ) (B : VariableSet) (cs : Arms) where
  pub case-row : (arms : List Ended) (r : Result ℕ FormFault) → TellsCase w bound B cs arms → Says r (together w.variables B (map arm_of arms)) → SaysAnywhere w bound B (term.Case cs) r
  case-row arms r tells says at l taken k row =
      says-along r (together w.variables B (map arm_of arms)) (next (case_at w k B (arms_list cs) None) (together w.variables B))
      (ap (λ (z : Result (List Arm) FormFault). next z (together w.variables B)) (tells k None record { ready = row.ready; within = row.within; fit = row.fit } ∙ ap (λ (ys : List Arm). Ok ys) (append-nil (map arm_of arms)))) says

  pub case-row-stop : (f : FormFault) → CaseStops w bound B cs f → SaysAnywhere w bound B (term.Case cs) (Err f)
  case-row-stop f stops at l taken k row =
      stops-next f (case_at w k B (arms_list cs) None) (together w.variables B) (stops k None record { ready = row.ready; within = row.within; fit = row.fit })

  module _ (e : Term) where
    abbrev Whole : Meaning
    Whole = term.CaseOther cs e

    arms-walked : (k : ℕ) (at : Place) → IsRow w bound k at Whole → AreWalked w bound k (arm_list cs)
    arms-walked k at row = record { ready = row.ready; within = row.within; fit = each-left (Fits (table_of w) w.variables bound k) (arm_list cs) (e ∷ []) row.fit }

    other-walked : (k : ℕ) (at : Place) → IsRow w bound k at Whole → IsWalked w bound k e
    other-walked k at row = let last : Each (Fits (table_of w) w.variables bound k) (e ∷ []) = each-right (Fits (table_of w) w.variables bound k) (arm_list cs) (e ∷ []) row.fit in record { ready = row.ready; within = row.within; fits = last.0 }

    abbrev whole_at : ℕ → Result (List Arm) FormFault
    whole_at k = case_at w k B (arms_list cs) (Some e)

    abbrev from_other : VariableSet → Result (List Arm) FormFault
    from_other C = Ok (arm e C ∷ [])

    pub other-stop : (f : FormFault) → CaseStops w bound B cs f → SaysAnywhere w bound B Whole (Err f)
    other-stop f stops at l taken k row = stops-next f (whole_at k) (together w.variables B) (stops k (Some e) (arms-walked k at row))

    pub other-last : (arms : List Ended) (f : FormFault) → TellsCase w bound B cs arms → SaysFixed w bound B e (Err f) → SaysAnywhere w bound B Whole (Err f)
    other-last arms f tells says at l taken k row =
        stops-next f (whole_at k) (together w.variables B)
        (stops-along f (behind_arms arms (next (outcome_at w k e B) from_other)) (whole_at k) (tells k (Some e) (arms-walked k at row))
        (stops-next f (next (outcome_at w k e B) from_other) (λ more. Ok (map arm_of arms ++ more)) (stops-next f (outcome_at w k e B) from_other (says k (other-walked k at row)))))

    pub other-row : (arms : List Ended) (c : ℕ) (r : Result ℕ FormFault) → TellsCase w bound B cs arms → SaysFixed w bound B e (Ok c) → Says r (together w.variables B (map arm_of (arms ++ record { at = place_of e; set = c } ∷ []))) → SaysAnywhere w bound B Whole r
    other-row arms c r tells fixed says at l taken k row =
        let new : List Ended = arms ++ record { at = place_of e; set = c } ∷ [] in
        let all : whole_at k ≡ Ok (map arm_of new) =
        tells k (Some e) (arms-walked k at row) ∙ ap (λ (z : FormOutcome). behind_arms arms (next z from_other)) (fixed k (other-walked k at row))
        ∙ arm-pushed arms new (record { at = place_of e; set = c }) (Ok []) refl ∙ ap (λ (ys : List Arm). Ok ys) (append-nil (map arm_of new)) in
        says-along r (together w.variables B (map arm_of new)) (next (whole_at k) (together w.variables B)) (ap (λ (z : Result (List Arm) FormFault). next z (together w.variables B)) all) says
