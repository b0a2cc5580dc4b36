-- The first thing that is wrong with the levels of a program is there, or nothing is.
use Rattle.std.proofs.Common.{◌≡◌, ◌∙◌, sym, ap, refl, subst, inl, inr, ℕ, List, [], ◌∷◌, ◌++◌, length, ◌⊎◌}
use Rattle.std.specs.Prelude.{◌↔◌, true, Option, Some, None, Contains, slice_get}
use Rattle.std.proofs.lemmas.List.Elements.{Contains-append_left, Contains-append_right}
use Rattle.std.proofs.lemmas.Option.{slice_get_within}
use Rattle.reading_trees.specs.declared.form.DefinitionForm.{DefinitionForm}
use Rattle.reading_trees.specs.declared.form.DefinitionForm.TheVariants as forms
use Rattle.reading_trees.specs.declared.module.Program.{Program}
use Rattle.reading_trees.specs.declared.module.Unit.{Unit as ModuleUnit}
use Rattle.reading_trees.specs.declared.module.Unit.TheVariants.{Variables, Constants, Recursive, Define, Assume, Passed, Instance}
use Rattle.names_terms.specs.declared.level.Level.TheVariants as levels
use Rattle.names_terms.specs.declared.operator.Operator.{Operator}
use Rattle.names_terms.specs.Terms.{Term, Placed}
use Rattle.names_term_parts.specs.declared.fault.LevelFault.{LevelFault}
use Rattle.names_term_parts.specs.declared.fault.LevelFault.TheVariants.{TooHigh}
use Rattle.names_term_parts.specs.Limits.{is_above}
use Rattle.names_term_parts.proofs.Contained.{contains_head}
use Rattle.names_term_levels.specs.Faults.{IsAssumptionFault, IsFault, IsFirst, in_term, no_constant}
use Rattle.names_program.specs.Names.{Numbers}
use Rattle.names_tables.specs.NameFaults.{definitions_before}
use Rattle.names_resolving.specs.UnitLevels.{HasFineLevels, IsAssumedFault, IsBodyFault, IsFirstLevelFault, IsFormFault, IsLevelFaultAt, IsUnitFault, assumptions_before}
use Rattle.names_outcome_laws.proofs.Deciding.{Decided, both_or, either_or, turned}
use Rattle.names_outcome_laws.proofs.RowRelations.{one_item}
use Rattle.names_outcome_laws.proofs.Searching.{AtMostFound, search_first}
use Rattle.names_outcome_laws.proofs.Slots.{true_is}
use Rattle.names_outcome_laws.proofs.TermFaults.{among, candidates, fault_or_not, first_or_nothing, same_fault}

-- there is a first, or there is none
abbrev pub HasFirst : (LevelFault → Type 0) → Type 0
HasFirst P = ((f : LevelFault) → ¬ P f) ⊎ ((g : LevelFault) × IsFirst P g)

first_turned : (P Q : LevelFault → Type 0) → ((f : LevelFault) → P f ↔ Q f) → HasFirst P → HasFirst Q
first_turned P Q e (inl none) = inl (λ f h. none f ((e f).1 h))
first_turned P Q e (inr r) = inr (r.0, record { is_such = (e r.0).0 r.1.is_such; none_before = λ g h. r.1.none_before g ((e g).1 h) })

term_first : (ops : List Operator) (e : Term) → HasFirst (IsFault ops e)
term_first ops e = first_or_nothing (IsFault ops e) (fault_or_not ops e) (candidates ops e) (among ops e)

-- ---- assumptions

module _ (ops : List Operator) where
  abbrev IsOwn : Term → LevelFault → Type 0
  IsOwn (Placed at l m) f = (f ≡ TooHigh l levels.Constant at) × (is_above l levels.Constant ≡ true)

  abbrev own_candidate : Term → LevelFault
  own_candidate (Placed at l m) = TooHigh l levels.Constant at

  to_assumption : (e : Term) (f : LevelFault) → IsFault ops e f ⊎ IsOwn e f → IsAssumptionFault ops e f
  to_assumption e f (inl h) = in_term e f h
  to_assumption (Placed at l m) f (inr h) = subst (λ (g : LevelFault). IsAssumptionFault ops (Placed at l m) g) (sym h.0) (no_constant at l m h.1)

  from_assumption : (e : Term) (f : LevelFault) → IsAssumptionFault ops e f → IsFault ops e f ⊎ IsOwn e f
  from_assumption _ _ (in_term e f h) = inl h
  from_assumption _ _ (no_constant at l m h) = inr (refl, h)

  own_or_not : (e : Term) (f : LevelFault) → Decided (IsOwn e f)
  own_or_not (Placed at l m) f = both_or (same_fault f (TooHigh l levels.Constant at)) (true_is (is_above l levels.Constant))

  own_there : (e : Term) (f : LevelFault) → IsOwn e f → Contains (own_candidate e ∷ []) f
  own_there (Placed at l m) f h = subst (λ (g : LevelFault). Contains (TooHigh l levels.Constant at ∷ []) g) (sym h.0) (contains_head (TooHigh l levels.Constant at) [])

  assumption_first : (e : Term) → HasFirst (IsAssumptionFault ops e)
  assumption_first e =
      first_or_nothing (IsAssumptionFault ops e) (λ f. turned (to_assumption e f, from_assumption e f) (either_or (fault_or_not ops e f) (own_or_not e f))) (candidates ops e ++ own_candidate e ∷ [])
      (λ f h. elim (from_assumption e f h) [
        | inl k ↦ Contains-append_left (candidates ops e) (own_candidate e ∷ []) f (among ops e f k)
        | inr k ↦ Contains-append_right (candidates ops e) (own_candidate e ∷ []) f (own_there e f k)
      ])

-- ---- units

module _ (p : Program) (number : Numbers) (ops : List Operator) (assumes : List Term) where
  one_number : (a b : ℕ) → Some a ≡ Some b → a ≡ b
  one_number a b e = cc

  form_first : (form : DefinitionForm) (e : Term) → HasFirst (IsFormFault form ops e)
  form_first forms.Operator e = term_first ops e
  form_first forms.Function e = term_first ops e
  form_first forms.Constant e = assumption_first ops e

  body_here : (form : DefinitionForm) (i row : ℕ) (o : Operator) → number i ≡ Some row → slice_get ops row ≡ Some o → (f : LevelFault) → IsFormFault form ops o.body f ↔ IsBodyFault number ops form i f
  body_here form i row o n s f = (
    λ h. record { row = row; operator = o; numbered = n; stands = s; wrong = h },
    λ w.
        let same : w.row ≡ row = one_number w.row row (sym w.numbered ∙ n) in
        let there : slice_get ops row ≡ Some w.operator = subst (λ (k : ℕ). slice_get ops k ≡ Some w.operator) same w.stands in
        subst (λ (q : Operator). IsFormFault form ops q.body f) (one_item w.operator o (sym there ∙ s)) w.wrong,
  )

  body_by_row : (form : DefinitionForm) (i row : ℕ) → number i ≡ Some row → (r : Option Operator) → slice_get ops row ≡ r → HasFirst (IsBodyFault number ops form i)
  body_by_row form i row n None s = inl (λ f w. (
      let same : w.row ≡ row = one_number w.row row (sym w.numbered ∙ n) in
      let bad : None ≡ Some w.operator = sym s ∙ ap (λ (k : ℕ). slice_get ops k) (sym same) ∙ w.stands in
      cc))
  body_by_row form i row n (Some o) s = first_turned (IsFormFault form ops o.body) (IsBodyFault number ops form i) (body_here form i row o n s) (form_first form o.body)

  body_first : (form : DefinitionForm) (i : ℕ) (r : Option ℕ) → number i ≡ r → HasFirst (IsBodyFault number ops form i)
  body_first form i None n = inl (λ f w. (let bad : None ≡ Some w.row = sym n ∙ w.numbered in cc))
  body_first form i (Some row) n = body_by_row form i row n (slice_get ops row) refl

  assumed_here : (j : ℕ) (e : Term) → slice_get assumes j ≡ Some e → (f : LevelFault) → IsAssumptionFault ops e f ↔ IsAssumedFault ops assumes j f
  assumed_here j e s f = (λ h. record { term = e; stands = s; wrong = h }, λ w. subst (λ (t : Term). IsAssumptionFault ops t f) (one_item w.term e (sym w.stands ∙ s)) w.wrong)

  assumed_first : (j : ℕ) (r : Option Term) → slice_get assumes j ≡ r → HasFirst (IsAssumedFault ops assumes j)
  assumed_first j None s = inl (λ f w. (let bad : None ≡ Some w.term = sym s ∙ w.stands in cc))
  assumed_first j (Some e) s = first_turned (IsAssumptionFault ops e) (IsAssumedFault ops assumes j) (assumed_here j e s) (assumption_first ops e)

  unit_first : (i j : ℕ) (u : ModuleUnit) → HasFirst (IsUnitFault number ops assumes i j u)
  unit_first i j (Define d) = body_first d.form i (number i) refl
  unit_first i j (Assume e) = assumed_first j (slice_get assumes j) refl
  unit_first i j (Variables ds) = inl (λ f h. h)
  unit_first i j (Constants ds) = inl (λ f h. h)
  unit_first i j (Recursive rs) = inl (λ f h. h)
  unit_first i j Passed = inl (λ f h. h)
  unit_first i j (Instance x) = inl (λ f h. h)

  unit_here : (k : ℕ) (u : ModuleUnit) → slice_get p.units k ≡ Some u → (f : LevelFault) → IsUnitFault number ops assumes (definitions_before p.units k) (assumptions_before p.units k) u f ↔ IsLevelFaultAt p number ops assumes k f
  unit_here k u s f = (
    λ h. record { unit = u; stands = s; wrong = h },
    λ w. subst (λ (v : ModuleUnit). IsUnitFault number ops assumes (definitions_before p.units k) (assumptions_before p.units k) v f) (one_item w.unit u (sym w.stands ∙ s)) w.wrong,
  )

  first_at : (k : ℕ) (r : Option ModuleUnit) → slice_get p.units k ≡ r → HasFirst (IsLevelFaultAt p number ops assumes k)
  first_at k None s = inl (λ f w. (let bad : None ≡ Some w.unit = sym s ∙ w.stands in cc))
  first_at k (Some u) s =
      first_turned (IsUnitFault number ops assumes (definitions_before p.units k) (assumptions_before p.units k) u) (IsLevelFaultAt p number ops assumes k) (unit_here k u s) (unit_first (definitions_before p.units k) (assumptions_before p.units k) u)

  found_at : (k : ℕ) → HasFirst (IsLevelFaultAt p number ops assumes k) → AtMostFound (IsLevelFaultAt p number ops assumes k)
  found_at k (inl none) = inl none
  found_at k (inr r) = inr (r.0, r.1.is_such)

  pub levels_fine_or_not : HasFineLevels p number ops assumes ⊎ ((f : LevelFault) × IsFirstLevelFault p number ops assumes f)
  levels_fine_or_not = elim (search_first (IsLevelFaultAt p number ops assumes) (λ k. found_at k (first_at k (slice_get p.units k) refl)) (length p.units)) [
    | inl none ↦ inl (λ k f w. none k f (slice_get_within p.units k w.unit w.stands) w)
    | inr r ↦ elim (first_at r.index (slice_get p.units r.index) refl) [
      | inl nothing ↦ absurd (nothing r.what r.is)
      | inr q ↦ inr (q.0, record { index = r.index; is = q.1; none_before = r.none_before })
    ]
  ]
