-- The first thing that is wrong with the names of a program is there, or nothing is.
use Rattle.std.proofs.Common.{◌≡◌, ◌∙◌, sym, ap, refl, arith, inl, inr, ℕ, ◌≤◌, ◌⊎◌}
use Rattle.std.specs.Prelude.{Bool, length, Option, Some, None, slice_get}
use Rattle.reading_trees.specs.declared.config.Config.{Config}
use Rattle.reading_trees.specs.declared.module.Program.{Program}
use Rattle.reading_trees.specs.declared.module.Unit.{Unit as ModuleUnit}
use Rattle.names_meanings.specs.declared.fault.NameFault.{NameFault}
use Rattle.names_meanings.specs.Complaints.{Takes}
use Rattle.names_program.specs.InUnits.{definitions_in}
use Rattle.names_tables.specs.NameFaults.{HasFineNames, IsFirstNameFault, IsNameFaultAt, definitions_before, takes_in_program}
use Rattle.names_tables.specs.UnitComplaints.{unit_complaint}
use Rattle.names_tables.proofs.Faults.{all_fine}
use Rattle.names_tables.proofs.UnitPlaces.{fault_is, is_fault, known_is}
use Rattle.names_outcome_laws.proofs.Deciding.{mark_of, mark_tells}
use Rattle.names_outcome_laws.proofs.Searching.{AtMostFound, search_first}
use Rattle.names_outcome_laws.proofs.Using.{levels, meets_or_not}

module _ (p : Program) (c : Config) where
  abbrev known : Takes
  known = takes_in_program p c (levels p c).0

  abbrev wrong : ℕ → Bool
  wrong k = mark_of (meets_or_not p c (definitions_before p.units k))

  no_fault : (k : ℕ) (u : ModuleUnit) → slice_get p.units k ≡ Some u → unit_complaint (definitions_in p.units) known (wrong k) u ≡ None → (f : NameFault) → ¬ IsNameFaultAt p c k f
  no_fault k u stands none f w =
      let both : Some u ≡ Some w.unit = sym stands ∙ w.stands in
      let same : w.unit ≡ u = cc in
      let is : w.known ≡ known = known_is p c (levels p c).0 w.known (levels p c).1 w.are in
      let some : unit_complaint (definitions_in p.units) w.known (wrong k) w.unit ≡ Some f = is_fault p c w.known (definitions_before p.units k) w.unit f (wrong k) (mark_tells (meets_or_not p c (definitions_before p.units k))) w.wrong in
      let here : unit_complaint (definitions_in p.units) known (wrong k) u ≡ Some f = sym (ap (λ (x : ModuleUnit). unit_complaint (definitions_in p.units) known (wrong k) x) same) ∙ sym (ap (λ (g : Takes). unit_complaint (definitions_in p.units) g (wrong k) w.unit) is) ∙ some in
      let bad : None ≡ Some f = sym none ∙ here in
      absurd (cc)

  fault_there : (k : ℕ) (u : ModuleUnit) (f : NameFault) → slice_get p.units k ≡ Some u → unit_complaint (definitions_in p.units) known (wrong k) u ≡ Some f → IsNameFaultAt p c k f
  fault_there k u f stands some = record {
    unit = u;
    stands = stands;
    known = known;
    are = ((levels p c).0, (levels p c).1, refl);
    wrong = fault_is p c known (definitions_before p.units k) u f (wrong k) (mark_tells (meets_or_not p c (definitions_before p.units k))) some;
  }

  by_complaint : (k : ℕ) (u : ModuleUnit) → slice_get p.units k ≡ Some u → (o : Option NameFault) → unit_complaint (definitions_in p.units) known (wrong k) u ≡ o → AtMostFound (IsNameFaultAt p c k)
  by_complaint k u stands None e = inl (no_fault k u stands e)
  by_complaint k u stands (Some f) e = inr (f, fault_there k u f stands e)

  by_unit : (k : ℕ) (o : Option ModuleUnit) → slice_get p.units k ≡ o → AtMostFound (IsNameFaultAt p c k)
  by_unit k None e = inl (λ f w. (let bad : None ≡ Some w.unit = sym e ∙ w.stands in absurd (cc)))
  by_unit k (Some u) e = by_complaint k u e (unit_complaint (definitions_in p.units) known (wrong k) u) refl

  pub names_fine_or_not : HasFineNames p c ⊎ ((f : NameFault) × IsFirstNameFault p c f)
  names_fine_or_not = elim (search_first (IsNameFaultAt p c) (λ k. by_unit k (slice_get p.units k) refl) (length p.units)) [
    | inl none ↦ (let le : length p.units ≤ length p.units = omega arith in inl (all_fine p c (length p.units) (length p.units) le le none))
    | inr first ↦ inr (first.what, record { index = first.index; is = first.is; none_before = first.none_before })
  ]
