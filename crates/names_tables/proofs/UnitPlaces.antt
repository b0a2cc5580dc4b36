-- The definitions of the units, and what is wrong with one.
use Rattle.std.proofs.Common.{◌≡◌, ◌∙◌, sym, ap, refl, subst, List, [], ◌∷◌, inl, inr}
use Rattle.std.specs.Prelude.{◌↔◌, ℕ, zero, suc, Bool, true, false, IsTrue, Option, Some, None, slice_get}
use Rattle.reading_trees.specs.declared.config.Config.{Config}
use Rattle.reading_trees.specs.declared.expr.Definition.{Definition}
use Rattle.reading_trees.specs.declared.module.Program.{Program}
use Rattle.reading_trees.specs.declared.module.Unit.{Unit as ModuleUnit}
use Rattle.reading_trees.specs.declared.module.Unit.TheVariants.{Variables, Constants, Recursive, Define, Instance, Assume, Passed}
use Rattle.names_meanings.specs.declared.fault.NameFault.{NameFault}
use Rattle.names_meanings.specs.declared.fault.NameFault.TheVariants.{Recursion}
use Rattle.names_least_levels.specs.Levels.{mark}
use Rattle.names_meanings.specs.Complaints.{Takes, complaint, with_names}
use Rattle.names_program.specs.InUnits.{definitions_in}
use Rattle.names_program.specs.Recursion as recursion
use Rattle.names_program.specs.Recursion.{AreLevelsOf, LeadsStrictly, MeetsRecursion}
use Rattle.names_program.specs.Uses.{LeadsTo, at_once, through, UsesItself}
use Rattle.names_uses.proofs.ProgramLevels.{levels_same}
use Rattle.names_tables.specs.NameFaults.{AreKnown, HasFineNames, UnitFault, definitions_before, takes_in_program}
use Rattle.names_tables.specs.UnitComplaints.{unit_complaint}

pub record DefinedAt (us : List ModuleUnit) (i : ℕ) (d : Definition) : Type 0 where
  pub place : ℕ
  pub stands : slice_get us place ≡ Some (Define d)
  pub before : definitions_before us place ≡ i

pub defined_at : (us : List ModuleUnit) (i : ℕ) (d : Definition) → slice_get (definitions_in us) i ≡ Some d → DefinedAt us i d
defined_at [] zero d e = absurd (cc)
defined_at [] (suc i) d e = absurd (cc)
defined_at (Define x ∷ us) zero d e = let same : x ≡ d = cc in record { place = 0; stands = ap (λ (y : Definition). Some (Define y)) same; before = refl }
defined_at (Define x ∷ us) (suc i) d e = (let r : DefinedAt us i d = defined_at us i d e in record { place = suc r.place; stands = r.stands; before = ap suc r.before })
defined_at (Variables x ∷ us) i d e = (let r : DefinedAt us i d = defined_at us i d e in record { place = suc r.place; stands = r.stands; before = r.before })
defined_at (Constants x ∷ us) i d e = (let r : DefinedAt us i d = defined_at us i d e in record { place = suc r.place; stands = r.stands; before = r.before })
defined_at (Assume x ∷ us) i d e = (let r : DefinedAt us i d = defined_at us i d e in record { place = suc r.place; stands = r.stands; before = r.before })
defined_at (Recursive rs ∷ us) i d e = (let r : DefinedAt us i d = defined_at us i d e in record { place = suc r.place; stands = r.stands; before = r.before })
defined_at (Instance m ∷ us) i d e = (let r : DefinedAt us i d = defined_at us i d e in record { place = suc r.place; stands = r.stands; before = r.before })
defined_at (Passed ∷ us) i d e = (let r : DefinedAt us i d = defined_at us i d e in record { place = suc r.place; stands = r.stands; before = r.before })

starts : (p : Program) (c : Config) (i j : ℕ) → LeadsTo p c i j → (d : Definition) × (slice_get (definitions_in p.units) i ≡ Some d)
starts p c _ _ (at_once i j u) = (u.definition, u.stands)
starts p c _ _ (through i j k u r) = (u.definition, u.stands)

strictly_starts : (p : Program) (c : Config) (i j : ℕ) → LeadsStrictly p c i j → (d : Definition) × (slice_get (definitions_in p.units) i ≡ Some d)
strictly_starts p c _ _ (recursion.at_once i j u) = (u.used.definition, u.used.stands)
strictly_starts p c _ _ (recursion.through i j k u r) = (u.used.definition, u.used.stands)

wrongly_starts : (p : Program) (c : Config) (i : ℕ) → MeetsRecursion p c i → (d : Definition) × (slice_get (definitions_in p.units) i ≡ Some d)
wrongly_starts p c i (inl l) = strictly_starts p c i i l
wrongly_starts p c i (inr u) = starts p c i i u.0

-- what is known of names is the same in any least levels
pub known_is : (p : Program) (c : Config) (bs : List Bool) (g : Takes) → AreLevelsOf p c bs → AreKnown p c g → g ≡ takes_in_program p c bs
known_is p c bs g h k = k.2 ∙ ap (takes_in_program p c) (levels_same p c k.0 bs k.1 h)

module _ (p : Program) (c : Config) (bs : List Bool) (h : AreLevelsOf p c bs) where
  known_there : AreKnown p c (takes_in_program p c bs)
  known_there = (bs, h, refl)

  pub none_wrong : HasFineNames p c → (i : ℕ) → ¬ MeetsRecursion p c i
  none_wrong fine i u =
      let s : (d : Definition) × (slice_get (definitions_in p.units) i ≡ Some d) = wrongly_starts p c i u in
      let r : DefinedAt p.units i s.0 = defined_at p.units i s.0 s.1 in
      fine r.place (Recursion s.0.name s.0.at) (record { unit = Define s.0; stands = r.stands; known = takes_in_program p c bs; are = known_there; wrong = inl (subst (λ (k : ℕ). MeetsRecursion p c k) (sym r.before) u, refl) })

  -- one that uses itself is not above level 0
  pub itself_low : HasFineNames p c → (i : ℕ) → UsesItself p c i → mark bs i ≡ false
  itself_low fine i u = one (mark bs i) refl
    where
      one : (b : Bool) → mark bs i ≡ b → mark bs i ≡ false
      one false q = q
      one true q = absurd (none_wrong fine i (inr (u, (bs, h, q))))

  pub fine_definition : HasFineNames p c → (i : ℕ) (d : Definition) → slice_get (definitions_in p.units) i ≡ Some d → complaint (with_names (takes_in_program p c bs) d.params) d.body ≡ None
  fine_definition fine i d e = one (complaint (with_names (takes_in_program p c bs) d.params) d.body) refl
    where
      one : (o : Option NameFault) → complaint (with_names (takes_in_program p c bs) d.params) d.body ≡ o → o ≡ None
      one None q = refl
      one (Some f) q =
          let r : DefinedAt p.units i d = defined_at p.units i d e in
          absurd (fine r.place f (record { unit = Define d; stands = r.stands; known = takes_in_program p c bs; are = known_there; wrong = inr (none_wrong fine (definitions_before p.units r.place), q) }))

-- what is wrong with a unit, where it is known whether its definition uses itself wrongly

pub untrue : IsTrue false → ⊥
untrue e = absurd (cc)

pub fault_is : (p : Program) (c : Config) (g : Takes) (i : ℕ) (unit : ModuleUnit) (f : NameFault) (b : Bool) → (IsTrue b ↔ MeetsRecursion p c i) → unit_complaint (definitions_in p.units) g b unit ≡ Some f → UnitFault p c g i unit f
fault_is p c g i (Define d) f true mark e = inl (mark.0 refl, cc)
fault_is p c g i (Define d) f false mark e = inr ((λ u. untrue (mark.1 u)), e)
fault_is p c g i (Assume t) f b mark e = e
fault_is p c g i (Variables ds) f b mark e = absurd (cc)
fault_is p c g i (Constants ds) f b mark e = absurd (cc)
fault_is p c g i (Recursive rs) f b mark e = e
fault_is p c g i (Instance m) f b mark e = absurd (cc)
fault_is p c g i Passed f b mark e = absurd (cc)

pub is_fault : (p : Program) (c : Config) (g : Takes) (i : ℕ) (unit : ModuleUnit) (f : NameFault) (b : Bool) → (IsTrue b ↔ MeetsRecursion p c i) → UnitFault p c g i unit f → unit_complaint (definitions_in p.units) g b unit ≡ Some f
is_fault p c g i (Define d) f true mark (inl w) = ap (λ (x : NameFault). Some x) (sym w.1)
is_fault p c g i (Define d) f true mark (inr w) = absurd (w.0 (mark.0 refl))
is_fault p c g i (Define d) f false mark (inl w) = absurd (untrue (mark.1 w.0))
is_fault p c g i (Define d) f false mark (inr w) = w.1
is_fault p c g i (Assume t) f b mark w = w
is_fault p c g i (Variables ds) f b mark w = absurd w
is_fault p c g i (Constants ds) f b mark w = absurd w
is_fault p c g i (Recursive rs) f b mark w = w
is_fault p c g i (Instance m) f b mark w = absurd w
is_fault p c g i Passed f b mark w = absurd w
