-- What is loaded is a program as the reader gives it when it has what its instances make.
use Rattle.std.proofs.Common.{◌≢◌, List, [], ◌∷◌, ◌++◌, ℕ, Bool, true, Option, Ok, sym, subst}
use Rattle.std.specs.Prelude.{AllPairs}
use Rattle.base_core.specs.Device.{File}
use Rattle.reading_trees.specs.declared.module.Instance.{Instance as ModuleInstance}
use Rattle.reading_trees.specs.declared.module.Module.{Module}
use Rattle.reading_trees.specs.declared.module.Program.{Program}
use Rattle.reading_trees.specs.declared.module.Unit.{Unit as ModuleUnit}
use Rattle.reading_trees.specs.declared.module.WholeProgram.{WholeProgram}
use Rattle.reading_tokens.specs.declared.token.Token.{Token}
use Rattle.reading_modules.specs.declared.notes.Noted.{Noted}
use Rattle.reading_modules.specs.Loads.{IsProgramBy}
use Rattle.reading_modules.specs.Refusals.{IsModule, SpelledBy}
use Rattle.reading_modules.specs.Twice.{AreNewInside, declared_in}
use Rattle.names_program.specs.InUnits.{variables_in}
use Rattle.names_program.specs.Names.{names_declared}
use Rattle.reading_machine.specs.LawsOfExtents.{LocalText, LocalDefinition}
use Rattle.names_specification_laws.specs.Formed.{UnitsAreFormed}
use Rattle.names_specification_laws.specs.FormLaws.{ModulesAreFormed}
use Rattle.names_resolved_laws.specs.InOrder.{IsWellFormed}
use Rattle.reading_configuration.proofs.TokensHeld.{AllHold, tokens_hold}
use Rattle.names_whole_programs.specs.Expansion.{ExpansionBy}
use Rattle.reading_wide_modules.specs.declared.unread.Unread.{Unread}
use Rattle.reading_wide_modules.specs.Alone.{ReadAs}
use Rattle.reading_wide_modules.specs.Wide.{reading_by}
use Rattle.names_load_laws.specs.AnyReading.{LoadedAreWellFormedBy}
use Rattle.names_load_laws.proofs.NamesDiffer.{Differ, new_differ}
use Rattle.names_expanded_laws.specs.Expansion.{ExpandedAreWellFormed}
use Rattle.names_expanded_laws.proofs.Expanding.{AreGoodInside, UnitsAreNamed, expansion, well_formed}
use Rattle.names_expanded_laws.proofs.Inside.{Inside, of_all}
use Rattle.names_expanded_laws.proofs.MadeNames.{formed_join}
use Rattle.names_expanded_laws.proofs.ExpansionPieces.{good_by}
use Rattle.names_expanded_laws.proofs.Words.{module_units_named, named_join}

-- what is known of the units of each module
abbrev IsGood : List ModuleUnit → Type 0
IsGood us = UnitsAreFormed us × UnitsAreNamed us

good_join : (us vs : List ModuleUnit) → IsGood us → IsGood vs → IsGood (us ++ vs)
good_join us vs h k = (formed_join us vs h.0 k.0, named_join us vs h.1 k.1)

module _ (forms : ModulesAreFormed) (local : LocalText) (definition : LocalDefinition) where
  read_good : (tokens : List Token) (m : Module) → ReadAs tokens m → AllHold tokens → IsGood m.units
  read_good tokens m r held = (forms m r.laid r.spells, module_units_named local definition m r.laid r.spells (subst AllHold (sym r.marked.same) held))

  whole_good : (number : ℕ) (bytes : List ℕ) (m : Module) → SpelledBy number bytes m → IsGood m.units
  whole_good number bytes m s =
      let held = tokens_hold true number _ _ s.laid_as.lexed in
      (forms m s.laid s.spells, module_units_named local definition m s.laid s.spells (subst AllHold (sym s.laid_as.marked.same) held.0))

  one_good : (wide : Bool) (holds : Option (List File)) (folder : List ℕ) (number : ℕ) (name : List ℕ) (m : Module) (notes : List Unread) → IsModule (reading_by wide) holds folder number name m notes → IsGood m.units
  one_good wide holds folder number name m notes s = good_by IsGood (tt, tt) good_join read_good whole_good wide number s.bytes m notes s.spelled

  inside_good : (wide : Bool) (holds : Option (List File)) (folder : List ℕ) (is : List ModuleInstance) → Inside (reading_by wide) holds folder IsGood (tt, tt) good_join (one_good wide holds folder) is → AreNewInside is → AreGoodInside is
  inside_good wide holds folder [] h n = tt
  inside_good wide holds folder (i ∷ is) h n = (h.0.0, new_differ i.program.standard [] (declared_in i.program.units) n.0, inside_good wide holds folder is h.1 n.1)

  expanded_good : (wide : Bool) (holds : Option (List File)) (folder name : List ℕ) (w : WholeProgram) (notes : List (Noted Unread)) → IsProgramBy (reading_by wide) holds folder name w notes → AllPairs (λ a b. a ≢ b) (names_declared (variables_in w.program.units)) → (p : Program) → ExpansionBy wide w (Ok p) → IsWellFormed p
  expanded_good wide holds folder name w notes i variables p e =
      let g = of_all (reading_by wide) holds folder IsGood (tt, tt) good_join (one_good wide holds folder) name i.all i.flattened in
      let own : IsGood w.program.units = subst IsGood (sym i.program.units) g.0 in
      let inside : AreGoodInside w.instances = subst AreGoodInside (sym i.program.instances) (inside_good wide holds folder i.all.instances g.1 i.names.inside) in
      let differ : Differ (names_declared (declared_in w.program.units)) = subst (λ v. Differ (names_declared (declared_in v))) (sym i.program.units) (new_differ i.all.standard [] (declared_in i.all.units) i.names.here) in
      well_formed w.program.units w.instances p own.1 differ inside variables (expansion wide w p own.0 inside e)

  pub are_well_formed : ((wide : Bool) → LoadedAreWellFormedBy (reading_by wide)) → ExpandedAreWellFormed
  are_well_formed loaded wide holds before now path l h p e = expanded_good wide holds h.0 h.1 l.program l.notes h.3 (loaded wide holds before now path l h).variables_differ p e
