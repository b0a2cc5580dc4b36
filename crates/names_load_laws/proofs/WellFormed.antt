-- What is loaded is a program as the reader gives it.
use Rattle.std.proofs.Common.{List, [], ◌∷◌, ◌++◌, ℕ, true, Option, sym, subst}
use Rattle.std.proofs.lemmas.List.Elements.{All-nil}
use Rattle.base_core.specs.Device.{File}
use Rattle.reading_trees.specs.declared.module.Module.{Module}
use Rattle.reading_trees.specs.declared.module.Unit.{Unit as ModuleUnit}
use Rattle.reading_trees.specs.declared.module.WholeProgram.{WholeProgram}
use Rattle.reading_modules.specs.Loads.{IsProgramBy}
use Rattle.reading_modules.specs.declared.notes.Noted.{Noted}
use Rattle.reading_modules.specs.Readings.{Reading}
use Rattle.reading_modules.specs.Refusals.{SpelledBy, strict}
use Rattle.reading_machine.specs.LawsOfExtents.{LocalText, LocalDefinition}
use Rattle.names_specification_laws.specs.Formed.{UnitsAreFormed}
use Rattle.names_specification_laws.specs.FormLaws.{ModulesAreFormed}
use Rattle.names_resolved_laws.specs.InOrder.{IsWellFormed}
use Rattle.reading_configuration.proofs.TokensHeld.{AllHold, tokens_hold}
use Rattle.names_load_laws.specs.AnyReading.{LoadedAreWellFormedBy, SpellsFormed}
use Rattle.names_load_laws.specs.Loaded.{LoadedAreWellFormed}
use Rattle.names_load_laws.proofs.Modules.{of_all}
use Rattle.names_load_laws.proofs.Named.{AreNamed, module_named, named_append}
use Rattle.names_load_laws.proofs.NamesDiffer.{VariablesDiffer, DefinitionsDiffer, variables_differ, definitions_differ}

formed_append : (us vs : List ModuleUnit) → UnitsAreFormed us → UnitsAreFormed vs → UnitsAreFormed (us ++ vs)
formed_append [] vs h k = k
formed_append (u ∷ us) vs h k = (h.0, formed_append us vs h.1 k)

-- what is known of the units of each module
abbrev pub IsGood : List ModuleUnit → Type 0
IsGood us = UnitsAreFormed us × AreNamed us

pub good_append : (us vs : List ModuleUnit) → IsGood us → IsGood vs → IsGood (us ++ vs)
good_append us vs h k = (formed_append us vs h.0 k.0, named_append us vs h.1 k.1)

-- ---- any reading

module _ {N : Type 0} (reading : Reading N) (spells : SpellsFormed reading) where
  well_formed : (holds : Option (List File)) (folder name : List ℕ) (p : WholeProgram) (notes : List (Noted N)) → IsProgramBy reading holds folder name p notes
      → IsWellFormed p.program
  well_formed holds folder name p notes i =
      let g =
      of_all reading holds folder IsGood (tt, All-nil _) good_append
      (λ number n m ns is. (spells.formed number is.bytes m ns is.spelled, spells.named number is.bytes m ns is.spelled)) name i.all i.flattened in
      let e = sym i.program.units in
      record {
        formed = subst UnitsAreFormed e g.0;
        variables_differ = subst VariablesDiffer e (variables_differ i.all.standard i.all.units i.names.here);
        definitions_differ = subst DefinitionsDiffer e (definitions_differ i.all.standard i.all.units i.names.here);
        definitions_named = subst AreNamed e g.1;
      }

  pub are_well_formed_by : LoadedAreWellFormedBy reading
  are_well_formed_by holds before now path l h = well_formed holds h.0 h.1 l.program l.notes h.3

-- ---- the strict one

module _ (forms : ModulesAreFormed) (local : LocalText) (definition : LocalDefinition) where
  pub module_good : (number : ℕ) (bytes : List ℕ) (m : Module) → SpelledBy number bytes m → IsGood m.units
  module_good number bytes m s =
      let held = tokens_hold true number _ _ s.laid_as.lexed in
      (forms m s.laid s.spells, module_named local definition m s.laid s.spells (subst AllHold (sym s.laid_as.marked.same) held.0))

  pub strict_spells : SpellsFormed strict
  strict_spells = record {
    formed = λ number bytes m notes s. (module_good number bytes m s.0).0;
    named = λ number bytes m notes s. (module_good number bytes m s.0).1;
  }

  pub are_well_formed : LoadedAreWellFormed
  are_well_formed holds before now path p h = well_formed strict strict_spells holds h.0 h.1 p [] h.3
