-- For the prover: when each name of a program is above level 0, as its entry tells.
use Rattle.std.specs.Prelude.{List, [], ◌∷◌}
use Rattle.names_least_levels.specs.declared.told.NameLevel.{NameLevel}
use Rattle.names_least_levels.specs.declared.told.Told.{Told}
use Rattle.names_least_levels.specs.declared.told.Told.TheVariants.{Above, Constant, OfDefinition}
use Rattle.names_scopes.specs.declared.meant.Entry.{Entry}
use Rattle.names_scopes.specs.declared.meant.Meant.{Meant}
use Rattle.names_scopes.specs.declared.meant.Meant.TheVariants as meant

-- a variable is, and a definition where its mark says so
abbrev pub told_meant : Meant → Told
told_meant (meant.Variable x) = Above
told_meant (meant.Definition k) = OfDefinition k.0
told_meant (meant.Slot i) = Constant
told_meant (meant.Known v) = Constant
told_meant (meant.Set s) = Constant
told_meant (meant.Standard s) = Constant

abbrev pub told_entry : Entry → NameLevel
told_entry e = record { name = e.name; told = told_meant e.is.meant }

abbrev pub told_names : List Entry → List NameLevel
told_names [] = []
told_names (e ∷ es) = told_entry e ∷ told_names es
