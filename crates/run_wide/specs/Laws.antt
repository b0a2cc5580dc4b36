-- What stays in what is passed on.
use Rattle.std.specs.Prelude.{◌≡◌, ℕ, Bool, List, All, Option}
use Rattle.reading_trees.specs.declared.config.Config.{Config}
use Rattle.reading_trees.specs.declared.module.Program.{Program}
use Rattle.reading_modules.specs.declared.notes.Noted.{Noted}
use Rattle.reading_wide_modules.specs.declared.unread.Unread.{Unread}
use Rattle.names_resolved_laws.specs.InOrder.{IsWellFormed}
use Rattle.names_tables.specs.Values.{AreSpelled}
use Rattle.names_resolving.specs.Resolved.{IsOneForm}
use Rattle.reading_laws.specs.Telling.{HasNoFeed}
use Rattle.run_wide.specs.Passing.{Passes}

-- a program as the reader gives it stays one
abbrev pub PassedAreWellFormed : Type 0
PassedAreWellFormed = (wide : Bool) (p q : Program) (c d : Config) (silent : Option (List ℕ)) (unread : List (Noted Unread)) → Passes p c silent unread wide q d
    → IsWellFormed p → IsWellFormed q

-- values, and the form in which the behaviour is given, stay as they are
abbrev pub PassedAreSpelled : Type 0
PassedAreSpelled = (wide : Bool) (p q : Program) (c d : Config) (silent : Option (List ℕ)) (unread : List (Noted Unread)) → Passes p c silent unread wide q d
    → AreSpelled c.givens → AreSpelled d.givens

abbrev pub PassedHaveOneForm : Type 0
PassedHaveOneForm = (wide : Bool) (p q : Program) (c d : Config) (silent : Option (List ℕ)) (unread : List (Noted Unread)) → Passes p c silent unread wide q d
    → IsOneForm c → IsOneForm d

-- places speak of the same files
abbrev pub PassedHaveFiles : Type 0
PassedHaveFiles = (wide : Bool) (p q : Program) (c d : Config) (silent : Option (List ℕ)) (unread : List (Noted Unread)) → Passes p c silent unread wide q d
    → (q.files ≡ p.files) × (d.file ≡ c.file)

-- each thing that goes is one line of the report
abbrev pub PassedAreLines : Type 0
PassedAreLines = (wide : Bool) (p q : Program) (c d : Config) (silent : Option (List ℕ)) (unread : List (Noted Unread)) → Passes p c silent unread wide q d
    → All HasNoFeed c.unchecked → All HasNoFeed d.unchecked
