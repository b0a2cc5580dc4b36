-- With the word `--wide`: which program and which configuration are resolved. A program of which all was read and that resolves stays as it is, so that
-- nothing changes for what is accepted so. Else calls of TLC's operators for assertions and for printing are spelled out in it, and of that program:
--
-- 1. Nothing that was not read may be needed.
-- 2. What is bad goes, and what is left is resolved.
-- 3. Where something needed is bad, or what is left is refused, what is needed is left alone. It is resolved, or refused, as it stands.
--
-- What goes is told behind all else that the configuration leaves unchecked.
use Rattle.std.specs.Prelude.{◌≡◌, ◌≢◌, ◌⊎◌, ℕ, ◌<◌, ◌≤◌, Bool, true, false, List, [], ◌++◌, length, Option, Ok, Err}
use Rattle.reading_trees.specs.declared.config.Config.{Config}
use Rattle.reading_trees.specs.declared.module.Program.{Program}
use Rattle.reading_trees.specs.declared.module.Unit.{Unit as ModuleUnit}
use Rattle.reading_wide_configuration.specs.Wide.{also_told}
use Rattle.reading_modules.specs.declared.notes.Noted.{Noted}
use Rattle.reading_wide_modules.specs.declared.unread.Unread.{Unread}
use Rattle.names_program.specs.InUnits.{variables_in}
use Rattle.names_terms.specs.declared.spec.Spec.{Spec}
use Rattle.names_resolving.specs.declared.fault.ResolveFault.{ResolveFault}
use Rattle.names_specification.specs.Resolving.{ResolvedWide}
use Rattle.names_tlc_calls.specs.Programs.{spelled_out}
use Rattle.names_pruning.specs.Needed.{needed_names}
use Rattle.names_pruning.specs.Pruning.{Alone, NeedsBad, NoneIsAsked, Pruned}
use Rattle.run_wide.specs.Lines.{passed_lines}
use Rattle.run_wide.specs.Needing.{names_unread}

-- the configuration, with what is told of what goes
abbrev pub telling : Program → List (Noted Unread) → List ModuleUnit → Config → Config
telling p unread over c = also_told (passed_lines p.files unread over) c

-- the program with those calls spelled out
abbrev pub spelled : Program → Config → List (Noted Unread) → Program
spelled p c unread = spelled_out p c (names_unread unread)

-- a piece was not read, or the program is refused; programs with too many variables are refused as ever
pub record IsNotWhole (p : Program) (c : Config) (silent : Option (List ℕ)) (unread : List (Noted Unread)) : Type 0 where
  pub few : length (variables_in p.units) ≤ 64
  pub lacks : (unread ≢ []) ⊎ ((fault : ResolveFault) × ResolvedWide p c silent (Err fault))

-- the program that is left, and the units that go
pub data Leaves (p : Program) (c : Config) (silent : Option (List ℕ)) (unread : List (Noted Unread)) : Program → List ModuleUnit → Type 0 where
  without_bad : (q : Program) (over : List ModuleUnit) (s : Spec) → Pruned p c (names_unread unread) (needed_names c silent) q over
      → ResolvedWide q (telling p unread over c) silent (Ok s) → Leaves p c silent unread q over
  needed_alone : (q : Program) (over : List ModuleUnit) → NeedsBad p c (names_unread unread) (needed_names c silent)
      → Alone p c (names_unread unread) (needed_names c silent) q over → Leaves p c silent unread q over
  needed_alone_of_it : (r q : Program) (gone over : List ModuleUnit) (fault : ResolveFault) → Pruned p c (names_unread unread) (needed_names c silent) r gone
      → ResolvedWide r (telling p unread gone c) silent (Err fault) → Alone r c (names_unread unread) (needed_names c silent) q over
      → Leaves p c silent unread q (gone ++ over)

-- the program and the configuration that are resolved, with the word and without it
pub data Passes (p : Program) (c : Config) (silent : Option (List ℕ)) (unread : List (Noted Unread)) : Bool → Program → Config → Type 0 where
  without_word : Passes p c silent unread false p c
  is_whole : (s : Spec) → unread ≡ [] → ResolvedWide p c silent (Ok s) → Passes p c silent unread true p c
  has_many : 64 < length (variables_in p.units) → Passes p c silent unread true p c
  goes_on : (q : Program) (over : List ModuleUnit) → IsNotWhole p c silent unread → NoneIsAsked (spelled p c unread) c (names_unread unread) (needed_names c silent)
      → Leaves (spelled p c unread) c silent unread q over → Passes p c silent unread true q (telling p unread over c)
