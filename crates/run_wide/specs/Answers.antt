-- What the call answers: a specification, or why there is none.
use Rattle.std.specs.Prelude.{◌≡◌, ℕ, Bool, true, List, Option, Some, Ok, Err, slice_get}
use Rattle.reading_trees.specs.declared.config.Config.{Config}
use Rattle.reading_trees.specs.declared.module.Program.{Program}
use Rattle.reading_modules.specs.declared.notes.Noted.{Noted}
use Rattle.reading_wide_modules.specs.declared.unread.Unread.{Unread}
use Rattle.names_specification.specs.Resolving.{ResolvedBy}
use Rattle.run_wide.specs.declared.resolution.Resolution.{Resolution}
use Rattle.run_wide.specs.declared.resolution.ResolutionFault.{ResolutionFault}
use Rattle.run_wide.specs.declared.resolution.ResolutionFault.TheVariants.{Names, Piece, NoMemory}
use Rattle.run_wide.specs.Needing.{IsFirstNeeded, IsNeededBy}
use Rattle.run_wide.specs.Passing.{IsNotWhole, Passes, spelled}

-- the piece of that index was not read and is needed, by that name
pub record NeedsPiece (p : Program) (c : Config) (silent : Option (List ℕ)) (unread : List (Noted Unread)) (index : ℕ) (root : List ℕ) : Type 0 where
  pub not_whole : IsNotWhole p c silent unread
  pub piece : Noted Unread
  pub name : List ℕ
  pub needed : IsFirstNeeded (spelled p c unread) c silent unread piece name
  pub stands : slice_get unread index ≡ Some piece
  pub needed_by : IsNeededBy (spelled p c unread) c silent name root

-- the program and the configuration that are resolved, and their specification
pub record IsResolution (wide : Bool) (p : Program) (c : Config) (silent : Option (List ℕ)) (unread : List (Noted Unread)) (r : Resolution) : Type 0 where
  pub passes : Passes p c silent unread wide r.program r.config
  pub resolved : ResolvedBy wide r.program r.config silent (Ok r.spec)

-- those whose names or levels are refused, a piece that is needed, or want of memory
abbrev pub IsResolutionFault : Bool → Program → Config → Option (List ℕ) → List (Noted Unread) → ResolutionFault → Type 0
IsResolutionFault wide p c silent unread (Names q d fault) = Passes p c silent unread wide q d × ResolvedBy wide q d silent (Err fault)
IsResolutionFault wide p c silent unread (Piece index root) = (wide ≡ true) × NeedsPiece p c silent unread index root
IsResolutionFault wide p c silent unread NoMemory = Unit {0}
