-- Why no specification comes of what was read.
use Rattle.std.specs.Prelude.{◌≡◌, ℕ, Bool, true, List, Option, Err}
use Rattle.reading_trees.specs.declared.config.Config.{Config}
use Rattle.reading_trees.specs.declared.module.Program.{Program}
use Rattle.reading_modules.specs.declared.notes.Noted.{Noted}
use Rattle.names_resolving.specs.declared.fault.ResolveFault.{ResolveFault}
use Rattle.reading_wide_modules.specs.declared.unread.Unread.{Unread}
use Rattle.names_specification.specs.Resolving.{ResolvedBy}
use Rattle.run_wide.specs.Answers.{NeedsPiece}
use Rattle.run_wide.specs.Passing.{Passes}
use Rattle.run_texts.specs.Modules.{piece_refusal}
use Rattle.run_texts.specs.Resolved.{names_refusal}
use Rattle.run_reading_defs.specs.Refusals.{all_files}

-- the report: names or levels are refused of what is left, or a piece was not read that is needed
pub data IsUnresolved (wide : Bool) (p : Program) (c : Config) (silent : Option (List ℕ)) (unread : List (Noted Unread)) : List ℕ → Type 0 where
  by_names : (q : Program) (d : Config) (fault : ResolveFault) → Passes p c silent unread wide q d → ResolvedBy wide q d silent (Err fault)
      → IsUnresolved wide p c silent unread (names_refusal (all_files q d) fault)
  by_a_piece : (index : ℕ) (root : List ℕ) → wide ≡ true → (n : NeedsPiece p c silent unread index root)
      → IsUnresolved wide p c silent unread (piece_refusal p.files n.piece.note.why root)
