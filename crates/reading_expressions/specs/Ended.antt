-- What was read of laid tokens from an index on, by the reader from a start.
use Rattle.std.specs.Prelude.{◌≡◌, ℕ, ◌<◌, List, [], length, drop}
use Rattle.reading_trees.specs.declared.laid.Laid.{Laid}
use Rattle.reading_machine.specs.Machine.{EndsAt, EndsDefinitionAt}
use Rattle.reading_token_steps.specs.Kept.{kept_run}
use Rattle.reading_expressions.specs.Refused.{ShallowUpTo}
use Rattle.reading_machine.specs.declared.frame.Mode.{Mode}
use Rattle.reading_expressions.specs.declared.reader.Ended.{Ended}
use Rattle.reading_expressions.specs.declared.reader.Ended.TheVariants.{Expression, Definition}

abbrev pub index_of : Ended → ℕ
index_of (Expression e i) = i
index_of (Definition d i) = i

abbrev pub EndsSo : List Laid → ℕ → Mode → Ended → Type 0
EndsSo laid from start (Expression e i) = kept_run laid from [] start ≡ EndsAt e (drop i laid)
EndsSo laid from start (Definition d i) = kept_run laid from [] start ≡ EndsDefinitionAt d.name d.at d.params d.form d.body (drop i laid)

pub record IsRead (laid : List Laid) (from : ℕ) (start : Mode) (ended : Ended) : Type 0 where
  pub ends : EndsSo laid from start ended
  pub within : index_of ended < length laid
  pub shallow : ShallowUpTo laid from start (drop (index_of ended) laid)
