-- The larger functions of the reader under names that unfold only where a proof says so.
use Rattle.std.specs.Prelude.{ℕ, List, drop}
use Rattle.reading_trees.specs.declared.laid.Laid.{Laid}
use Rattle.reading_trees.specs.Trees.{Tree}
use Rattle.base_core.specs.declared.place.Place.{Place}
use Rattle.reading_tokens.specs.declared.token.Kind.{Kind}
use Rattle.reading_machine.specs.Machine.{Stepped, Outcome, behind, closes, laid_closes, kind_closes, follows, step, run}
use Rattle.reading_machine.specs.declared.frame.Frame.{Frame}
use Rattle.reading_machine.specs.declared.frame.Mode.{Mode}

-- what a token of that kind does to this frame, which waits
unfoldable pub kept_kind_closes : Kind → Place → Frame → List Frame → Tree → Stepped
kept_kind_closes k q f fs e = kind_closes k q f fs e

-- what a token does to this frame, which waits
unfoldable pub kept_laid_closes : Laid → Frame → List Frame → Tree → Stepped
kept_laid_closes x f fs e = laid_closes x f fs e

-- what a token does to the innermost frame that waits
unfoldable pub kept_closes : Laid → List Frame → Tree → Stepped
kept_closes x fs e = closes x fs e

-- what a token does that is no infix operator and no step
unfoldable pub kept_behind : Laid → List Frame → Tree → Stepped
kept_behind x fs e = behind x fs e

-- what a token does behind a primary
unfoldable pub kept_follows : Laid → List Frame → Tree → Stepped
kept_follows x fs e = follows x fs e

-- what a token does
unfoldable pub kept_step : Laid → List Frame → Mode → Stepped
kept_step x fs m = step x fs m

-- what all the tokens from an index on do
unfoldable pub kept_run : List Laid → ℕ → List Frame → Mode → Outcome
kept_run laid i fs m = run (drop i laid) fs m
