-- The law between junction lists and modules: what is marked ends as the tokens do.
use Rattle.std.specs.Prelude.{List}
use Rattle.reading_tokens.specs.declared.token.Token.{Token}
use Rattle.reading_trees.specs.declared.laid.Laid.{Laid}
use Rattle.reading_trees.specs.Laid.{EndsOnce, IsLaid}
use Rattle.reading_trees.specs.Modules.{LaidEndsOnce}

-- where the last token is the End and no other is, the same holds of the tokens with their lists marked
abbrev pub MarkedEndsOnce : Type 0
MarkedEndsOnce = (tokens : List Token) (laid : List Laid) → EndsOnce tokens → IsLaid tokens laid → LaidEndsOnce laid
