-- The contract of `lay`.
use Rattle.std.specs.Prelude.{List, Result, Ok, Err, Vec}
use Rattle.std.specs.declared.alloc.Global.{Global}
use Rattle.reading_tokens.specs.declared.token.Token.{Token}
use Rattle.reading_trees.specs.declared.laid.Laid.{Laid}
use Rattle.reading_trees.specs.Laid.{IsLaid, IsLeftOfList}
use Rattle.reading_junctions.specs.declared.fault.LayFault.{LayFault}
use Rattle.reading_junctions.specs.declared.fault.LayFault.TheVariants.{LeftOfList, NoMemory}

-- The answer is the tokens with their junction lists marked, or the place of the first token that is left of a list
-- with a construct open in it. Of tokens that end once, one of the two can be said, in one way, and never both
-- (`reading_trees::laws_of_laid`).
abbrev pub Lays : Result (Vec Laid Global) LayFault → List Token → Type 0
Lays (Ok laid) tokens = IsLaid tokens laid.items
Lays (Err (LeftOfList place)) tokens = IsLeftOfList tokens place
Lays (Err NoMemory) tokens = Unit {0}
