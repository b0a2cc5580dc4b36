-- Where the reader stops. What it read so far is the beginning of a text of the grammar, and no text goes on through the token at which
-- it stops. Where it finds a clash of ranges, the grammar without ranges goes on through that token, and no text that fits its ranges does.
use Rattle.std.specs.Prelude.{◌≡◌, List, [], ◌∷◌, ◌++◌}
use Rattle.base_core.specs.declared.place.Place.{Place}
use Rattle.reading_trees.specs.declared.laid.Laid.{Laid}
use Rattle.reading_trees.specs.Begun.{Begun}
use Rattle.reading_trees.specs.Trees.{Tree}
use Rattle.reading_machine.specs.Beginnings.{FittingBegun}
use Rattle.reading_machine.specs.Meeting.{Meets}
use Rattle.reading_machine.specs.declared.frame.Mode.TheVariants as mode
use Rattle.reading_machine.specs.Machine.{StopsAt, ClashesAt, EndsAt, run}

-- before a token at which it stops, a text is begun
abbrev pub StoppedBegun : Type 0
StoppedBegun = (read rest : List Laid) (x : Laid) → run (read ++ x ∷ rest) [] mode.Want ≡ StopsAt (x ∷ rest) → Begun read

-- up to an operator or a closing token at which two ranges meet, a text is begun
abbrev pub ClashedBegun : Type 0
ClashedBegun = (read rest : List Laid) (x : Laid) (p q : Place) → run (read ++ x ∷ rest) [] mode.Want ≡ ClashesAt p q (x ∷ rest) → Begun (read ++ x ∷ [])

-- before a token at which an expression has ended, a text is begun
abbrev pub EndsBegun : Type 0
EndsBegun = (read rest : List Laid) (x : Laid) (e : Tree) → run (read ++ x ∷ rest) [] mode.Want ≡ EndsAt e (x ∷ rest) → Begun read

-- no text goes on through a token at which it stops
abbrev pub StoppedThere : Type 0
StoppedThere = (read rest : List Laid) (x : Laid) → run (read ++ x ∷ rest) [] mode.Want ≡ StopsAt (x ∷ rest) → ¬ (Begun (read ++ x ∷ []))

-- nor through one before which an expression has ended
abbrev pub EndsThere : Type 0
EndsThere = (read rest : List Laid) (x : Laid) (e : Tree) → run (read ++ x ∷ rest) [] mode.Want ≡ EndsAt e (x ∷ rest) → ¬ (Begun (read ++ x ∷ []))

-- no text that fits its ranges goes on through a token at which two ranges meet
abbrev pub ClashedThere : Type 0
ClashedThere = (read rest : List Laid) (x : Laid) (p q : Place) → run (read ++ x ∷ rest) [] mode.Want ≡ ClashesAt p q (x ∷ rest) → ¬ (FittingBegun (read ++ x ∷ []))

-- where all tokens are read, a text is begun
abbrev pub RanBegun : Type 0
RanBegun = (read : List Laid) → run read [] mode.Want ≡ StopsAt [] → Begun read

-- where all tokens are read, a text that fits its ranges is begun
abbrev pub RanFits : Type 0
RanFits = (read : List Laid) → run read [] mode.Want ≡ StopsAt [] → FittingBegun read

-- where the reader finds a clash, two operators meet at those places
abbrev pub ClashedMeets : Type 0
ClashedMeets = (read rest : List Laid) (x : Laid) (p q : Place) → run (read ++ x ∷ rest) [] mode.Want ≡ ClashesAt p q (x ∷ rest) → Meets Begun read x p q
