-- The entries of the stack, the innermost first.
use Rattle.std.specs.Prelude.{◌≡◌, List, [], ◌∷◌}
use Rattle.reading_trees.specs.Opens.{Opens}
use Rattle.reading_junctions.specs.declared.stack.Entry.{Entry}
use Rattle.reading_junctions.specs.Summary.{summary_of}

abbrev pub opens_of : List Entry → Opens
opens_of [] = []
opens_of (e ∷ es) = e.item ∷ opens_of es

-- each entry has the summary of all that is open up to it
abbrev pub AreSummed : List Entry → Type 0
AreSummed [] = Unit {0}
AreSummed (e ∷ es) = (e.summary ≡ summary_of (e.item ∷ opens_of es)) × AreSummed es
