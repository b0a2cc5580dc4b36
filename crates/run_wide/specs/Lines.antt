-- What is told of the pieces of modules that were not read, and of the units that no step needs: a text for each, which the report has behind
-- `NOT CHECKED`, as it has what a configuration leaves unchecked.
use Rattle.std.specs.Prelude.{ℕ, Bool, true, false, nat_eq, if◌then◌else◌, List, [], ◌∷◌, ◌++◌, map, codes}
use Rattle.std.specs.List.{list_any}
use Rattle.base_core.specs.declared.place.Place.{Place}
use Rattle.reading_trees.specs.declared.module.Unit.{Unit as ModuleUnit}
use Rattle.reading_pieces.specs.declared.mark.Mark.{Mark}
use Rattle.reading_pieces.specs.declared.mark.Mark.TheVariants.{Declare, Assume, Theorem, Dashes, Local, Use, Recursive, Instance, Name}
use Rattle.reading_modules.specs.declared.notes.Noted.{Noted}
use Rattle.reading_wide_modules.specs.declared.unread.Unread.{Unread}
use Rattle.names_pruning.specs.declared.telling.PassedOver.{PassedOver}
use Rattle.names_pruning.specs.declared.telling.PassedOver.TheVariants.{Definition, Assumption}
use Rattle.names_pruning.specs.Told.{told}
use Rattle.run_texts.specs.Places.{at_place, detail}

-- each text is one line of the report: where a name or the name of a file has a line feed, the word stands alone
abbrev pub has_feed : List ℕ → Bool
has_feed text = list_any (λ b. nat_eq b 10) text

abbrev pub in_one_line : List ℕ → List ℕ → List ℕ
in_one_line word text = if has_feed text then word else text

-- a thing without a name, by the word for it and its place
abbrev pub placed_line : List (List ℕ) → List ℕ → Place → List ℕ
placed_line files word at = in_one_line word (word ++ at_place files at)

-- and one with a name
abbrev pub named_line : List (List ℕ) → List ℕ → Place → List ℕ → List ℕ
named_line files word at name = in_one_line word (word ++ detail name ++ at_place files at)

-- ---- pieces that were not read

-- Theorems and their proofs are passed over silently, as ever. What says that a name is recursive goes with the definition of the name, of which is told.
abbrev pub is_silent : Mark → Bool
is_silent Theorem = true
is_silent Dashes = true
is_silent Use = true
is_silent Recursive = true
is_silent _ = false

abbrev pub word_of : Mark → List ℕ
word_of Assume = codes "ASSUME"
word_of Instance = codes "INSTANCE"
word_of Declare = codes "DECLARATION"
word_of Local = codes "DEFINITION"
word_of Name = codes "DEFINITION"
word_of _ = codes "UNIT"

-- a line for each name that the piece declares, or one for a piece that declares none
abbrev pub named_lines : List (List ℕ) → List ℕ → Place → List (List ℕ) → List (List ℕ)
named_lines files word at [] = placed_line files word at ∷ []
named_lines files word at (name ∷ names) = map (named_line files word at) (name ∷ names)

abbrev pub piece_lines : List (List ℕ) → Mark → Place → List (List ℕ) → List (List ℕ)
piece_lines files begins at names = if is_silent begins then [] else named_lines files (word_of begins) at names

abbrev pub unread_lines : List (List ℕ) → List (Noted Unread) → List (List ℕ)
unread_lines files [] = []
unread_lines files (n ∷ unread) = piece_lines files n.note.begins n.note.at n.note.names ++ unread_lines files unread

-- ---- units that no step needs

abbrev pub over_line : List (List ℕ) → PassedOver → List ℕ
over_line files (Definition name at) = named_line files (codes "DEFINITION") at name
over_line files (Assumption at) = placed_line files (codes "ASSUME") at

-- the pieces in the order of the modules, and behind them the units in the order of the text
abbrev pub passed_lines : List (List ℕ) → List (Noted Unread) → List ModuleUnit → List (List ℕ)
passed_lines files unread over = unread_lines files unread ++ map (over_line files) (told over)
