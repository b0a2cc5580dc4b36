-- How places are written, and the line of a refusal.
use Rattle.std.specs.Prelude.{ℕ, List, [], ◌++◌, Option, Some, None, slice_get, codes, decimal}
use Rattle.base_core.specs.declared.place.Place.{Place}

-- a text that is there, and else the empty one
abbrev pub text_or_none : Option (List ℕ) → List ℕ
text_or_none (Some text) = text
text_or_none None = []

-- the name of that number, from 0; past the end the empty text
abbrev pub name_at : List (List ℕ) → ℕ → List ℕ
name_at names i = text_or_none (slice_get names i)

-- a place: its file's name, its line and its column
abbrev pub place_text : List (List ℕ) → Place → List ℕ
place_text files at = name_at files at.file ++ codes ":" ++ decimal at.line ++ codes ":" ++ decimal at.col

abbrev pub at_place : List (List ℕ) → Place → List ℕ
at_place files at = codes " at " ++ place_text files at

-- a detail, behind a blank
abbrev pub detail : List ℕ → List ℕ
detail text = codes " " ++ text

-- two numbers, behind what they are
abbrev pub found_needed : ℕ → ℕ → List ℕ
found_needed found needed = codes " found=" ++ decimal found ++ codes " needed=" ++ decimal needed

-- The line of a refusal: its code and name, and what follows them.
abbrev pub refused : List ℕ → List ℕ → List ℕ
refused what more = codes "REFUSED " ++ what ++ more ++ codes "\n"
