-- The words that begin statements. CONSTANT and CONSTANTS, which begin one too, are reserved words of the
-- language and no names, so they stand apart.
use Rattle.std.specs.Prelude.{ℕ, List, Bool, Option, Some, None, if◌then◌else◌, codes, is_some}
use Rattle.std.specs.Str.{bytes_eq}
use Rattle.reading_configuration.specs.declared.keyword.Keyword.{Keyword}
use Rattle.reading_configuration.specs.declared.keyword.Keyword.TheVariants.{Chooses, Lists, Deadlock, Unsupported}
use Rattle.reading_configuration.specs.declared.keyword.Part.TheVariants.{Init, Next, Specification}
use Rattle.reading_configuration.specs.declared.keyword.Listed.TheVariants.{Invariant, Property}

-- what a word begins, if it begins a statement
unfoldable pub keyword_of : List ℕ → Option Keyword
keyword_of word =
    if bytes_eq word (codes "INIT") then Some (Chooses Init)
    else if bytes_eq word (codes "NEXT") then Some (Chooses Next)
    else if bytes_eq word (codes "SPECIFICATION") then Some (Chooses Specification)
    else if bytes_eq word (codes "INVARIANT") then Some (Lists Invariant)
    else if bytes_eq word (codes "INVARIANTS") then Some (Lists Invariant)
    else if bytes_eq word (codes "PROPERTY") then Some (Lists Property)
    else if bytes_eq word (codes "PROPERTIES") then Some (Lists Property)
    else if bytes_eq word (codes "CHECK_DEADLOCK") then Some Deadlock
    else if bytes_eq word (codes "CONSTRAINT") then Some Unsupported
    else if bytes_eq word (codes "CONSTRAINTS") then Some Unsupported
    else if bytes_eq word (codes "ACTION_CONSTRAINT") then Some Unsupported
    else if bytes_eq word (codes "ACTION_CONSTRAINTS") then Some Unsupported
    else if bytes_eq word (codes "SYMMETRY") then Some Unsupported
    else if bytes_eq word (codes "VIEW") then Some Unsupported
    else if bytes_eq word (codes "ALIAS") then Some Unsupported
    else None

abbrev pub begins_statement : List ℕ → Bool
begins_statement word = is_some (keyword_of word)
