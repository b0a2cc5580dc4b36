-- The words of statements that say something of TLC's search alone: which states and steps it leaves out, which it takes for one, what it prints, and what it
-- asks for at its end. Of a run that is given they say nothing.
use Rattle.std.specs.Prelude.{ℕ, List, ◌++◌, Bool, ◌||◌, Option, Some, None, if◌then◌else◌, codes, is_some}
use Rattle.std.specs.Str.{bytes_eq}
use Rattle.reading_configuration.specs.Keywords.{begins_statement}
use Rattle.reading_wide_configuration.specs.declared.bounds.Bound.{Bound}
use Rattle.reading_wide_configuration.specs.declared.bounds.Bound.TheVariants.{Constraint, ActionConstraint, Symmetry, View, Alias, Postcondition}

-- what the statement says that a word begins, if it begins such a one
unfoldable pub bound_of : List ℕ → Option Bound
bound_of word =
    if bytes_eq word (codes "CONSTRAINT") then Some Constraint
    else if bytes_eq word (codes "CONSTRAINTS") then Some Constraint
    else if bytes_eq word (codes "ACTION_CONSTRAINT") then Some ActionConstraint
    else if bytes_eq word (codes "ACTION_CONSTRAINTS") then Some ActionConstraint
    else if bytes_eq word (codes "SYMMETRY") then Some Symmetry
    else if bytes_eq word (codes "VIEW") then Some View
    else if bytes_eq word (codes "ALIAS") then Some Alias
    else if bytes_eq word (codes "POSTCONDITION") then Some Postcondition
    else None

-- the word begins a statement, one of these or another
abbrev pub begins_any : List ℕ → Bool
begins_any word = begins_statement word || is_some (bound_of word)

-- what a line of the report has for a name behind such a word
abbrev pub line_of : Bound → List ℕ → List ℕ
line_of Constraint name = codes "CONSTRAINT " ++ name
line_of ActionConstraint name = codes "ACTION_CONSTRAINT " ++ name
line_of Symmetry name = codes "SYMMETRY " ++ name
line_of View name = codes "VIEW " ++ name
line_of Alias name = codes "ALIAS " ++ name
line_of Postcondition name = codes "POSTCONDITION " ++ name
