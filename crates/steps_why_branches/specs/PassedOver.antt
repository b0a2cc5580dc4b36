-- Which parts may be passed over where they do not hold: those at one place, which may be told or be that of the first such part. An UNCHANGED is not
-- passed over, since it stands for as many parts as it names variables.
use Rattle.std.specs.Prelude.{Bool, true, false, ◌==◌, ◌&&◌, Option, None, Some, if◌then◌else◌}
use Rattle.base_core.specs.declared.place.Place.{Place}
use Rattle.reading_trees.specs.declared.operators.PrefixOperator.TheVariants as prefix
use Rattle.names_terms.specs.Terms as term
use Rattle.names_terms.specs.Terms.{Meaning, Term, meaning_of, place_of}
use Rattle.actions_meanings.specs.Forms.{Form, call}
use Rattle.steps_why_branches.specs.declared.sparing.Passing.{Passing}
use Rattle.steps_why_branches.specs.declared.sparing.Passing.TheVariants as passing
use Rattle.steps_why_branches.specs.declared.sparing.Sparing.{Sparing}

abbrev pub same_place : Place → Place → Bool
same_place a b = (a.file == b.file) && (a.line == b.line) && (a.col == b.col)

-- UNCHANGED, of the text or of one of the terms of a tuple
abbrev pub keeps : Meaning → Bool
keeps (term.Prefix prefix.Unchanged e) = true
keeps m = false

abbrev pub is_unchanged : Term → Bool
is_unchanged e = keeps (meaning_of e)

-- where the place is that of the first such part, each part may be the first
abbrev pub may_spare : Passing → Term → Bool
may_spare passing.Nothing e = false
may_spare (passing.At at) e = if same_place at (place_of e) then (if is_unchanged e then false else true) else false
may_spare passing.OnePlace e = if is_unchanged e then false else true

-- behind a part at this place that was passed over
abbrev pub behind_one : Option Place → Passing → Passing
behind_one o passing.Nothing = passing.Nothing
behind_one o (passing.At at) = passing.At at
behind_one None passing.OnePlace = passing.OnePlace
behind_one (Some at) passing.OnePlace = passing.At at

-- nothing is passed over, and no definition is called
abbrev pub nothing : Sparing
nothing = record { at = passing.Nothing; call = None }

-- further in, in what a form opens to
abbrev pub called : Form → Sparing → Sparing
called (call k es) sp = record { at = sp.at; call = Some (record { 0 = k }) }
called f sp = sp
