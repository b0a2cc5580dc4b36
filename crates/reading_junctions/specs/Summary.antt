-- What the tests of a token ask of all that is open, kept beside each open list and construct.
use Rattle.std.specs.Prelude.{ℕ, Bool, true, false, ◌&&◌, ◌==◌, nat_le, if◌then◌else◌, is_some, [], ◌∷◌, Option, Some, None}
use Rattle.reading_tokens.specs.declared.token.Kind.{Kind}
use Rattle.reading_tokens.specs.declared.token.Token.{Token}
use Rattle.reading_trees.specs.declared.construct.Construct.{Construct}
use Rattle.reading_trees.specs.declared.construct.Open.{Open}
use Rattle.reading_trees.specs.declared.construct.Open.TheVariants.{List as InList, Case, Inside}
use Rattle.reading_trees.specs.Opens.{Opens, bullet_of, has_bullet, belongs}
use Rattle.reading_junctions.specs.declared.summary.OpenList.{OpenList}
use Rattle.reading_junctions.specs.declared.summary.Summary.{Summary}

abbrev pub nothing_open : Summary
nothing_open = record { rightmost = None; holding = None; list = None; case_last = false; inside = None; case = false }

-- the greater of the columns
abbrev pub greater : Option ℕ → ℕ → Option ℕ
greater None col = Some col
greater (Some other) col = if nat_le other col then Some col else Some other

-- what is open once this is opened, too
abbrev pub with_open : Open → Summary → Summary
with_open (InList b c) s = record {
  rightmost = greater s.rightmost c;
  holding = s.holding;
  list = Some (record { bullet = b; col = c });
  case_last = false;
  inside = s.inside;
  case = s.case;
}
with_open Case s = record { rightmost = s.rightmost; holding = s.holding; list = s.list; case_last = true; inside = s.inside; case = true }
with_open (Inside c) s = record { rightmost = s.rightmost; holding = s.rightmost; list = None; case_last = false; inside = Some c; case = false }

abbrev pub summary_of : Opens → Summary
summary_of [] = nothing_open
summary_of (o ∷ os) = with_open o (summary_of os)

abbrev pub innermost : Opens → Option Open
innermost [] = None
innermost (o ∷ os) = Some o

-- ---- the tests by the summary

abbrev pub at_or_left : ℕ → Option ℕ → Bool
at_or_left col None = false
at_or_left col (Some right) = nat_le col right

abbrev pub list_ends : ℕ → Option OpenList → Bool
list_ends col None = false
list_ends col (Some l) = nat_le col l.col

abbrev pub list_has : Token → Option OpenList → Bool
list_has t None = false
list_has t (Some l) = has_bullet (bullet_of t.kind) l.bullet && t.place.col == l.col

abbrev pub inside_belongs : Bool → Kind → Option Construct → Bool
inside_belongs operand k None = false
inside_belongs operand k (Some c) = belongs operand k (Inside c)

abbrev pub summary_reaches : Bool → Kind → Summary → Bool
summary_reaches operand k s = if s.case && belongs operand k Case then true else inside_belongs operand k s.inside

abbrev pub summary_closes : Bool → Kind → Summary → Bool
summary_closes operand k s =
    if s.case_last && belongs operand k Case then false else (is_some s.list && summary_reaches operand k s)
