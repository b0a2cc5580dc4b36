-- What a configuration is: a list of statements, each written by marks. The rest of a text follows what is
-- written, so that a text is read from its front.
--
-- CONSTANT or CONSTANTS and one or more of `id = value` and `id <- id`; INIT, NEXT or SPECIFICATION and a
-- name; INVARIANT, INVARIANTS, PROPERTY or PROPERTIES and one or more names; CHECK_DEADLOCK and TRUE or
-- FALSE. A value is a number, `-` and a number, a string, a truth value, a model value's name, or values
-- in braces, with commas between them.
use Rattle.std.specs.Prelude.{◌≡◌, ℕ, ◌≤◌, pos, neg_ℤ, suc, max, Bool, List, [], ◌∷◌, Some, None}
use Rattle.base_core.specs.declared.place.Place.{Place}
use Rattle.reading_trees.specs.Lits.{Lit, number, str, truth, model, set, lits_of}
use Rattle.reading_trees.specs.Literals.{literal}
use Rattle.reading_trees.specs.declared.config.Given.{Given}
use Rattle.reading_trees.specs.declared.config.Given.TheVariants.{Constant, Replaced}
use Rattle.reading_configuration.specs.declared.mark.Mark.{Mark}
use Rattle.reading_configuration.specs.declared.mark.Mark.TheVariants.{Name, Number, Str, Truth, Constants, Equal, Replaces, Minus, Open, Close, Comma}
use Rattle.reading_configuration.specs.declared.keyword.Keyword.TheVariants.{Chooses, Lists, Deadlock}
use Rattle.reading_configuration.specs.declared.keyword.Part.{Part}
use Rattle.reading_configuration.specs.declared.keyword.Listed.{Listed}
use Rattle.reading_configuration.specs.Keywords.{keyword_of}

-- a name, and where it stands
pub record Named : Type 0 where
  pub text : List ℕ
  pub at : Place

abbrev pub name_mark : Named → Mark
name_mark n = Name n.text n.at

mutual
  pub data Value : Type 0 where
    plain : ℕ → Value
    negative : ℕ → Value
    string : List ℕ → Value
    truth_value : Bool → Value
    model_value : Named → Value
    empty : Value
    braces : Members → Value

  -- one or more
  pub data Members : Type 0 where
    last : Value → Members
    more : Value → Members → Members

abbrev mutual
  pub value_marks : Value → List Mark → List Mark
  value_marks (plain n) rest = Number (pos n) ∷ rest
  value_marks (negative n) rest = Minus ∷ Number (pos n) ∷ rest
  value_marks (string s) rest = Str s ∷ rest
  value_marks (truth_value b) rest = Truth b ∷ rest
  value_marks (model_value n) rest = name_mark n ∷ rest
  value_marks empty rest = Open ∷ Close ∷ rest
  value_marks (braces vs) rest = Open ∷ members_marks vs rest

  -- up to the closing brace
  pub members_marks : Members → List Mark → List Mark
  members_marks (last v) rest = value_marks v (Close ∷ rest)
  members_marks (more v vs) rest = value_marks v (Comma ∷ members_marks vs rest)

-- how many braces stand inside each other
abbrev mutual
  pub levels : Value → ℕ
  levels empty = 1
  levels (braces vs) = suc (levels_of vs)
  levels v = 0

  pub levels_of : Members → ℕ
  levels_of (last v) = levels v
  levels_of (more v vs) = max (levels v) (levels_of vs)

-- the value that is written
abbrev mutual
  pub lit : Value → Lit
  lit (plain n) = number (pos n)
  lit (negative n) = number (neg_ℤ (pos n))
  lit (string s) = str s
  lit (truth_value b) = truth b
  lit (model_value n) = model n.text
  lit empty = set (lits_of [])
  lit (braces vs) = set (lits_of (lits vs))

  pub lits : Members → List Lit
  lits (last v) = lit v ∷ []
  lits (more v vs) = lit v ∷ lits vs

-- `= value` or `<- id`
pub data Meaning : Type 0 where
  is : Value → Meaning
  means : Named → Meaning

abbrev pub meaning_marks : Meaning → List Mark → List Mark
meaning_marks (is v) rest = Equal ∷ value_marks v rest
meaning_marks (means n) rest = Replaces ∷ name_mark n ∷ rest

abbrev pub given_of : Meaning → Given
given_of (is v) = Constant (literal (lit v))
given_of (means n) = Replaced n.text n.at

-- at most 32 braces stand inside each other
abbrev pub IsShallow : Meaning → Type 0
IsShallow (is v) = levels v ≤ 32
IsShallow (means n) = Unit {0}

pub record Assignment : Type 0 where
  pub name : Named
  pub meaning : Meaning

abbrev pub assignment_marks : Assignment → List Mark → List Mark
assignment_marks a rest = name_mark a.name ∷ meaning_marks a.meaning rest

abbrev pub assignments_marks : List Assignment → List Mark → List Mark
assignments_marks [] rest = rest
assignments_marks (a ∷ bs) rest = assignment_marks a (assignments_marks bs rest)

abbrev pub names_marks : List Named → List Mark → List Mark
names_marks [] rest = rest
names_marks (n ∷ ns) rest = name_mark n ∷ names_marks ns rest

-- each but the constants' statement begins with its word
pub data Statement : Type 0 where
  constants : Assignment → List Assignment → Statement
  choice : Named → Part → Named → Statement
  unchecked : Named → Listed → Named → List Named → Statement
  deadlock : Named → Bool → Statement

abbrev pub statement_marks : Statement → List Mark → List Mark
statement_marks (constants a bs) rest = Constants ∷ assignment_marks a (assignments_marks bs rest)
statement_marks (choice w p n) rest = name_mark w ∷ name_mark n ∷ rest
statement_marks (unchecked w l n ns) rest = name_mark w ∷ name_mark n ∷ names_marks ns rest
statement_marks (deadlock w b) rest = name_mark w ∷ Truth b ∷ rest

abbrev pub statements_marks : List Statement → List Mark → List Mark
statements_marks [] rest = rest
statements_marks (s ∷ ss) rest = statement_marks s (statements_marks ss rest)

-- a word that begins a statement is no further name and no further assigned name
abbrev pub IsFurther : Named → Type 0
IsFurther n = keyword_of n.text ≡ None

abbrev pub AreFurther : List Named → Type 0
AreFurther [] = Unit {0}
AreFurther (n ∷ ns) = IsFurther n × AreFurther ns

abbrev pub AreAssigned : List Assignment → Type 0
AreAssigned [] = Unit {0}
AreAssigned (a ∷ bs) = (IsFurther a.name × IsShallow a.meaning) × AreAssigned bs

-- the word is one of this statement's, and what follows it may follow it
abbrev pub IsStatement : Statement → Type 0
IsStatement (constants a bs) = IsShallow a.meaning × AreAssigned bs
IsStatement (choice w p n) = keyword_of w.text ≡ Some (Chooses p)
IsStatement (unchecked w l n ns) = (keyword_of w.text ≡ Some (Lists l)) × AreFurther ns
IsStatement (deadlock w b) = keyword_of w.text ≡ Some Deadlock

abbrev pub AreStatements : List Statement → Type 0
AreStatements [] = Unit {0}
AreStatements (s ∷ ss) = IsStatement s × AreStatements ss
