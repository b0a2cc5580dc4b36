-- The tokens that open, continue and finish constructs, and what stays open behind a token.
use Rattle.std.specs.Prelude.{ℕ, Bool, true, false, not, ◌&&◌, ◌||◌, ◌==◌, nat_le, if◌then◌else◌, List, [], ◌∷◌, Option, Some, None}
use Rattle.reading_trees.specs.declared.laid.Bullet.{Bullet}
use Rattle.reading_trees.specs.declared.laid.Bullet.TheVariants.{And, Or}
use Rattle.reading_tokens.specs.declared.token.Word.{Word}
use Rattle.reading_tokens.specs.declared.token.Word.TheVariants as words
use Rattle.reading_tokens.specs.declared.token.Symbol.{Symbol}
use Rattle.reading_tokens.specs.declared.token.Symbol.TheVariants as symbols
use Rattle.reading_tokens.specs.declared.token.Kind.{Kind}
use Rattle.reading_tokens.specs.declared.token.Kind.TheVariants as kinds
use Rattle.reading_tokens.specs.declared.token.Token.{Token}
use Rattle.reading_trees.specs.declared.construct.Construct.{Construct}
use Rattle.reading_trees.specs.declared.construct.Construct.TheVariants.{Parentheses, Brackets, Braces, Tuple, If, Let, Binder}
use Rattle.reading_trees.specs.declared.construct.Open.{Open}
use Rattle.reading_trees.specs.declared.construct.Open.TheVariants.{List as InList, Case, Inside}

-- What is open at a token, the innermost first.
abbrev pub Opens : Type 0
Opens = List Open

-- ---- what a token does

-- the bullet that `/\` or `\/` would be
abbrev pub symbol_bullet : Symbol → Option Bullet
symbol_bullet symbols.And = Some And
symbol_bullet symbols.Or = Some Or
symbol_bullet _ = None

abbrev pub bullet_of : Kind → Option Bullet
bullet_of (kinds.Symbol s) = symbol_bullet s
bullet_of _ = None

-- Behind a name, a number, a string, TRUE, FALSE, BOOLEAN, STRING, `@`, `'`, `)`, `]`, `}` or `>>` no operand is expected.
abbrev pub word_wants : Word → Bool
word_wants words.True = false
word_wants words.False = false
word_wants words.Boolean = false
word_wants words.String = false
word_wants _ = true

abbrev pub symbol_wants : Symbol → Bool
symbol_wants symbols.At = false
symbol_wants symbols.Prime = false
symbol_wants symbols.CloseParenthesis = false
symbol_wants symbols.CloseBracket = false
symbol_wants symbols.CloseBrace = false
symbol_wants symbols.CloseTuple = false
symbol_wants _ = true

-- whether an operand is expected behind a token of this kind
abbrev pub wants_operand : Kind → Bool
wants_operand (kinds.Name n) = false
wants_operand (kinds.Number n) = false
wants_operand (kinds.Str s) = false
wants_operand (kinds.Word w) = word_wants w
wants_operand (kinds.Symbol s) = symbol_wants s
wants_operand _ = true

-- what a word opens
abbrev pub word_opens : Word → Option Open
word_opens words.If = Some (Inside If)
word_opens words.Let = Some (Inside Let)
word_opens words.Case = Some Case
word_opens words.Choose = Some (Inside Binder)
word_opens _ = None

abbrev pub symbol_opens : Symbol → Option Open
symbol_opens symbols.OpenParenthesis = Some (Inside Parentheses)
symbol_opens symbols.OpenBracket = Some (Inside Brackets)
symbol_opens symbols.OpenBrace = Some (Inside Braces)
symbol_opens symbols.OpenTuple = Some (Inside Tuple)
symbol_opens symbols.ForAll = Some (Inside Binder)
symbol_opens symbols.Exists = Some (Inside Binder)
symbol_opens _ = None

-- the construct that a token opens
abbrev pub opened_by : Kind → Option Open
opened_by (kinds.Word w) = word_opens w
opened_by (kinds.Symbol s) = symbol_opens s
opened_by _ = None

-- Closing tokens and the constructs that they belong to: THEN and ELSE to IF; IN to LET; `)` to `(`; `]` and `]_` to
-- `[`; `}` to `{`; `>>` and `>>_` to `<<`; `->` to CASE and `[`; `[]` where no operand is expected to CASE; `,` to `(`,
-- `[`, `{`, `<<` and a binder; `:` to a binder, `{` and `[`; `|->` and EXCEPT to `[`.
abbrev pub word_belongs : Word → Open → Bool
word_belongs words.Then (Inside If) = true
word_belongs words.Else (Inside If) = true
word_belongs words.In (Inside Let) = true
word_belongs words.Except (Inside Brackets) = true
word_belongs _ _ = false

-- the symbols of these, where an operand is expected or not
abbrev pub symbol_belongs : Bool → Symbol → Open → Bool
symbol_belongs operand symbols.CloseParenthesis (Inside Parentheses) = true
symbol_belongs operand symbols.CloseBracket (Inside Brackets) = true
symbol_belongs operand symbols.CloseBracketSubscript (Inside Brackets) = true
symbol_belongs operand symbols.CloseBrace (Inside Braces) = true
symbol_belongs operand symbols.CloseTuple (Inside Tuple) = true
symbol_belongs operand symbols.CloseTupleSubscript (Inside Tuple) = true
symbol_belongs operand symbols.Arrow Case = true
symbol_belongs operand symbols.Arrow (Inside Brackets) = true
symbol_belongs operand symbols.Always Case = not operand
symbol_belongs operand symbols.Comma (Inside Parentheses) = true
symbol_belongs operand symbols.Comma (Inside Brackets) = true
symbol_belongs operand symbols.Comma (Inside Braces) = true
symbol_belongs operand symbols.Comma (Inside Tuple) = true
symbol_belongs operand symbols.Comma (Inside Binder) = true
symbol_belongs operand symbols.Colon (Inside Binder) = true
symbol_belongs operand symbols.Colon (Inside Braces) = true
symbol_belongs operand symbols.Colon (Inside Brackets) = true
symbol_belongs operand symbols.MapsTo (Inside Brackets) = true
symbol_belongs operand _ _ = false

-- whether a token closes for an open construct, where an operand is expected or not
abbrev pub belongs : Bool → Kind → Open → Bool
belongs operand (kinds.Word w) o = word_belongs w o
belongs operand (kinds.Symbol s) o = symbol_belongs operand s o
belongs operand _ o = false

-- Of the closing tokens of a construct these finish it: the closing brackets; ELSE; IN; and `:`, of a binder.
abbrev pub word_finishes : Word → Bool
word_finishes words.Else = true
word_finishes words.In = true
word_finishes _ = false

abbrev pub symbol_finishes : Symbol → Construct → Bool
symbol_finishes symbols.CloseParenthesis c = true
symbol_finishes symbols.CloseBracket c = true
symbol_finishes symbols.CloseBracketSubscript c = true
symbol_finishes symbols.CloseBrace c = true
symbol_finishes symbols.CloseTuple c = true
symbol_finishes symbols.CloseTupleSubscript c = true
symbol_finishes symbols.Colon Binder = true
symbol_finishes _ _ = false

abbrev pub finishes : Kind → Construct → Bool
finishes (kinds.Word w) c = word_finishes w
finishes (kinds.Symbol s) c = symbol_finishes s c
finishes _ c = false

abbrev pub is_end : Kind → Bool
is_end kinds.End = true
is_end _ = false

-- ---- what is open

-- whether the nearest open construct that a closing token belongs to has only lists and CASEs open after it
abbrev pub reaches : Bool → Kind → Opens → Bool
reaches operand k [] = false
reaches operand k (InList b c ∷ os) = reaches operand k os
reaches operand k (Case ∷ os) = if belongs operand k Case then true else reaches operand k os
reaches operand k (Inside c ∷ os) = belongs operand k (Inside c)

abbrev pub some_list : Opens → Bool
some_list [] = false
some_list (InList b c ∷ os) = true
some_list (Case ∷ os) = some_list os
some_list (Inside c ∷ os) = some_list os

-- whether col is at or left of the column of some open list
abbrev pub left_of_some : ℕ → Opens → Bool
left_of_some col [] = false
left_of_some col (InList b c ∷ os) = if nat_le col c then true else left_of_some col os
left_of_some col (Case ∷ os) = left_of_some col os
left_of_some col (Inside c ∷ os) = left_of_some col os

-- whether col is at or left of the column of a list inside which a construct other than CASE is open
abbrev pub is_left : ℕ → Opens → Bool
is_left col [] = false
is_left col (InList b c ∷ os) = is_left col os
is_left col (Case ∷ os) = is_left col os
is_left col (Inside c ∷ os) = left_of_some col os

abbrev pub same_bullet : Bullet → Bullet → Bool
same_bullet And And = true
same_bullet Or Or = true
same_bullet And Or = false
same_bullet Or And = false

abbrev pub has_bullet : Option Bullet → Bullet → Bool
has_bullet None b = false
has_bullet (Some a) b = same_bullet a b

-- whether a token is the next item of the innermost list: it has its symbol and its column
abbrev pub is_item : Token → Opens → Bool
is_item t [] = false
is_item t (InList b c ∷ os) = has_bullet (bullet_of t.kind) b && t.place.col == c
is_item t (Case ∷ os) = is_item t os
is_item t (Inside c ∷ os) = false

-- whether the innermost list has its column at or right of col
abbrev pub ends_by_column : ℕ → Opens → Bool
ends_by_column col [] = false
ends_by_column col (InList b c ∷ os) = nat_le col c
ends_by_column col (Case ∷ os) = ends_by_column col os
ends_by_column col (Inside c ∷ os) = false

-- whether the innermost list was opened after the construct that a closing token reaches
abbrev pub ends_by_closing : Bool → Kind → Opens → Bool
ends_by_closing operand k [] = false
ends_by_closing operand k (InList b c ∷ os) = reaches operand k os
ends_by_closing operand k (Case ∷ os) = if belongs operand k Case then false else ends_by_closing operand k os
ends_by_closing operand k (Inside c ∷ os) = false

-- whether the innermost list ends before a token: by its column, by a closing token, or at the End
abbrev pub ends : Bool → Token → Opens → Bool
ends operand t os =
    (ends_by_column t.place.col os && not (is_item t os)) || ends_by_closing operand t.kind os || (is_end t.kind && some_list os)

-- ---- what is open behind a token or a mark

-- once the innermost list has ended, with what is open in it
abbrev pub without_list : Opens → Opens
without_list [] = []
without_list (InList b c ∷ os) = os
without_list (Case ∷ os) = without_list os
without_list (Inside c ∷ os) = without_list os

-- once the CASEs in an item have ended
abbrev pub without_cases : Opens → Opens
without_cases [] = []
without_cases (Case ∷ os) = without_cases os
without_cases (InList b c ∷ os) = InList b c ∷ os
without_cases (Inside c ∷ os) = Inside c ∷ os

-- behind a closing token: the CASEs after its construct have ended, and the construct if it is finished
abbrev pub closed_by : Bool → Kind → Opens → Opens
closed_by operand k [] = []
closed_by operand k (InList b c ∷ os) = InList b c ∷ os
closed_by operand k (Case ∷ os) = if belongs operand k Case then Case ∷ os else closed_by operand k os
closed_by operand k (Inside c ∷ os) = if finishes k c then os else Inside c ∷ os

abbrev pub with_opened : Option Open → Opens → Opens → Opens
with_opened (Some o) os others = o ∷ os
with_opened None os others = others

-- behind a token that is no bullet
abbrev pub opens_behind : Bool → Kind → Opens → Opens
opens_behind operand k os =
    if is_end k then [] else with_opened (opened_by k) os (if reaches operand k os then closed_by operand k os else os)
