-- What a laid token is to the grammar of modules: its mark, if it has one.
use Rattle.std.specs.Prelude.{Bool, false, List, [], ◌∷◌, Option, Some, None}
use Rattle.reading_trees.specs.declared.laid.Laid.{Laid}
use Rattle.reading_trees.specs.declared.laid.Laid.TheVariants.{Plain, ListOpen, ListItem, ListClose}
use Rattle.reading_tokens.specs.declared.token.Kind.{Kind}
use Rattle.reading_tokens.specs.declared.token.Kind.TheVariants as kinds
use Rattle.reading_tokens.specs.declared.token.Word.{Word}
use Rattle.reading_tokens.specs.declared.token.Word.TheVariants as words
use Rattle.reading_tokens.specs.declared.token.Symbol.{Symbol}
use Rattle.reading_tokens.specs.declared.token.Symbol.TheVariants as symbols
use Rattle.reading_tokens.specs.declared.token.Foreign.{Foreign}
use Rattle.reading_tokens.specs.declared.token.Foreign.TheVariants as foreign
use Rattle.reading_trees.specs.Opens.{is_end}
use Rattle.reading_units.specs.declared.marks.Mark.{Mark}
use Rattle.reading_units.specs.declared.marks.Mark.TheVariants.{Name, Dashes, Equals, Comma, OpenParenthesis, CloseParenthesis, Underscore, Defined, Heading, Extends, Variables, Constants, Recursive, Assume, Theorem, Instance, With, Arrow}

unfoldable pub word_mark : Word → Option Mark
word_mark words.Module = Some Heading
word_mark words.Extends = Some Extends
word_mark words.Variable = Some Variables
word_mark words.Variables = Some Variables
word_mark words.Constant = Some Constants
word_mark words.Constants = Some Constants
word_mark words.Assume = Some Assume
word_mark words.Assumption = Some Assume
word_mark words.Axiom = Some Assume
word_mark words.Theorem = Some Theorem
word_mark words.Lemma = Some Theorem
word_mark words.Proposition = Some Theorem
word_mark words.Corollary = Some Theorem
word_mark _ = None

unfoldable pub symbol_mark : Symbol → Option Mark
symbol_mark symbols.Comma = Some Comma
symbol_mark symbols.OpenParenthesis = Some OpenParenthesis
symbol_mark symbols.CloseParenthesis = Some CloseParenthesis
symbol_mark symbols.Defined = Some Defined
symbol_mark symbols.LeftArrow = Some Arrow
symbol_mark _ = None

unfoldable pub foreign_mark : Foreign → Option Mark
foreign_mark foreign.Recursive = Some Recursive
foreign_mark foreign.Underscore = Some Underscore
foreign_mark foreign.Instance = Some Instance
foreign_mark foreign.With = Some With
foreign_mark _ = None

unfoldable pub kind_mark : Kind → Option Mark
kind_mark (kinds.Name n) = Some Name
kind_mark kinds.Dashes = Some Dashes
kind_mark kinds.Equals = Some Equals
kind_mark (kinds.Word w) = word_mark w
kind_mark (kinds.Symbol s) = symbol_mark s
kind_mark (kinds.Foreign f) = foreign_mark f
kind_mark _ = None

unfoldable pub mark_of : Laid → Option Mark
mark_of (Plain t) = kind_mark t.kind
mark_of (ListOpen b at) = None
mark_of (ListItem b at) = None
mark_of (ListClose at) = None

-- the mark of the first of these
abbrev pub first_mark : List Laid → Option Mark
first_mark [] = None
first_mark (x ∷ xs) = mark_of x

-- whether the first of these is the End
abbrev pub begins_end : List Laid → Bool
begins_end [] = false
begins_end (Plain t ∷ xs) = is_end t.kind
begins_end (ListOpen b at ∷ xs) = false
begins_end (ListItem b at ∷ xs) = false
begins_end (ListClose at ∷ xs) = false
