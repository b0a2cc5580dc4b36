-- What a token is to the pieces of a module. USE and HIDE are no words of the profile, so they are told by their letters.
use Rattle.std.specs.Prelude.{ℕ, Bool, ◌||◌, if◌then◌else◌, List, codes, unsigned_abs}
use Rattle.std.specs.Str.{bytes_eq}
use Rattle.reading_tokens.specs.declared.token.Foreign.{Foreign}
use Rattle.reading_tokens.specs.declared.token.Foreign.TheVariants as foreign
use Rattle.reading_tokens.specs.declared.token.Kind.{Kind}
use Rattle.reading_tokens.specs.declared.token.Kind.TheVariants as kinds
use Rattle.reading_tokens.specs.declared.token.Symbol.{Symbol}
use Rattle.reading_tokens.specs.declared.token.Symbol.TheVariants as symbols
use Rattle.reading_tokens.specs.declared.token.Word.{Word}
use Rattle.reading_tokens.specs.declared.token.Word.TheVariants as words
use Rattle.reading_tokens.specs.declared.token.Token.{Token}
use Rattle.reading_pieces.specs.declared.mark.Mark.{Mark}
use Rattle.reading_pieces.specs.declared.mark.Mark.TheVariants.{Declare, Assume, Theorem, Dashes, Local, Use, Recursive, Instance, Nested, Let, In, Prove, Leaf, Qed, Name, Number, Defined, Less, Greater, Open, Close, Joins, Other}

unfoldable pub word_mark : Word → Mark
word_mark words.Constant = Declare
word_mark words.Constants = Declare
word_mark words.Variable = Declare
word_mark words.Variables = Declare
word_mark words.Assume = Assume
word_mark words.Assumption = Assume
word_mark words.Axiom = Assume
word_mark words.Theorem = Theorem
word_mark words.Lemma = Theorem
word_mark words.Proposition = Theorem
word_mark words.Corollary = Theorem
word_mark words.Let = Let
word_mark words.In = In
word_mark _ = Other

unfoldable pub symbol_mark : Symbol → Mark
symbol_mark symbols.Defined = Defined
symbol_mark symbols.Less = Less
symbol_mark symbols.Greater = Greater
symbol_mark symbols.OpenParenthesis = Open
symbol_mark symbols.OpenBracket = Open
symbol_mark symbols.CloseParenthesis = Close
symbol_mark symbols.CloseBracket = Close
symbol_mark symbols.CloseBracketSubscript = Close
symbol_mark symbols.CloseBrace = Other
symbol_mark symbols.CloseTuple = Other
symbol_mark symbols.CloseTupleSubscript = Other
symbol_mark symbols.At = Other
symbol_mark symbols.Prime = Other
symbol_mark _ = Joins

unfoldable pub foreign_mark : Foreign → Mark
foreign_mark foreign.Local = Local
foreign_mark foreign.Instance = Instance
foreign_mark foreign.Recursive = Recursive
foreign_mark foreign.Prove = Prove
foreign_mark foreign.By = Leaf
foreign_mark foreign.Obvious = Leaf
foreign_mark foreign.Omitted = Leaf
foreign_mark foreign.Qed = Qed
foreign_mark foreign.Module = Nested
foreign_mark foreign.Lambda = Other
foreign_mark foreign.With = Other
foreign_mark foreign.Proof = Other
foreign_mark foreign.Underscore = Other
foreign_mark foreign.CaretPlus = Other
foreign_mark foreign.CaretStar = Other
foreign_mark foreign.CaretHash = Other
foreign_mark _ = Joins

abbrev pub is_use : List ℕ → Bool
is_use name = bytes_eq name (codes "USE") || bytes_eq name (codes "HIDE")

unfoldable pub kind_mark : Kind → Mark
kind_mark (kinds.Name n) = if is_use n then Use else Name
kind_mark (kinds.Number n) = Number (unsigned_abs n)
kind_mark kinds.Dashes = Dashes
kind_mark (kinds.Word w) = word_mark w
kind_mark (kinds.Symbol s) = symbol_mark s
kind_mark (kinds.Foreign f) = foreign_mark f
kind_mark _ = Other

abbrev pub mark_of : Token → Mark
mark_of t = kind_mark t.kind
