-- What a configuration takes a token for: a name with its place, or what the token is. The words and
-- symbols that no configuration has are one.
use Rattle.std.specs.Prelude.{true, false, List, map}
use Rattle.base_core.specs.declared.place.Place.{Place}
use Rattle.reading_tokens.specs.declared.token.Kind.{Kind}
use Rattle.reading_tokens.specs.declared.token.Kind.TheVariants as kinds
use Rattle.reading_tokens.specs.declared.token.Word.{Word}
use Rattle.reading_tokens.specs.declared.token.Word.TheVariants as word
use Rattle.reading_tokens.specs.declared.token.Symbol.{Symbol}
use Rattle.reading_tokens.specs.declared.token.Symbol.TheVariants as symbol
use Rattle.reading_tokens.specs.declared.token.Token.{Token}
use Rattle.reading_configuration.specs.declared.mark.Mark.{Mark}
use Rattle.reading_configuration.specs.declared.mark.Mark.TheVariants.{Name, Number, Str, Truth, Constants, Equal, Replaces, Minus, Open, Close, Comma, End, Other}

abbrev pub word_mark : Word → Mark
word_mark word.True = Truth true
word_mark word.False = Truth false
word_mark word.Constant = Constants
word_mark word.Constants = Constants
word_mark w = Other

abbrev pub symbol_mark : Symbol → Mark
symbol_mark symbol.Equal = Equal
symbol_mark symbol.LeftArrow = Replaces
symbol_mark symbol.Minus = Minus
symbol_mark symbol.OpenBrace = Open
symbol_mark symbol.CloseBrace = Close
symbol_mark symbol.Comma = Comma
symbol_mark s = Other

abbrev pub kind_mark : Kind → Place → Mark
kind_mark (kinds.Name text) at = Name text at
kind_mark (kinds.Number n) at = Number n
kind_mark (kinds.Str text) at = Str text
kind_mark (kinds.Word w) at = word_mark w
kind_mark (kinds.Symbol s) at = symbol_mark s
kind_mark kinds.End at = End
kind_mark k at = Other

abbrev pub mark_of : Token → Mark
mark_of t = kind_mark t.kind t.place

abbrev pub marks_of : List Token → List Mark
marks_of ts = map mark_of ts
