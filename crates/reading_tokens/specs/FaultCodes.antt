-- The code and the name of why a text has no tokens.
use Rattle.std.specs.Prelude.{ℕ, List, codes}
use Rattle.reading_tokens.specs.declared.piece.LexKind.{LexKind}
use Rattle.reading_tokens.specs.declared.piece.LexKind.TheVariants as lex

abbrev pub lex_code : LexKind → List ℕ
lex_code lex.NotUtf8 = codes "L1 NotUtf8"
lex_code lex.BadCharacter = codes "L2 BadCharacter"
lex_code lex.OpenString = codes "L3 OpenString"
lex_code lex.OpenComment = codes "L4 OpenComment"
lex_code lex.NumberTooLarge = codes "L5 NumberTooLarge"
lex_code lex.TooManyTokens = codes "L6 TooManyTokens"
