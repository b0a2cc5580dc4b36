-- The law between tokens and junction lists: what is lexed can be marked.
use Rattle.std.specs.Prelude.{ℕ, Bool, List, Ok}
use Rattle.reading_tokens.specs.declared.token.Token.{Token}
use Rattle.reading_trees.specs.Laid.{EndsOnce}
use Rattle.reading_tokens.specs.Tokens.{Tokens}

-- of the tokens of a text the last is the End, and no other is
abbrev pub TokensEndOnce : Type 0
TokensEndOnce = (framed : Bool) (file : ℕ) (text : List ℕ) (tokens : List Token) → Tokens framed file text (Ok tokens) → EndsOnce tokens
