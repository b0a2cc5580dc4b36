-- What the private calls of this crate say of the slice that they read.
--
-- `Part R laid from to`: the laid tokens from one index to another are R, and at least one stands behind them.
-- `MarkText mark`: the token, or one of the tokens, that the mark stands for.
use Rattle.std.specs.Prelude.{◌≡◌, ◌⊎◌, ℕ, ◌<◌, List, drop, length}
use Rattle.reading_trees.specs.declared.laid.Laid.{Laid}
use Rattle.reading_tokens.specs.declared.token.Kind.{Kind}
use Rattle.reading_tokens.specs.declared.token.Kind.TheVariants as kinds
use Rattle.reading_tokens.specs.declared.token.Word.TheVariants as words
use Rattle.reading_tokens.specs.declared.token.Symbol.TheVariants as symbols
use Rattle.reading_tokens.specs.declared.token.Foreign.TheVariants as foreign
use Rattle.reading_trees.specs.Grammar.{Span, some_token, word, sign, name}
use Rattle.reading_trees.specs.Modules.{underscore, variable_word, constant_word, recursive_word, assume_word, theorem_word}
use Rattle.reading_units.specs.declared.marks.Mark.{Mark}
use Rattle.reading_units.specs.declared.marks.Mark.TheVariants.{Name, Dashes, Equals, Comma, OpenParenthesis, CloseParenthesis, Underscore, Defined, Heading, Extends, Variables, Constants, Recursive, Assume, Theorem, Instance, With, Arrow}

pub record Part (R : Span) (laid : List Laid) (from to : ℕ) : Type 0 where
  pub text : R (drop from laid) (drop to laid)
  pub ahead : from < to
  pub within : to < length laid

abbrev pub MarkText : Mark → Span
MarkText Name = λ xs ys. (n : List ℕ) × name n xs ys
MarkText Dashes = some_token kinds.Dashes
MarkText Equals = some_token kinds.Equals
MarkText Comma = sign symbols.Comma
MarkText OpenParenthesis = sign symbols.OpenParenthesis
MarkText CloseParenthesis = sign symbols.CloseParenthesis
MarkText Underscore = underscore
MarkText Defined = sign symbols.Defined
MarkText Heading = word words.Module
MarkText Extends = word words.Extends
MarkText Variables = variable_word
MarkText Constants = constant_word
MarkText Recursive = recursive_word
MarkText Assume = assume_word
MarkText Theorem = theorem_word
MarkText Instance = some_token (kinds.Foreign foreign.Instance)
MarkText With = some_token (kinds.Foreign foreign.With)
MarkText Arrow = sign symbols.LeftArrow

-- a token of this kind has this mark
abbrev pub IsMark : Mark → Kind → Type 0
IsMark Name k = (n : List ℕ) × (k ≡ kinds.Name n)
IsMark Dashes k = k ≡ kinds.Dashes
IsMark Equals k = k ≡ kinds.Equals
IsMark Comma k = k ≡ kinds.Symbol symbols.Comma
IsMark OpenParenthesis k = k ≡ kinds.Symbol symbols.OpenParenthesis
IsMark CloseParenthesis k = k ≡ kinds.Symbol symbols.CloseParenthesis
IsMark Underscore k = k ≡ kinds.Foreign foreign.Underscore
IsMark Defined k = k ≡ kinds.Symbol symbols.Defined
IsMark Heading k = k ≡ kinds.Word words.Module
IsMark Extends k = k ≡ kinds.Word words.Extends
IsMark Variables k = (k ≡ kinds.Word words.Variable) ⊎ (k ≡ kinds.Word words.Variables)
IsMark Constants k = (k ≡ kinds.Word words.Constant) ⊎ (k ≡ kinds.Word words.Constants)
IsMark Recursive k = k ≡ kinds.Foreign foreign.Recursive
IsMark Assume k = (k ≡ kinds.Word words.Assume) ⊎ ((k ≡ kinds.Word words.Assumption) ⊎ (k ≡ kinds.Word words.Axiom))
IsMark Theorem k = ((k ≡ kinds.Word words.Theorem) ⊎ (k ≡ kinds.Word words.Lemma)) ⊎ ((k ≡ kinds.Word words.Proposition) ⊎ (k ≡ kinds.Word words.Corollary))
IsMark Instance k = k ≡ kinds.Foreign foreign.Instance
IsMark With k = k ≡ kinds.Foreign foreign.With
IsMark Arrow k = k ≡ kinds.Symbol symbols.LeftArrow
