-- How the tokens of TLA+ are spelled.
use Rattle.std.specs.Prelude.{ℕ, if◌then◌else◌, List, [], ◌∷◌, Option, Some, None, nat_eq, codes}
use Rattle.std.specs.Cmp.Lexicographic.{pointwise}
use Prim.Native.String.{String}
use Rattle.reading_tokens.specs.declared.token.Kind.{Kind}
use Rattle.reading_tokens.specs.declared.token.Kind.TheVariants as kinds
use Rattle.reading_tokens.specs.declared.token.Word.{Word}
use Rattle.reading_tokens.specs.declared.token.Word.TheVariants as word
use Rattle.reading_tokens.specs.declared.token.Symbol.{Symbol}
use Rattle.reading_tokens.specs.declared.token.Symbol.TheVariants as symbol
use Rattle.reading_tokens.specs.declared.token.Foreign.{Foreign}
use Rattle.reading_tokens.specs.declared.token.Foreign.TheVariants as foreign

-- these bytes are the spelling of a token of this kind
pub record Spelling : Type 0 where
  pub bytes : List ℕ
  pub kind : Kind

abbrev pub reserved : String → Word → Spelling
reserved text w = record { bytes = codes text; kind = kinds.Word w }

abbrev pub operator : String → Symbol → Spelling
operator text s = record { bytes = codes text; kind = kinds.Symbol s }

abbrev pub outside : String → Foreign → Spelling
outside text f = record { bytes = codes text; kind = kinds.Foreign f }

-- the kind of the first spelling of the table that is these bytes
unfoldable pub kind_in : List Spelling → List ℕ → Option Kind
kind_in [] bytes = None
kind_in (s ∷ ss) bytes = if pointwise nat_eq s.bytes bytes then Some s.kind else kind_in ss bytes

-- the reserved words, and the words that are foreign to the profile; `_` alone is one of these
unfoldable pub words : List Spelling
words =
    reserved "ASSUME" word.Assume
    ∷ reserved "ASSUMPTION" word.Assumption
    ∷ reserved "AXIOM" word.Axiom
    ∷ reserved "BOOLEAN" word.Boolean
    ∷ reserved "CASE" word.Case
    ∷ reserved "CHOOSE" word.Choose
    ∷ reserved "CONSTANT" word.Constant
    ∷ reserved "CONSTANTS" word.Constants
    ∷ reserved "COROLLARY" word.Corollary
    ∷ reserved "DOMAIN" word.Domain
    ∷ reserved "ELSE" word.Else
    ∷ reserved "ENABLED" word.Enabled
    ∷ reserved "EXCEPT" word.Except
    ∷ reserved "EXTENDS" word.Extends
    ∷ reserved "FALSE" word.False
    ∷ reserved "IF" word.If
    ∷ reserved "IN" word.In
    ∷ reserved "LEMMA" word.Lemma
    ∷ reserved "LET" word.Let
    ∷ reserved "OTHER" word.Other
    ∷ reserved "PROPOSITION" word.Proposition
    ∷ reserved "STRING" word.String
    ∷ reserved "SUBSET" word.Subset
    ∷ reserved "THEN" word.Then
    ∷ reserved "THEOREM" word.Theorem
    ∷ reserved "TRUE" word.True
    ∷ reserved "UNCHANGED" word.Unchanged
    ∷ reserved "UNION" word.Union
    ∷ reserved "VARIABLE" word.Variable
    ∷ reserved "VARIABLES" word.Variables
    ∷ outside "LAMBDA" foreign.Lambda
    ∷ outside "LOCAL" foreign.Local
    ∷ outside "INSTANCE" foreign.Instance
    ∷ outside "RECURSIVE" foreign.Recursive
    ∷ outside "WITH" foreign.With
    ∷ outside "PROOF" foreign.Proof
    ∷ outside "PROVE" foreign.Prove
    ∷ outside "BY" foreign.By
    ∷ outside "OBVIOUS" foreign.Obvious
    ∷ outside "OMITTED" foreign.Omitted
    ∷ outside "QED" foreign.Qed
    ∷ outside "MODULE" foreign.Module
    ∷ outside "_" foreign.Underscore
    ∷ []

-- the runs of letters that are a token together with the backslash before them
unfoldable pub runs : List Spelling
runs =
    operator "in" symbol.Member
    ∷ operator "notin" symbol.NotMember
    ∷ operator "subseteq" symbol.SubsetOrEqual
    ∷ operator "cup" symbol.Union
    ∷ operator "union" symbol.Union
    ∷ operator "cap" symbol.Intersection
    ∷ operator "intersect" symbol.Intersection
    ∷ operator "X" symbol.CartesianProduct
    ∷ operator "times" symbol.CartesianProduct
    ∷ operator "div" symbol.Quotient
    ∷ operator "o" symbol.Concatenation
    ∷ operator "circ" symbol.Concatenation
    ∷ operator "E" symbol.Exists
    ∷ operator "A" symbol.ForAll
    ∷ operator "land" symbol.And
    ∷ operator "lor" symbol.Or
    ∷ operator "lnot" symbol.Not
    ∷ operator "neg" symbol.Not
    ∷ operator "leq" symbol.LessOrEqual
    ∷ operator "geq" symbol.GreaterOrEqual
    ∷ operator "equiv" symbol.Equivalent
    ∷ outside "cdot" foreign.ActionComposition
    ∷ outside "AA" foreign.TemporalForAll
    ∷ outside "EE" foreign.TemporalExists
    ∷ []

-- the tokens that are spelled by signs, but for those that a backslash begins
unfoldable pub signs : List Spelling
signs =
    operator "(" symbol.OpenParenthesis
    ∷ operator ")" symbol.CloseParenthesis
    ∷ operator "[" symbol.OpenBracket
    ∷ operator "]" symbol.CloseBracket
    ∷ operator "]_" symbol.CloseBracketSubscript
    ∷ operator "{" symbol.OpenBrace
    ∷ operator "}" symbol.CloseBrace
    ∷ operator "<<" symbol.OpenTuple
    ∷ operator ">>" symbol.CloseTuple
    ∷ operator ">>_" symbol.CloseTupleSubscript
    ∷ operator "," symbol.Comma
    ∷ operator ":" symbol.Colon
    ∷ operator "!" symbol.Exclamation
    ∷ operator "@" symbol.At
    ∷ operator "." symbol.Dot
    ∷ operator "'" symbol.Prime
    ∷ operator "==" symbol.Defined
    ∷ operator "->" symbol.Arrow
    ∷ operator "|->" symbol.MapsTo
    ∷ operator "<-" symbol.LeftArrow
    ∷ operator "=" symbol.Equal
    ∷ operator "#" symbol.NotEqual
    ∷ operator "/=" symbol.NotEqual
    ∷ operator "<" symbol.Less
    ∷ operator ">" symbol.Greater
    ∷ operator "<=" symbol.LessOrEqual
    ∷ operator "=<" symbol.LessOrEqual
    ∷ operator ">=" symbol.GreaterOrEqual
    ∷ operator "=>" symbol.Implies
    ∷ operator "<=>" symbol.Equivalent
    ∷ operator "~>" symbol.LeadsTo
    ∷ operator "~" symbol.Not
    ∷ operator "/\\" symbol.And
    ∷ operator "[]" symbol.Always
    ∷ operator "<>" symbol.Eventually
    ∷ operator "+" symbol.Plus
    ∷ operator "-" symbol.Minus
    ∷ operator "*" symbol.Times
    ∷ operator "%" symbol.Remainder
    ∷ operator "^" symbol.Power
    ∷ operator ".." symbol.Interval
    ∷ operator ":>" symbol.SingleFunction
    ∷ operator "@@" symbol.MergedFunctions
    ∷ outside "--" foreign.MinusMinus
    ∷ outside "++" foreign.PlusPlus
    ∷ outside "**" foreign.StarStar
    ∷ outside "//" foreign.SlashSlash
    ∷ outside "/" foreign.Slash
    ∷ outside "^^" foreign.CaretCaret
    ∷ outside "??" foreign.QuestionQuestion
    ∷ outside "!!" foreign.ExclamationExclamation
    ∷ outside "##" foreign.HashHash
    ∷ outside "$" foreign.Dollar
    ∷ outside "$$" foreign.DollarDollar
    ∷ outside "&" foreign.Ampersand
    ∷ outside "&&" foreign.AmpersandAmpersand
    ∷ outside "|" foreign.Bar
    ∷ outside "||" foreign.BarBar
    ∷ outside "<:" foreign.LessColon
    ∷ outside ":=" foreign.ColonEqual
    ∷ outside "::=" foreign.ColonColonEqual
    ∷ outside "..." foreign.DotDotDot
    ∷ outside "^+" foreign.CaretPlus
    ∷ outside "^*" foreign.CaretStar
    ∷ outside "^#" foreign.CaretHash
    ∷ outside "-+->" foreign.PlusArrow
    ∷ outside "|-" foreign.BarMinus
    ∷ outside "|=" foreign.BarEqual
    ∷ outside "-|" foreign.MinusBar
    ∷ outside "=|" foreign.EqualBar
    ∷ []
