-- The configuration of a text, where what it says of a search alone may be passed over. The text is read as it stands first, so that nothing changes for one
-- that is accepted so.
use Rattle.std.specs.Prelude.{◌≡◌, ℕ, Bool, true, false, List, ◌++◌, Ok, Err}
use Rattle.base_core.specs.declared.place.Place.{Place}
use Rattle.reading_tokens.specs.declared.token.Token.{Token}
use Rattle.reading_tokens.specs.Tokens.{Tokens}
use Rattle.reading_tokens.specs.Tokens as lexer
use Rattle.reading_trees.specs.declared.config.Config.{Config}
use Rattle.reading_configuration.specs.declared.fault.ConfigKind.{ConfigKind}
use Rattle.reading_configuration.specs.Reads.{Outcome, OfLexed, OfTokens, Reads}
use Rattle.reading_wide_configuration.specs.Passed.{remaining, told}

-- what was passed over is told behind all else that is not checked
abbrev pub also_told : List (List ℕ) → Config → Config
also_told lines config = record config { unchecked = config.unchecked ++ lines }

abbrev pub with_told : List (List ℕ) → Outcome → Outcome
with_told lines (Ok config) = Ok (also_told lines config)
with_told lines (Err fault) = Err fault

-- the outcome of the tokens that remain
pub record OfRemaining (name : List ℕ) (tokens : List Token) (outcome : Outcome) : Type 0 where
  pub rest : Outcome
  pub reads : OfTokens name (remaining tokens) rest
  pub with_others : outcome ≡ with_told (told tokens) rest

-- the outcome of tokens: their configuration, or, where they have none, what those that remain have
pub data OfTokensWide (name : List ℕ) (tokens : List Token) : Outcome → Type 0 where
  as_they_stand : (config : Config) → OfTokens name tokens (Ok config) → OfTokensWide name tokens (Ok config)
  as_they_remain : (refusal : ConfigKind × Place) (outcome : Outcome) → OfTokens name tokens (Err refusal) → OfRemaining name tokens outcome
      → OfTokensWide name tokens outcome

-- the outcome of a text that has tokens; one that has none is refused as ever
abbrev pub OfLexedWide : List ℕ → lexer.Outcome → Outcome → Type 0
OfLexedWide name (Ok tokens) outcome = OfTokensWide name tokens outcome
OfLexedWide name (Err fault) outcome = OfLexed name (Err fault) outcome

-- the outcome of a text, which is in the file of this number and this name
pub record ReadsWide (file : ℕ) (name : List ℕ) (text : List ℕ) (outcome : Outcome) : Type 0 where
  pub lexed : lexer.Outcome
  pub tokens : Tokens false file text lexed
  pub of_lexed : OfLexedWide name lexed outcome

-- with the word `--wide`, and without it
abbrev pub ReadsBy : Bool → ℕ → List ℕ → List ℕ → Outcome → Type 0
ReadsBy true = ReadsWide
ReadsBy false = Reads
