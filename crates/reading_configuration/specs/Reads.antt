-- The configuration of a text, or why it has none and where.
use Rattle.std.specs.Prelude.{◌≡◌, ℕ, true, false, List, [], ◌∷◌, ◌++◌, Some, Result, Ok, Err}
use Rattle.base_core.specs.declared.place.Place.{Place}
use Rattle.reading_tokens.specs.declared.token.Token.{Token}
use Rattle.reading_trees.specs.declared.config.Config.{Config}
use Rattle.reading_tokens.specs.Tokens.{Tokens}
use Rattle.reading_tokens.specs.Tokens as lexer
use Rattle.reading_configuration.specs.declared.mark.Mark.{Mark}
use Rattle.reading_configuration.specs.declared.mark.Mark.TheVariants.{End}
use Rattle.reading_configuration.specs.declared.keyword.Keyword.TheVariants as keyword
use Rattle.reading_configuration.specs.declared.fault.ConfigKind.{ConfigKind}
use Rattle.reading_configuration.specs.declared.fault.ConfigKind.TheVariants.{Syntax, Unsupported, Twice, NoBehaviour}
use Rattle.reading_configuration.specs.declared.fault.ConfigFault.{ConfigFault}
use Rattle.reading_configuration.specs.declared.fault.ConfigFault.TheVariants.{Refused, NoMemory}
use Rattle.reading_configuration.specs.Keywords.{keyword_of}
use Rattle.reading_configuration.specs.Marks.{mark_of, marks_of}
use Rattle.reading_configuration.specs.Statements.{Statement, name_mark, statements_marks, AreStatements}
use Rattle.reading_configuration.specs.Given.{nothing_given, after_all, NothingTwice, has_behaviour}

-- a configuration, or why there is none, and where
abbrev pub Outcome : Type 0
Outcome = Result Config (ConfigKind × Place)

-- the marks are these statements
pub record Writes (statements : List Statement) (marks : List Mark) : Type 0 where
  pub are : AreStatements statements
  pub whole : marks ≡ statements_marks statements []

-- the marks begin some statements
pub record Begins (marks : List Mark) : Type 0 where
  pub statements : List Statement
  pub behind : List Mark
  pub writes : Writes statements (marks ++ behind)

-- the marks begin some statements of which none gives what was given before it
pub record BeginsNew (name : List ℕ) (marks : List Mark) : Type 0 where
  pub statements : List Statement
  pub behind : List Mark
  pub writes : Writes statements (marks ++ behind)
  pub new : NothingTwice (nothing_given name) statements

-- the marks are whole statements of which none gives what was given before it
pub record AreWhole (name : List ℕ) (marks : List Mark) : Type 0 where
  pub statements : List Statement
  pub writes : Writes statements marks
  pub new : NothingTwice (nothing_given name) statements

-- a statement outside this project's profile begins: the word is its keyword, behind whole statements
pub record IsUnsupported (name : List ℕ) (before : List Mark) (mark : Mark) (word : List ℕ) : Type 0 where
  pub whole : AreWhole name before
  pub at : Place
  pub is_name : mark ≡ name_mark (record { text = word; at = at })
  pub is_keyword : keyword_of word ≡ Some keyword.Unsupported

-- why the mark can not stand behind those before it. Syntax: no statements go on with it, it begins no
-- statement outside the profile, and it is not the End of whole ones. Twice: statements go on with it, but
-- each such list gives again what was given. NoBehaviour: it is the End, but behind too little or too much.
abbrev pub Why : List ℕ → List Mark → Mark → ConfigKind → Type 0
Why name before mark Syntax =
    (Begins (before ++ mark ∷ []) → ⊥) × ((word : List ℕ) → IsUnsupported name before mark word → ⊥) × (mark ≡ End → AreWhole name before → ⊥)
Why name before mark (Unsupported word) = IsUnsupported name before mark word
Why name before mark (Twice word) =
    Begins (before ++ mark ∷ []) × (BeginsNew name (before ++ mark ∷ []) → ⊥) × ((at : Place) × (mark ≡ name_mark (record { text = word; at = at })))
Why name before mark NoBehaviour =
    (mark ≡ End) × ((whole : AreWhole name before) × (has_behaviour (after_all (nothing_given name) whole.statements) ≡ false))

-- the first token that can not stand behind those before it, and why
pub record Stops (name : List ℕ) (tokens : List Token) (kind : ConfigKind) (at : Place) : Type 0 where
  pub before : List Token
  pub token : Token
  pub behind : List Token
  pub whole : tokens ≡ before ++ token ∷ behind
  pub begins : BeginsNew name (marks_of before)
  pub why : Why name (marks_of before) (mark_of token) kind
  pub here : at ≡ token.place

-- the tokens are statements and the End, none of the statements gives what was given before it, and they
-- give this configuration, which has a behaviour
pub record Gives (name : List ℕ) (tokens : List Token) (config : Config) : Type 0 where
  pub before : List Token
  pub last : Token
  pub whole : tokens ≡ before ++ last ∷ []
  pub is_end : mark_of last ≡ End
  pub statements : List Statement
  pub writes : Writes statements (marks_of before)
  pub new : NothingTwice (nothing_given name) statements
  pub behaviour : has_behaviour config ≡ true
  pub gives : config ≡ after_all (nothing_given name) statements

-- the outcome of tokens
abbrev pub OfTokens : List ℕ → List Token → Outcome → Type 0
OfTokens name tokens (Ok config) = Gives name tokens config
OfTokens name tokens (Err fault) = Stops name tokens fault.0 fault.1

-- the outcome of a text that has tokens, or of one that has none, which is refused before all else
abbrev pub OfLexed : List ℕ → lexer.Outcome → Outcome → Type 0
OfLexed name (Ok tokens) outcome = OfTokens name tokens outcome
OfLexed name (Err fault) outcome = outcome ≡ Err (Syntax, fault.1)

-- the outcome of a text, which is in the file of this number and this name
pub record Reads (file : ℕ) (name : List ℕ) (text : List ℕ) (outcome : Outcome) : Type 0 where
  pub lexed : lexer.Outcome
  pub tokens : Tokens false file text lexed
  pub of_lexed : OfLexed name lexed outcome

-- what was answered is the outcome of the text; or memory was wanting
abbrev pub Answers : (Outcome → Type 0) → Result Config ConfigFault → Type 0
Answers P (Ok config) = P (Ok config)
Answers P (Err (Refused kind at)) = P (Err (kind, at))
Answers P (Err NoMemory) = Unit {0}

-- one text has one outcome
abbrev pub OneConfiguration : Type 0
OneConfiguration = (file : ℕ) (name text : List ℕ) (a b : Outcome) → Reads file name text a → Reads file name text b → a ≡ b

-- and it has one
abbrev pub SomeConfiguration : Type 0
SomeConfiguration = (file : ℕ) (name text : List ℕ) → (a : Outcome) × Reads file name text a
