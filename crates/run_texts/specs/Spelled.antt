-- How a token outside the profile is spelled.
use Rattle.std.specs.Prelude.{◌≡◌, ◌⊎◌, ℕ, List, ◌++◌, Some, codes}
use Rattle.reading_tokens.specs.declared.token.Foreign.{Foreign}
use Rattle.reading_tokens.specs.declared.token.Foreign.TheVariants as foreign
use Rattle.reading_tokens.specs.declared.token.Kind.TheVariants as kinds
use Rattle.reading_tokens.specs.Spellings.{kind_in, words, runs, signs}

abbrev pub foreign_text : Foreign → List ℕ
foreign_text foreign.Lambda = codes "LAMBDA"
foreign_text foreign.Local = codes "LOCAL"
foreign_text foreign.Instance = codes "INSTANCE"
foreign_text foreign.Recursive = codes "RECURSIVE"
foreign_text foreign.With = codes "WITH"
foreign_text foreign.Proof = codes "PROOF"
foreign_text foreign.Prove = codes "PROVE"
foreign_text foreign.By = codes "BY"
foreign_text foreign.Obvious = codes "OBVIOUS"
foreign_text foreign.Omitted = codes "OMITTED"
foreign_text foreign.Qed = codes "QED"
foreign_text foreign.Module = codes "MODULE"
foreign_text foreign.MinusMinus = codes "--"
foreign_text foreign.PlusPlus = codes "++"
foreign_text foreign.StarStar = codes "**"
foreign_text foreign.SlashSlash = codes "//"
foreign_text foreign.Slash = codes "/"
foreign_text foreign.CaretCaret = codes "^^"
foreign_text foreign.QuestionQuestion = codes "??"
foreign_text foreign.ExclamationExclamation = codes "!!"
foreign_text foreign.HashHash = codes "##"
foreign_text foreign.Dollar = codes "$"
foreign_text foreign.DollarDollar = codes "$$"
foreign_text foreign.Ampersand = codes "&"
foreign_text foreign.AmpersandAmpersand = codes "&&"
foreign_text foreign.Bar = codes "|"
foreign_text foreign.BarBar = codes "||"
foreign_text foreign.LessColon = codes "<:"
foreign_text foreign.ColonEqual = codes ":="
foreign_text foreign.ColonColonEqual = codes "::="
foreign_text foreign.DotDotDot = codes "..."
foreign_text foreign.CaretPlus = codes "^+"
foreign_text foreign.CaretStar = codes "^*"
foreign_text foreign.CaretHash = codes "^#"
foreign_text foreign.PlusArrow = codes "-+->"
foreign_text foreign.BarMinus = codes "|-"
foreign_text foreign.BarEqual = codes "|="
foreign_text foreign.MinusBar = codes "-|"
foreign_text foreign.EqualBar = codes "=|"
foreign_text foreign.ActionComposition = codes "\\cdot"
foreign_text foreign.TemporalForAll = codes "\\AA"
foreign_text foreign.TemporalExists = codes "\\EE"
foreign_text foreign.Underscore = codes "_"

-- a word, signs, or letters behind a backslash, that are read as this token
abbrev pub IsSpelled : List ℕ → Foreign → Type 0
IsSpelled text token = (kind_in words text ≡ Some (kinds.Foreign token))
    ⊎ (kind_in signs text ≡ Some (kinds.Foreign token))
    ⊎ ((letters : List ℕ) × (text ≡ codes "\\" ++ letters) × (kind_in runs letters ≡ Some (kinds.Foreign token)))

-- each is spelled as it is read
abbrev pub ForeignIsSpelled : Type 0
ForeignIsSpelled = (token : Foreign) → IsSpelled (foreign_text token) token
