-- For the prover: each token outside the profile stands in a table of spellings.
use Rattle.std.proofs.Common.{codes, refl, inl, inr}
use Rattle.reading_tokens.specs.Spellings.{kind_in, words, runs, signs}
use Rattle.reading_tokens.specs.declared.token.Foreign.TheVariants as foreign
use Rattle.run_texts.specs.Spelled.{ForeignIsSpelled}

pub foreign_spelled : ForeignIsSpelled
unfolding kind_in words runs signs
foreign_spelled foreign.Lambda = inl refl
foreign_spelled foreign.Local = inl refl
foreign_spelled foreign.Instance = inl refl
foreign_spelled foreign.Recursive = inl refl
foreign_spelled foreign.With = inl refl
foreign_spelled foreign.Proof = inl refl
foreign_spelled foreign.Prove = inl refl
foreign_spelled foreign.By = inl refl
foreign_spelled foreign.Obvious = inl refl
foreign_spelled foreign.Omitted = inl refl
foreign_spelled foreign.Qed = inl refl
foreign_spelled foreign.Module = inl refl
foreign_spelled foreign.MinusMinus = inr (inl refl)
foreign_spelled foreign.PlusPlus = inr (inl refl)
foreign_spelled foreign.StarStar = inr (inl refl)
foreign_spelled foreign.SlashSlash = inr (inl refl)
foreign_spelled foreign.Slash = inr (inl refl)
foreign_spelled foreign.CaretCaret = inr (inl refl)
foreign_spelled foreign.QuestionQuestion = inr (inl refl)
foreign_spelled foreign.ExclamationExclamation = inr (inl refl)
foreign_spelled foreign.HashHash = inr (inl refl)
foreign_spelled foreign.Dollar = inr (inl refl)
foreign_spelled foreign.DollarDollar = inr (inl refl)
foreign_spelled foreign.Ampersand = inr (inl refl)
foreign_spelled foreign.AmpersandAmpersand = inr (inl refl)
foreign_spelled foreign.Bar = inr (inl refl)
foreign_spelled foreign.BarBar = inr (inl refl)
foreign_spelled foreign.LessColon = inr (inl refl)
foreign_spelled foreign.ColonEqual = inr (inl refl)
foreign_spelled foreign.ColonColonEqual = inr (inl refl)
foreign_spelled foreign.DotDotDot = inr (inl refl)
foreign_spelled foreign.CaretPlus = inr (inl refl)
foreign_spelled foreign.CaretStar = inr (inl refl)
foreign_spelled foreign.CaretHash = inr (inl refl)
foreign_spelled foreign.PlusArrow = inr (inl refl)
foreign_spelled foreign.BarMinus = inr (inl refl)
foreign_spelled foreign.BarEqual = inr (inl refl)
foreign_spelled foreign.MinusBar = inr (inl refl)
foreign_spelled foreign.EqualBar = inr (inl refl)
foreign_spelled foreign.ActionComposition = inr (inr (codes "cdot", refl, refl))
foreign_spelled foreign.TemporalForAll = inr (inr (codes "AA", refl, refl))
foreign_spelled foreign.TemporalExists = inr (inr (codes "EE", refl, refl))
foreign_spelled foreign.Underscore = inl refl
