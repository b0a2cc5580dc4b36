use Rattle.std.proofs.Common.{subst, List, ℕ, MatchOption}
use Rattle.run_words.specs.Line.{Text}
use Rattle.run_words.specs.Words.{IsOnlyNumber}
use Rattle.run_words.proofs.ReadLaws.{no_single}
use Rattle.run_words.proofs.read.single_number.Goals as goal

pub returns-in-Some : goal.returns-in-Some
returns-in-Some c = subst (λ (ts : List Text). MatchOption c.only_number.result ((n : ℕ) → IsOnlyNumber ts n → ⊥) (IsOnlyNumber ts)) c.in-Some.ensures c.only_number.ensures

pub returns-in-None : goal.returns-in-None
returns-in-None c = λ n o. no_single _ n c.in-None.ensures o
