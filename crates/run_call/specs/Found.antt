-- For the prover: what a search finds, told as one fact of the specification, of what is asked and of the lines: facts by cases of the lines, as clauses of their own,
-- meet the step limit.
use Rattle.std.specs.Prelude.{Option, MatchOption}
use Rattle.names_terms.specs.declared.spec.Spec.{Spec}
use Rattle.steps_lines_defs.specs.Logs.{Asked}
use Rattle.logs_tied.specs.declared.logs.Lined.{Lined}
use Rattle.states_layers.specs.declared.answer.Answer.{Answer}
use Rattle.steps_lined.specs.Answers.{AreAssumedOf, IsTrueOf, IsUnassumedOf}

-- the answer is true
pub record IsFound (g : Spec) (a : Asked) (lined : Lined) (answer : Answer) : Type 0 where
  pub is_true : IsTrueOf g a lined answer

-- each assumption is TRUE
pub record AreAllAssumed (g : Spec) (a : Asked) (lined : Lined) : Type 0 where
  pub assumed : AreAssumedOf g a lined

-- this is the answer on the first assumption that is not TRUE, or none
pub record IsFirstUnassumed (g : Spec) (a : Asked) (lined : Lined) (first : Option Answer) : Type 0 where
  pub told : MatchOption first (AreAssumedOf g a lined) (IsUnassumedOf g a lined)
