-- For the prover: what a search hands out.
use Rattle.std.specs.Prelude.{List}
use Rattle.states_core.specs.States.{Values}
use Rattle.names_terms.specs.declared.spec.Spec.{Spec}
use Rattle.logs_updates.specs.declared.line.Log.{Log}
use Rattle.steps_lines_defs.specs.Logs.{Asked, system}
use Rattle.states_layers.specs.Answers.{IsAnswer}
use Rattle.states_layers.specs.Last.{AreLast}
use Rattle.states_layers.specs.declared.answer.Answer.{Answer}

-- The answer is true of the specification beside the log, and these are what the explained lines lead to, where they are not all.
pub record IsSearched (g : Spec) (log : Log) (a : Asked) (answer : Answer) (entries : List Values) : Type 0 where
  pub is_true : IsAnswer (system g log a) answer
  pub last : AreLast (system g log a) answer entries
