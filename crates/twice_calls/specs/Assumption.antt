-- An assumption has one truth value, so where every assumption is TRUE none faults and none is FALSE.
use Rattle.std.specs.Prelude.{All}
use Rattle.names_terms.specs.declared.spec.Spec.{Spec}
use Rattle.names_terms.specs.Lists.{terms_list}
use Rattle.eval_meanings.specs.Laws.{KnowsValues}
use Rattle.logs_updates.specs.declared.line.Log.{Log}
use Rattle.steps_lines_defs.specs.Logs.{Asked, system}
use Rattle.states_layers.specs.Answers.{AllAssumed}
use Rattle.states_layers.specs.Says.{IsUnassumed}
use Rattle.states_layers.specs.declared.answer.Answer.{Answer}
use Rattle.eval_known.specs.Known.{KnowBodies}

-- the values that stand in the assumptions are values
abbrev pub KnowAssumptions : Spec → Type 0
KnowAssumptions g = All KnowsValues (terms_list g.assumes)

abbrev pub AssumedAreNotUnassumed : Type 0
AssumedAreNotUnassumed =
    (g : Spec) (log : Log) (asked : Asked) → KnowBodies g.operators → KnowAssumptions g → AllAssumed (system g log asked) → (answer : Answer) → ¬ IsUnassumed (system g log asked) answer
