-- What is true of a specification beside the lines of all logs: of lines in one order by the system beside their log, and of lines that may stand in several
-- orders by the system over cuts of the logs.
use Rattle.names_terms.specs.declared.spec.Spec.{Spec}
use Rattle.steps_lines_defs.specs.Logs.{Asked, system}
use Rattle.logs_tied.specs.declared.logs.Lined.{Lined}
use Rattle.logs_tied.specs.declared.logs.Lined.TheVariants.{Sequence, Tied}
use Rattle.steps_tied.specs.Tied.{tied_system}
use Rattle.states_layers.specs.Answers.{AllAssumed, IsAnswer}
use Rattle.states_layers.specs.Says.{IsUnassumed}
use Rattle.states_layers.specs.declared.answer.Answer.{Answer}

-- the answer is true
abbrev pub IsTrueOf : Spec → Asked → Lined → Answer → Type 0
IsTrueOf g asked (Sequence log) answer = IsAnswer (system g log asked) answer
IsTrueOf g asked (Tied logs) answer = IsAnswer (tied_system g logs asked) answer

-- each assumption is TRUE
abbrev pub AreAssumedOf : Spec → Asked → Lined → Type 0
AreAssumedOf g asked (Sequence log) = AllAssumed (system g log asked)
AreAssumedOf g asked (Tied logs) = AllAssumed (tied_system g logs asked)

-- the answer is that an assumption faults, or is FALSE, and all before it are TRUE
abbrev pub IsUnassumedOf : Spec → Asked → Lined → Answer → Type 0
IsUnassumedOf g asked (Sequence log) answer = IsUnassumed (system g log asked) answer
IsUnassumedOf g asked (Tied logs) answer = IsUnassumed (tied_system g logs asked) answer
