use Rattle.twice_outcomes.proofs.Settled.{actions_fail, actions_fix, actions_hold, outcomes_are_alike, whole_outcomes}
use Rattle.twice_outcomes.proofs.actions_laws.alike_action_laws.Goals as goal

pub returns : goal.returns
returns c = record {
  holds = actions_hold c.alike_outcome_laws.ensures.evaluates c.alike_outcome_laws.ensures.describes c.alike_outcome_laws.ensures.behind;
  fails = actions_fail c.alike_outcome_laws.ensures.evaluates c.alike_outcome_laws.ensures.describes c.alike_outcome_laws.ensures.behind;
  outcomes = outcomes_are_alike c.alike_outcome_laws.ensures.evaluates c.alike_outcome_laws.ensures.describes c.alike_outcome_laws.ensures.behind;
  fixes = actions_fix c.alike_outcome_laws.ensures.evaluates c.alike_outcome_laws.ensures.describes c.alike_outcome_laws.ensures.behind;
  whole = whole_outcomes c.alike_outcome_laws.ensures.evaluates c.alike_outcome_laws.ensures.describes c.alike_outcome_laws.ensures.behind;
}
