use Rattle.steps_tied.proofs.OfSpecs.{behaviours_are_named, cuts_are_reached, runs_over_orders, wrong_is_unready}
use Rattle.steps_tied.proofs.laws.tied_laws.Goals as goal

pub returns-clause-runs : goal.returns-clause-runs
returns-clause-runs c = runs_over_orders

pub returns-clause-reached : goal.returns-clause-reached
returns-clause-reached c = cuts_are_reached

pub returns-clause-named : goal.returns-clause-named
returns-clause-named c = behaviours_are_named

pub returns-clause-wrong : goal.returns-clause-wrong
returns-clause-wrong c = wrong_is_unready
