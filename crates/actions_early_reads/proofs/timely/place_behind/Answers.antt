use Rattle.std.proofs.Common.{sym}
use Rattle.names_terms.specs.Terms.{NoSteps, place_of}
use Rattle.actions_early_reads.proofs.Behind.{place-last}
use Rattle.actions_early_reads.proofs.timely.place_behind.Goals as goal

pub returns-in-Some : goal.returns-in-Some
returns-in-Some c = sym (place-last (place_of c.args.base.now) NoSteps c.args.steps.now c.in-Some.step.now (sym c.in-Some.ensures.value))
