use Rattle.std.specs.List.{Contains}
use Rattle.run_why.specs.Within.{LeadsBeyond}
use Rattle.run_why.proofs.Reaching.{NoneBefore}
use Rattle.run_why.proofs.within.any_leads_beyond.Given as goal

abbrev pub invariant-loop-from : goal.invariant-loop-from
invariant-loop-from l = NoneBefore (LeadsBeyond l.steps.spec.now l.steps.limit (Contains l.entries)) l.entries l.from-index
