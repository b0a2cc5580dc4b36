use Rattle.std.proofs.Common.{subst}
use Rattle.steps_why_branches.specs.declared.why.Ended.{Ended}
use Rattle.steps_why_not.specs.Taken.{Lacks}
use Rattle.steps_why_not.proofs.reasons.reason.Goals as goal

pub unseen-requires : goal.unseen-requires
unseen-requires c = subst (λ (n : Ended). Lacks c.args.sees.now n) c.in-Passed.is c.requires
