use Rattle.std.proofs.Common.{ap}
use Rattle.names_terms.specs.Terms.{place_of}
use Rattle.eval_parts.proofs.ChangeWalk.{inside_refused, inside_told}
use Rattle.eval_parts.proofs.changing.inside_at.Goals as goal

pub returns-in-Ok-clause-inside : goal.returns-in-Ok-clause-inside
returns-in-Ok-clause-inside c = inside_told (place_of c.args.base.now) c.args.function.now c.args.key.now c.apply.result c.in-Ok.ensures c.apply.ensures

pub returns-in-Err-clause-fault : goal.returns-in-Err-clause-fault
returns-in-Err-clause-fault c = inside_refused c.base.inside.at (place_of c.args.base.now) c.args.function.now c.args.key.now c.in-Err.fault (ap place_of c.base.view_is) c.in-Err.ensures.0 c.in-Err.ensures.1
