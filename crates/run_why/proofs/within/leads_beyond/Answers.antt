use Rattle.run_why.proofs.Reaching.{listed}
use Rattle.run_why.proofs.within.leads_beyond.Goals as goal

pub silent-requires-clause-reached : goal.silent-requires-clause-reached
silent-requires-clause-reached c = (c.requires.reached.lines, c.requires.reached.reached)

pub returns-in-Ok : goal.returns-in-Ok
returns-in-Ok c =
    let s = c.args.steps.now in
    let is = rw c.deref.ensures.value at c.goes_beyond.ensures in
    listed s.spec.now s.limit c.args.entries.now c.args.from.now c.in-Ok.next.items c.goes_beyond.result c.in-Ok.ensures.0 c.in-Ok.ensures.1 is
