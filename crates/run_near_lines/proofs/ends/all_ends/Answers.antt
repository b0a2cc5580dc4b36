use Rattle.std.proofs.Common.{◌<◌, arith, length, subst, sym}
use Rattle.eval_meanings.specs.Contexts.{Places}
use Rattle.steps_why_not.specs.Results.{AreUpdated}
use Rattle.steps_why_not.specs.Taken.{LeadsThere}
use Rattle.run_near_lines.proofs.AllEnds.{all_ends_are, ends_reached}
use Rattle.run_near_lines.proofs.ends.all_ends.Goals as goal

pub returns-clause-all : goal.returns-clause-all
returns-clause-all c =
    let us = c.args.line.now.updates in
    let s = c.args.from.now in
    let p = c.in_ok-same.same in
    let ends = c.in_ok-ends.ends.items in
    let short : length ends < 4294967295 = omega (arith, c.if-len-ge-ROOM.false, c.len.ensures) in
    all_ends_are c.args.sparing c.args.spec.now c.args.line.now s p (subst (λ (q : Places). AreUpdated us s q) (sym c.in_ok-same.ensures) c.requires.updated)
    (subst (λ (q : Places). LeadsThere us s q) (sym c.in_ok-same.ensures) c.requires.exact) 4294967295 ends c.in_ok-ends.ensures short

pub returns-clause-reached : goal.returns-clause-reached
returns-clause-reached c =
    let us = c.args.line.now.updates in
    let s = c.args.from.now in
    ends_reached c.orderly_law.ensures c.whole_law.ensures c.args.spec.now c.requires.ready c.args.line.now c.requires.fits s c.requires.state c.in_ok-same.same
    (subst (λ (q : Places). AreUpdated us s q) (sym c.in_ok-same.ensures) c.requires.updated) c.args.sparing 4294967295 c.in_ok-ends.ends.items c.in_ok-ends.ensures
