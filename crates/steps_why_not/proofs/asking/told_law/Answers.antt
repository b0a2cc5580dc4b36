use Rattle.steps_why_not.proofs.Telling.{each_told}
use Rattle.steps_why_not.proofs.asking.told_law.Goals as goal

pub returns : goal.returns
returns c = each_told c.orderly_law.ensures c.whole_law.ensures c.args.spec.now c.requires.ready c.args.line.now c.requires.fits c.args.state.now c.requires.state
