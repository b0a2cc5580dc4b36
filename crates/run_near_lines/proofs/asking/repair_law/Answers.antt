use Rattle.run_near_lines.proofs.Repairing.{are_repairs}
use Rattle.run_near_lines.proofs.asking.repair_law.Goals as goal

pub returns : goal.returns
returns c = λ s state. are_repairs c.orderly_law.ensures c.whole_law.ensures c.args.spec.now c.requires.ready c.args.line.now c.requires.fits s state
