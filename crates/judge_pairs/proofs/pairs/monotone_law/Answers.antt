use Rattle.steps_ready_defs.specs.Beside.{asked}
use Rattle.judge_pairs.proofs.Keeping.{monotone}
use Rattle.judge_pairs.proofs.pairs.monotone_law.Goals as goal

pub returns : goal.returns
returns c =
    let p = c.args.pairs.now in
    monotone c.staying_laws.ensures.stay c.fault_law.ensures p.spec.now p.log.now (asked p.stutter p.within p.limit) c.requires
