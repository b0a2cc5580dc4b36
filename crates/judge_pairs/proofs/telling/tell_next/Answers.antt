use Rattle.judge_truth.specs.Pairs.{at, setting}
use Rattle.judge_pairs.proofs.Answering.{next_can, next_tells}
use Rattle.judge_pairs.proofs.telling.tell_next.Goals as goal

pub tell-requires : goal.tell-requires
tell-requires c =
    let b = c.args.between in
    let p = c.pair_of in
    next_can b.spec.now b.from.now b.to.now b.before.now b.after.now c.requires (setting p.result) (at p.result) p.ensures.setting p.ensures.context c.orderly_law.ensures c.staying_laws.ensures.stay

pub returns : goal.returns
returns c =
    let b = c.args.between in
    let p = c.pair_of in
    next_tells b.spec.now b.from.now b.to.now b.before.now b.after.now c.requires (setting p.result) (at p.result) p.ensures.setting p.ensures.context c.tell.result c.tell.ensures
