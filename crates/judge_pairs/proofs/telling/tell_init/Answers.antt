use Rattle.judge_truth.specs.Pairs.{at, setting}
use Rattle.judge_pairs.proofs.Answering.{init_can, init_tells}
use Rattle.judge_pairs.proofs.telling.tell_init.Goals as goal

pub tell-requires : goal.tell-requires
tell-requires c =
    let p = c.pair_of_init in
    init_can c.args.spec.now c.requires.ready c.args.state.now c.requires.state c.in_ok-places.places c.in_ok-places.ensures (setting p.result) (at p.result) p.ensures.setting p.ensures.context
    c.orderly_law.ensures c.staying_laws.ensures.stay

pub returns : goal.returns
returns c =
    let p = c.pair_of_init in
    init_tells c.args.spec.now c.requires.ready c.args.state.now c.requires.state c.in_ok-places.places c.in_ok-places.ensures (setting p.result) (at p.result) p.ensures.setting p.ensures.context c.tell.result
    c.tell.ensures
