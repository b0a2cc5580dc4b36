use Rattle.std.proofs.Common.{◌≡◌, ◌∙◌, ap, map}
use Rattle.judge_truth.specs.Pairs.{at, setting}
use Rattle.judge_pairs.proofs.Answering.{act_can, act_tells}
use Rattle.judge_pairs.proofs.telling.tell_act.Goals as goal

pub definition-operator-requires : goal.definition-operator-requires
definition-operator-requires c = (c.requires.call.1.0, c.requires.call.1.1)

pub tell-requires : goal.tell-requires
tell-requires c =
    let b = c.args.between in
    let p = c.pair_of in
    let vs = c.args.arguments.now in
    let us = map (λ v. v.now) c.deref.result.now in
    let same : us ≡ vs = ap (map (λ v. v.now)) c.deref.ensures.value ∙ c.in_ok-slots.ensures in
    act_can b.spec.now b.from.now b.to.now b.before.now b.after.now c.requires.ready (setting p.result) (at p.result) us vs p.ensures.setting p.ensures.context same c.args.number
    c.definition-operator.result.now c.definition-operator.ensures c.orderly_law.ensures c.staying_laws.ensures.stay c.requires.call

pub returns : goal.returns
returns c =
    let b = c.args.between in
    let p = c.pair_of in
    let vs = c.args.arguments.now in
    let us = map (λ v. v.now) c.deref.result.now in
    let same : us ≡ vs = ap (map (λ v. v.now)) c.deref.ensures.value ∙ c.in_ok-slots.ensures in
    act_tells b.spec.now b.from.now b.to.now b.before.now b.after.now c.requires.ready (setting p.result) (at p.result) us vs p.ensures.setting p.ensures.context same c.args.number
    c.definition-operator.result.now c.definition-operator.ensures c.tell.result c.tell.ensures
