use Rattle.logs_updates.proofs.UpdateLemmas.{in_domain, change_none, change_gives}
use Rattle.logs_updates.proofs.applying.+change.Goals as goal

pub returns-in-Some-2 : goal.returns-in-Some-2
returns-in-Some-2 t c =
    let inner = rw c.in-Some-2.is at c.in_ok-changed.ensures in
    change_gives c.args.op.now c.args.keys.now c.in-Some.key.now c.in-Some.rest.now c.args.value.now c.in-Some-at.inner.now c.in-Some-2.changed c.replace.result c.in-Some.ensures.cases.0 c.is_value.ensures c.in-Some-at.ensures inner
    (c.replace.ensures (in_domain c.args.value.now c.in-Some.key.now c.in-Some-at.inner.now c.in-Some-at.ensures))

pub returns-in-None : goal.returns-in-None
returns-in-None t c =
    let none = rw c.in-None.is at c.in_ok-changed.ensures in
    change_none c.args.op.now c.args.keys.now c.in-Some.key.now c.in-Some.rest.now c.args.value.now c.in-Some-at.inner.now c.in-Some.ensures.cases.0 c.is_value.ensures c.in-Some-at.ensures none
