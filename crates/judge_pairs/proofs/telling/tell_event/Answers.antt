use Rattle.std.proofs.Common.{ap, subst, sym, List, Option, Some}
use Rattle.std.specs.Prelude.{IfOk}
use Rattle.values_core.specs.Data.{Val}
use Rattle.logs_updates.specs.declared.line.Event.{Event}
use Rattle.steps_lines_defs.specs.Asks.{act_of}
use Rattle.judge_pairs.specs.Telling.{CanAct, IsBothTold, act_at}
use Rattle.judge_pairs.proofs.telling.tell_event.Goals as goal

pub tell_both-requires-clause-call : goal.tell_both-requires-clause-call
tell_both-requires-clause-call c =
    let k = c.in-Some.event.operator in
    subst (λ (vs : List Val). CanAct c.args.between.spec.now (act_at k vs)) (sym c.items.ensures) (c.requires.call (act_at k c.in-Some.event.args) (ap act_of c.in-Some.is))

pub returns-in-None : goal.returns-in-None
returns-in-None c = subst (λ (o : Option Event). IfOk c.tell_next.result (λ told. IsBothTold c.args.between (act_of o) told)) (sym c.in-None.is) c.tell_next.ensures

pub returns-in-Some : goal.returns-in-Some
returns-in-Some c = subst (λ (o : Option Event). IfOk c.tell_both.result (λ told. IsBothTold c.args.between (act_of o) told)) (sym c.in-Some.is)
    (subst (λ (vs : List Val). IfOk c.tell_both.result (λ told. IsBothTold c.args.between (Some (act_at c.in-Some.event.operator vs)) told)) c.items.ensures c.tell_both.ensures)
