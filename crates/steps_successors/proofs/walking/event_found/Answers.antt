use Rattle.std.proofs.Common.{subst, sym, Ok, Err, Option, Some, List}
use Rattle.std.specs.Prelude.{IfErr, IfOk}
use Rattle.values_core.specs.Data.{Val}
use Rattle.steps_lines_defs.specs.Asks.{act_of}
use Rattle.logs_updates.specs.declared.line.Event.{Event}
use Rattle.steps_successors.specs.Taken.{BothFound, act_at}
use Rattle.steps_successors.proofs.walking.event_found.Goals as goal

pub returns-in-None-clause-found : goal.returns-in-None-clause-found
returns-in-None-clause-found c = subst (λ (o : Option Event). IfOk c.next_from.result (λ found. BothFound c.args.course.spec.now c.args.course.from.now c.args.course.sees.now (act_of o) c.args.places (Ok found.items))) (sym c.in-None.is) c.next_from.ensures.found

pub returns-in-Some-clause-found : goal.returns-in-Some-clause-found
returns-in-Some-clause-found c = subst (λ (o : Option Event). IfOk c.act_then_next.result (λ found. BothFound c.args.course.spec.now c.args.course.from.now c.args.course.sees.now (act_of o) c.args.places (Ok found.items))) (sym c.in-Some.is)
    (subst (λ (vs : List Val). IfOk c.act_then_next.result (λ found. BothFound c.args.course.spec.now c.args.course.from.now c.args.course.sees.now (Some (act_at c.in-Some.event.operator vs)) c.args.places (Ok found.items))) c.items.ensures c.act_then_next.ensures.found)

pub returns-in-None-clause-fault : goal.returns-in-None-clause-fault
returns-in-None-clause-fault c = subst (λ (o : Option Event). IfErr c.next_from.result (λ fault. BothFound c.args.course.spec.now c.args.course.from.now c.args.course.sees.now (act_of o) c.args.places (Err fault))) (sym c.in-None.is) c.next_from.ensures.fault

pub returns-in-Some-clause-fault : goal.returns-in-Some-clause-fault
returns-in-Some-clause-fault c = subst (λ (o : Option Event). IfErr c.act_then_next.result (λ fault. BothFound c.args.course.spec.now c.args.course.from.now c.args.course.sees.now (act_of o) c.args.places (Err fault))) (sym c.in-Some.is)
    (subst (λ (vs : List Val). IfErr c.act_then_next.result (λ fault. BothFound c.args.course.spec.now c.args.course.from.now c.args.course.sees.now (Some (act_at c.in-Some.event.operator vs)) c.args.places (Err fault))) c.items.ensures c.act_then_next.ensures.fault)
