use Rattle.std.proofs.Common.{subst, sym, Ok, Err, Option}
use Rattle.std.specs.Prelude.{IfErr, IfOk}
use Rattle.steps_lines_defs.specs.Steps.{silent_act}
use Rattle.names_terms.specs.declared.ids.DefId.{DefId}
use Rattle.steps_successors.specs.Taken.{BothFound}
use Rattle.steps_successors.proofs.walking.silent_found.Goals as goal

pub returns-in-None-clause-found : goal.returns-in-None-clause-found
returns-in-None-clause-found c = subst (λ (o : Option DefId). IfOk c.next_from.result (λ found. BothFound c.args.course.spec.now c.args.course.from.now c.args.course.sees.now (silent_act o) c.args.places (Ok found.items))) (sym c.in-None.is) c.next_from.ensures.found

pub returns-in-Some-clause-found : goal.returns-in-Some-clause-found
returns-in-Some-clause-found c = subst (λ (o : Option DefId). IfOk c.act_then_next.result (λ found. BothFound c.args.course.spec.now c.args.course.from.now c.args.course.sees.now (silent_act o) c.args.places (Ok found.items))) (sym c.in-Some.is)
    c.act_then_next.ensures.found

pub returns-in-None-clause-fault : goal.returns-in-None-clause-fault
returns-in-None-clause-fault c = subst (λ (o : Option DefId). IfErr c.next_from.result (λ fault. BothFound c.args.course.spec.now c.args.course.from.now c.args.course.sees.now (silent_act o) c.args.places (Err fault))) (sym c.in-None.is) c.next_from.ensures.fault

pub returns-in-Some-clause-fault : goal.returns-in-Some-clause-fault
returns-in-Some-clause-fault c = subst (λ (o : Option DefId). IfErr c.act_then_next.result (λ fault. BothFound c.args.course.spec.now c.args.course.from.now c.args.course.sees.now (silent_act o) c.args.places (Err fault))) (sym c.in-Some.is)
    c.act_then_next.ensures.fault
