use Rattle.std.proofs.Common.{◌≡◌, ◌∙◌, ap, refl, subst, sym, [], List, Ok, Err, map}
use Rattle.actions_meanings.specs.declared.which.Which.TheVariants.{Action}
use Rattle.steps_successors.proofs.Answering.{err_then, ok_then}
use Rattle.steps_successors.proofs.Both.{body_grounded, body_refused, both_found, defined, each_grounded}
use Rattle.steps_successors.proofs.Staging.{stage_all_grounded, stage_all_walked, stage_grounded, stage_walked}
use Rattle.steps_successors.proofs.walking.act_then_next.Goals as goal

pub walk-requires : goal.walk-requires
walk-requires c =
    let g = c.args.course.spec.now in
    let s = c.args.course.from.now in
    let sees = c.args.course.sees.now in
    let p = c.args.places in
    let k = c.args.operator in
    let vs = c.args.arguments.now in
    let t = c.stage_of-stage in
    let o = c.index-items-operator.result in
    let is = defined g.operators c.items.result.now k o c.items.ensures c.requires.within c.index-items-operator.is in
    let same : map (λ v. v.now) c.deref.result.now ≡ vs = ap (map (λ v. v.now)) c.deref.ensures.value ∙ c.in_ok-slots.ensures in
    stage_grounded t.result g Action s sees t.ensures.setting (t.ensures.state ∙ c.requires.whole) t.ensures.sees (map (λ v. v.now) c.deref.result.now) vs same 400 o.body p
    (body_grounded c.orderly_law.ensures c.whole_law.ensures g c.requires.ready s c.requires.state sees p k vs o is c.requires.start)

pub from_each-requires : goal.from_each-requires
from_each-requires c =
    let g = c.args.course.spec.now in
    let s = c.args.course.from.now in
    let sees = c.args.course.sees.now in
    let p = c.args.places in
    let k = c.args.operator in
    let vs = c.args.arguments.now in
    let t = c.stage_of-stage in
    let o = c.index-items-operator.result in
    let is = defined g.operators c.items.result.now k o c.items.ensures c.requires.within c.index-items-operator.is in
    let same : map (λ v. v.now) c.deref.result.now ≡ vs = ap (map (λ v. v.now)) c.deref.ensures.value ∙ c.in_ok-slots.ensures in
    let w = stage_walked t.result g Action s sees t.ensures.setting (t.ensures.state ∙ c.requires.whole) t.ensures.sees (map (λ v. v.now) c.deref.result.now) vs same 400 o.body p (Ok c.in-Ok.found.items) c.in-Ok.ensures.found in
    stage_all_grounded t.result g Action s sees t.ensures.setting (t.ensures.state ∙ c.requires.whole) t.ensures.sees [] [] refl 400 g.next c.in-Ok.found.items
    (each_grounded c.orderly_law.ensures c.whole_law.ensures g c.requires.ready s c.requires.state sees p k vs o is c.in-Ok.found.items w c.requires.start)

pub returns-in-Ok-clause-found : goal.returns-in-Ok-clause-found
returns-in-Ok-clause-found c =
    let g = c.args.course.spec.now in
    let s = c.args.course.from.now in
    let sees = c.args.course.sees.now in
    let p = c.args.places in
    let k = c.args.operator in
    let vs = c.args.arguments.now in
    let t = c.stage_of-stage in
    let o = c.index-items-operator.result in
    let is = defined g.operators c.items.result.now k o c.items.ensures c.requires.within c.index-items-operator.is in
    let same : map (λ v. v.now) c.deref.result.now ≡ vs = ap (map (λ v. v.now)) c.deref.ensures.value ∙ c.in_ok-slots.ensures in
    let w = stage_walked t.result g Action s sees t.ensures.setting (t.ensures.state ∙ c.requires.whole) t.ensures.sees (map (λ v. v.now) c.deref.result.now) vs same 400 o.body p (Ok c.in-Ok.found.items) c.in-Ok.ensures.found in
    ok_then c.from_each.result _ _ (λ all x. both_found c.orderly_law.ensures c.whole_law.ensures g c.requires.ready s c.requires.state sees p k vs o is c.in-Ok.found.items w (Ok all.items)
    (stage_all_walked t.result g Action s sees t.ensures.setting (t.ensures.state ∙ c.requires.whole) t.ensures.sees [] [] refl 400 g.next c.in-Ok.found.items (Ok all.items) x)) c.from_each.ensures.found

pub returns-in-Ok-clause-fault : goal.returns-in-Ok-clause-fault
returns-in-Ok-clause-fault c =
    let g = c.args.course.spec.now in
    let s = c.args.course.from.now in
    let sees = c.args.course.sees.now in
    let p = c.args.places in
    let k = c.args.operator in
    let vs = c.args.arguments.now in
    let t = c.stage_of-stage in
    let o = c.index-items-operator.result in
    let is = defined g.operators c.items.result.now k o c.items.ensures c.requires.within c.index-items-operator.is in
    let same : map (λ v. v.now) c.deref.result.now ≡ vs = ap (map (λ v. v.now)) c.deref.ensures.value ∙ c.in_ok-slots.ensures in
    let w = stage_walked t.result g Action s sees t.ensures.setting (t.ensures.state ∙ c.requires.whole) t.ensures.sees (map (λ v. v.now) c.deref.result.now) vs same 400 o.body p (Ok c.in-Ok.found.items) c.in-Ok.ensures.found in
    err_then c.from_each.result _ _ (λ fault x. both_found c.orderly_law.ensures c.whole_law.ensures g c.requires.ready s c.requires.state sees p k vs o is c.in-Ok.found.items w (Err fault)
    (stage_all_walked t.result g Action s sees t.ensures.setting (t.ensures.state ∙ c.requires.whole) t.ensures.sees [] [] refl 400 g.next c.in-Ok.found.items (Err fault) x)) c.from_each.ensures.fault

pub returns-clause-fault : goal.returns-clause-fault
returns-clause-fault c =
    let g = c.args.course.spec.now in
    let s = c.args.course.from.now in
    let sees = c.args.course.sees.now in
    let p = c.args.places in
    let k = c.args.operator in
    let vs = c.args.arguments.now in
    let t = c.stage_of-stage in
    let o = c.index-items-operator.result in
    let is = defined g.operators c.items.result.now k o c.items.ensures c.requires.within c.index-items-operator.is in
    let same : map (λ v. v.now) c.deref.result.now ≡ vs = ap (map (λ v. v.now)) c.deref.ensures.value ∙ c.in_ok-slots.ensures in
    body_refused c.orderly_law.ensures c.whole_law.ensures g c.requires.ready s c.requires.state sees p k vs o is c.in-Err.fault
    (stage_walked t.result g Action s sees t.ensures.setting (t.ensures.state ∙ c.requires.whole) t.ensures.sees (map (λ v. v.now) c.deref.result.now) vs same 400 o.body p (Err c.in-Err.fault) c.in-Err.ensures.fault)
