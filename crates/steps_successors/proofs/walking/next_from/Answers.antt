use Rattle.std.proofs.Common.{◌∙◌, refl, [], Ok, Err}
use Rattle.actions_meanings.specs.declared.which.Which.TheVariants.{Action}
use Rattle.steps_successors.proofs.Answering.{err_then, ok_then}
use Rattle.steps_successors.proofs.Both.{next_found, next_grounded}
use Rattle.steps_successors.proofs.Staging.{stage_grounded, stage_walked}
use Rattle.steps_successors.proofs.walking.next_from.Goals as goal

pub walk-requires : goal.walk-requires
walk-requires c =
    let g = c.args.course.spec.now in
    let s = c.args.course.from.now in
    let sees = c.args.course.sees.now in
    let p = c.args.places in
    let t = c.stage_of-stage in
    stage_grounded t.result g Action s sees t.ensures.setting (t.ensures.state ∙ c.requires.whole) t.ensures.sees [] [] refl 400 g.next p
    (next_grounded c.orderly_law.ensures c.whole_law.ensures g c.requires.ready s c.requires.state sees p c.requires.start)

pub returns-clause-found : goal.returns-clause-found
returns-clause-found c =
    let g = c.args.course.spec.now in
    let s = c.args.course.from.now in
    let sees = c.args.course.sees.now in
    let p = c.args.places in
    let t = c.stage_of-stage in
    ok_then c.walk.result _ _ (λ found w. next_found c.orderly_law.ensures c.whole_law.ensures g c.requires.ready s c.requires.state sees p (Ok found.items)
    (stage_walked t.result g Action s sees t.ensures.setting (t.ensures.state ∙ c.requires.whole) t.ensures.sees [] [] refl 400 g.next p (Ok found.items) w)) c.walk.ensures.found

pub returns-clause-fault : goal.returns-clause-fault
returns-clause-fault c =
    let g = c.args.course.spec.now in
    let s = c.args.course.from.now in
    let sees = c.args.course.sees.now in
    let p = c.args.places in
    let t = c.stage_of-stage in
    err_then c.walk.result _ _ (λ fault w. next_found c.orderly_law.ensures c.whole_law.ensures g c.requires.ready s c.requires.state sees p (Err fault)
    (stage_walked t.result g Action s sees t.ensures.setting (t.ensures.state ∙ c.requires.whole) t.ensures.sees [] [] refl 400 g.next p (Err fault) w)) c.walk.ensures.fault
