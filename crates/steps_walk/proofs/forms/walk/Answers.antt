use Rattle.std.proofs.Common.{List, Ok, Err, sym, subst, map}
use Rattle.values_core.specs.Data.{Val}
use Rattle.eval_meanings.specs.Contexts.{Places}
use Rattle.actions_rows.specs.Rows.{before, setting}
use Rattle.actions_rows.specs.declared.stage.Stage.{Stage}
use Rattle.steps_walk.specs.Walking.{Grounded, IsWalked, listed}
use Rattle.steps_walk.proofs.forms.walk.Goals as goal
use denote.Ref.{Bor}

abbrev value : Bor Val → Val
value x = x.now

pub walk_part-requires : goal.walk_part-requires
walk_part-requires c =
    let vs = map value c.args.slots.now in
    subst (λ (s : Stage). Grounded (setting s) c.args.depth s.sees.now c.args.places (before s vs) c.args.term.now) (sym c.new-course.ensures) c.requires

pub returns-in_ok-into_list-in-Ok-clause-found : goal.returns-in_ok-into_list-in-Ok-clause-found
returns-in_ok-into_list-in-Ok-clause-found c =
    let vs = map value c.args.slots.now in
    let found = listed c.in-Ok.found in
    let here = subst (λ (s : Stage). IsWalked (setting s) c.args.depth s.sees.now c.args.places (before s vs) c.args.term.now (Ok (listed c.in-Ok.found))) c.new-course.ensures c.in-Ok.ensures.found in
    let s = c.args.stage in
    subst (λ (ps : List Places). IsWalked (setting s) c.args.depth s.sees.now c.args.places (before s vs) c.args.term.now (Ok ps)) (sym c.in_ok-into_list-in-Ok.ensures) here

pub returns-in-Err-clause-fault : goal.returns-in-Err-clause-fault
returns-in-Err-clause-fault c =
    let vs = map value c.args.slots.now in
    subst (λ (s : Stage). IsWalked (setting s) c.args.depth s.sees.now c.args.places (before s vs) c.args.term.now (Err c.in-Err.fault)) c.new-course.ensures c.in-Err.ensures.fault
