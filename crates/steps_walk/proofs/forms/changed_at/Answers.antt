use Rattle.std.proofs.Common.{map}
use Rattle.values_core.specs.Data.{Val}
use Rattle.eval_meanings.specs.Answers.{Tells}
use Rattle.eval_meanings.specs.Evaluates.{Evaluates}
use Rattle.eval_meanings.specs.Unchanged.{TruthOf, changed_of}
use Rattle.eval_meanings.specs.Reads.{Reads}
use Rattle.steps_walk.proofs.Taken.{in_scene, on_stage}
use Rattle.steps_walk.proofs.forms.changed_at.Goals as goal
use denote.Ref.{Bor}

abbrev value : Bor Val → Val
value x = x.now

pub changed_truth-requires : goal.changed_truth-requires
changed_truth-requires c =
    let a = changed_of c.args.at c.args.term.now in
    in_scene c.args.course.now.stage (map value c.args.slots.now) c.args.places.now c.scene_at.result (λ ops x. Reads ops c.args.depth x a) c.scene_at.ensures.table c.scene_at.ensures.context c.requires

pub returns : goal.returns
returns c =
    let a = changed_of c.args.at c.args.term.now in
    on_stage c.args.course.now.stage (map value c.args.slots.now) c.args.places.now c.scene_at.result (λ ops x. Tells c.changed_truth.result (TruthOf (Evaluates ops c.args.depth) x a)) c.scene_at.ensures.table c.scene_at.ensures.context c.changed_truth.ensures
