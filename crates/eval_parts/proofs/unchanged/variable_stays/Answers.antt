use Rattle.std.proofs.Common.{Bool, Ok, subst, sym}
use Rattle.eval_meanings.specs.Evaluates.{Evaluates}
use Rattle.eval_meanings.specs.Unchanged.{StaysSame}
use Rattle.eval_parts.specs.Following.{variable_at}
use Rattle.eval_parts.specs.Scenes.{context, table}
use Rattle.eval_parts.proofs.FollowingLemmas.{reads_known, stays_known}
use Rattle.eval_parts.proofs.unchanged.variable_stays.Goals as goal

pub known-requires : goal.known-requires
known-requires c = (reads_known (table c.args.scene) c.args.depth (context c.args.scene) c.args.at c.args.number.0 c.if-depth-lt2.false c.requires).0

pub returns : goal.returns
returns c =
    let x = variable_at c.args.at c.args.number.0 in
    subst (λ (b : Bool). StaysSame (Evaluates (table c.args.scene) c.args.depth) (context c.args.scene) c.args.at x (Ok b)) (sym c.eq.ensures)
    (stays_known (table c.args.scene) c.args.depth (context c.args.scene) c.args.at c.args.number.0 c.known.result.now c.known-2.result.now c.if-depth-lt2.false c.known.ensures c.known-2.ensures)
