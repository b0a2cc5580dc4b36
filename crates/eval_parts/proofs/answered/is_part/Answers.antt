use Rattle.values_core.specs.Sets.{items_of}
use Rattle.eval_meanings.specs.Binders.{members_at}
use Rattle.eval_meanings.specs.Outcomes.{Then}
use Rattle.eval_meanings.specs.Sets.{IsWithin, set_at}
use Rattle.eval_meanings.proofs.Telling.{tells_then}
use Rattle.names_terms.specs.Terms.{place_of}
use Rattle.eval_parts.proofs.Rows.{members_of}
use Rattle.eval_parts.proofs.answered.is_part.Goals as goal

pub returns-in-Ok : goal.returns-in-Ok
returns-in-Ok c =
    let p = place_of c.args.left.now in
    tells_then (members_at p c.args.value.now) (λ us. Then (set_at (place_of c.args.right.now) c.args.set) (λ e. IsWithin e c.args.value.now)) (items_of c.args.value.now) c.has_part.result (members_of p c.args.value.now c.in-Ok.ensures) c.has_part.ensures
