use Rattle.std.proofs.Common.{◌≡◌, List, subst, ap, arith, true, false}
use Rattle.std.specs.Prelude.{All}
use Rattle.std.proofs.lemmas.List.{take_all}
use Rattle.std.proofs.lemmas.List.Elements.{All-more}
use Rattle.states_core.specs.declared.var_id.VarId.{VarId}
use Rattle.logs_updates.specs.declared.update.See.{See}
use Rattle.eval_parts.proofs.Loops.{cut_at}
use Rattle.steps_walk.proofs.Loops.{apart}
use Rattle.steps_why_not.specs.Lines.{StandsIn}
use Rattle.steps_why_not.proofs.Seeing.{first_unseen}
use Rattle.steps_why_not.proofs.Updated.{true_false}
use Rattle.steps_why_not.proofs.reasons.unseen.Goals as goal

pub returns-then-not-stands_in : goal.returns-then-not-stands_in
returns-then-not-stands_in c =
    let sees = c.args.sees.now in
    let i = c.loop-see.see-index in
    let see = c.see-item.result in
    let no : c.stands_in.result ≡ false = grind arith in
    first_unseen sees c.args.places.now i see c.variable.result.0 (apart sees i see (cut_at sees i see c.loop-see-test.true c.see-item.is)) c.loop-see.invariant (ap (λ (v : VarId). v.0) c.variable.ensures)
    (λ h. true_false c.stands_in.result (c.stands_in.ensures.1 h) no)

pub loop-see-preserved : goal.loop-see-preserved
loop-see-preserved c =
    let q = c.args.places.now in
    let yes : c.stands_in.result ≡ true = grind arith in
    All-more (StandsIn q) c.args.sees.now c.loop-see.see-index c.see-item.result c.loop-see-test.true c.loop-see.invariant (subst (λ (z : See). StandsIn q z) c.see-item.is (c.stands_in.ensures.0 yes))

pub unreachable-requires : goal.unreachable-requires
unreachable-requires c = c.requires (subst (λ (us : List See). All (StandsIn c.args.places.now) us) (take_all c.loop-see.see-index c.args.sees.now c.loop-see-test.false) c.loop-see.invariant)
