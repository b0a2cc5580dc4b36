use Rattle.std.proofs.Common.{◌≡◌, List, subst, sym, refl, arith, true, false}
use Rattle.std.specs.Prelude.{All}
use Rattle.std.proofs.lemmas.List.{take_all}
use Rattle.std.proofs.lemmas.List.Elements.{All-more}
use Rattle.logs_updates.specs.declared.update.See.{See}
use Rattle.steps_why_not.specs.Lines.{StandsIn}
use Rattle.steps_why_not.proofs.Updated.{true_false}
use Rattle.run_near_lines.proofs.seeing.all_stand_in.Goals as goal

pub loop-see-preserved : goal.loop-see-preserved
loop-see-preserved c =
    let q = c.args.places.now in
    let yes : c.stands_in.result ≡ true = grind arith in
    All-more (StandsIn q) c.args.sees.now c.loop-see.see-index c.see-item.result c.loop-see-test.true c.loop-see.invariant (subst (λ (z : See). StandsIn q z) c.see-item.is (c.stands_in.ensures.0 yes))

pub returns-then-not-stands_in : goal.returns-then-not-stands_in
returns-then-not-stands_in c =
    let q = c.args.places.now in
    let no : c.stands_in.result ≡ false = grind arith in
    (λ t. absurd (cc), λ all. absurd (true_false c.stands_in.result (c.stands_in.ensures.1 (subst (λ (z : See). StandsIn q z) (sym c.see-item.is) (all c.loop-see.see-index c.see-item.result c.loop-see-test.true))) no))

pub returns : goal.returns
returns c = (λ t. subst (λ (us : List See). All (StandsIn c.args.places.now) us) (take_all c.loop-see.see-index c.args.sees.now c.loop-see-test.false) c.loop-see.invariant, λ all. refl)
