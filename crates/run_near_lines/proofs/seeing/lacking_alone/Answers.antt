use Rattle.std.proofs.Common.{◌≡◌, ◌+◌, List, Some, ap, arith, drop, false, option_map, subst, sym, take, true, ◌∙◌}
use Rattle.std.proofs.lemmas.List.{take_all}
use Rattle.logs_updates.specs.declared.update.See.{See}
use Rattle.eval_parts.proofs.Loops.{cut_at}
use Rattle.steps_walk.proofs.Loops.{apart}
use Rattle.steps_why_not.specs.Lines.{StandsIn}
use Rattle.steps_why_not.proofs.Updated.{true_false}
use Rattle.run_near_lines.proofs.LackingOnes.{LacksSoFar, first_lacks, lacks_done, more_stands, none_is, second_lacks, some_not}
use Rattle.run_near_lines.proofs.seeing.lacking_alone.Goals as goal
use Rattle.run_near_lines.proofs.seeing.lacking_alone.Goals.{then-not-stands_in+else-is_some, else-not-stands_in}

pub returns-then-is_some : goal.returns-then-is_some
returns-then-is_some c =
    let sees = c.args.sees.now in
    let q = c.args.places.now in
    let i = c.loop-see.see-index in
    let x = c.see-item.result in
    let no : c.stands_in.result ≡ false = grind arith in
    let some = some_not c.loop-see.lacking (sym c.is_some.ensures ∙ c.if-is_some.true) in
    second_lacks q sees (take i sees) (drop (i + 1) sees) x (option_map (λ v. v.now) c.loop-see.lacking) (apart sees i x (cut_at sees i x c.loop-see-test.true c.see-item.is)).whole c.loop-see.invariant some
    (λ h. true_false c.stands_in.result (c.stands_in.ensures.1 h) no)

pub loop-see-preserved : goal.loop-see-preserved
loop-see-preserved c =
    let sees = c.args.sees.now in
    let q = c.args.places.now in
    let i = c.loop-see.see-index in
    let x = c.see-item.result in
    let o = option_map (λ v. v.now) c.loop-see.lacking in
    let cut = apart sees i x (cut_at sees i x c.loop-see-test.true c.see-item.is) in
    elim c.if-not-stands_in.branch [
      | then-not-stands_in+else-is_some w ↦
          let no : c.stands_in.result ≡ false = grind arith in
          rw w.lacking-is (subst (λ (us : List See). LacksSoFar us q (Some x)) (sym cut.more)
          (first_lacks q (take i sees) x o c.loop-see.invariant (none_is c.loop-see.lacking (sym w.is_some.ensures ∙ w.if-is_some.false)) (λ h. true_false c.stands_in.result (c.stands_in.ensures.1 h) no)))
      | else-not-stands_in w ↦
          let yes : c.stands_in.result ≡ true = grind arith in
          rw w.lacking-is (subst (λ (us : List See). LacksSoFar us q o) (sym cut.more) (more_stands q (take i sees) x o c.loop-see.invariant (c.stands_in.ensures.0 yes)))
    ]

pub returns : goal.returns
returns c =
    let sees = c.args.sees.now in
    let q = c.args.places.now in
    lacks_done sees q c.loop-see.lacking (subst (λ (us : List See). LacksSoFar us q (option_map (λ v. v.now) c.loop-see.lacking)) (take_all c.loop-see.see-index sees c.loop-see-test.false) c.loop-see.invariant)
