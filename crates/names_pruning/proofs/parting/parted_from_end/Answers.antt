use Rattle.std.proofs.Common.{◌∙◌, ◌++◌, ap}
use Rattle.names_pruning.specs.Parts.{gone_of, left_of}
use Rattle.names_pruning.proofs.Ends.{if_left, if_over, one_taken_left, one_taken_over}
use Rattle.names_pruning.proofs.parting.parted_from_end.Goals as goal

pub loop-unit-preserved : goal.loop-unit-preserved
loop-unit-preserved c =
    let flags = c.args.flags.now in
    let unit = c.in-Some.unit in
    let parts = c.loop-unit.parts in
    record {
      left = one_taken_left flags c.loop-unit.units c.pop.new.self unit c.len.result parts.left c.put.new.parts.left (left_of flags c.args.units) c.in-Some.ensures.taken c.len.ensures
          (c.in_ok-put.ensures.left ∙ ap (λ b. parts.left ++ if_left b unit) c.is_set_at.ensures) c.loop-unit.invariant.left;
      gone = one_taken_over flags c.loop-unit.units c.pop.new.self unit c.len.result parts.gone c.put.new.parts.gone (gone_of flags c.args.units) c.in-Some.ensures.taken c.len.ensures
          (c.in_ok-put.ensures.gone ∙ ap (λ b. parts.gone ++ if_over b unit) c.is_set_at.ensures) c.loop-unit.invariant.gone;
    }
