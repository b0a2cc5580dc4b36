use Rattle.std.proofs.Common.{map, drop}
use Rattle.std.specs.Prelude.{option_copied}
use Rattle.names_terms.specs.TermViews.{arm_item}
use Rattle.eval_meanings.specs.Evaluates.{Evaluates}
use Rattle.eval_meanings.specs.Unchanged.{TruthOf}
use Rattle.eval_meanings.specs.Reads.{Reads, ReadsEach}
use Rattle.eval_parts.specs.Scenes.{context, table}
use Rattle.actions_rows.proofs.ArmLemmas.{ChosenSoFar}
use Rattle.actions_rows.proofs.arms.chosen_arm.Given as goal

abbrev pub invariant-loop-arm : goal.invariant-loop-arm
invariant-loop-arm l =
    ChosenSoFar (TruthOf (Evaluates (table l.scene) l.depth) (context l.scene)) l.at (option_copied l.other) (map arm_item l.arm-items) l.arm-index
    × ReadsEach (Reads (table l.scene) l.depth) (context l.scene) (map (λ q. q.0) (drop l.arm-index (map arm_item l.arm-items)))
