use Rattle.std.proofs.Common.{◌≡◌, ◌-◌, ◌≤◌, length}
use Rattle.eval_meanings.specs.Unchanged.{behind}
use Rattle.eval_parts.specs.Scenes.{context, table}
use Rattle.eval_parts.proofs.unchanged.behind.Given as goal

abbrev pub invariant-loop : goal.invariant-loop
invariant-loop l = record {
  found : behind (table l.fn.scene) (length (table l.fn.scene) - l.counter) l.kept l.found ≡ behind (table l.fn.scene) (length (table l.fn.scene)) (length (context l.fn.scene).slots) l.fn.term;
  kept : l.kept ≤ length (context l.fn.scene).slots;
}
