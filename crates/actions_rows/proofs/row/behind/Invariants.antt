use Rattle.std.proofs.Common.{◌≡◌, ◌-◌, ◌≤◌, length}
use Rattle.eval_meanings.specs.Unchanged.{behind}
use Rattle.actions_rows.proofs.row.behind.Given as goal

abbrev pub invariant-loop : goal.invariant-loop
invariant-loop l = record {
  found : behind l.operators (length l.operators - l.counter) l.kept l.found ≡ behind l.operators (length l.operators) l.slots l.fn.term;
  kept : l.kept ≤ l.slots;
}
