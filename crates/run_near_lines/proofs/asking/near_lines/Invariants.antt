use Rattle.std.proofs.Common.{take, []}
use Rattle.std.specs.Prelude.{All}
use Rattle.run_texts.specs.Answers.{named}
use Rattle.run_near_lines.specs.Adding.{Adds, OneSays}
use Rattle.run_near_lines.specs.Repairs.{AreReached}
use Rattle.run_near_lines.specs.Tells.{IsNearLine}
use Rattle.run_near_lines.proofs.asking.near_lines.Given as goal

abbrev pub invariant-loop-entry : goal.invariant-loop-entry
invariant-loop-entry l = record {
  keeps : Adds l.room (OneSays (IsNearLine l.spec l.line (named l.fn.labels)) (take l.entry-index l.entries)) [] l.texts.keys;
  reached : All (AreReached l.spec l.line) (take l.entry-index l.entries);
}
