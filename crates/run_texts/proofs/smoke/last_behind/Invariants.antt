use Rattle.std.proofs.Common.{◌≡◌, drop}
use Rattle.run_texts.specs.Smoke.{last_behind}
use Rattle.run_texts.proofs.smoke.last_behind.Given as goal

abbrev pub invariant-loop-shown : goal.invariant-loop-shown
invariant-loop-shown l = last_behind l.last (drop l.shown-index l.rest) ≡ last_behind l.first l.rest
