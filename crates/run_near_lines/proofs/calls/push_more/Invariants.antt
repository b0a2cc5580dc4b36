use Rattle.std.proofs.Common.{◌≡◌, ◌++◌, drop, string_bytes}
use Rattle.run_near_lines.specs.Texts.{more_arguments}
use Rattle.run_near_lines.proofs.calls.push_more.Given as goal

abbrev pub invariant-loop-value : goal.invariant-loop-value
invariant-loop-value l = string_bytes l.text ++ more_arguments (drop l.value-index l.values) ≡ string_bytes l.initial.text ++ more_arguments l.values
