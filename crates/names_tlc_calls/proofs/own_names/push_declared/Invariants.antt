use Rattle.std.proofs.Common.{◌≡◌, ◌++◌, drop}
use Rattle.names_program.specs.Names.{names_declared}
use Rattle.names_tlc_calls.proofs.own_names.push_declared.Given as goal

abbrev pub invariant-loop-item : goal.invariant-loop-item
invariant-loop-item l = l.names ++ names_declared (drop l.item-index l.declared) ≡ l.initial.names ++ names_declared l.declared
