use Rattle.std.proofs.Common.{◌≡◌, ◌++◌, drop}
use Rattle.names_tlc_calls.specs.Programs.{operator_names}
use Rattle.names_tlc_calls.proofs.own_names.push_operators.Given as goal

abbrev pub invariant-loop-operator : goal.invariant-loop-operator
invariant-loop-operator l = l.names ++ operator_names (drop l.operator-index l.operators) ≡ l.initial.names ++ operator_names l.operators
