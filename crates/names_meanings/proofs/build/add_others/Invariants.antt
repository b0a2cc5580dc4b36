use Rattle.std.proofs.Common.{◌≡◌}
use Rattle.names_terms.specs.Terms.{Operands}
use Rattle.names_terms.specs.TermViews.{operands_from}
use Rattle.names_meanings.specs.Means.{operands_list}
use Rattle.names_meanings.proofs.build.add_others.Given as goal

abbrev pub invariant-loop-operand : goal.invariant-loop-operand
invariant-loop-operand l =
    (so_far : Operands) → l.initial.terms ≡ operands_list so_far → l.terms ≡ operands_list (operands_from so_far l.yielded)
