-- What UNCHANGED is told of: a variable, a tuple, or anything else.
use Rattle.std.specs.Prelude.{◌≡◌}
use Rattle.names_terms.specs.Terms as term
use Rattle.names_terms.specs.Terms.{Meaning}
use Rattle.actions_early_reads.specs.declared.kinds.Shape.{Shape}
use Rattle.actions_early_reads.specs.declared.kinds.Shape.TheVariants as shape

abbrev pub IsOther : Meaning → Type 0
IsOther (term.Variable x) = ⊥
IsOther (term.Tuple ts) = ⊥
IsOther m = Unit {0}

abbrev pub IsShape : Meaning → Shape → Type 0
IsShape m (shape.Variable x) = m ≡ term.Variable x
IsShape m (shape.Tuple ts) = m ≡ term.Tuple ts.now
IsShape m shape.Other = IsOther m
