use Rattle.reading_units.proofs.NewNames.{NewFrom}
use Rattle.reading_units.proofs.instances.is_new.Given as goal

abbrev pub invariant-loop-with : goal.invariant-loop-with
invariant-loop-with l = NewFrom l.withs l.with-index l.name
