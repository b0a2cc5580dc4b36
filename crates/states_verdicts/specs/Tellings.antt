-- What is told of a condition by an evaluation that looks for faults everywhere: it holds or fails, and there is no fault; or there is this one.
use Rattle.states_verdicts.specs.Cleans.{IsQuiet}
use Rattle.states_verdicts.specs.declared.pairs.Told.{Told}
use Rattle.states_verdicts.specs.declared.pairs.Told.TheVariants.{Holds, Fails, Faults}
use Rattle.states_core.specs.declared.fault.Fault.{Fault}

abbrev pub Tells : Type 0 → (Fault → Type 0) → Told → Type 0
Tells P Bad Holds = P × IsQuiet Bad
Tells P Bad Fails = (P → ⊥) × IsQuiet Bad
Tells P Bad (Faults f) = Bad f
