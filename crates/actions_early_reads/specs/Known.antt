-- What is known of the bodies of definitions that were walked for early reads, where one set is fixed.
use Rattle.std.specs.Prelude.{◌≡◌, ℕ, Option, Some, nat_eq}
use Rattle.std.specs.HashMap.{get}
use Rattle.actions_meanings.specs.declared.fault.FormFault.{FormFault}
use Rattle.actions_meanings.specs.Reads.{VariableSet}
use Rattle.actions_early_reads.specs.declared.bodies.Bodies.{Bodies}
use Rattle.actions_early_reads.specs.declared.walking.Walk.{Walk}
use Rattle.actions_early_reads.specs.Opened.{TellsBody}

pub record AreKnown (w : Walk) (B : VariableSet) (known : Bodies) : Type 0 where
  pub each : (i : ℕ) (o : Option FormFault) → get nat_eq known.found i ≡ Some o → (bound : ℕ) → TellsBody w bound B i o
