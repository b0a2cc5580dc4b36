-- proofs/twice/repeated_inside/Invariants.antt
use Rattle.std.proofs.Common.{◌≡◌, ◌↔◌, drop, ℕ, List}
use Rattle.reading_modules.specs.declared.fault.LoadWhy.{LoadWhy}
use Rattle.reading_modules.specs.Twice.{AreNewInside, RepeatsInside}
use Rattle.reading_modules.proofs.twice.repeated_inside.Given as goal

abbrev pub invariant-loop-instance : goal.invariant-loop-instance
invariant-loop-instance l = record {
  new : AreNewInside (drop l.instance-index l.instances) → AreNewInside l.instances;
  first : (why : LoadWhy) → RepeatsInside (drop l.instance-index l.instances) why → RepeatsInside l.instances why;
}
