use Rattle.std.proofs.Common.{take}
use Rattle.steps_filling.specs.Fillings.{SeenIn}
use Rattle.steps_filling.proofs.filling.is_seen.Given as goal

abbrev pub invariant-loop-see : goal.invariant-loop-see
invariant-loop-see l = SeenIn (take l.see-index l.sees) l.number.0 l.value
