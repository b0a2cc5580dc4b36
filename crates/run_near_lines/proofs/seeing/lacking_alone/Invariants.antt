use Rattle.std.proofs.Common.{option_map, take}
use Rattle.run_near_lines.proofs.LackingOnes.{LacksSoFar}
use Rattle.run_near_lines.proofs.seeing.lacking_alone.Given as goal

abbrev pub invariant-loop-see : goal.invariant-loop-see
invariant-loop-see l = LacksSoFar (take l.see-index l.sees) l.places (option_map (λ v. v.now) l.lacking)
