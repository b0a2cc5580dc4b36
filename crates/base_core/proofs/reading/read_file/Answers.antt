use Rattle.std.proofs.Common.{arith}
use Rattle.std.proofs.lemmas.Grind.{common_steps}
use Rattle.base_core.proofs.reading.read_file.Goals as goal

pub loop-count-preserved : goal.loop-count-preserved
loop-count-preserved g c = record {
  read = grind (arith, common_steps);
  same = grind (arith, common_steps);
  within = grind (arith, common_steps);
  later = grind (arith, common_steps);
  asked = grind (arith, common_steps);
  quiet = grind (arith, common_steps);
}
