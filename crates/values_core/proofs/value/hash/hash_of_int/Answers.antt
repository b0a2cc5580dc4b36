use Rattle.std.proofs.Common.{rules, arith, to_z-of_z}
use Rattle.std.specs.Int.{w64}
use Rattle.std.specs.Prelude.{FitsSigned}
use Rattle.values_core.proofs.value.hash.hash_of_int.Goals as goal

pub returns : goal.returns
returns c =
    let fits : FitsSigned w64 c.args.n = search rules in
    grind (arith, to_z-of_z)
