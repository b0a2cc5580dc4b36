use Rattle.std.proofs.Common.{refl}
use Rattle.std.proofs.lemmas.List.Sorted.{IsPermutation-refl}
use Rattle.values_core.proofs.FunctionLemmas.{key_twice_before}
use Rattle.values_core.proofs.value.making.by_key.Goals as goal
