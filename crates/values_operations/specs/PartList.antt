-- The sets of which functions have their values, for helpers of the large sets.
use Rattle.std.specs.Prelude.{List, replicate}
use Rattle.values_core.specs.Data.{Val}
use Rattle.values_operations.specs.declared.products.Parts.{Parts}
use Rattle.values_operations.specs.declared.products.Parts.TheVariants.{Same, Each}

-- the set that is beside each key
abbrev pub part_list : Parts → List Val
part_list (Same p n) = replicate n p.now
part_list (Each ps) = ps.now
