-- The first of several operands that is no set.
use Rattle.std.specs.Prelude.{ℕ, suc, List, [], ◌∷◌, Option, Some, None}
use Rattle.values_core.specs.Data.{Val, set}
use Rattle.values_core.specs.declared.fault.EvalKind.TheVariants.{NotSet}
use Rattle.values_core.specs.declared.fault.OpFault.{OpFault}
use Rattle.values_core.specs.declared.fault.OpFault.TheVariants.{Refused}

-- what the first that is no set is refused for, where the operands are numbered from n
abbrev pub no_set_from : ℕ → List Val → Option OpFault
no_set_from n [] = None
no_set_from n (set vs ∷ ps) = no_set_from (suc n) ps
no_set_from n (p ∷ ps) = Some (Refused NotSet n)
