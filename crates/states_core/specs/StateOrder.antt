-- States compared as lists of values: equal where they are one list, and else ordered by the first value that differs, or,
-- where there is none, the shorter first.
use Rattle.std.specs.Prelude.{◌≡◌, Bool, List, Some, IsTrue, Decides, refl}
use Rattle.std.specs.declared.cmp.Ordering.{Ordering}
use Rattle.std.specs.Cmp.{IsTotalOrder}
use Rattle.std.specs.Cmp.Lexicographic.{pointwise, pointwise_decides, slice_cmp}
use Rattle.std.proofs.Common.{subst}
use Rattle.std.specs.Hash as fed
use Rattle.std.specs.Hash.{HashWrites}
use Rattle.values_core.specs.Data.{Val}
use Rattle.values_core.specs.Order.{val_cmp, val_eq}
use Rattle.values_core.specs.OrderLaws.{val_eq_equiv, val_same}
use Rattle.states_core.specs.StateHash.{state_hash}
use Rattle.states_core.specs.States.{Values}

-- The states are equal: as long, and equal value by value.
abbrev pub state_eq : Values → Values → Bool
state_eq = pointwise val_eq

-- The order of states.
abbrev pub state_cmp : Values → Values → Ordering
state_cmp = slice_cmp val_cmp

-- What a state feeds to a hasher: the hash that it keeps.
abbrev pub state_input : Values → HashWrites
state_input s = fed.u64 (state_hash s)

values_decide : (a b : Val) → Decides (val_eq a b) (a ≡ b)
values_decide a b = (val_same a b, λ e. subst (λ (v : Val). IsTrue (val_eq a v)) e (val_eq_equiv.refl a))

-- Equal states are one state, and a state is equal to itself.
pub state_decides : (s t : Values) → Decides (state_eq s t) (s ≡ t)
state_decides = pointwise_decides values_decide
