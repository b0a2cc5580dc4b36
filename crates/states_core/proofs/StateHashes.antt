-- States with two hashes are two states.
use Rattle.std.proofs.Common.{◌≡◌, Bool, true, false, ℕ, refl, sym, ap, ◌∙◌}
use Rattle.states_core.specs.StateHash.{state_hash}
use Rattle.states_core.specs.StateOrder.{state_decides, state_eq}
use Rattle.states_core.specs.States.{Values}

pub unlike : (s t : Values) (m n : ℕ) → m ≡ state_hash s → n ≡ state_hash t → (m ≡ n → ⊥) → state_eq s t ≡ false
unlike s t m n a b other = by (state_eq s t) refl
  where
    by : (r : Bool) → state_eq s t ≡ r → r ≡ false
    by true e = absurd (other (a ∙ ap state_hash ((state_decides s t).0 e) ∙ sym b))
    by false e = refl
