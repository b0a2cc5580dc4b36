-- For the prover: entries told apart as data of numbers and values, and compared.
use Rattle.std.specs.Prelude.{◌≡◌, ◌++◌, ◌&&◌, ℕ, Bool, true, false, List, IsTrue, refl}
use Rattle.std.specs.Coded.{Coded, code_by, coded×, coded_list, coded_ℕ}
use Rattle.std.specs.Hash.{HashWrites}
use Rattle.std.proofs.Common.{sym, true≢false}
use Rattle.states_core.specs.StateCodes.{values_code}
use Rattle.states_core.specs.StateOrder.{state_decides, state_eq, state_input}
use Rattle.states_core.specs.States.{Values}
use Rattle.base_cuts.specs.CutOrder.{cut_decides, cut_eq, cut_input}
use Rattle.steps_tied.specs.Tied.{CutState}

abbrev pub entry_code : Coded CutState
entry_code = code_by (List ℕ × Values) (coded× (coded_list coded_ℕ) values_code) (λ e. (e.cut, e.state)) (λ p. record { cut = p.0; state = p.1 }) (λ _. refl)

-- what an entry feeds to a hasher
abbrev pub entry_input : CutState → HashWrites
entry_input e = cut_input e.cut ++ state_input e.state

both : (e f : CutState) (b c : Bool) → cut_eq e.cut f.cut ≡ b → state_eq e.state f.state ≡ c → (b && c) ≡ true → e ≡ f
both e f true true p q h = λ i. record { cut = (cut_decides e.cut f.cut).0 p i; state = (state_decides e.state f.state).0 q i }
both e f true false p q h = absurd (true≢false (sym h))
both e f false c p q h = absurd (true≢false (sym h))

-- entries that are compared equal are one
pub entry_same : (e f : CutState) → IsTrue (cut_eq e.cut f.cut && state_eq e.state f.state) → e ≡ f
entry_same e f h = both e f (cut_eq e.cut f.cut) (state_eq e.state f.state) refl refl h
