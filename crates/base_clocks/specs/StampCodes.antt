-- For the prover: clocks of nodes, told apart as data of numbers.
use Rattle.std.specs.Prelude.{ℕ, List, refl}
use Rattle.std.specs.Coded.{Coded, code_by, coded×, coded_ℕ, coded_list}
use Rattle.base_clocks.specs.declared.stamp.Stamp.{Stamp}

abbrev stamp_code : Coded Stamp
stamp_code = code_by (List ℕ × ℕ) (coded× (coded_list coded_ℕ) coded_ℕ) (λ s. (s.node, s.number)) (λ c. record { node = c.0; number = c.1 }) (λ _. refl)

abbrev pub stamps_code : Coded (List Stamp)
stamps_code = coded_list stamp_code
