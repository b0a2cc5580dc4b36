-- For the prover: values and paths, told apart as data of numbers.
use Rattle.std.specs.Prelude.{ℕ, List, refl}
use Rattle.std.specs.Coded.{Coded, code_by, coded×, coded_ℕ, coded_list}
use Rattle.values_core.specs.Data.{Val}
use Rattle.values_core.specs.Tree.{val_code}
use Rattle.logs_updates.specs.Paths.{KeyPath}

abbrev pub values_code : Coded (List Val)
values_code = coded_list val_code

abbrev pub path_code : Coded KeyPath
path_code = code_by (ℕ × List Val) (coded× coded_ℕ values_code) (λ p. (p.variable.0, p.keys)) (λ c. record { variable = record { 0 = c.0 }; keys = c.1 }) (λ _. refl)
