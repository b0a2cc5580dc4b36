-- For the prover: how lists of definitions are told apart.
use Rattle.std.specs.Prelude.{ℕ, List, refl}
use Rattle.std.specs.Coded.{Coded, code_by, coded×, coded_ℕ, coded_list}
use Rattle.names_terms.specs.Terms.{Term}
use Rattle.names_terms.specs.PartCodes.{level_code, own_code}
use Rattle.names_terms.specs.TermCodes.{term_code}
use Rattle.names_terms.specs.declared.level.Level.{Level}
use Rattle.names_terms.specs.declared.operator.Operator.{Operator}
use Rattle.names_terms.specs.declared.operator.Own.{Own}

abbrev pub operator_code : Coded Operator
operator_code = code_by ((List ℕ × (ℕ × ℕ)) × ((Level × Own) × Term)) (coded× (coded× (coded_list coded_ℕ) (coded× coded_ℕ coded_ℕ)) (coded× (coded× level_code own_code) term_code)) (λ o. ((o.name, (o.outer, o.params)), ((o.level, o.own), o.body))) (λ p. record { name = p.0.0; outer = p.0.1.0; params = p.0.1.1; level = p.1.0.0; own = p.1.0.1; body = p.1.1 }) (λ _. refl)

abbrev pub operators_code : Coded (List Operator)
operators_code = coded_list operator_code
