-- For the prover: the weights of the first bodies of a table.
use Rattle.std.specs.Prelude.{◌+◌, ℕ, zero, suc, [], ◌∷◌}
use Rattle.names_term_parts.specs.Weights.{weight}
use Rattle.eval_meanings.specs.Contexts.{Table}

abbrev pub weights : Table → ℕ → ℕ
weights [] n = 0
weights (o ∷ ops) zero = 0
weights (o ∷ ops) (suc n) = weight o.body + weights ops n
