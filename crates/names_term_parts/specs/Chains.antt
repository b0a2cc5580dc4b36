-- For the prover: the operands of a chain behind the first.
use Rattle.std.specs.Prelude.{List, [], ◌∷◌, map}
use Rattle.base_core.specs.declared.place.Place.{Place}
use Rattle.names_terms.specs.declared.term.Operand.{Operand}
use Rattle.names_terms.specs.declared.level.Level.{Level}
use Rattle.names_terms.specs.Terms.{level_of}
use Rattle.names_term_parts.specs.Limits.{Limit, limit}

-- the place of the first operator of a chain, and the limits of the operands behind it
abbrev pub first_place : Place → List Operand → Place
first_place at [] = at
first_place at (x ∷ xs) = x.at

abbrev pub other_limits : Level → List Operand → List Limit
other_limits allowed xs = map (λ x. limit x.at allowed (level_of x.value)) xs
