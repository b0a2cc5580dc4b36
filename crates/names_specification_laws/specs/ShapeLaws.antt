-- Init and Next, as the operator of SPECIFICATION gives them, are in order where that operator is.
use Rattle.std.specs.Prelude.{ℕ, List}
use Rattle.names_terms.specs.declared.level.Level.TheVariants.{State, Action}
use Rattle.names_terms.specs.declared.operator.Operator.{Operator}
use Rattle.names_terms.specs.Terms.{Term}
use Rattle.names_term_parts.specs.Slots.{Mentions}
use Rattle.names_term_levels.specs.Shape.{HasShape}
use Rattle.names_specification_laws.specs.IsSpec.{IsTerm, IsAtMost}

-- they are terms in order, of the levels that they may have
abbrev pub ShapesAreInOrder : Type 0
ShapesAreInOrder =
    (variables : ℕ) (ops : List Operator) (n : ℕ) (body init next : Term) → HasShape ops body init next → IsTerm variables ops n body → IsTerm variables ops n init × IsAtMost State init × IsTerm variables ops n next × IsAtMost Action next

-- they mention nothing that the operator does not
abbrev pub ShapesMention : Type 0
ShapesMention =
    (ops : List Operator) (body init next : Term) → HasShape ops body init next → (k : ℕ) → (Mentions init k → Mentions body k) × (Mentions next k → Mentions body k)
