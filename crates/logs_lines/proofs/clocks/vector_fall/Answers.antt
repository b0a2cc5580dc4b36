use Rattle.logs_lines.specs.declared.kind.LogKind.TheVariants as kind
use Rattle.logs_lines.proofs.clocks.vector_fall.Goals as goal

pub returns-in_ok-name-in-Some : goal.returns-in_ok-name-in-Some
returns-in_ok-name-in-Some c =
    (c.in-Some.node.now, c.in-Some.ensures, λ i. kind.VectorBack (c.in_ok-name-in-Some.ensures i) (c.number.ensures i) (c.number-in-Some.ensures i))
