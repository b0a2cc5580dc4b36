use Rattle.reading_open_rows.proofs.JoinedChains.{first_operator}
use Rattle.reading_open_rows.proofs.joining.first_place.Goals as goal

pub returns-in-Some : goal.returns-in-Some
returns-in-Some c = first_operator c.args.operands.now c.args.at c.parts.result.0.now c.parts.result.1.now c.in-Some.operand.now c.parts.ensures c.in-Some.ensures.value
