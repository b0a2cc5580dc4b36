use Rattle.run_texts.proofs.SpelledLaw.{foreign_spelled}
use Rattle.run_texts.proofs.OrderLaw.{order_ascends}
use Rattle.run_texts.proofs.laws.text_laws.Goals as goal

pub returns-clause-spelled : goal.returns-clause-spelled
returns-clause-spelled c = foreign_spelled

pub returns-clause-ascending : goal.returns-clause-ascending
returns-clause-ascending c = order_ascends
