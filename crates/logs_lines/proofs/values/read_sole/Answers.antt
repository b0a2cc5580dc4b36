use Rattle.logs_lines.proofs.ValueLemmas.{not_sole}
use Rattle.logs_lines.proofs.values.read_sole.Goals as goal

pub returns-then-contents-ne1 : goal.returns-then-contents-ne1
returns-then-contents-ne1 c = λ v. not_sole c.args.contents.now v c.if-contents-ne1.true
