use Rattle.logs_lines.proofs.ValueLemmas.{not_two, no_key, no_content}
use Rattle.logs_lines.proofs.values.read_put.Goals as goal

pub returns-then-contents-ne2 : goal.returns-then-contents-ne2
returns-then-contents-ne2 c = λ op. not_two c.args.contents.now op c.if-contents-ne2.true

pub returns-in_default : goal.returns-in_default
returns-in_default c =
    let none = rw c.in_default.is at c.in_ok-key.ensures in
    no_key c.args.contents.now c.index-contents-0.result c.index-contents-0.is none

pub returns-in-None : goal.returns-in-None
returns-in-None c =
    let none = rw c.in-None.is at c.in_ok-value.ensures in
    no_content c.args.contents.now c.index-contents-1.result c.index-contents-1.is none
