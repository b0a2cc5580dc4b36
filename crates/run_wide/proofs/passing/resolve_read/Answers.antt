use Rattle.std.specs.Prelude.{option_map}
use Rattle.std.specs.Borrow.{Bor}
use Rattle.base_core.specs.declared.text.Text.{Text}
use Rattle.run_wide.proofs.AnswerLemmas.{strictly_accepted, strictly_refused}
use Rattle.run_wide.proofs.passing.resolve_read.Goals as goal

pub returns-clause-accepted : goal.returns-clause-accepted
returns-clause-accepted c =
    strictly_accepted c.args.program c.args.config (option_map (λ (n : Bor Text). n.now) c.args.silent) c.args.unread.now c.args.wide c.if-wide.false c.as_it_stands.result
    c.as_it_stands.ensures.accepted

pub returns-clause-refused : goal.returns-clause-refused
returns-clause-refused c =
    strictly_refused c.args.program c.args.config (option_map (λ (n : Bor Text). n.now) c.args.silent) c.args.unread.now c.args.wide c.if-wide.false c.as_it_stands.result
    c.as_it_stands.ensures.refused
