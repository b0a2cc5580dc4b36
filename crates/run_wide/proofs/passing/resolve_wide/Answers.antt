use Rattle.std.proofs.Common.{◌∙◌, sym}
use Rattle.std.specs.Prelude.{option_map}
use Rattle.std.specs.Borrow.{Bor}
use Rattle.base_core.specs.declared.text.Text.{Text}
use Rattle.run_wide.proofs.AnswerLemmas.{is_nothing, whole_accepted}
use Rattle.run_wide.proofs.passing.resolve_wide.Goals as goal

pub returns-in-Ok-clause-accepted : goal.returns-in-Ok-clause-accepted
returns-in-Ok-clause-accepted c =
    let unread = c.args.unread.now in
    whole_accepted c.args.program c.args.config (option_map (λ (n : Bor Text). n.now) c.args.silent) unread (is_nothing unread (sym c.is_empty.ensures ∙ c.if-not-is_empty.false)) c.in-Ok.resolution
    c.in-Ok.ensures.accepted
