use Rattle.std.proofs.Common.{◌∙◌, ap, sym}
use Rattle.actions_meanings.specs.Outcomes.{too_early}
use Rattle.actions_forms.proofs.Telling.{lets-along}
use Rattle.actions_forms.proofs.checks.unless_primed.Goals as goal

pub returns-in-Ok : goal.returns-in-Ok
returns-in-Ok c bound k walked = lets-along c.stopped.result c.too_early.result _ (ap (too_early c.args.at) (c.in-Ok.ensures bound k walked tt) ∙ sym c.too_early.ensures) c.stopped.ensures
