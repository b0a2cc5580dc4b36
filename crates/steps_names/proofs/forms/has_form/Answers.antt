use Rattle.actions_early_reads.specs.Sets.{shown}
use Rattle.steps_names.proofs.FormLemmas.{has_one}
use Rattle.steps_names.proofs.forms.has_form.Goals as goal

pub returns-in-Ok : goal.returns-in-Ok
returns-in-Ok c = has_one c.args.walk.now c.args.bound c.args.body.now (shown c.args.before) c.in-Ok.field-0 c.form_laws.ensures.some c.requires c.in-Ok.ensures
