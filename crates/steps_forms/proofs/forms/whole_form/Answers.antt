use Rattle.std.proofs.Common.{Ok, Err}
use Rattle.steps_forms.proofs.Telling.{whole_says}
use Rattle.steps_forms.proofs.forms.whole_form.Goals as goal

pub returns-in-Ok : goal.returns-in-Ok
returns-in-Ok c = whole_says c.args.which c.args.spec.now c.args.term.now c.len-variables.result c.none.result (Ok c.in-Ok.field-0) c.len-variables.ensures c.none.ensures c.in-Ok.ensures

pub returns-in-Err : goal.returns-in-Err
returns-in-Err c = whole_says c.args.which c.args.spec.now c.args.term.now c.len-variables.result c.none.result (Err c.in-Err.fault) c.len-variables.ensures c.none.ensures c.in-Err.ensures
