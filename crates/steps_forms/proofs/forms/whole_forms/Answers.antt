use Rattle.steps_forms.proofs.Telling.{init_wrong, next_wrong, silent_last}
use Rattle.steps_forms.proofs.forms.whole_forms.Goals as goal

pub returns-in-Ok-whole_form : goal.returns-in-Ok-whole_form
returns-in-Ok-whole_form c = silent_last c.args.spec.now c.silent_form.result c.in-Ok.ensures c.in-Ok-whole_form.ensures c.silent_form.ensures

pub returns-in-Err-whole_form : goal.returns-in-Err-whole_form
returns-in-Err-whole_form c = next_wrong c.args.spec.now c.in-Err-whole_form.fault c.in-Ok.ensures c.in-Err-whole_form.ensures

pub returns-in-Err : goal.returns-in-Err
returns-in-Err c = init_wrong c.args.spec.now c.in-Err.fault c.in-Err.ensures
