use Rattle.std.proofs.Common.{sym, Ok, Err}
use Rattle.names_term_parts.proofs.Ordering.{body_within}
use Rattle.steps_forms.proofs.Telling.{silent_says}
use Rattle.steps_forms.proofs.forms.silent_form.Goals as goal

pub fixed-requires-clause-below : goal.fixed-requires-clause-below
fixed-requires-clause-below c = body_within c.args.spec.now.operators c.in-Some.number.0 c.in-Some-get.operator.now c.requires.smaller (sym c.in-Some-get.ensures.item)

pub returns-in-Ok : goal.returns-in-Ok
returns-in-Ok c =
    silent_says c.args.spec.now c.in-Some.number c.in-Some-get.operator.now c.len-variables.result c.none.result (Ok c.in-Ok.field-0) c.in-Some.is (sym c.in-Some-get.ensures.item) c.len-variables.ensures c.none.ensures c.in-Ok.ensures

pub returns-in-Err : goal.returns-in-Err
returns-in-Err c =
    silent_says c.args.spec.now c.in-Some.number c.in-Some-get.operator.now c.len-variables.result c.none.result (Err c.in-Err.fault) c.in-Some.is (sym c.in-Some-get.ensures.item) c.len-variables.ensures c.none.ensures c.in-Err.ensures
