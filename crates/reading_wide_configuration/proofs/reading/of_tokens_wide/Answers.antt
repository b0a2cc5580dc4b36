use Rattle.std.proofs.Common.{◌∙◌, ap, Err}
use Rattle.reading_configuration.specs.declared.fault.ConfigFault.{ConfigFault}
use Rattle.reading_wide_configuration.specs.Wide.{as_they_stand}
use Rattle.reading_wide_configuration.proofs.Outcomes.{answered_remaining, refused_as}
use Rattle.reading_wide_configuration.proofs.reading.of_tokens_wide.Goals as goal

pub returns-in-Ok : goal.returns-in-Ok
returns-in-Ok c = as_they_stand c.in-Ok.config c.in-Ok.ensures

pub returns-in-Err-Refused : goal.returns-in-Err-Refused
returns-in-Err-Refused c =
    let why = c.in-Err-Refused in
    answered_remaining c.args.name.now c.args.tokens.now (why.field-0-0, why.field-0-1) c.of_remaining.result
    (refused_as c.args.name.now c.args.tokens.now c.of_tokens.result why.field-0-0 why.field-0-1 (why.is ∙ ap (λ (f : ConfigFault). Err f) why.field-0-is) c.of_tokens.ensures)
    c.of_remaining.ensures
