-- proofs/laws/no_refusal_laws/Answers.antt
use Rattle.reading_laws.proofs.Beside.{flattening_may_stop, loading_may_stop, no_configuration_refused, nothing_repeats}
use Rattle.reading_laws.proofs.one_reading_laws.no_refusal_laws.Goals as goal

pub returns-clause-flattening : goal.returns-clause-flattening
returns-clause-flattening c = flattening_may_stop c.strict_laws.ensures

pub returns-clause-repeats : goal.returns-clause-repeats
returns-clause-repeats c = nothing_repeats c.strict_laws.ensures

pub returns-clause-loading : goal.returns-clause-loading
returns-clause-loading c = loading_may_stop c.strict_laws.ensures

pub returns-clause-configuration : goal.returns-clause-configuration
returns-clause-configuration c = no_configuration_refused c.one_configuration_by.ensures.one
