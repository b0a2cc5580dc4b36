-- proofs/laws/strict_laws/Answers.antt
use Rattle.reading_laws.proofs.Refused.{strict_is_reading}
use Rattle.reading_laws.proofs.one_reading_laws.strict_laws.Goals as goal

pub returns : goal.returns
returns c =
    strict_is_reading c.one_outcome.ensures.one c.laws_of_laid.ensures.one c.laws_of_laid.ensures.never c.one_module.ensures
    c.shallow_not_refused.ensures
