use Rattle.reading_laws.proofs.Refused.{spelled_never}
use Rattle.reading_laws.proofs.Spelling.{spelled_same}
use Rattle.reading_wide_modules.proofs.Programs.{nothing_repeats_wide, one_wide_loading, one_wide_program, wide_flattening_may_stop, wide_is_reading, wide_loading_may_stop}
use Rattle.reading_wide_modules.proofs.laws.wide_program_laws.Goals as goal

pub returns-clause-reading : goal.returns-clause-reading
returns-clause-reading c = wide_is_reading c.wide_laws.ensures.one c.wide_laws.ensures.never (spelled_same c.one_outcome.ensures.one c.laws_of_laid.ensures.one c.one_module.ensures)
    (spelled_never c.one_outcome.ensures.one c.laws_of_laid.ensures.one c.laws_of_laid.ensures.never c.shallow_not_refused.ensures)

pub returns-clause-program : goal.returns-clause-program
returns-clause-program c = one_wide_program
    (wide_is_reading c.wide_laws.ensures.one c.wide_laws.ensures.never (spelled_same c.one_outcome.ensures.one c.laws_of_laid.ensures.one c.one_module.ensures)
    (spelled_never c.one_outcome.ensures.one c.laws_of_laid.ensures.one c.laws_of_laid.ensures.never c.shallow_not_refused.ensures))

pub returns-clause-loading : goal.returns-clause-loading
returns-clause-loading c = one_wide_loading
    (wide_is_reading c.wide_laws.ensures.one c.wide_laws.ensures.never (spelled_same c.one_outcome.ensures.one c.laws_of_laid.ensures.one c.one_module.ensures)
    (spelled_never c.one_outcome.ensures.one c.laws_of_laid.ensures.one c.laws_of_laid.ensures.never c.shallow_not_refused.ensures))

pub returns-clause-may_stop : goal.returns-clause-may_stop
returns-clause-may_stop c = wide_loading_may_stop
    (wide_is_reading c.wide_laws.ensures.one c.wide_laws.ensures.never (spelled_same c.one_outcome.ensures.one c.laws_of_laid.ensures.one c.one_module.ensures)
    (spelled_never c.one_outcome.ensures.one c.laws_of_laid.ensures.one c.laws_of_laid.ensures.never c.shallow_not_refused.ensures))

pub returns-clause-flattening : goal.returns-clause-flattening
returns-clause-flattening c = wide_flattening_may_stop
    (wide_is_reading c.wide_laws.ensures.one c.wide_laws.ensures.never (spelled_same c.one_outcome.ensures.one c.laws_of_laid.ensures.one c.one_module.ensures)
    (spelled_never c.one_outcome.ensures.one c.laws_of_laid.ensures.one c.laws_of_laid.ensures.never c.shallow_not_refused.ensures))

pub returns-clause-never_twice : goal.returns-clause-never_twice
returns-clause-never_twice c = nothing_repeats_wide
    (wide_is_reading c.wide_laws.ensures.one c.wide_laws.ensures.never (spelled_same c.one_outcome.ensures.one c.laws_of_laid.ensures.one c.one_module.ensures)
    (spelled_never c.one_outcome.ensures.one c.laws_of_laid.ensures.one c.laws_of_laid.ensures.never c.shallow_not_refused.ensures))
