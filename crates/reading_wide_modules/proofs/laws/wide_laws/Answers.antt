use Rattle.reading_wide_modules.proofs.OneWide.{one_wide, strict_is_wide, wide_is_not_refused}
use Rattle.reading_wide_modules.proofs.laws.wide_laws.Goals as goal

pub returns-clause-strict : goal.returns-clause-strict
returns-clause-strict c = strict_is_wide c.one_outcome.ensures.one c.laws_of_laid.ensures.one c.laws_of_laid.ensures.never c.one_module.ensures c.shallow_not_refused.ensures

pub returns-clause-never : goal.returns-clause-never
returns-clause-never c = wide_is_not_refused c.one_outcome.ensures.one c.laws_of_laid.ensures.one c.laws_of_laid.ensures.never c.one_module.ensures c.shallow_not_refused.ensures

pub returns-clause-one : goal.returns-clause-one
returns-clause-one c =
    one_wide c.one_outcome.ensures.one c.laws_of_laid.ensures.one c.laws_of_laid.ensures.never c.one_module.ensures c.shallow_not_refused.ensures c.one_parting.ensures.heading
    c.one_parting.ensures.pieces
