use Rattle.names_whole_programs.proofs.Expansions.{an_expansion, one_expansion, plain_both, strict_is_wide}
use Rattle.names_whole_programs.proofs.laws.expansion_laws.Goals as goal

pub returns-clause-one : goal.returns-clause-one
returns-clause-one c = one_expansion

pub returns-clause-exists : goal.returns-clause-exists
returns-clause-exists c = an_expansion

pub returns-clause-strict : goal.returns-clause-strict
returns-clause-strict c = strict_is_wide

pub returns-clause-plain : goal.returns-clause-plain
returns-clause-plain c = plain_both
