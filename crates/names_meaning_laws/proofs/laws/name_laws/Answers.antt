use Rattle.names_meaning_laws.proofs.Decided.{means_by_names}
use Rattle.names_meaning_laws.proofs.Fine.{complaint_fine}
use Rattle.names_meaning_laws.proofs.Known.{complaint_known}
use Rattle.names_meaning_laws.proofs.More.{means_more}
use Rattle.names_meaning_laws.proofs.Same.{complaint_same}
use Rattle.names_meaning_laws.proofs.laws.name_laws.Goals as goal

pub returns-clause-fine : goal.returns-clause-fine
returns-clause-fine c = complaint_fine

pub returns-clause-known : goal.returns-clause-known
returns-clause-known c = complaint_known

pub returns-clause-decided : goal.returns-clause-decided
returns-clause-decided c = complaint_same

pub returns-clause-meanings : goal.returns-clause-meanings
returns-clause-meanings c = λ names names' more ops sc t e h. means_more names names' more ops sc t e h

pub returns-clause-free : goal.returns-clause-free
returns-clause-free c = means_by_names
