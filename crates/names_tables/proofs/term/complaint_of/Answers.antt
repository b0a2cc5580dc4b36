use Rattle.names_tables.proofs.Told.{told_exactly}
use Rattle.names_tables.proofs.term.complaint_of.Goals as goal

pub returns-in-Err-clause-exact : goal.returns-in-Err-clause-exact
returns-in-Err-clause-exact c = told_exactly c.fault_in.result c.in-Err.fault _ c.fault_in.ensures.exact c.in-Err.ensures.refused
