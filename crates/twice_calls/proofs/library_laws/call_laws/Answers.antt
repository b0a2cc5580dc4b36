use Rattle.twice_calls.proofs.Asking.{unasked_unseen}
use Rattle.twice_calls.proofs.Places.{one_folder}
use Rattle.twice_calls.proofs.Reading.{accepted_stays, given_stays, library_unseen}
use Rattle.twice_calls.proofs.library_laws.call_laws.Goals as goal

pub returns-clause-folder : goal.returns-clause-folder
returns-clause-folder c = one_folder c.one_command.ensures

pub returns-clause-library : goal.returns-clause-library
returns-clause-library c = library_unseen (record {
  command = c.one_command.ensures;
  unseen = c.unseen_law.ensures.job;
  refused = c.not_refused_laws.ensures.read;
  stays_wide = c.strict_stays_wide.ensures.stays;
  given_wide = c.strict_stays_wide.ensures.given;
})

pub returns-clause-stays : goal.returns-clause-stays
returns-clause-stays c = accepted_stays (record {
  command = c.one_command.ensures;
  unseen = c.unseen_law.ensures.job;
  refused = c.not_refused_laws.ensures.read;
  stays_wide = c.strict_stays_wide.ensures.stays;
  given_wide = c.strict_stays_wide.ensures.given;
})

pub returns-clause-given : goal.returns-clause-given
returns-clause-given c = given_stays (record {
  command = c.one_command.ensures;
  unseen = c.unseen_law.ensures.job;
  refused = c.not_refused_laws.ensures.read;
  stays_wide = c.strict_stays_wide.ensures.stays;
  given_wide = c.strict_stays_wide.ensures.given;
})

pub returns-clause-unseen : goal.returns-clause-unseen
returns-clause-unseen c = unasked_unseen c.one_command.ensures c.unseen_law.ensures.words
