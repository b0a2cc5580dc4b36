use Rattle.twice_readings.proofs.LetRows.{accepted_have_one, resolved_have_one}
use Rattle.twice_readings.proofs.let_rows.let_rows_law.Goals as goal

pub returns-clause-resolved : goal.returns-clause-resolved
returns-clause-resolved c = resolved_have_one (record {
  lets = c.lets_law.ensures;
  outcome = c.outcome_laws.ensures.one;
  well_formed = c.expanded_laws.ensures.well_formed;
  passed = c.passing_laws.ensures.well_formed;
  passed_form = c.passing_laws.ensures.form;
  form = c.configuration_laws.ensures.form;
  plain_form = c.configuration_laws.ensures.plain_form;
  spelled = c.configuration_laws.ensures.spelled;
  plain_spelled = c.configuration_laws.ensures.plain_spelled;
})

pub returns-clause-accepted : goal.returns-clause-accepted
returns-clause-accepted c = accepted_have_one (record {
  lets = c.lets_law.ensures;
  outcome = c.outcome_laws.ensures.one;
  well_formed = c.expanded_laws.ensures.well_formed;
  passed = c.passing_laws.ensures.well_formed;
  passed_form = c.passing_laws.ensures.form;
  form = c.configuration_laws.ensures.form;
  plain_form = c.configuration_laws.ensures.plain_form;
  spelled = c.configuration_laws.ensures.spelled;
  plain_spelled = c.configuration_laws.ensures.plain_spelled;
})
