use Rattle.twice_readings.proofs.OneReading.{given_is_one, reading_is_one}
use Rattle.twice_readings.proofs.one_reading.reading_laws.Goals as goal

pub returns-clause-reading : goal.returns-clause-reading
returns-clause-reading c = reading_is_one (record {
  path = c.one_program_laws.ensures.path;
  program = c.wide_program_laws.ensures.program;
  configuration = c.one_program_laws.ensures.configuration;
  well_formed = c.expanded_laws.ensures.well_formed;
  expansion = c.expansion_laws.ensures.one;
  pruned = c.pruning_laws.ensures.one;
  alone = c.pruning_laws.ensures.alone;
  passed = c.passing_laws.ensures.well_formed;
  passed_form = c.passing_laws.ensures.form;
  in_order = c.resolved_laws.ensures.in_order;
  form = c.configuration_laws.ensures.form;
  plain_form = c.configuration_laws.ensures.plain_form;
  outcome = c.outcome_laws.ensures.one;
  files = c.alike_logs_laws.ensures.files;
  lines = c.alike_lined_laws.ensures.lines;
  states = c.state_laws.ensures.file;
})

pub returns-clause-given : goal.returns-clause-given
returns-clause-given c = given_is_one (record {
  path = c.one_program_laws.ensures.path;
  program = c.wide_program_laws.ensures.program;
  configuration = c.one_program_laws.ensures.configuration;
  well_formed = c.expanded_laws.ensures.well_formed;
  expansion = c.expansion_laws.ensures.one;
  pruned = c.pruning_laws.ensures.one;
  alone = c.pruning_laws.ensures.alone;
  passed = c.passing_laws.ensures.well_formed;
  passed_form = c.passing_laws.ensures.form;
  in_order = c.resolved_laws.ensures.in_order;
  form = c.configuration_laws.ensures.form;
  plain_form = c.configuration_laws.ensures.plain_form;
  outcome = c.outcome_laws.ensures.one;
  files = c.alike_logs_laws.ensures.files;
  lines = c.alike_lined_laws.ensures.lines;
  states = c.state_laws.ensures.file;
})
