use Rattle.twice_readings.proofs.OneRefusal.{refusal_is_one}
use Rattle.twice_readings.proofs.one_refusal.one_refusal_law.Goals as goal

pub returns : goal.returns
returns c = refusal_is_one (record {
  parts = record {
    path = c.one_program_laws.ensures.path;
    program = c.wide_program_laws.ensures.program;
    configuration = c.one_program_laws.ensures.configuration;
    well_formed = c.expanded_laws.ensures.well_formed;
    expansion = c.expansion_laws.ensures.one;
    pruned = c.pruning_laws.ensures.one;
    alone = c.pruning_laws.ensures.alone;
    passed = c.passing_laws.ensures.well_formed;
    passed_form = c.passing_laws.ensures.form;
    in_order = c.resolved_laws.ensures.in_order;
    form = c.configuration_laws.ensures.form;
    plain_form = c.configuration_laws.ensures.plain_form;
    outcome = c.outcome_laws.ensures.one;
    files = c.alike_logs_laws.ensures.files;
    lines = c.alike_lined_laws.ensures.lines;
    states = c.state_laws.ensures.file;
  };
  forms = record {
    one = c.form_laws.ensures.one;
    outcomes = c.alike_action_laws.ensures.outcomes;
    whole = c.alike_action_laws.ensures.whole;
    sound = c.sound_law.ensures;
    sound_operators = c.operator_law.ensures;
  };
  stops = c.wide_program_laws.ensures.flattening;
  repeats = c.wide_program_laws.ensures.never_twice;
  configuration = c.no_refusal_laws.ensures.configuration;
  one_configuration = c.one_configuration_by.ensures.one;
})
