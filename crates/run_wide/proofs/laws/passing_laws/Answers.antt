use Rattle.run_wide.proofs.PassedLaws.{files_are, lines_are, one_form, values_are, well_formed}
use Rattle.run_wide.proofs.laws.passing_laws.Goals as goal

pub returns : goal.returns
returns c = record {
  well_formed = well_formed c.left_is_well_formed.ensures c.spelled_is_well_formed.ensures;
  spelled = values_are;
  form = one_form;
  files = files_are;
  lines = lines_are;
}
