use Rattle.twice_printed.proofs.FileSays.{states_read_back}
use Rattle.twice_printed.proofs.ReportSays.{asides_read_back, explained_reads_back, not_explained_reads_back}
use Rattle.twice_printed.proofs.state_files_laws.printed_law.Goals as goal

pub returns-clause-states : goal.returns-clause-states
returns-clause-states c = states_read_back c.json_laws.ensures.printed c.text_laws.ensures.ascending

pub returns-clause-explained : goal.returns-clause-explained
returns-clause-explained c = explained_reads_back c.json_laws.ensures.printed c.text_laws.ensures.ascending

pub returns-clause-not_explained : goal.returns-clause-not_explained
returns-clause-not_explained c = not_explained_reads_back c.json_laws.ensures.printed c.text_laws.ensures.ascending

pub returns-clause-asides : goal.returns-clause-asides
returns-clause-asides c = asides_read_back c.json_laws.ensures.printed c.text_laws.ensures.ascending
