use Rattle.twice_printed.proofs.Asides.{why_reads_back}
use Rattle.twice_printed.proofs.ReadAgain.{report_reads_back}
use Rattle.twice_printed.proofs.why_lines_laws.why_law.Goals as goal

pub returns-clause-why : goal.returns-clause-why
returns-clause-why c = why_reads_back c.json_laws.ensures.printed c.text_laws.ensures.ascending c.printed_law.ensures.asides

pub returns-clause-report : goal.returns-clause-report
returns-clause-report c = report_reads_back c.json_laws.ensures.printed c.text_laws.ensures.ascending c.printed_law.ensures.asides
