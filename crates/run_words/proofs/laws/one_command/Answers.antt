use Rattle.run_words.proofs.JobLaws as laws
use Rattle.run_words.proofs.laws.one_command.Goals as goal

pub returns : goal.returns
returns c = laws.one_command
