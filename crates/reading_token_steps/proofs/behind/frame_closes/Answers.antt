use Rattle.reading_token_steps.proofs.KeptCloses.{other_waits}
use Rattle.reading_token_steps.proofs.SameDoes.{does_same}
use Rattle.reading_token_steps.proofs.behind.frame_closes.Goals as goal

pub returns-in_default : goal.returns-in_default
returns-in_default c = does_same _ _ _ _ (other_waits _ _ _ _ c.in_default.not-DefinitionBody) c.laid_closes.ensures
