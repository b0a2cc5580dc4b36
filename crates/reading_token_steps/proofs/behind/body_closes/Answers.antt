use Rattle.reading_token_steps.proofs.KeptCloses.{unit_defined, let_waits}
use Rattle.reading_token_steps.proofs.SameDoes.{does_same}
use Rattle.reading_token_steps.proofs.behind.body_closes.Goals as goal

pub returns-in_ok-definition-in-Unit : goal.returns-in_ok-definition-in-Unit
returns-in_ok-definition-in-Unit c =
    let d = c.in_ok-definition-in-Unit.ensures in
    unit_defined _ _ _ _ _ _ _ _ c.in-Unit.is d.named d.placed d.parameters d.formed d.body

pub returns-in-Let : goal.returns-in-Let
returns-in-Let c = does_same _ _ _ _ (let_waits _ _ _ _ _ _ _ _ _ c.in-Let.is) c.laid_closes.ensures
