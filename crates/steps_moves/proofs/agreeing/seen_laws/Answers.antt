use Rattle.steps_moves.proofs.Shown.{shown_agrees, whole_shows}
use Rattle.steps_moves.proofs.agreeing.seen_laws.Goals as goal

pub returns-clause-whole : goal.returns-clause-whole
returns-clause-whole c = whole_shows

pub returns-clause-shown : goal.returns-clause-shown
returns-clause-shown c = shown_agrees
