use Rattle.eval_some_outcome_laws.proofs.Listed.{has_some_listing}
use Rattle.eval_some_outcome_laws.proofs.laws.listing_law.Goals as goal

pub returns : goal.returns
returns c = has_some_listing
