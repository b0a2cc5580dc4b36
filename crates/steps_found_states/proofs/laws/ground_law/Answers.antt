use Rattle.steps_found_states.proofs.Grounding.{reads_whole, empty_fills, empty_agrees}
use Rattle.steps_found_states.proofs.laws.ground_law.Goals as goal

pub returns-clause-grounds : goal.returns-clause-grounds
returns-clause-grounds c = λ g d sees B p c a long fills agrees slots now known bodies walks tuples. record {
  long = long;
  fills = fills;
  agrees = agrees;
  reads = reads_whole g.which g.table p c a slots now known bodies;
  walks = walks;
  tuples = tuples;
}

pub returns-clause-first : goal.returns-clause-first
returns-clause-first c = λ n sees. (empty_fills n, empty_agrees n sees)
