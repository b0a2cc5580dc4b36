use Rattle.reading_trees.proofs.LexedEnds.{tokens_end}
use Rattle.reading_trees.proofs.lexed_ends.tokens_end_once.Goals as goal

pub returns : goal.returns
returns c = tokens_end
