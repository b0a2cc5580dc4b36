use Rattle.names_found_levels.proofs.Finding.{body_turned}
use Rattle.names_found_levels.proofs.levels.body_rises.Goals as goal

pub returns : goal.returns
returns c = body_turned c.args.names.now c.args.marks.now c.args.definition.now c.new-around.result c.push_all.new.self c.items.result.now c.raise.new.found c.new-around.ensures c.items.ensures c.in_ok-push_all.ensures c.in_ok-raise.ensures.found
