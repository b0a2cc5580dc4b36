use Rattle.names_found_levels.proofs.Finding.{local_turned}
use Rattle.names_found_levels.proofs.levels.rises_among.Goals as goal

pub returns : goal.returns
returns c = local_turned c.args.names.now c.args.definition.now c.new-around.result c.push_own.new.self c.push_all.new.self c.items.result.now c.raise.new.found c.new-around.ensures c.in_ok-push_own.ensures c.items.ensures c.in_ok-push_all.ensures c.in_ok-raise.ensures.found
