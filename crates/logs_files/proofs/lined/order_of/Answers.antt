use Rattle.logs_files.proofs.TiedFiles.{order_of_numbers, order_of_vectors}
use Rattle.logs_files.proofs.lined.order_of.Goals as goal

pub returns-then-are_vectors : goal.returns-then-are_vectors
returns-then-are_vectors c = order_of_vectors c.args.files.now c.by_vectors.result _ c.if-are_vectors.ensures c.by_vectors.ensures c.in_ok-vectors.ensures

pub returns : goal.returns
returns c = order_of_numbers c.args.files.now c.by_clock.result _ c.if-are_vectors.ensures c.by_clock.ensures c.in_ok-clocks.ensures
