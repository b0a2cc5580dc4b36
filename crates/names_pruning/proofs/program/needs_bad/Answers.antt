use Rattle.std.proofs.Common.{refl}
use Rattle.names_pruning.proofs.Loops.{some_unread_needs}
use Rattle.names_pruning.proofs.program.needs_bad.Goals as goal

pub returns-then-some_unread : goal.returns-then-some_unread
returns-then-some_unread c = (
  λ t. some_unread_needs c.args.program.now c.args.config.now c.args.unread.now c.args.roots.now c.some_unread.result c.some_unread.ensures c.if-some_unread.true,
  λ n. refl,
)
