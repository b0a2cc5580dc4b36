use Rattle.std.proofs.Common.{◌≡◌, drop}
use Rattle.std.specs.List.{list_any}
use Rattle.names_scopes.specs.Mentions.{is_one_of}
use Rattle.names_pruning.proofs.program.some_unread.Given as goal

abbrev pub invariant-loop-root : goal.invariant-loop-root
invariant-loop-root l = list_any (λ n. is_one_of n l.unread) (drop l.root-index l.roots) ≡ list_any (λ n. is_one_of n l.unread) l.roots
