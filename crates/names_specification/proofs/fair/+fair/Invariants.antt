use Rattle.std.proofs.Common.{◌≡◌, ◌*◌, ◌+◌, drop, map}
use Rattle.std.specs.Borrow.{Bor}
use Rattle.std.specs.List.{list_all}
use Rattle.reading_trees.specs.Trees.{Tree}
use Rattle.names_specification.specs.Fair.{is_fair}
use Rattle.names_specification.proofs.fair.+fair.Given as goal

abbrev pub decreases-is_fair : goal.decreases-is_fair
decreases-is_fair l = 2 * l.levels

abbrev pub decreases-are_fair : goal.decreases-are_fair
decreases-are_fair l = 2 * l.levels + 1

abbrev pub invariant-are_fair-loop-part : goal.invariant-are_fair-loop-part
invariant-are_fair-loop-part l =
    list_all (is_fair l.levels l.named.program.now l.named.config.now) (map (λ (e : Bor Tree). e.now) (drop l.part-index l.part-items))
    ≡ list_all (is_fair l.levels l.named.program.now l.named.config.now) (map (λ (e : Bor Tree). e.now) l.part-items)
