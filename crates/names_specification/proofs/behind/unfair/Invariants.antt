use Rattle.std.proofs.Common.{◌≡◌, ◌++◌, drop, map}
use Rattle.std.specs.Prelude.{not}
use Rattle.std.specs.Borrow.{Bor}
use Rattle.std.specs.List.{filter}
use Rattle.reading_trees.specs.Trees.{Tree}
use Rattle.names_specification.specs.Behind.{deepest}
use Rattle.names_specification.specs.Fair.{is_fair}
use Rattle.names_specification.proofs.behind.unfair.Given as goal

abbrev pub invariant-loop-part : goal.invariant-loop-part
invariant-loop-part l =
    map (λ (e : Bor Tree). e.now) l.left.items ++ filter (λ e. not (is_fair deepest l.named.program.now l.named.config.now e)) (map (λ (e : Bor Tree). e.now) (drop l.part-index l.part-items))
    ≡ filter (λ e. not (is_fair deepest l.named.program.now l.named.config.now e)) (map (λ (e : Bor Tree). e.now) l.part-items)
