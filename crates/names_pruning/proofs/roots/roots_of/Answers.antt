use Rattle.std.proofs.Common.{map, refl}
use Rattle.std.specs.Borrow.{Bor}
use Rattle.reading_trees.specs.declared.expr.Definition.{Definition}
use Rattle.names_program.specs.Names.{index_among, names_defined}
use Rattle.names_pruning.proofs.Loops.{all_roots, root_on}
use Rattle.names_pruning.proofs.roots.roots_of.Goals as goal

pub loop-root-preserved : goal.loop-root-preserved
loop-root-preserved c =
    let definitions = map (λ (d : Bor Definition). d.now) c.args.definitions.now in
    let root = c.root-item.result in
    root_on definitions c.args.roots.now c.loop-root.root-index root c.loop-root-test.true c.root-item.is (index_among (names_defined definitions) root) c.loop-root.found.items
    c.add_root.new.found.items refl c.in_ok-add_root.ensures c.loop-root.invariant

pub returns-clause-exact : goal.returns-clause-exact
returns-clause-exact c =
    all_roots (map (λ (d : Bor Definition). d.now) c.args.definitions.now) c.args.roots.now c.loop-root.root-index c.loop-root.found.items c.loop-root-test.false c.loop-root.invariant
