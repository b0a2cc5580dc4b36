use Rattle.std.proofs.Common.{◌∙◌, ap, map, refl}
use Rattle.std.specs.Borrow.{Bor}
use Rattle.reading_trees.specs.Trees.{Tree}
use Rattle.names_program.specs.InUnits.{assumptions_in}
use Rattle.names_program.specs.Names.{numbers_of}
use Rattle.names_meanings.proofs.StandingOn.{grown_stands}
use Rattle.names_tables.proofs.Assuming.{all_meant, assumed_so, assumed_on, known_still, none_assumed}
use Rattle.names_tables.proofs.Places.{read_at}
use Rattle.names_tables.proofs.assumed.assumption_terms.Goals as goal

pub loop-tree-init : goal.loop-tree-init
loop-tree-init c = none_assumed c.args.table.now (assumptions_in c.args.program.now.units) c.new-terms.result c.requires.tabled.2.smaller c.new-terms.ensures

pub term_of-requires : goal.term_of-requires
term_of-requires c =
    let at = read_at c.deref-tree-items.result.now (assumptions_in c.args.program.now.units) c.loop-tree.tree-index c.tree-item.result (ap (map (λ (d : Bor Tree). d.now)) c.deref-tree-items.ensures.value ∙ c.in_ok-trees.ensures) c.loop-tree-test.true c.tree-item.is in
    record {
      known = known_still c.args.table.now c.loop-tree.table (assumptions_in c.args.program.now.units) c.loop-tree.tree-index c.loop-tree.terms c.loop-tree.invariant c.requires.known;
      ordered = c.loop-tree.invariant.smaller;
      fine = assumed_so c.args.program.now c.args.config.now c.requires.tabled.0 (numbers_of c.args.table.now.numbers.items) c.args.table.now.names c.loop-tree.table.names c.args.table.now.operators c.loop-tree.table.operators c.new-params.result c.requires.fine c.requires.tabled.1 c.requires.tabled.2 c.requires.known c.loop-tree.invariant.grown c.loop-tree.invariant.names c.new-params.ensures c.loop-tree.tree-index c.tree-item.result.now at;
    }

pub loop-tree-preserved : goal.loop-tree-preserved
loop-tree-preserved c =
    let at = read_at c.deref-tree-items.result.now (assumptions_in c.args.program.now.units) c.loop-tree.tree-index c.tree-item.result (ap (map (λ (d : Bor Tree). d.now)) c.deref-tree-items.ensures.value ∙ c.in_ok-trees.ensures) c.loop-tree-test.true c.tree-item.is in
    assumed_on c.args.table.now c.loop-tree.table _ (assumptions_in c.args.program.now.units) c.loop-tree.tree-index c.loop-tree.terms c.push.new.self c.new-params.result c.tree-item.result.now c.in_ok-term.term refl refl c.in_ok-term.ensures.grown c.in_ok-term.ensures.smaller c.in_ok-term.ensures.unnamed c.in_ok-term.ensures.below (λ all g. c.in_ok-term.ensures.means all (grown_stands _ _ g)) c.new-params.ensures at c.in_ok-push.ensures.pushed c.loop-tree.invariant

pub returns : goal.returns
returns c = record {
  meant = all_meant c.args.program.now c.args.config.now c.args.table.now c.loop-tree.table c.deref-tree-items.result.now c.loop-tree.tree-index c.loop-tree.terms (ap (map (λ (d : Bor Tree). d.now)) c.deref-tree-items.ensures.value ∙ c.in_ok-trees.ensures) c.loop-tree.auto.tree-index-end c.loop-tree-test.false c.loop-tree.invariant;
  below = c.loop-tree.invariant.below;
  numbers = c.loop-tree.invariant.numbers;
  names = c.loop-tree.invariant.names;
  grown = c.loop-tree.invariant.grown;
  unnamed = c.loop-tree.invariant.unnamed;
  smaller = c.loop-tree.invariant.smaller;
}
