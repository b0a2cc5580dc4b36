use Rattle.std.proofs.Common.{length, map, refl}
use Rattle.std.specs.Borrow.{Bor}
use Rattle.std.proofs.lemmas.Option.{slice_get_read}
use Rattle.reading_trees.specs.declared.expr.Definition.{Definition}
use Rattle.names_pruning.proofs.Asking.{none_at_all, none_before_next}
use Rattle.names_pruning.proofs.asked.first_of.Goals as goal

pub returns-then-is_asked : goal.returns-then-is_asked
returns-then-is_asked c =
    let unread = c.args.unread.now in
    record {
      name = c.index-unread-index.result;
      stands = slice_get_read unread (length unread) c.loop-index.index c.index-unread-index.result refl c.loop-index-test.true c.index-unread-index.is;
      asked = c.is_asked.ensures.0 c.if-is_asked.true;
      none_before = c.loop-index.invariant;
    }

pub loop-index-preserved : goal.loop-index-preserved
loop-index-preserved c =
    let unread = c.args.unread.now in
    let name = c.index-unread-index.result in
    none_before_next (map (λ (d : Bor Definition). d.now) c.args.definitions.now) c.args.needed.now c.args.roots.now unread c.loop-index.index name c.is_asked.result
    (slice_get_read unread (length unread) c.loop-index.index name refl c.loop-index-test.true c.index-unread-index.is) c.is_asked.ensures c.if-is_asked.false c.loop-index.invariant

pub returns : goal.returns
returns c =
    none_at_all (map (λ (d : Bor Definition). d.now) c.args.definitions.now) c.args.needed.now c.args.roots.now c.args.unread.now c.loop-index.index c.loop-index-test.false c.loop-index.invariant
