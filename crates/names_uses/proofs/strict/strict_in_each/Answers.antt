use Rattle.std.proofs.Common.{ℕ}
use Rattle.std.specs.Borrow.{Bor}
use Rattle.std.specs.Prelude.{Vec}
use Rattle.std.specs.declared.alloc.Global.{Global}
use Rattle.reading_trees.specs.declared.expr.Definition.{Definition}
use Rattle.base_use_order.specs.Uses.{table_of}
use Rattle.names_uses.proofs.StrictLemmas.{each_strict_on, each_strict_end}
use Rattle.names_uses.proofs.strict.strict_in_each.Goals as goal

pub loop-index-preserved : goal.loop-index-preserved
loop-index-preserved c =
    each_strict_on (λ (d : Bor Definition). d.now) (λ (used : Vec ℕ Global). used.items) c.args.marks.now c.args.names.now c.args.definitions.now c.loop-index.index c.index-definitions-index.result c.loop-index.uses.items c.push.new.self.items c.in_ok-used.used c.loop-index-test.true c.index-definitions-index.is c.in_ok-push.ensures.items c.in_ok-used.ensures c.loop-index.invariant

pub returns : goal.returns
returns c =
    each_strict_end (λ (d : Bor Definition). d.now) c.args.marks.now c.args.names.now c.args.definitions.now c.loop-index.index (table_of c.loop-index.uses.items) c.loop-index-test.false c.loop-index.invariant
