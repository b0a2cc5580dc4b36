use Rattle.std.proofs.Common.{ℕ}
use Rattle.std.specs.Borrow.{Bor}
use Rattle.std.specs.Prelude.{Vec}
use Rattle.std.specs.declared.alloc.Global.{Global}
use Rattle.reading_trees.specs.declared.expr.Definition.{Definition}
use Rattle.base_use_order.specs.Uses.{table_of}
use Rattle.names_uses.proofs.UseLemmas.{each_on, each_end}
use Rattle.names_uses.proofs.used.used_in_each.Goals as goal

pub loop-definition-preserved : goal.loop-definition-preserved
loop-definition-preserved c =
    each_on (λ (d : Bor Definition). d.now) (λ (used : Vec ℕ Global). used.items) c.args.names.now c.args.definitions.now c.loop-definition.definition-index c.definition-item.result c.loop-definition.uses.items c.push.new.self.items c.in_ok-used.used c.loop-definition-test.true c.definition-item.is c.in_ok-push.ensures.items c.in_ok-used.ensures c.loop-definition.invariant

pub returns : goal.returns
returns c =
    each_end (λ (d : Bor Definition). d.now) c.args.names.now c.args.definitions.now c.loop-definition.definition-index (table_of c.loop-definition.uses.items) c.loop-definition-test.false c.loop-definition.invariant
