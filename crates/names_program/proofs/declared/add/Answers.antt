use Rattle.std.proofs.Common.{refl}
use Rattle.std.specs.Borrow.{Bor}
use Rattle.reading_trees.specs.declared.module.Declared.{Declared}
use Rattle.names_program.proofs.Cuts.{pushed_on}
use Rattle.names_program.proofs.declared.add.Goals as goal

pub loop-name-preserved : goal.loop-name-preserved
loop-name-preserved c =
    pushed_on (λ (d : Bor Declared). d.now) c.loop-name.found.items c.push.new.self.items _ c.items-name-items.result.now _ c.loop-name.name-index c.name-item.result c.loop-name-test.true c.name-item.is refl c.in_ok-push.ensures.items c.loop-name.invariant
