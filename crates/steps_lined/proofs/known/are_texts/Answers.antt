use Rattle.std.specs.Prelude.{IsUtf8}
use Rattle.steps_lined.proofs.UpTo.{up_to_more}
use Rattle.steps_lined.proofs.known.are_texts.Goals as goal

pub loop-text-preserved : goal.loop-text-preserved
loop-text-preserved c =
    up_to_more IsUtf8 c.args.texts.now c.loop-text.text-index c.text-item.result c.loop-text-test.true c.text-item.is c.is_text.ensures c.loop-text.invariant
