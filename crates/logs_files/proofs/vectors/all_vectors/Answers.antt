use Rattle.std.proofs.Common.{ap, ◌∙◌, map}
use Rattle.logs_updates.specs.Clocks.{vector_in}
use Rattle.logs_files.proofs.PlaceLemmas.{vectors_more}
use Rattle.logs_files.proofs.vectors.all_vectors.Goals as goal

pub loop-file-preserved : goal.loop-file-preserved
loop-file-preserved c =
    vectors_more c.args.files.now c.loop-file.file-index c.file-item.result c.loop-file.vectors.items c.push.new.self.items c.in_ok-log.log c.loop-file-test.true c.file-item.is
    (c.in_ok-log.ensures ∙ ap (map (λ l. vector_in l.clock)) c.items.ensures) c.loop-file.invariant c.in_ok-push.ensures.items
