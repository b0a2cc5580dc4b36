use Rattle.logs_files.proofs.PlaceLemmas.{sees_more}
use Rattle.logs_files.proofs.placing.all_first_sees.Goals as goal

pub loop-file-preserved : goal.loop-file-preserved
loop-file-preserved c =
    sees_more c.args.files.now c.loop-file.file-index c.file-item.result c.loop-file.sees c.add_first_sees.new.sees c.loop-file-test.true c.file-item.is
    c.in_ok-add_first_sees.ensures c.loop-file.invariant
