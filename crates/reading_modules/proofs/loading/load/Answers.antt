-- proofs/loading/load/Answers.antt
use Rattle.reading_modules.proofs.Outcomes.{loads_so, loads_not}
use Rattle.reading_modules.proofs.loading.load.Goals as goal

pub returns-in-Ok-clause-loads : goal.returns-in-Ok-clause-loads
returns-in-Ok-clause-loads g c =
    loads_so (g.F.Files.holds c.args.files.now) (g.F.Files.faults c.args.files.now) (g.F.Files.faults c.load_by.new.files) c.args.path.now
    c.in-Ok.loaded c.in-Ok.ensures.loads

pub returns-in-Err-clause-loads : goal.returns-in-Err-clause-loads
returns-in-Err-clause-loads g c =
    loads_not (g.F.Files.holds c.args.files.now) (g.F.Files.faults c.args.files.now) (g.F.Files.faults c.load_by.new.files) c.args.path.now
    c.in-Err.fault c.in-Err.ensures.loads
