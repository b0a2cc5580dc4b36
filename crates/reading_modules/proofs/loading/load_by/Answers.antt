-- proofs/loading/load_by/Answers.antt
use Rattle.reading_modules.proofs.Outcomes.{loads_program, loads_refused, program_told, refusal_told}
use Rattle.reading_modules.proofs.loading.load_by.Goals as goal

pub returns-in-Ok-clause-loads : goal.returns-in-Ok-clause-loads
returns-in-Ok-clause-loads g c =
    loads_program (g.R.ModuleReader.reading c.args.reader.now) (g.F.Files.holds c.args.files.now) (g.F.Files.faults c.args.files.now) (g.F.Files.faults c.visit.new.files) c.args.path.now
    c.in-Some.folder.now c.in-Some.name.now c.in_ok-name.name c.new-above.result.items c.new-so.result c.visit.new.so c.program.result
    c.in-Some.ensures c.new-above.ensures.items c.new-so.ensures c.in_ok-name.ensures c.in-Ok.ensures.visited c.program.ensures.program c.program.ensures.noted
    c.program.ensures.refused

pub returns-clause-loads : goal.returns-clause-loads
returns-clause-loads g c =
    loads_refused (g.R.ModuleReader.reading c.args.reader.now) (g.F.Files.holds c.args.files.now) (g.F.Files.faults c.args.files.now) (g.F.Files.faults c.visit.new.files) c.args.path.now
    c.in-Some.folder.now c.in-Some.name.now c.in_ok-name.name c.new-above.result.items c.new-so.result c.visit.new.so.modules
    c.in-Err.stop c.refusal.result c.in-Some.ensures c.new-above.ensures.items c.new-so.ensures c.in_ok-name.ensures
    c.in-Err.ensures.stopped c.in-Err.ensures.caused c.refusal.ensures

pub returns-in-Ok-clause-told : goal.returns-in-Ok-clause-told
returns-in-Ok-clause-told g c =
    program_told c.in-Some.folder.now c.visit.new.so (g.F.Files.failures c.args.files.now) (g.F.Files.failures c.visit.new.files) c.program.result c.in-Ok.ensures.quiet
    c.program.ensures.refused

pub returns-clause-told : goal.returns-clause-told
returns-clause-told g c =
    refusal_told c.in-Some.folder.now c.visit.new.so.modules (g.F.Files.failures c.args.files.now) (g.F.Files.failures c.visit.new.files) c.in-Err.stop c.refusal.result c.in-Err.ensures.told
    c.refusal.ensures
