-- proofs/reading/spelled_as/Answers.antt
use Rattle.reading_modules.proofs.FromFiles.{bytes_misspelled, bytes_named}
use Rattle.reading_modules.proofs.reading.spelled_as.Goals as goal

pub returns-in-Ok-clause-refused : goal.returns-in-Ok-clause-refused
returns-in-Ok-clause-refused g c =
    bytes_named (g.R.ModuleReader.reading c.args.reader.now) c.args.number c.args.bytes.now c.args.name.now c.in-Ok.read.module c.in-Ok.read.notes.items
    c.named.result c.in-Ok.ensures.spelled c.named.ensures.refused c.named.ensures.other

pub returns-in-Err-clause-refused : goal.returns-in-Err-clause-refused
returns-in-Err-clause-refused g c =
    bytes_misspelled (g.R.ModuleReader.reading c.args.reader.now) c.args.number c.args.bytes.now c.args.name.now c.in-Err.stop c.in-Err.ensures.refused
