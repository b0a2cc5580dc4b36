use Rattle.logs_files.proofs.FileLemmas.{file_refused, file_taken}
use Rattle.logs_files.proofs.files.read_on.Goals as goal

pub with_file-requires-clause-room : goal.with_file-requires-clause-room
with_file-requires-clause-room g c = rw c.in-Ok.is at c.in_ok-read.ensures.within

pub returns-in_ok-next-in-Ok-clause-says : goal.returns-in_ok-next-in-Ok-clause-says
returns-in_ok-next-in-Ok-clause-says g c =
    let says = rw c.in-Ok.is at c.in_ok-read.ensures.says in
    file_taken (g.N.SpecNames.setting c.args.names.now) c.args.many c.args.reading c.in_ok-next-in-Ok.next c.args.text.now c.in-Ok.found says
    c.in_ok-next-in-Ok.ensures.file c.in_ok-next-in-Ok.ensures.left c.in_ok-next-in-Ok.ensures.form c.in_ok-next-in-Ok.ensures.found

pub returns-in-Err-clause-says : goal.returns-in-Err-clause-says
returns-in-Err-clause-says g c =
    let says = rw c.in-Err.is at c.in_ok-read.ensures.says in
    file_refused (g.N.SpecNames.setting c.args.names.now) c.args.many c.args.reading c.args.text.now c.in-Err.refusal says
