use Rattle.logs_files.proofs.FileLemmas.{has_room}
use Rattle.logs_files.proofs.files.read_file.Goals as goal

pub returns-clause-within : goal.returns-clause-within
returns-clause-within g c =
    has_room (g.N.SpecNames.setting c.args.names.now) c.line_laws.ensures.steps c.args.file c.args.many c.args.room c.args.form c.args.text.now c.read_log.result c.read_log.ensures
