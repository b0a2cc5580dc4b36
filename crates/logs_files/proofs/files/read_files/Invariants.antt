use Rattle.logs_files.specs.Logs.{texts_of}
use Rattle.logs_files.proofs.FileLemmas.{IsRead}
use Rattle.logs_files.proofs.files.read_files.Given as goal

abbrev pub invariant-loop-text : goal.invariant-loop-text
invariant-loop-text g l = IsRead (g.N.SpecNames.setting l.names) l.many l.fn.room (texts_of l.texts) l.text-index l.reading
