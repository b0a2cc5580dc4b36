-- proofs/laws/reader_laws/Answers.antt
use Rattle.reading_laws.proofs.Beside.{flattening_may_stop_by, loading_may_stop_by, nothing_repeats_by}
use Rattle.reading_laws.proofs.Programs.{one_flattening_by, one_loading_by, one_program_by}
use Rattle.reading_laws.proofs.one_reading_laws.reader_laws.Goals as goal

pub returns-clause-flattening : goal.returns-clause-flattening
returns-clause-flattening g c = one_flattening_by (g.R.ModuleReader.reading c.args.reader.now) c.requires

pub returns-clause-program : goal.returns-clause-program
returns-clause-program g c = one_program_by (g.R.ModuleReader.reading c.args.reader.now) c.requires

pub returns-clause-loading : goal.returns-clause-loading
returns-clause-loading g c = one_loading_by (g.R.ModuleReader.reading c.args.reader.now) c.requires

pub returns-clause-may_stop : goal.returns-clause-may_stop
returns-clause-may_stop g c = flattening_may_stop_by (g.R.ModuleReader.reading c.args.reader.now) c.requires

pub returns-clause-repeats : goal.returns-clause-repeats
returns-clause-repeats g c = nothing_repeats_by (g.R.ModuleReader.reading c.args.reader.now) c.requires

pub returns-clause-loading_may_stop : goal.returns-clause-loading_may_stop
returns-clause-loading_may_stop g c = loading_may_stop_by (g.R.ModuleReader.reading c.args.reader.now) c.requires
