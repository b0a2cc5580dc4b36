use Rattle.std.proofs.Common.{◌∷◌, [], refl}
use Rattle.logs_files.proofs.ClockKinds.{no_number_falls}
use Rattle.logs_files.proofs.OneFile.{log_of_file}
use Rattle.logs_files.proofs.placing.log_of_one.Goals as goal

pub returns : goal.returns
returns c = log_of_file c.args.file _ c.sees_or_none.ensures refl (no_number_falls (c.args.file ∷ []) c.requires)
