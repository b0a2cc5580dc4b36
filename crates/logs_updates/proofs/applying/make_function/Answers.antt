use Rattle.logs_updates.proofs.MakingLemmas.{no_mapping_large, no_mapping_deep}
use Rattle.logs_updates.proofs.applying.make_function.Goals as goal

pub returns-in-Err-TooLarge : goal.returns-in-Err-TooLarge
returns-in-Err-TooLarge c = let why = rw c.in-Err-TooLarge.field-0-is at c.in-Err-TooLarge.ensures in no_mapping_large c.args.pairs.items why.1

pub returns-in-Err-TooDeep : goal.returns-in-Err-TooDeep
returns-in-Err-TooDeep c = let why = rw c.in-Err-TooDeep.field-0-is at c.in-Err-TooDeep.ensures in no_mapping_deep c.args.pairs.items why.2
