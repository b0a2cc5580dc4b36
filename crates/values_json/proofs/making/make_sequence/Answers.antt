use Rattle.values_json.proofs.Limits.{no_sequence_large}
use Rattle.values_json.proofs.making.make_sequence.Goals as goal

pub returns-in-Err-TooLarge : goal.returns-in-Err-TooLarge
returns-in-Err-TooLarge c = let why = rw c.in-Err-TooLarge.field-0-is at c.in-Err-TooLarge.ensures in no_sequence_large c.args.values.items why
