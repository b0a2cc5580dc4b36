use Rattle.values_core.specs.Functions.{fields_as_pairs}
use Rattle.values_json.proofs.Limits.{no_mapping_large, no_mapping_deep}
use Rattle.values_json.proofs.making.make_record.Goals as goal

pub returns-in-Err-TooLarge : goal.returns-in-Err-TooLarge
returns-in-Err-TooLarge c = let why = rw c.in-Err-TooLarge.field-0-is at c.in-Err-TooLarge.ensures in no_mapping_large (fields_as_pairs c.args.fields.items) why.1

pub returns-in-Err-TooDeep : goal.returns-in-Err-TooDeep
returns-in-Err-TooDeep c = let why = rw c.in-Err-TooDeep.field-0-is at c.in-Err-TooDeep.ensures in no_mapping_deep (fields_as_pairs c.args.fields.items) why.2
