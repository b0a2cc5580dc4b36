use Rattle.std.proofs.Common.{map}
use Rattle.values_sets.specs.DescribedSets.{Records}
use Rattle.eval_meanings.specs.Outcomes.{Each, Gives}
use Rattle.eval_meanings.specs.Sets.{fields_of}
use Rattle.eval_parts.specs.ChangePaths.{SetOfField, part_item}
use Rattle.eval_parts.proofs.RecordSets.{names_apart, records_told}
use Rattle.eval_parts.proofs.Rows.{stops_then}
use Rattle.eval_parts.proofs.field_sets.records_of.Goals as goal

pub returns-in-Ok-clause-fine : goal.returns-in-Ok-clause-fine
returns-in-Ok-clause-fine c = records_told (map part_item c.args.parts.items) c.in-Ok.fields c.in-Ok.ensures.fields

pub returns-in-Ok-clause-ready : goal.returns-in-Ok-clause-ready
returns-in-Ok-clause-ready c = (names_apart c.args.parts.items c.in-Ok.fields c.requires.different c.in-Ok.ensures.fields, c.in-Ok.ensures.sound)

pub returns-in-Err-clause-fine : goal.returns-in-Err-clause-fine
returns-in-Err-clause-fine c = stops_then (Each SetOfField (map part_item c.args.parts.items)) (λ es. Gives (Records (fields_of es))) c.in-Err.fault c.in-Err.ensures.fault
