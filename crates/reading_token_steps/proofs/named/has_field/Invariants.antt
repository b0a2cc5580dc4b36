use Rattle.std.proofs.Common.{◌≡◌, drop}
use Rattle.reading_token_steps.specs.FieldNames.{names_one}
use Rattle.reading_token_steps.proofs.named.has_field.Given as goal

abbrev pub invariant-loop-field : goal.invariant-loop-field
invariant-loop-field l = names_one l.name (drop l.field-index l.field-items) ≡ names_one l.name l.field-items
