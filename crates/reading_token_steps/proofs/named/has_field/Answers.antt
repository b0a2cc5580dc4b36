use Rattle.std.proofs.Common.{rules, arith, ◌≡◌, true, nat_eq}
use Rattle.std.specs.Cmp.Lexicographic.{pointwise}
use Rattle.reading_token_steps.proofs.NamedFields.{found_at, found_none}
use Rattle.reading_token_steps.proofs.named.has_field.Goals as goal

pub returns-then-eq : goal.returns-then-eq
returns-then-eq c =
    let same : true ≡ pointwise nat_eq c.args.name.now c.field-item.result.name = search rules in
    found_at _ c.items-field-items.result.now c.loop-field.field-index _ _ c.items-field-items.ensures (omega arith) c.field-item.is same c.loop-field.invariant

pub returns : goal.returns
returns c = found_none _ c.items-field-items.result.now c.loop-field.field-index _ c.items-field-items.ensures (omega arith) c.loop-field.invariant
