use Rattle.std.proofs.Common.{◌≡◌, subst, Equal}
use Rattle.std.specs.List.{Contains}
use Rattle.values_core.specs.Data.{Val, string, entries}
use Rattle.values_core.specs.Order.{val_cmp}
use Rattle.values_core.specs.OrderLaws.{val_ties}
use Rattle.values_core.specs.View.{fields_view}
use Rattle.values_core.proofs.Entries.{no_field}
use Rattle.values_core.proofs.Forms.{field_in, no_name}
use Rattle.values_core.proofs.value.forms.apply_fields.Goals as goal

pub returns-in-Ok : goal.returns-in-Ok
returns-in-Ok c =
    let f = c.index-field.result.now in
    let tied : val_cmp (string f.name) (string c.in-String.name) ≡ Equal = rw (← c.index-field.ensures) at (c.in-Ok.ensures.place f) in
    let same : string f.name ≡ string c.in-String.name = val_ties (string f.name) (string c.in-String.name) tied in
    rw (← c.key.view_is, c.in-String.is) (subst (λ (k : Val). Contains (entries (fields_view c.args.fields.now.items)) (k, f.value)) same (field_in c.args.fields.now.items c.in-Ok.at f c.in-Ok.ensures.range c.index-field.ensures))

pub returns-in-Err : goal.returns-in-Err
returns-in-Err c =
    rw (← c.key.view_is, c.in-String.is) (no_field c.args.fields.now.items (string c.in-String.name) c.in-Err.field-0 c.requires c.in-Err.ensures.range c.in-Err.ensures.place)

pub returns-in_default : goal.returns-in_default
returns-in_default c = rw (← c.key.view_is) (no_name c.args.fields.now.items c.key.inside.node c.in_default.not-String)
