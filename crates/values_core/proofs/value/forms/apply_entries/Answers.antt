use Rattle.std.proofs.Common.{◌≡◌, subst, Equal}
use Rattle.std.specs.List.{Contains}
use Rattle.values_core.specs.Data.{Val, entries}
use Rattle.values_core.specs.Order.{val_cmp}
use Rattle.values_core.specs.OrderLaws.{val_ties}
use Rattle.values_core.specs.View.{entries_view}
use Rattle.values_core.proofs.Entries.{pair_at, no_key}
use Rattle.values_core.proofs.value.forms.apply_entries.Goals as goal

pub returns-in-Ok : goal.returns-in-Ok
returns-in-Ok c =
    let e = c.index-entry.result.now in
    let tied : val_cmp e.key c.args.key.now ≡ Equal = rw (← c.index-entry.ensures) at (c.in-Ok.ensures.place e) in
    let same : e.key ≡ c.args.key.now = val_ties e.key c.args.key.now tied in
    subst (λ (k : Val). Contains (entries (entries_view c.args.entries.now.items)) (k, e.value)) same (pair_at c.args.entries.now.items c.in-Ok.at e c.in-Ok.ensures.range c.index-entry.ensures)

pub returns-in-Err : goal.returns-in-Err
returns-in-Err c = no_key c.args.entries.now.items c.args.key.now c.in-Err.field-0 c.requires c.in-Err.ensures.range c.in-Err.ensures.place
