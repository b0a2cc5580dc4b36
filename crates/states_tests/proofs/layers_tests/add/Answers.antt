use Rattle.std.proofs.Common.{rules}
use Rattle.indexmap.specs.Entry.{map_with_value}
use Rattle.states_layers.proofs.Lookups.{adds_written}
use Rattle.states_tests.proofs.layers_tests.add.Goals as goal

pub returns : goal.returns
returns g c =
    let written = map_with_value c.in_ok-found.field-0 c.or_insert.result.now in
    let adds = adds_written g.met.E.Member.same g.met.E.Eq.laws.refl c.args.found.now written c.args.entry 0 c.or_insert.result.now _ c.in_ok-found.ensures.value
    c.or_insert.ensures.value (c.in_ok-found.ensures.update.1 c.or_insert.result.now) in
    search (rules, adds, c.in_ok-found.ensures.same_map)
