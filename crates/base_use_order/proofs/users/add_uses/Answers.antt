use Rattle.std.proofs.Common.{◌∙◌, ◌<◌, arith, get_or, length, refl}
use Rattle.base_use_order.specs.Uses.{table_of}
use Rattle.base_use_order.proofs.UserTables.{all_uses, as_long, one_more_use, table_length}
use Rattle.base_use_order.proofs.users.add_uses.Goals as goal

pub loop-definition-preserved : goal.loop-definition-preserved
loop-definition-preserved c =
    let used = c.args.used.now in
    let i = c.loop-definition.definition-index in
    let d = get_or used i 0 in
    let old = table_of c.loop-definition.users.items in
    let small : d < length old = omega (arith, c.requires i 0 c.loop-definition-test.true, table_length c.loop-definition.users.items, c.loop-definition.invariant.sizes) in
    record {
      sizes = as_long c.loop-definition.users.items c.add_user.new.users.items d _ c.in_ok-add_user.ensures ∙ c.loop-definition.invariant.sizes;
      exact = one_more_use (table_of c.args.users.now.items) old (table_of c.add_user.new.users.items) used i d c.args.user c.loop-definition-test.true refl small
          c.in_ok-add_user.ensures c.loop-definition.invariant.exact;
    }

pub returns-clause-exact : goal.returns-clause-exact
returns-clause-exact c =
    all_uses (table_of c.args.users.now.items) (table_of c.loop-definition.users.items) c.args.used.now c.loop-definition.definition-index c.args.user
    c.loop-definition-test.false c.loop-definition.invariant.exact
