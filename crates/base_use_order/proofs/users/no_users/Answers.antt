use Rattle.std.proofs.Common.{◌∷◌, [], ap, arith, length}
use Rattle.std.proofs.lemmas.List.{length-append}
use Rattle.base_use_order.proofs.UserTables.{no_users_more}
use Rattle.base_use_order.proofs.users.no_users.Goals as goal

pub loop-alloc-preserved : goal.loop-alloc-preserved
loop-alloc-preserved c = record {
  few = omega (arith, c.loop-alloc-test.true, c.len.ensures, c.loop-alloc.users.ok.0, ap length c.in_ok-push.ensures.items, length-append c.loop-alloc.users.items (c.new.result ∷ []));
  none = no_users_more c.loop-alloc.users.items c.push.new.self.items c.new.result c.new.ensures.items c.in_ok-push.ensures.items c.loop-alloc.invariant.none;
}
