use Rattle.base_use_order.proofs.UserTables.{with_user}
use Rattle.base_use_order.proofs.users.add_user.Goals as goal

pub returns : goal.returns
returns c = with_user c.args.users.now.items c.args.definition c.args.user c.index_mut.result.now c.push.new.self c.requires c.index_mut.ensures.value c.in_ok-push.ensures.items
