use Rattle.std.proofs.Common.{◌++◌, ◌∙◌, ap}
use Rattle.states_layers.proofs.KeptLaws.{nodes_alone}
use Rattle.states_layers.proofs.growth.add_alone.Goals as goal

pub returns-clause-added : goal.returns-clause-added
returns-clause-added g c =
    let list = c.in_ok-list.list.items in
    let kept = rw (c.line_after_move-line.ensures, c.silents_after_move-silents.ensures) at c.in_ok-keep_alone.ensures in
    record {
      layer = _;
      is = kept ∙ ap (λ ns. c.args.nodes.now.items ++ ns) (nodes_alone _ _ c.args.from list);
      grown = rw c.deref.ensures.value at c.in_ok-list.ensures.grown;
    }
