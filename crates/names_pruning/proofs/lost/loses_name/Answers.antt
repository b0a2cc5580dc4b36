use Rattle.std.proofs.Common.{◌∙◌, ap}
use Rattle.std.specs.List.{list_any}
use Rattle.names_pruning.specs.Parts.{is_lost_in}
use Rattle.names_pruning.proofs.Loops.{loses_by}
use Rattle.names_pruning.proofs.lost.loses_name.Goals as goal

pub returns : goal.returns
returns c =
    let test = is_lost_in c.args.names.now c.args.unread.now c.args.params.now in
    loses_by c.args.names.now c.args.unread.now c.args.params.now c.args.tree.now c.in_ok-free.free c.some_lost.result c.in_ok-free.ensures.exact
    (c.some_lost.ensures ∙ ap (list_any test) c.items.ensures)
