use Rattle.std.proofs.Common.{◌∙◌, ap}
use Rattle.std.specs.List.{list_any}
use Rattle.names_pruning.specs.Parts.{is_bad_name}
use Rattle.names_pruning.proofs.Loops.{has_bad_by}
use Rattle.names_pruning.proofs.over.is_bad_assumption.Goals as goal

pub returns : goal.returns
returns c =
    let test = is_bad_name c.args.names.now c.args.unread.now c.args.bad.now in
    has_bad_by c.args.names.now c.args.unread.now c.args.bad.now c.args.tree.now c.in_ok-free.free c.some_bad.result c.in_ok-free.ensures.exact
    (c.some_bad.ensures ∙ ap (list_any test) c.items.ensures)
