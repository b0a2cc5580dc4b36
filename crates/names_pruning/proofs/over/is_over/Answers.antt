use Rattle.std.proofs.Common.{◌∙◌, ap}
use Rattle.std.specs.List.{list_any}
use Rattle.names_pruning.specs.Parts.{is_bad_operator}
use Rattle.names_pruning.proofs.Loops.{assumed_over, declared_over}
use Rattle.names_pruning.proofs.over.is_over.Goals as goal

pub returns-in-Assume : goal.returns-in-Assume
returns-in-Assume c =
    assumed_over c.args.names.now c.args.unread.now c.args.bad.now c.args.index c.args.unit.now c.in-Assume.tree c.is_bad_assumption.result c.in-Assume.is c.is_bad_assumption.ensures

pub returns-in-Recursive : goal.returns-in-Recursive
returns-in-Recursive c =
    let test = is_bad_operator c.args.names.now c.args.unread.now c.args.bad.now in
    declared_over c.args.names.now c.args.unread.now c.args.bad.now c.args.index c.args.unit.now c.in-Recursive.operators c.declares_bad.result c.in-Recursive.is
    (c.declares_bad.ensures ∙ ap (list_any test) c.items.ensures)
