use Rattle.std.proofs.Common.{sym, ◌∙◌}
use Rattle.reading_junctions.proofs.Steps.{not_item}
use Rattle.reading_junctions.proofs.marking.Marking.mark.Goals as goal
use Rattle.reading_junctions.proofs.marking.Marking.mark.Goals.{in-Some+else-is_item+else-self, in_default}

pub mark_plain-requires-clause-no_item : goal.mark_plain-requires-clause-no_item
mark_plain-requires-clause-no_item c =
    elim c.match-bullet_of.branch [
      | in-Some+else-is_item+else-self w ↦ sym w.is_item.ensures ∙ w.if-is_item.false
      | in_default w ↦ not_item c.args.token c.args.self.now.stack (sym c.bullet_of.ensures ∙ w.in_default.is)
    ]
