use Rattle.names_term_levels.proofs.Closing.{are_notes}
use Rattle.names_term_levels.proofs.noting.notes.Goals as goal

pub returns-then-not-branch-clause-noted : goal.returns-then-not-branch-clause-noted
returns-then-not-branch-clause-noted c =
    let e = c.in_ok-read_all.ensures in
    are_notes c.args.table.now c.read_all.new.notes.items c.requires e.all e.sound (e.closed c.if-not-branch.true)
