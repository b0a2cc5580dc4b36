use Rattle.names_term_levels.proofs.Closing.{note_told}
use Rattle.names_term_levels.proofs.Conjuncts.{if_ok_mapped}
use Rattle.names_term_levels.proofs.noting.note_of.Goals as goal

pub returns : goal.returns
returns c =
    if_ok_mapped c.told_by.result _ _ (λ n h. note_told c.args.table.now c.args.notes.now c.args.term.now n c.requires.noted c.requires.known c.requires.below h) c.told_by.ensures
