use Rattle.names_term_levels.proofs.Closing.{fair_is}
use Rattle.names_term_levels.proofs.Conjuncts.{if_ok_mapped}
use Rattle.names_term_levels.proofs.fairness.is_fair.Goals as goal

pub returns : goal.returns
returns c =
    if_ok_mapped c.fair_by.result _ _ (λ b h. fair_is c.args.table.now c.args.notes.now c.args.term.now b c.requires.noted c.requires.known c.requires.below h) c.fair_by.ensures
