use Rattle.twice_printed.proofs.Printing.{printed_valid, spec_of}
use Rattle.twice_printed.proofs.printed_states_laws.printed_valid_law.Goals as goal

pub returns : goal.returns
returns c = λ asked.
    let g = c.args.spec.now in
    let lined = c.args.lined.now in
    printed_valid g lined asked (spec_of g lined c.requires).ordered c.printed_law.ensures.explained (c.lined_laws.ensures.valid asked) (c.lined_laws.ensures.states asked)
    c.tied_laws.ensures.runs c.requires
