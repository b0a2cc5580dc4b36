use Rattle.std.proofs.Common.{◌∙◌, ◌-◌, ap, drop, length, take}
use Rattle.std.proofs.lemmas.List.{take_rest}
use Rattle.reading_pieces.specs.Lengths.{length_behind}
use Rattle.reading_pieces.proofs.Lengths.{heading_at}
use Rattle.reading_pieces.proofs.split.heading_length.Goals as goal

pub returns-in-len4-up-clause-heading : goal.returns-in-len4-up-clause-heading
returns-in-len4-up-clause-heading c =
    let ts = c.args.tokens.now in
    let us = take (length ts - 4) (drop 4 ts) in
    heading_at ts us c.length_behind.result c.in-len4-up.len_at_least (take_rest ts 4) (c.length_behind.ensures.value ∙ ap (λ w. length_behind w us) c.begun_with.ensures)
