use Rattle.std.proofs.Common.{◌∙◌, ◌-◌, ap, drop, length, take}
use Rattle.std.proofs.lemmas.List.{take_rest}
use Rattle.reading_pieces.specs.Within.{begun_with}
use Rattle.reading_pieces.proofs.Lengths.{first_piece}
use Rattle.reading_pieces.proofs.split.piece_length.Goals as goal

pub returns-in-len1-up-clause-piece : goal.returns-in-len1-up-clause-piece
returns-in-len1-up-clause-piece c =
    let ts = c.args.tokens.now in
    let us = take (length ts - 1) (drop 1 ts) in
    first_piece ts us c.first-item.result c.begun_with.result c.length_behind.result c.in-len1-up.len_at_least (take_rest ts 1) c.first-item.is
    (c.begun_with.ensures ∙ ap begun_with c.mark_of.ensures) c.length_behind.ensures.value
