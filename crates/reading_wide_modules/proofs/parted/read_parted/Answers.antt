use Rattle.std.proofs.Common.{◌-◌, ◌∙◌, length, sym, take}
use Rattle.reading_wide_modules.proofs.Ends.{body_ends}
use Rattle.reading_wide_modules.proofs.Frames.{answer_parted, with_last}
use Rattle.reading_wide_modules.proofs.parted.read_parted.Goals as goal

pub read_body-requires : goal.read_body-requires
read_body-requires c = body_ends c.args.tokens.now c.requires

pub returns-then-are_ending : goal.returns-then-are_ending
returns-then-are_ending c =
    let tokens = c.args.tokens.now in
    answer_parted (λ w. w.module) (λ w. w.notes.items) tokens (take (length tokens - 2) tokens) c.equals-item.result c.end-item.result c.read_body.result
    (with_last tokens c.equals-item.result c.end-item.result c.in-len2-up.len_at_least c.equals-item.is c.end-item.is)
    (sym c.is_nested.ensures ∙ c.if-is_nested.false) (sym c.are_ending.ensures ∙ c.if-are_ending.true) c.read_body.ensures
