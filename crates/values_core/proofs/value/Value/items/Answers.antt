use Rattle.std.proofs.Common.{sym, ◌∙◌}
use Rattle.values_core.proofs.Forms.{not_sequence, sequence_itself, values-numbered}
use Rattle.values_core.proofs.value.Value.items.Goals as goal

pub returns-in-Sequence : goal.returns-in-Sequence
returns-in-Sequence c =
    rw (← c.self.view_is, c.in-Sequence.is, ← c.deref.ensures) (sequence_itself c.deref.result.now.items.items, c.as_slice.ensures.value ∙ sym (values-numbered 1 c.deref.result.now.items.items))

pub returns-in_default : goal.returns-in_default
returns-in_default c = rw (← c.self.view_is) (λ e. not_sequence c.self.inside.node c.self.invariant.one_form c.in_default.not-Sequence e)
