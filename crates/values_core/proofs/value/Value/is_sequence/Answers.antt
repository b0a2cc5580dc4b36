use Rattle.std.proofs.Common.{refl}
use Rattle.values_core.proofs.Forms.{not_sequence, sequence_itself}
use Rattle.values_core.proofs.value.Value.is_sequence.Goals as goal

pub returns-in-Sequence : goal.returns-in-Sequence
returns-in-Sequence c = rw (← c.self.view_is, c.in-Sequence.is) (λ t. sequence_itself c.in-Sequence.field-0.value.items.items, λ e. refl)

pub returns-in_default : goal.returns-in_default
returns-in_default c = rw (← c.self.view_is) (λ t. cc, λ e. absurd (not_sequence c.self.inside.node c.self.invariant.one_form c.in_default.not-Sequence e))
