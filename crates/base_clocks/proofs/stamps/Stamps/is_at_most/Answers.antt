use Rattle.std.proofs.Common.{false, true}
use Rattle.base_clocks.proofs.Numbers.{not_at_most}
use Rattle.base_clocks.proofs.stamps.Stamps.is_at_most.Goals as goal

pub returns-in-Some : goal.returns-in-Some
returns-in-Some c = (λ e. cc, λ h. absurd (not_at_most c.args.self.now c.args.other.now c.in-Some.field-0.now c.in-Some.ensures h))
