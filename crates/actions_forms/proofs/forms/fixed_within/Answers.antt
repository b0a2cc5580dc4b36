use Rattle.actions_forms.proofs.Known.{remembers-nothing}
use Rattle.actions_forms.proofs.forms.fixed_within.Goals as goal

pub fixed_in-requires : goal.fixed_in-requires
fixed_in-requires c = record { known = remembers-nothing c.args.walk.now c.new-endings.result c.new-endings.ensures }
