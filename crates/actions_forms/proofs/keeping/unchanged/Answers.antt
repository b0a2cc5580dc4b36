use Rattle.actions_forms.proofs.Named.{kept-nothing}
use Rattle.actions_forms.proofs.keeping.unchanged.Goals as goal

pub unchanged_in-requires : goal.unchanged_in-requires
unchanged_in-requires c = record { known = kept-nothing c.args.walk.now c.args.at c.new-endings.result c.new-endings.ensures }
