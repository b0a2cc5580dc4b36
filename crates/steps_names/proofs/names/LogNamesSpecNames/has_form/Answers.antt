use Rattle.steps_names.proofs.Merely.{in_order}
use Rattle.steps_names.proofs.names.LogNamesSpecNames.has_form.Goals as goal

pub has_form-requires : goal.has_form-requires
has_form-requires c =
    in_order c.args.self.now.spec.now c.args.self.now.walk c.args.operator c.in-Some-named_body.body.now c.args.self.now.ordered c.operator_law.ensures c.args.self.now.count c.args.self.now.table c.args.self.now.ready c.in-Some-named_body.ensures
