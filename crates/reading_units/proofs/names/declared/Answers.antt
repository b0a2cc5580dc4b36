use Rattle.std.proofs.Common.{◌+◌, drop}
use Rattle.reading_units.proofs.MarksTold.{name_marked, no_name}
use Rattle.reading_units.proofs.names.declared.Goals as goal

pub returns-in_ok-name-in-Name-clause-token : goal.returns-in_ok-name-in-Name-clause-token
returns-in_ok-name-in-Name-clause-token c = name_marked (drop c.args.from c.args.laid.now) (drop (c.args.from + 1) c.args.laid.now) c.in-Some.token.now _ c.in-Some.ensures.token c.in-Name.is

pub returns-in_default-clause-refused : goal.returns-in_default-clause-refused
returns-in_default-clause-refused c = no_name (drop c.args.from c.args.laid.now) (drop (c.args.from + 1) c.args.laid.now) c.in-Some.token.now c.fault_at.result c.in-Some.ensures.token c.in_default.not-Name c.fault_at.ensures
