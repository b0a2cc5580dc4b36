use Rattle.names_terms.specs.Lists.{terms_list}
use Rattle.names_program.specs.Names.{numbers_of}
use Rattle.names_resolving.proofs.Refusing.{refuses_given, refuses_level}
use Rattle.names_resolving.proofs.resolving.check_levels.Goals as goal

pub returns-in-Some-clause-refused : goal.returns-in-Some-clause-refused
returns-in-Some-clause-refused c =
    refuses_given c.args.program.now c.args.config.now (numbers_of c.args.named.now.table.numbers.items) c.args.named.now.table.operators (terms_list c.args.named.now.assumes) c.in-Some.fault c.items.result.now c.in_ok-given.given c.items.ensures c.in_ok-given.ensures c.in-Some.is

pub returns-in-Some-level-clause-refused : goal.returns-in-Some-level-clause-refused
returns-in-Some-level-clause-refused c =
    refuses_level c.args.program.now c.args.config.now (numbers_of c.args.named.now.table.numbers.items) c.args.named.now.table.operators (terms_list c.args.named.now.assumes) c.in-Some-level.fault c.of_level.result c.items.result.now c.in_ok-given.given c.in_ok-level-in-None.level c.items.ensures c.in_ok-given.ensures c.in-None.is c.in_ok-level-in-None.ensures c.in-Some-level.is c.of_level.ensures
