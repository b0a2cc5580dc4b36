use Rattle.std.proofs.Common.{Some, None, arith}
use Rattle.std.proofs.lemmas.Str.Pattern.{strip_prefix_char}
use Rattle.names_resolving.proofs.Told.{behind_mark, without_none}
use Rattle.names_resolving.proofs.fault.without_mark.Goals as goal

pub returns-in-Some : goal.returns-in-Some
returns-in-Some c = behind_mark c.args.name.now c.in-Some.rest.now (strip_prefix_char 33 c.args.name.now (Some c.in-Some.rest) c.in-Some.ensures.cases (omega arith))

pub returns-in-None : goal.returns-in-None
returns-in-None c = without_none c.args.name.now (strip_prefix_char 33 c.args.name.now None c.in-None.ensures.cases (omega arith))
