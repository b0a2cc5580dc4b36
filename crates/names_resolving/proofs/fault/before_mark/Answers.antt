use Rattle.std.proofs.Common.{Some, None, arith, sym}
use Rattle.std.proofs.lemmas.Str.Pattern.{split_once_first}
use Rattle.names_resolving.proofs.Told.{whole_before}
use Rattle.names_resolving.proofs.fault.before_mark.Goals as goal

pub returns-in-Some : goal.returns-in-Some
returns-in-Some c =
    let parts = split_once_first 33 c.args.name.now (Some (c.in-Some.part, c.in-Some.field-0-1)) c.in-Some.ensures.cases (omega arith) in
    parts.1

pub returns-in-None : goal.returns-in-None
returns-in-None c =
    let lacks = split_once_first 33 c.args.name.now None c.in-None.ensures.cases (omega arith) in
    sym (whole_before c.args.name.now lacks)
