use Rattle.std.proofs.Common.{sym}
use Rattle.names_found_levels.proofs.Mapped.{found_known, found_new}
use Rattle.names_found_levels.proofs.known.put.Goals as goal

pub returns-in-Some : goal.returns-in-Some
returns-in-Some c before h = found_known before c.args.found.now c.args.known.now c.in-Some.field-0.now (sym c.in-Some.ensures.value) h

pub returns-in_ok-insert-in-None : goal.returns-in_ok-insert-in-None
returns-in_ok-insert-in-None c before h = found_new before c.args.found.now c.insert.new.self c.args.known.now c.in_ok-name-in-None.name c.in_ok-name-in-None.ensures (sym c.in-None.ensures.value) h c.in_ok-insert-in-None.ensures.updates
