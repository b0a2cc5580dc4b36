use Rattle.std.proofs.Common.{take}
use Rattle.names_term_levels.specs.Findings.{Adds, LetsFind}
use Rattle.names_term_levels.proofs.reading.read_let.Given as goal

abbrev pub invariant-loop-index : goal.invariant-loop-index
invariant-loop-index l = Adds (LetsFind l.table l.notes l.primed (take l.index l.numbers)) l.initial.note l.note
