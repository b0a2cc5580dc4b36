-- The parts that wait on a stack, the top being the last.
use Rattle.std.specs.Prelude.{List, map}
use Rattle.names_term_parts.specs.declared.pending.Pending.{Pending}
use Rattle.names_term_parts.specs.Parts.{Part, part}

abbrev pub part_of : Pending → Part
part_of p = part p.primed p.term.now

abbrev pub waiting : List Pending → List Part
waiting ps = map part_of ps
