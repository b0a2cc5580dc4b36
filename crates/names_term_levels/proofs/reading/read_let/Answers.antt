use Rattle.std.proofs.Common.{sym, take, subst, List, ℕ}
use Rattle.names_term_levels.specs.Findings.{Adds, LetsFind}
use Rattle.names_term_parts.proofs.Lists.{item_in, item_more}
use Rattle.names_term_levels.proofs.Adds.{lets_more}
use Rattle.names_term_levels.proofs.reading.read_let.Goals as goal

pub read_definition-requires-clause-below : goal.read_definition-requires-clause-below
read_definition-requires-clause-below c = c.requires.below c.in-Some.number.0 (item_in c.args.numbers.now c.loop-index.index c.in-Some.number.0 c.in-Some.ensures)

pub loop-index-preserved : goal.loop-index-preserved
loop-index-preserved c =
    subst (λ (ks : List ℕ). Adds (LetsFind c.args.table.now c.args.notes.now c.args.primed ks) c.args.note.now c.read_definition.new.note) (sym (item_more c.args.numbers.now c.loop-index.index c.in-Some.number.0 c.in-Some.ensures))
    (lets_more c.args.table.now c.args.notes.now c.args.primed (take c.loop-index.index c.args.numbers.now) c.in-Some.number.0 c.args.note.now c.loop-index.note c.read_definition.new.note c.loop-index.invariant c.in_ok-read_definition-in-Some.ensures)
