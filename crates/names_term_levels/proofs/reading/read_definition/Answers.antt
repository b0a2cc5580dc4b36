use Rattle.std.proofs.Common.{◌<◌, length, get_or}
use Rattle.names_term_levels.proofs.Adds.{adds_let, adds_fault}
use Rattle.names_term_parts.proofs.Lists.{item_at}
use Rattle.names_term_levels.proofs.reading.read_definition.Goals as goal

pub returns : goal.returns
returns c =
    let k = c.args.number in
    let n = get_or c.args.notes.now k c.index-notes-number.result in
    let below : k < length c.args.notes.now = c.requires.below in
    adds_let c.args.table.now c.args.notes.now c.args.primed k c.args.note.now c.read_named.new.note c.read_fault.new.note c.in_ok-read_named.ensures (adds_fault c.args.notes.now k n c.read_named.new.note c.read_fault.new.note (item_at c.args.notes.now k c.index-notes-number.result below) c.read_fault.ensures)
