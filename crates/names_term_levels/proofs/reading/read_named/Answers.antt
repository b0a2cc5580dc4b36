use Rattle.std.proofs.Common.{◌≡◌, ◌∙◌, ap, sym, arith, ◌<◌, ◌≤◌, length, get_or}
use Rattle.std.specs.Prelude.{slice_get, Some}
use Rattle.names_term_parts.proofs.Lists.{ok_mapped, item_at}
use Rattle.names_term_levels.proofs.Adds.{adds_named}
use Rattle.names_term_levels.proofs.reading.read_named.Goals as goal

pub returns : goal.returns
returns c =
    let k = c.args.number in
    let o = get_or c.args.table.now k c.index-table-number.result in
    let n = c.index-notes-number.result in
    let below : k < length c.args.notes.now = c.requires.below in
    let known : length c.args.notes.now ≤ length c.args.table.now = c.requires.known in
    let within : k < length c.args.table.now = omega arith in
    let is : slice_get c.args.table.now k ≡ Some o = item_at c.args.table.now k c.index-table-number.result within in
    let is_note : slice_get c.args.notes.now k ≡ Some n = item_at c.args.notes.now k n below ∙ ap Some (sym c.index-notes-number.is) in
    ok_mapped c.absorb.result _ _ (λ h. adds_named c.args.table.now c.args.notes.now c.args.primed k o n c.args.note.now c.absorb.new.note (record { is = is; told = is_note }) h) c.absorb.ensures
