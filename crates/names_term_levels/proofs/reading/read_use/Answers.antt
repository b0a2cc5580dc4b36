use Rattle.std.proofs.Common.{◌≡◌, ap, arith, ◌<◌, ◌≤◌, length, get_or}
use Rattle.std.specs.Prelude.{slice_get, Some}
use Rattle.names_term_parts.proofs.Lists.{ok_mapped, item_at}
use Rattle.names_term_levels.proofs.Adds.{adds_arguments}
use Rattle.names_term_levels.proofs.reading.read_use.Goals as goal

pub returns : goal.returns
returns c =
    let k = c.args.number in
    let o = get_or c.args.table.now k c.index-table-number.result in
    let n = get_or c.args.notes.now k c.index-notes-number.result in
    let mid = c.read_named.new.note in
    let below : k < length c.args.notes.now = c.requires.below in
    let known : length c.args.notes.now ≤ length c.args.table.now = c.requires.known in
    let within : k < length c.args.table.now = omega arith in
    let is : slice_get c.args.table.now k ≡ Some o = item_at c.args.table.now k c.index-table-number.result within in
    let is_note : slice_get c.args.notes.now k ≡ Some n = item_at c.args.notes.now k c.index-notes-number.result below in
    ok_mapped c.push_arguments.result _ _ (λ h. (o, n, record { is = is; told = is_note }, h, mid, c.in_ok-read_named.ensures, adds_arguments n.primed o.outer c.args.arguments.now mid (record mid { fault = c.in_arguments-note.result }) (ap (λ f. record mid { fault = f }) c.in_arguments-note.ensures))) c.push_arguments.ensures
