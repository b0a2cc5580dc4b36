use Rattle.std.proofs.Common.{ap, sym, [], length, ◌∙◌}
use Rattle.names_terms.specs.Terms.{Placed}
use Rattle.std.proofs.lemmas.List.{append-nil}
use Rattle.names_terms.specs.TermViews.{node_view}
use Rattle.names_term_parts.specs.Parts.{parts}
use Rattle.names_term_parts.specs.Waiting.{waiting}
use Rattle.names_term_parts.proofs.Lists.{ok_mapped}
use Rattle.names_term_levels.proofs.Adds.{adds_limits}
use Rattle.names_term_levels.proofs.Texts.{read_slot, read_let, read_other, reads_use, use_below, let_below}
use Rattle.names_term_levels.proofs.reading.read.Goals as goal

pub read_use-requires-clause-below : goal.read_use-requires-clause-below
read_use-requires-clause-below c = use_below (length c.args.notes.now) c.term.inside.at c.term.inside.level (node_view c.deref-node.result.now) c.in-Use.number c.in-Use.terms.now c.args.term.now (ap (λ n. Placed c.term.inside.at c.term.inside.level (node_view n)) c.deref-node.ensures ∙ c.term.view_is) c.in-Use.ensures c.requires.below

pub read_let-requires-clause-below : goal.read_let-requires-clause-below
read_let-requires-clause-below c = let_below (length c.args.notes.now) c.term.inside.at c.term.inside.level (node_view c.deref-node.result.now) c.in-Let.numbers.now c.in-Let.ensures.0 c.args.term.now (ap (λ n. Placed c.term.inside.at c.term.inside.level (node_view n)) c.deref-node.ensures ∙ c.term.view_is) c.in-Let.ensures.1 c.requires.below

pub returns-in-Slot : goal.returns-in-Slot
returns-in-Slot c =
    let at = c.term.inside.at in
    let l = c.term.inside.level in
    let m = node_view c.deref-node.result.now in
    let old = c.args.note.now in
    let first = record old { fault = c.check_limits-note.result } in
    ok_mapped c.read_slot.result _ _ (λ h. ([], sym (append-nil (waiting c.args.stack.now.items)), read_slot c.args.table.now c.args.notes.now (length c.args.notes.now) c.args.primed at l m c.in-Slot.slot c.args.term.now old first c.read_slot.new.note (ap (λ n. Placed c.term.inside.at c.term.inside.level (node_view n)) c.deref-node.ensures ∙ c.term.view_is) c.in-Slot.ensures (adds_limits at m old first (ap (λ f. record old { fault = f }) c.check_limits-note.ensures)) h)) c.read_slot.ensures

pub returns-in-Use : goal.returns-in-Use
returns-in-Use c =
    let at = c.term.inside.at in
    let l = c.term.inside.level in
    let m = node_view c.deref-node.result.now in
    let old = c.args.note.now in
    let first = record old { fault = c.check_limits-note.result } in
    ok_mapped c.read_use.result _ _ (λ h. reads_use c.args.table.now c.args.notes.now (length c.args.notes.now) c.args.primed at l m c.in-Use.number c.in-Use.terms.now c.args.term.now c.items.result.now (waiting c.args.stack.now.items) (waiting c.read_use.new.stack.items) old first c.read_use.new.note (ap (λ n. Placed c.term.inside.at c.term.inside.level (node_view n)) c.deref-node.ensures ∙ c.term.view_is) c.in-Use.ensures c.items.ensures c.requires.below (adds_limits at m old first (ap (λ f. record old { fault = f }) c.check_limits-note.ensures)) h) c.read_use.ensures

pub returns-in_ok-read_let-in-Let : goal.returns-in_ok-read_let-in-Let
returns-in_ok-read_let-in-Let c =
    let at = c.term.inside.at in
    let l = c.term.inside.level in
    let m = node_view c.deref-node.result.now in
    let old = c.args.note.now in
    let first = record old { fault = c.check_limits-note.result } in
    ok_mapped c.push_parts.result _ _ (λ h. (parts c.args.primed m, h, read_let c.args.table.now c.args.notes.now (length c.args.notes.now) c.args.primed at l m c.in-Let.numbers.now c.in-Let.ensures.0 c.args.term.now old first c.read_let.new.note (ap (λ n. Placed c.term.inside.at c.term.inside.level (node_view n)) c.deref-node.ensures ∙ c.term.view_is) c.in-Let.ensures.1 c.requires.below (adds_limits at m old first (ap (λ f. record old { fault = f }) c.check_limits-note.ensures)) c.in_ok-read_let-in-Let.ensures)) c.push_parts.ensures

pub returns-in-Other : goal.returns-in-Other
returns-in-Other c =
    let at = c.term.inside.at in
    let l = c.term.inside.level in
    let m = node_view c.deref-node.result.now in
    let old = c.args.note.now in
    let first = record old { fault = c.check_limits-note.result } in
    ok_mapped c.push_parts-in-Other.result _ _ (λ h. (parts c.args.primed m, h, read_other c.args.table.now c.args.notes.now (length c.args.notes.now) c.args.primed at l m c.args.term.now old first (ap (λ n. Placed c.term.inside.at c.term.inside.level (node_view n)) c.deref-node.ensures ∙ c.term.view_is) c.in-Other.ensures c.requires.below (adds_limits at m old first (ap (λ f. record old { fault = f }) c.check_limits-note.ensures)))) c.push_parts-in-Other.ensures
