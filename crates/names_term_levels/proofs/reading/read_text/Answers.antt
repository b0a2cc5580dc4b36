use Rattle.std.proofs.Common.{◌∙◌, ap, refl, [], ◌∷◌, ◌++◌, length, false}
use Rattle.names_term_parts.specs.Parts.{part}
use Rattle.names_term_parts.specs.Waiting.{waiting}
use Rattle.names_term_parts.proofs.Lists.{waiting-push}
use Rattle.names_term_levels.proofs.Noted.{popped_nothing}
use Rattle.names_term_levels.proofs.Ways.{begins, goes_on, gets_less, top_below, is_told}
use Rattle.names_term_levels.proofs.reading.read_text.Goals as goal

pub read-requires-clause-below : goal.read-requires-clause-below
read-requires-clause-below c =
    let p = c.in-Some.pending in
    top_below c.args.table.now c.args.notes.now (length c.args.notes.now) (part false c.args.term.now) (part p.primed p.term.now) (waiting c.loop-pending.stack.items) (waiting c.pop.new.self.items) c.loop-pending.note (ap waiting c.in-Some.ensures.items ∙ waiting-push c.pop.new.self.items p) c.loop-pending.invariant

pub loop-pending-init : goal.loop-pending-init
loop-pending-init c =
    begins c.args.table.now c.args.notes.now (length c.args.notes.now) (part false c.args.term.now) (waiting c.push.new.stack.items) _ (c.in_ok-push.ensures ∙ ap (λ xs. waiting xs ++ part false c.args.term.now ∷ []) c.new-stack.ensures.items) c.new.ensures c.new-2.ensures refl c.requires.below

pub loop-pending-smaller : goal.loop-pending-smaller
loop-pending-smaller c =
    let p = c.in-Some.pending in
    gets_less c.args.table.now c.args.notes.now (length c.args.notes.now) (part p.primed p.term.now) (waiting c.loop-pending.stack.items) (waiting c.pop.new.self.items) (waiting c.read.new.stack.items) c.loop-pending.note c.read.new.note (ap waiting c.in-Some.ensures.items ∙ waiting-push c.pop.new.self.items p) c.in_ok-read.ensures

pub loop-pending-preserved : goal.loop-pending-preserved
loop-pending-preserved c =
    let p = c.in-Some.pending in
    goes_on c.args.table.now c.args.notes.now (length c.args.notes.now) (part false c.args.term.now) (part p.primed p.term.now) (waiting c.loop-pending.stack.items) (waiting c.pop.new.self.items) (waiting c.read.new.stack.items) c.loop-pending.note c.read.new.note (ap waiting c.in-Some.ensures.items ∙ waiting-push c.pop.new.self.items p) c.in_ok-read.ensures c.loop-pending.invariant

pub returns : goal.returns
returns c = is_told c.args.table.now c.args.notes.now (length c.args.notes.now) c.args.term.now (waiting c.loop-pending.stack.items) c.loop-pending.note (ap waiting (popped_nothing c.loop-pending.stack.items c.pop.new.self.items _ c.in_default.ensures.items c.in_default.ensures.rest c.in_default.ensures.cases.0)) c.loop-pending.invariant
