use Rattle.std.proofs.Common.{◌≡◌, sym, arith, length, inl, inr}
use Rattle.names_term_parts.proofs.slots.Slots.absorb.Goals.{then-below-marks, else-below-marks}
use Rattle.names_term_parts.proofs.Marks.{absorbs_none, absorbs_more, absorbs_all}
use Rattle.names_term_parts.proofs.slots.Slots.absorb.Goals as goal

pub loop-slot-init : goal.loop-slot-init
loop-slot-init c = absorbs_none c.args.self.now c.args.other.now

pub loop-slot-preserved : goal.loop-slot-preserved
loop-slot-preserved c = absorbs_more c.loop-slot.slot c.args.self.now c.args.other.now c.loop-slot.self c.take.new.self c.loop-slot.invariant c.in_ok-take.ensures

pub returns : goal.returns
returns c =
    let count : length c.args.other.now ≡ c.count-marks.result = sym c.count-marks.ensures in
    let end : c.loop-slot.slot ≡ c.if-below-marks.end = omega arith in
    elim c.if-below-marks.branch [
      | then-below-marks w ↦ let lt = w.if-below-marks.true in let e = w.end-is in absorbs_all c.loop-slot.slot c.args.below c.args.self.now c.args.other.now c.loop-slot.self (omega arith) (inl (omega arith)) c.loop-slot.invariant
      | else-below-marks w ↦ let ge = w.if-below-marks.false in let e = w.end-is in absorbs_all c.loop-slot.slot c.args.below c.args.self.now c.args.other.now c.loop-slot.self (omega arith) (inr (omega arith)) c.loop-slot.invariant
    ]
