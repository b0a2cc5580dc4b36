use Rattle.std.proofs.Common.{rules, FitsSigned, w64}
use Rattle.std.specs.Int.Signed.{lt_z_no}
use Rattle.std.proofs.lemmas.Int.{to_z-of_z}
use Rattle.logs_lines.proofs.clocks.number_fall.Goals as goal

pub returns : goal.returns
returns c =
    let now : FitsSigned w64 c.args.now = search rules in
    let before : FitsSigned w64 c.args.before = search rules in
    let kept = rw (to_z-of_z w64 c.args.now now, to_z-of_z w64 c.args.before before) at c.if-now-before.false in
    lt_z_no (rw kept tt)
