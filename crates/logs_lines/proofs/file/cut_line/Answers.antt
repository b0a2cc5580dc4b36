use Rattle.std.proofs.Common.{sym, arith, length-drop, length-take, ℕ}
use Rattle.logs_lines.proofs.CutLemmas.{cut_some, cut_none}
use Rattle.logs_lines.proofs.file.cut_line.Goals as goal

pub returns-in-Some : goal.returns-in-Some
returns-in-Some c = (
  cut_some c.args.bytes.now c.in-Some.i (sym c.in-Some.ensures.place),
  omega (arith, c.in-Some.ensures.within, length-drop {A = ℕ}, length-take {A = ℕ}),
)

pub returns-in-None : goal.returns-in-None
returns-in-None c = cut_none c.args.bytes.now (sym c.in-None.ensures.place)
