use Rattle.std.proofs.Common.{sym}
use Rattle.logs_shapes.specs.Seen.{shape_seen}
use Rattle.logs_lines.proofs.StageLemmas.{init_read, init_unknown, init_unread, is_first}
use Rattle.logs_lines.proofs.reading.init_line.Goals as goal

pub returns-in_default : goal.returns-in_default
returns-in_default g c =
    let none = rw c.in_default.is at c.in_ok-sees.ensures in
    init_unread (g.N.SpecNames.setting c.args.names.now) c.args.at.now (shape_seen c.args.shape.now) (is_first c.args.at.now.first c.if-not-at.false) none

pub returns-then-not-knows_sees : goal.returns-then-not-knows_sees
returns-then-not-knows_sees g c =
    let read = rw c.in-Some.is at c.in_ok-sees.ensures in
    init_unknown (g.N.SpecNames.setting c.args.names.now) c.args.at.now (shape_seen c.args.shape.now) c.in-Some.sees (is_first c.args.at.now.first c.if-not-at.false) read (sym c.if-not-knows_sees.ensures)

pub returns : goal.returns
returns g c =
    let read = rw c.in-Some.is at c.in_ok-sees.ensures in
    init_read (g.N.SpecNames.setting c.args.names.now) c.args.at.now (shape_seen c.args.shape.now) c.in-Some.sees (is_first c.args.at.now.first c.if-not-at.false) read (sym c.if-not-knows_sees.ensures)
