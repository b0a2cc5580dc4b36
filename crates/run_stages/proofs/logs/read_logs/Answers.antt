use Rattle.std.proofs.Common.{rules, ◌≡◌, ◌≤◌, IfErr, drop, sym}
use Rattle.run_stages.specs.Stops.{IsToldBy, StopsBy}
use Rattle.run_stages.proofs.OnTheWay.{are_few, few_lines, none_falls}
use Rattle.run_stages.proofs.Stopping.{err_later}
use Rattle.run_stages.proofs.Told.{are_told_from}
use Rattle.run_stages.proofs.logs.read_logs.Goals as goal

pub returns-in_err-so-clause-stopped : goal.returns-in_err-so-clause-stopped
returns-in_err-so-clause-stopped g c =
    let q : IfErr c.from_residual-in_err-so.result (StopsBy (g.F.Files.holds c.loop-name.files) (g.F.Files.faults c.loop-name.files) (g.F.Files.faults c.read_next.new.files) c.args.course.job.now) = search rules in
    err_later (g.F.Files.holds c.args.files.now) (g.F.Files.holds c.loop-name.files) (g.F.Files.faults c.args.files.now) (g.F.Files.faults c.loop-name.files) (g.F.Files.faults c.read_next.new.files)
    c.args.course.job.now c.from_residual-in_err-so.result c.loop-name.invariant.0 c.loop-name.invariant.1 q

pub lined_of-requires-clause-none_falls : goal.lined_of-requires-clause-none_falls
lined_of-requires-clause-none_falls g c =
    none_falls (g.F.Files.holds c.args.files.now) c.args.course c.loop-name.so _ c.loop-name.invariant.4

pub lined_of-requires-clause-few_lines : goal.lined_of-requires-clause-few_lines
lined_of-requires-clause-few_lines g c =
    are_few (g.F.Files.holds c.args.files.now) c.args.course c.loop-name.so _ c.loop-name.invariant.4

pub returns-clause-few : goal.returns-clause-few
returns-clause-few g c =
    few_lines (g.F.Files.holds c.args.files.now) c.args.course c.loop-name.so _ c.loop-name.invariant.4 _ c.in_ok-lined.lined c.in_ok-lined.ensures.lined

pub returns-in_err-so-clause-told : goal.returns-in_err-so-clause-told
returns-in_err-so-clause-told g c =
    let q : IfErr c.from_residual-in_err-so.result (IsToldBy (g.F.Files.failures c.loop-name.files) (g.F.Files.failures c.read_next.new.files)) = search rules in
    are_told_from (g.F.Files.failures c.args.files.now) (g.F.Files.failures c.loop-name.files) (g.F.Files.failures c.read_next.new.files) c.from_residual-in_err-so.result c.loop-name.invariant.2 q
