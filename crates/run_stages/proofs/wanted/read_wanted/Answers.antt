use Rattle.std.proofs.Common.{ap, Err}
use Rattle.run_stages.proofs.Stopping.{unread_stop}
use Rattle.run_stages.proofs.Told.{unread_told}
use Rattle.run_stages.proofs.wanted.read_wanted.Goals as goal

pub returns-in_ok-unread-in-Err-clause-stopped : goal.returns-in_ok-unread-in-Err-clause-stopped
returns-in_ok-unread-in-Err-clause-stopped g c =
    unread_stop (g.F.Files.holds c.args.files.now) (g.F.Files.faults c.args.files.now) (g.F.Files.faults c.read_file.new.files) c.args.job.now
    c.args.name.now c.args.limit c.in-Err.fault c.in_ok-unread-in-Err.field-0 c.requires (λ e. c.in-Err.ensures.missing (ap Err e)) (λ e. c.in-Err.ensures.too_long (ap Err e))
    (λ e. c.in-Err.ensures.failed (ap Err e)) c.in_ok-unread-in-Err.ensures

pub returns-in_ok-unread-in-Err-clause-told : goal.returns-in_ok-unread-in-Err-clause-told
returns-in_ok-unread-in-Err-clause-told g c =
    unread_told (g.F.Files.failures c.args.files.now) (g.F.Files.failures c.read_file.new.files) c.args.name.now c.in-Err.fault c.in_ok-unread-in-Err.field-0 c.in-Err.ensures.told
    c.in_ok-unread-in-Err.ensures
