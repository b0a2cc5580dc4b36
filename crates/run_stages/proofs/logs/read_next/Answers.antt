use Rattle.std.proofs.Common.{◌≡◌, ◌+◌, ap, refl, length, ℕ, List}
use Rattle.run_stages.specs.Logs.{read_of}
use Rattle.run_stages.proofs.OnTheWay.{log_said, next_way, wants_next}
use Rattle.run_stages.proofs.Stopping.{log_stop}
use Rattle.run_stages.proofs.logs.read_next.Goals as goal

pub read_wanted-requires : goal.read_wanted-requires
read_wanted-requires g c = wants_next (g.F.Files.holds c.args.files.now) c.args.course c.args.so c.args.name.now c.requires.way.0 c.requires.way.1

pub returns-in_ok-push-in-Ok-clause-read : goal.returns-in_ok-push-in-Ok-clause-read
returns-in_ok-push-in-Ok-clause-read g c = λ rest way.
    let says = rw (c.in-Ok.is, c.as_slice-piece.ensures.value, c.len-many.ensures, c.requires.names) at c.in_ok-file.ensures in
    let law = rw c.requires.names at c.line_laws.ensures.steps in
    next_way (g.F.Files.holds c.args.files.now) c.args.course c.args.so
    (record { number = c.args.so.number + 1; bytes = c.args.so.bytes + length c.as_slice-piece.result.now; steps = c.args.so.steps + c.len-count.result; form = c.in-Ok.file.form; found = c.push.new.self })
    c.args.name.now c.in_ok-text.text.items rest c.in-Ok.file law way c.in_ok-text.ensures.text says refl (ap (λ (t : List ℕ). c.args.so.bytes + length t) c.as_slice-piece.ensures.value)
    (ap (λ n. c.args.so.steps + n) c.len-count.ensures) refl c.in_ok-push-in-Ok.ensures.items

pub returns-in_ok-log_refusal-in-Err-clause-stopped : goal.returns-in_ok-log_refusal-in-Err-clause-stopped
returns-in_ok-log_refusal-in-Err-clause-stopped g c =
    let rest = c.requires.way.0 in
    let way = c.requires.way.1 in
    let says = rw (c.in-Err.is, c.as_slice-piece.ensures.value, c.len-many.ensures, c.requires.names) at c.in_ok-file.ensures in
    let report = rw c.as_str.ensures at c.in_ok-log_refusal-in-Err.ensures in
    log_stop (g.F.Files.holds c.args.files.now) (g.F.Files.faults c.args.files.now) (g.F.Files.faults c.read_wanted.new.files) c.args.course.job.now
    c.args.course.program.now c.args.course.config.now c.args.course.spec.now (read_of c.args.so) c.args.name.now rest c.in_ok-text.text.items _ c.in-Err.refusal
    way.reaches c.in_ok-text.ensures.text
    (log_said (g.F.Files.holds c.args.files.now) c.args.course c.args.so c.args.name.now c.in_ok-text.text.items rest _ way says) report
