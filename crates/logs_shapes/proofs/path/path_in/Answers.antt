use Rattle.std.proofs.Common.{sym}
use Rattle.logs_shapes.proofs.PartLemmas.{path_too_long, path_read}
use Rattle.logs_shapes.proofs.path.path_in.Goals as goal

pub returns-then-keys-gt-MAX_KEYS : goal.returns-then-keys-gt-MAX_KEYS
returns-then-keys-gt-MAX_KEYS c =
    sym (path_too_long c.args.items.now c.in_ok-first.keys.now c.in_ok-first.first.now c.in_ok-name.name.now c.in_ok-first.ensures.cases.0 (sym c.in_ok-name.ensures) c.if-keys-gt-MAX_KEYS.true)

pub returns : goal.returns
returns c =
    sym (path_read c.args.items.now c.in_ok-first.keys.now c.in_ok-first.first.now c.in_ok-name.name.now c.in_ok-first.ensures.cases.0 (sym c.in_ok-name.ensures) c.if-keys-gt-MAX_KEYS.false)
