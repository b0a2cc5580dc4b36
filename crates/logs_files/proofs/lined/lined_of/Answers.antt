use Rattle.std.proofs.Common.{refl, sym, true≢false}
use Rattle.logs_files.proofs.TiedFiles.{lined_one, lined_tied, tied_files}
use Rattle.logs_files.proofs.lined.lined_of.Goals as goal

pub returns-then-is_open-clause-lined : goal.returns-then-is_open-clause-lined
returns-then-is_open-clause-lined c =
    lined_tied c.args.ties c.args.files.items c.as_slice.result.now c.in_ok-logs.logs c.as_slice.ensures.value (c.if-is_open.ensures.0 refl) c.in_ok-logs.ensures

pub returns-then-is_open-clause-made : goal.returns-then-is_open-clause-made
returns-then-is_open-clause-made c = tied_files c.args.files.items c.in_ok-logs.logs c.requires.none_falls c.in_ok-logs.ensures

pub returns-clause-lined : goal.returns-clause-lined
returns-clause-lined c =
    lined_one c.args.ties c.args.files.items c.as_slice.result.now c.in_ok-log.log c.as_slice.ensures.value (λ h. true≢false (sym (c.if-is_open.ensures.1 h))) c.in_ok-log.ensures
