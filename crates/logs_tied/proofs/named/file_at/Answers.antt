use Rattle.std.proofs.Common.{◌≡◌, ◌≤◌, true, false, length, arith}
use Rattle.logs_tied.proofs.Choosing.{IsThere, none_anywhere, none_more}
use Rattle.logs_tied.proofs.Taking.{not_off}
use Rattle.logs_tied.proofs.named.file_at.Goals as goal

pub returns-then-is_named : goal.returns-then-is_named
returns-then-is_named c =
    let yes : c.is_named.result ≡ true = grind arith in
    c.is_named.ensures.0 yes

pub loop-file-preserved : goal.loop-file-preserved
loop-file-preserved c =
    let off : c.is_named.result ≡ false = grind arith in
    none_more c.args.logs.now c.args.cut.now c.args.at c.loop-file.file c.loop-file.invariant
    (not_off {P = IsThere c.args.logs.now c.args.cut.now c.args.at c.loop-file.file} c.is_named.result c.is_named.ensures off)

pub returns : goal.returns
returns c =
    let end : length c.args.logs.now.files.items ≤ c.loop-file.file = grind arith in
    none_anywhere c.args.logs.now c.args.cut.now c.args.at c.requires.tied c.loop-file.file end c.loop-file.invariant
