use Rattle.std.proofs.Common.{◌≢◌, ◌∙◌, ◌<◌, ◌≤◌, sym, arith}
use Rattle.base_cuts.specs.Cuts.{taken}
use Rattle.steps_cut_source.proofs.Taking.{moved_none, moved_there}
use Rattle.steps_cut_source.proofs.lines.moved_file.Goals as goal

pub returns-then-taken : goal.returns-then-taken
returns-then-taken c =
    let long = c.requires.from in
    let other = c.requires.to in
    let below : c.loop-file.file < c.args.files = grind arith in
    let off : taken c.args.from.now c.loop-file.file ≢ taken c.args.to.now c.loop-file.file = grind arith in
    moved_there c.args.from.now c.args.to.now c.loop-file.file (omega (arith, below, long)) (other ∙ sym long) c.loop-file.invariant off

pub returns : goal.returns
returns c =
    let long = c.requires.from in
    let end : c.args.files ≤ c.loop-file.file = grind arith in
    sym long ∙ moved_none c.args.from.now c.args.to.now c.loop-file.file (omega (arith, end, long)) (c.requires.to ∙ sym long) c.loop-file.invariant
