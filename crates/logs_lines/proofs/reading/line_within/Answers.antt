use Rattle.std.proofs.Common.{◌≤◌, length, rules}
use Rattle.logs_lines.specs.Lines.{IsBlank}
use Rattle.logs_lines.proofs.StageLemmas.{line_read}
use Rattle.logs_lines.proofs.reading.line_within.Goals as goal

pub returns : goal.returns
returns g c =
    let short : length c.args.bytes.now ≤ 1048576 = search rules in
    let full : IsBlank c.args.bytes.now → ⊥ = search rules in
    line_read (g.N.SpecNames.setting c.args.names.now) c.args.at.now c.args.bytes.now c.text_line.result short full c.text_line.ensures
