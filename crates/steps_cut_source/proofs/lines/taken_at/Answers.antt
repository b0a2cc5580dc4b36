use Rattle.std.proofs.Common.{◌∙◌, ap}
use Rattle.steps_lines_defs.specs.Logs.{place_of_line}
use Rattle.base_cuts.specs.Cuts.{next}
use Rattle.steps_tied.specs.Tied.{line_at}
use Rattle.steps_cut_source.proofs.Taking.{place_none, place_some}
use Rattle.steps_cut_source.proofs.lines.taken_at.Goals as goal

pub returns-in-Some : goal.returns-in-Some
returns-in-Some c =
    place_some c.args.logs.now.files.items c.args.from.now c.moved_file-file.result c.in-Some.line.now c.in-Some.ensures
    ∙ ap (λ f. place_of_line (line_at c.args.logs.now.files.items (next c.args.from.now f))) c.moved_file-file.ensures

pub returns-in-None : goal.returns-in-None
returns-in-None c =
    place_none c.args.logs.now.files.items c.args.from.now c.moved_file-file.result c.in-None.ensures
    ∙ ap (λ f. place_of_line (line_at c.args.logs.now.files.items (next c.args.from.now f))) c.moved_file-file.ensures
