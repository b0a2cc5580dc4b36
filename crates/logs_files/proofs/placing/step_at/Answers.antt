use Rattle.std.proofs.Common.{length, refl}
use Rattle.std.proofs.lemmas.Option.{slice_get_read}
use Rattle.logs_files.proofs.PlaceLemmas.{file_within, not_past}
use Rattle.logs_files.proofs.placing.step_at.Goals as goal

pub bounds-files-place : goal.bounds-files-place
bounds-files-place c = file_within c.args.files.now c.args.place c.requires

pub unreachable-requires : goal.unreachable-requires
unreachable-requires c =
    let files = c.args.files.now in
    let file = slice_get_read files (length files) c.args.place.file c.index-files-place.result refl (file_within files c.args.place c.requires) c.index-files-place.is in
    not_past files c.args.place c.index-files-place.result c.requires file c.in-None.ensures

pub returns : goal.returns
returns c =
    let files = c.args.files.now in
    let file = slice_get_read files (length files) c.args.place.file c.index-files-place.result refl (file_within files c.args.place c.requires) c.index-files-place.is in
    (c.index-files-place.result, file, c.in-Some.ensures)
