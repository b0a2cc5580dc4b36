use Rattle.std.proofs.Common.{◌≡◌, ◌<◌, length, refl, sym}
use Rattle.std.proofs.lemmas.Option.{slice_get_read}
use Rattle.run_wide.specs.declared.resolution.ResolutionFault.TheVariants.{Names, Piece}
use Rattle.run_stages.proofs.Unresolved.{fault_is, piece_stands, unresolved_names, unresolved_piece}
use Rattle.run_stages.proofs.resolving.resolve_spec.Goals as goal

pub returns-in-Err-Names-clause-refused : goal.returns-in-Err-Names-clause-refused
returns-in-Err-Names-clause-refused c =
    let e = c.in-Err-Names in
    let h = fault_is c.args.job.now.wide c.args.program c.args.config c.args.job.now.silent c.args.notes _ e.field-0 (Names e.program e.config e.fault)
    c.as_ref-silent.ensures.value e.field-0-is e.ensures.refused in
    let files = rw c.in_ok-files-in-Err-Names.ensures at c.in_ok-names_refusal-in-Err-Names.ensures in
    unresolved_names c.args.job.now.wide c.args.program c.args.config c.args.job.now.silent c.args.notes e.program e.config e.fault _ h files

pub bounds-items-index : goal.bounds-items-index
bounds-items-index c =
    let e = c.in-Err-Piece in
    let h = fault_is c.args.job.now.wide c.args.program c.args.config c.args.job.now.silent c.args.notes _ e.field-0 (Piece e.index e.root)
    c.as_ref-silent.ensures.value e.field-0-is e.ensures.refused in
    rw c.items.ensures (piece_stands c.args.job.now.wide c.args.program c.args.config c.args.job.now.silent c.args.notes e.index e.root h)

pub returns-in-Err-Piece-clause-refused : goal.returns-in-Err-Piece-clause-refused
returns-in-Err-Piece-clause-refused c =
    let e = c.in-Err-Piece in
    let h = fault_is c.args.job.now.wide c.args.program c.args.config c.args.job.now.silent c.args.notes _ e.field-0 (Piece e.index e.root)
    c.as_ref-silent.ensures.value e.field-0-is e.ensures.refused in
    let low : e.index < length c.args.notes = piece_stands c.args.job.now.wide c.args.program c.args.config c.args.job.now.silent c.args.notes e.index e.root h in
    let read = rw c.items.ensures at c.index-items-index.is in
    let at = slice_get_read c.args.notes (length c.args.notes) e.index c.index-items-index.result refl low read in
    let refusal = rw (c.in_ok-files.ensures, ← c.index-items-index.is) at c.in_ok-piece_refusal-in-Err-Piece.ensures in
    unresolved_piece c.args.job.now.wide c.args.program c.args.config c.args.job.now.silent c.args.notes e.index e.root c.index-items-index.result _ h at refusal
