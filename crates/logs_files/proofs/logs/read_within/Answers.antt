use Rattle.std.proofs.Common.{◌≡◌, [], length, Bool, Ok, Err, subst, refl, arith}
use Rattle.std.proofs.lemmas.List.{length-map}
use Rattle.logs_lines.specs.declared.clocks.ClockForm.TheVariants.{Free}
use Rattle.logs_files.specs.Logs.{FilesSay, texts_of}
use Rattle.logs_files.proofs.KeptFiles.{are_few, files_kept, none_falls}
use Rattle.logs_files.proofs.logs.read_within.Goals as goal

pub log_of-requires-clause-none_falls : goal.log_of-requires-clause-none_falls
log_of-requires-clause-none_falls g c =
    let says = rw c.in-Ok.is at c.in_ok-read.ensures in
    let kept = files_kept (g.N.SpecNames.setting c.args.names.now) c.line_laws.ensures.steps c.are_several.result (texts_of c.args.texts.now) c.args.room c.in-Ok.files.items (omega arith) says in
    none_falls (length (texts_of c.args.texts.now)) c.in-Ok.files.items kept

pub log_of-requires-clause-few_files : goal.log_of-requires-clause-few_files
log_of-requires-clause-few_files g c =
    let says = rw c.in-Ok.is at c.in_ok-read.ensures in
    let kept = files_kept (g.N.SpecNames.setting c.args.names.now) c.line_laws.ensures.steps c.are_several.result (texts_of c.args.texts.now) c.args.room c.in-Ok.files.items (omega arith) says in
    let count : length c.in-Ok.files.items ≡ length (texts_of c.args.texts.now) = kept.count in
    omega (arith, count, c.requires.few, length-map c.args.texts.now (λ text. text.items))

pub log_of-requires-clause-few_lines : goal.log_of-requires-clause-few_lines
log_of-requires-clause-few_lines g c =
    let says = rw c.in-Ok.is at c.in_ok-read.ensures in
    let kept = files_kept (g.N.SpecNames.setting c.args.names.now) c.line_laws.ensures.steps c.are_several.result (texts_of c.args.texts.now) c.args.room c.in-Ok.files.items (omega arith) says in
    are_few (length (texts_of c.args.texts.now)) c.in-Ok.files.items kept

pub returns-in_ok-log-in-Ok : goal.returns-in_ok-log-in-Ok
returns-in_ok-log-in-Ok g c =
    let texts = texts_of c.args.texts.now in
    let says = rw c.in-Ok.is at c.in_ok-read.ensures in (
      Ok c.in-Ok.files.items,
      subst (λ (many : Bool). FilesSay (g.N.SpecNames.setting c.args.names.now) many 1 c.args.room Free [] texts (Ok c.in-Ok.files.items)) c.are_several.ensures says,
      (c.in_ok-log-in-Ok.log, c.in_ok-log-in-Ok.ensures, refl),
    )

pub returns-in-Err : goal.returns-in-Err
returns-in-Err g c =
    let texts = texts_of c.args.texts.now in
    let says = rw c.in-Err.is at c.in_ok-read.ensures in (
      Err c.in-Err.refusal,
      subst (λ (many : Bool). FilesSay (g.N.SpecNames.setting c.args.names.now) many 1 c.args.room Free [] texts (Err c.in-Err.refusal)) c.are_several.ensures says,
      refl,
    )
