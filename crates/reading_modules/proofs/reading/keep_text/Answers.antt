-- proofs/reading/keep_text/Answers.antt
use Rattle.reading_modules.proofs.Kept.{texts_sought}
use Rattle.reading_modules.proofs.reading.keep_text.Goals as goal

pub returns-in-Ok-clause-kept : goal.returns-in-Ok-clause-kept
returns-in-Ok-clause-kept g c =
    texts_sought (g.F.Files.holds c.args.files.now) c.args.folder.now c.args.modules.now c.push.new.self c.args.texts.now.items c.push-in-Ok.new.self.items c.args.name.now
    c.in_ok-copy.field-0 c.in_ok-file.file c.in-Ok.bytes c.requires.kept c.in_ok-push.ensures.pushed c.in_ok-copy.ensures c.in_ok-push-in-Ok.ensures.items c.in_ok-file.ensures
    c.in-Ok.ensures.text
