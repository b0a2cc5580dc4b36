-- proofs/reading/read_module/Answers.antt
use Rattle.std.proofs.Common.{refl, ℕ, ◌≡◌, arith}
use Rattle.reading_modules.specs.Flattened.{number_of}
use Rattle.reading_modules.specs.Paths.{file_of}
use Rattle.reading_modules.proofs.FromFiles.{refuses_unread, bytes_are_told, bytes_caused}
use Rattle.reading_modules.proofs.Going.{stays_quiet}
use Rattle.reading_modules.proofs.Kept.{number_at, number_few, text_room, text_found, module_found, module_refused}
use Rattle.reading_modules.proofs.reading.read_module.Goals as goal

pub overflow_cast-number : goal.overflow_cast-number
overflow_cast-number g c =
    let n = c.number_of-number.result in
    let modules = c.args.modules.now in
    let low = number_few n c.args.name.now modules (number_at n c.args.name.now c.items.result.now modules c.number_of-number.ensures c.items.ensures) c.requires.few in
    omega (arith, low)

pub index-requires : goal.index-requires
index-requires g c =
    let n = c.number_of-number.result in
    let modules = c.args.modules.now in
    let low = text_room (g.F.Files.holds c.args.files.now) c.args.folder.now c.args.name.now modules c.keep_text.new.modules c.keep_text.new.texts.items n c.in-Ok.ensures.kept
    c.in-Ok.ensures.sought (number_at n c.args.name.now c.items.result.now modules c.number_of-number.ensures c.items.ensures) in
    omega (arith, low, c.keep_text.new.texts.ok.0)

pub spelled_as-requires : goal.spelled_as-requires
spelled_as-requires g c =
    let n = c.number_of-number.result in
    let modules = c.args.modules.now in
    let text = text_found (g.F.Files.holds c.args.files.now) c.args.folder.now c.args.name.now modules c.keep_text.new.modules c.keep_text.new.texts.items n c.index.result.now
    c.deref.result.now c.in-Ok.ensures.kept c.in-Ok.ensures.sought (number_at n c.args.name.now c.items.result.now modules c.number_of-number.ensures c.items.ensures) c.index.ensures
    c.deref.ensures.value in
    text.short

pub returns-in-Ok-clause-read : goal.returns-in-Ok-clause-read
returns-in-Ok-clause-read g c =
    let n = c.number_of-number.result in
    let modules = c.args.modules.now in
    let at : n ≡ number_of c.args.name.now modules = number_at n c.args.name.now c.items.result.now modules c.number_of-number.ensures c.items.ensures in
    let text = text_found (g.F.Files.holds c.args.files.now) c.args.folder.now c.args.name.now modules c.keep_text.new.modules c.keep_text.new.texts.items n c.index.result.now
    c.deref.result.now c.in-Ok.ensures.kept c.in-Ok.ensures.sought at c.index.ensures c.deref.ensures.value in
    module_found (g.R.ModuleReader.reading c.args.reader.now) (g.F.Files.holds c.args.files.now) c.args.folder.now n (number_of c.args.name.now modules) c.args.name.now
    c.deref.result.now c.spelled_as.result at text c.spelled_as.ensures.spelled c.spelled_as.ensures.named

pub returns-in-Ok-clause-refused : goal.returns-in-Ok-clause-refused
returns-in-Ok-clause-refused g c =
    let n = c.number_of-number.result in
    let modules = c.args.modules.now in
    let at : n ≡ number_of c.args.name.now modules = number_at n c.args.name.now c.items.result.now modules c.number_of-number.ensures c.items.ensures in
    let text = text_found (g.F.Files.holds c.args.files.now) c.args.folder.now c.args.name.now modules c.keep_text.new.modules c.keep_text.new.texts.items n c.index.result.now
    c.deref.result.now c.in-Ok.ensures.kept c.in-Ok.ensures.sought at c.index.ensures c.deref.ensures.value in
    module_refused (g.R.ModuleReader.reading c.args.reader.now) (g.F.Files.holds c.args.files.now) c.args.folder.now n (number_of c.args.name.now modules) c.args.name.now
    c.deref.result.now c.spelled_as.result at text c.spelled_as.ensures.refused

pub returns-in-Ok-clause-caused : goal.returns-in-Ok-clause-caused
returns-in-Ok-clause-caused g c =
    bytes_caused (g.R.ModuleReader.reading c.args.reader.now) (g.F.Files.holds c.args.files.now) (g.F.Files.faults c.args.files.now)
    (g.F.Files.faults c.keep_text.new.files) c.number_of-number.result c.deref.result.now c.args.name.now c.spelled_as.result c.spelled_as.ensures.refused

pub returns-in-Ok-clause-told : goal.returns-in-Ok-clause-told
returns-in-Ok-clause-told g c =
    bytes_are_told (g.R.ModuleReader.reading c.args.reader.now) (g.F.Files.failures c.args.files.now) (g.F.Files.failures c.keep_text.new.files) c.number_of-number.result c.deref.result.now
    c.args.name.now c.spelled_as.result c.in-Ok.ensures.quiet c.spelled_as.ensures.refused

pub returns-in-Ok-clause-quiet : goal.returns-in-Ok-clause-quiet
returns-in-Ok-clause-quiet g c = stays_quiet (g.F.Files.failures c.args.files.now) (g.F.Files.failures c.keep_text.new.files) c.spelled_as.result c.in-Ok.ensures.quiet

pub returns-in-Err-clause-refused : goal.returns-in-Err-clause-refused
returns-in-Err-clause-refused g c =
    refuses_unread (g.R.ModuleReader.reading c.args.reader.now) (g.F.Files.holds c.args.files.now) c.args.folder.now (number_of c.args.name.now c.args.modules.now) c.args.name.now
    (file_of c.args.folder.now c.args.name.now) c.in-Err.stop refl c.in-Err.ensures.refused
