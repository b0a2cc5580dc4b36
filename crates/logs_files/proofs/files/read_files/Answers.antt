use Rattle.std.proofs.Common.{◌≡◌, ◌<◌, ◌+◌, length, List, ℕ, arith, refl, subst, sym}
use Rattle.std.proofs.lemmas.List.{length-map}
use Rattle.logs_files.specs.Logs.{texts_of}
use Rattle.logs_files.proofs.FileLemmas.{begun, ended, read_next, short_text, stopped, text_at}
use Rattle.logs_files.proofs.files.read_files.Goals as goal

pub loop-text-init : goal.loop-text-init
loop-text-init g c = begun (g.N.SpecNames.setting c.args.names.now) c.args.many c.args.room (texts_of c.args.texts.now) _ refl refl refl c.in_ok-found.ensures.items

pub read_on-requires-clause-short : goal.read_on-requires-clause-short
read_on-requires-clause-short g c =
    let short = short_text 67108865 c.args.texts.now c.loop-text.text-index c.text-item.result c.loop-text-test.true c.text-item.is c.requires.short in
    subst (λ (t : List ℕ). length t < 67108865) (sym c.as_slice.ensures.value) short

pub read_on-requires-clause-file : goal.read_on-requires-clause-file
read_on-requires-clause-file g c =
    let file : c.loop-text.reading.file ≡ c.loop-text.text-index + 1 = c.loop-text.invariant.file in
    omega (arith, file, c.loop-text-test.true, c.requires.few)

pub returns-in-Err : goal.returns-in-Err
returns-in-Err g c =
    let all = c.args.texts.now in
    let text = text_at all c.loop-text.text-index c.text-item.result c.loop-text-test.true c.text-item.is in
    let on = rw (c.in-Err.is, c.as_slice.ensures.value) at c.in_ok-read.ensures.says in
    stopped (g.N.SpecNames.setting c.args.names.now) c.args.many c.args.room (texts_of all) c.loop-text.text-index c.loop-text.reading c.text-item.result.items c.in-Err.refusal
    c.loop-text.invariant text on

pub loop-text-preserved : goal.loop-text-preserved
loop-text-preserved g c =
    let all = c.args.texts.now in
    let text = text_at all c.loop-text.text-index c.text-item.result c.loop-text-test.true c.text-item.is in
    let on = rw (c.in-Ok.is, c.as_slice.ensures.value) at c.in_ok-read.ensures.says in
    let counted = rw c.in-Ok.is at c.in_ok-read.ensures.counted in
    read_next (g.N.SpecNames.setting c.args.names.now) c.args.many c.args.room (texts_of all) c.loop-text.text-index c.loop-text.reading c.in-Ok.next c.text-item.result.items
    c.loop-text.invariant text on counted

pub returns : goal.returns
returns g c =
    let all = c.args.texts.now in
    ended (g.N.SpecNames.setting c.args.names.now) c.args.many c.args.room (texts_of all) c.loop-text.text-index c.loop-text.reading c.loop-text.invariant
    (omega (arith, c.loop-text-test.false, length-map all (λ text. text.items)))
