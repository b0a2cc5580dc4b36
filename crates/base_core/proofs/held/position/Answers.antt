use Rattle.std.proofs.Common.{◌≡◌, ◌∙◌, true, sym, refl}
use Rattle.std.specs.Str.{bytes_eq}
use Rattle.std.proofs.lemmas.Option.{slice_get_read}
use Rattle.base_core.proofs.Filling.{found_here, file_at}
use Rattle.base_core.proofs.held.position.Goals as goal

pub returns-then-eq : goal.returns-then-eq
returns-then-eq c =
    let f = c.index-files-i.result in
    let same : bytes_eq f.0 c.args.name.now ≡ true = rw (← c.as_str.ensures) (sym c.eq.ensures ∙ c.if-eq.true) in
    ((f.0, f.1.items), file_at c.args.files.now c.loop-i.i f (slice_get_read c.args.files.now _ c.loop-i.i f refl c.loop-i-test.true c.index-files-i.is), c.loop-i.invariant ∙ found_here _ _ _ f c.loop-i-test.true c.index-files-i.is same)
