use Rattle.std.proofs.lemmas.Bool.{false≢true}
use Rattle.run_words.proofs.ModuleLaws.{module_name}
use Rattle.run_words.proofs.name.is_module.Goals as goal

pub returns-in-Some : goal.returns-in-Some
returns-in-Some c =
    let is = rw c.as_bytes.ensures.value at c.is_name.ensures in (
      λ h. record { folder = _; name = _; parts = c.in-Some.ensures; named = is.0 h },
      λ m. is.1 (module_name c.args.path.now _ _ c.in-Some.ensures m),
    )

pub returns-in-None : goal.returns-in-None
returns-in-None c = (λ h. absurd (false≢true h), λ m. absurd (c.in-None.ensures m.folder m.name m.parts))
