-- What is read is spelled so.
use Rattle.std.proofs.Common.{List, [], ◌∷◌, refl, subst}
use Rattle.reading_trees.specs.declared.laid.Laid.{Laid}
use Rattle.reading_trees.specs.Fits.{Spells}
use Rattle.reading_machine.specs.declared.frame.Frame.{Frame}
use Rattle.reading_machine.specs.declared.frame.Mode.{Mode}
use Rattle.reading_machine.specs.Machine.{Stepped, Reads, Stops, Clashes, Ends, EndsDefinition, step, Outcome, EndsAt, EndsDefinitionAt, after, run}
use Rattle.reading_machine.proofs.Opened.{Opened, Defines, Good}
use Rattle.reading_machine.proofs.Stepping.{reads_good}
use Rattle.reading_machine.specs.Laws.{ReadSpells, DefinitionSpells}
use Rattle.reading_machine.specs.declared.frame.Scope.TheVariants as scopes
use Rattle.reading_machine.specs.declared.frame.Mode.TheVariants as mode

-- what is read is spelled so, whatever was read before
abbrev IsRead : List Laid → List Laid → Outcome → Type 0
IsRead xs here (EndsAt e rest) = Spells e xs rest
IsRead xs here (EndsDefinitionAt n p ns form e rest) = Defines n p ns form e xs rest
IsRead xs here _ = Unit {0}

after_good : (xs here r : List Laid) (x : Stepped) (next : List Frame → Mode → Outcome) → Good xs here r x → ((fs : List Frame) (m : Mode) → Opened xs fs m r → IsRead xs r (next fs m)) → IsRead xs here (after x here next)
after_good xs here r (Reads fs m) next a g = g fs m a
after_good xs here r Stops next a g = tt
after_good xs here r (Clashes p q) next a g = tt
after_good xs here r (Ends e) next a g = a
after_good xs here r (EndsDefinition n p ns form e) next a g = a

run_good : (r xs : List Laid) (fs : List Frame) (m : Mode) → Opened xs fs m r → IsRead xs r (run r fs m)
run_good [] xs fs m a = tt
run_good (x ∷ r) xs fs m a =
    after_good xs (x ∷ r) r (step x fs m) (run r) (reads_good xs r x fs m a.0.0 a.0.1 a.0.2 a.1 a.2) (λ gs n b. run_good r xs gs n b)

pub read_spells : ReadSpells
read_spells xs rest e i = subst (λ o. IsRead xs xs o) i (run_good xs xs [] mode.Want ((xs, refl, refl), tt, tt))

pub definition_spells : DefinitionSpells
definition_spells xs rest n p ns form e i = subst (λ o. IsRead xs xs o) i (run_good xs xs [] (mode.DefinitionName scopes.Unit) ((xs, refl, refl), tt, (refl, tt)))
