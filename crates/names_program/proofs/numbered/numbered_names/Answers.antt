use Rattle.std.proofs.Common.{◌∙◌, ap, refl}
use Rattle.names_program.specs.Names.{numbered, numbers_of}
use Rattle.names_program.specs.Told.{told}
use Rattle.names_program.proofs.Cuts.{part_end}
use Rattle.names_program.proofs.NumberLemmas.{numbered_are, numbered_within}
use Rattle.names_program.proofs.numbered.numbered_names.Goals as goal

pub returns-clause-are : goal.returns-clause-are
returns-clause-are c =
    let all = c.args.names.now in
    let number = numbers_of c.args.numbers.now in
    numbered_are number all c.loop-entry.found (part_end (told (numbered number) all) refl _ _ c.items-entry-items.result.now c.loop-entry.entry-index c.loop-entry-test.false c.loop-entry.invariant ∙ ap (told (numbered number) all) c.items-entry-items.ensures)

pub returns-clause-within : goal.returns-clause-within
returns-clause-within c =
    let all = c.args.names.now in
    let number = numbers_of c.args.numbers.now in
    numbered_within number all c.loop-entry.found (part_end (told (numbered number) all) refl _ _ c.items-entry-items.result.now c.loop-entry.entry-index c.loop-entry-test.false c.loop-entry.invariant ∙ ap (told (numbered number) all) c.items-entry-items.ensures)
