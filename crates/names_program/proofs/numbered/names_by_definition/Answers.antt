use Rattle.std.proofs.Common.{◌∙◌, ap, refl}
use Rattle.names_program.specs.Names.{only_definition}
use Rattle.names_program.specs.Told.{told}
use Rattle.names_program.proofs.Cuts.{part_end}
use Rattle.names_program.proofs.NumberLemmas.{by_definition_are}
use Rattle.names_program.proofs.numbered.names_by_definition.Goals as goal

pub returns-clause-are : goal.returns-clause-are
returns-clause-are c =
    let all = c.args.names.now in
    by_definition_are all c.loop-entry.lists.items (λ i. part_end (told (only_definition i) all) refl _ _ c.items-entry-items.result.now c.loop-entry.entry-index c.loop-entry-test.false (c.loop-entry.invariant.1 i) ∙ ap (told (only_definition i) all) c.items-entry-items.ensures)
