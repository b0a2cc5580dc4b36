use Rattle.names_program.proofs.NumberLemmas.{among_in}
use Rattle.names_program.proofs.numbered.add_by_definition.Goals as goal

pub add_to_definition-requires : goal.add_to_definition-requires
add_to_definition-requires c =
    record { within = among_in _ c.args.all.now c.args.name.now c.in-Some.first.now.is c.requires.within c.in-Some.ensures }
