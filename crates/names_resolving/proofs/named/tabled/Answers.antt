use Rattle.std.proofs.Common.{ap}
use Rattle.names_program.specs.Names.{numbers_of}
use Rattle.names_resolving.proofs.Naming.{are_below, is_named}
use Rattle.names_resolving.proofs.named.tabled.Goals as goal
use Rattle.std.specs.Prelude.{length}

pub returns-clause-named : goal.returns-clause-named
returns-clause-named c =
    is_named c.args.program.now c.args.config.now c.args.values.now (numbers_of c.in_ok-table.table.numbers.items) (numbers_of c.assumption_terms.new.table.numbers.items) c.in_ok-table.table.operators c.assumption_terms.new.table.operators c.in_ok-assumes.assumes c.requires.few c.requires.fine c.requires.valued c.requires.spelled
    (c.in_ok-table.ensures.lasting c.args.values.now c.requires.are) c.in_ok-assumes.ensures.grown c.in_ok-assumes.ensures.unnamed c.in_ok-assumes.ensures.smaller
    (c.in_ok-assumes.ensures.meant c.args.values.now (c.in_ok-table.ensures.are c.args.values.now c.requires.are)) (ap (λ v. numbers_of v.items) c.in_ok-assumes.ensures.numbers)

pub returns-clause-below : goal.returns-clause-below
returns-clause-below c = are_below (length c.assumption_terms.new.table.operators) c.in_ok-assumes.assumes c.in_ok-assumes.ensures.below
