use Rattle.names_term_levels.specs.Conjuncts.{contribution_of}
use Rattle.names_term_levels.proofs.Shapes.{no_shape, none_gathered, shape_told, some_gathered}
use Rattle.names_term_levels.proofs.shape.specification.Goals as goal

pub returns-in-Some : goal.returns-in-Some
returns-in-Some c = shape_told c.args.table.now c.args.body.now (contribution_of c.in-Some.gathered) c.shaped.result (some_gathered c.args.table.now c.args.body.now c.in_ok-found.found c.in-Some.gathered c.in-Some.is c.in_ok-found.ensures) c.shaped.ensures

pub returns-in-None : goal.returns-in-None
returns-in-None c = no_shape c.args.table.now c.args.body.now (none_gathered c.args.table.now c.args.body.now c.in_ok-found.found c.in-None.is c.in_ok-found.ensures)
