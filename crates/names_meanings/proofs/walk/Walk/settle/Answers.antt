use Rattle.std.proofs.Common.{refl, []}
use Rattle.names_meanings.proofs.AroundLemmas.{order_settled, row_within, settled_table, settled_row, settled_kept, settled_named}
use Rattle.names_meanings.proofs.walk.Walk.settle.Goals as goal

pub set_body-requires : goal.set_body-requires
set_body-requires c = record { within = row_within c.args.self.now c.self.inside.names.now c.self.inside.scope c.self.inside.table c.args.number.0 _ c.self.view_is c.requires.kept }

pub returns-clause-table : goal.returns-clause-table
returns-clause-table c = settled_row c.args.self.now c.self.inside.names.now c.self.inside.scope c.self.inside.table c.set_body.new.self c.args.number.0 _ c.args.body c.self.view_is c.requires.kept (c.set_body.ensures _)

pub returns-clause-ordered : goal.returns-clause-ordered
returns-clause-ordered c =
    order_settled c.args.self.now c.self.inside.names.now c.self.inside.scope c.self.inside.table c.set_body.new.self c.args.number.0 _ c.self.view_is (settled_table c.args.self.now c.self.inside.names.now c.self.inside.scope c.self.inside.table c.set_body.new.self c.args.number.0 _ c.args.body c.self.view_is c.requires.kept (c.set_body.ensures _)) refl c.requires.constant c.requires.below

pub invariant_of-self : goal.invariant_of-self
invariant_of-self c =
    settled_kept c.args.self.now c.self.inside.names.now c.self.inside.scope c.push.new.self c.self.inside.table c.set_body.new.self c.args.number.0 _ c.args.body c.self.view_is c.requires.kept (c.set_body.ensures _) c.in_err-push.ensures.kept c.self.invariant

pub invariant_of-self-2 : goal.invariant_of-self-2
invariant_of-self-2 c =
    settled_named c.args.self.now c.self.inside.names.now c.self.inside.scope c.push.new.self c.self.inside.table c.set_body.new.self c.in_ok-name.name c.args.number c.args.params _ c.args.body c.self.view_is c.requires.kept (c.set_body.ensures _) c.in_ok-push.ensures.pushed c.self.invariant
