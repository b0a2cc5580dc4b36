use Rattle.names_meanings.proofs.OwnCalls.{kept_means, kept_waits, ended_added, ended_settled}
use Rattle.names_meanings.proofs.own.end.Goals as goal

pub define-requires : goal.define-requires
define-requires c = kept_means c.args.walk.now c.args.definition.now c.args.body c.args.place c.in-None.is c.requires

pub returns-in-None : goal.returns-in-None
returns-in-None c =
    ended_added c.args.walk.now c.define.new.self c.args.definition.now c.args.body c.args.place c.len.result c.define.result c.in-None.is c.len.ensures c.define.ensures.number c.define.ensures.names c.define.ensures.scope c.define.ensures.table c.define.ensures.ordered

pub settle-requires-clause-kept : goal.settle-requires-clause-kept
settle-requires-clause-kept c = (kept_waits c.args.walk.now c.args.definition.now c.args.body c.args.place c.in-Some.number c.len-in-Some.result c.in-Some.is c.len-in-Some.ensures c.requires).row

pub settle-requires-clause-constant : goal.settle-requires-clause-constant
settle-requires-clause-constant c = (kept_waits c.args.walk.now c.args.definition.now c.args.body c.args.place c.in-Some.number c.len-in-Some.result c.in-Some.is c.len-in-Some.ensures c.requires).constant

pub settle-requires-clause-below : goal.settle-requires-clause-below
settle-requires-clause-below c = (kept_waits c.args.walk.now c.args.definition.now c.args.body c.args.place c.in-Some.number c.len-in-Some.result c.in-Some.is c.len-in-Some.ensures c.requires).below

pub returns-in_ok-settle-in-Some : goal.returns-in_ok-settle-in-Some
returns-in_ok-settle-in-Some c =
    ended_settled c.args.walk.now c.settle.new.self c.args.definition.now c.args.body c.args.place c.in-Some.number c.len-in-Some.result c.in-Some.is c.len-in-Some.ensures c.in_ok-settle-in-Some.ensures.names c.in_ok-settle-in-Some.ensures.scope c.in_ok-settle-in-Some.ensures.table c.in_ok-settle-in-Some.ensures.ordered
