use Rattle.std.proofs.Common.{◌+◌, drop}
use Rattle.reading_units.proofs.MarksTold.{marked_at, first_told}
use Rattle.reading_units.proofs.marks.mark_at.Goals as goal

pub returns-in-Some-clause-token : goal.returns-in-Some-clause-token
returns-in-Some-clause-token c = marked_at (drop c.args.at c.args.laid.now) (drop (c.args.at + 1) c.args.laid.now) c.in-Some.token.now c.kind_mark.result c.in-Some.ensures.token c.kind_mark.ensures.told

pub returns-in-Some-clause-told : goal.returns-in-Some-clause-told
returns-in-Some-clause-told c = first_told (drop c.args.at c.args.laid.now) (drop (c.args.at + 1) c.args.laid.now) c.in-Some.token.now c.kind_mark.result c.in-Some.ensures.token c.kind_mark.ensures.told
