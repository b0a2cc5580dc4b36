use Rattle.names_tables.proofs.Faults.{still_in}
use Rattle.names_tables.proofs.table.add.Goals as goal

pub put-requires-clause-known : goal.put-requires-clause-known
put-requires-clause-known c = still_in c.args.table.now.operators c.term_of.new.table c.args.table.now.names c.in_ok-body.ensures.grown c.requires.known

pub returns : goal.returns
returns c = record {
  body = c.in_ok-body.body;
  middle = c.term_of.new.table;
  meant = record {
    grown = c.in_ok-body.ensures.grown;
    unnamed = c.in_ok-body.ensures.unnamed;
    smaller = c.in_ok-body.ensures.smaller;
    below = c.in_ok-body.ensures.below;
    means = c.in_ok-body.ensures.means;
  };
  put = c.in_ok-put.ensures;
}
