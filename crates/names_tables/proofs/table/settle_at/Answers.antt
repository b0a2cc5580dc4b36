use Rattle.std.proofs.Common.{refl}
use Rattle.names_tables.proofs.Filling.{grown_longer}
use Rattle.names_tables.proofs.table.settle_at.Goals as goal

pub set_body-requires : goal.set_body-requires
set_body-requires c = record { within = grown_longer c.args.table.now.operators c.term_of.new.table c.args.number c.in_ok-body.ensures.grown c.requires.within }

pub returns : goal.returns
returns c = record {
  body = c.in_ok-body.body;
  middle = c.term_of.new.table;
  meant = record {
    grown = c.in_ok-body.ensures.grown;
    unnamed = c.in_ok-body.ensures.unnamed;
    smaller = c.in_ok-body.ensures.smaller;
    below = c.in_ok-body.ensures.below;
    means = c.in_ok-body.ensures.means;
  };
  changed = c.set_body.ensures;
  names = refl;
  numbers = refl;
}
