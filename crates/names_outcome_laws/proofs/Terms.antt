-- Some term is meant by each tree in which nothing is wrong with names.
use Rattle.std.specs.Prelude.{length}
use Rattle.names_meanings.specs.Around.{Around}
use Rattle.names_meanings.proofs.AroundLemmas.{ordered_by, smaller_by}
use Rattle.names_meanings.proofs.StandingOn.{stands_same}
use Rattle.names_outcome_laws.specs.Trees.{TreesMeanSomething}
use Rattle.names_outcome_laws.proofs.Named.{SomeTerm}
use Rattle.names_outcome_laws.proofs.Reading.{Stands}
use Rattle.names_outcome_laws.proofs.Trees.{tree_some}

pub trees_mean_something : TreesMeanSomething
trees_mean_something names ops scope t h =
    let w : Around = record { here = record { names = names; scope = scope }; table = ops } in
    let s : Stands w = record { program = h.program; around = h.around } in
    let r : SomeTerm w t = tree_some t w s h.fine in
    record {
      term = r.what;
      table = r.behind.table;
      grown = r.read.grown;
      unnamed = r.read.unnamed;
      smaller = λ o. smaller_by r.behind.table (r.read.ordered (ordered_by ops o));
      means = r.read.means r.behind.table (stands_same (length ops) r.behind.table);
    }
