-- The laws, of values that are compared or are not.
use Rattle.std.proofs.Common.{refl, zero}
use Rattle.std.specs.Prelude.{Bool, true, false, IsTrue}
use Rattle.values_core.specs.Data.{Val}
use Rattle.twice_terms.specs.Alike.{AlikeRows}
use Rattle.twice_terms.proofs.Opened.{rows_close}
use Rattle.twice_tables.specs.Tables.{SameIf, MeaningsAreAlike, TablesAreAlike, TreesAreAlike}
use Rattle.twice_tables.proofs.BothWays.{own_limit}
use Rattle.twice_tables.proofs.Meanings.{tree_alike}
use Rattle.twice_tables.proofs.Tabled.{meant_alike, tables_alike}

itself : (b : Bool) (v : Val) → SameIf b v v
itself true v = refl
itself false v = tt

pub meanings_are_alike : MeaningsAreAlike
meanings_are_alike b ops all kept names others keep are scope outer t e f s below g h =
    tree_alike (SameIf b) ops all (AlikeRows (SameIf b) ops all) (λ k j r. r zero) (rows_close (SameIf b) ops all) (λ k. IsTrue (kept k)) names others (λ k o q apart lt. keep k o q lt) are (itself b)
    (own_limit (SameIf b) (itself b) ops all names others (λ k. IsTrue (kept k)) (λ k o q apart lt. keep k o q lt) keep are) scope outer t e f s below g h

pub tables_are_alike : TablesAreAlike
tables_are_alike b p c values others number renumber ops all are first second i d k j at e f =
    tables_alike (SameIf b) (itself b) p c values others number renumber ops all are first second i d k j at e f

pub trees_are_alike : TreesAreAlike
trees_are_alike b p c values others number renumber ops all are first second params t e f g h =
    meant_alike (SameIf b) (itself b) p c values others number renumber ops all are first second params t e f g h
