-- Terms that are alike in the known values too are so in both directions.
use Rattle.std.proofs.Common.{ℕ, sym}
use Rattle.names_terms.specs.Terms.{Term, Terms}
use Rattle.twice_terms.specs.Alike.{Alike, AlikeRows, AlikeTerms}
use Rattle.twice_terms.specs.Laws.{AreOne}
use Rattle.twice_terms.proofs.Turned.{turn_row, turn_term, turn_terms}
use Rattle.eval_meanings.specs.Contexts.{Table}

pub turned_alike : (ops all : Table) (e f : Term) → Alike AreOne ops all e f → Alike AreOne all ops f e
turned_alike = turn_term AreOne AreOne (λ v w h. sym h)

pub turned_terms : (ops all : Table) (ts us : Terms) → AlikeTerms AreOne ops all ts us → AlikeTerms AreOne all ops us ts
turned_terms = turn_terms AreOne AreOne (λ v w h. sym h)

pub turned_row : (ops all : Table) (k j : ℕ) → AlikeRows AreOne ops all k j → AlikeRows AreOne all ops j k
turned_row = turn_row AreOne AreOne (λ v w h. sym h)
