-- For the prover: rows that wait for the copy of their last part.
use Rattle.std.specs.Prelude.{List, [], ◌∷◌}
use Rattle.names_terms.specs.Terms as term
use Rattle.names_terms.specs.Terms.{Term, Placed, Meaning}
use Rattle.names_terms.specs.TermViews.{node_view}
use Rattle.names_term_copies.specs.declared.rows.Opening.{Opening}
use Rattle.names_term_copies.specs.declared.rows.Opening.TheVariants.{If, Quantified, Choose, Scoped}
use Rattle.names_term_copies.specs.declared.rows.Row.{Row}
use Rattle.names_term_copies.specs.declared.rows.Begun.{Begun}
use Rattle.names_term_copies.specs.declared.rows.Begun.TheVariants.{Whole, Open}

-- the meaning of a row with this last part
abbrev pub meaning_with : Opening → Term → Meaning
meaning_with (If p a) x = term.If p a x
meaning_with (Quantified q bs) x = term.Quantified q bs x
meaning_with (Choose s) x = term.Choose s x
meaning_with (Scoped ks) x = term.Scoped ks x

-- the term of a row with this last part
abbrev pub closed : Row → Term → Term
closed r x = Placed r.at r.level (meaning_with r.opening x)

-- the term of rows, each of which is the last part of the one before
abbrev pub closed_all : List Row → Term → Term
closed_all [] x = x
closed_all (r ∷ rs) x = closed r (closed_all rs x)

-- the meaning of a node, as far as it is copied
abbrev pub begun_meaning : Begun → Meaning
begun_meaning (Whole n) = node_view n
begun_meaning (Open o last) = meaning_with o last.now
