-- Rows that are closed from the last.
use Rattle.std.proofs.Common.{◌≡◌, ◌∙◌, sym, ap, refl, List, [], ◌∷◌, ◌++◌, ◌<◌, arith}
use Rattle.std.specs.Borrow.{Bor}
use Rattle.base_core.specs.declared.place.Place.{Place}
use Rattle.names_terms.specs.declared.level.Level.{Level}
use Rattle.names_terms.specs.declared.term.TermNode.{TermNode}
use Rattle.names_terms.specs.TermViews.{node_view}
use Rattle.names_terms.specs.Terms.{Term, Placed}
use Rattle.names_terms.specs.TermSizes.{term_size, meaning_size}
use Rattle.names_term_copies.specs.Rows.{begun_meaning, closed, closed_all, meaning_with}
use Rattle.names_term_copies.specs.declared.rows.Begun.{Begun}
use Rattle.names_term_copies.specs.declared.rows.Begun.TheVariants.{Open}
use Rattle.names_term_copies.specs.declared.rows.Opening.{Opening}
use Rattle.names_term_copies.specs.declared.rows.Opening.TheVariants.{If, Quantified, Choose, Scoped}
use Rattle.names_term_copies.specs.declared.rows.Row.{Row}

pub closed_behind : (rs : List Row) (r : Row) (x : Term) → closed_all (rs ++ r ∷ []) x ≡ closed_all rs (closed r x)
closed_behind [] r x = refl
closed_behind (q ∷ rs) r x = ap (λ y. closed q y) (closed_behind rs r x)

-- a row that was opened, with its last part
row_opened : (b : Begun) (o : Opening) (last : Bor Term) (at : Place) (level : Level) (n : TermNode) (rest : Term) → b ≡ Open o last → begun_meaning b ≡ node_view n → Placed at level (node_view n) ≡ rest → Placed at level (meaning_with o last.now) ≡ rest
row_opened b o last at level n rest is begun view = ap (λ m. Placed at level m) (sym (ap begun_meaning is) ∙ begun) ∙ view

last_below : (o : Opening) (x : Term) → term_size x < meaning_size (meaning_with o x)
last_below (If p a) x = omega arith
last_below (Quantified q bs) x = omega arith
last_below (Choose s) x = omega arith
last_below (Scoped ks) x = omega arith

-- one row more
pub opened_same : (rows new : List Row) (b : Begun) (o : Opening) (last : Bor Term) (at : Place) (level : Level) (n : TermNode) (rest whole : Term) → new ≡ rows ++ (record { at = at; level = level; opening = o }) ∷ [] → b ≡ Open o last → begun_meaning b ≡ node_view n → Placed at level (node_view n) ≡ rest → closed_all rows rest ≡ whole → closed_all new last.now ≡ whole
opened_same rows new b o last at level n rest whole pushed is begun view same =
    let r : Row = record { at = at; level = level; opening = o } in
    ap (λ (rs : List Row). closed_all rs last.now) pushed ∙ closed_behind rows r last.now ∙ ap (λ (x : Term). closed_all rows x) (row_opened b o last at level n rest is begun view) ∙ same

pub opened_below : (b : Begun) (o : Opening) (last : Bor Term) (at : Place) (level : Level) (n : TermNode) (rest : Term) → b ≡ Open o last → begun_meaning b ≡ node_view n → Placed at level (node_view n) ≡ rest → term_size last.now < term_size rest
opened_below b o last at level n rest is begun view =
    let whole : term_size (Placed at level (meaning_with o last.now)) ≡ term_size rest = ap term_size (row_opened b o last at level n rest is begun view) in
    omega (arith, last_below o last.now, whole)
