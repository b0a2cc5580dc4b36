-- The walk over a term: where all that waits is of values, the whole is.
use Rattle.std.proofs.Common.{◌≡◌, ◌∙◌, sym, ap, subst, List, [], ◌∷◌, ◌++◌, arith}
use Rattle.std.specs.Prelude.{◌+◌, ◌<◌, false}
use Rattle.std.specs.List.{AllByRecursion as Each}
use Rattle.base_core.specs.declared.place.Place.{Place}
use Rattle.names_terms.specs.declared.level.Level.{Level}
use Rattle.names_terms.specs.Terms.{Term, Meaning, Placed}
use Rattle.names_term_parts.specs.Parts.{Part, parts}
use Rattle.names_term_parts.specs.Weights.{weight, total}
use Rattle.names_term_parts.proofs.Weights.{total-append, total-cons, total-nil, of_parts}
use Rattle.eval_meanings.specs.Laws.{KnowsValue, KnowsValues}
use Rattle.eval_known.proofs.Rows.{left, right, both, in_parts}

-- where the parts that wait are of values, the term is
abbrev pub IsWay : Term → List Part → Type 0
IsWay e ps = Each (λ p. KnowsValues p.term) ps → KnowsValues e

pub way-on : (e : Term) (p : Part) (at : Place) (l : Level) (m : Meaning) (old now new : List Part) → p.term ≡ Placed at l m → old ≡ now ++ p ∷ [] → KnowsValue m → new ≡ now ++ parts false m → IsWay e old → IsWay e new
way-on e p at l m old now new q o own n way h =
    let k : Each (λ p. KnowsValues p.term) (now ++ parts false m) = subst (Each (λ p. KnowsValues p.term)) n h in
    let whole : KnowsValues (Placed at l m) = (own, in_parts KnowsValue false m (right (λ p. KnowsValues p.term) now (parts false m) k)) in
    let one : Each (λ p. KnowsValues p.term) (p ∷ []) = (subst KnowsValues (sym q) whole, tt) in
    way (subst (Each (λ p. KnowsValues p.term)) (sym o) (both (λ p. KnowsValues p.term) now (p ∷ []) (left (λ p. KnowsValues p.term) now (parts false m) k) one))

pub way-less : (p : Part) (at : Place) (l : Level) (m : Meaning) (old now new : List Part) → p.term ≡ Placed at l m → old ≡ now ++ p ∷ [] → new ≡ now ++ parts false m → total new < total old
way-less p at l m old now new q o n =
    let a : total old ≡ total now + total (p ∷ []) = ap total o ∙ total-append now (p ∷ []) in
    let b : total new ≡ total now + total (parts false m) = ap total n ∙ total-append now (parts false m) in
    let w : weight p.term ≡ weight (Placed at l m) = ap weight q in
    omega (arith, a, b, w, total-cons p [], total-nil, of_parts false m)
