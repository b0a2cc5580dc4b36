-- Terms that are copied one behind the other.
use Rattle.std.proofs.Common.{◌≡◌, ◌∙◌, sym, ap, subst, List, length, ◌<◌, ◌≤◌}
use Rattle.std.specs.Prelude.{ℕ, ◌+◌, drop, get_or, Option, Some, None, MatchOption}
use Rattle.names_terms.specs.declared.operator.Operator.{Operator}
use Rattle.std.specs.Borrow.{Bor}
use Rattle.names_terms.specs.Terms.{Term, Terms, MoreTerms}
use Rattle.names_terms.specs.TermViews.{terms_from}
use Rattle.names_term_levels.specs.Shape.{rows}
use Rattle.names_scopes.proofs.LevelLoops.{cut_at, cut_end}

pub copied_on : (items : List (Bor Term)) (i : ℕ) (ts new all : Terms) (x : Bor Term) (e : Term) → i < length items → x ≡ get_or items i x → new ≡ MoreTerms ts e → e ≡ x.now → terms_from ts (rows (drop i items)) ≡ all → terms_from new (rows (drop (i + 1) items)) ≡ all
copied_on items i ts new all x e lt at n q h =
    ap (λ (u : Terms). terms_from u (rows (drop (i + 1) items))) (n ∙ ap (MoreTerms ts) q) ∙ ap (λ (l : List (Bor Term)). terms_from ts (rows l)) (sym (cut_at items i x lt at)) ∙ h

pub copied_end : (items : List (Bor Term)) (i : ℕ) (ts all : Terms) → length items ≤ i → terms_from ts (rows (drop i items)) ≡ all → ts ≡ all
copied_end items i ts all le h = ap (λ (l : List (Bor Term)). terms_from ts (rows l)) (sym (cut_end items i le)) ∙ h

-- where there is none, what is said of none
pub none_said : {S : Type 0} (A : List Operator → Type 0) (B : S → Type 0) (items ops : List Operator) (o : Option S) → items ≡ ops → MatchOption o (A items) B → o ≡ None → A ops
none_said A B items ops None q h e = subst A q h
none_said A B items ops (Some s) q h e = absurd (cc)
