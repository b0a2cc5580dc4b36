-- The terms of a list by its items.
use Rattle.std.proofs.Common.{◌≡◌, ◌∙◌, ap, sym, subst, List, [], ◌∷◌, ◌++◌, length, ◌≤◌, append_assoc, rules}
use Rattle.std.proofs.lemmas.List.{take_all}
use Rattle.std.specs.Prelude.{ℕ, All, take}
use Rattle.names_terms.specs.Lists.{terms_list}
use Rattle.names_terms.specs.Terms as term
use Rattle.names_terms.specs.Terms.{Term, Terms}
use Rattle.names_terms.specs.TermViews.{terms_from, terms_of}

append_none : (xs : List Term) → xs ≡ xs ++ []
append_none xs = search rules

terms_grown : (ts : Terms) (xs : List Term) → terms_list (terms_from ts xs) ≡ terms_list ts ++ xs
terms_grown ts [] = append_none (terms_list ts)
terms_grown ts (x ∷ xs) = terms_grown (term.MoreTerms ts x) xs ∙ append_assoc (terms_list ts) (x ∷ []) xs

-- what holds of the items holds of the list's terms
pub all_listed : (P : Term → Type 0) (xs : List Term) (ts : Terms) → terms_of xs ≡ ts → All P xs → All P (terms_list ts)
all_listed P xs ts e h = subst (λ (us : List Term). All P us) (sym (ap terms_list (sym e) ∙ terms_grown term.NoTerms xs)) h

pub all_there : {A : Type 0} (P : A → Type 0) (xs : List A) (i : ℕ) → length xs ≤ i → All P (take i xs) → All P xs
all_there P xs i le h = subst (λ ys. All P ys) (take_all i xs le) h
