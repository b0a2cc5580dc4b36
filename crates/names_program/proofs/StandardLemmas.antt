-- The names that are brought, row by row.
use Rattle.std.proofs.Common.{◌≡◌, ◌∙◌, sym, ap, refl, List, [], ◌∷◌, ◌++◌, length, append_assoc, add-one}
use Rattle.std.specs.Prelude.{ℕ, zero, suc, ◌+◌, Bool, true, false, if◌then◌else◌, drop, Some, slice_get}
use Rattle.names_scopes.specs.declared.meant.Entry.{Entry}
use Rattle.names_program.specs.Standard.{StandardName, standard_names, brought_from, is_brought, entry}
use Rattle.names_program.specs.StandardRows.{brought_at}

one_more : (extended : List (List ℕ)) (s : StandardName) (rest : List Entry) (b : Bool) → (if b then entry s.name s.needed s.meant ∷ rest else rest) ≡ (if b then entry s.name s.needed s.meant ∷ [] else []) ++ rest
one_more extended s rest true = refl
one_more extended s rest false = refl

-- from a number on: what the name of that number brings, and what those behind it bring
pub brought_step : (extended : List (List ℕ)) (ss : List StandardName) (i : ℕ) → brought_from extended (drop i ss) ≡ brought_at extended (slice_get ss i) ++ brought_from extended (drop (suc i) ss)
brought_step extended [] zero = refl
brought_step extended [] (suc i) = refl
brought_step extended (s ∷ ss) zero = one_more extended s (brought_from extended ss) (is_brought extended s)
brought_step extended (s ∷ ss) (suc i) = brought_step extended ss i

pub brought_on : (extended : List (List ℕ)) (ss : List StandardName) (i : ℕ) (old new target : List Entry) → new ≡ old ++ brought_at extended (slice_get ss i) → old ++ brought_from extended (drop i ss) ≡ target → new ++ brought_from extended (drop (i + 1) ss) ≡ target
brought_on extended ss i old new target n t =
    rw add-one (ap (λ l. l ++ brought_from extended (drop (suc i) ss)) n ∙ append_assoc old (brought_at extended (slice_get ss i)) (brought_from extended (drop (suc i) ss)) ∙ ap (λ l. old ++ l) (sym (brought_step extended ss i)) ∙ t)

-- what an own row brings
pub brought_row_is : (extended : List (List ℕ)) (s : StandardName) (b : Bool) → is_brought extended s ≡ b → brought_at extended (Some s) ≡ (if b then entry s.name s.needed s.meant ∷ [] else [])
brought_row_is extended s b e = ap (λ c. if c then entry s.name s.needed s.meant ∷ [] else []) e

pub standard_count : length standard_names ≡ 10
unfolding standard_names
standard_count = refl
