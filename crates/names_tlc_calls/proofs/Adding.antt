-- Lists to whose end each item of another adds its part.
use Rattle.std.proofs.Common.{◌≡◌, ◌∙◌, sym, ap, List, ◌∷◌, ◌++◌, length, ◌<◌, append_assoc}
use Rattle.std.specs.Prelude.{ℕ, ◌+◌, drop, get_or}
use Rattle.names_scopes.proofs.LevelLoops.{cut_at}

pub added_on : {A B : Type 0} (part : A → List B) (parts : List A → List B) → ((x : A) (xs : List A) → parts (x ∷ xs) ≡ part x ++ parts xs) → (old new target : List B) (items : List A) (i : ℕ) (x : A) → i < length items → x ≡ get_or items i x
    → new ≡ old ++ part x → old ++ parts (drop i items) ≡ target → new ++ parts (drop (i + 1) items) ≡ target
added_on part parts one old new target items i x lt e n t =
    ap (λ l. l ++ parts (drop (i + 1) items)) n ∙ append_assoc old (part x) (parts (drop (i + 1) items)) ∙ ap (λ l. old ++ l) (sym (one x (drop (i + 1) items)) ∙ sym (ap parts (cut_at items i x lt e))) ∙ t
