-- A loop that mixes one more hash in each time, a sequence's hash, which is of its values alone, and that different hashes
-- tell values apart.
use Rattle.std.proofs.Common.{◌≡◌, ℕ, suc, ◌+◌, ◌<◌, List, [], ◌∷◌, false, length, drop, get_or, refl, ap, sym, ◌∙◌}
use Rattle.std.proofs.lemmas.List.{at_drop_more}
use Rattle.values_core.specs.Data.{Val, pairs_of, vals_of}
use Rattle.values_core.specs.Functions.{numbered_from}
use Rattle.values_core.specs.HashOf.{hash_of, mix, with_bytes, with_members, with_values}
use Rattle.values_core.specs.declared.value.Entry.{Entry}
use Rattle.values_core.specs.declared.value.Field.{Field}
use Rattle.values_core.specs.declared.value.Node.{Node}
use Rattle.values_core.specs.Order.{val_eq}
use Rattle.values_core.specs.View.{IsKept, entries_view, fields_view, kept_hash, node_view}
use Rattle.values_core.proofs.Comparing.{differ}

-- where F mixes in f of each in turn
one_more : {X : Type 0} (F : ℕ → List X → ℕ) (f : X → ℕ) → ((h : ℕ) (x : X) (xs : List X) → F h (x ∷ xs) ≡ F (mix h (f x)) xs)
    → (xs : List X) (i : ℕ) (x : X) (all before more after : ℕ) → x ≡ get_or xs i x → more ≡ f x → after ≡ mix before more
    → F before (drop i xs) ≡ all → i < length xs → F after (drop (i + 1) xs) ≡ all
one_more F f step xs i x all before more after q is made old h =
    ap (λ n. F n (drop (i + 1) xs)) (made ∙ ap (mix before) (is ∙ ap f q)) ∙ (sym (step before (get_or xs i x) (drop (i + 1) xs)) ∙ (sym (at_drop_more (λ ys. F before ys) xs i x h) ∙ old))

pub members_more : (us : List Val) (i : ℕ) (v : Val) (all before more after : ℕ) → v ≡ get_or us i v → more ≡ hash_of v → after ≡ mix before more
    → with_members before (vals_of (drop i us)) ≡ all → i < length us → with_members after (vals_of (drop (i + 1) us)) ≡ all
members_more = one_more (λ h us. with_members h (vals_of us)) (λ v. hash_of v) (λ h v us. refl)

pub entries_more : (es : List Entry) (i : ℕ) (e : Entry) (all before more after : ℕ) → e ≡ get_or es i e → more ≡ hash_of e.value → after ≡ mix before more
    → with_values before (entries_view (drop i es)) ≡ all → i < length es → with_values after (entries_view (drop (i + 1) es)) ≡ all
entries_more = one_more (λ h es. with_values h (entries_view es)) (λ e. hash_of e.value) (λ h e es. refl)

pub fields_more : (fs : List Field) (i : ℕ) (f : Field) (all before more after : ℕ) → f ≡ get_or fs i f → more ≡ hash_of f.value → after ≡ mix before more
    → with_values before (fields_view (drop i fs)) ≡ all → i < length fs → with_values after (fields_view (drop (i + 1) fs)) ≡ all
fields_more = one_more (λ h fs. with_values h (fields_view fs)) (λ f. hash_of f.value) (λ h f fs. refl)

pub bytes_more : (bs : List ℕ) (i : ℕ) (b : ℕ) (all before more after : ℕ) → b ≡ get_or bs i b → more ≡ b → after ≡ mix before more
    → with_bytes before (drop i bs) ≡ all → i < length bs → with_bytes after (drop (i + 1) bs) ≡ all
bytes_more = one_more (λ h bs. with_bytes h bs) (λ b. b) (λ h b bs. refl)

-- the places are left out
pub sequence_hash : (hash m : ℕ) (vs : List Val) → with_members hash (vals_of vs) ≡ with_values hash (pairs_of (numbered_from m vs))
sequence_hash hash m [] = refl
sequence_hash hash m (v ∷ vs) = sequence_hash (mix hash (hash_of v)) (suc m) vs

pub told_apart : (m n : Node) → IsKept m → IsKept n → ¬ (kept_hash m ≡ kept_hash n) → false ≡ val_eq (node_view m) (node_view n)
told_apart m n k l h = differ (node_view m) (node_view n) (λ e. h (k.hash_is ∙ (ap (λ v. hash_of v) e ∙ sym l.hash_is)))
