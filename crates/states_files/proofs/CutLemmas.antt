-- The first line of a text, and the text behind it.
use Rattle.std.proofs.Common.{◌≡◌, ◌≤◌, ◌<◌, ◌+◌, ◌-◌, ℕ, List, [], ◌∷◌, length, Some, None, arith, refl, subst, take, drop, Bool, length-drop, cond}
use Rattle.std.specs.List.{position, position_or_len, onto_first}
use Rattle.std.specs.Prelude.{◌==◌, nat_lt, not, true, false}
use Rattle.std.proofs.lemmas.Option.{cond_some}
use Rattle.std.proofs.lemmas.Bool.Decides.{nat_tests}
use Rattle.std.proofs.lemmas.List.Splits.{slice_split_first}
use Rattle.std.proofs.lemmas.List.{take_all}
use Rattle.states_files.specs.Files.{pieces_of}

feed_at : (bs : List ℕ) (i : ℕ) → position (λ b. b == 10) bs ≡ Some i → (position_or_len (λ b. b == 10) bs ≡ i) × (i < length bs)
feed_at bs i e = let c = cond_some (nat_lt (position_or_len (λ b. b == 10) bs) (length bs)) (position_or_len (λ b. b == 10) bs) i e in (c.1, grind (arith, nat_tests, c.0, c.1))

pub cut_some : (bs : List ℕ) (i : ℕ) → position (λ b. b == 10) bs ≡ Some i → pieces_of bs ≡ take i bs ∷ pieces_of (take (length bs - (i + 1)) (drop (i + 1) bs))
cut_some bs i e =
    let p = feed_at bs i e in
    let whole : take (length bs - (i + 1)) (drop (i + 1) bs) ≡ drop (i + 1) bs = take_all _ _ (omega (arith, length-drop {A = ℕ})) in
    let cut = slice_split_first (λ b. b == 10) bs 0 (omega (arith, p.0, p.1)) in
    rw whole (subst (λ (k : ℕ). pieces_of bs ≡ take k bs ∷ pieces_of (drop (k + 1) bs)) p.0 cut)

no_feed : (b : Bool) (x : ℕ) (xs : List ℕ) → length (x ∷ xs) ≤ cond (not b) (1 + position_or_len (λ c. c == 10) xs) 0
    → (length xs ≤ position_or_len (λ c. c == 10) xs → pieces_of xs ≡ xs ∷ [])
    → cond b ([] ∷ pieces_of xs) (onto_first x (pieces_of xs)) ≡ (x ∷ xs) ∷ []
no_feed true x xs le rest = absurd (omega arith)
no_feed false x xs le rest = rw (rest (omega arith)) refl

none_feed : (bs : List ℕ) → length bs ≤ position_or_len (λ c. c == 10) bs → pieces_of bs ≡ bs ∷ []
none_feed [] le = refl
none_feed (x ∷ xs) le = no_feed (x == 10) x xs le (none_feed xs)

not_some : (b : Bool) (i : ℕ) → cond b (Some i) None ≡ None → b ≡ false
not_some true i e = absurd cc
not_some false i e = refl

pub cut_none : (bs : List ℕ) → position (λ b. b == 10) bs ≡ None → pieces_of bs ≡ bs ∷ []
cut_none bs e =
    let low = not_some (nat_lt (position_or_len (λ b. b == 10) bs) (length bs)) _ e in
    none_feed bs (grind (arith, nat_tests, low))
