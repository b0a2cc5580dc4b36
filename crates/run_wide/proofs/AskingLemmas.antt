-- Which of the names that pieces declare is asked for, and by which of the names that the run needs.
use Rattle.std.proofs.Common.{◌≡◌, ◌∙◌, ◌↔◌, ◌⊎◌, inl, inr, ℕ, zero, suc, ◌+◌, ◌-◌, ◌<◌, ◌≤◌, List, [], ◌∷◌, ◌++◌, length, take, drop, refl, sym, ap, subst, append_assoc, length-append, arith}
use Rattle.std.specs.Prelude.{Bool, true, false, Contains, Option, None, Some, slice_get, get_or, is_some, MatchOption}
use Rattle.std.proofs.lemmas.List.{append-nil, length-take-le, take_more}
use Rattle.std.proofs.lemmas.Option.{none-some, same_Some, slice_get_read, slice_get_within}
use Rattle.reading_trees.specs.declared.config.Config.{Config}
use Rattle.reading_trees.specs.declared.module.Program.{Program}
use Rattle.reading_modules.specs.declared.notes.Noted.{Noted}
use Rattle.reading_wide_modules.specs.declared.unread.Unread.{Unread}
use Rattle.names_pruning.specs.Pruning.{IsAskedFor, IsFirstAsked, IsNeeded, NoneIsAsked, by_a_definition, by_the_run, is_root, is_used}
use Rattle.run_wide.specs.Needing.{names_unread}
use Rattle.run_wide.specs.Parts.{IsFirstUnread, NoneAsks, StandsAt}

-- ---- lists

pub names_behind : (xs ys : List (Noted Unread)) → names_unread (xs ++ ys) ≡ names_unread xs ++ names_unread ys
names_behind [] ys = refl
names_behind (n ∷ xs) ys = ap (λ (r : List (List ℕ)). n.note.names ++ r) (names_behind xs ys) ∙ sym (append_assoc n.note.names (names_unread xs) (names_unread ys))

-- the items before one, and those behind it
parts_at : {A : Type 0} (xs : List A) (i : ℕ) (x : A) → slice_get xs i ≡ Some x → xs ≡ take i xs ++ x ∷ drop (suc i) xs
parts_at [] i x e = absurd (none-some x e)
parts_at (y ∷ ys) zero x e = ap (λ z. z ∷ ys) (same_Some y x e)
parts_at (y ∷ ys) (suc i) x e = ap (λ zs. y ∷ zs) (parts_at ys i x e)

same_or_less : (j i : ℕ) → j < i + 1 → (j ≡ i) ⊎ (j < i)
same_or_less zero zero l = inl refl
same_or_less zero (suc i) l = let less : 0 < suc i = omega arith in inr less
same_or_less (suc j) zero l = absurd (omega (arith, l))
same_or_less (suc j) (suc i) l = let less : j < i + 1 = omega (arith, l) in elim (same_or_less j i less) [
  | inl e ↦ inl (ap suc e)
  | inr m ↦ let more : suc j < suc i = omega (arith, m) in inr more
]

pub true_or_false : (b : Bool) → b ≡ true → b ≡ false → ⊥
true_or_false b t f = let e : true ≡ false = sym t ∙ f in absurd (cc)

some_same : {A : Type 0} (a b : A) (o : Option A) → o ≡ Some a → o ≡ Some b → a ≡ b
some_same a b o e f = cc

-- the item behind others, and one of those before it
at_end : {A : Type 0} (us rest : List A) (x : A) → slice_get (us ++ x ∷ rest) (length us) ≡ Some x
at_end [] rest x = refl
at_end (u ∷ us) rest x = at_end us rest x

before_end : {A : Type 0} (us vs : List A) (j : ℕ) (x : A) → slice_get us j ≡ Some x → slice_get (us ++ vs) j ≡ Some x
before_end [] vs j x e = absurd (none-some x e)
before_end (u ∷ us) vs zero x e = e
before_end (u ∷ us) vs (suc j) x e = before_end us vs j x e

-- ---- names of pieces

-- those of one more piece
names_more : (unread : List (Noted Unread)) (i : ℕ) (piece : Noted Unread) → i < length unread → piece ≡ get_or unread i piece
    → names_unread (take (i + 1) unread) ≡ names_unread (take i unread) ++ piece.note.names
names_more unread i piece l is =
    let more : take (i + 1) unread ≡ take i unread ++ piece ∷ [] = take_more unread i piece l ∙ ap (λ (x : Noted Unread). take i unread ++ x ∷ []) (sym is) in
    ap names_unread more ∙ names_behind (take i unread) (piece ∷ []) ∙ ap (λ (r : List (List ℕ)). names_unread (take i unread) ++ r) (append-nil piece.note.names)

-- a place that is behind those of a piece
pub place_on : (unread : List (Noted Unread)) (i : ℕ) (piece : Noted Unread) (place rest : ℕ) → i < length unread → piece ≡ get_or unread i piece → length piece.note.names ≤ rest
    → place ≡ length (names_unread (take i unread)) + rest → place ≡ length (names_unread (take (i + 1) unread)) + (rest - length piece.note.names)
place_on unread i piece place rest l is le before =
    let sized : length (names_unread (take (i + 1) unread)) ≡ length (names_unread (take i unread)) + length piece.note.names =
    ap length (names_more unread i piece l is) ∙ length-append (names_unread (take i unread)) piece.note.names
    in
    omega (arith, sized, le, before)

module _ (unread : List (Noted Unread)) (index : ℕ) (piece : Noted Unread) (k : ℕ) (name : List ℕ) (stands : slice_get unread index ≡ Some piece)
    (named : slice_get piece.note.names k ≡ Some name) where
  abbrev earlier : List (List ℕ)
  earlier = names_unread (take index unread) ++ take k piece.note.names

  abbrev later : List (List ℕ)
  later = drop (suc k) piece.note.names ++ names_unread (drop (suc index) unread)

  around : names_unread unread ≡ earlier ++ name ∷ later
  around =
      let before = names_unread (take index unread) in
      let behind = names_unread (drop (suc index) unread) in
      let names = piece.note.names in
      ap names_unread (parts_at unread index piece stands)
      ∙ names_behind (take index unread) (piece ∷ drop (suc index) unread)
      ∙ ap (λ (r : List (List ℕ)). before ++ (r ++ behind)) (parts_at names k name named)
      ∙ ap (λ (r : List (List ℕ)). before ++ r) (append_assoc (take k names) (name ∷ drop (suc k) names) behind)
      ∙ sym (append_assoc before (take k names) (name ∷ later))

  sized : length earlier ≡ length (names_unread (take index unread)) + k
  sized =
      let inside = slice_get_within piece.note.names k name named in
      let le : k ≤ length piece.note.names = omega (arith, inside) in
      length-append (names_unread (take index unread)) (take k piece.note.names) ∙ ap (λ n. length (names_unread (take index unread)) + n) (length-take-le k piece.note.names le)

  here : slice_get (names_unread unread) (length earlier) ≡ Some name
  here = subst (λ (xs : List (List ℕ)). slice_get xs (length earlier) ≡ Some name) (sym around) (at_end earlier later name)

  there : (n : List ℕ) (at : Contains earlier n) → slice_get (names_unread unread) at.0 ≡ Some n
  there n at =
      let inside = before_end earlier (name ∷ later) at.0 n (slice_get_read earlier (length earlier) at.0 n refl at.1 (sym at.2)) in
      subst (λ (xs : List (List ℕ)). slice_get xs at.0 ≡ Some n) (sym around) inside

-- ---- the first that is asked for, and what asks for it

module _ (p : Program) (c : Config) (roots : List (List ℕ)) where
  pub first_unread : (unread : List (Noted Unread)) (place index : ℕ) (name : List ℕ) → StandsAt unread place index name
      → IsFirstAsked p c (names_unread unread) roots place → IsFirstUnread p c roots unread index name
  first_unread unread place index name at h =
      let piece = at.piece in
      let k = at.among in
      let last : length (earlier unread index piece k name at.stands at.named) ≡ place = sized unread index piece k name at.stands at.named ∙ sym at.before in
      let stands = subst (λ n. slice_get (names_unread unread) n ≡ Some name) last (here unread index piece k name at.stands at.named) in
      let same : h.name ≡ name = some_same h.name name (slice_get (names_unread unread) place) h.stands stands in
      record {
        piece = piece;
        earlier = take index unread;
        later = drop (suc index) unread;
        stands = at.stands;
        among = parts_at unread index piece at.stands;
        before = take k piece.note.names;
        behind = drop (suc k) piece.note.names;
        declares = parts_at piece.note.names k name at.named;
        is_asked = subst (λ (n : List ℕ). IsAskedFor p c roots n) same h.asked;
        first = λ n within. h.none_before within.0 n (subst (λ m. within.0 < m) last within.1) (there unread index piece k name at.stands at.named n within);
      }

  -- ---- the name that asks

  pub is_needed_by_one : (i : ℕ) → IsNeeded p c roots i → (root : List ℕ) × Contains roots root × IsNeeded p c (root ∷ []) i
  is_needed_by_one _ (is_root n i at defines) = (n, at, is_root n i (0, omega arith, refl) defines)
  is_needed_by_one _ (is_used i j needed uses) =
      let one = is_needed_by_one i needed in
      (one.0, one.1, is_used i j one.2 uses)

  pub is_asked_by_one : (n : List ℕ) → IsAskedFor p c roots n → (root : List ℕ) × Contains roots root × IsAskedFor p c (root ∷ []) n
  is_asked_by_one n (by_the_run at) = (n, at, by_the_run (0, omega arith, refl))
  is_asked_by_one n (by_a_definition i d needed stands mentioned free) =
      let one = is_needed_by_one i needed in
      (one.0, one.1, by_a_definition i d one.2 stands mentioned free)

  -- so one of them asks
  pub some_asks : (n : List ℕ) → IsAskedFor p c roots n → NoneAsks p c roots n → ⊥
  some_asks n asked none =
      let one = is_asked_by_one n asked in
      none one.1.0 one.0 (slice_get_read roots (length roots) one.1.0 one.0 refl one.1.1 (sym one.1.2)) one.2

-- names in hand are those of the pieces, and those that ask
module _ (p : Program) (c : Config) (unread : List (Noted Unread)) (names ns roots rs : List (List ℕ)) (all : ns ≡ names) (named : names ≡ names_unread unread) (asking : rs ≡ roots) where
  pub first_in_hand : (k : ℕ) → IsFirstAsked p c ns rs k → IsFirstAsked p c (names_unread unread) roots k
  first_in_hand k h =
      subst (λ (xs : List (List ℕ)). IsFirstAsked p c xs roots k) (all ∙ named) (subst (λ (xs : List (List ℕ)). IsFirstAsked p c ns xs k) asking h)

  pub none_in_hand : NoneIsAsked p c ns rs → NoneIsAsked p c (names_unread unread) roots
  none_in_hand h =
      subst (λ (xs : List (List ℕ)). NoneIsAsked p c xs roots) (all ∙ named) (subst (λ (xs : List (List ℕ)). NoneIsAsked p c ns xs) asking h)

module _ (p : Program) (c : Config) (name : List ℕ) where
  one_name : (k : ℕ) (n : List ℕ) → slice_get (name ∷ []) k ≡ Some n → n ≡ name
  one_name zero n e = sym (same_Some name n e)
  one_name (suc k) n e = absurd (none-some n e)

  only : (root : List ℕ) (k : ℕ) → IsFirstAsked p c (name ∷ []) (root ∷ []) k → IsAskedFor p c (root ∷ []) name
  only root k h = subst (λ (n : List ℕ). IsAskedFor p c (root ∷ []) n) (one_name k h.name h.stands) h.asked

  pub asks_exactly : (root : List ℕ) (o : Option ℕ) → MatchOption o (NoneIsAsked p c (name ∷ []) (root ∷ [])) (λ k. IsFirstAsked p c (name ∷ []) (root ∷ []) k)
      → (is_some o ≡ true) ↔ IsAskedFor p c (root ∷ []) name
  asks_exactly root None h = (λ e. absurd (cc), λ a. absurd (h 0 name refl a))
  asks_exactly root (Some k) h = (λ e. only root k h, λ a. refl)

  abbrev pub NoneBefore : List (List ℕ) → ℕ → Type 0
  NoneBefore roots i = (j : ℕ) (other : List ℕ) → j < i → slice_get roots j ≡ Some other → IsAskedFor p c (other ∷ []) name → ⊥

  pub none_before_next : (roots : List (List ℕ)) (i : ℕ) (root : List ℕ) → i < length roots → root ≡ get_or roots i root → (IsAskedFor p c (root ∷ []) name → ⊥)
      → NoneBefore roots i → NoneBefore roots (i + 1)
  none_before_next roots i root l is none h j other less stands asked = elim (same_or_less j i less) [
    | inl e ↦
        let here = slice_get_read roots (length roots) i root refl l is in
        let same : other ≡ root = some_same other root (slice_get roots i) (subst (λ k. slice_get roots k ≡ Some other) e stands) here in
        none (subst (λ (r : List ℕ). IsAskedFor p c (r ∷ []) name) same asked)
    | inr k ↦ h j other k stands asked
  ]

  pub none_at_all : (roots : List (List ℕ)) (i : ℕ) → length roots ≤ i → NoneBefore roots i → NoneAsks p c roots name
  none_at_all roots i le h j other stands = h j other (let inside = slice_get_within roots j other stands in omega (arith, inside, le)) stands
