-- Names that are asked for.
use Rattle.std.proofs.Common.{◌≡◌, ◌∙◌, ◌↔◌, inl, inr, ℕ, zero, suc, ◌+◌, ◌<◌, ◌≤◌, List, [], ◌∷◌, length, map, refl, sym, subst, arith}
use Rattle.std.specs.Prelude.{Bool, true, false, not, ◌&&◌, Contains, Option, None, Some, slice_get, IsTrue, MatchOption}
use Rattle.std.specs.Str.{bytes_eq}
use Rattle.std.specs.List.{slice_index_or}
use Rattle.std.proofs.lemmas.List.Folds.{Any-from_list_any, list_any-from_Any}
use Rattle.std.proofs.lemmas.Option.{slice_get_within}
use Rattle.std.specs.Cmp.Lexicographic.{bytes_decides}
use Rattle.base_core.specs.Texts.{same_bytes}
use Rattle.reading_trees.specs.declared.config.Config.{Config}
use Rattle.reading_trees.specs.declared.expr.Definition.{Definition}
use Rattle.reading_trees.specs.declared.module.Program.{Program}
use Rattle.names_scopes.specs.Mentions.{is_one_of, mentions}
use Rattle.names_program.specs.InUnits.{definitions_in}
use Rattle.base_use_order.specs.Reach.{IsReached}
use Rattle.names_pruning.specs.Parts.{AsksSome, IsAskedBy, IsFirstBy, NoneIsBy, asks_at, asks_for, is_set_at}
use Rattle.names_pruning.specs.Pruning.{IsAskedFor, IsFirstAsked, IsNeeded, IsOther, NoneIsAsked, by_a_definition, by_the_run}
use Rattle.names_pruning.proofs.Loops.{same_or_less, true_or_false}

-- ---- names among names

bytes_same : (n : List ℕ) → bytes_eq n n ≡ true
bytes_same n = (bytes_decides n n).1 refl

pub is_among : (n : List ℕ) (ns : List (List ℕ)) → is_one_of n ns ≡ true → Contains ns n
is_among n ns e =
    let found = Any-from_list_any (λ m. bytes_eq m n) ns e in
    let same : found.1 ≡ n = same_bytes found.1 n found.4 in
    subst (λ m. Contains ns m) same (found.0, found.2, found.3)

pub among_is : (n : List ℕ) (ns : List (List ℕ)) → Contains ns n → is_one_of n ns ≡ true
among_is n ns h = list_any-from_Any (λ m. bytes_eq m n) ns (h.0, n, h.1, h.2, bytes_same n)

-- ---- definitions that ask, one by one

abbrev pub NoneAsks : List Definition → List Bool → List ℕ → ℕ → Type 0
NoneAsks ds needed n i = (k : ℕ) (d : Definition) → k < i → slice_get ds k ≡ Some d → asks_at needed k d n ≡ true → ⊥

some_same : {A : Type 0} (a b : A) (o : Option A) → o ≡ Some a → o ≡ Some b → a ≡ b
some_same a b o e f = cc

pub no_more_asks : (ds : List Definition) (needed : List Bool) (n : List ℕ) (i : ℕ) (d : Definition) (b : Bool) → slice_get ds i ≡ Some d → b ≡ asks_at needed i d n → b ≡ false
    → NoneAsks ds needed n i → NoneAsks ds needed n (i + 1)
no_more_asks ds needed n i d b at e f h k x l stands t = elim (same_or_less k i l) [
  | inl q ↦
      let same : x ≡ d = some_same x d (slice_get ds i) (subst (λ j. slice_get ds j ≡ Some x) q stands) at in
      true_or_false (asks_at needed i d n) (subst (λ y. asks_at needed i y n ≡ true) same (subst (λ j. asks_at needed j x n ≡ true) q t)) (sym e ∙ f)
  | inr m ↦ h k x m stands t
]

pub asks_here : (ds : List Definition) (needed : List Bool) (n : List ℕ) (i : ℕ) (d : Definition) (b : Bool) → slice_get ds i ≡ Some d → b ≡ asks_at needed i d n → b ≡ true → AsksSome ds needed n
asks_here ds needed n i d b at e t = record { index = i; definition = d; stands = at; asks = sym e ∙ t }

pub none_asks : (ds : List Definition) (needed : List Bool) (n : List ℕ) (i : ℕ) → length ds ≤ i → NoneAsks ds needed n i → AsksSome ds needed n → ⊥
none_asks ds needed n i le h s =
    let inside = slice_get_within ds s.index s.definition s.stands in
    let less : s.index < i = omega (arith, inside, le) in
    h s.index s.definition less s.stands s.asks

-- ---- names that are asked for, one by one

abbrev pub NoneBefore : List Definition → List Bool → List (List ℕ) → List (List ℕ) → ℕ → Type 0
NoneBefore ds needed roots unread i = (j : ℕ) (n : List ℕ) → j < i → slice_get unread j ≡ Some n → IsAskedBy ds needed roots n → ⊥

pub none_before_next : (ds : List Definition) (needed : List Bool) (roots unread : List (List ℕ)) (i : ℕ) (n : List ℕ) (b : Bool) → slice_get unread i ≡ Some n
    → (IsTrue b ↔ IsAskedBy ds needed roots n) → b ≡ false → NoneBefore ds needed roots unread i → NoneBefore ds needed roots unread (i + 1)
none_before_next ds needed roots unread i n b at told f h j m l stands asked = elim (same_or_less j i l) [
  | inl q ↦
      let same : m ≡ n = some_same m n (slice_get unread i) (subst (λ k. slice_get unread k ≡ Some m) q stands) at in
      true_or_false b (told.1 (subst (λ x. IsAskedBy ds needed roots x) same asked)) f
  | inr less ↦ h j m less stands asked
]

pub none_at_all : (ds : List Definition) (needed : List Bool) (roots unread : List (List ℕ)) (i : ℕ) → length unread ≤ i → NoneBefore ds needed roots unread i → NoneIsBy ds needed roots unread
none_at_all ds needed roots unread i le h j n stands asked =
    let inside = slice_get_within unread j n stands in
    let less : j < i = omega (arith, inside, le) in
    h j n less stands asked

-- ---- in a program

both_true : (a b : Bool) → (a && b) ≡ true → (a ≡ true) × (b ≡ true)
both_true true b e = (refl, e)
both_true false b e = absurd (cc)

as_both_true : (a b : Bool) → a ≡ true → b ≡ true → (a && b) ≡ true
as_both_true true b e f = f
as_both_true false b e f = absurd (cc)

not_true : (b : Bool) → not b ≡ true → b ≡ false
not_true true e = absurd (cc)
not_true false e = refl

as_not_true : (b : Bool) → b ≡ false → not b ≡ true
as_not_true true e = absurd (cc)
as_not_true false e = refl

module _ (p : Program) (c : Config) (roots : List (List ℕ)) (needed : List Bool) (exact : (i : ℕ) → IsReached needed i ↔ IsNeeded p c roots i) where
  asked_for : (n : List ℕ) → IsAskedBy (definitions_in p.units) needed roots n → IsAskedFor p c roots n
  asked_for n (inl h) = by_the_run (is_among n roots h)
  asked_for n (inr h) =
      let parts = both_true (is_set_at needed (Some h.index)) (asks_for h.definition n) h.asks in
      let asks = both_true (not (is_one_of n h.definition.params)) (mentions n h.definition.body) parts.1 in
      by_a_definition h.index h.definition ((exact h.index).0 parts.0) h.stands asks.1 (not_true (is_one_of n h.definition.params) asks.0)

  asked_by : (n : List ℕ) → IsAskedFor p c roots n → IsAskedBy (definitions_in p.units) needed roots n
  asked_by n (by_the_run h) = inl (among_is n roots h)
  asked_by n (by_a_definition i d is_needed stands mentioned no_parameter) = inr (record {
    index = i;
    definition = d;
    stands = stands;
    asks = as_both_true (is_set_at needed (Some i)) (asks_for d n) ((exact i).1 is_needed)
        (as_both_true (not (is_one_of n d.params)) (mentions n d.body) (as_not_true (is_one_of n d.params) no_parameter) mentioned);
  })

  pub first_is_asked : (unread : List (List ℕ)) (o : Option ℕ) → MatchOption o (NoneIsBy (definitions_in p.units) needed roots unread) (λ k. IsFirstBy (definitions_in p.units) needed roots unread k)
      → MatchOption o (NoneIsAsked p c unread roots) (λ k. IsFirstAsked p c unread roots k)
  first_is_asked unread None h = λ j n stands asked. h j n stands (asked_by n asked)
  first_is_asked unread (Some k) h = record {
    name = h.name;
    stands = h.stands;
    asked = asked_for h.name h.asked;
    none_before = λ j n l stands asked. h.none_before j n l stands (asked_by n asked);
  }

-- ---- the others

read_not : (needed : List Bool) (i : ℕ) → i < length needed → slice_index_or (map not needed) i false ≡ not (slice_index_or needed i false)
read_not [] i l = absurd (omega (arith, l))
read_not (b ∷ bs) zero l = refl
read_not (b ∷ bs) (suc i) l = read_not bs i (omega (arith, l))

read_past : (needed : List Bool) (i : ℕ) → IsReached (map not needed) i → i < length needed
read_past [] zero h = absurd (cc)
read_past [] (suc i) h = absurd (cc)
read_past (b ∷ bs) zero h = omega arith
read_past (b ∷ bs) (suc i) h = let less : i < length bs = read_past bs i h in omega (arith, less)

not_reached : (b : Bool) → (b ≡ true → ⊥) → not b ≡ true
not_reached true h = absurd (h refl)
not_reached false h = refl

pub others_exactly : (p : Program) (c : Config) (roots : List (List ℕ)) (needed : List Bool) → length needed ≡ length (definitions_in p.units)
    → ((i : ℕ) → IsReached needed i ↔ IsNeeded p c roots i) → (i : ℕ) → IsReached (map not needed) i ↔ IsOther p c roots i
others_exactly p c roots needed sizes exact i = (
  λ h.
      let less : i < length needed = read_past needed i h in
      let inside : i < length (definitions_in p.units) = omega (arith, less, sizes) in
      (inside, λ n. true_or_false (slice_index_or needed i false) ((exact i).1 n) (not_true (slice_index_or needed i false) (sym (read_not needed i less) ∙ h))),
  λ o.
      let less : i < length needed = omega (arith, o.0, sizes) in
      read_not needed i less ∙ not_reached (slice_index_or needed i false) (λ t. o.1 ((exact i).0 t)),
)
