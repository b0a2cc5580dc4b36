-- The log of one file: its steps stand in order as they are.
use Rattle.std.proofs.Common.{◌≡◌, inl, inr, ◌<◌, ◌+◌, ℕ, zero, suc, ℤ, pos, List, [], ◌∷◌, ◌++◌, length, length-append, map, get_or, Some, ap, subst, sym, ◌∙◌, refl, arith}
use Rattle.std.specs.List.{slice_get, AllZip}
use Rattle.std.specs.Int.Signed.{clash_ℤ}
use Rattle.std.proofs.lemmas.List.{append-nil}
use Rattle.std.proofs.lemmas.Option.{slice_get-get_or, slice_get_within}
use Rattle.logs_updates.specs.declared.line.Line.{Line}
use Rattle.logs_updates.specs.declared.line.Log.{Log}
use Rattle.base_clock_order.specs.Orders.{FollowsByFile, HasEachOnce, IsLine, IsMerged, NoneFalls, line}
use Rattle.base_clock_order.specs.declared.order.LineRef.{LineRef}
use Rattle.logs_lines.specs.declared.file.FileLines.{FileLines}
use Rattle.logs_updates.specs.Clocks.{number_in}
use Rattle.logs_files.specs.Logs.{IsLogOf, StandsAt, numbers_in, sees_of}
use Rattle.logs_files.proofs.PlaceLemmas.{some_is}

-- the places in the only file, from this one on
abbrev places_from : {X : Type 0} → ℕ → List X → List LineRef
places_from i [] = []
places_from i (x ∷ xs) = line 0 i ∷ places_from (suc i) xs

same_places : {X Y : Type 0} (f : X → Y) (i : ℕ) (xs : List X) → places_from i (map f xs) ≡ places_from i xs
same_places f i [] = refl
same_places f i (x ∷ xs) = ap (λ (r : List LineRef). line 0 i ∷ r) (same_places f (suc i) xs)

length_places : {X : Type 0} (i : ℕ) (xs : List X) → length (places_from i xs) ≡ length xs
length_places i [] = refl
length_places i (x ∷ xs) = ap suc (length_places (suc i) xs)

same_number : (a b : ℕ) → a ≡ b → line 0 a ≡ line 0 b
same_number a b e = λ i. line 0 (e i)

place_from : {X : Type 0} (i : ℕ) (xs : List X) (k : ℕ) (d : LineRef) → k < length xs → get_or (places_from i xs) k d ≡ line 0 (i + k)
place_from i [] k d h = absurd (omega (arith, h))
place_from i (x ∷ xs) zero d h = same_number i (i + 0) (omega arith)
place_from i (x ∷ xs) (suc k) d h = place_from (suc i) xs k d (omega (arith, h)) ∙ same_number (suc i + k) (i + suc k) (omega arith)

place_at : {X : Type 0} (xs : List X) (k : ℕ) (d : LineRef) → k < length xs → get_or (places_from 0 xs) k d ≡ line 0 k
place_at xs k d h = place_from 0 xs k d h ∙ same_number (0 + k) k (omega arith)

only_file : (c log : List ℤ) (n : ℕ) → slice_get (c ∷ []) n ≡ Some log → (n ≡ 0) × (log ≡ c)
only_file c log zero e = (refl, sym (some_is c log e))
only_file c log (suc n) e = absurd cc

module _ (c : List ℤ) where
  within : (i : ℕ) → i < length (places_from 0 c) → i < length c
  within i h = omega (arith, h, length_places 0 c)

  each_once : HasEachOnce (c ∷ []) (places_from 0 c)
  each_once = record {
    lines = λ p h.
        let k = within h.0 h.1 in
        let here : line 0 h.0 ≡ p = sym (place_at c h.0 p k) ∙ h.2 in
        subst (λ (x : LineRef). IsLine (c ∷ []) x) here (get_or c h.0 (pos 0), (c, refl, slice_get-get_or c h.0 (pos 0) k));
    all = λ p h.
        let file = only_file c h.1.0 p.file h.1.1 in
        let at : slice_get c p.index ≡ Some h.0 = subst (λ (log : List ℤ). slice_get log p.index ≡ Some h.0) file.1 h.1.2 in
        let k : p.index < length c = slice_get_within c p.index h.0 at in
        let back : line 0 p.index ≡ p = λ i. record { file = sym file.0 i; index = p.index } in
        (p.index, omega (arith, k, length_places 0 c), place_at c p.index p k ∙ back);
    once = λ i j d l b e.
        let first = place_at c i d (omega (arith, l, within j b)) in
        let second = place_at c j d (within j b) in
        let same : i ≡ j = ap (λ (p : LineRef). p.index) (sym first ∙ e ∙ second) in
        omega (arith, l, same);
  }

  -- of two places the later one has no lower clock
  rises : NoneFalls (c ∷ []) → (i j : ℕ) → i < j → ¬ FollowsByFile (c ∷ []) (line 0 i) (line 0 j)
  rises n i j l r = elim r.4 [
    | inl low ↦ absurd (clash_ℤ low (n (line 0 i) j r.0 r.1 l r.2 r.3))
    | inr same ↦ omega (arith, same.1)
  ]

  pub in_order : NoneFalls (c ∷ []) → IsMerged (c ∷ []) (places_from 0 c)
  in_order n = record {
    lines = each_once;
    in_log = λ i j d l b r.
        let first : (get_or (places_from 0 c) i d).index ≡ i = ap (λ (p : LineRef). p.index) (place_at c i d (omega (arith, l, within j b))) in
        let second : (get_or (places_from 0 c) j d).index ≡ j = ap (λ (p : LineRef). p.index) (place_at c j d (within j b)) in
        let falls : (get_or (places_from 0 c) j d).index < (get_or (places_from 0 c) i d).index = r.1 in
        omega (arith, l, first, second, falls);
    rule = λ i j d l b.
        subst (λ (p : LineRef). ¬ FollowsByFile (c ∷ []) p (get_or (places_from 0 c) j d)) (sym (place_at c i d (omega (arith, l, within j b))))
        (subst (λ (p : LineRef). ¬ FollowsByFile (c ∷ []) (line 0 i) p) (sym (place_at c j d (within j b))) (rises n i j l));
  }

stand : (f : FileLines) (i : ℕ) (xs : List Line) → ((k : ℕ) (x : Line) → slice_get xs k ≡ Some x → slice_get f.steps (i + k) ≡ Some x) → AllZip (StandsAt (f ∷ [])) (places_from i xs) xs
stand f i [] h = tt
stand f i (x ∷ xs) h =
    let first : i + 0 ≡ i = omega arith in (
      (f, refl, subst (λ (n : ℕ). slice_get f.steps n ≡ Some x) first (h 0 x refl)),
      stand f (suc i) xs (λ k y e. let next : i + suc k ≡ suc i + k = omega arith in subst (λ (n : ℕ). slice_get f.steps n ≡ Some y) next (h (suc k) y e)),
    )

none_before : (k : ℕ) → k ≡ 0 + k
none_before k = omega arith

pub log_of_file : (f : FileLines) (log : Log) → log.init ≡ sees_of f.init → log.lines ≡ f.steps → NoneFalls (numbers_in (f ∷ [])) → IsLogOf (f ∷ []) log
log_of_file f log init lines n =
    let clocks = map (λ (l : Line). number_in l.clock) f.steps in
    record {
      init = init ∙ sym (append-nil (sees_of f.init));
      order = places_from 0 f.steps;
      merged = subst (λ (o : List LineRef). IsMerged (clocks ∷ []) o) (same_places (λ (l : Line). number_in l.clock) 0 f.steps) (in_order clocks n);
      lines = subst (λ (ls : List Line). AllZip (StandsAt (f ∷ [])) (places_from 0 f.steps) ls) (sym lines)
          (stand f 0 f.steps (λ k x e. subst (λ (m : ℕ). slice_get f.steps m ≡ Some x) (none_before k) e));
    }

pub sole : {X : Type 0} (xs ys : List X) (x : X) → xs ≡ ys ++ x ∷ [] → length xs ≡ 1 → xs ≡ x ∷ []
sole xs [] x e h = e
sole xs (y ∷ ys) x e h =
    let long : length xs ≡ length ((y ∷ ys) ++ x ∷ []) = ap length e in
    absurd (omega (arith, long, h, length-append (y ∷ ys) (x ∷ [])))
