-- What stands in order by clock, log and place is the merged order.
use Rattle.std.proofs.Common.{◌≡◌, ◌≢◌, ◌⊎◌, inl, inr, ℕ, zero, suc, ◌+◌, ◌<◌, ◌==◌, ℤ, ◌<ℤ◌, ◌≤ℤ◌, List, [], ◌∷◌, ◌++◌, length, map, get_or, Bool, true, false, ◌&&◌, Some, option_map, pos, negsuc, drop, Ordering, Less, Equal, ap, sym, ◌∙◌, subst, refl, arith, true≢false}
use Rattle.std.specs.List.{Contains, AllPairs, AllByRecursion, IsDistinct, slice_get}
use Rattle.std.specs.List.Sorted.{IsPermutation, IsSorted}
use Rattle.std.specs.Ordering.{is_lt, int_cmp, nat_cmp, ordering_then}
use Rattle.std.specs.Cmp.{IsTotalOrder}
use Rattle.std.proofs.lemmas.Cmp.{then_total, on_total, int_cmp_total, nat_cmp_total, tied_itself}
use Rattle.std.proofs.lemmas.Int.{ints}
use Rattle.std.proofs.lemmas.Bool.Decides.{nat_tests}
use Rattle.std.proofs.Math.Seq.{drop-cons}
use Rattle.std.proofs.lemmas.List.{length-map}
use Rattle.std.proofs.lemmas.Option.{slice_get-map, slice_get_within, get_or_from_slice_get}
use Rattle.std.proofs.lemmas.List.Sorted.{sorted_far, ranks_by, Contains-permutation, IsPermutation-sym}
use Rattle.std.proofs.lemmas.Map.Keys.{IsDistinct-IsPermutation, apart_from_distinct}
use Rattle.base_clock_order.specs.declared.order.LineRef.{LineRef}
use Rattle.base_clock_order.specs.Orders.{Clocks, HasClock, IsLine, NoneFalls, HasEachOnce, FollowsInLog, FollowsByFile, IsMerged, IsAllowedByClock, line}
use Rattle.base_clock_order.specs.Stamps.{Stamp, line_of, stamps_in, stamps_from, stamp_cmp}
use Rattle.base_clock_order.proofs.OneOrder.{cons_cases, head_in, tail_in, none_in, int_three}

-- where a line stands in its log
abbrev InLog : ℕ → ℕ → List ℤ → Stamp → Type 0
InLog f i cs s = (s.1 ≡ f) × ((k : ℕ) × (s.2 ≡ i + k) × (slice_get cs k ≡ Some s.0))

in_log : (f i : ℕ) (cs : List ℤ) (s : Stamp) → Contains (stamps_in f i cs) s → InLog f i cs s
in_log f i [] s h = absurd (none_in s h)
in_log f i (c ∷ cs) s h = elim (cons_cases (c, f, i) (stamps_in f (suc i) cs) s h) [
  | inl e ↦ subst (λ (w : Stamp). InLog f i (c ∷ cs) w) e (refl, (0, omega arith, refl))
  | inr g ↦ let r = in_log f (suc i) cs s g in (r.0, (suc r.1.0, omega (arith, r.1.1), r.1.2))
]

log_in : (f i : ℕ) (cs : List ℤ) (k : ℕ) (c : ℤ) → slice_get cs k ≡ Some c → Contains (stamps_in f i cs) (c, f, i + k)
log_in f i [] k c e = cc
log_in f i (d ∷ cs) zero c e =
    let same : d ≡ c = cc in
    let place : i ≡ i + 0 = omega arith in
    subst (λ (w : Stamp). Contains (stamps_in f i (d ∷ cs)) w) (λ j. (same j, f, place j)) (head_in (d, f, i) (stamps_in f (suc i) cs))
log_in f i (d ∷ cs) (suc k) c e =
    let place : suc i + k ≡ i + suc k = omega arith in
    subst (λ (n : ℕ). Contains (stamps_in f i (d ∷ cs)) (c, f, n)) place (tail_in (d, f, i) (stamps_in f (suc i) cs) (c, f, suc i + k) (log_in f (suc i) cs k c e))

module _ {X : Type 0} where
  append_cases : (xs ys : List X) (v : X) → Contains (xs ++ ys) v → Contains xs v ⊎ Contains ys v
  append_cases [] ys v h = inr h
  append_cases (x ∷ xs) ys v h = elim (cons_cases x (xs ++ ys) v h) [
    | inl e ↦ inl (subst (λ (w : X). Contains (x ∷ xs) w) e (head_in x xs))
    | inr g ↦ elim (append_cases xs ys v g) [ inl a ↦ inl (tail_in x xs v a) | inr b ↦ inr b ]
  ]

  append_left : (xs ys : List X) (v : X) → Contains xs v → Contains (xs ++ ys) v
  append_left [] ys v h = absurd (none_in v h)
  append_left (x ∷ xs) ys v h = elim (cons_cases x xs v h) [
    | inl e ↦ subst (λ (w : X). Contains (x ∷ (xs ++ ys)) w) e (head_in x (xs ++ ys))
    | inr g ↦ tail_in x (xs ++ ys) v (append_left xs ys v g)
  ]

  append_right : (xs ys : List X) (v : X) → Contains ys v → Contains (xs ++ ys) v
  append_right [] ys v h = h
  append_right (x ∷ xs) ys v h = tail_in x (xs ++ ys) v (append_right xs ys v h)

  all_from : (P : X → Type 0) (xs : List X) → ((x : X) → Contains xs x → P x) → AllByRecursion P xs
  all_from P [] f = tt
  all_from P (x ∷ xs) f = (f x (head_in x xs), all_from P xs (λ y h. f y (tail_in x xs y h)))

  all_append : (P : X → Type 0) (xs ys : List X) → AllByRecursion P xs → AllByRecursion P ys → AllByRecursion P (xs ++ ys)
  all_append P [] ys a b = b
  all_append P (x ∷ xs) ys a b = (a.0, all_append P xs ys a.1 b)

  distinct_append : (e : X → X → Bool) (xs ys : List X) → IsDistinct e xs → IsDistinct e ys → ((x y : X) → Contains xs x → Contains ys y → e x y ≡ false) → IsDistinct e (xs ++ ys)
  unfolding IsDistinct
  distinct_append e [] ys a b f = b
  distinct_append e (x ∷ xs) ys a b f =
      (all_append (λ (y : X). e x y ≡ false) xs ys a.0 (all_from (λ (y : X). e x y ≡ false) ys (λ y h. f x y (head_in x xs) h)), distinct_append e xs ys a.1 b (λ u v h k. f u v (tail_in x xs u h) k))

-- where a line stands in the logs from f on
abbrev InLogs : ℕ → Clocks → Stamp → Type 0
InLogs f logs s = (k : ℕ) × (s.1 ≡ f + k) × ((log : List ℤ) × (slice_get logs k ≡ Some log) × (slice_get log s.2 ≡ Some s.0))

in_logs : (f : ℕ) (logs : Clocks) (s : Stamp) → Contains (stamps_from f logs) s → InLogs f logs s
in_logs f [] s h = absurd (none_in s h)
in_logs f (log ∷ logs) s h = elim (append_cases (stamps_in f 0 log) (stamps_from (suc f) logs) s h) [
  | inl a ↦ let r = in_log f 0 log s a in
      let place : r.1.0 ≡ s.2 = omega (arith, r.1.1) in
      (0, omega (arith, r.0), (log, refl, subst (λ (n : ℕ). slice_get log n ≡ Some s.0) place r.1.2))
  | inr b ↦ let r = in_logs (suc f) logs s b in (suc r.0, omega (arith, r.1), r.2)
]

pub logs_in : (f : ℕ) (logs : Clocks) (k i : ℕ) (log : List ℤ) (c : ℤ) → slice_get logs k ≡ Some log → slice_get log i ≡ Some c → Contains (stamps_from f logs) (c, f + k, i)
logs_in f [] k i log c e g = cc
logs_in f (l ∷ ls) zero i log c e g =
    let same : l ≡ log = cc in
    let here = log_in f 0 l i c (subst (λ (w : List ℤ). slice_get w i ≡ Some c) (sym same) g) in
    let file : f ≡ f + 0 = omega arith in
    let place : 0 + i ≡ i = omega arith in
    subst (λ (w : Stamp). Contains (stamps_from f (l ∷ ls)) w) (λ j. (c, file j, place j)) (append_left (stamps_in f 0 l) (stamps_from (suc f) ls) (c, f, 0 + i) here)
logs_in f (l ∷ ls) (suc k) i log c e g =
    let file : suc f + k ≡ f + suc k = omega arith in
    subst (λ (n : ℕ). Contains (stamps_from f (l ∷ ls)) (c, n, i)) file (append_right (stamps_in f 0 l) (stamps_from (suc f) ls) (c, suc f + k, i) (logs_in (suc f) ls k i log c e g))

-- one line
abbrev same_line : Stamp → Stamp → Bool
same_line s t = (s.1 == t.1) && (s.2 == t.2)

other_file : (s t : Stamp) → s.1 < t.1 → same_line s t ≡ false
other_file s t h = grind (arith, nat_tests, h)

other_place : (s t : Stamp) → s.2 < t.2 → same_line s t ≡ false
other_place s t h = grind (arith, nat_tests, h)

lines_differ : (s t : Stamp) → same_line s t ≡ false → line_of s ≢ line_of t
lines_differ s t h e =
    let file : s.1 ≡ t.1 = ap (λ (l : LineRef). l.file) e in
    let place : s.2 ≡ t.2 = ap (λ (l : LineRef). l.index) e in
    grind (arith, nat_tests, h, file, place)

flips : (s t : Stamp) → same_line s t ≡ same_line t s
flips s t = grind (arith, nat_tests)

log_distinct : (f i : ℕ) (cs : List ℤ) → IsDistinct same_line (stamps_in f i cs)
unfolding IsDistinct
log_distinct f i [] = tt
log_distinct f i (c ∷ cs) =
    (all_from (λ (t : Stamp). same_line (c, f, i) t ≡ false) (stamps_in f (suc i) cs) (λ t h. let r = in_log f (suc i) cs t h in other_place (c, f, i) t (omega (arith, r.1.1))), log_distinct f (suc i) cs)

none_distinct : IsDistinct same_line []
unfolding IsDistinct
none_distinct = tt

pub logs_distinct : (f : ℕ) (logs : Clocks) → IsDistinct same_line (stamps_from f logs)
logs_distinct f [] = none_distinct
logs_distinct f (log ∷ logs) =
    distinct_append same_line (stamps_in f 0 log) (stamps_from (suc f) logs) (log_distinct f 0 log) (logs_distinct (suc f) logs)
    (λ s t h k. let a = in_log f 0 log s h in let b = in_logs (suc f) logs t k in other_file s t (omega (arith, a.0, b.1)))

-- a listed line has its clock
pub has_clock : (clocks : Clocks) (s : Stamp) → Contains (stamps_from 0 clocks) s → HasClock clocks (line_of s) s.0
has_clock clocks s h =
    let r = in_logs 0 clocks s h in
    let file : r.0 ≡ s.1 = omega (arith, r.1) in
    (r.2.0, subst (λ (n : ℕ). slice_get clocks n ≡ Some r.2.0) file r.2.1, r.2.2)

one_clock : (clocks : Clocks) (l : LineRef) (c d : ℤ) → HasClock clocks l c → HasClock clocks l d → c ≡ d
one_clock clocks l c d p q =
    let log : p.0 ≡ q.0 = some_is (sym p.1 ∙ q.1) in
    some_is (sym p.2 ∙ ap (λ (w : List ℤ). slice_get w l.index) log ∙ q.2)
  where
    some_is : {X : Type 0} {x y : X} → Some x ≡ Some y → x ≡ y
    some_is e = cc

stamp_total : IsTotalOrder stamp_cmp
stamp_total = then_total (on_total (λ (s : Stamp). s.0) int_cmp_total) (then_total (on_total (λ (s : Stamp). s.1) nat_cmp_total) (on_total (λ (s : Stamp). s.2) nat_cmp_total))

int_less : (c d : ℤ) → c <ℤ d → int_cmp c d ≡ Less
int_less (pos m) (pos n) h = grind (arith, ints, nat_tests, h)
int_less (pos m) (negsuc n) h = absurd (omega (arith, ints, h))
int_less (negsuc m) (pos n) h = refl
int_less (negsuc m) (negsuc n) h = grind (arith, ints, nat_tests, h)

nat_less : (m n : ℕ) → m < n → nat_cmp m n ≡ Less
nat_less m n h = grind (arith, nat_tests, h)

int_same : (c : ℤ) → int_cmp c c ≡ Equal
int_same c = tied_itself int_cmp_total c

nat_same : (m : ℕ) → nat_cmp m m ≡ Equal
nat_same m = tied_itself nat_cmp_total m

clock_less : (s t : Stamp) → s.0 <ℤ t.0 → is_lt (stamp_cmp s t) ≡ true
clock_less s t h = ap (λ (o : Ordering). is_lt (ordering_then o (ordering_then (nat_cmp s.1 t.1) (nat_cmp s.2 t.2)))) (int_less s.0 t.0 h)

file_less : (s t : Stamp) → s.0 ≡ t.0 → s.1 < t.1 → is_lt (stamp_cmp s t) ≡ true
file_less s t e h =
    let tied : int_cmp s.0 t.0 ≡ Equal = subst (λ (c : ℤ). int_cmp s.0 c ≡ Equal) e (int_same s.0) in
    λ k. is_lt (ordering_then (tied k) (ordering_then (nat_less s.1 t.1 h k) (nat_cmp s.2 t.2)))

place_less : (s t : Stamp) → s.0 ≡ t.0 → s.1 ≡ t.1 → s.2 < t.2 → is_lt (stamp_cmp s t) ≡ true
place_less s t e f h =
    let tied : int_cmp s.0 t.0 ≡ Equal = subst (λ (c : ℤ). int_cmp s.0 c ≡ Equal) e (int_same s.0) in
    let same : nat_cmp s.1 t.1 ≡ Equal = subst (λ (n : ℕ). nat_cmp s.1 n ≡ Equal) f (nat_same s.1) in
    λ k. is_lt (ordering_then (tied k) (ordering_then (same k) (nat_less s.2 t.2 h k)))

at_most : (c d : ℤ) → c ≤ℤ d → (c ≡ d) ⊎ (c <ℤ d)
at_most c d h = elim (int_three c d) [
  | inl e ↦ inl e
  | inr g ↦ elim g [ inl l ↦ inr l | inr l ↦ absurd (omega (arith, ints, h, l)) ]
]

module _ {X : Type 0} where
  place : (xs : List X) (i : ℕ) → i < length xs → (x : X) × (slice_get xs i ≡ Some x)
  place [] i h = absurd (omega (arith, h))
  place (x ∷ xs) zero h = (x, refl)
  place (x ∷ xs) (suc i) h = place xs i (omega arith)

  stands : (xs : List X) (i : ℕ) (x : X) → slice_get xs i ≡ Some x → Contains xs x
  stands xs i x e = (i, slice_get_within xs i x e, get_or_from_slice_get xs i x x e)

module _ {X Y : Type 0} (f : X → Y) where
  pub map_in : (xs : List X) (x : X) → Contains xs x → Contains (map f xs) (f x)
  map_in [] x h = absurd (none_in x h)
  map_in (z ∷ zs) x h = elim (cons_cases z zs x h) [
    | inl e ↦ subst (λ (w : X). Contains (f z ∷ map f zs) (f w)) e (head_in (f z) (map f zs))
    | inr g ↦ tail_in (f z) (map f zs) (f x) (map_in zs x g)
  ]

  pub in_map : (xs : List X) (y : Y) → Contains (map f xs) y → (x : X) × Contains xs x × (f x ≡ y)
  in_map [] y h = absurd (none_in y h)
  in_map (z ∷ zs) y h = elim (cons_cases (f z) (map f zs) y h) [
    | inl e ↦ (z, head_in z zs, e)
    | inr g ↦ let r = in_map zs y g in (r.0, tail_in z zs r.0 r.1, r.2)
  ]

  mapped_at : (xs : List X) (i : ℕ) (x : X) (d : Y) → slice_get xs i ≡ Some x → get_or (map f xs) i d ≡ f x
  mapped_at xs i x d e = get_or_from_slice_get (map f xs) i (f x) d (slice_get-map f xs i ∙ ap (option_map f) e)

  -- a fact of any two places of a list is one of the places of what a map makes of it
  pairs_map : (R : Y → Y → Type 0) (xs : List X) → ((i j : ℕ) (x y : X) → i < j → j < length xs → slice_get xs i ≡ Some x → slice_get xs j ≡ Some y → R (f x) (f y)) → AllPairs R (map f xs)
  pairs_map R xs h = λ i j d l b.
      let size : length (map f xs) ≡ length xs = length-map xs f in
      let a = place xs i (omega (arith, l, b, size)) in
      let c = place xs j (omega (arith, l, b, size)) in
      let holds = h i j a.0 c.0 l (omega (arith, b, size)) a.1 c.1 in
      subst (λ (y : Y). R (get_or (map f xs) i d) y) (sym (mapped_at xs j c.0 d c.1)) (subst (λ (y : Y). R y (f c.0)) (sym (mapped_at xs i a.0 d a.1)) holds)

module _ (clocks : Clocks) (stamps : List Stamp) (rising : NoneFalls clocks) (perm : IsPermutation (stamps_from 0 clocks) stamps) (up : IsSorted stamp_cmp stamps) where
  clock_at : (i : ℕ) (s : Stamp) → slice_get stamps i ≡ Some s → HasClock clocks (line_of s) s.0
  clock_at i s e = has_clock clocks s (Contains-permutation stamps (stamps_from 0 clocks) s (IsPermutation-sym (stamps_from 0 clocks) stamps perm) (stands stamps i s e))

  not_less : (i j : ℕ) (s t : Stamp) → i < j → j < length stamps → slice_get stamps i ≡ Some s → slice_get stamps j ≡ Some t → is_lt (stamp_cmp t s) ≡ false
  not_less i j s t l b e f =
      let far = sorted_far (λ (x y : Stamp). is_lt (stamp_cmp x y)) (ranks_by stamp_total (λ (x : Stamp). x)) stamps up i j s (omega (arith, l)) b in
      subst (λ (x : Stamp). is_lt (stamp_cmp x s) ≡ false) (get_or_from_slice_get stamps j t s f) (subst (λ (x : Stamp). is_lt (stamp_cmp (get_or stamps j s) x) ≡ false) (get_or_from_slice_get stamps i s s e) far)

  differ : (i j : ℕ) (s t : Stamp) → i < j → j < length stamps → slice_get stamps i ≡ Some s → slice_get stamps j ≡ Some t → line_of s ≢ line_of t
  differ i j s t l b e f =
      let distinct = IsDistinct-IsPermutation same_line flips (stamps_from 0 clocks) stamps perm (logs_distinct 0 clocks) in
      let apart = apart_from_distinct same_line stamps i j s distinct l b in
      lines_differ s t (subst (λ (x : Stamp). same_line s x ≡ false) (get_or_from_slice_get stamps j t s f) (subst (λ (x : Stamp). same_line x (get_or stamps j s) ≡ false) (get_or_from_slice_get stamps i s s e) apart))

  follows_less : (s t : Stamp) → HasClock clocks (line_of s) s.0 → HasClock clocks (line_of t) t.0 → FollowsByFile clocks (line_of s) (line_of t) → is_lt (stamp_cmp t s) ≡ true
  follows_less s t p q r =
      let c : r.0 ≡ s.0 = one_clock clocks (line_of s) r.0 s.0 r.2 p in
      let d : r.1 ≡ t.0 = one_clock clocks (line_of t) r.1 t.0 r.3 q in
      elim r.4 [
        | inl l ↦ clock_less t s (subst (λ (x : ℤ). t.0 <ℤ x) c (subst (λ (x : ℤ). x <ℤ r.0) d l))
        | inr h ↦ file_less t s (sym d ∙ h.0 ∙ c) h.1
      ]

  later_less : (s t : Stamp) → HasClock clocks (line_of s) s.0 → HasClock clocks (line_of t) t.0 → FollowsInLog (line_of s) (line_of t) → is_lt (stamp_cmp t s) ≡ true
  later_less s t p q r =
      let there : HasClock clocks (line t.1 s.2) s.0 = subst (λ (n : ℕ). HasClock clocks (line n s.2) s.0) r.0 p in
      elim (at_most t.0 s.0 (rising (line_of t) s.2 t.0 s.0 r.1 q there)) [
        | inl e ↦ place_less t s e (sym r.0) r.1
        | inr l ↦ clock_less t s l
      ]

  each_once : HasEachOnce clocks (map line_of stamps)
  each_once = record {
    lines = λ l h. let r = in_map line_of stamps l h in
        subst (λ (x : LineRef). IsLine clocks x) r.2 (r.0.0, has_clock clocks r.0 (Contains-permutation stamps (stamps_from 0 clocks) r.0 (IsPermutation-sym (stamps_from 0 clocks) stamps perm) r.1));
    all = λ l h. let s : Stamp = (h.0, l.file, l.index) in
        let listed = logs_in 0 clocks l.file l.index h.1.0 h.0 h.1.1 h.1.2 in
        let file : 0 + l.file ≡ l.file = omega arith in
        map_in line_of stamps s (Contains-permutation (stamps_from 0 clocks) stamps s perm (subst (λ (n : ℕ). Contains (stamps_from 0 clocks) (h.0, n, l.index)) file listed));
    once = pairs_map line_of (λ a b. a ≢ b) stamps differ;
  }

  pub merged : (lines : List LineRef) → lines ≡ map line_of stamps → IsMerged clocks lines
  merged lines is = subst (λ (ls : List LineRef). IsMerged clocks ls) (sym is) (record {
    lines = each_once;
    in_log = pairs_map line_of (λ a b. ¬ FollowsInLog a b) stamps (λ i j s t l b e f r. true≢false (sym (later_less s t (clock_at i s e) (clock_at j t f) r) ∙ not_less i j s t l b e f));
    rule = pairs_map line_of (λ a b. ¬ FollowsByFile clocks a b) stamps (λ i j s t l b e f r. true≢false (sym (follows_less s t (clock_at i s e) (clock_at j t f) r) ∙ not_less i j s t l b e f));
  })

-- the order is allowed by the clocks alone
pub allowed_by_clock : IsAllowedByClock
allowed_by_clock clocks order m = record { lines = m.lines; in_log = m.in_log; rule = λ i j d l b r. m.rule i j d l b (r.0, r.1, r.2, r.3, inl r.4) }

one_more : (n : ℕ) → suc n ≡ n + 1
one_more n = omega arith

-- what is left to be listed
pub rest_of_log : (f i : ℕ) (log : List ℤ) (c : ℤ) → i < length log → c ≡ get_or log i c → stamps_in f i (drop i log) ≡ (c, f, i) ∷ stamps_in f (i + 1) (drop (i + 1) log)
rest_of_log f i log c h e =
    let here : drop i log ≡ c ∷ drop (suc i) log = drop-cons log i c h ∙ ap (λ (d : ℤ). d ∷ drop (suc i) log) (sym e) in
    subst (λ (n : ℕ). stamps_in f i (drop i log) ≡ (c, f, i) ∷ stamps_in f n (drop n log)) (one_more i) (ap (stamps_in f i) here)

pub rest_of_logs : (f : ℕ) (logs : Clocks) (log : List ℤ) → slice_get logs f ≡ Some log → stamps_from f (drop f logs) ≡ stamps_in f 0 log ++ stamps_from (f + 1) (drop (f + 1) logs)
rest_of_logs f logs log e =
    let here : drop f logs ≡ log ∷ drop (suc f) logs = drop-cons logs f log (slice_get_within logs f log e) ∙ ap (λ (d : List ℤ). d ∷ drop (suc f) logs) (get_or_from_slice_get logs f log log e) in
    subst (λ (n : ℕ). stamps_from f (drop f logs) ≡ stamps_in f 0 log ++ stamps_from n (drop n logs)) (one_more f) (ap (stamps_from f) here)
