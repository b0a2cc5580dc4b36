-- A merged order is as long as all logs together.
use Rattle.std.proofs.Common.{◌≡◌, ℕ, suc, ◌+◌, ◌≤◌, ◌==◌, ℤ, List, [], ◌∷◌, length, length-append, map, Bool, true, false, ◌&&◌, true≢false, ap, sym, ◌∙◌, subst, refl, arith}
use Rattle.std.specs.List.{AllByRecursion, Contains, IsDistinct}
use Rattle.std.specs.Cmp.{IsEquivalence}
use Rattle.std.specs.Set.{is_member}
use Rattle.std.specs.Bool.{Decides}
use Rattle.std.proofs.lemmas.Bool.Decides.{nat_tests}
use Rattle.std.proofs.lemmas.List.{length-map}
use Rattle.std.proofs.lemmas.Map.Made.{IsDistinct-from_AllPairs, length-le_from_is_member}
use Rattle.std.proofs.lemmas.Map.Views.{Contains-from_any, list_any-from_Contains}
use Rattle.base_clock_order.specs.declared.order.LineRef.{LineRef}
use Rattle.base_clock_order.specs.Orders.{Clocks, IsAsLong, IsLine, lines_in}
use Rattle.base_clock_order.specs.Stamps.{Stamp, line_of, stamps_in, stamps_from}
use Rattle.base_clock_order.proofs.Merged.{has_clock, in_map, logs_distinct, logs_in, map_in}

-- one line
abbrev same_ref : LineRef → LineRef → Bool
same_ref a b = (a.file == b.file) && (a.index == b.index)

same_is : (a b : LineRef) → same_ref a b ≡ true → a ≡ b
same_is a b h =
    let file : a.file ≡ b.file = grind (arith, nat_tests, h) in
    let index : a.index ≡ b.index = grind (arith, nat_tests, h) in
    λ j. record { file = file j; index = index j }

same_itself : (a : LineRef) → same_ref a a ≡ true
same_itself a = grind (arith, nat_tests)

same_laws : IsEquivalence same_ref
same_laws = record {
  refl = same_itself;
  symm = λ a b. grind (arith, nat_tests);
  congr = λ a b c h. subst (λ (x : LineRef). same_ref a c ≡ same_ref x c) (same_is a b h) refl;
}

-- lines that differ, each of them in a list, are no more than it has
no_more : (xs ys : List LineRef) → IsDistinct same_ref xs → ((l : LineRef) → Contains xs l → Contains ys l) → length xs ≤ length ys
no_more xs ys d h = length-le_from_is_member same_laws xs ys d (λ q m. list_any-from_Contains same_laws q ys (h q (Contains-from_any same_is q xs m)))

length_in : (f i : ℕ) (cs : List ℤ) → length (stamps_in f i cs) ≡ length cs
length_in f i [] = refl
length_in f i (c ∷ cs) = let h = length_in f (suc i) cs in omega (arith, h)

length_from : (f : ℕ) (clocks : Clocks) → length (stamps_from f clocks) ≡ lines_in clocks
length_from f [] = refl
length_from f (log ∷ logs) =
    let here = length_in f 0 log in
    let behind = length_from (suc f) logs in
    let both = length-append (stamps_in f 0 log) (stamps_from (suc f) logs) in
    omega (arith, here, behind, both)

decides : (a b : LineRef) → Decides (same_ref a b) (a ≡ b)
decides a b = (same_is a b, λ same. subst (λ (x : LineRef). same_ref a x ≡ true) same (same_itself a))

module _ {X Y : Type 0} (f : X → Y) (e : Y → Y → Bool) where
  apart_map : (x : X) (xs : List X) → AllByRecursion (λ y. e (f x) (f y) ≡ false) xs → AllByRecursion (λ y. e (f x) y ≡ false) (map f xs)
  apart_map x [] h = tt
  apart_map x (y ∷ ys) h = (h.0, apart_map x ys h.1)

  distinct_map : (xs : List X) → IsDistinct (λ x y. e (f x) (f y)) xs → IsDistinct e (map f xs)
  unfolding IsDistinct
  distinct_map [] h = tt
  distinct_map (x ∷ xs) h = (apart_map x xs h.0, distinct_map xs h.1)

-- each line of the logs once, log by log
abbrev listed : Clocks → List LineRef
listed clocks = map line_of (stamps_from 0 clocks)

in_listed : (clocks : Clocks) (l : LineRef) → IsLine clocks l → Contains (listed clocks) l
in_listed clocks l is =
    let there = logs_in 0 clocks l.file l.index is.1.0 is.0 is.1.1 is.1.2 in
    let file : 0 + l.file ≡ l.file = omega arith in
    map_in line_of (stamps_from 0 clocks) (is.0, l.file, l.index) (subst (λ (n : ℕ). Contains (stamps_from 0 clocks) (is.0, n, l.index)) file there)

listed_in : (clocks : Clocks) (l : LineRef) → Contains (listed clocks) l → IsLine clocks l
listed_in clocks l h = let r = in_map line_of (stamps_from 0 clocks) l h in subst (λ (x : LineRef). IsLine clocks x) r.2 (r.0.0, has_clock clocks r.0 r.1)

pub as_long : IsAsLong
as_long clocks order merged =
    let distinct = IsDistinct-from_AllPairs decides order merged.lines.once in
    let up = no_more order (listed clocks) distinct (λ l h. in_listed clocks l (merged.lines.lines l h)) in
    let down = no_more (listed clocks) order (distinct_map line_of same_ref (stamps_from 0 clocks) (logs_distinct 0 clocks)) (λ l h. merged.lines.all l (listed_in clocks l h)) in
    let long = length-map (stamps_from 0 clocks) line_of in
    let all = length_from 0 clocks in
    omega (arith, up, down, long, all)
