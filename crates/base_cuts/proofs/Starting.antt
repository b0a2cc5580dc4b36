-- The cut at which nothing is taken, and sums of cuts.
use Rattle.std.proofs.Common.{◌≡◌, ℕ, zero, suc, ◌+◌, ◌≤◌, ℤ, List, [], ◌∷◌, ◌++◌, length, length-append, ap, sym, ◌∙◌, refl, arith, Vec}
use Rattle.std.specs.declared.alloc.Global.{Global}
use Rattle.base_clock_order.specs.declared.order.LineRef.{LineRef}
use Rattle.base_clocks.specs.declared.stamp.Stamp.{Stamp}
use Rattle.base_cuts.specs.Cuts.{Cut, after, nothing, total, with_one}
use Rattle.base_cuts.specs.Orders.{IsCut, IsMade, by_clock, by_vectors, in_sequence, none_of, start}
use Rattle.base_cuts.specs.Views.{logs_of}
use Rattle.base_cuts.proofs.Ends.{beginning_long}

none_more : (n : ℕ) → none_of n ++ 0 ∷ [] ≡ none_of (suc n)
none_more zero = refl
none_more (suc n) = ap (λ (c : Cut). 0 ∷ c) (none_more n)

-- one log more
pub none_pushed : (c : Cut) (n : ℕ) → c ≡ none_of n → c ++ 0 ∷ [] ≡ none_of (n + 1)
none_pushed c n e = let next : suc n ≡ n + 1 = omega arith in ap (λ (x : Cut). x ++ 0 ∷ []) e ∙ none_more n ∙ ap none_of next

nothing_with : (c : Cut) (f : ℕ) → nothing (with_one c f) ≡ nothing c
nothing_with [] f = refl
nothing_with (n ∷ ns) zero = refl
nothing_with (n ∷ ns) (suc f) = ap (λ (c : Cut). 0 ∷ c) (nothing_with ns f)

nothing_after : (c : Cut) (xs : List LineRef) → nothing (after c xs) ≡ nothing c
nothing_after c [] = refl
nothing_after c (x ∷ xs) = nothing_after (with_one c x.file) xs ∙ nothing_with c x.file

nothing_none : (n : ℕ) → nothing (none_of n) ≡ none_of n
nothing_none zero = refl
nothing_none (suc n) = ap (λ (c : Cut). 0 ∷ c) (nothing_none n)

pub start_in_sequence : (files : ℕ) (lines : List LineRef) → none_of files ≡ start (in_sequence files lines)
start_in_sequence files lines = sym (nothing_after (none_of files) lines ∙ nothing_none files)

pub start_by_clock : (logs : List (Vec ℤ Global)) → none_of (length logs) ≡ start (by_clock (logs_of logs))
start_by_clock [] = refl
start_by_clock (x ∷ xs) = ap (λ (c : Cut). 0 ∷ c) (start_by_clock xs)

pub start_by_vectors : (logs : List (Vec (List Stamp) Global)) → none_of (length logs) ≡ start (by_vectors (logs_of logs))
start_by_vectors [] = refl
start_by_vectors (x ∷ xs) = ap (λ (c : Cut). 0 ∷ c) (start_by_vectors xs)

short : (xs ys : List LineRef) → length xs ≤ length (xs ++ ys)
short xs ys = let l = length-append xs ys in omega (arith, l)

-- no more is taken than stands in the sequence
pub total_short : (files : ℕ) (lines : List LineRef) → IsMade (in_sequence files lines) → (c : Cut) → IsCut (in_sequence files lines) c → total c ≤ length lines
total_short files lines made c cut =
    let taken = beginning_long (in_sequence files lines) made cut.0 cut.2.0 cut.2.1 in
    let all = short cut.0 cut.2.0 in
    let whole : length (cut.0 ++ cut.2.0) ≡ length lines = ap length cut.2.1 in
    let same : total (after (start (in_sequence files lines)) cut.0) ≡ total c = ap total cut.1 in
    omega (arith, taken, all, whole, same)
