-- What a clock says of nodes, and when it falls.
use Rattle.std.proofs.Common.{◌≡◌, ◌↔◌, ◌≤◌, ◌<◌, ◌+◌, ℕ, zero, suc, IsTrue, length, get_or, take, drop, Bool, true, false, List, [], ◌∷◌, ◌++◌, refl, sym, ap, subst, ◌∙◌, arith}
use Rattle.std.specs.Prelude.{All, max, if◌then◌else◌}
use Rattle.std.specs.Str.{bytes_eq}
use Rattle.std.specs.Cmp.Lexicographic.{bytes_decides}
use Rattle.std.proofs.Math.Nat.{le-max_left, le-max_right}
use Rattle.std.proofs.lemmas.List.{take_all, take_more}
use Rattle.std.proofs.lemmas.List.Elements.{All-head, All-push, All-tail}
use Rattle.base_core.specs.Texts.{same_bytes}
use Rattle.base_clocks.specs.Falls.{IsFirstFall}
use Rattle.base_clocks.specs.Stamps.{IsAbove, IsAtMost, number, number_so_far}
use Rattle.base_clocks.specs.declared.stamp.Stamp.{Stamp}

-- what the clock says of the node is no less than any of its stamps
own_number : (s : Stamp) (ss : List Stamp) → s.number ≤ number (s ∷ ss) s.node
own_number s ss =
    let same : bytes_eq s.node s.node ≡ true = (bytes_decides s.node s.node).1 refl in
    subst (λ (b : Bool). s.number ≤ (if b then max s.number (number ss s.node) else number ss s.node)) (sym same) (le-max_left s.number (number ss s.node))

more_numbers : (s : Stamp) (ss : List Stamp) (node : List ℕ) (b : Bool) → number ss node ≤ (if b then max s.number (number ss node) else number ss node)
more_numbers s ss node true = le-max_right s.number (number ss node)
more_numbers s ss node false = omega arith

-- a stamp that stands in the clock is no more than what it says of the node
pub is_said : (before : List Stamp) (s : Stamp) (behind : List Stamp) → s.number ≤ number (before ++ s ∷ behind) s.node
is_said [] s behind = own_number s behind
is_said (t ∷ before) s behind =
    let more = more_numbers t (before ++ s ∷ behind) s.node (bytes_eq t.node s.node) in
    let rest = is_said before s behind in
    omega arith

most : (m n k : ℕ) → m ≤ k → n ≤ k → max m n ≤ k
most m n k h i = grind arith

at_most_by : (s : Stamp) (u v : List Stamp) (node : List ℕ) (b : Bool) → bytes_eq s.node node ≡ b → s.number ≤ number v s.node → number u node ≤ number v node
    → (if b then max s.number (number u node) else number u node) ≤ number v node
at_most_by s u v node true e h i = most s.number (number u node) (number v node) (subst (λ n. s.number ≤ number v n) (same_bytes s.node node e) h) i
at_most_by s u v node false e h i = i

-- where each stamp is at most what the other says, the clock is
pub at_most : (u v : List Stamp) → All (λ s. s.number ≤ number v s.node) u → IsAtMost u v
at_most [] v all node = omega arith
at_most (s ∷ u) v all node = at_most_by s u v node (bytes_eq s.node node) refl (All-head (λ t. t.number ≤ number v t.node) s u all) (at_most u v (All-tail (λ t. t.number ≤ number v t.node) s u all) node)

-- what falls is not at most the other
pub falls_apart : (u v : List Stamp) (node : List ℕ) → IsFirstFall u v node → number v node < number u node
falls_apart u v node f =
    let said : f.at.number ≤ number u f.at.node = subst (λ u. f.at.number ≤ number u f.at.node) (sym f.parts) (is_said f.before f.at f.behind) in
    let there : f.at.number ≤ number u node = subst (λ n. f.at.number ≤ number u n) (sym f.is) said in
    let falls : number v node < f.at.number = f.falls in
    omega (arith, there, falls)

pub not_at_most : (u v : List Stamp) (node : List ℕ) → IsFirstFall u v node → IsAtMost u v → ⊥
not_at_most u v node f h =
    let falls = falls_apart u v node f in
    let most = h node in
    omega arith

pub is_above : (u v : List Stamp) (node : List ℕ) → IsAtMost v u → IsFirstFall u v node → IsAbove u v
is_above u v node h f = record { at_least = h; node = node; differs = λ e. let falls = falls_apart u v node f in omega arith }

pub not_above : (u v : List Stamp) → IsAtMost u v → IsAbove u v → ⊥
not_above u v h a =
    let up = h a.node in
    let down = a.at_least a.node in
    a.differs (omega arith)

-- ---- the loops

by_test : (b : Bool) (m n greatest : ℕ) → max greatest (if b then max m n else n) ≡ max (if b then max greatest m else greatest) n
by_test true m n greatest = grind arith
by_test false m n greatest = refl

-- one stamp more
pub goes_on : (s : Stamp) (ss : List Stamp) (node : List ℕ) (greatest : ℕ) → max greatest (number (s ∷ ss) node) ≡ max (number_so_far greatest s node) (number ss node)
goes_on s ss node greatest = by_test (bytes_eq s.node node) s.number (number ss node) greatest

at_least : (m n : ℕ) → (m < n → ⊥) → n ≤ m
at_least m n h = grind arith

-- each of these is no more than what the other says
abbrev pub NoneFalls : List Stamp → List Stamp → Type 0
NoneFalls v ss = All (λ s. s.number ≤ number v s.node) ss

parts_at : (xs : List Stamp) (i : ℕ) (x : Stamp) → i < length xs → x ≡ get_or xs i x → xs ≡ take i xs ++ x ∷ drop (suc i) xs
parts_at [] i x l e = absurd (omega (arith, l))
parts_at (y ∷ ys) zero x l e = ap (λ z. z ∷ ys) (sym e)
parts_at (y ∷ ys) (suc i) x l e = ap (λ zs. y ∷ zs) (parts_at ys i x (omega (arith, l)) e)

pub found_fall : (u v : List Stamp) (i : ℕ) (s : Stamp) → i < length u → s ≡ get_or u i s → NoneFalls v (take i u) → number v s.node < s.number → IsFirstFall u v s.node
found_fall u v i s l e none falls = record { before = take i u; at = s; behind = drop (suc i) u; parts = parts_at u i s l e; is = refl; falls = falls; first = none }

pub none_further : (u v : List Stamp) (i : ℕ) (s : Stamp) (b : Bool) → i < length u → s ≡ get_or u i s → NoneFalls v (take i u) → IsTrue b ↔ (number v s.node < s.number) → b ≡ false → NoneFalls v (take (i + 1) u)
none_further u v i s b l e none h off =
    let low : s.number ≤ number v s.node = at_least (number v s.node) s.number (λ less. let yes : b ≡ true = h.1 less in cc) in
    subst (NoneFalls v) (sym (take_more u i s l ∙ ap (λ x. take i u ++ x ∷ []) (sym e))) (All-push (λ s. s.number ≤ number v s.node) (take i u) s none low)

pub none_at_all : (u v : List Stamp) (i : ℕ) → length u ≤ i → NoneFalls v (take i u) → IsAtMost u v
none_at_all u v i l none = at_most u v (subst (NoneFalls v) (take_all i u l) none)
