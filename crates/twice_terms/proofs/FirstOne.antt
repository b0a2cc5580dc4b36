-- The first of several faults is one: where a fault stands in the order tells all of it.
use Rattle.std.proofs.Common.{◌≡◌, ◌∙◌, sym, ap, refl, List, [], ◌∷◌, arith}
use Rattle.std.specs.Prelude.{ℕ, zero, suc, ◌-◌, true, false}
use Rattle.std.specs.Ordering.{nat_cmp, is_lt, is_eq, ordering_reverse}
use Rattle.std.specs.Cmp.Lexicographic.{slice_cmp, bytes_decides, texts_ties}
use Rattle.std.specs.declared.cmp.Ordering.{Ordering}
use Rattle.std.specs.declared.cmp.Ordering.TheVariants.{Less, Equal, Greater}
use Rattle.std.proofs.lemmas.Cmp.{nat_list_cmp_total}
use Rattle.base_core.specs.declared.place.Place.{Place}
use Rattle.names_terms.specs.declared.level.Level.{Level}
use Rattle.names_terms.specs.declared.level.Level.TheVariants.{Constant, State, Action, Temporal}
use Rattle.names_term_parts.specs.declared.fault.LevelFault.{LevelFault}
use Rattle.names_term_parts.specs.declared.fault.LevelFault.TheVariants.{TooHigh, PrimedArgument}
use Rattle.names_term_parts.specs.FaultOrder.{is_before, number_of, standing}
use Rattle.names_term_levels.specs.Faults.{IsFirst}

neither : (o p : Ordering) → o ≡ ordering_reverse p → is_lt o ≡ false → is_lt p ≡ false → is_eq o ≡ true
neither o Less q a b = absurd (cc)
neither o Equal q a b = ap is_eq q
neither o Greater q a b = absurd (let c : true ≡ false = sym (ap is_lt q) ∙ a in cc)

standings : (x y : LevelFault) → is_before x y ≡ false → is_before y x ≡ false → standing x ≡ standing y
standings x y a b =
    let t : is_eq (slice_cmp nat_cmp (standing x) (standing y)) ≡ true =
    neither (slice_cmp nat_cmp (standing x) (standing y)) (slice_cmp nat_cmp (standing y) (standing x)) (nat_list_cmp_total.antisymm (standing x) (standing y)) a b in
    (bytes_decides (standing x) (standing y)).0 (texts_ties (standing x) (standing y) ∙ t)

abbrev level_numbered : ℕ → Level
level_numbered zero = Constant
level_numbered (suc zero) = State
level_numbered (suc (suc zero)) = Action
level_numbered (suc (suc (suc n))) = Temporal

numbered_back : (l : Level) → level_numbered (number_of l) ≡ l
numbered_back Constant = refl
numbered_back State = refl
numbered_back Action = refl
numbered_back Temporal = refl

abbrev level_left : ℕ → Level
level_left zero = Temporal
level_left (suc zero) = Action
level_left (suc (suc zero)) = State
level_left (suc (suc (suc n))) = Constant

left_back : (l : Level) → level_left (3 - number_of l) ≡ l
left_back Constant = refl
left_back State = refl
left_back Action = refl
left_back Temporal = refl

one_level : (l k : Level) → number_of l ≡ number_of k → l ≡ k
one_level l k q = sym (numbered_back l) ∙ ap level_numbered q ∙ numbered_back k

one_left : (l k : Level) → 3 - number_of l ≡ 3 - number_of k → l ≡ k
one_left l k q = sym (left_back l) ∙ ap level_left q ∙ left_back k

-- the i-th number of a list
abbrev item : ℕ → List ℕ → ℕ
item i [] = 0
item zero (x ∷ xs) = x
item (suc i) (x ∷ xs) = item i xs

one_place : (a b : Place) → a.file ≡ b.file → a.line ≡ b.line → a.col ≡ b.col → a ≡ b
one_place a b f l c = λ i. record { file = f i; line = l i; col = c i }

told : (x y : LevelFault) → standing x ≡ standing y → x ≡ y
told (TooHigh found allowed at) (TooHigh seen most there) q =
    let p : at ≡ there = one_place at there (ap (item 0) q) (ap (item 1) q) (ap (item 2) q) in
    let f : found ≡ seen = one_level found seen (ap (item 5) q) in
    let a : allowed ≡ most = one_left allowed most (ap (item 4) q) in
    λ i. TooHigh (f i) (a i) (p i)
told (PrimedArgument at) (PrimedArgument there) q = ap PrimedArgument (one_place at there (ap (item 0) q) (ap (item 1) q) (ap (item 2) q))
told (TooHigh found allowed at) (PrimedArgument there) q = absurd (let c : 0 ≡ 1 = ap (item 3) q in omega arith)
told (PrimedArgument at) (TooHigh found allowed there) q = absurd (let c : 1 ≡ 0 = ap (item 3) q in omega arith)

-- of any faults
pub first_is_one : (IsSuch : LevelFault → Type 0) (x y : LevelFault) → IsFirst IsSuch x → IsFirst IsSuch y → x ≡ y
first_is_one IsSuch x y a b = told x y (standings x y (b.none_before x a.is_such) (a.none_before y b.is_such))
