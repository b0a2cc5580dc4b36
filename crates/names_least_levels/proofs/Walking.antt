-- The least levels: they exist, the walk finds them, and they are the only ones.
use Rattle.std.proofs.Common.{◌≡◌, ◌∙◌, sym, ap, refl, subst, arith, List, [], ◌∷◌, length}
use Rattle.std.specs.Prelude.{◌≤◌, ◌<◌, ℕ, zero, suc, Bool, true, false, IsTrue, if◌then◌else◌}
use Rattle.reading_trees.specs.declared.expr.Definition.{Definition}
use Rattle.names_least_levels.specs.declared.told.NameLevel.{NameLevel}
use Rattle.names_least_levels.specs.Laws.{HaveLeast}
use Rattle.names_least_levels.specs.Levels.{each_rises, AreLevels, Implies, AtMost, AreLeast, same_marks, walked, none_of, levels_of}
use Rattle.names_least_levels.proofs.Monotone.{no_true, marks_below}

-- ---- order

one_mark : (a b : Bool) → Implies a b → Implies b a → a ≡ b
one_mark true true f g = refl
one_mark true false f g = absurd (no_true (f refl))
one_mark false true f g = absurd (no_true (g refl))
one_mark false false f g = refl

both_ways : (xs bs : List Bool) → AtMost xs bs → AtMost bs xs → xs ≡ bs
both_ways [] [] x y = refl
both_ways [] (b ∷ bs) x y = absurd x
both_ways (a ∷ xs) [] x y = absurd x
both_ways (a ∷ xs) (b ∷ bs) x y =
    let h : a ≡ b = one_mark a b x.0 y.0 in
    let t : xs ≡ bs = both_ways xs bs x.1 y.1 in
    ap (λ (z : Bool). z ∷ xs) h ∙ ap (λ (z : List Bool). b ∷ z) t

pub same_are_one : (xs bs : List Bool) → IsTrue (same_marks xs bs) → xs ≡ bs
same_are_one [] [] h = refl
same_are_one [] (b ∷ bs) h = absurd (no_true h)
same_are_one (true ∷ xs) [] h = absurd (no_true h)
same_are_one (false ∷ xs) [] h = absurd (no_true h)
same_are_one (true ∷ xs) (true ∷ bs) h = ap (λ (z : List Bool). true ∷ z) (same_are_one xs bs h)
same_are_one (true ∷ xs) (false ∷ bs) h = absurd (no_true h)
same_are_one (false ∷ xs) (true ∷ bs) h = absurd (no_true h)
same_are_one (false ∷ xs) (false ∷ bs) h = ap (λ (z : List Bool). false ∷ z) (same_are_one xs bs h)

-- how many marks are still to come
abbrev pub missing : List Bool → ℕ
missing [] = 0
missing (true ∷ bs) = missing bs
missing (false ∷ bs) = suc (missing bs)

missing_le : (xs bs : List Bool) → AtMost xs bs → missing bs ≤ missing xs
missing_le [] [] z = omega arith
missing_le [] (b ∷ bs) z = absurd z
missing_le (a ∷ xs) [] z = absurd z
missing_le (true ∷ xs) (true ∷ bs) z = missing_le xs bs z.1
missing_le (true ∷ xs) (false ∷ bs) z = absurd (no_true (z.0 refl))
missing_le (false ∷ xs) (true ∷ bs) z = omega (arith, missing_le xs bs z.1)
missing_le (false ∷ xs) (false ∷ bs) z = omega (arith, missing_le xs bs z.1)

pub missing_less : (xs bs : List Bool) → AtMost xs bs → (IsTrue (same_marks bs xs) → ⊥) → missing bs < missing xs
missing_less [] [] z n = absurd (n refl)
missing_less [] (b ∷ bs) z n = absurd z
missing_less (a ∷ xs) [] z n = absurd z
missing_less (true ∷ xs) (true ∷ bs) z n = missing_less xs bs z.1 n
missing_less (true ∷ xs) (false ∷ bs) z n = absurd (no_true (z.0 refl))
missing_less (false ∷ xs) (true ∷ bs) z n = omega (arith, missing_le xs bs z.1)
missing_less (false ∷ xs) (false ∷ bs) z n = omega (arith, missing_less xs bs z.1 n)

missing_within : (ds : List Definition) → missing (none_of ds) ≡ length ds
missing_within [] = refl
missing_within (d ∷ ds) = ap suc (missing_within ds)

pub none_least : (ds : List Definition) (bs : List Bool) → length bs ≡ length ds → AtMost (none_of ds) bs
none_least [] [] h = tt
none_least [] (b ∷ bs) h = absurd (omega (arith, h))
none_least (d ∷ ds) [] h = absurd (omega (arith, h))
none_least (d ∷ ds) (b ∷ bs) h = (λ t. absurd (no_true t), none_least ds bs (omega (arith, h)))

pub each_length : (names : List NameLevel) (bs : List Bool) (ds : List Definition) → length (each_rises names bs ds) ≡ length ds
each_length names bs [] = refl
each_length names bs (d ∷ ds) = ap suc (each_length names bs ds)

-- ---- the walk

module _ (names : List NameLevel) (ds : List Definition) where
  abbrev turn : List Bool → List Bool
  turn bs = each_rises names bs ds

  at_test : (n : ℕ) (bs : List Bool) → ((xs : List Bool) → AreLevels names ds xs → AtMost bs xs) → (t : Bool) → same_marks (turn bs) bs ≡ t
      → ((IsTrue (same_marks (turn bs) bs) → ⊥) → AreLeast names ds (walked names ds n (turn bs))) → AreLeast names ds (if t then bs else walked names ds n (turn bs))
  at_test n bs under true q rest = record { levels = same_are_one (turn bs) bs (subst IsTrue (sym q) refl); least = under }
  at_test n bs under false q rest = rest (λ h. no_true (subst IsTrue q h))

  walk_least : (n : ℕ) (bs : List Bool) → AtMost bs (turn bs) → ((xs : List Bool) → AreLevels names ds xs → AtMost bs xs) → missing bs < n → AreLeast names ds (walked names ds n bs)
  walk_least zero bs up under few = absurd (omega (arith, few))
  walk_least (suc n) bs up under few =
      at_test n bs under (same_marks (turn bs) bs) refl
      (λ f. walk_least n (turn bs) (marks_below names bs (turn bs) up ds) (λ xs l. subst (λ (z : List Bool). AtMost (turn bs) z) l (marks_below names bs xs (under xs l) ds)) (omega (arith, missing_less bs (turn bs) up f, few)))

  pub levels_are : HaveLeast names ds
  levels_are =
      let begun : AtMost (none_of ds) (turn (none_of ds)) = none_least ds (turn (none_of ds)) (each_length names (none_of ds) ds) in
      let under : (xs : List Bool) → AreLevels names ds xs → AtMost (none_of ds) xs = λ xs l. none_least ds xs (sym (ap (λ (z : List Bool). length z) l) ∙ each_length names xs ds) in
      let found : AreLeast names ds (levels_of names ds) = walk_least (suc (length ds)) (none_of ds) begun under (omega (arith, missing_within ds)) in
      record { found = found; only = λ bs l. both_ways bs (levels_of names ds) (l.least (levels_of names ds) found.levels) (found.least bs l.levels) }
