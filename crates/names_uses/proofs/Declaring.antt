-- What RECURSIVE declares, unit by unit.
use Rattle.std.proofs.Common.{◌≡◌, ◌∙◌, sym, ap, refl, List, [], ◌∷◌, ◌++◌, length, ◌<◌, ◌≤◌, append-nil}
use Rattle.std.specs.Prelude.{ℕ, ◌+◌, ◌||◌, Bool, true, false, drop, get_or}
use Rattle.std.specs.Str.{bytes_eq}
use Rattle.reading_trees.specs.declared.module.DeclaredOperator.{DeclaredOperator}
use Rattle.reading_trees.specs.declared.module.Unit.{Unit as ModuleUnit}
use Rattle.reading_trees.specs.declared.module.Unit.TheVariants.{Variables, Constants, Recursive, Define, Instance, Assume, Passed}
use Rattle.names_scopes.specs.Mentions.{is_one_of}
use Rattle.names_scopes.proofs.LevelLoops.{cut_at, cut_end}
use Rattle.names_program.specs.InUnits.{recursive_in}
use Rattle.names_program.specs.Recursion.{operators_declared}

-- the name is one of those of operators, and one of those that units declare
abbrev pub in_operators : List ℕ → List DeclaredOperator → Bool
in_operators n rs = is_one_of n (operators_declared rs)

abbrev pub in_units : List ℕ → List ModuleUnit → Bool
in_units n us = is_one_of n (operators_declared (recursive_in us))

or_assoc : (a b c : Bool) → (a || b || c) ≡ (a || (b || c))
or_assoc true b c = refl
or_assoc false b c = refl

is_left : (a b : Bool) → a ≡ true → (a || b) ≡ true
is_left true b q = refl
is_left false b q = absurd (cc)

is_right : (a b : Bool) → a ≡ false → (a || b) ≡ b
is_right true b q = absurd (cc)
is_right false b q = refl

in_both : (n : List ℕ) (rs qs : List DeclaredOperator) → in_operators n (rs ++ qs) ≡ (in_operators n rs || in_operators n qs)
in_both n [] qs = refl
in_both n (r ∷ rs) qs = ap (λ (b : Bool). bytes_eq r.name n || b) (in_both n rs qs) ∙ sym (or_assoc (bytes_eq r.name n) (in_operators n rs) (in_operators n qs))

or_false : (b : Bool) → (b || false) ≡ b
or_false true = refl
or_false false = refl

-- one more unit
unit_first : (n : List ℕ) (u : ModuleUnit) (us : List ModuleUnit) → in_units n (u ∷ us) ≡ (in_units n (u ∷ []) || in_units n us)
unit_first n (Recursive rs) us = in_both n rs (recursive_in us) ∙ ap (λ (b : Bool). b || in_units n us) (sym (ap (in_operators n) (append-nil rs)))
unit_first n (Variables ds) us = refl
unit_first n (Constants ds) us = refl
unit_first n (Define d) us = refl
unit_first n (Assume e) us = refl
unit_first n (Instance m) us = refl
unit_first n Passed us = refl

pub unit_alone : (n : List ℕ) (rs : List DeclaredOperator) → in_operators n rs ≡ in_units n (Recursive rs ∷ [])
unit_alone n rs = sym (ap (in_operators n) (append-nil rs))

-- A walk over the operators.

pub operator_on : (n : List ℕ) (items : List DeclaredOperator) (i : ℕ) (x : DeclaredOperator) (target : Bool) → i < length items → x ≡ get_or items i x → in_operators n (drop i items) ≡ target → bytes_eq x.name n ≡ false → in_operators n (drop (i + 1) items) ≡ target
operator_on n items i x target lt e h q =
    sym (is_right (bytes_eq x.name n) (in_operators n (drop (i + 1) items)) q) ∙ sym (ap (in_operators n) (cut_at items i x lt e)) ∙ h

pub operator_found : (n : List ℕ) (items : List DeclaredOperator) (i : ℕ) (x : DeclaredOperator) (target : Bool) → i < length items → x ≡ get_or items i x → in_operators n (drop i items) ≡ target → bytes_eq x.name n ≡ true → true ≡ target
operator_found n items i x target lt e h q =
    sym (is_left (bytes_eq x.name n) (in_operators n (drop (i + 1) items)) q) ∙ sym (ap (in_operators n) (cut_at items i x lt e)) ∙ h

pub operator_end : (n : List ℕ) (items : List DeclaredOperator) (i : ℕ) (target : Bool) → length items ≤ i → in_operators n (drop i items) ≡ target → false ≡ target
operator_end n items i target le h = sym (ap (in_operators n) (cut_end items i le)) ∙ h

-- A walk over the units.

pub unit_on : (n : List ℕ) (items : List ModuleUnit) (i : ℕ) (x : ModuleUnit) (target : Bool) → i < length items → x ≡ get_or items i x → in_units n (drop i items) ≡ target → in_units n (x ∷ []) ≡ false → in_units n (drop (i + 1) items) ≡ target
unit_on n items i x target lt e h q =
    sym (is_right (in_units n (x ∷ [])) (in_units n (drop (i + 1) items)) q) ∙ sym (unit_first n x (drop (i + 1) items)) ∙ sym (ap (in_units n) (cut_at items i x lt e)) ∙ h

pub unit_found : (n : List ℕ) (items : List ModuleUnit) (i : ℕ) (x : ModuleUnit) (target : Bool) → i < length items → x ≡ get_or items i x → in_units n (drop i items) ≡ target → in_units n (x ∷ []) ≡ true → true ≡ target
unit_found n items i x target lt e h q =
    sym (is_left (in_units n (x ∷ [])) (in_units n (drop (i + 1) items)) q) ∙ sym (unit_first n x (drop (i + 1) items)) ∙ sym (ap (in_units n) (cut_at items i x lt e)) ∙ h

pub unit_end : (n : List ℕ) (items : List ModuleUnit) (i : ℕ) (target : Bool) → length items ≤ i → in_units n (drop i items) ≡ target → false ≡ target
unit_end n items i target le h = sym (ap (in_units n) (cut_end items i le)) ∙ h
