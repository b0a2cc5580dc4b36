-- Names that are told.
use Rattle.std.proofs.Common.{◌≡◌, ◌∙◌, sym, ap, refl, subst, ℕ, List, [], ◌∷◌, ◌++◌, length, take, take_all, arith}
use Rattle.std.specs.Prelude.{◌||◌, Bool, true, false, if◌then◌else◌, eqb}
use Rattle.std.specs.List.{list_any, position_or_len}
use Rattle.std.specs.Str.{bytes_eq}
use Rattle.std.proofs.lemmas.Bool.Decides.{nat_tests}
use Rattle.reading_trees.specs.Grammar.{mark}
use Rattle.reading_trees.specs.declared.module.Unit.{Unit as ModuleUnit}
use Rattle.reading_trees.specs.declared.module.Unit.TheVariants.{Variables, Constants, Recursive, Define, Instance, Assume, Passed}
use Rattle.names_scopes.specs.Mentions.{is_one_of}
use Rattle.names_resolving.specs.Refusals.{before_mark, instance_names, without_mark}

-- a name without a mark is all of it before one
pub whole_before : (n : List ℕ) → position_or_len (λ c. eqb c mark) n ≡ length n → before_mark n ≡ n
whole_before n p = ap (λ k. take k n) p ∙ take_all (length n) n (omega arith)

-- what stands behind a mark that a name begins with
pub behind_mark : (n rest : List ℕ) → n ≡ mark ∷ rest → rest ≡ without_mark n
behind_mark n rest e = sym (ap without_mark e)

is_mark : (c : ℕ) → eqb c mark ≡ true → c ≡ mark
is_mark c e = grind (arith, nat_tests)

pub without_none : (n : List ℕ) → ((rest : List ℕ) → n ≡ mark ∷ rest → ⊥) → n ≡ without_mark n
without_none [] h = refl
without_none (c ∷ cs) h = one (eqb c mark) refl
  where
    one : (b : Bool) → eqb c mark ≡ b → c ∷ cs ≡ (if b then cs else c ∷ cs)
    one false e = refl
    one true e = absurd (h cs (ap (λ x. x ∷ cs) (is_mark c e)))

-- ---- instances among units

pub names_behind : (us vs : List ModuleUnit) → instance_names (us ++ vs) ≡ instance_names us ++ instance_names vs
names_behind [] vs = refl
names_behind (Variables ds ∷ us) vs = names_behind us vs
names_behind (Constants ds ∷ us) vs = names_behind us vs
names_behind (Define d ∷ us) vs = names_behind us vs
names_behind (Assume e ∷ us) vs = names_behind us vs
names_behind (Recursive rs ∷ us) vs = names_behind us vs
names_behind (Instance m ∷ us) vs = ap (λ l. m.name ∷ l) (names_behind us vs)
names_behind (Passed ∷ us) vs = names_behind us vs

pub first_or_rest : (u : ModuleUnit) (us : List ModuleUnit) (n : List ℕ) → is_one_of n (instance_names (u ∷ us)) ≡ (is_one_of n (instance_names (u ∷ [])) || is_one_of n (instance_names us))
first_or_rest (Variables ds) us n = refl
first_or_rest (Constants ds) us n = refl
first_or_rest (Define d) us n = refl
first_or_rest (Assume e) us n = refl
first_or_rest (Recursive rs) us n = refl
first_or_rest (Instance m) us n = one (bytes_eq m.name n)
  where
    one : (b : Bool) → (b || is_one_of n (instance_names us)) ≡ ((b || false) || is_one_of n (instance_names us))
    one true = refl
    one false = refl
first_or_rest Passed us n = refl
