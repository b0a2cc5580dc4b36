-- The first instance among units, the number of a name, and names that are listed once.
use Rattle.std.proofs.Common.{◌≡◌, refl, sym, ap, ◌∙◌, subst, arith, ℕ, ◌<◌, ◌≤◌, ◌+◌, suc, add-one, List, [], ◌∷◌, length, drop, get_or}
use Rattle.std.specs.Prelude.{Option, Some, None}
use Rattle.std.proofs.Math.Seq.{drop-cons}
use Rattle.reading_trees.specs.declared.module.Made.{Made}
use Rattle.reading_trees.specs.declared.module.Unit.{Unit as ModuleUnit}
use Rattle.reading_trees.specs.declared.module.Unit.TheVariants.{Variables, Constants, Recursive, Define, Instance, Assume, Passed}
use Rattle.reading_modules.specs.Flattened.{joined, with_name}
use Rattle.reading_modules.specs.Instances.{made_by, first_made}
use Rattle.reading_modules.proofs.Walks.{cut_at, cut_end, units_at, units_end}

pub first_past : (u : ModuleUnit) (us : List ModuleUnit) → made_by u ≡ None → first_made (u ∷ us) ≡ first_made us
first_past (Variables ds) us e = refl
first_past (Constants ds) us e = refl
first_past (Recursive rs) us e = refl
first_past (Define d) us e = refl
first_past (Instance m) us e = absurd (cc)
first_past (Assume t) us e = refl
first_past Passed us e = refl

pub first_here : (u : ModuleUnit) (us : List ModuleUnit) (m : Made) → made_by u ≡ Some m → first_made (u ∷ us) ≡ Some m
first_here (Variables ds) us m e = absurd (cc)
first_here (Constants ds) us m e = absurd (cc)
first_here (Recursive rs) us m e = absurd (cc)
first_here (Define d) us m e = absurd (cc)
first_here (Instance i) us m e = e
first_here (Assume t) us m e = absurd (cc)
first_here Passed us m e = absurd (cc)

-- a name of a list is listed, and then those behind it
pub joined_on : (listed next more : List (List ℕ)) (i : ℕ) (name : List ℕ) → i < length more → name ≡ get_or more i name → next ≡ with_name listed name
    → joined next (drop (i + 1) more) ≡ joined listed (drop i more)
joined_on listed next more i name l at e =
    ap (λ (x : List (List ℕ)). joined x (drop (i + 1) more)) e ∙ sym (ap (λ (x : List (List ℕ)). joined listed x) (cut_at more i name l at))

pub joined_all : (listed first more : List (List ℕ)) (i : ℕ) → length more ≤ i → joined listed (drop i more) ≡ joined first more → listed ≡ joined first more
joined_all listed first more i l e = sym (ap (λ (x : List (List ℕ)). joined listed x) (cut_end more i l)) ∙ e
