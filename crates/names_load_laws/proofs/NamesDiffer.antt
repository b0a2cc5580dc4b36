-- Names that are declared once: no two variables have one name, and no two definitions.
use Rattle.std.proofs.Common.{◌≡◌, ◌≢◌, ℕ, Bool, true, false, cond, List, [], ◌∷◌, ◌++◌, Option, Some, None, refl, sym, subst, ◌∙◌, arith, append_assoc}
use Rattle.std.proofs.lemmas.List.Elements.{All-cons, All-nil}
use Rattle.std.proofs.lemmas.List.Kept.{AllPairs-cons}
use Rattle.std.proofs.lemmas.Slice.Eq.{bytes_eq-Decides}
use Rattle.std.specs.Prelude.{All, AllPairs, option_map}
use Rattle.std.specs.Str.{bytes_eq}
use Rattle.base_core.specs.declared.place.Place.{Place}
use Rattle.reading_trees.specs.declared.module.Declared.{Declared}
use Rattle.reading_trees.specs.declared.module.Unit.{Unit as ModuleUnit}
use Rattle.reading_trees.specs.declared.module.Unit.TheVariants.{Variables, Constants, Recursive, Define, Instance, Assume, Passed}
use Rattle.reading_modules.specs.Standard.{is_brought}
use Rattle.reading_modules.specs.Twice.{declared_in, place_among, AreNew}
use Rattle.names_program.specs.InUnits.{variables_in, definitions_in}
use Rattle.names_program.specs.Names.{names_declared, names_defined}

-- ---- lists of names

abbrev pub NoneIs : List ℕ → List (List ℕ) → Type 0
NoneIs n [] = Unit {0}
NoneIs n (m ∷ ms) = (n ≢ m) × NoneIs n ms

-- each differs from those behind it
abbrev pub Differ : List (List ℕ) → Type 0
Differ [] = Unit {0}
Differ (n ∷ ns) = NoneIs n ns × Differ ns

all_others : (n : List ℕ) (ms : List (List ℕ)) → NoneIs n ms → All (λ m. n ≢ m) ms
all_others n [] h = All-nil _
all_others n (m ∷ ms) h = All-cons (λ k. n ≢ k) m ms h.0 (all_others n ms h.1)

pub pairs_differ : (ns : List (List ℕ)) → Differ ns → AllPairs (λ a b. a ≢ b) ns
pairs_differ [] h = λ i j d l k. absurd (omega (arith, k))
pairs_differ (n ∷ ns) h = AllPairs-cons (λ a b. a ≢ b) n ns (all_others n ns h.0) (pairs_differ ns h.1)

-- some of the names, in their order
pub data IsPart : List (List ℕ) → List (List ℕ) → Type 0 where
  nothing_left : IsPart [] []
  also : (n : List ℕ) (ns ms : List (List ℕ)) → IsPart ns ms → IsPart (n ∷ ns) (n ∷ ms)
  but : (n : List ℕ) (ns ms : List (List ℕ)) → IsPart ns ms → IsPart ns (n ∷ ms)

pub part_others : (k : List ℕ) (ns ms : List (List ℕ)) → IsPart ns ms → NoneIs k ms → NoneIs k ns
part_others k _ _ nothing_left h = tt
part_others k _ _ (also n ns ms p) h = (h.0, part_others k ns ms p h.1)
part_others k _ _ (but n ns ms p) h = part_others k ns ms p h.1

pub part_differ : (ns ms : List (List ℕ)) → IsPart ns ms → Differ ms → Differ ns
part_differ _ _ nothing_left h = tt
part_differ _ _ (also n ns ms p) h = (part_others n ns ms p h.0, part_differ ns ms p h.1)
part_differ _ _ (but n ns ms p) h = part_differ ns ms p h.1

-- ---- what units declare

also_all : (ds xs ys : List Declared) → IsPart (names_declared xs) (names_declared ys) → IsPart (names_declared (ds ++ xs)) (names_declared (ds ++ ys))
also_all [] xs ys p = p
also_all (d ∷ ds) xs ys p = also d.name _ _ (also_all ds xs ys p)

but_all : (ds : List Declared) (ns : List (List ℕ)) (ys : List Declared) → IsPart ns (names_declared ys) → IsPart ns (names_declared (ds ++ ys))
but_all [] ns ys p = p
but_all (d ∷ ds) ns ys p = but d.name _ _ (but_all ds ns ys p)

variables_part : (us : List ModuleUnit) → IsPart (names_declared (variables_in us)) (names_declared (declared_in us))
variables_part [] = nothing_left
variables_part (Variables ds ∷ us) = also_all ds (variables_in us) (declared_in us) (variables_part us)
variables_part (Constants ds ∷ us) = but_all ds _ (declared_in us) (variables_part us)
variables_part (Define d ∷ us) = but d.name _ _ (variables_part us)
variables_part (Assume e ∷ us) = variables_part us
variables_part (Recursive rs ∷ us) = variables_part us
variables_part (Instance m ∷ us) = but m.name _ _ (variables_part us)
variables_part (Passed ∷ us) = variables_part us

definitions_part : (us : List ModuleUnit) → IsPart (names_defined (definitions_in us)) (names_declared (declared_in us))
definitions_part [] = nothing_left
definitions_part (Variables ds ∷ us) = but_all ds _ (declared_in us) (definitions_part us)
definitions_part (Constants ds ∷ us) = but_all ds _ (declared_in us) (definitions_part us)
definitions_part (Define d ∷ us) = also d.name _ _ (definitions_part us)
definitions_part (Assume e ∷ us) = definitions_part us
definitions_part (Recursive rs ∷ us) = definitions_part us
definitions_part (Instance m ∷ us) = but m.name _ _ (definitions_part us)
definitions_part (Passed ∷ us) = definitions_part us

-- ---- names that are new where they stand

nowhere : (b : Bool) (o : Option Place) → cond b (Some None) (option_map (λ at. Some at) o) ≡ None → o ≡ None
nowhere true o e = cc
nowhere false None e = refl
nowhere false (Some at) e = cc

other_name : (n m : List ℕ) → bytes_eq n m ≡ false → m ≢ n
other_name n m e q = let t : false ≡ true = sym e ∙ (bytes_eq-Decides n m).1 (sym q) in cc

first_other : (b : Bool) (at : Place) (o : Option Place) → cond b (Some at) o ≡ None → (b ≡ false) × (o ≡ None)
first_other true at o e = cc
first_other false at o e = (refl, e)

not_placed : (n : List ℕ) (xs : List Declared) (d : Declared) (ys : List Declared) → place_among n (xs ++ d ∷ ys) ≡ None → d.name ≢ n
not_placed n [] d ys e = other_name n d.name (first_other (bytes_eq n d.name) d.at (place_among n ys) e).0
not_placed n (x ∷ xs) d ys e = not_placed n xs d ys (first_other (bytes_eq n x.name) x.at (place_among n (xs ++ d ∷ ys)) e).1

-- those that are new behind a name differ from it
later_differ : (standard : List (List ℕ)) (xs : List Declared) (d : Declared) (ys ds : List Declared) → AreNew standard (xs ++ d ∷ ys) ds → NoneIs d.name (names_declared ds)
later_differ standard xs d ys [] h = tt
later_differ standard xs d ys (e ∷ ds) h = (
  not_placed e.name xs d ys (nowhere (is_brought standard e.name) _ h.0),
  later_differ standard xs d (ys ++ e ∷ []) ds (subst (λ (before : List Declared). AreNew standard before ds) (append_assoc xs (d ∷ ys) (e ∷ [])) h.1),
)

pub new_differ : (standard : List (List ℕ)) (before ds : List Declared) → AreNew standard before ds → Differ (names_declared ds)
new_differ standard before [] h = tt
new_differ standard before (d ∷ ds) h = (later_differ standard before d [] ds h.1, new_differ standard (before ++ d ∷ []) ds h.1)

abbrev pub VariablesDiffer : List ModuleUnit → Type 0
VariablesDiffer us = AllPairs (λ a b. a ≢ b) (names_declared (variables_in us))

abbrev pub DefinitionsDiffer : List ModuleUnit → Type 0
DefinitionsDiffer us = AllPairs (λ a b. a ≢ b) (names_defined (definitions_in us))

pub variables_differ : (standard : List (List ℕ)) (us : List ModuleUnit) → AreNew standard [] (declared_in us) → VariablesDiffer us
variables_differ standard us h = pairs_differ _ (part_differ _ _ (variables_part us) (new_differ standard [] (declared_in us) h))

pub definitions_differ : (standard : List (List ℕ)) (us : List ModuleUnit) → AreNew standard [] (declared_in us) → DefinitionsDiffer us
definitions_differ standard us h = pairs_differ _ (part_differ _ _ (definitions_part us) (new_differ standard [] (declared_in us) h))
