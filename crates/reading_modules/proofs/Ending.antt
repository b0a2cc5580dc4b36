-- A module that was read is ended: what it extends is followed, its instances are made, and its units and notes are added.
use Rattle.std.proofs.Common.{◌≡◌, refl, sym, ap, ◌∙◌, subst, arith, ℕ, List, [], ◌∷◌, ◌++◌}
use Rattle.std.specs.Prelude.{Option, Ok, Err}
use Rattle.base_core.specs.Device.{File}
use Rattle.reading_trees.specs.declared.module.Module.{Module}
use Rattle.reading_trees.specs.declared.module.Unit.{Unit as ModuleUnit}
use Rattle.reading_modules.specs.declared.fault.LoadWhy.{LoadWhy}
use Rattle.reading_modules.specs.declared.fault.Stop.{Stop}
use Rattle.reading_modules.specs.declared.notes.Noted.{Noted}
use Rattle.reading_modules.specs.declared.so_far.Gathered.{Gathered}
use Rattle.reading_modules.specs.Flattened.{Follows, MakesAll, OutcomeOf, noted, with_read}
use Rattle.reading_modules.specs.Parts.{Ends, EndsRefused, in_instance, under_extends}
use Rattle.reading_modules.specs.Readings.{Reading}
use Rattle.reading_modules.specs.Refusals.{StopsBy}
use Rattle.reading_modules.proofs.Walks.{stops_map}

-- a program with these units and these notes
abbrev pub with_more : {N : Type 0} → Gathered N → List ModuleUnit → List (Noted N) → Gathered N
with_more all units notes = record {
  of_instance = all.of_instance;
  modules = all.modules;
  own = all.own;
  units = units;
  standard = all.standard;
  notes = notes;
  instances = all.instances;
}

more_is : {N : Type 0} (all : Gathered N) (number : ℕ) (m : Module) (notes : List N) (units : List ModuleUnit) (ns : List (Noted N)) → units ≡ all.units ++ m.units
    → ns ≡ all.notes ++ noted number notes → with_more all units ns ≡ with_read all number m notes
more_is all number m notes units ns e f =
    ap (λ (us : List ModuleUnit). with_more all us ns) e ∙ ap (λ (xs : List (Noted _)). with_more all (all.units ++ m.units) xs) f

follows_so : {N : Type 0} (reading : Reading N) (h : Option (List File)) (folder : List ℕ) (path given : List (List ℕ)) (so : Gathered N) (m : Module) (names : List (List ℕ)) (o : OutcomeOf N)
    → given ≡ path ++ m.name ∷ [] → names ≡ m.extends → Follows reading h folder given so names o → Follows reading h folder (path ++ m.name ∷ []) so m.extends o
follows_so reading h folder path given so m names o e same f =
    subst (λ (p : List (List ℕ)). Follows reading h folder p so m.extends o) e (subst (λ (ns : List (List ℕ)). Follows reading h folder given so ns o) same f)

makes_so : {N : Type 0} (reading : Reading N) (h k : Option (List File)) (folder : List ℕ) (path given other : List (List ℕ)) (below : Gathered N) (m : Module) (us : List ModuleUnit)
    (o : OutcomeOf N) → given ≡ path ++ m.name ∷ [] → k ≡ h → other ≡ given → us ≡ m.units → MakesAll reading k folder other below us o
    → MakesAll reading h folder (path ++ m.name ∷ []) below m.units o
makes_so reading h k folder path given other below m us o e same on cut a =
    subst (λ (x : List ModuleUnit). MakesAll reading h folder (path ++ m.name ∷ []) below x o) cut
    (subst (λ (p : List (List ℕ)). MakesAll reading h folder p below us o) (on ∙ e)
    (subst (λ (x : Option (List File)). MakesAll reading x folder other below us o) same a))

pub ends_whole : {N : Type 0} (reading : Reading N) (h k : Option (List File)) (folder : List ℕ) (path given other names : List (List ℕ)) (so below all : Gathered N) (number : ℕ) (m : Module)
    (notes : List N) (us units : List ModuleUnit) (ns : List (Noted N)) → given ≡ path ++ m.name ∷ [] → names ≡ m.extends → Follows reading h folder given so names (Ok below)
    → k ≡ h → other ≡ given → us ≡ m.units → MakesAll reading k folder other below us (Ok all) → units ≡ all.units ++ m.units → ns ≡ all.notes ++ noted number notes
    → Ends reading h folder path so number m notes (with_more all units ns)
ends_whole reading h k folder path given other names so below all number m notes us units ns e same f holds on cut a more told = record {
  below = below;
  follows = follows_so reading h folder path given so m names (Ok below) e same f;
  all = all;
  makes = makes_so reading h k folder path given other below m us (Ok all) e holds on cut a;
  added = more_is all number m notes units ns more told;
}

pub ends_stopped : {N : Type 0} (reading : Reading N) (h : Option (List File)) (folder : List ℕ) (path given names : List (List ℕ)) (so : Gathered N) (ms : List (List ℕ)) (m : Module) (s : Stop)
    → given ≡ path ++ m.name ∷ [] → names ≡ m.extends → StopsBy (λ why. Follows reading h folder given so names (Err (ms, why))) s
    → StopsBy (λ why. EndsRefused reading h folder path so m (ms, why)) s
ends_stopped reading h folder path given names so ms m s e same f =
    stops_map (λ why. Follows reading h folder given so names (Err (ms, why))) (λ why. EndsRefused reading h folder path so m (ms, why)) s
    (λ why x. under_extends (follows_so reading h folder path given so m names (Err (ms, why)) e same x)) f

pub ends_stopped_within : {N : Type 0} (reading : Reading N) (h k : Option (List File)) (folder : List ℕ) (path given other names : List (List ℕ)) (so below : Gathered N) (ms : List (List ℕ))
    (m : Module) (us : List ModuleUnit) (s : Stop) → given ≡ path ++ m.name ∷ [] → names ≡ m.extends → Follows reading h folder given so names (Ok below)
    → k ≡ h → other ≡ given → us ≡ m.units → StopsBy (λ why. MakesAll reading k folder other below us (Err (ms, why))) s
    → StopsBy (λ why. EndsRefused reading h folder path so m (ms, why)) s
ends_stopped_within reading h k folder path given other names so below ms m us s e same f holds on cut a =
    stops_map (λ why. MakesAll reading k folder other below us (Err (ms, why))) (λ why. EndsRefused reading h folder path so m (ms, why)) s
    (λ why x. in_instance below (follows_so reading h folder path given so m names (Ok below) e same f)
    (makes_so reading h k folder path given other below m us (Err (ms, why)) e holds on cut x)) a
