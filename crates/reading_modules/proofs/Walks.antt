-- Steps of reading the modules of a program, each over plain variables.
use Rattle.std.proofs.Common.{◌≡◌, refl, sym, ap, ◌∙◌, subst, arith, ℕ, ◌≤◌, ◌<◌, List, [], ◌∷◌, ◌++◌, length, take, drop, get_or, zero, suc, add-one, ◌+◌, Bool, true, false}
use Rattle.std.specs.Prelude.{Option, Some, None, Result, Ok, Err, IfErr, OnOk, MatchOption}
use Rattle.base_core.specs.Device.{File}
use Rattle.reading_trees.specs.declared.module.Made.{Made}
use Rattle.reading_trees.specs.declared.module.Module.{Module}
use Rattle.reading_trees.specs.declared.module.Unit.{Unit as ModuleUnit}
use Rattle.reading_trees.specs.declared.module.Unit.TheVariants.{Variables, Constants, Recursive, Define, Instance, Assume, Passed}
use Rattle.reading_modules.specs.declared.fault.LoadWhy.{LoadWhy}
use Rattle.reading_modules.specs.declared.fault.LoadWhy.TheVariants.{Cycle, TooMany, Nested}
use Rattle.reading_modules.specs.declared.fault.Stop.{Stop}
use Rattle.reading_modules.specs.declared.fault.Stop.TheVariants as stops
use Rattle.reading_modules.specs.declared.so_far.Gathered.{Gathered}
use Rattle.reading_modules.specs.Flattened.{OutcomeOf, IsCycle, IsAllowed, IsFull, HasRoom, number_of, with_name, with_standard, Meets, Follows, Visits, Makes, MakesAll, closes_cycle, is_listed, one_too_many, is_visited, all_met, stopped, went_on, is_refused, is_nested, stopped_below, stopped_in_instance, is_whole, all_made, makes_none, not_made, is_made, with_module}
use Rattle.reading_modules.specs.Instances.{made_by, first_made}
use Rattle.reading_modules.specs.Parts.{Ends, EndsRefused, under_extends, in_instance, IsNested, Stays}
use Rattle.std.proofs.lemmas.List.{take-append-drop}
use Rattle.std.proofs.Math.Seq.{drop-cons}
use Rattle.reading_modules.specs.Standard.{is_among, is_standard}
use Rattle.reading_modules.specs.Readings.{Reading}
use Rattle.reading_modules.specs.Refusals.{IsModule, Refuses, StopsBy}

pub stops_map : (P Q : LoadWhy → Type 0) (s : Stop) → ((why : LoadWhy) → P why → Q why) → StopsBy P s → StopsBy Q s
stops_map P Q (stops.Refused why) f h = f why h
stops_map P Q stops.NoMemory f h = tt

-- one more name is met
pub follows_on : {N : Type 0} (reading : Reading N) (h k : Option (List File)) (folder : List ℕ) (path other : List (List ℕ)) (first so next : Gathered N) (name : List ℕ)
    (names rest behind : List (List ℕ)) → k ≡ h → other ≡ path → rest ≡ name ∷ behind
    → ((o : OutcomeOf N) → Follows reading h folder path so rest o → Follows reading h folder path first names o)
    → Meets reading k folder other so name (Ok next)
    → (o : OutcomeOf N) → Follows reading h folder path next behind o → Follows reading h folder path first names o
follows_on reading h k folder path other first so next name names rest behind same on cut before meets o follows =
    let here : Meets reading h folder path so name (Ok next) =
    subst (λ (p : List (List ℕ)). Meets reading h folder p so name (Ok next)) on
    (subst (λ (x : Option (List File)). Meets reading x folder other so name (Ok next)) same meets) in
    before o (subst (λ (ns : List (List ℕ)). Follows reading h folder path so ns o) (sym cut) (went_on path so next name behind o here follows))

-- the name at hand is refused
pub follows_stop : {N : Type 0} (reading : Reading N) (h k : Option (List File)) (folder : List ℕ) (path other : List (List ℕ)) (first so next : Gathered N) (name : List ℕ)
    (names rest behind : List (List ℕ)) (s : Stop) → k ≡ h → other ≡ path → rest ≡ name ∷ behind
    → ((o : OutcomeOf N) → Follows reading h folder path so rest o → Follows reading h folder path first names o)
    → StopsBy (λ why. Meets reading k folder other so name (Err (next.modules, why))) s
    → StopsBy (λ why. Follows reading h folder path first names (Err (next.modules, why))) s
follows_stop reading h k folder path other first so next name names rest behind s same on cut before meets =
    stops_map (λ why. Meets reading k folder other so name (Err (next.modules, why))) (λ why. Follows reading h folder path first names (Err (next.modules, why))) s
    (λ why m.
    let here : Meets reading h folder path so name (Err (next.modules, why)) =
    subst (λ (p : List (List ℕ)). Meets reading h folder p so name (Err (next.modules, why))) on
    (subst (λ (x : Option (List File)). Meets reading x folder other so name (Err (next.modules, why))) same m) in
    before (Err (next.modules, why)) (subst (λ (ns : List (List ℕ)). Follows reading h folder path so ns (Err (next.modules, why))) (sym cut)
    (stopped path so name behind (next.modules, why) here))) meets

-- one more instance is made
pub makes_on : {N : Type 0} (reading : Reading N) (h k : Option (List File)) (folder : List ℕ) (path other : List (List ℕ)) (first so next : Gathered N) (u : ModuleUnit) (made : Made)
    (units rest behind : List ModuleUnit) → k ≡ h → other ≡ path → rest ≡ u ∷ behind → made_by u ≡ Some made
    → ((o : OutcomeOf N) → MakesAll reading h folder path so rest o → MakesAll reading h folder path first units o)
    → Makes reading k folder other so made (Ok next)
    → (o : OutcomeOf N) → MakesAll reading h folder path next behind o → MakesAll reading h folder path first units o
makes_on reading h k folder path other first so next u made units rest behind same on cut is before makes o all =
    let here : Makes reading h folder path so made (Ok next) =
    subst (λ (p : List (List ℕ)). Makes reading h folder p so made (Ok next)) on
    (subst (λ (x : Option (List File)). Makes reading x folder other so made (Ok next)) same makes) in
    before o (subst (λ (us : List ModuleUnit). MakesAll reading h folder path so us o) (sym cut) (is_made path so next u behind made o is here all))

-- a unit that makes no instance is passed
pub makes_past : {N : Type 0} (reading : Reading N) (h : Option (List File)) (folder : List ℕ) (path : List (List ℕ)) (first so : Gathered N) (u : ModuleUnit)
    (units rest behind : List ModuleUnit) → rest ≡ u ∷ behind → made_by u ≡ None
    → ((o : OutcomeOf N) → MakesAll reading h folder path so rest o → MakesAll reading h folder path first units o)
    → (o : OutcomeOf N) → MakesAll reading h folder path so behind o → MakesAll reading h folder path first units o
makes_past reading h folder path first so u units rest behind cut is before o all =
    before o (subst (λ (us : List ModuleUnit). MakesAll reading h folder path so us o) (sym cut) (makes_none path so u behind o is all))

-- the instance at hand is refused
pub makes_stop : {N : Type 0} (reading : Reading N) (h k : Option (List File)) (folder : List ℕ) (path other : List (List ℕ)) (first so next : Gathered N) (u : ModuleUnit) (made : Made)
    (units rest behind : List ModuleUnit) (s : Stop) → k ≡ h → other ≡ path → rest ≡ u ∷ behind → made_by u ≡ Some made
    → ((o : OutcomeOf N) → MakesAll reading h folder path so rest o → MakesAll reading h folder path first units o)
    → StopsBy (λ why. Makes reading k folder other so made (Err (next.modules, why))) s
    → StopsBy (λ why. MakesAll reading h folder path first units (Err (next.modules, why))) s
makes_stop reading h k folder path other first so next u made units rest behind s same on cut is before makes =
    stops_map (λ why. Makes reading k folder other so made (Err (next.modules, why))) (λ why. MakesAll reading h folder path first units (Err (next.modules, why))) s
    (λ why m.
    let here : Makes reading h folder path so made (Err (next.modules, why)) =
    subst (λ (p : List (List ℕ)). Makes reading h folder p so made (Err (next.modules, why))) on
    (subst (λ (x : Option (List File)). Makes reading x folder other so made (Err (next.modules, why))) same m) in
    before (Err (next.modules, why)) (subst (λ (us : List ModuleUnit). MakesAll reading h folder path so us (Err (next.modules, why))) (sym cut)
    (not_made path so u behind made (next.modules, why) is here))) makes

pub makes_all : {N : Type 0} (reading : Reading N) (h : Option (List File)) (folder : List ℕ) (path : List (List ℕ)) (first so : Gathered N) (units rest : List ModuleUnit) → rest ≡ []
    → ((o : OutcomeOf N) → MakesAll reading h folder path so rest o → MakesAll reading h folder path first units o) → MakesAll reading h folder path first units (Ok so)
makes_all reading h folder path first so units rest none before =
    before (Ok so) (subst (λ (us : List ModuleUnit). MakesAll reading h folder path so us (Ok so)) (sym none) (all_made path so))

-- the list of units from an index on
pub units_at : (us : List ModuleUnit) (i : ℕ) (u : ModuleUnit) → i < length us → u ≡ get_or us i u → drop i us ≡ u ∷ drop (i + 1) us
units_at us i u lt e = rw add-one (drop-cons us i u lt ∙ ap (λ (y : ModuleUnit). y ∷ drop (suc i) us) (sym e))

pub units_end : (us : List ModuleUnit) (i : ℕ) → length us ≤ i → drop i us ≡ []
units_end [] zero le = refl
units_end [] (suc i) le = refl
units_end (u ∷ us) zero le = absurd (omega arith)
units_end (u ∷ us) (suc i) le = units_end us i (omega arith)

-- two things that are said of one refusal
pub both_stop : (P Q R : LoadWhy → Type 0) (s : Stop) → ((why : LoadWhy) → P why → Q why → R why) → StopsBy P s → StopsBy Q s → StopsBy R s
both_stop P Q R (stops.Refused why) f p q = f why p q
both_stop P Q R stops.NoMemory f p q = tt

-- a module's file is refused
pub visit_refused : {N : Type 0} (reading : Reading N) (h : Option (List File)) (folder : List ℕ) (path : List (List ℕ)) (so : Gathered N) (modules : List (List ℕ)) (name : List ℕ)
    (s : Stop) → StopsBy (λ _. modules ≡ with_name so.modules name) s
    → StopsBy (Refuses reading h folder (number_of name so.modules) name) s → StopsBy (λ why. Visits reading h folder path so name (Err (modules, why))) s
visit_refused reading h folder path so modules name s last refuses =
    both_stop (λ _. modules ≡ with_name so.modules name) (Refuses reading h folder (number_of name so.modules) name)
    (λ why. Visits reading h folder path so name (Err (modules, why))) s
    (λ why e r. subst (λ (ms : List (List ℕ)). Visits reading h folder path so name (Err (ms, why))) (sym e) (is_refused path so name why r)) last refuses

-- the program so far, with these modules
abbrev pub with_modules : {N : Type 0} → Gathered N → List (List ℕ) → Gathered N
with_modules so ms = record {
  of_instance = so.of_instance;
  modules = ms;
  own = so.own;
  units = so.units;
  standard = so.standard;
  notes = so.notes;
  instances = so.instances;
}

abbrev pub with_lists : {N : Type 0} → Gathered N → List (List ℕ) → List (List ℕ) → Gathered N
with_lists so ms own = record {
  of_instance = so.of_instance;
  modules = ms;
  own = own;
  units = so.units;
  standard = so.standard;
  notes = so.notes;
  instances = so.instances;
}

begun_is : {N : Type 0} (so : Gathered N) (ms own : List (List ℕ)) (copy name : List ℕ) → ms ≡ with_name so.modules name → own ≡ so.own ++ copy ∷ [] → copy ≡ name
    → with_lists so ms own ≡ with_module so name
begun_is so ms own copy name e o f =
    ap (λ (xs : List (List ℕ)). with_lists so xs own) e
    ∙ ap (λ (xs : List (List ℕ)). with_lists so (with_name so.modules name) xs) (o ∙ ap (λ (x : List ℕ). so.own ++ x ∷ []) f)

-- a module of an instance has one itself
pub visit_nested : {N : Type 0} (reading : Reading N) (h : Option (List File)) (folder : List ℕ) (path : List (List ℕ)) (so : Gathered N) (ms : List (List ℕ)) (name : List ℕ)
    (m : Module) (notes : List N) (s : Stop) → ms ≡ with_name so.modules name → IsModule reading h folder (number_of name so.modules) name m notes
    → StopsBy (IsNested reading (with_modules so ms) m) s → StopsBy (λ why. Visits reading h folder path so name (Err (ms, why))) s
visit_nested reading h folder path so ms name m notes s e is nested =
    stops_map (IsNested reading (with_modules so ms) m) (λ why. Visits reading h folder path so name (Err (ms, why))) s
    (λ why n.
    subst (λ (w : LoadWhy). Visits reading h folder path so name (Err (ms, w))) (sym n.refused)
    (subst (λ (xs : List (List ℕ)). Visits reading h folder path so name (Err (xs, Nested n.made.name n.made.at))) (sym e)
    (is_nested path so name m notes n.made is n.asked n.inside n.first))) nested

below_refused : {N : Type 0} (reading : Reading N) (h : Option (List File)) (folder : List ℕ) (path : List (List ℕ)) (so : Gathered N) (name : List ℕ)
    (m : Module) (notes : List N) (e : List (List ℕ) × LoadWhy) → IsModule reading h folder (number_of name so.modules) name m notes → IsAllowed reading so m
    → EndsRefused reading h folder path (with_module so name) m e → Visits reading h folder path so name (Err e)
below_refused reading h folder path so name m notes e is allowed (under_extends f) =
    stopped_below path so name m notes e is allowed
    (subst (λ (x : List ℕ). Follows reading h folder (path ++ x ∷ []) (with_module so name) m.extends (Err e)) is.named f)
below_refused reading h folder path so name m notes e is allowed (in_instance below f a) =
    stopped_in_instance path so below name m notes e is allowed
    (subst (λ (x : List ℕ). Follows reading h folder (path ++ x ∷ []) (with_module so name) m.extends (Ok below)) is.named f)
    (subst (λ (x : List ℕ). MakesAll reading h folder (path ++ x ∷ []) below m.units (Err e)) is.named a)

pub finish_stopped : {N : Type 0} (reading : Reading N) (h k : Option (List File)) (folder : List ℕ) (path : List (List ℕ)) (so after : Gathered N) (ms own : List (List ℕ))
    (copy name : List ℕ) (m : Module) (notes : List N) (r : Result (Unit {0}) Stop) → k ≡ h → ms ≡ with_name so.modules name
    → own ≡ so.own ++ copy ∷ [] → copy ≡ name → IsModule reading h folder (number_of name so.modules) name m notes → IsAllowed reading so m
    → IfErr r (StopsBy (λ why. EndsRefused reading k folder path (with_lists so ms own) m (after.modules, why)))
    → IfErr r (StopsBy (λ why. Visits reading h folder path so name (Err (after.modules, why))))
finish_stopped reading h k folder path so after ms own copy name m notes (Ok u) same e o f is allowed stop = tt
finish_stopped reading h k folder path so after ms own copy name m notes (Err s) same e o f is allowed stop =
    stops_map (λ why. EndsRefused reading k folder path (with_lists so ms own) m (after.modules, why)) (λ why. Visits reading h folder path so name (Err (after.modules, why))) s
    (λ why r. below_refused reading h folder path so name m notes (after.modules, why) is allowed
    (subst (λ (x : Gathered _). EndsRefused reading h folder path x m (after.modules, why)) (begun_is so ms own copy name e o f)
    (subst (λ (x : Option (List File)). EndsRefused reading x folder path (with_lists so ms own) m (after.modules, why)) same r))) stop

-- a module is read with those below it, and its instances are made
whole_is : {N : Type 0} (reading : Reading N) (h : Option (List File)) (folder : List ℕ) (path : List (List ℕ)) (so after : Gathered N) (name : List ℕ)
    (m : Module) (notes : List N) → IsModule reading h folder (number_of name so.modules) name m notes → IsAllowed reading so m
    → Ends reading h folder path (with_module so name) (number_of name so.modules) m notes after → Visits reading h folder path so name (Ok after)
whole_is reading h folder path so after name m notes is allowed ends =
    subst (λ (x : Gathered _). Visits reading h folder path so name (Ok x)) (sym ends.added)
    (is_whole path so ends.below ends.all name m notes is allowed
    (subst (λ (x : List ℕ). Follows reading h folder (path ++ x ∷ []) (with_module so name) m.extends (Ok ends.below)) is.named ends.follows)
    (subst (λ (x : List ℕ). MakesAll reading h folder (path ++ x ∷ []) ends.below m.units (Ok ends.all)) is.named ends.makes))

pub finish_whole : {N : Type 0} (reading : Reading N) (h k : Option (List File)) (folder : List ℕ) (path : List (List ℕ)) (so after : Gathered N) (ms own : List (List ℕ))
    (copy name : List ℕ) (number : ℕ) (m : Module) (notes : List N) (r : Result (Unit {0}) Stop) → k ≡ h → number ≡ number_of name so.modules → ms ≡ with_name so.modules name
    → own ≡ so.own ++ copy ∷ [] → copy ≡ name → IsModule reading h folder (number_of name so.modules) name m notes → IsAllowed reading so m
    → OnOk r (Ends reading k folder path (with_lists so ms own) number m notes after) → OnOk r (Visits reading h folder path so name (Ok after))
finish_whole reading h k folder path so after ms own copy name number m notes (Err s) same n e o f is allowed ends = tt
finish_whole reading h k folder path so after ms own copy name number m notes (Ok u) same n e o f is allowed ends =
    whole_is reading h folder path so after name m notes is allowed
    (subst (λ (i : ℕ). Ends reading h folder path (with_module so name) i m notes after) n
    (subst (λ (x : Gathered _). Ends reading h folder path x number m notes after) (begun_is so ms own copy name e o f)
    (subst (λ (x : Option (List File)). Ends reading x folder path (with_lists so ms own) number m notes after) same ends)))

-- a standard module is met
pub met_standard : {N : Type 0} (reading : Reading N) (h : Option (List File)) (folder : List ℕ) (path : List (List ℕ)) (so after : Gathered N) (name : List ℕ)
    → is_among name path ≡ false → is_standard name ≡ true → after ≡ with_standard so name → Meets reading h folder path so name (Ok after)
met_standard {N = N} reading h folder path so after name away standard e =
    subst (λ (x : Gathered N). Meets reading h folder path so name (Ok x)) (sym e) (is_listed path so name away standard)

-- a module is met that is to be read
pub met_visited : {N : Type 0} (reading : Reading N) (h : Option (List File)) (folder : List ℕ) (path : List (List ℕ)) (so after : Gathered N) (name : List ℕ) → is_among name path ≡ false
    → is_standard name ≡ false → is_among name so.own ≡ false → HasRoom so name → (s : Stop)
    → StopsBy (λ why. Visits reading h folder path so name (Err (after.modules, why))) s
    → StopsBy (λ why. Meets reading h folder path so name (Err (after.modules, why))) s
met_visited reading h folder path so after name away other new few s visits =
    stops_map (λ why. Visits reading h folder path so name (Err (after.modules, why))) (λ why. Meets reading h folder path so name (Err (after.modules, why))) s
    (λ why v. is_visited path so name (Err (after.modules, why)) away other new few v) visits

-- the path has the name at an index
pub cycle_at : (path : List (List ℕ)) (name : List ℕ) (names : List (List ℕ)) (i : ℕ) → i < length path → get_or path i name ≡ name
    → names ≡ drop i path ++ name ∷ [] → IsCycle path name names
cycle_at path name names i lt at e =
    let rest : drop i path ≡ name ∷ drop (suc i) path = drop-cons path i name lt ∙ ap (λ (x : List ℕ). x ∷ drop (suc i) path) at in
    record {
      before = take i path;
      between = drop (suc i) path;
      on_path = sym (take-append-drop i path) ∙ ap (λ (xs : List (List ℕ)). take i path ++ xs) rest;
      round = e ∙ ap (λ (xs : List (List ℕ)). xs ++ name ∷ []) rest;
    }

pub met_listed : {N : Type 0} (reading : Reading N) (h : Option (List File)) (folder : List ℕ) (path : List (List ℕ)) (so after : Gathered N) (name : List ℕ) (r : Result (Unit {0}) Stop)
    → is_among name path ≡ false → is_standard name ≡ true → OnOk r (after ≡ with_standard so name)
    → OnOk r (Meets reading h folder path so name (Ok after))
met_listed reading h folder path so after name (Ok u) away standard e = met_standard reading h folder path so after name away standard e
met_listed reading h folder path so after name (Err s) away standard e = tt

pub met_whole : {N : Type 0} (reading : Reading N) (h : Option (List File)) (folder : List ℕ) (path : List (List ℕ)) (so after : Gathered N) (name : List ℕ) (r : Result (Unit {0}) Stop)
    → is_among name path ≡ false → is_standard name ≡ false → is_among name so.own ≡ false → HasRoom so name
    → OnOk r (Visits reading h folder path so name (Ok after)) → OnOk r (Meets reading h folder path so name (Ok after))
met_whole reading h folder path so after name (Ok u) away other new few v = is_visited path so name (Ok after) away other new few v
met_whole reading h folder path so after name (Err s) away other new few v = tt

pub met_stopped : {N : Type 0} (reading : Reading N) (h : Option (List File)) (folder : List ℕ) (path : List (List ℕ)) (so after : Gathered N) (name : List ℕ) (r : Result (Unit {0}) Stop)
    → is_among name path ≡ false → is_standard name ≡ false → is_among name so.own ≡ false → HasRoom so name
    → IfErr r (StopsBy (λ why. Visits reading h folder path so name (Err (after.modules, why))))
    → IfErr r (StopsBy (λ why. Meets reading h folder path so name (Err (after.modules, why))))
met_stopped reading h folder path so after name (Ok u) away other new few v = tt
met_stopped reading h folder path so after name (Err s) away other new few v = met_visited reading h folder path so after name away other new few s v

-- what a search on the path tells
pub met_cycle : {N : Type 0} (reading : Reading N) (h : Option (List File)) (folder : List ℕ) (path given : List (List ℕ)) (so : Gathered N) (name : List ℕ)
    (o : Option (List (List ℕ))) (names : List (List ℕ)) → given ≡ path → o ≡ Some names
    → MatchOption o (is_among name given ≡ false) (IsCycle given name) → Meets reading h folder path so name (Err (so.modules, Cycle names))
met_cycle reading h folder path given so name o names same some found =
    let here : IsCycle given name names =
    subst (λ (x : Option (List (List ℕ))). MatchOption x (is_among name given ≡ false) (IsCycle given name)) some found in
    closes_cycle path so name names (subst (λ (p : List (List ℕ)). IsCycle p name names) same here)

pub is_away : (path given : List (List ℕ)) (name : List ℕ) (o : Option (List (List ℕ))) → given ≡ path → o ≡ None
    → MatchOption o (is_among name given ≡ false) (IsCycle given name) → is_among name path ≡ false
is_away path given name o same none found =
    subst (λ (p : List (List ℕ)). is_among name p ≡ false) same
    (subst (λ (x : Option (List (List ℕ))). MatchOption x (is_among name given ≡ false) (IsCycle given name)) none found)

pub too_many : {N : Type 0} (reading : Reading N) (h : Option (List File)) (folder : List ℕ) (path : List (List ℕ)) (so : Gathered N) (name copy : List ℕ) → is_among name path ≡ false
    → is_standard name ≡ false → is_among name so.own ≡ false → IsFull so name → copy ≡ name
    → Meets reading h folder path so name (Err (so.modules, TooMany copy))
too_many reading h folder path so name copy away other new many e =
    subst (λ (x : List ℕ). Meets reading h folder path so name (Err (so.modules, TooMany x))) (sym e) (one_too_many path so name away other new many)

-- the list from an index on
pub cut_at : (xs : List (List ℕ)) (i : ℕ) (x : List ℕ) → i < length xs → x ≡ get_or xs i x → drop i xs ≡ x ∷ drop (i + 1) xs
cut_at xs i x lt e = rw add-one (drop-cons xs i x lt ∙ ap (λ (y : List ℕ). y ∷ drop (suc i) xs) (sym e))

pub cut_end : (xs : List (List ℕ)) (i : ℕ) → length xs ≤ i → drop i xs ≡ []
cut_end [] zero le = refl
cut_end [] (suc i) le = refl
cut_end (x ∷ xs) zero le = absurd (omega arith)
cut_end (x ∷ xs) (suc i) le = cut_end xs i (omega arith)

pub follows_all : {N : Type 0} (reading : Reading N) (h : Option (List File)) (folder : List ℕ) (path : List (List ℕ)) (first so : Gathered N) (names rest : List (List ℕ)) → rest ≡ []
    → ((o : OutcomeOf N) → Follows reading h folder path so rest o → Follows reading h folder path first names o) → Follows reading h folder path first names (Ok so)
follows_all reading h folder path first so names rest none before =
    before (Ok so) (subst (λ (ns : List (List ℕ)). Follows reading h folder path so ns (Ok so)) (sym none) (all_met path so))

-- a program that stays as it was, twice
pub stays_on : {N : Type 0} (so mid next : Gathered N) → Stays so mid → Stays mid next → Stays so next
stays_on so mid next a b = record { kind = b.kind ∙ a.kind; more = omega (arith, a.more, b.more) }
