-- What loading answers, from what its parts answer.
use Rattle.std.proofs.Common.{◌≡◌, ◌∙◌, refl, sym, ap, subst, ℕ, List, [], ◌∷◌, ◌++◌, length}
use Rattle.std.specs.Prelude.{Option, Result, Ok, Err, IfOk, IfErr}
use Rattle.base_core.specs.Device.{File}
use Rattle.base_core.specs.Failures.{Failures}
use Rattle.reading_trees.specs.declared.module.Made.{Made}
use Rattle.reading_trees.specs.declared.module.WholeProgram.{WholeProgram}
use Rattle.reading_trees.specs.declared.module.Unit.{Unit as ModuleUnit}
use Rattle.reading_trees.specs.declared.module.Declared.{Declared}
use Rattle.reading_trees.specs.declared.module.Instance.{Instance as ModuleInstance}
use Rattle.reading_modules.specs.declared.loading.Loaded.{Loaded}
use Rattle.reading_modules.specs.declared.fault.LoadFault.{LoadFault}
use Rattle.reading_modules.specs.declared.fault.LoadFault.TheVariants.{Refused, NoMemory}
use Rattle.reading_modules.specs.declared.fault.LoadWhy.{LoadWhy}
use Rattle.reading_modules.specs.declared.fault.LoadWhy.TheVariants.{Read, Lex, Lay, Parse, Cycle, TooMany, Twice, WrongName, Nested}
use Rattle.reading_modules.specs.declared.fault.Stop.{Stop}
use Rattle.reading_modules.specs.declared.fault.Stop.TheVariants as stops
use Rattle.reading_modules.specs.declared.notes.Noted.{Noted}
use Rattle.reading_modules.specs.declared.so_far.Gathered.{Gathered}
use Rattle.reading_modules.specs.Flattened.{OutcomeOf, Outcome, SoFar, FlattenedBy, Meets, Follows, Visits, Makes, MakesAll, closes_cycle, is_listed, was_read, one_too_many, is_visited, all_met, stopped, went_on, is_refused, is_nested, stopped_below, stopped_in_instance, is_whole, all_made, makes_none, not_made, is_made, passed_over, stopped_inside, has_program, nothing_read, noted, number_of, with_module}
use Rattle.reading_modules.specs.Loads.{files_of, IsProgram, IsProgramBy, IsRefusedBy, IsToldOf, in_a_module, in_the_whole, Loads, LoadsBy}
use Rattle.reading_modules.specs.Parts.{IsNewProgram, RefusesProgram, RefusesWith}
use Rattle.reading_modules.specs.Paths.{IsPath}
use Rattle.reading_modules.specs.Readings.{Reading}
use Rattle.reading_modules.specs.Refusals.{IsCaused, StopsBy, strict, told_by}
use Rattle.reading_modules.specs.Twice.{OneRepeats, Repeats, RepeatsInside, behind_it, declared_in, in_instance, in_program, in_this}

-- from nothing on
begins : {N : Type 0} (reading : Reading N) (h : Option (List File)) (folder : List ℕ) (above : List (List ℕ)) (start : Gathered N) (given name : List ℕ) (o : OutcomeOf N)
    → above ≡ [] → start ≡ nothing_read → given ≡ name → Visits reading h folder above start given o → FlattenedBy reading h folder name o
begins {N = N} reading h folder above start given name o none first same v =
    subst (λ (n : List ℕ). Visits reading h folder [] nothing_read n o) same
    (subst (λ (s : Gathered N). Visits reading h folder [] s given o) first
    (subst (λ (xs : List (List ℕ)). Visits reading h folder xs start given o) none v))

-- all modules are read
pub loads_program : {N : Type 0} (reading : Reading N) (h : Option (List File)) (before now : ℕ) (path folder name given : List ℕ) (above : List (List ℕ)) (start all : Gathered N)
    (r : Result (Loaded N) LoadFault) → IsPath path folder name → above ≡ [] → start ≡ nothing_read → given ≡ name
    → Visits reading h folder above start given (Ok all) → IfOk r (λ l. IsNewProgram folder all l.program) → IfOk r (λ l. l.notes ≡ all.notes) → IfErr r (RefusesProgram folder all)
    → LoadsBy reading h before now path r
loads_program reading h before now path folder name given above start all (Ok l) is none first same v ok told err = (
  folder,
  name,
  is,
  record {
    all = all;
    flattened = begins reading h folder above start given name (Ok all) none first same v;
    program = ok.program;
    noted = told;
    names = ok.names;
  },
)
loads_program reading h before now path folder name given above start all (Err (Refused files why)) is none first same v ok told err =
    let flat : FlattenedBy reading h folder name (Ok all) = begins reading h folder above start given name (Ok all) none first same v in
    (folder, name, is, subst (λ (fs : List (List ℕ)). IsRefusedBy reading h before now folder name fs why) (sym err.0) (in_the_whole all why flat err.1))
loads_program reading h before now path folder name given above start all (Err NoMemory) is none first same v ok told err = tt

-- a module is refused
pub loads_refused : {N : Type 0} (reading : Reading N) (h : Option (List File)) (before now : ℕ) (path folder name given : List ℕ) (above : List (List ℕ)) (start : Gathered N)
    (modules : List (List ℕ)) (s : Stop) (e : LoadFault) → IsPath path folder name → above ≡ [] → start ≡ nothing_read → given ≡ name
    → StopsBy (λ why. Visits reading h folder above start given (Err (modules, why))) s → StopsBy (IsCaused h before now) s
    → RefusesWith folder modules s e → LoadsBy reading h before now path (Err e)
loads_refused reading h before now path folder name given above start modules (stops.Refused why) (Refused files other) is none first same v caused with =
    let flat : FlattenedBy reading h folder name (Err (modules, why)) = begins reading h folder above start given name (Err (modules, why)) none first same v in
    let here : IsRefusedBy reading h before now folder name (files_of folder modules) why = in_a_module modules why flat caused in (
      folder,
      name,
      is,
      subst (λ (w : LoadWhy). IsRefusedBy reading h before now folder name files w) (sym with.1)
          (subst (λ (fs : List (List ℕ)). IsRefusedBy reading h before now folder name fs why) (sym with.0) here),
    )
loads_refused reading h before now path folder name given above start modules (stops.Refused why) NoMemory is none first same v caused with = tt
loads_refused reading h before now path folder name given above start modules stops.NoMemory (Refused files other) is none first same v caused with = absurd with
loads_refused reading h before now path folder name given above start modules stops.NoMemory NoMemory is none first same v caused with = tt

-- no call failed where a name is declared twice
repeats_told : (standard : List (List ℕ)) (declared : List Declared) (f : Failures) (why : LoadWhy) → Repeats standard declared why → f ≡ told_by why f
repeats_told standard declared f (Twice name later earlier) h = refl
repeats_told standard declared f (Read file fault) h = absurd h
repeats_told standard declared f (Lex why at) h = absurd h
repeats_told standard declared f (Lay at) h = absurd h
repeats_told standard declared f (Parse fault) h = absurd h
repeats_told standard declared f (Cycle names) h = absurd h
repeats_told standard declared f (TooMany name) h = absurd h
repeats_told standard declared f (WrongName name at) h = absurd h
repeats_told standard declared f (Nested name at) h = absurd h

inside_told : (f : Failures) (is : List ModuleInstance) (why : LoadWhy) → RepeatsInside is why → f ≡ told_by why f
inside_told f _ _ (in_this i is why h) = repeats_told i.program.standard (declared_in i.program.units) f why h
inside_told f _ _ (behind_it i is why new h) = inside_told f is why h

one_told : (standard : List (List ℕ)) (units : List ModuleUnit) (instances : List ModuleInstance) (f : Failures) (why : LoadWhy) → OneRepeats standard units instances why → f ≡ told_by why f
one_told standard units instances f _ (in_program why h) = repeats_told standard (declared_in units) f why h
one_told standard units instances f _ (in_instance why new h) = inside_told f instances why h

pub program_told : {A N : Type 0} (folder : List ℕ) (all : Gathered N) (before now : Failures) (r : Result A LoadFault) → now ≡ before → IfErr r (RefusesProgram folder all)
    → IfErr r (IsToldOf before now)
program_told folder all before now (Ok l) quiet h = tt
program_told folder all before now (Err (Refused files why)) quiet h = quiet ∙ one_told all.standard all.units all.instances before why h.1
program_told folder all before now (Err NoMemory) quiet h = tt

-- those of the refusal of a module
pub refusal_told : (folder : List ℕ) (modules : List (List ℕ)) (before now : Failures) (s : Stop) (e : LoadFault) → StopsBy (λ why. now ≡ told_by why before) s → RefusesWith folder modules s e
    → IsToldOf before now e
refusal_told folder modules before now (stops.Refused why) (Refused files other) told with = subst (λ (w : LoadWhy). now ≡ told_by w before) (sym with.1) told
refusal_told folder modules before now (stops.Refused why) NoMemory told with = tt
refusal_told folder modules before now stops.NoMemory (Refused files other) told with = absurd with
refusal_told folder modules before now stops.NoMemory NoMemory told with = tt

-- read strictly there are no notes

abbrev HasNone : Outcome → Type 0
HasNone (Ok so) = so.notes ≡ []
HasNone (Err e) = Unit {0}

module _ (h : Option (List File)) (folder : List ℕ) where
  mutual
    meets_none : (path : List (List ℕ)) (so : SoFar) (name : List ℕ) (o : Outcome) → Meets strict h folder path so name o → so.notes ≡ [] → HasNone o
    meets_none _ _ _ _ (closes_cycle path so name names c) e = tt
    meets_none _ _ _ _ (is_listed path so name a s) e = e
    meets_none _ _ _ _ (was_read path so name a s r) e = e
    meets_none _ _ _ _ (one_too_many path so name a s r l) e = tt
    meets_none _ _ _ _ (is_visited path so name o a s r l v) e = visits_none path so name o v e

    follows_none : (path : List (List ℕ)) (so : SoFar) (names : List (List ℕ)) (o : Outcome) → Follows strict h folder path so names o → so.notes ≡ [] → HasNone o
    follows_none _ _ _ _ (all_met path so) e = e
    follows_none _ _ _ _ (stopped path so name names d m) e = tt
    follows_none _ _ _ _ (went_on path so next name names o m f) e = follows_none path next names o f (meets_none path so name (Ok next) m e)

    visits_none : (path : List (List ℕ)) (so : SoFar) (name : List ℕ) (o : Outcome) → Visits strict h folder path so name o → so.notes ≡ [] → HasNone o
    visits_none _ _ _ _ (is_refused path so name why r) e = tt
    visits_none _ _ _ _ (is_nested path so name m notes made i r t f) e = tt
    visits_none _ _ _ _ (stopped_below path so name m notes d i a f) e = tt
    visits_none _ _ _ _ (stopped_in_instance path so below name m notes d i a f g) e = tt
    visits_none _ _ _ _ (is_whole path so below all name m notes i a f g) e =
        let under : below.notes ≡ [] = follows_none (path ++ name ∷ []) (with_module so name) m.extends (Ok below) f e in
        let made : all.notes ≡ [] = makes_all_none (path ++ name ∷ []) below m.units (Ok all) g under in
        ap (λ (x : List (Noted (Unit {0}))). x ++ noted (number_of name so.modules) notes) made ∙ ap (λ (x : List (Unit {0})). noted (number_of name so.modules) x) i.spelled.1

    makes_all_none : (path : List (List ℕ)) (so : SoFar) (units : List ModuleUnit) (o : Outcome) → MakesAll strict h folder path so units o → so.notes ≡ [] → HasNone o
    makes_all_none _ _ _ _ (all_made path so) e = e
    makes_all_none _ _ _ _ (makes_none path so u us o n g) e = makes_all_none path so us o g e
    makes_all_none _ _ _ _ (not_made path so u us made d m x) e = tt
    makes_all_none _ _ _ _ (is_made path so next u us made o m x g) e = makes_all_none path next us o g (made_none path so made (Ok next) x e)

    made_none : (path : List (List ℕ)) (so : SoFar) (made : Made) (o : Outcome) → Makes strict h folder path so made o → so.notes ≡ [] → HasNone o
    made_none _ _ _ _ (passed_over path so made t) e = e
    made_none _ _ _ _ (stopped_inside path so made d t m) e = tt
    made_none _ _ _ _ (has_program path so inner made t m) e = e

pub no_notes : (h : Option (List File)) (folder name : List ℕ) (p : WholeProgram) (notes : List (Noted (Unit {0}))) → IsProgramBy strict h folder name p notes
    → IsProgram h folder name p
no_notes h folder name p notes i = record {
  all = i.all;
  flattened = i.flattened;
  program = i.program;
  noted = sym (visits_none h folder [] nothing_read name (Ok i.all) i.flattened refl);
  names = i.names;
}

pub loads_so : (h : Option (List File)) (before now : ℕ) (path : List ℕ) (l : Loaded (Unit {0})) → LoadsBy strict h before now path (Ok l)
    → Loads h before now path (Ok l.program)
loads_so h before now path l g = (g.0, g.1, g.2, no_notes h g.0 g.1 l.program l.notes g.3)

pub loads_not : (h : Option (List File)) (before now : ℕ) (path : List ℕ) (e : LoadFault) → LoadsBy strict h before now path (Err e)
    → Loads h before now path (Err e)
loads_not h before now path (Refused files why) g = g
loads_not h before now path NoMemory g = tt
