-- What a reading gives, it gives too where its notes are seen through a function.
use Rattle.std.proofs.Common.{◌≡◌, ◌∙◌, ℕ, List, [], ◌∷◌, ◌++◌, map, Option, Some, Ok, Err, refl, sym, ap, subst}
use Rattle.base_core.specs.Device.{File}
use Rattle.reading_trees.specs.declared.module.Made.{Made}
use Rattle.reading_trees.specs.declared.module.Module.{Module}
use Rattle.reading_trees.specs.declared.module.Unit.{Unit as ModuleUnit}
use Rattle.reading_trees.specs.declared.module.WholeProgram.{WholeProgram}
use Rattle.reading_modules.specs.declared.fault.LoadFault.TheVariants.{Refused}
use Rattle.reading_modules.specs.declared.fault.LoadWhy.{LoadWhy}
use Rattle.reading_modules.specs.declared.loading.Loaded.{Loaded}
use Rattle.reading_modules.specs.declared.notes.Noted.{Noted}
use Rattle.reading_modules.specs.declared.so_far.Gathered.{Gathered}
use Rattle.reading_modules.specs.Flattened.{OutcomeOf, Meets, Follows, Visits, Makes, MakesAll, closes_cycle, is_listed, was_read, one_too_many, is_visited, all_met, stopped, went_on, is_refused, is_nested, stopped_below, stopped_in_instance, is_whole, all_made, makes_none, not_made, is_made, passed_over, stopped_inside, has_program, begun_of_instance, noted, nothing_read, number_of, with_module, with_read}
use Rattle.reading_modules.specs.Loads.{IsProgramBy, IsRefusedBy, LoadsBy, in_a_module, in_the_whole}
use Rattle.reading_modules.specs.Readings.{Reading}
use Rattle.reading_modules.specs.Refusals.{IsModule, Refuses, RefusesBytes, misnamed, misspelled, not_good, not_read}
use Rattle.reading_laws.specs.AnyReading.{FlatteningMayStopBy, LoadingMayStopBy, NothingRepeatsBy, OneLoadingSeenBy, OneProgramSeenBy}
use Rattle.reading_laws.specs.Readings.{IsReading, noted_by, seen_by}
use Rattle.reading_laws.proofs.Beside.{flattening_may_stop_by, loading_may_stop_by, nothing_repeats_by}
use Rattle.reading_laws.proofs.Programs.{one_loading_by, one_program_by}

map_append : {A B : Type 0} (f : A → B) (xs ys : List A) → map f (xs ++ ys) ≡ map f xs ++ map f ys
map_append f [] ys = refl
map_append f (x ∷ xs) ys = ap (λ v. f x ∷ v) (map_append f xs ys)

noted_seen : {N A : Type 0} (f : N → A) (file : ℕ) (notes : List N) → map (noted_by f) (noted file notes) ≡ noted file (map f notes)
noted_seen f file [] = refl
noted_seen f file (n ∷ notes) = ap (λ v. record { file = file; note = f n } ∷ v) (noted_seen f file notes)

abbrev so_seen : {N A : Type 0} → (N → A) → Gathered N → Gathered A
so_seen f so = record {
  of_instance = so.of_instance;
  modules = so.modules;
  own = so.own;
  units = so.units;
  standard = so.standard;
  notes = map (noted_by f) so.notes;
  instances = so.instances;
}

abbrev outcome_seen : {N A : Type 0} → (N → A) → OutcomeOf N → OutcomeOf A
outcome_seen f (Ok so) = Ok (so_seen f so)
outcome_seen f (Err e) = Err e

read_seen : {N A : Type 0} (f : N → A) (so : Gathered N) (number : ℕ) (m : Module) (notes : List N)
    → with_read (so_seen f so) number m (map f notes) ≡ so_seen f (with_read so number m notes)
read_seen {A = A} f so number m notes =
    ap (λ (v : List (Noted A)). record {
      of_instance = so.of_instance;
      modules = so.modules;
      own = so.own;
      units = so.units ++ m.units;
      standard = so.standard;
      notes = v;
      instances = so.instances;
    })
    (ap (λ (v : List (Noted A)). map (noted_by f) so.notes ++ v) (sym (noted_seen f number notes))
    ∙ sym (map_append (noted_by f) so.notes (noted number notes)))

module _ {N A : Type 0} (f : N → A) (reading : Reading N) (holds : Option (List File)) (folder : List ℕ) where
  module_seen : (number : ℕ) (name : List ℕ) (m : Module) (notes : List N) → IsModule reading holds folder number name m notes
      → IsModule (seen_by f reading) holds folder number name m (map f notes)
  module_seen number name m notes i = record { bytes = i.bytes; text = i.text; spelled = (notes, i.spelled, refl); named = i.named }

  bytes_seen : (number : ℕ) (bytes name : List ℕ) (why : LoadWhy) → RefusesBytes reading number bytes name why → RefusesBytes (seen_by f reading) number bytes name why
  bytes_seen number bytes name _ (misspelled why w) = misspelled why w
  bytes_seen number bytes name _ (misnamed m notes s other) = misnamed m (map f notes) (notes, s, refl) other

  refuses_seen : (number : ℕ) (name : List ℕ) (why : LoadWhy) → Refuses reading holds folder number name why → Refuses (seen_by f reading) holds folder number name why
  refuses_seen number name _ (not_read fault u) = not_read fault u
  refuses_seen number name _ (not_good bytes why t r) = not_good bytes why t (bytes_seen number bytes name why r)

  mutual
    meets_seen : (path : List (List ℕ)) (so : Gathered N) (name : List ℕ) (o : OutcomeOf N) → Meets reading holds folder path so name o
        → Meets (seen_by f reading) holds folder path (so_seen f so) name (outcome_seen f o)
    meets_seen _ _ _ _ (closes_cycle path so name names c) = closes_cycle path (so_seen f so) name names c
    meets_seen _ _ _ _ (is_listed path so name a s) = is_listed path (so_seen f so) name a s
    meets_seen _ _ _ _ (was_read path so name a s r) = was_read path (so_seen f so) name a s r
    meets_seen _ _ _ _ (one_too_many path so name a s r l) = one_too_many path (so_seen f so) name a s r l
    meets_seen _ _ _ _ (is_visited path so name o a s r l v) = is_visited path (so_seen f so) name (outcome_seen f o) a s r l (visits_seen path so name o v)

    follows_seen : (path : List (List ℕ)) (so : Gathered N) (names : List (List ℕ)) (o : OutcomeOf N) → Follows reading holds folder path so names o
        → Follows (seen_by f reading) holds folder path (so_seen f so) names (outcome_seen f o)
    follows_seen _ _ _ _ (all_met path so) = all_met path (so_seen f so)
    follows_seen _ _ _ _ (stopped path so name names e m) = stopped path (so_seen f so) name names e (meets_seen path so name (Err e) m)
    follows_seen _ _ _ _ (went_on path so next name names o m g) =
        went_on path (so_seen f so) (so_seen f next) name names (outcome_seen f o) (meets_seen path so name (Ok next) m) (follows_seen path next names o g)

    visits_seen : (path : List (List ℕ)) (so : Gathered N) (name : List ℕ) (o : OutcomeOf N) → Visits reading holds folder path so name o
        → Visits (seen_by f reading) holds folder path (so_seen f so) name (outcome_seen f o)
    visits_seen _ _ _ _ (is_refused path so name why r) = is_refused path (so_seen f so) name why (refuses_seen (number_of name so.modules) name why r)
    visits_seen _ _ _ _ (is_nested path so name m notes made i r t g) =
        is_nested path (so_seen f so) name m (map f notes) made (module_seen (number_of name so.modules) name m notes i) r t g
    visits_seen _ _ _ _ (stopped_below path so name m notes e i a g) =
        stopped_below path (so_seen f so) name m (map f notes) e (module_seen (number_of name so.modules) name m notes i) a
        (follows_seen (path ++ name ∷ []) (with_module so name) m.extends (Err e) g)
    visits_seen _ _ _ _ (stopped_in_instance path so below name m notes e i a g k) =
        stopped_in_instance path (so_seen f so) (so_seen f below) name m (map f notes) e (module_seen (number_of name so.modules) name m notes i) a
        (follows_seen (path ++ name ∷ []) (with_module so name) m.extends (Ok below) g) (all_seen (path ++ name ∷ []) below m.units (Err e) k)
    visits_seen _ _ _ _ (is_whole path so below all name m notes i a g k) =
        subst (λ (v : Gathered A). Visits (seen_by f reading) holds folder path (so_seen f so) name (Ok v)) (read_seen f all (number_of name so.modules) m notes)
        (is_whole path (so_seen f so) (so_seen f below) (so_seen f all) name m (map f notes) (module_seen (number_of name so.modules) name m notes i) a
        (follows_seen (path ++ name ∷ []) (with_module so name) m.extends (Ok below) g) (all_seen (path ++ name ∷ []) below m.units (Ok all) k))

    all_seen : (path : List (List ℕ)) (so : Gathered N) (units : List ModuleUnit) (o : OutcomeOf N) → MakesAll reading holds folder path so units o
        → MakesAll (seen_by f reading) holds folder path (so_seen f so) units (outcome_seen f o)
    all_seen _ _ _ _ (all_made path so) = all_made path (so_seen f so)
    all_seen _ _ _ _ (makes_none path so u us o n g) = makes_none path (so_seen f so) u us (outcome_seen f o) n (all_seen path so us o g)
    all_seen _ _ _ _ (not_made path so u us made e n m) = not_made path (so_seen f so) u us made e n (makes_seen path so made (Err e) m)
    all_seen _ _ _ _ (is_made path so next u us made o n m g) =
        is_made path (so_seen f so) (so_seen f next) u us made (outcome_seen f o) n (makes_seen path so made (Ok next) m) (all_seen path next us o g)

    makes_seen : (path : List (List ℕ)) (so : Gathered N) (made : Made) (o : OutcomeOf N) → Makes reading holds folder path so made o
        → Makes (seen_by f reading) holds folder path (so_seen f so) made (outcome_seen f o)
    makes_seen _ _ _ _ (passed_over path so made t) = passed_over path (so_seen f so) made t
    makes_seen _ _ _ _ (stopped_inside path so made e t m) =
        stopped_inside path (so_seen f so) made e t (meets_seen path (begun_of_instance so.modules) made.module_name (Err e) m)
    makes_seen _ _ _ _ (has_program path so inner made t m) =
        has_program path (so_seen f so) (so_seen f inner) made t (meets_seen path (begun_of_instance so.modules) made.module_name (Ok inner) m)

  pub program_seen : (name : List ℕ) (p : WholeProgram) (notes : List (Noted N)) → IsProgramBy reading holds folder name p notes
      → IsProgramBy (seen_by f reading) holds folder name p (map (noted_by f) notes)
  program_seen name p notes i = record {
    all = so_seen f i.all;
    flattened = visits_seen [] nothing_read name (Ok i.all) i.flattened;
    program = record { files = i.program.files; units = i.program.units; standard = i.program.standard; instances = i.program.instances };
    noted = ap (λ (v : List (Noted N)). map (noted_by f) v) i.noted;
    names = i.names;
  }

  pub refused_seen : (before now : ℕ) (name : List ℕ) (files : List (List ℕ)) (why : LoadWhy) → IsRefusedBy reading holds before now folder name files why
      → IsRefusedBy (seen_by f reading) holds before now folder name files why
  refused_seen before now name _ _ (in_a_module modules why flat caused) =
      in_a_module modules why (visits_seen [] nothing_read name (Err (modules, why)) flat) caused
  refused_seen before now name _ _ (in_the_whole all why flat r) = in_the_whole (so_seen f all) why (visits_seen [] nothing_read name (Ok all) flat) r

-- ---- a reading that is one where its notes are seen so

module _ {N A : Type 0} (f : N → A) (reading : Reading N) (is : IsReading (seen_by f reading)) where
  abbrev loaded_seen : Loaded N → Loaded A
  loaded_seen l = record { program = l.program; notes = map (noted_by f) l.notes }

  loads_seen : (holds : Option (List File)) (before now : ℕ) (path : List ℕ) (l : Loaded N) → LoadsBy reading holds before now path (Ok l)
      → LoadsBy (seen_by f reading) holds before now path (Ok (loaded_seen l))
  loads_seen holds before now path l h = (h.0, h.1, h.2, program_seen f reading holds h.0 h.1 l.program l.notes h.3)

  refusal_seen : (holds : Option (List File)) (before now : ℕ) (path : List ℕ) (files : List (List ℕ)) (why : LoadWhy)
      → LoadsBy reading holds before now path (Err (Refused files why)) → LoadsBy (seen_by f reading) holds before now path (Err (Refused files why))
  refusal_seen holds before now path files why h = (h.0, h.1, h.2, refused_seen f reading holds h.0 before now h.1 files why h.3)

  pub one_program_seen : OneProgramSeenBy f reading
  one_program_seen files folder name p q notes others h g =
      one_program_by (seen_by f reading) is files folder name p q (map (noted_by f) notes) (map (noted_by f) others)
      (program_seen f reading (Some files) folder name p notes h) (program_seen f reading (Some files) folder name q others g)

  pub one_loading_seen : OneLoadingSeenBy f reading
  one_loading_seen files before now earlier later path l k h g =
      one_loading_by (seen_by f reading) is files before now earlier later path (loaded_seen l) (loaded_seen k)
      (loads_seen (Some files) before now path l h) (loads_seen (Some files) earlier later path k g)

  pub loading_may_stop_seen : LoadingMayStopBy reading
  loading_may_stop_seen files before now earlier later path l named why h g =
      loading_may_stop_by (seen_by f reading) is files before now earlier later path (loaded_seen l) named why
      (loads_seen (Some files) before now path l h) (refusal_seen (Some files) earlier later path named why g)

  pub flattening_may_stop_seen : FlatteningMayStopBy reading
  flattening_may_stop_seen files folder name all modules why h g =
      flattening_may_stop_by (seen_by f reading) is files folder name (so_seen f all) modules why
      (visits_seen f reading (Some files) folder [] nothing_read name (Ok all) h)
      (visits_seen f reading (Some files) folder [] nothing_read name (Err (modules, why)) g)

  pub nothing_repeats_seen : NothingRepeatsBy reading
  nothing_repeats_seen files folder name p notes all why h flat r =
      nothing_repeats_by (seen_by f reading) is files folder name p (map (noted_by f) notes) (so_seen f all) why
      (program_seen f reading (Some files) folder name p notes h) (visits_seen f reading (Some files) folder [] nothing_read name (Ok all) flat) r
