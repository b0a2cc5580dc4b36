-- The way through the modules to a file whose read would fail is the way to it where the file is not there, or is too long.
use Rattle.std.proofs.Common.{◌≡◌, ℕ, List, [], ◌∷◌, ◌++◌, length, Option, Ok, Err, refl, sym, ap, subst}
use Rattle.base_core.specs.Device.{File}
use Rattle.base_core.specs.declared.reading.ReadFault.{ReadFault}
use Rattle.base_core.specs.declared.reading.ReadFault.TheVariants.{Failed}
use Rattle.reading_trees.specs.declared.module.Made.{Made}
use Rattle.reading_trees.specs.declared.module.Unit.{Unit as ModuleUnit}
use Rattle.reading_modules.specs.declared.fault.LoadWhy.{LoadWhy}
use Rattle.reading_modules.specs.declared.fault.LoadWhy.TheVariants.{Read, Lex, Lay, Parse, Cycle, TooMany, Twice, WrongName, Nested}
use Rattle.reading_modules.specs.declared.so_far.Gathered.{Gathered}
use Rattle.reading_modules.specs.Flattened.{OutcomeOf, Meets, Follows, Visits, Makes, MakesAll, FlattenedBy, closes_cycle, is_listed, was_read, one_too_many, is_visited, all_met, stopped, went_on, is_refused, is_nested, stopped_below, stopped_in_instance, is_whole, all_made, makes_none, not_made, is_made, passed_over, stopped_inside, has_program, begun_of_instance, nothing_read, number_of, with_module, with_name}
use Rattle.reading_modules.specs.Paths.{file_of}
use Rattle.reading_modules.specs.Readings.{Reading}
use Rattle.reading_modules.specs.Refusals.{IsUnread, Refuses, RefusesBytes, misnamed, misspelled, not_good, not_read}

-- the refusal is that of a file that is not read
abbrev IsOfRead : LoadWhy → Type 0
IsOfRead (Read file fault) = Unit {0}
IsOfRead (Lex why at) = ⊥
IsOfRead (Lay at) = ⊥
IsOfRead (Parse fault) = ⊥
IsOfRead (Cycle names) = ⊥
IsOfRead (TooMany name) = ⊥
IsOfRead (Twice name later earlier) = ⊥
IsOfRead (WrongName name at) = ⊥
IsOfRead (Nested name at) = ⊥

abbrev EndsAtRead : {N : Type 0} → OutcomeOf N → Type 0
EndsAtRead (Ok a) = ⊥
EndsAtRead (Err e) = IsOfRead e.1

read_same : (file other : List ℕ) (fault cause : ReadFault) → Read file fault ≡ Read other cause → file ≡ other
read_same file other fault cause e = cc

err_same : {N : Type 0} (d e : List (List ℕ) × LoadWhy) (o q : OutcomeOf N) → o ≡ Err d → q ≡ Err e → o ≡ q → d ≡ e
err_same d e o q a b h = cc

module _ {N : Type 0} (reading : Reading N) (holds : Option (List File)) (folder file : List ℕ) (fault : ReadFault) (unread : IsUnread holds file fault) where
  -- where its read would fail, and where it is not read so
  abbrev fails : List (List ℕ) → OutcomeOf N
  fails modules = Err (modules, Read file Failed)

  abbrev stops : List (List ℕ) → OutcomeOf N
  stops modules = Err (modules, Read file fault)

  no_end : (o : OutcomeOf N) (modules : List (List ℕ)) → o ≡ fails modules → (EndsAtRead o → ⊥) → ⊥
  no_end o modules e never = never (subst EndsAtRead (sym e) tt)

  bytes_read : (number : ℕ) (bytes name : List ℕ) (why : LoadWhy) → RefusesBytes reading number bytes name why → why ≡ Read file Failed → ⊥
  bytes_read number bytes name _ (misspelled why w) e = reading.of_text number bytes file Failed (subst (λ (y : LoadWhy). reading.Misspells number bytes y) e w)
  bytes_read number bytes name _ (misnamed m notes s other) e = subst IsOfRead (sym e) tt

  refuses_so : (number : ℕ) (name : List ℕ) (why : LoadWhy) → Refuses reading holds folder number name why → why ≡ Read file Failed → Refuses reading holds folder number name (Read file fault)
  refuses_so number name _ (not_read cause u) e =
      let same : file_of folder name ≡ file = read_same (file_of folder name) file cause Failed e in
      subst (λ (f : List ℕ). Refuses reading holds folder number name (Read f fault)) same (not_read fault (subst (λ (f : List ℕ). IsUnread holds f fault) (sym same) unread))
  refuses_so number name _ (not_good bytes why t r) e = absurd (bytes_read number bytes name why r e)

  mutual
    meets_so : (path : List (List ℕ)) (so : Gathered N) (name : List ℕ) (o : OutcomeOf N) → Meets reading holds folder path so name o → (modules : List (List ℕ)) → o ≡ fails modules
        → Meets reading holds folder path so name (stops modules)
    meets_so _ _ _ _ (closes_cycle path so name names c) modules e = absurd (no_end _ modules e (λ x. x))
    meets_so _ _ _ _ (is_listed path so name a s) modules e = absurd (no_end _ modules e (λ x. x))
    meets_so _ _ _ _ (was_read path so name a s r) modules e = absurd (no_end _ modules e (λ x. x))
    meets_so _ _ _ _ (one_too_many path so name a s r l) modules e = absurd (no_end _ modules e (λ x. x))
    meets_so _ _ _ _ (is_visited path so name o a s r l v) modules e = is_visited path so name (stops modules) a s r l (visits_so path so name o v modules e)

    follows_so : (path : List (List ℕ)) (so : Gathered N) (names : List (List ℕ)) (o : OutcomeOf N) → Follows reading holds folder path so names o → (modules : List (List ℕ)) → o ≡ fails modules
        → Follows reading holds folder path so names (stops modules)
    follows_so _ _ _ _ (all_met path so) modules e = absurd (no_end _ modules e (λ x. x))
    follows_so _ _ _ _ (stopped path so name names d m) modules e = stopped path so name names (modules, Read file fault) (meets_so path so name (Err d) m modules e)
    follows_so _ _ _ _ (went_on path so next name names o m f) modules e = went_on path so next name names (stops modules) m (follows_so path next names o f modules e)

    visits_so : (path : List (List ℕ)) (so : Gathered N) (name : List ℕ) (o : OutcomeOf N) → Visits reading holds folder path so name o → (modules : List (List ℕ)) → o ≡ fails modules
        → Visits reading holds folder path so name (stops modules)
    visits_so _ _ _ _ (is_refused path so name why r) modules e =
        let same : (with_name so.modules name, why) ≡ (modules, Read file Failed) = err_same _ _ _ _ refl refl e in
        subst (λ (ms : List (List ℕ)). Visits reading holds folder path so name (stops ms)) (ap (λ x. x.0) same)
        (is_refused path so name (Read file fault) (refuses_so (number_of name so.modules) name why r (ap (λ x. x.1) same)))
    visits_so _ _ _ _ (is_nested path so name m notes made i r t f) modules e = absurd (no_end _ modules e (λ x. x))
    visits_so _ _ _ _ (stopped_below path so name m notes d i a f) modules e =
        stopped_below path so name m notes (modules, Read file fault) i a (follows_so (path ++ name ∷ []) (with_module so name) m.extends (Err d) f modules e)
    visits_so _ _ _ _ (stopped_in_instance path so below name m notes d i a f g) modules e =
        stopped_in_instance path so below name m notes (modules, Read file fault) i a f (all_so (path ++ name ∷ []) below m.units (Err d) g modules e)
    visits_so _ _ _ _ (is_whole path so below all name m notes i a f g) modules e = absurd (no_end _ modules e (λ x. x))

    all_so : (path : List (List ℕ)) (so : Gathered N) (units : List ModuleUnit) (o : OutcomeOf N) → MakesAll reading holds folder path so units o → (modules : List (List ℕ)) → o ≡ fails modules
        → MakesAll reading holds folder path so units (stops modules)
    all_so _ _ _ _ (all_made path so) modules e = absurd (no_end _ modules e (λ x. x))
    all_so _ _ _ _ (makes_none path so u us o none g) modules e = makes_none path so u us (stops modules) none (all_so path so us o g modules e)
    all_so _ _ _ _ (not_made path so u us made d is m) modules e = not_made path so u us made (modules, Read file fault) is (makes_so path so made (Err d) m modules e)
    all_so _ _ _ _ (is_made path so next u us made o is m g) modules e = is_made path so next u us made (stops modules) is m (all_so path next us o g modules e)

    makes_so : (path : List (List ℕ)) (so : Gathered N) (made : Made) (o : OutcomeOf N) → Makes reading holds folder path so made o → (modules : List (List ℕ)) → o ≡ fails modules
        → Makes reading holds folder path so made (stops modules)
    makes_so _ _ _ _ (passed_over path so made t) modules e = absurd (no_end _ modules e (λ x. x))
    makes_so _ _ _ _ (stopped_inside path so made d t m) modules e =
        stopped_inside path so made (modules, Read file fault) t (meets_so path (begun_of_instance so.modules) made.module_name (Err d) m modules e)
    makes_so _ _ _ _ (has_program path so inner made t m) modules e = absurd (no_end _ modules e (λ x. x))

  pub flattening_so : (name : List ℕ) (modules : List (List ℕ)) → FlattenedBy reading holds folder name (fails modules) → FlattenedBy reading holds folder name (stops modules)
  flattening_so name modules h = visits_so [] nothing_read name (fails modules) h modules refl
