-- A module's file that is not read, for whatever cause, is read next; and what that cause says of it.
use Rattle.std.proofs.Common.{◌≡◌, refl, ℕ, List, [], ◌∷◌, ◌++◌}
use Rattle.std.specs.Prelude.{Option, Ok, Err}
use Rattle.base_core.specs.Device.{File}
use Rattle.base_core.specs.declared.reading.ReadFault.{ReadFault}
use Rattle.base_core.specs.declared.reading.ReadFault.TheVariants.{Failed}
use Rattle.reading_trees.specs.declared.module.Made.{Made}
use Rattle.reading_trees.specs.declared.module.Module.{Module}
use Rattle.reading_trees.specs.declared.module.Unit.{Unit as ModuleUnit}
use Rattle.reading_modules.specs.declared.fault.LoadWhy.{LoadWhy}
use Rattle.reading_modules.specs.declared.fault.LoadWhy.TheVariants.{Read}
use Rattle.reading_modules.specs.declared.so_far.Gathered.{Gathered}
use Rattle.reading_modules.specs.Readings.{Reading}
use Rattle.reading_modules.specs.Refusals.{IsUnread, RefusesBytes, Refuses, misspelled, not_good, not_read}
use Rattle.reading_modules.specs.Flattened.{OutcomeOf, Meets, Follows, Visits, Makes, MakesAll, is_visited, stopped, went_on, is_refused, stopped_below, stopped_in_instance, makes_none, not_made, is_made, stopped_inside, begun_of_instance, nothing_read, FlattenedBy}

module _ {N : Type 0} (reading : Reading N) (holds : Option (List File)) (folder : List ℕ) where
  no_bytes : (number : ℕ) (bytes name file : List ℕ) (fault : ReadFault) → RefusesBytes reading number bytes name (Read file fault) → ⊥
  no_bytes number bytes name file fault (misspelled why h) = reading.of_text number bytes file fault h

  refuses_read : (number : ℕ) (name file : List ℕ) (fault : ReadFault) → Refuses reading holds folder number name (Read file fault) → Refuses reading holds folder number name (Read file Failed)
  refuses_read number name file fault (not_read cause unread) = not_read Failed tt
  refuses_read number name file fault (not_good bytes why text h) = absurd (no_bytes number bytes name file fault h)

  refuses_cause : (number : ℕ) (name file : List ℕ) (fault : ReadFault) → Refuses reading holds folder number name (Read file fault) → IsUnread holds file fault
  refuses_cause number name file fault (not_read cause unread) = unread
  refuses_cause number name file fault (not_good bytes why text h) = absurd (no_bytes number bytes name file fault h)

  mutual
    meets_read : (path : List (List ℕ)) (so : Gathered N) (name : List ℕ) (ms : List (List ℕ)) (file : List ℕ) (fault : ReadFault)
        → Meets reading holds folder path so name (Err (ms, Read file fault)) → Meets reading holds folder path so name (Err (ms, Read file Failed))
    meets_read path so name ms file fault (is_visited _ _ _ o a b c d v) =
        is_visited path so name (Err (ms, Read file Failed)) a b c d (visits_read path so name ms file fault v)

    follows_read : (path : List (List ℕ)) (so : Gathered N) (names : List (List ℕ)) (ms : List (List ℕ)) (file : List ℕ) (fault : ReadFault)
        → Follows reading holds folder path so names (Err (ms, Read file fault)) → Follows reading holds folder path so names (Err (ms, Read file Failed))
    follows_read path so names ms file fault (stopped _ _ first others e m) = stopped path so first others (ms, Read file Failed) (meets_read path so first ms file fault m)
    follows_read path so names ms file fault (went_on _ _ next first others o m f) =
        went_on path so next first others (Err (ms, Read file Failed)) m (follows_read path next others ms file fault f)

    visits_read : (path : List (List ℕ)) (so : Gathered N) (name : List ℕ) (ms : List (List ℕ)) (file : List ℕ) (fault : ReadFault)
        → Visits reading holds folder path so name (Err (ms, Read file fault)) → Visits reading holds folder path so name (Err (ms, Read file Failed))
    visits_read path so name ms file fault (is_refused _ _ _ why told) = is_refused path so name (Read file Failed) (refuses_read _ name file fault told)
    visits_read path so name ms file fault (stopped_below _ _ _ m notes e is a f) =
        stopped_below path so name m notes (ms, Read file Failed) is a (follows_read _ _ m.extends ms file fault f)
    visits_read path so name ms file fault (stopped_in_instance _ _ below _ m notes e is a f g) =
        stopped_in_instance path so below name m notes (ms, Read file Failed) is a f (all_read _ below m.units ms file fault g)

    all_read : (path : List (List ℕ)) (so : Gathered N) (units : List ModuleUnit) (ms : List (List ℕ)) (file : List ℕ) (fault : ReadFault)
        → MakesAll reading holds folder path so units (Err (ms, Read file fault)) → MakesAll reading holds folder path so units (Err (ms, Read file Failed))
    all_read path so units ms file fault (makes_none _ _ u us o none g) = makes_none path so u us (Err (ms, Read file Failed)) none (all_read path so us ms file fault g)
    all_read path so units ms file fault (not_made _ _ u us made e is m) = not_made path so u us made (ms, Read file Failed) is (makes_read path so made ms file fault m)
    all_read path so units ms file fault (is_made _ _ next u us made o is m g) =
        is_made path so next u us made (Err (ms, Read file Failed)) is m (all_read path next us ms file fault g)

    makes_read : (path : List (List ℕ)) (so : Gathered N) (made : Made) (ms : List (List ℕ)) (file : List ℕ) (fault : ReadFault)
        → Makes reading holds folder path so made (Err (ms, Read file fault)) → Makes reading holds folder path so made (Err (ms, Read file Failed))
    makes_read path so made ms file fault (stopped_inside _ _ _ e t m) =
        stopped_inside path so made (ms, Read file Failed) t (meets_read path (begun_of_instance so.modules) made.module_name ms file fault m)

  pub wants_read : (name : List ℕ) (ms : List (List ℕ)) (file : List ℕ) (fault : ReadFault) → FlattenedBy reading holds folder name (Err (ms, Read file fault))
      → FlattenedBy reading holds folder name (Err (ms, Read file Failed))
  wants_read name ms file fault f = visits_read [] nothing_read name ms file fault f

  mutual
    meets_cause : (path : List (List ℕ)) (so : Gathered N) (name : List ℕ) (ms : List (List ℕ)) (file : List ℕ) (fault : ReadFault)
        → Meets reading holds folder path so name (Err (ms, Read file fault)) → IsUnread holds file fault
    meets_cause path so name ms file fault (is_visited _ _ _ o a b c d v) = visits_cause path so name ms file fault v

    follows_cause : (path : List (List ℕ)) (so : Gathered N) (names : List (List ℕ)) (ms : List (List ℕ)) (file : List ℕ) (fault : ReadFault)
        → Follows reading holds folder path so names (Err (ms, Read file fault)) → IsUnread holds file fault
    follows_cause path so names ms file fault (stopped _ _ first others e m) = meets_cause path so first ms file fault m
    follows_cause path so names ms file fault (went_on _ _ next first others o m f) = follows_cause path next others ms file fault f

    visits_cause : (path : List (List ℕ)) (so : Gathered N) (name : List ℕ) (ms : List (List ℕ)) (file : List ℕ) (fault : ReadFault)
        → Visits reading holds folder path so name (Err (ms, Read file fault)) → IsUnread holds file fault
    visits_cause path so name ms file fault (is_refused _ _ _ why told) = refuses_cause _ name file fault told
    visits_cause path so name ms file fault (stopped_below _ _ _ m notes e is a f) = follows_cause _ _ m.extends ms file fault f
    visits_cause path so name ms file fault (stopped_in_instance _ _ below _ m notes e is a f g) = all_cause _ below m.units ms file fault g

    all_cause : (path : List (List ℕ)) (so : Gathered N) (units : List ModuleUnit) (ms : List (List ℕ)) (file : List ℕ) (fault : ReadFault)
        → MakesAll reading holds folder path so units (Err (ms, Read file fault)) → IsUnread holds file fault
    all_cause path so units ms file fault (makes_none _ _ u us o none g) = all_cause path so us ms file fault g
    all_cause path so units ms file fault (not_made _ _ u us made e is m) = makes_cause path so made ms file fault m
    all_cause path so units ms file fault (is_made _ _ next u us made o is m g) = all_cause path next us ms file fault g

    makes_cause : (path : List (List ℕ)) (so : Gathered N) (made : Made) (ms : List (List ℕ)) (file : List ℕ) (fault : ReadFault)
        → Makes reading holds folder path so made (Err (ms, Read file fault)) → IsUnread holds file fault
    makes_cause path so made ms file fault (stopped_inside _ _ _ e t m) = meets_cause path (begun_of_instance so.modules) made.module_name ms file fault m

  pub unread_cause : (name : List ℕ) (ms : List (List ℕ)) (file : List ℕ) (fault : ReadFault) → FlattenedBy reading holds folder name (Err (ms, Read file fault)) → IsUnread holds file fault
  unread_cause name ms file fault f = visits_cause [] nothing_read name ms file fault f
