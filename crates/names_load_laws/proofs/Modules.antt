-- What holds of the units of each module holds of those of the flattened program.
use Rattle.std.proofs.Common.{List, [], ◌∷◌, ◌++◌, ℕ, Option, Ok, Err}
use Rattle.base_core.specs.Device.{File}
use Rattle.reading_trees.specs.declared.module.Unit.{Unit as ModuleUnit}
use Rattle.reading_trees.specs.declared.module.Made.{Made}
use Rattle.reading_trees.specs.declared.module.Module.{Module}
use Rattle.reading_modules.specs.Flattened.{OutcomeOf, Meets, Follows, Visits, FlattenedBy, Makes, MakesAll, closes_cycle, is_listed, was_read, one_too_many, is_visited, all_met, stopped, went_on, is_refused, is_nested, stopped_below, stopped_in_instance, is_whole, all_made, makes_none, not_made, is_made, passed_over, stopped_inside, has_program, nothing_read}
use Rattle.reading_modules.specs.Readings.{Reading}
use Rattle.reading_modules.specs.Refusals.{IsModule}

module _ {N : Type 0} (reading : Reading N) (holds : Option (List File)) (folder : List ℕ) (Q : List ModuleUnit → Type 0) (none : Q []) (both : (us vs : List ModuleUnit) → Q us → Q vs → Q (us ++ vs)) (one : (number : ℕ) (name : List ℕ) (m : Module) (notes : List N) → IsModule reading holds folder number name m notes → Q m.units) where
  abbrev After : OutcomeOf N → Type 0
  After (Ok so) = Q so.units
  After (Err e) = Unit {0}

  mutual
    meets : (path : List (List ℕ)) (so : _) (name : List ℕ) (o : OutcomeOf N) → Meets reading holds folder path so name o → Q so.units → After o
    meets _ _ _ _ (closes_cycle path so name names c) q = tt
    meets _ _ _ _ (is_listed path so name a s) q = q
    meets _ _ _ _ (was_read path so name a s r) q = q
    meets _ _ _ _ (one_too_many path so name a s r l) q = tt
    meets _ _ _ _ (is_visited path so name o a s r l v) q = visits path so name o v q

    follows : (path : List (List ℕ)) (so : _) (names : List (List ℕ)) (o : OutcomeOf N) → Follows reading holds folder path so names o → Q so.units → After o
    follows _ _ _ _ (all_met path so) q = q
    follows _ _ _ _ (stopped path so name names e m) q = tt
    follows _ _ _ _ (went_on path so next name names o m f) q = follows path next names o f (meets path so name (Ok next) m q)

    visits : (path : List (List ℕ)) (so : _) (name : List ℕ) (o : OutcomeOf N) → Visits reading holds folder path so name o → Q so.units → After o
    visits _ _ _ _ (is_refused path so name why r) q = tt
    visits _ _ _ _ (is_nested path so name m notes made i r t f) q = tt
    visits _ _ _ _ (stopped_below path so name m notes e i a f) q = tt
    visits _ _ _ _ (stopped_in_instance path so below name m notes e i a f g) q = tt
    visits _ _ _ _ (is_whole path so below all name m notes i a f g) q = both all.units m.units (makes_all _ _ _ _ g (follows _ _ _ _ f q)) (one _ name m notes i)

    makes_all : (path : List (List ℕ)) (so : _) (units : List ModuleUnit) (o : OutcomeOf N) → MakesAll reading holds folder path so units o → Q so.units → After o
    makes_all _ _ _ _ (all_made path so) q = q
    makes_all _ _ _ _ (makes_none path so u us o n g) q = makes_all path so us o g q
    makes_all _ _ _ _ (not_made path so u us made e n m) q = tt
    makes_all _ _ _ _ (is_made path so next u us made o n m g) q = makes_all path next us o g (makes path so made (Ok next) m q)

    makes : (path : List (List ℕ)) (so : _) (made : Made) (o : OutcomeOf N) → Makes reading holds folder path so made o → Q so.units → After o
    makes _ _ _ _ (passed_over path so made t) q = q
    makes _ _ _ _ (stopped_inside path so made e t m) q = tt
    makes _ _ _ _ (has_program path so inner made t m) q = q

  pub of_all : (name : List ℕ) (all : _) → FlattenedBy reading holds folder name (Ok all) → Q all.units
  of_all name all v = visits [] nothing_read name (Ok all) v none
