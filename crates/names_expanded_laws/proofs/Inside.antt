-- What holds of the units of each module holds of those of the flattened program, and of the program of each of its instances.
use Rattle.std.proofs.Common.{List, [], ◌∷◌, ◌++◌, ℕ, Option, Ok, Err}
use Rattle.base_core.specs.Device.{File}
use Rattle.reading_trees.specs.declared.module.Instance.{Instance as ModuleInstance}
use Rattle.reading_trees.specs.declared.module.Made.{Made}
use Rattle.reading_trees.specs.declared.module.Module.{Module}
use Rattle.reading_trees.specs.declared.module.Unit.{Unit as ModuleUnit}
use Rattle.reading_modules.specs.Flattened.{OutcomeOf, Meets, Follows, Visits, FlattenedBy, Makes, MakesAll, closes_cycle, is_listed, was_read, one_too_many, is_visited, all_met, stopped, went_on, is_refused, is_nested, stopped_below, stopped_in_instance, is_whole, all_made, makes_none, not_made, is_made, passed_over, stopped_inside, has_program, nothing_read, begun_of_instance}
use Rattle.reading_modules.specs.Readings.{Reading}
use Rattle.reading_modules.specs.Refusals.{IsModule}

module _ {N : Type 0} (reading : Reading N) (holds : Option (List File)) (folder : List ℕ) (Q : List ModuleUnit → Type 0) (none : Q []) (both : (us vs : List ModuleUnit) → Q us → Q vs → Q (us ++ vs)) (one : (number : ℕ) (name : List ℕ) (m : Module) (notes : List N) → IsModule reading holds folder number name m notes → Q m.units) where
  abbrev pub Inside : List ModuleInstance → Type 0
  Inside [] = Unit {0}
  Inside (i ∷ is) = Q i.program.units × Inside is

  one_more : (is : List ModuleInstance) (i : ModuleInstance) → Inside is → Q i.program.units → Inside (is ++ i ∷ [])
  one_more [] i h q = (q, tt)
  one_more (j ∷ is) i h q = (h.0, one_more is i h.1 q)

  abbrev After : OutcomeOf N → Type 0
  After (Ok so) = Q so.units × Inside so.instances
  After (Err e) = Unit {0}

  mutual
    meets : (path : List (List ℕ)) (so : _) (name : List ℕ) (o : OutcomeOf N) → Meets reading holds folder path so name o → Q so.units → Inside so.instances → After o
    meets _ _ _ _ (closes_cycle path so name names c) q i = tt
    meets _ _ _ _ (is_listed path so name a s) q i = (q, i)
    meets _ _ _ _ (was_read path so name a s r) q i = (q, i)
    meets _ _ _ _ (one_too_many path so name a s r l) q i = tt
    meets _ _ _ _ (is_visited path so name o a s r l v) q i = visits path so name o v q i

    follows : (path : List (List ℕ)) (so : _) (names : List (List ℕ)) (o : OutcomeOf N) → Follows reading holds folder path so names o → Q so.units → Inside so.instances → After o
    follows _ _ _ _ (all_met path so) q i = (q, i)
    follows _ _ _ _ (stopped path so name names e m) q i = tt
    follows _ _ _ _ (went_on path so next name names o m f) q i =
        let r = meets path so name (Ok next) m q i in
        follows path next names o f r.0 r.1

    visits : (path : List (List ℕ)) (so : _) (name : List ℕ) (o : OutcomeOf N) → Visits reading holds folder path so name o → Q so.units → Inside so.instances → After o
    visits _ _ _ _ (is_refused path so name why r) q i = tt
    visits _ _ _ _ (is_nested path so name m notes made s r t f) q i = tt
    visits _ _ _ _ (stopped_below path so name m notes e s a f) q i = tt
    visits _ _ _ _ (stopped_in_instance path so below name m notes e s a f g) q i = tt
    visits _ _ _ _ (is_whole path so below all name m notes s a f g) q i =
        let under = follows _ _ _ _ f q i in
        let made = makes_all _ _ _ _ g under.0 under.1 in
        (both all.units m.units made.0 (one _ name m notes s), made.1)

    makes_all : (path : List (List ℕ)) (so : _) (units : List ModuleUnit) (o : OutcomeOf N) → MakesAll reading holds folder path so units o → Q so.units → Inside so.instances → After o
    makes_all _ _ _ _ (all_made path so) q i = (q, i)
    makes_all _ _ _ _ (makes_none path so u us o n g) q i = makes_all path so us o g q i
    makes_all _ _ _ _ (not_made path so u us made e n m) q i = tt
    makes_all _ _ _ _ (is_made path so next u us made o n m g) q i =
        let r = makes path so made (Ok next) m q i in
        makes_all path next us o g r.0 r.1

    makes : (path : List (List ℕ)) (so : _) (made : Made) (o : OutcomeOf N) → Makes reading holds folder path so made o → Q so.units → Inside so.instances → After o
    makes _ _ _ _ (passed_over path so made t) q i = (q, i)
    makes _ _ _ _ (stopped_inside path so made e t m) q i = tt
    makes _ _ _ _ (has_program path so inner made t m) q i =
        let r = meets path (begun_of_instance so.modules) made.module_name (Ok inner) m none tt in
        (q, one_more so.instances _ i r.0)

  pub of_all : (name : List ℕ) (all : _) → FlattenedBy reading holds folder name (Ok all) → Q all.units × Inside all.instances
  of_all name all v = visits [] nothing_read name (Ok all) v none tt
