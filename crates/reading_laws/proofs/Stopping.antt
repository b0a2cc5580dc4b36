-- Where a file that gives a module is refused only so, so is the reading of the modules that a main module extends.
use Rattle.std.proofs.Common.{◌≡◌, ◌⊎◌, ◌∙◌, ◌<◌, ◌≤◌, ℕ, Bool, true, false, ◌||◌, List, [], ◌∷◌, ◌++◌, length, Option, Some, None, Ok, Err, arith, inl, inr, refl, sym, ap, subst}
use Rattle.std.specs.Str.{bytes_eq}
use Rattle.std.proofs.lemmas.Slice.Eq.{bytes_eq-Decides}
use Rattle.base_core.specs.Device.{File}
use Rattle.reading_trees.specs.declared.module.Made.{Made}
use Rattle.reading_trees.specs.declared.module.Module.{Module}
use Rattle.reading_trees.specs.declared.module.Unit.{Unit as ModuleUnit}
use Rattle.reading_modules.specs.declared.fault.LoadWhy.{LoadWhy}
use Rattle.reading_modules.specs.declared.so_far.Gathered.{Gathered}
use Rattle.reading_modules.specs.Flattened.{OutcomeOf, HasRoom, IsAllowed, IsCycle, IsFull, Meets, Follows, Visits, Makes, MakesAll, FlattenedBy, closes_cycle, is_listed, was_read, one_too_many, is_visited, all_met, stopped, went_on, is_refused, is_nested, stopped_below, stopped_in_instance, is_whole, all_made, makes_none, not_made, is_made, passed_over, stopped_inside, has_program, begun_of_instance, most_modules, nothing_read, number_of, with_module}
use Rattle.reading_modules.specs.Instances.{first_made, made_by}
use Rattle.reading_modules.specs.Readings.{Reading}
use Rattle.reading_modules.specs.Refusals.{IsModule, Refuses}
use Rattle.reading_modules.specs.Standard.{is_among, is_standard}
use Rattle.reading_laws.specs.OneReading.{MayStop}
use Rattle.reading_laws.proofs.Flattenings.{GivesOne, unlike, none_some, some_same, meets_same, follows_same, makes_same}

same_bytes : (bs : List ℕ) → bytes_eq bs bs ≡ true
same_bytes bs = (bytes_eq-Decides bs bs).1 refl

or_true : (a b : Bool) → b ≡ true → (a || b) ≡ true
or_true true b e = refl
or_true false b e = e

among : (name : List ℕ) (before between : List (List ℕ)) → is_among name (before ++ name ∷ between) ≡ true
among name [] between = ap (λ b. b || is_among name between) (same_bytes name)
among name (n ∷ before) between = or_true (bytes_eq n name) (is_among name (before ++ name ∷ between)) (among name before between)

on_path : (path : List (List ℕ)) (name : List ℕ) (names : List (List ℕ)) → IsCycle path name names → is_among name path ≡ true
on_path path name names c = ap (is_among name) c.on_path ∙ among name c.before c.between

too_few : (n m : ℕ) → n < m → m ≤ n → ⊥
too_few n m l k = omega (arith, l, k)

no_room : {N : Type 0} (so : Gathered N) (name : List ℕ) → (is_among name so.modules ≡ true) ⊎ (length so.modules < most_modules)
    → is_among name so.modules ≡ false → most_modules ≤ length so.modules → ⊥
no_room so name (inl e) new many = unlike (is_among name so.modules) e new
no_room so name (inr l) new many = too_few (length so.modules) most_modules l many

-- where there is room, it is not full
has_no_room : {N : Type 0} (so : Gathered N) (name : List ℕ) → HasRoom so name → IsFull so name → ⊥
has_no_room so name r (inl many) = too_few (length so.own) most_modules r.0 many
has_no_room so name r (inr full) = no_room so name r.1 full.0 full.1

abbrev Refusal : Type 0
Refusal = List (List ℕ) × LoadWhy

-- a file that gives a module is refused only where a read failed
abbrev pub GivesOrFails : {N : Type 0} → Reading N → Option (List File) → List ℕ → Type 0
GivesOrFails {N} reading holds folder =
    (number : ℕ) (name : List ℕ) (m : Module) (notes : List N) (why : LoadWhy) → IsModule reading holds folder number name m notes
    → Refuses reading holds folder number name why → MayStop why

module _ {N : Type 0} (reading : Reading N) (holds : Option (List File)) (folder : List ℕ) (one : GivesOne reading holds folder)
    (stop : GivesOrFails reading holds folder) where
  -- ---- what is behind a refusal

  -- a name that is refused is on the path, is one too many, or is visited
  abbrev MetAs : List (List ℕ) → Gathered N → List ℕ → OutcomeOf N → Type 0
  MetAs path so name (Ok after) = Unit {0}
  MetAs path so name (Err e) =
      (is_among name path ≡ true)
      ⊎ (((is_standard name ≡ false) × (is_among name so.own ≡ false) × IsFull so name)
      ⊎ ((is_standard name ≡ false) × (is_among name so.own ≡ false) × Visits reading holds folder path so name (Err e)))

  visited_as : (path : List (List ℕ)) (so : Gathered N) (name : List ℕ) (o : OutcomeOf N) → is_standard name ≡ false → is_among name so.own ≡ false → Visits reading holds folder path so name o → MetAs path so name o
  visited_as path so name (Ok after) s r v = tt
  visited_as path so name (Err e) s r v = inr (inr (s, r, v))

  met : (path : List (List ℕ)) (so : Gathered N) (name : List ℕ) (o : OutcomeOf N) → Meets reading holds folder path so name o → MetAs path so name o
  met _ _ _ _ (closes_cycle path so name names c) = inl (on_path path name names c)
  met _ _ _ _ (is_listed path so name a s) = tt
  met _ _ _ _ (was_read path so name a s r) = tt
  met _ _ _ _ (one_too_many path so name a s r l) = inr (inl (s, r, l))
  met _ _ _ _ (is_visited path so name o a s r l v) = visited_as path so name o s r v

  -- of names one is refused, behind others that are not
  abbrev FollowedAs : List (List ℕ) → Gathered N → List (List ℕ) → OutcomeOf N → Type 0
  FollowedAs path so names (Ok after) = Unit {0}
  FollowedAs path so [] (Err e) = ⊥
  FollowedAs path so (name ∷ names) (Err e) =
      Meets reading holds folder path so name (Err e) ⊎ ((next : Gathered N) × Meets reading holds folder path so name (Ok next) × Follows reading holds folder path next names (Err e))

  gone_on : (path : List (List ℕ)) (so next : Gathered N) (name : List ℕ) (names : List (List ℕ)) (o : OutcomeOf N) → Meets reading holds folder path so name (Ok next) → Follows reading holds folder path next names o → FollowedAs path so (name ∷ names) o
  gone_on path so next name names (Ok after) m f = tt
  gone_on path so next name names (Err e) m f = inr (next, m, f)

  followed : (path : List (List ℕ)) (so : Gathered N) (names : List (List ℕ)) (o : OutcomeOf N) → Follows reading holds folder path so names o → FollowedAs path so names o
  followed _ _ _ _ (all_met path so) = tt
  followed _ _ _ _ (stopped path so name names e m) = inl m
  followed _ _ _ _ (went_on path so next name names o m f) = gone_on path so next name names o m f

  -- a module of an instance has one itself
  record Inside (so : Gathered N) (name : List ℕ) : Type 0 where
    read_as : Module
    told : List N
    is : IsModule reading holds folder (number_of name so.modules) name read_as told
    made : Made
    asked : reading.refuses_nested ≡ true
    inside : so.of_instance ≡ true
    first : first_made read_as.units ≡ Some made

  -- what follows a module is refused: a module that it extends, or that of one of its instances
  abbrev Behind : List (List ℕ) → Gathered N → List ℕ → Module → Refusal → Type 0
  Behind path so name m e =
      Follows reading holds folder (path ++ name ∷ []) (with_module so name) m.extends (Err e)
      ⊎ ((below : Gathered N) × Follows reading holds folder (path ++ name ∷ []) (with_module so name) m.extends (Ok below) × MakesAll reading holds folder (path ++ name ∷ []) below m.units (Err e))

  record Below (path : List (List ℕ)) (so : Gathered N) (name : List ℕ) (e : Refusal) : Type 0 where
    read_as : Module
    told : List N
    is : IsModule reading holds folder (number_of name so.modules) name read_as told
    behind : Behind path so name read_as e

  -- a module that is refused itself, that may not have an instance, or what follows it
  abbrev VisitedAs : List (List ℕ) → Gathered N → List ℕ → OutcomeOf N → Type 0
  VisitedAs path so name (Ok after) = Unit {0}
  VisitedAs path so name (Err e) = Refuses reading holds folder (number_of name so.modules) name e.1 ⊎ (Inside so name ⊎ Below path so name e)

  visited : (path : List (List ℕ)) (so : Gathered N) (name : List ℕ) (o : OutcomeOf N) → Visits reading holds folder path so name o → VisitedAs path so name o
  visited _ _ _ _ (is_refused path so name why r) = inl r
  visited _ _ _ _ (is_nested path so name m notes made i r t f) = inr (inl (record { read_as = m; told = notes; is = i; made = made; asked = r; inside = t; first = f }))
  visited _ _ _ _ (stopped_below path so name m notes e i a f) = inr (inr (record { read_as = m; told = notes; is = i; behind = inl f }))
  visited _ _ _ _ (stopped_in_instance path so below name m notes e i a f g) = inr (inr (record { read_as = m; told = notes; is = i; behind = inr (below, f, g) }))
  visited _ _ _ _ (is_whole path so below all name m notes i a f g) = tt

  -- of units one makes no instance, or one that is refused, or one behind which others are
  abbrev AllMadeAs : List (List ℕ) → Gathered N → List ModuleUnit → OutcomeOf N → Type 0
  AllMadeAs path so units (Ok after) = Unit {0}
  AllMadeAs path so [] (Err e) = ⊥
  AllMadeAs path so (u ∷ us) (Err e) =
      ((made_by u ≡ None) × MakesAll reading holds folder path so us (Err e))
      ⊎ (((made : Made) × (made_by u ≡ Some made) × Makes reading holds folder path so made (Err e))
      ⊎ ((made : Made) × (next : Gathered N) × (made_by u ≡ Some made) × Makes reading holds folder path so made (Ok next) × MakesAll reading holds folder path next us (Err e)))

  none_on : (path : List (List ℕ)) (so : Gathered N) (u : ModuleUnit) (us : List ModuleUnit) (o : OutcomeOf N) → made_by u ≡ None → MakesAll reading holds folder path so us o → AllMadeAs path so (u ∷ us) o
  none_on path so u us (Ok after) n g = tt
  none_on path so u us (Err e) n g = inl (n, g)

  one_on : (path : List (List ℕ)) (so next : Gathered N) (u : ModuleUnit) (us : List ModuleUnit) (made : Made) (o : OutcomeOf N) → made_by u ≡ Some made → Makes reading holds folder path so made (Ok next) → MakesAll reading holds folder path next us o → AllMadeAs path so (u ∷ us) o
  one_on path so next u us made (Ok after) n m g = tt
  one_on path so next u us made (Err e) n m g = inr (inr (made, next, n, m, g))

  all_made_as : (path : List (List ℕ)) (so : Gathered N) (units : List ModuleUnit) (o : OutcomeOf N) → MakesAll reading holds folder path so units o → AllMadeAs path so units o
  all_made_as _ _ _ _ (all_made path so) = tt
  all_made_as _ _ _ _ (makes_none path so u us o n g) = none_on path so u us o n g
  all_made_as _ _ _ _ (not_made path so u us made e n m) = inr (inl (made, n, m))
  all_made_as _ _ _ _ (is_made path so next u us made o n m g) = one_on path so next u us made o n m g

  abbrev MadeAs : List (List ℕ) → Gathered N → Made → OutcomeOf N → Type 0
  MadeAs path so made (Ok after) = Unit {0}
  MadeAs path so made (Err e) = (so.of_instance ≡ false) × Meets reading holds folder path (begun_of_instance so.modules) made.module_name (Err e)

  made_as : (path : List (List ℕ)) (so : Gathered N) (made : Made) (o : OutcomeOf N) → Makes reading holds folder path so made o → MadeAs path so made o
  made_as _ _ _ _ (passed_over path so made t) = tt
  made_as _ _ _ _ (stopped_inside path so made e t m) = (t, m)
  made_as _ _ _ _ (has_program path so inner made t m) = tt

  -- ---- what was read, and a refusal beside it

  abbrev Stops : OutcomeOf N → LoadWhy → Type 0
  Stops (Ok a) why = MayStop why
  Stops (Err e) why = Unit {0}

  stops : (o : OutcomeOf N) (why : LoadWhy) → MayStop why → Stops o why
  stops (Ok a) why h = h
  stops (Err e) why h = tt

  listed_stops : (path : List (List ℕ)) (so : Gathered N) (name : List ℕ) (e : Refusal) → is_among name path ≡ false → is_standard name ≡ true → MetAs path so name (Err e) → ⊥
  listed_stops path so name e a s (inl h) = unlike (is_among name path) h a
  listed_stops path so name e a s (inr (inl h)) = unlike (is_standard name) s h.0
  listed_stops path so name e a s (inr (inr h)) = unlike (is_standard name) s h.0

  read_stops : (path : List (List ℕ)) (so : Gathered N) (name : List ℕ) (e : Refusal) → is_among name path ≡ false → is_among name so.own ≡ true → MetAs path so name (Err e) → ⊥
  read_stops path so name e a r (inl h) = unlike (is_among name path) h a
  read_stops path so name e a r (inr (inl h)) = unlike (is_among name so.own) r h.1
  read_stops path so name e a r (inr (inr h)) = unlike (is_among name so.own) r h.1

  visit_of : (path : List (List ℕ)) (so : Gathered N) (name : List ℕ) (e : Refusal) → is_among name path ≡ false → HasRoom so name → MetAs path so name (Err e) → Visits reading holds folder path so name (Err e)
  visit_of path so name e a l (inl h) = absurd (unlike (is_among name path) h a)
  visit_of path so name e a l (inr (inl h)) = absurd (has_no_room so name l h.2)
  visit_of path so name e a l (inr (inr h)) = h.2

  -- behind a name that is met, from what is told of it and of the names behind it
  follows_on : (path : List (List ℕ)) (so next : Gathered N) (name : List ℕ) (names : List (List ℕ)) (o : OutcomeOf N) (e : Refusal) → (Meets reading holds folder path so name (Err e) → MayStop e.1) → (Follows reading holds folder path next names (Err e) → Stops o e.1) → Meets reading holds folder path so name (Ok next) → FollowedAs path so (name ∷ names) (Err e) → Stops o e.1
  follows_on path so next name names o e here behind m (inl k) = stops o e.1 (here k)
  follows_on path so next name names o e here behind m (inr k) =
      let same : next ≡ k.0 = meets_same reading holds folder one path so name (Ok next) m k.0 k.1 in
      behind (subst (λ v. Follows reading holds folder path v names (Err e)) (sym same) k.2)

  -- behind a unit that makes no instance
  none_stops : (path : List (List ℕ)) (so : Gathered N) (u : ModuleUnit) (us : List ModuleUnit) (e : Refusal) → made_by u ≡ None → AllMadeAs path so (u ∷ us) (Err e) → MakesAll reading holds folder path so us (Err e)
  none_stops path so u us e n (inl h) = h.1
  none_stops path so u us e n (inr (inl h)) = absurd (none_some (made_by u) h.0 n h.1)
  none_stops path so u us e n (inr (inr h)) = absurd (none_some (made_by u) h.0 n h.2)

  -- at a unit that makes one, and behind it
  one_stops : (path : List (List ℕ)) (so next : Gathered N) (u : ModuleUnit) (us : List ModuleUnit) (made : Made) (o : OutcomeOf N) (e : Refusal) → made_by u ≡ Some made → Makes reading holds folder path so made (Ok next) → (Makes reading holds folder path so made (Err e) → MayStop e.1) → (MakesAll reading holds folder path next us (Err e) → Stops o e.1) → AllMadeAs path so (u ∷ us) (Err e) → Stops o e.1
  one_stops path so next u us made o e n m here behind (inl h) = absurd (none_some (made_by u) made h.0 n)
  one_stops path so next u us made o e n m here behind (inr (inl h)) =
      stops o e.1 (here (subst (λ (v : Made). Makes reading holds folder path so v (Err e)) (some_same (made_by u) h.0 made h.1 n) h.2))
  one_stops path so next u us made o e n m here behind (inr (inr h)) =
      let same : next ≡ h.1 = makes_same reading holds folder one path so made (Ok next) m h.1
      (subst (λ (v : Made). Makes reading holds folder path so v (Ok h.1)) (some_same (made_by u) h.0 made h.2 n) h.3) in
      behind (subst (λ v. MakesAll reading holds folder path v us (Err e)) (sym same) h.4)

  not_inside : (so : Gathered N) (name : List ℕ) (m : Module) (notes : List N) → IsModule reading holds folder (number_of name so.modules) name m notes → IsAllowed reading so m → Inside so name → ⊥
  not_inside so name m notes i a h =
      let same : m ≡ h.read_as = (one (number_of name so.modules) name m h.read_as notes h.told i h.is).0 in
      let none : first_made h.read_as.units ≡ None = subst (λ (v : Module). first_made v.units ≡ None) same (a h.asked h.inside) in
      none_some (first_made h.read_as.units) h.made none h.first

  behind_stops : (path : List (List ℕ)) (so below : Gathered N) (name : List ℕ) (m : Module) (e : Refusal) → Follows reading holds folder (path ++ name ∷ []) (with_module so name) m.extends (Ok below) → (Follows reading holds folder (path ++ name ∷ []) (with_module so name) m.extends (Err e) → MayStop e.1) → (MakesAll reading holds folder (path ++ name ∷ []) below m.units (Err e) → MayStop e.1) → Behind path so name m e → MayStop e.1
  behind_stops path so below name m e f under made (inl h) = under h
  behind_stops path so below name m e f under made (inr h) =
      let same : below ≡ h.0 = follows_same reading holds folder one (path ++ name ∷ []) (with_module so name) m.extends (Ok below) f h.0 h.1 in
      made (subst (λ v. MakesAll reading holds folder (path ++ name ∷ []) v m.units (Err e)) (sym same) h.2)

  below_stops : (path : List (List ℕ)) (so : Gathered N) (name : List ℕ) (m : Module) (notes : List N) (e : Refusal) → IsModule reading holds folder (number_of name so.modules) name m notes → IsAllowed reading so m → (Behind path so name m e → MayStop e.1) → VisitedAs path so name (Err e) → MayStop e.1
  below_stops path so name m notes e i a behind (inl r) = stop (number_of name so.modules) name m notes e.1 i r
  below_stops path so name m notes e i a behind (inr (inl h)) = absurd (not_inside so name m notes i a h)
  below_stops path so name m notes e i a behind (inr (inr k)) =
      let same : m ≡ k.read_as = (one (number_of name so.modules) name m k.read_as notes k.told i k.is).0 in
      behind (subst (λ (v : Module). Behind path so name v e) (sym same) k.behind)

  mutual
    meets_stops : (path : List (List ℕ)) (so : Gathered N) (name : List ℕ) (o : OutcomeOf N) → Meets reading holds folder path so name o → (e : Refusal) → Meets reading holds folder path so name (Err e) → Stops o e.1
    meets_stops _ _ _ _ (closes_cycle path so name names c) e g = tt
    meets_stops _ _ _ _ (is_listed path so name a s) e g = absurd (listed_stops path so name e a s (met path so name (Err e) g))
    meets_stops _ _ _ _ (was_read path so name a s r) e g = absurd (read_stops path so name e a r (met path so name (Err e) g))
    meets_stops _ _ _ _ (one_too_many path so name a s r l) e g = tt
    meets_stops _ _ _ _ (is_visited path so name o a s r l v) e g = visits_stops path so name o v e (visit_of path so name e a l (met path so name (Err e) g))

    follows_stops : (path : List (List ℕ)) (so : Gathered N) (names : List (List ℕ)) (o : OutcomeOf N) → Follows reading holds folder path so names o → (e : Refusal) → Follows reading holds folder path so names (Err e) → Stops o e.1
    follows_stops _ _ _ _ (all_met path so) e g = absurd (followed path so [] (Err e) g)
    follows_stops _ _ _ _ (stopped path so name names d m) e g = tt
    follows_stops _ _ _ _ (went_on path so next name names o m f) e g =
        follows_on path so next name names o e (λ k. meets_stops path so name (Ok next) m e k) (λ k. follows_stops path next names o f e k) m (followed path so (name ∷ names) (Err e) g)

    visits_stops : (path : List (List ℕ)) (so : Gathered N) (name : List ℕ) (o : OutcomeOf N) → Visits reading holds folder path so name o → (e : Refusal) → Visits reading holds folder path so name (Err e) → Stops o e.1
    visits_stops _ _ _ _ (is_refused path so name why r) e g = tt
    visits_stops _ _ _ _ (is_nested path so name m notes made i r t f) e g = tt
    visits_stops _ _ _ _ (stopped_below path so name m notes d i a f) e g = tt
    visits_stops _ _ _ _ (stopped_in_instance path so below name m notes d i a f k) e g = tt
    visits_stops _ _ _ _ (is_whole path so below all name m notes i a f k) e g =
        below_stops path so name m notes e i a
        (behind_stops path so below name m e f (λ h. follows_stops (path ++ name ∷ []) (with_module so name) m.extends (Ok below) f e h)
        (λ h. all_stops (path ++ name ∷ []) below m.units (Ok all) k e h)) (visited path so name (Err e) g)

    all_stops : (path : List (List ℕ)) (so : Gathered N) (units : List ModuleUnit) (o : OutcomeOf N) → MakesAll reading holds folder path so units o → (e : Refusal) → MakesAll reading holds folder path so units (Err e) → Stops o e.1
    all_stops _ _ _ _ (all_made path so) e g = absurd (all_made_as path so [] (Err e) g)
    all_stops _ _ _ _ (makes_none path so u us o n k) e g = all_stops path so us o k e (none_stops path so u us e n (all_made_as path so (u ∷ us) (Err e) g))
    all_stops _ _ _ _ (not_made path so u us made d n m) e g = tt
    all_stops _ _ _ _ (is_made path so next u us made o n m k) e g =
        one_stops path so next u us made o e n m (λ h. makes_stops path so made (Ok next) m e h) (λ h. all_stops path next us o k e h) (all_made_as path so (u ∷ us) (Err e) g)

    makes_stops : (path : List (List ℕ)) (so : Gathered N) (made : Made) (o : OutcomeOf N) → Makes reading holds folder path so made o → (e : Refusal) → Makes reading holds folder path so made (Err e) → Stops o e.1
    makes_stops _ _ _ _ (passed_over path so made t) e g = absurd (unlike so.of_instance t (made_as path so made (Err e) g).0)
    makes_stops _ _ _ _ (stopped_inside path so made d t m) e g = tt
    makes_stops _ _ _ _ (has_program path so inner made t m) e g =
        meets_stops path (begun_of_instance so.modules) made.module_name (Ok inner) m e (made_as path so made (Err e) g).1

  pub flattening_stops : (name : List ℕ) (all : Gathered N) (e : Refusal) → FlattenedBy reading holds folder name (Ok all) → FlattenedBy reading holds folder name (Err e) → MayStop e.1
  flattening_stops name all e h g = visits_stops [] nothing_read name (Ok all) h e g
