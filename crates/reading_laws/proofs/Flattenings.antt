-- Where a file gives one module, the modules that a main module extends are read in one way.
use Rattle.std.proofs.Common.{◌≡◌, ◌⊎◌, ◌∙◌, ℕ, Bool, true, false, List, [], ◌∷◌, ◌++◌, Option, Some, None, Ok, Err, inl, inr, refl, sym, ap, subst}
use Rattle.std.proofs.lemmas.Bool.{true≢false}
use Rattle.base_core.specs.Device.{File}
use Rattle.reading_trees.specs.declared.module.Made.{Made}
use Rattle.reading_trees.specs.declared.module.Module.{Module}
use Rattle.reading_trees.specs.declared.module.Unit.{Unit as ModuleUnit}
use Rattle.reading_modules.specs.declared.so_far.Gathered.{Gathered}
use Rattle.reading_modules.specs.Flattened.{OutcomeOf, IsAllowed, Meets, Follows, Visits, Makes, MakesAll, FlattenedBy, closes_cycle, is_listed, was_read, one_too_many, is_visited, all_met, stopped, went_on, is_refused, is_nested, stopped_below, stopped_in_instance, is_whole, all_made, makes_none, not_made, is_made, passed_over, stopped_inside, has_program, begun_of_instance, nothing_read, number_of, with_instance, with_module, with_read, with_standard}
use Rattle.reading_modules.specs.Instances.{made_by}
use Rattle.reading_modules.specs.Readings.{Reading}
use Rattle.reading_modules.specs.Refusals.{IsModule}
use Rattle.reading_modules.specs.Standard.{is_among, is_standard}

pub unlike : (b : Bool) → b ≡ true → b ≡ false → ⊥
unlike b t f = true≢false (sym t ∙ f)

pub none_some : (o : Option Made) (made : Made) → o ≡ None → o ≡ Some made → ⊥
none_some o made n s = absurd (cc)

pub some_same : (o : Option Made) (made other : Made) → o ≡ Some made → o ≡ Some other → made ≡ other
some_same o made other a b = cc

-- a file gives one module, with the same notes
abbrev pub GivesOne : {N : Type 0} → Reading N → Option (List File) → List ℕ → Type 0
GivesOne {N} reading holds folder =
    (number : ℕ) (name : List ℕ) (m n : Module) (notes others : List N) → IsModule reading holds folder number name m notes
    → IsModule reading holds folder number name n others → (m ≡ n) × (notes ≡ others)

module _ {N : Type 0} (reading : Reading N) (holds : Option (List File)) (folder : List ℕ) (one : GivesOne reading holds folder) where
  -- ---- what is behind an outcome

  -- a name that is met without a refusal is listed, was read before, or is visited
  abbrev pub MetAs : List (List ℕ) → Gathered N → List ℕ → OutcomeOf N → Type 0
  MetAs path so name (Ok after) =
      ((is_standard name ≡ true) × (after ≡ with_standard so name))
      ⊎ (((is_standard name ≡ false) × (is_among name so.own ≡ true) × (after ≡ so))
      ⊎ ((is_standard name ≡ false) × (is_among name so.own ≡ false) × Visits reading holds folder path so name (Ok after)))
  MetAs path so name (Err e) = Unit {0}

  visited_as : (path : List (List ℕ)) (so : Gathered N) (name : List ℕ) (o : OutcomeOf N) → is_standard name ≡ false → is_among name so.own ≡ false → Visits reading holds folder path so name o → MetAs path so name o
  visited_as path so name (Ok after) s r v = inr (inr (s, r, v))
  visited_as path so name (Err e) s r v = tt

  pub met : (path : List (List ℕ)) (so : Gathered N) (name : List ℕ) (o : OutcomeOf N) → Meets reading holds folder path so name o → MetAs path so name o
  met _ _ _ _ (closes_cycle path so name names c) = tt
  met _ _ _ _ (is_listed path so name a s) = inl (s, refl)
  met _ _ _ _ (was_read path so name a s r) = inr (inl (s, r, refl))
  met _ _ _ _ (one_too_many path so name a s r l) = tt
  met _ _ _ _ (is_visited path so name o a s r l v) = visited_as path so name o s r v

  abbrev pub FollowedAs : List (List ℕ) → Gathered N → List (List ℕ) → OutcomeOf N → Type 0
  FollowedAs path so [] (Ok after) = after ≡ so
  FollowedAs path so (name ∷ names) (Ok after) = (next : Gathered N) × Meets reading holds folder path so name (Ok next) × Follows reading holds folder path next names (Ok after)
  FollowedAs path so names (Err e) = Unit {0}

  gone_on : (path : List (List ℕ)) (so next : Gathered N) (name : List ℕ) (names : List (List ℕ)) (o : OutcomeOf N) → Meets reading holds folder path so name (Ok next) → Follows reading holds folder path next names o → FollowedAs path so (name ∷ names) o
  gone_on path so next name names (Ok after) m f = (next, m, f)
  gone_on path so next name names (Err e) m f = tt

  pub followed : (path : List (List ℕ)) (so : Gathered N) (names : List (List ℕ)) (o : OutcomeOf N) → Follows reading holds folder path so names o → FollowedAs path so names o
  followed _ _ _ _ (all_met path so) = refl
  followed _ _ _ _ (stopped path so name names e m) = tt
  followed _ _ _ _ (went_on path so next name names o m f) = gone_on path so next name names o m f

  -- a module that is visited without a refusal
  pub record Visited (path : List (List ℕ)) (so : Gathered N) (name : List ℕ) (after : Gathered N) : Type 0 where
    read_as : Module
    told : List N
    below : Gathered N
    is : IsModule reading holds folder (number_of name so.modules) name read_as told
    follows : Follows reading holds folder (path ++ name ∷ []) (with_module so name) read_as.extends (Ok below)
    all : Gathered N
    makes : MakesAll reading holds folder (path ++ name ∷ []) below read_as.units (Ok all)
    added : after ≡ with_read all (number_of name so.modules) read_as told

  abbrev pub VisitedAs : List (List ℕ) → Gathered N → List ℕ → OutcomeOf N → Type 0
  VisitedAs path so name (Ok after) = Visited path so name after
  VisitedAs path so name (Err e) = Unit {0}

  pub visited : (path : List (List ℕ)) (so : Gathered N) (name : List ℕ) (o : OutcomeOf N) → Visits reading holds folder path so name o → VisitedAs path so name o
  visited _ _ _ _ (is_refused path so name why r) = tt
  visited _ _ _ _ (is_nested path so name m notes made i r t f) = tt
  visited _ _ _ _ (stopped_below path so name m notes e i a f) = tt
  visited _ _ _ _ (stopped_in_instance path so below name m notes e i a f g) = tt
  visited _ _ _ _ (is_whole path so below all name m notes i a f g) = record { read_as = m; told = notes; below = below; is = i; follows = f; all = all; makes = g; added = refl }

  -- an instance that is made
  abbrev pub MadeAs : List (List ℕ) → Gathered N → Made → OutcomeOf N → Type 0
  MadeAs path so made (Ok after) =
      ((so.of_instance ≡ true) × (after ≡ so))
      ⊎ ((so.of_instance ≡ false)
      × ((inner : Gathered N) × Meets reading holds folder path (begun_of_instance so.modules) made.module_name (Ok inner) × (after ≡ with_instance folder so made inner)))
  MadeAs path so made (Err e) = Unit {0}

  pub made_as : (path : List (List ℕ)) (so : Gathered N) (made : Made) (o : OutcomeOf N) → Makes reading holds folder path so made o → MadeAs path so made o
  made_as _ _ _ _ (passed_over path so made t) = inl (t, refl)
  made_as _ _ _ _ (stopped_inside path so made e t m) = tt
  made_as _ _ _ _ (has_program path so inner made t m) = inr (t, (inner, m, refl))

  passed_same : (path : List (List ℕ)) (so after : Gathered N) (made : Made) → so.of_instance ≡ true → MadeAs path so made (Ok after) → so ≡ after
  passed_same path so after made t (inl h) = sym h.1
  passed_same path so after made t (inr h) = absurd (unlike so.of_instance t h.0)

  inner_of : (path : List (List ℕ)) (so after : Gathered N) (made : Made) → so.of_instance ≡ false → MadeAs path so made (Ok after)
      → (inner : Gathered N) × Meets reading holds folder path (begun_of_instance so.modules) made.module_name (Ok inner) × (after ≡ with_instance folder so made inner)
  inner_of path so after made t (inl h) = absurd (unlike so.of_instance h.0 t)
  inner_of path so after made t (inr h) = h.1

  -- the first of some units makes none, or one, and those behind it make the others
  abbrev pub AllMadeAs : List (List ℕ) → Gathered N → List ModuleUnit → OutcomeOf N → Type 0
  AllMadeAs path so [] (Ok after) = after ≡ so
  AllMadeAs path so (u ∷ us) (Ok after) =
      ((made_by u ≡ None) × MakesAll reading holds folder path so us (Ok after))
      ⊎ ((made : Made) × (next : Gathered N) × (made_by u ≡ Some made) × Makes reading holds folder path so made (Ok next) × MakesAll reading holds folder path next us (Ok after))
  AllMadeAs path so units (Err e) = Unit {0}

  none_on : (path : List (List ℕ)) (so : Gathered N) (u : ModuleUnit) (us : List ModuleUnit) (o : OutcomeOf N) → made_by u ≡ None → MakesAll reading holds folder path so us o → AllMadeAs path so (u ∷ us) o
  none_on path so u us (Ok after) n g = inl (n, g)
  none_on path so u us (Err e) n g = tt

  one_on : (path : List (List ℕ)) (so next : Gathered N) (u : ModuleUnit) (us : List ModuleUnit) (made : Made) (o : OutcomeOf N) → made_by u ≡ Some made → Makes reading holds folder path so made (Ok next) → MakesAll reading holds folder path next us o → AllMadeAs path so (u ∷ us) o
  one_on path so next u us made (Ok after) n m g = inr (made, next, n, m, g)
  one_on path so next u us made (Err e) n m g = tt

  pub all_made_as : (path : List (List ℕ)) (so : Gathered N) (units : List ModuleUnit) (o : OutcomeOf N) → MakesAll reading holds folder path so units o → AllMadeAs path so units o
  all_made_as _ _ _ _ (all_made path so) = refl
  all_made_as _ _ _ _ (makes_none path so u us o n g) = none_on path so u us o n g
  all_made_as _ _ _ _ (not_made path so u us made e n m) = tt
  all_made_as _ _ _ _ (is_made path so next u us made o n m g) = one_on path so next u us made o n m g

  -- ---- two of one

  abbrev pub Same : OutcomeOf N → Gathered N → Type 0
  Same (Ok a) b = a ≡ b
  Same (Err e) b = Unit {0}

  listed_same : (path : List (List ℕ)) (so b : Gathered N) (name : List ℕ) → is_standard name ≡ true → MetAs path so name (Ok b) → with_standard so name ≡ b
  listed_same path so b name s (inl h) = sym h.1
  listed_same path so b name s (inr (inl h)) = absurd (unlike (is_standard name) s h.0)
  listed_same path so b name s (inr (inr h)) = absurd (unlike (is_standard name) s h.0)

  read_same : (path : List (List ℕ)) (so b : Gathered N) (name : List ℕ) → is_standard name ≡ false → is_among name so.own ≡ true → MetAs path so name (Ok b) → so ≡ b
  read_same path so b name s r (inl h) = absurd (unlike (is_standard name) h.0 s)
  read_same path so b name s r (inr (inl h)) = sym h.2
  read_same path so b name s r (inr (inr h)) = absurd (unlike (is_among name so.own) r h.1)

  visit_of : (path : List (List ℕ)) (so b : Gathered N) (name : List ℕ) → is_standard name ≡ false → is_among name so.own ≡ false → MetAs path so name (Ok b) → Visits reading holds folder path so name (Ok b)
  visit_of path so b name s r (inl h) = absurd (unlike (is_standard name) h.0 s)
  visit_of path so b name s r (inr (inl h)) = absurd (unlike (is_among name so.own) h.1 r)
  visit_of path so b name s r (inr (inr h)) = h.2

  -- the rest of units whose first makes none, or one
  none_behind : (path : List (List ℕ)) (so : Gathered N) (u : ModuleUnit) (us : List ModuleUnit) (b : Gathered N) → made_by u ≡ None → AllMadeAs path so (u ∷ us) (Ok b) → MakesAll reading holds folder path so us (Ok b)
  none_behind path so u us b n (inl h) = h.1
  none_behind path so u us b n (inr h) = absurd (none_some (made_by u) h.0 n h.2)

  one_behind : (path : List (List ℕ)) (so : Gathered N) (u : ModuleUnit) (us : List ModuleUnit) (made : Made) (b : Gathered N) → made_by u ≡ Some made → AllMadeAs path so (u ∷ us) (Ok b) → (next : Gathered N) × Makes reading holds folder path so made (Ok next) × MakesAll reading holds folder path next us (Ok b)
  one_behind path so u us made b n (inl h) = absurd (none_some (made_by u) made h.0 n)
  one_behind path so u us made b n (inr h) =
      (h.1, subst (λ (v : Made). Makes reading holds folder path so v (Ok h.1)) (some_same (made_by u) h.0 made h.2 n) h.3, h.4)

  mutual
    pub meets_same : (path : List (List ℕ)) (so : Gathered N) (name : List ℕ) (o : OutcomeOf N) → Meets reading holds folder path so name o → (b : Gathered N) → Meets reading holds folder path so name (Ok b) → Same o b
    meets_same _ _ _ _ (closes_cycle path so name names c) b g = tt
    meets_same _ _ _ _ (is_listed path so name a s) b g = listed_same path so b name s (met path so name (Ok b) g)
    meets_same _ _ _ _ (was_read path so name a s r) b g = read_same path so b name s r (met path so name (Ok b) g)
    meets_same _ _ _ _ (one_too_many path so name a s r l) b g = tt
    meets_same _ _ _ _ (is_visited path so name o a s r l v) b g = visits_same path so name o v b (visit_of path so b name s r (met path so name (Ok b) g))

    pub follows_same : (path : List (List ℕ)) (so : Gathered N) (names : List (List ℕ)) (o : OutcomeOf N) → Follows reading holds folder path so names o → (b : Gathered N) → Follows reading holds folder path so names (Ok b) → Same o b
    follows_same _ _ _ _ (all_met path so) b g = sym (followed path so [] (Ok b) g)
    follows_same _ _ _ _ (stopped path so name names e m) b g = tt
    follows_same _ _ _ _ (went_on path so next name names o m f) b g =
        let h = followed path so (name ∷ names) (Ok b) g in
        let same : next ≡ h.0 = meets_same path so name (Ok next) m h.0 h.1 in
        follows_same path next names o f b (subst (λ v. Follows reading holds folder path v names (Ok b)) (sym same) h.2)

    pub visits_same : (path : List (List ℕ)) (so : Gathered N) (name : List ℕ) (o : OutcomeOf N) → Visits reading holds folder path so name o → (b : Gathered N) → Visits reading holds folder path so name (Ok b) → Same o b
    visits_same _ _ _ _ (is_refused path so name why r) b g = tt
    visits_same _ _ _ _ (is_nested path so name m notes made i r t f) b g = tt
    visits_same _ _ _ _ (stopped_below path so name m notes e i a f) b g = tt
    visits_same _ _ _ _ (stopped_in_instance path so below name m notes e i a f k) b g = tt
    visits_same _ _ _ _ (is_whole path so below all name m notes i a f k) b g =
        let h : Visited path so name b = visited path so name (Ok b) g in
        let both : (m ≡ h.read_as) × (notes ≡ h.told) = one (number_of name so.modules) name m h.read_as notes h.told i h.is in
        let follows : Follows reading holds folder (path ++ name ∷ []) (with_module so name) m.extends (Ok h.below) =
        subst (λ (v : Module). Follows reading holds folder (path ++ name ∷ []) (with_module so name) v.extends (Ok h.below)) (sym both.0) h.follows in
        let under : below ≡ h.below = follows_same (path ++ name ∷ []) (with_module so name) m.extends (Ok below) f h.below follows in
        let makes : MakesAll reading holds folder (path ++ name ∷ []) below m.units (Ok h.all) =
        subst (λ (v : Gathered N). MakesAll reading holds folder (path ++ name ∷ []) v m.units (Ok h.all)) (sym under)
        (subst (λ (v : Module). MakesAll reading holds folder (path ++ name ∷ []) h.below v.units (Ok h.all)) (sym both.0) h.makes) in
        let made : all ≡ h.all = all_same (path ++ name ∷ []) below m.units (Ok all) k h.all makes in
        let file : ℕ = number_of name so.modules in
        ap (λ (v : Gathered N). with_read v file m notes) made ∙ ap (λ (v : Module). with_read h.all file v notes) both.0
        ∙ ap (λ (v : List N). with_read h.all file h.read_as v) both.1 ∙ sym h.added

    pub all_same : (path : List (List ℕ)) (so : Gathered N) (units : List ModuleUnit) (o : OutcomeOf N) → MakesAll reading holds folder path so units o → (b : Gathered N) → MakesAll reading holds folder path so units (Ok b) → Same o b
    all_same _ _ _ _ (all_made path so) b g = sym (all_made_as path so [] (Ok b) g)
    all_same _ _ _ _ (makes_none path so u us o n k) b g =
        all_same path so us o k b (none_behind path so u us b n (all_made_as path so (u ∷ us) (Ok b) g))
    all_same _ _ _ _ (not_made path so u us made e n m) b g = tt
    all_same _ _ _ _ (is_made path so next u us made o n m k) b g =
        let h = one_behind path so u us made b n (all_made_as path so (u ∷ us) (Ok b) g) in
        let same : next ≡ h.0 = makes_same path so made (Ok next) m h.0 h.1 in
        all_same path next us o k b (subst (λ v. MakesAll reading holds folder path v us (Ok b)) (sym same) h.2)

    pub makes_same : (path : List (List ℕ)) (so : Gathered N) (made : Made) (o : OutcomeOf N) → Makes reading holds folder path so made o → (b : Gathered N) → Makes reading holds folder path so made (Ok b) → Same o b
    makes_same _ _ _ _ (passed_over path so made t) b g = passed_same path so b made t (made_as path so made (Ok b) g)
    makes_same _ _ _ _ (stopped_inside path so made e t m) b g = tt
    makes_same _ _ _ _ (has_program path so inner made t m) b g =
        let h = inner_of path so b made t (made_as path so made (Ok b) g) in
        ap (λ (v : Gathered N). with_instance folder so made v) (meets_same path (begun_of_instance so.modules) made.module_name (Ok inner) m h.0 h.1) ∙ sym h.2

  pub flattening_same : (name : List ℕ) (a b : Gathered N) → FlattenedBy reading holds folder name (Ok a) → FlattenedBy reading holds folder name (Ok b) → a ≡ b
  flattening_same name a b h g = visits_same [] nothing_read name (Ok a) h b g
