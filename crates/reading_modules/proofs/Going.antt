-- While modules are read: what is kept of a program so far, and how far it is from its end.
use Rattle.std.proofs.Common.{◌≡◌, ◌⊎◌, inl, inr, refl, sym, ap, ◌∙◌, subst, cond, arith, ℕ, ◌+◌, ◌-◌, ◌*◌, ◌<◌, ◌≤◌, zero, suc, Bool, true, false, List, [], ◌∷◌, ◌++◌, length, length-append}
use Rattle.std.specs.Prelude.{Option, None, Vec, Result, Ok, Err, IfErr, OnOk}
use Rattle.std.specs.declared.alloc.Global.{Global}
use Rattle.base_core.specs.Device.{File}
use Rattle.base_core.specs.Failures.{Failures}
use Rattle.reading_trees.specs.declared.module.Made.{Made}
use Rattle.reading_trees.specs.declared.module.Module.{Module}
use Rattle.reading_trees.specs.declared.module.Unit.{Unit as ModuleUnit}
use Rattle.reading_modules.specs.declared.fault.LoadWhy.{LoadWhy}
use Rattle.reading_modules.specs.declared.fault.Stop.{Stop}
use Rattle.reading_modules.specs.declared.fault.Stop.TheVariants as stops
use Rattle.reading_modules.specs.declared.so_far.Gathered.{Gathered}
use Rattle.reading_modules.specs.Flattened.{HasRoom, IsAllowed, Makes, MakesAll, Meets, OutcomeOf, begun_of_instance, has_program, most_modules, passed_over, stopped_inside, with_instance, with_module, with_name, with_standard}
use Rattle.reading_modules.specs.Instances.{first_made}
use Rattle.reading_modules.specs.Parts.{IsGoing, IsNested, Stays}
use Rattle.reading_modules.specs.Readings.{Reading}
use Rattle.reading_modules.specs.Refusals.{AreTexts, IsCaused, StopsBy, told_by}
use Rattle.reading_modules.specs.Standard.{is_among}
use Rattle.reading_modules.proofs.Walks.{stops_map, with_lists}

pub stays_so : {N : Type 0} (so : Gathered N) → Stays so so
stays_so so = record { kind = refl; more = omega arith }

pub no_stop : {A : Type 0} (P : LoadWhy → Type 0) (r : Result A Stop) → IfErr r (λ e. e ≡ stops.NoMemory) → IfErr r (StopsBy P)
no_stop P (Ok x) e = tt
no_stop P (Err s) e = subst (λ (x : Stop). StopsBy P x) (sym e) tt

-- a standard module more
pub listed_going : {A N : Type 0} (h : Option (List File)) (folder : List ℕ) (so after : Gathered N) (name : List ℕ) (ts : List (Vec ℕ Global)) (r : Result A Stop)
    → OnOk r (after ≡ with_standard so name) → IsGoing h folder so ts → OnOk r (IsGoing h folder after ts)
listed_going h folder so after name ts (Err s) e g = tt
listed_going h folder so after name ts (Ok x) e g = subst (λ (a : Gathered _). IsGoing h folder a ts) (sym e) (record { few = g.few; kept = g.kept })

pub listed_stays : {A N : Type 0} (so after : Gathered N) (name : List ℕ) (r : Result A Stop) → OnOk r (after ≡ with_standard so name) → OnOk r (Stays so after)
listed_stays so after name (Err s) e = tt
listed_stays so after name (Ok x) e = subst (λ (a : Gathered _). Stays so a) (sym e) (record { kind = refl; more = omega arith })

-- ---- how far it is from its end

pub fewer_left : {N : Type 0} (so next : Gathered N) (a b : ℕ) → Stays so next → a < b
    → cond next.of_instance 0 1000 + 8 * (32 - length next.own) + a < cond so.of_instance 0 1000 + 8 * (32 - length so.own) + b
fewer_left so next a b stays less =
    let same : ◌≡◌ {A = ℕ} (cond next.of_instance 0 1000) (cond so.of_instance 0 1000) = ap (λ (x : Bool). cond {A = ℕ} x 0 1000) stays.kind in
    omega (arith, same, stays.more, less)

-- the program of an instance is nearer to its end than the program that has it
pub inner_left : {N : Type 0} (so inner : Gathered N) (modules : List (List ℕ)) → inner ≡ begun_of_instance modules → so.of_instance ≡ false
    → cond inner.of_instance 0 1000 + 8 * (32 - length inner.own) + 1 < cond so.of_instance 0 1000 + 8 * (32 - length so.own) + 3
inner_left so inner modules e outside =
    let mine : ◌≡◌ {A = ℕ} (cond so.of_instance 0 1000) 1000 = ap (λ (x : Bool). cond {A = ℕ} x 0 1000) outside in
    let begun : ◌≡◌ {A = ℕ} (cond inner.of_instance 0 1000) 0 = ap (λ (x : Gathered _). cond {A = ℕ} x.of_instance 0 1000) e in
    let none : ◌≡◌ {A = ℕ} (length inner.own) 0 = ap (λ (x : Gathered _). length x.own) e in
    omega (arith, mine, begun, none)

-- a module more
pub module_left : (b : Bool) (own after : List (List ℕ)) (name : List ℕ) → after ≡ own ++ name ∷ [] → length own < most_modules
    → cond b 0 1000 + 8 * (32 - length after) + 5 < cond b 0 1000 + 8 * (32 - length own)
module_left b own after name e few =
    let longer : length after ≡ length own + 1 = ap (λ (x : List (List ℕ)). length x) e ∙ length-append own (name ∷ []) in
    omega (arith, longer, few)

-- ---- a module is visited

room_case : (b : Bool) (ms : List (List ℕ)) (name : List ℕ) → length ms ≤ most_modules → (b ≡ true) ⊎ (length ms < most_modules)
    → length (cond b ms (ms ++ name ∷ [])) ≤ most_modules
room_case true ms name few room = few
room_case false ms name few (inl e) = absurd (cc)
room_case false ms name few (inr l) = omega (arith, l, length-append ms (name ∷ []))

pub visited_going : {N : Type 0} (h k : Option (List File)) (folder : List ℕ) (so : Gathered N) (ms own : List (List ℕ)) (name : List ℕ) (ts : List (Vec ℕ Global)) → k ≡ h
    → HasRoom so name → length so.modules ≤ most_modules → ms ≡ with_name so.modules name → AreTexts h folder ms ts → IsGoing k folder (with_lists so ms own) ts
visited_going h k folder so ms own name ts same room few e kept = record {
  few = subst (λ (xs : List (List ℕ)). length xs ≤ most_modules) (sym e) (room_case (is_among name so.modules) so.modules name few room.1);
  kept = subst (λ (x : Option (List File)). AreTexts x folder ms ts) (sym same) kept;
}

pub visited_stays : {N : Type 0} (so after : Gathered N) (ms own : List (List ℕ)) (name : List ℕ) → own ≡ so.own ++ name ∷ [] → Stays (with_lists so ms own) after → Stays so after
visited_stays so after ms own name e stays =
    let longer : length own ≡ length so.own + 1 = ap (λ (x : List (List ℕ)). length x) e ∙ length-append so.own (name ∷ []) in
    record { kind = stays.kind; more = omega (arith, longer, stays.more) }

-- ---- an instance is made

pub inner_going : {N : Type 0} (h : Option (List File)) (folder : List ℕ) (so inner : Gathered N) (modules : List (List ℕ)) (ts : List (Vec ℕ Global)) → inner ≡ begun_of_instance modules
    → modules ≡ so.modules → IsGoing h folder so ts → IsGoing h folder inner ts
inner_going h folder so inner modules ts e same g =
    subst (λ (x : Gathered _). IsGoing h folder x ts) (sym (e ∙ ap (λ (ms : List (List ℕ)). begun_of_instance ms) same)) (record { few = g.few; kept = g.kept })

pub made_whole : {A N : Type 0} (reading : Reading N) (h : Option (List File)) (folder : List ℕ) (path : List (List ℕ)) (so begun inner after : Gathered N) (modules : List (List ℕ)) (made : Made)
    (r : Result A Stop) → so.of_instance ≡ false → begun ≡ begun_of_instance modules → modules ≡ so.modules → Meets reading h folder path begun made.module_name (Ok inner)
    → OnOk r (after ≡ with_instance folder so made inner) → OnOk r (Makes reading h folder path so made (Ok after))
made_whole reading h folder path so begun inner after modules made (Err s) outside e same meets added = tt
made_whole reading h folder path so begun inner after modules made (Ok x) outside e same meets added =
    subst (λ (a : Gathered _). Makes reading h folder path so made (Ok a)) (sym added)
    (has_program path so inner made outside
    (subst (λ (b : Gathered _). Meets reading h folder path b made.module_name (Ok inner)) (e ∙ ap (λ (ms : List (List ℕ)). begun_of_instance ms) same) meets))

pub made_stopped : {N : Type 0} (reading : Reading N) (h : Option (List File)) (folder : List ℕ) (path : List (List ℕ)) (so begun : Gathered N) (modules ms : List (List ℕ)) (made : Made)
    (s : Stop) → so.of_instance ≡ false → begun ≡ begun_of_instance modules → modules ≡ so.modules → StopsBy (λ why. Meets reading h folder path begun made.module_name (Err (ms, why))) s
    → StopsBy (λ why. Makes reading h folder path so made (Err (ms, why))) s
made_stopped reading h folder path so begun modules ms made s outside e same meets =
    stops_map (λ why. Meets reading h folder path begun made.module_name (Err (ms, why))) (λ why. Makes reading h folder path so made (Err (ms, why))) s
    (λ why m. stopped_inside path so made (ms, why) outside
    (subst (λ (b : Gathered _). Meets reading h folder path b made.module_name (Err (ms, why))) (e ∙ ap (λ (x : List (List ℕ)). begun_of_instance x) same) m)) meets

pub made_going : {A N : Type 0} (h : Option (List File)) (folder : List ℕ) (so inner after : Gathered N) (made : Made) (ts : List (Vec ℕ Global)) (r : Result A Stop)
    → OnOk r (after ≡ with_instance folder so made inner) → IsGoing h folder inner ts → OnOk r (IsGoing h folder after ts)
made_going h folder so inner after made ts (Err s) e g = tt
made_going h folder so inner after made ts (Ok x) e g = subst (λ (a : Gathered _). IsGoing h folder a ts) (sym e) (record { few = g.few; kept = g.kept })

pub made_stays : {A N : Type 0} (folder : List ℕ) (so inner after : Gathered N) (made : Made) (r : Result A Stop) → OnOk r (after ≡ with_instance folder so made inner) → OnOk r (Stays so after)
made_stays folder so inner after made (Err s) e = tt
made_stays folder so inner after made (Ok x) e = subst (λ (a : Gathered _). Stays so a) (sym e) (record { kind = refl; more = omega arith })

-- ---- what is known of a value is known of another that is the same

pub going_as : {N : Type 0} (h k : Option (List File)) (folder : List ℕ) (so after : Gathered N) (ts us : List (Vec ℕ Global)) → k ≡ h → after ≡ so → us ≡ ts → IsGoing h folder so ts
    → IsGoing k folder after us
going_as h k folder so after ts us e f i g =
    subst (λ (x : Option (List File)). IsGoing x folder after us) (sym e)
    (subst (λ (x : Gathered _). IsGoing h folder x us) (sym f) (subst (λ (x : List (Vec ℕ Global)). IsGoing h folder so x) (sym i) g))

pub stays_as : {N : Type 0} (so next after : Gathered N) → after ≡ next → Stays so next → Stays so after
stays_as so next after e s = subst (λ (x : Gathered _). Stays so x) (sym e) s

pub makes_as : {N : Type 0} (reading : Reading N) (h : Option (List File)) (folder : List ℕ) (path : List (List ℕ)) (next after : Gathered N) (us : List ModuleUnit) (o : OutcomeOf N)
    → after ≡ next → MakesAll reading h folder path after us o → MakesAll reading h folder path next us o
makes_as reading h folder path next after us o e m = subst (λ (x : Gathered _). MakesAll reading h folder path x us o) e m

pub nested_caused : {N : Type 0} (reading : Reading N) (h : Option (List File)) (before now : ℕ) (so : Gathered N) (m : Module) (s : Stop) → StopsBy (IsNested reading so m) s → StopsBy (IsCaused h before now) s
nested_caused reading h before now so m s nested =
    stops_map (IsNested reading so m) (IsCaused h before now) s (λ why n. subst (λ (w : LoadWhy). IsCaused h before now w) (sym n.refused) tt) nested

-- ---- which calls on files failed

-- none more where a module is refused for an instance that it has
pub nested_told : {N : Type 0} (reading : Reading N) (before now : Failures) (so : Gathered N) (m : Module) (s : Stop) → now ≡ before → StopsBy (IsNested reading so m) s
    → StopsBy (λ why. now ≡ told_by why before) s
nested_told reading before now so m s quiet nested =
    stops_map (IsNested reading so m) (λ why. now ≡ told_by why before) s (λ why n. subst (λ (w : LoadWhy). now ≡ told_by w before) (sym n.refused) quiet) nested

-- where none failed before, those of what follows
pub told_from : (first before now : Failures) (s : Stop) → before ≡ first → StopsBy (λ why. now ≡ told_by why before) s → StopsBy (λ why. now ≡ told_by why first) s
told_from first before now s quiet told = subst (λ (f : Failures). StopsBy (λ why. now ≡ told_by why f) s) quiet told

pub all_told_from : {A : Type 0} (first before now : Failures) (r : Result A Stop) → before ≡ first → IfErr r (StopsBy (λ why. now ≡ told_by why before))
    → IfErr r (StopsBy (λ why. now ≡ told_by why first))
all_told_from first before now (Ok x) quiet told = tt
all_told_from first before now (Err s) quiet told = told_from first before now s quiet told

pub quiet_from : {A : Type 0} (first before now : Failures) (r : Result A Stop) → before ≡ first → OnOk r (now ≡ before) → OnOk r (now ≡ first)
quiet_from first before now (Err s) quiet told = tt
quiet_from first before now (Ok x) quiet told = told ∙ quiet

pub stays_quiet : {A : Type 0} (first now : Failures) (r : Result A Stop) → now ≡ first → OnOk r (now ≡ first)
stays_quiet first now (Err s) quiet = tt
stays_quiet first now (Ok x) quiet = quiet

pub passed_made : {N : Type 0} (reading : Reading N) (h : Option (List File)) (folder : List ℕ) (path : List (List ℕ)) (so : Gathered N) (made : Made) → so.of_instance ≡ true
    → Makes reading h folder path so made (Ok so)
passed_made reading h folder path so made inside = passed_over path so made inside
