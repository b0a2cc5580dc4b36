-- Where parts at one place may be passed over, whichever that is, the branches that go through all parts are those of each place.
use Rattle.std.proofs.Common.{◌≡◌, inl, inr, refl, sym, ◌∙◌, ap, subst, ℕ, zero, suc, List, [], ◌∷◌, ◌++◌, length}
use Rattle.std.specs.Prelude.{Bool, true, false, ◌==◌, ◌&&◌, Option, None, Some, Result, Ok, Err, slice_get, slice_set, if◌then◌else◌}
use Rattle.std.proofs.lemmas.Bool.{eq-eqb, eqb-true}
use Rattle.base_core.specs.declared.place.Place.{Place}
use Rattle.values_core.specs.Data.{Val}
use Rattle.values_core.specs.Sets.{items_of}
use Rattle.values_core.specs.declared.fault.EvalKind.TheVariants.{Nested}
use Rattle.states_core.specs.declared.fault.Fault.{Fault}
use Rattle.names_terms.specs.Terms.{Term, place_of}
use Rattle.values_sets.specs.DescribedSets.{Described}
use Rattle.eval_meanings.specs.Contexts.{Context, Places}
use Rattle.eval_meanings.specs.Outcomes.{fault}
use Rattle.eval_meanings.specs.Unchanged.{changed_of}
use Rattle.actions_meanings.specs.Forms.{Setting, Form, form, test, assign, choose, both, either, narrowed, some, branch, arms, inside, call, changing}
use Rattle.actions_meanings.specs.Holds.{Opened, all_of, one_of}
use Rattle.steps_found_states.specs.Grounds.{OpensFrom}
use Rattle.steps_found_states.specs.Parts.{Parts}
use Rattle.steps_found_states.proofs.Lists.{any_of, of_any}
use Rattle.steps_why_branches.specs.declared.sparing.Passing.{Passing}
use Rattle.steps_why_branches.specs.declared.sparing.Passing.TheVariants as passing
use Rattle.steps_why_branches.specs.PassedOver.{behind_one, called, is_unchanged, may_spare, same_place}
use Rattle.steps_why_branches.specs.Traces.{End, SparedPart, Stood, Trace, added, chosen, ended, fails, faulted, here, passed, spares, stops}
use Rattle.steps_why_branches.specs.Branches.{Altered, Assigned, Branches, Branching, Chooses, Chosen, Equated, FormBranches, Goes, Members, OneBranches, Onward, OpenedBranches, Tested, Tests, Turning, Turns, is_choice, stood}
use Rattle.steps_why_branches.specs.Told.{Fits, IsNamed, IsPassed, OnePlaceIsEach, sparing_of}
use Rattle.steps_why_branches.specs.declared.sparing.Sparing.{Sparing}
use Rattle.steps_why_branches.specs.declared.why.WhyKind.{WhyKind}
use Rattle.steps_why_branches.specs.declared.why.WhyKind.TheVariants as why
use Rattle.steps_why_branches.proofs.Repairs.{spared_one}

-- the places that may be passed over

both_true : (a b : Bool) → (a && b) ≡ true → (a ≡ true) × (b ≡ true)
both_true true b e = (refl, e)
both_true false b e = absurd (cc)

one_place : (a b : Place) → same_place a b ≡ true → b ≡ a
one_place a b e =
    let r = both_true ((a.file == b.file) && (a.line == b.line)) (a.col == b.col) e in
    let s = both_true (a.file == b.file) (a.line == b.line) r.0 in
    fields a b (eqb-true a.file b.file s.0) (eqb-true a.line b.line s.1) (eqb-true a.col b.col r.1)
  where
    fields : (a b : Place) → a.file ≡ b.file → a.line ≡ b.line → a.col ≡ b.col → b ≡ a
    fields a b f l c = λ i. record { file = sym f i; line = sym l i; col = sym c i }

place_itself : (a : Place) → same_place a a ≡ true
place_itself a = together (a.file == a.file) (a.line == a.line) (a.col == a.col) (eq-eqb a.file a.file refl) (eq-eqb a.line a.line refl) (eq-eqb a.col a.col refl)
  where
    together : (x y z : Bool) → x ≡ true → y ≡ true → z ≡ true → ((x && y) && z) ≡ true
    together x y z e f g = cc

spared_place : (at : Place) (e : Term) → may_spare (passing.At at) e ≡ true → place_of e ≡ at
spared_place at e h = by_test (same_place at (place_of e)) refl h
  where
    by_test : (o : Bool) → same_place at (place_of e) ≡ o → (if o then (if is_unchanged e then false else true) else false) ≡ true → place_of e ≡ at
    by_test true i k = one_place at (place_of e) i
    by_test false i k = absurd (cc)

-- what may be passed over at any one place may be at its own, and only there
spared_there : (e : Term) → may_spare passing.OnePlace e ≡ true → may_spare (passing.At (place_of e)) e ≡ true
spared_there e h = by_test (same_place (place_of e) (place_of e)) (place_itself (place_of e))
  where
    by_test : (o : Bool) → o ≡ true → (if o then (if is_unchanged e then false else true) else false) ≡ true
    by_test true i = h
    by_test false i = cc

never_spared : (at : Passing) (e : Term) → may_spare passing.OnePlace e ≡ false → may_spare at e ≡ false
never_spared passing.Nothing e h = refl
never_spared (passing.At at) e h = by_test (same_place at (place_of e))
  where
    by_test : (o : Bool) → (if o then (if is_unchanged e then false else true) else false) ≡ false
    by_test true = h
    by_test false = refl
never_spared passing.OnePlace e h = h

-- behind parts that were passed over nothing is left open
one_settles : (o : Option Place) → behind_one o (behind_one o passing.OnePlace) ≡ behind_one o passing.OnePlace
one_settles None = refl
one_settles (Some at) = refl

named_stays : (o : Option Place) (at : Passing) → IsNamed at → behind_one o at ≡ at
named_stays o passing.Nothing n = refl
named_stays o (passing.At at) n = refl
named_stays o passing.OnePlace n = absurd n

-- with something else passed over
abbrev with_at : Passing → Sparing → Sparing
with_at at sp = record { at = at; call = sp.call }

called_with : (at : Passing) (f : Form) (sp : Sparing) → called f (with_at at sp) ≡ with_at at (called f sp)
called_with at (call k es) sp = refl
called_with at test sp = refl
called_with at (assign n e) sp = refl
called_with at (choose n e) sp = refl
called_with at (both es) sp = refl
called_with at (narrowed n es) sp = refl
called_with at (either es) sp = refl
called_with at (some bs e) sp = refl
called_with at (branch q e f) sp = refl
called_with at (arms cs other) sp = refl
called_with at (inside e) sp = refl
called_with at (changing e v) sp = refl

-- what fits several parts fits the first of them, or where there are none before them the others

fits_first : (us ws : List SparedPart) (at : Passing) → Fits (us ++ ws) at → Fits us at
fits_first [] ws at h = tt
fits_first (u ∷ us) ws at h = h

fits_all : (us ws : List SparedPart) (at : Passing) → Fits us at → (us ≡ [] → Fits ws at) → Fits (us ++ ws) at
fits_all [] ws at h k = k refl
fits_all (u ∷ us) ws at h k = h

fits_none : (us : List SparedPart) (at : Passing) → us ≡ [] → Fits us at
fits_none [] at e = tt
fits_none (u ∷ us) at e = absurd (some_is u us e)
  where
    some_is : (u : SparedPart) (us : List SparedPart) → u ∷ us ≡ [] → ⊥
    some_is u us e = cc

passed_same : (x y : Trace) → x ≡ y → IsPassed x.end → IsPassed y.end
passed_same x y e h = subst (λ (z : Trace). IsPassed z.end) e h

fits_same : (at : Passing) (x y : Trace) → x ≡ y → Fits x.spared at → Fits y.spared at
fits_same at x y e h = subst (λ (z : Trace). Fits z.spared at) e h

-- the test that v changes, and a choice of a value, pass over nothing

altered_none : (q : Places) (s : Stood) (r : Result Bool Fault) (z : Trace) → Altered q s r z → z.spared ≡ []
altered_none q s (Ok true) z h = ap (λ (y : Trace). y.spared) h
altered_none q s (Ok false) z h = ap (λ (y : Trace). y.spared) h
altered_none q s (Err f) z h = ap (λ (y : Trace). y.spared) h

members_pass : (p : Places) (s : Stood) (n : ℕ) (us : List Val) (x : Trace) → Chooses (λ v y. y ≡ here (slice_set p n (Some v))) p s us x → x.spared ≡ []
members_pass p s n [] x h = ap (λ (z : Trace). z.spared) h
members_pass p s n (u ∷ us) x h = ap (λ (z : Trace). z.spared) h.1.2.2 ∙ ap (λ (z : Trace). z.spared) h.1.2.1

members_none : (p : Places) (s : Stood) (n : ℕ) (r : Result Val Fault) (x : Trace) → Members p s n r x → x.spared ≡ []
members_none p s n (Ok u) x h = members_pass p s n (items_of u) x h
members_none p s n (Err f) x h = ap (λ (z : Trace). z.spared) h

-- where all was gone through, each part was

passed_before : (part : Turning) (d : ℕ) (es : Parts) (z x : Trace) → Onward part d es z x → IsPassed x.end → IsPassed z.end
passed_before part d [] z x h k = passed_same x z h k
passed_before part d (e ∷ es) z x h k = by_end (passed_before part d es h.0 x h.2 k) z.end refl h.1
  where
    by_end : IsPassed h.0.end → (n : End) → z.end ≡ n → Goes part d e z n h.0 → IsPassed z.end
    by_end after (passed q) i m = subst (λ (n : End). IsPassed n) (sym i) tt
    by_end after (ended q s w) i m = passed_same h.0 z m after

-- From one place, whichever it is, to what fits.

module _ (at : Passing) where
  abbrev Each : Branching → Branching → Type 0
  Each one each = (c : Context) (a : Term) (p : Places) (x : Trace) → one c a p x → Fits x.spared at → each c a p x

  -- a part that fails
  fails_each : (sp : Sparing) (p : Places) (s : Stood) (kind : WhyKind) (v : Option Val) (x : Trace) → x ≡ fails (with_at passing.OnePlace sp) p s kind v → Fits x.spared at → x ≡ fails (with_at at sp) p s kind v
  fails_each sp p s kind v x h k = by_test (may_spare passing.OnePlace s.term) refl h
    where
      over : (o : Bool) → o ≡ true → spares sp p s kind v ≡ (if o then spares sp p s kind v else stops p s (place_of s.term) kind)
      over true i = refl
      over false i = cc

      under : (o : Bool) → o ≡ false → stops p s (place_of s.term) kind ≡ (if o then spares sp p s kind v else stops p s (place_of s.term) kind)
      under true i = cc
      under false i = refl

      by_test : (o : Bool) → may_spare passing.OnePlace s.term ≡ o → x ≡ (if o then spares sp p s kind v else stops p s (place_of s.term) kind) → x ≡ (if may_spare at s.term then spares sp p s kind v else stops p s (place_of s.term) kind)
      by_test true i m =
          let there : at ≡ passing.At (place_of s.term) = fits_same at x (spares sp p s kind v) m k in
          m ∙ over (may_spare at s.term) (subst (λ (b : Passing). may_spare b s.term ≡ true) (sym there) (spared_there s.term i))
      by_test false i m = m ∙ under (may_spare at s.term) (never_spared at s.term i)

  -- behind parts that were passed over: they fit, and then it is the same; or there are none
  turn_each : (g : Setting) (d : ℕ) (sp : Sparing) → Each (Branches g (with_at passing.OnePlace sp) d) (Branches g (with_at at sp) d) → (ws : List SparedPart) → Fits ws at
      → (c : Context) (a : Term) (p : Places) (x : Trace) → Turns g (with_at passing.OnePlace sp) d ws c a p x → (ws ≡ [] → Fits x.spared at) → Turns g (with_at at sp) d ws c a p x
  turn_each g d sp each [] i c a p x h k = each c a p x h (k refl)
  turn_each g d sp each (w ∷ ws) i c a p x h k =
      let same : behind_one w.told.why.at passing.OnePlace ≡ behind_one w.told.why.at at = sym (ap (λ (b : Passing). behind_one w.told.why.at b) i ∙ one_settles w.told.why.at) in
      subst (λ (b : Passing). Branches g (with_at b sp) d c a p x) same h

  module _ (one each : Turning) (d : ℕ) (turn : (ws : List SparedPart) → Fits ws at → (c : Context) (a : Term) (p : Places) (x : Trace) → one ws c a p x → (ws ≡ [] → Fits x.spared at) → each ws c a p x) where
    rest_fits : (us ws : List SparedPart) → Fits (us ++ ws) at → us ≡ [] → Fits ws at
    rest_fits [] ws h e = h
    rest_fits (u ∷ us) ws h e = absurd (some_is u us e)
      where
        some_is : (u : SparedPart) (us : List SparedPart) → u ∷ us ≡ [] → ⊥
        some_is u us e = cc

    goes_each : (e : Context × Term) (y : Trace) (n : End) (x : Trace) → Goes one d e y n x → Fits x.spared at → Goes each d e y n x
    goes_each e y (passed q) x h k =
        let i : Fits (y.spared ++ h.0.spared) at = fits_same at x (added (stood d e) y h.0) h.2 k in
        (h.0, turn y.spared (fits_first y.spared h.0.spared at i) e.0 e.1 q h.0 h.1 (rest_fits y.spared h.0.spared i), h.2)
    goes_each e y (ended q s w) x h k = h

    -- what was passed over before fits too
    goes_before : (e : Context × Term) (y : Trace) (n : End) (x : Trace) → Goes one d e y n x → Fits x.spared at → Fits y.spared at
    goes_before e y (passed q) x h k = fits_first y.spared h.0.spared at (fits_same at x (added (stood d e) y h.0) h.2 k)
    goes_before e y (ended q s w) x h k = fits_same at x y h k

    onward_before : (es : Parts) (y x : Trace) → Onward one d es y x → Fits x.spared at → Fits y.spared at
    onward_before [] y x h k = fits_same at x y h k
    onward_before (e ∷ es) y x h k = goes_before e y y.end h.0 h.1 (onward_before es h.0 x h.2 k)

    onward_each : (es : Parts) (y x : Trace) → Onward one d es y x → Fits x.spared at → Onward each d es y x
    onward_each [] y x h k = h
    onward_each (e ∷ es) y x h k = (h.0, goes_each e y y.end h.0 h.1 (onward_before es h.0 x h.2 k), onward_each es h.0 x h.2 k)

    one_each : (b : Bool) (es : Parts) (p : Places) (s : Stood) (x : Trace) → OneBranches (one []) b es p s x → Fits x.spared at → OneBranches (each []) b es p s x
    one_each false es p s x h k = let r = of_any (λ e. one [] e.0 e.1 p x) es h in any_of (λ e. each [] e.0 e.1 p x) es r.0 r.1 (turn [] tt r.0.0 r.0.1 p x r.2 (λ i. k))
    one_each true [] p s x h k = h
    one_each true (e ∷ es) p s x h k = (h.0, (h.1.0, h.1.1, (h.1.2.0, turn [] tt h.1.0.0 h.1.0.1 p h.1.2.0 h.1.2.1 (λ i. fits_same at x (chosen h.0 h.1.2.0) h.1.2.2 k), h.1.2.2)))

    opened_each : (b : Bool) (p : Places) (s : Stood) (r : Result Opened Fault) (x : Trace) → OpenedBranches one d b p s r x → Fits x.spared at → OpenedBranches each d b p s r x
    opened_each b p s (Ok (all_of es)) x h k = onward_each es (here p) x h k
    opened_each b p s (Ok (one_of es)) x h k = one_each b es p s x h k
    opened_each b p s (Err f) x h k = h

  -- a test, and what is said of a variable

  module _ (sp : Sparing) (p : Places) (s : Stood) where
    tested_each : (r : Result Bool Fault) (x : Trace) → Tested (with_at passing.OnePlace sp) p s r x → Fits x.spared at → Tested (with_at at sp) p s r x
    tested_each (Ok true) x h k = h
    tested_each (Ok false) x h k = fails_each sp p s why.TestFalse None x h k
    tested_each (Err f) x h k = h

    equated_each : (n : ℕ) (v : Val) (o : Option (Option Val)) (x : Trace) → Equated (with_at passing.OnePlace sp) p s n v o x → Fits x.spared at → Equated (with_at at sp) p s n v o x
    equated_each n v (Some (Some w)) x (inl h) k = inl h
    equated_each n v (Some (Some w)) x (inr h) k = inr (h.0, fails_each sp p s (why.Differs (record { 0 = n })) (Some v) x h.1 k)
    equated_each n v (Some None) x h k = h
    equated_each n v None x h k = absurd h

    assigned_each : (n : ℕ) (r : Result Val Fault) (x : Trace) → Assigned (with_at passing.OnePlace sp) p s n r x → Fits x.spared at → Assigned (with_at at sp) p s n r x
    assigned_each n (Ok v) x h k = equated_each n v (slice_get p n) x h k
    assigned_each n (Err f) x h k = h

    chosen_each : (n : ℕ) (q : Place) (r : Result Described Fault) (o : Option (Option Val)) (x : Trace) → Chosen (with_at passing.OnePlace sp) p s n q r o x → Fits x.spared at → Chosen (with_at at sp) p s n q r o x
    chosen_each n q (Err f) o x h k = h
    chosen_each n q (Ok S) (Some (Some w)) x (inl h) k = inl h
    chosen_each n q (Ok S) (Some (Some w)) x (inr h) k = inr (h.0, fails_each sp p s (why.NotIn (record { 0 = n })) None x h.1 k)
    chosen_each n q (Ok S) (Some None) x h k = h
    chosen_each n q (Ok S) None x h k = absurd h

  abbrev EachOf : Setting → ℕ → Type 0
  EachOf g d = (sp : Sparing) → Each (Branches g (with_at passing.OnePlace sp) d) (Branches g (with_at at sp) d)

  module _ (g : Setting) (d : ℕ) (each : EachOf g d) (sp : Sparing) (c : Context) (a : Term) (p : Places) where
    abbrev Of : Sparing → Form → Trace → Type 0
    Of inner f = FormBranches g inner d (λ more. Branches g more d) c a f p

    abbrev By : Sparing → Form → Trace → Type 0
    By inner f y = (r : Result Opened Fault) × OpensFrom g d c p (place_of a) f r × OpenedBranches (Turns g inner d) d (is_choice f) p (stood (suc d) (c, a)) r y

    opens_each : (f : Form) (x : Trace) → By (called f (with_at passing.OnePlace sp)) f x → Fits x.spared at → By (called f (with_at at sp)) f x
    opens_each f x h k = (
      h.0,
      h.1,
      subst (λ (inner : Sparing). OpenedBranches (Turns g inner d) d (is_choice f) p (stood (suc d) (c, a)) h.0 x) (sym (called_with at f sp))
          (opened_each (Turns g (with_at passing.OnePlace (called f sp)) d) (Turns g (with_at at (called f sp)) d) d (turn_each g d (called f sp) (each (called f sp))) (is_choice f) p (stood (suc d) (c, a)) h.0 x
          (subst (λ (inner : Sparing). OpenedBranches (Turns g inner d) d (is_choice f) p (stood (suc d) (c, a)) h.0 x) (called_with passing.OnePlace f sp) h.2) k),
    )

    -- what was passed over before the test that v changes fits too
    before_test : (e : Context × Term) (y : Trace) (n : End) (x : Trace) → Goes (Tests g d) d e y n x → Fits x.spared at → Fits y.spared at
    before_test e y (passed q) x h k = fits_first y.spared h.0.spared at (fits_same at x (added (stood d e) y h.0) h.2 k)
    before_test e y (ended q s w) x h k = fits_same at x y h k

    changing_each : (e v : Term) (x : Trace) → Of (with_at passing.OnePlace sp) (changing e v) x → Fits x.spared at → Of (with_at at sp) (changing e v) x
    changing_each e v x h k = (
      h.0,
      goes_each (Turns g (with_at passing.OnePlace sp) d) (Turns g (with_at at sp) d) d (turn_each g d sp (each sp)) (c, e) (here p) (passed p) h.0 h.1 (before_test (c, changed_of (place_of a) v) h.0 h.0.end x h.2 k),
      h.2,
    )

    form_each : (f : Form) (x : Trace) → Of (with_at passing.OnePlace sp) f x → Fits x.spared at → Of (with_at at sp) f x
    form_each test x h k = (h.0, h.1, tested_each sp p (stood (suc d) (c, a)) h.0 x h.2 k)
    form_each (assign n e) x h k = (h.0, h.1, assigned_each sp p (stood (suc d) (c, a)) n h.0 x h.2 k)
    form_each (choose n e) x h k = (h.0, h.1, chosen_each sp p (stood (suc d) (c, a)) n (place_of e) h.0 (slice_get p n) x h.2 k)
    form_each (changing e v) x h k = changing_each e v x h k
    form_each (both es) x h k = opens_each (both es) x h k
    form_each (narrowed n es) x h k = opens_each (narrowed n es) x h k
    form_each (either es) x h k = opens_each (either es) x h k
    form_each (some bs e) x h k = opens_each (some bs e) x h k
    form_each (branch q e f) x h k = opens_each (branch q e f) x h k
    form_each (arms cs other) x h k = opens_each (arms cs other) x h k
    form_each (inside e) x h k = opens_each (inside e) x h k
    form_each (call j es) x h k = opens_each (call j es) x h k

  all_each : (g : Setting) (d : ℕ) → EachOf g d
  all_each g zero sp c a p x h k = h
  all_each g (suc d) sp c a p x h k = form_each g d (λ inner c a p x m n. all_each g d inner c a p x m n) sp c a p (form g (length c.slots) a) x h k

-- From a place that is told, or none, to any one place, where all is gone through.

spared_so : (at : Passing) → IsNamed at → (e : Term) → may_spare at e ≡ true → (may_spare passing.OnePlace e ≡ true) × (at ≡ passing.At (place_of e))
spared_so passing.Nothing n e h = absurd (false_true h)
  where
    false_true : false ≡ true → ⊥
    false_true e = cc
spared_so (passing.At q) n e h = (spared_one q e h, ap (λ (a : Place). passing.At a) (sym (spared_place q e h)))
spared_so passing.OnePlace n e h = absurd n

module _ (at : Passing) (named : IsNamed at) where
  abbrev Back : Branching → Branching → Type 0
  Back each one = (c : Context) (a : Term) (p : Places) (x : Trace) → each c a p x → IsPassed x.end → one c a p x × Fits x.spared at

  -- where nothing was passed over
  fits_here : (x y : Trace) → x ≡ y → y.spared ≡ [] → Fits x.spared at
  fits_here x y e i = fits_none x.spared at (ap (λ (z : Trace). z.spared) e ∙ i)

  -- a part that fails
  fails_back : (sp : Sparing) (p : Places) (s : Stood) (kind : WhyKind) (v : Option Val) (x : Trace) → x ≡ fails (with_at at sp) p s kind v → IsPassed x.end → (x ≡ fails (with_at passing.OnePlace sp) p s kind v) × Fits x.spared at
  fails_back sp p s kind v x h k = by_test (may_spare at s.term) refl h
    where
      over : (o : Bool) → o ≡ true → spares sp p s kind v ≡ (if o then spares sp p s kind v else stops p s (place_of s.term) kind)
      over true i = refl
      over false i = cc

      by_test : (o : Bool) → may_spare at s.term ≡ o → x ≡ (if o then spares sp p s kind v else stops p s (place_of s.term) kind)
          → (x ≡ (if may_spare passing.OnePlace s.term then spares sp p s kind v else stops p s (place_of s.term) kind)) × Fits x.spared at
      by_test true i m = let r = spared_so at named s.term i in (m ∙ over (may_spare passing.OnePlace s.term) r.0, fits_same at (spares sp p s kind v) x (sym m) r.1)
      by_test false i m = absurd (passed_same x (stops p s (place_of s.term) kind) m k)

  -- behind parts that were passed over
  turn_back : (g : Setting) (d : ℕ) (sp : Sparing) → Back (Branches g (with_at at sp) d) (Branches g (with_at passing.OnePlace sp) d) → (ws : List SparedPart) → Fits ws at
      → (c : Context) (a : Term) (p : Places) (x : Trace) → Turns g (with_at at sp) d ws c a p x → IsPassed x.end → Turns g (with_at passing.OnePlace sp) d ws c a p x × (ws ≡ [] → Fits x.spared at)
  turn_back g d sp back [] i c a p x h k = let r = back c a p x h k in (r.0, λ e. r.1)
  turn_back g d sp back (w ∷ ws) i c a p x h k = (subst (λ (b : Passing). Branches g (with_at b sp) d c a p x) (named_stays w.told.why.at at named ∙ i) h, λ e. absurd (some_is w ws e))
    where
      some_is : (u : SparedPart) (us : List SparedPart) → u ∷ us ≡ [] → ⊥
      some_is u us e = cc

  module _ (each one : Turning) (d : ℕ) (turn : (ws : List SparedPart) → Fits ws at → (c : Context) (a : Term) (p : Places) (x : Trace) → each ws c a p x → IsPassed x.end → one ws c a p x × (ws ≡ [] → Fits x.spared at)) where
    goes_back : (e : Context × Term) (y : Trace) (n : End) (x : Trace) → Goes each d e y n x → Fits y.spared at → IsPassed x.end → Goes one d e y n x × Fits x.spared at
    goes_back e y (passed q) x h i k =
        let r = turn y.spared i e.0 e.1 q h.0 h.1 (passed_same x (added (stood d e) y h.0) h.2 k) in
        ((h.0, r.0, h.2), fits_same at (added (stood d e) y h.0) x (sym h.2) (fits_all y.spared h.0.spared at i r.1))
    goes_back e y (ended q s w) x h i k = (h, fits_same at y x (sym h) i)

    onward_back : (es : Parts) (y x : Trace) → Onward each d es y x → Fits y.spared at → IsPassed x.end → Onward one d es y x × Fits x.spared at
    onward_back [] y x h i k = (h, fits_same at y x (sym h) i)
    onward_back (e ∷ es) y x h i k =
        let r = goes_back e y y.end h.0 h.1 i (passed_before each d es h.0 x h.2 k) in
        let s = onward_back es h.0 x h.2 r.1 k in
        ((h.0, r.0, s.0), s.1)

    one_back : (b : Bool) (es : Parts) (p : Places) (s : Stood) (x : Trace) → OneBranches (each []) b es p s x → IsPassed x.end → OneBranches (one []) b es p s x × Fits x.spared at
    one_back false es p s x h k =
        let r = of_any (λ e. each [] e.0 e.1 p x) es h in
        let q = turn [] tt r.0.0 r.0.1 p x r.2 k in
        (any_of (λ e. one [] e.0 e.1 p x) es r.0 r.1 q.0, q.1 refl)
    one_back true [] p s x h k = absurd (passed_same x (stops p s (place_of s.term) why.NoMember) h k)
    one_back true (e ∷ es) p s x h k =
        let q = turn [] tt h.1.0.0 h.1.0.1 p h.1.2.0 h.1.2.1 (passed_same x (chosen h.0 h.1.2.0) h.1.2.2 k) in
        ((h.0, (h.1.0, h.1.1, (h.1.2.0, q.0, h.1.2.2))), fits_same at (chosen h.0 h.1.2.0) x (sym h.1.2.2) (q.1 refl))

    opened_back : (b : Bool) (p : Places) (s : Stood) (r : Result Opened Fault) (x : Trace) → OpenedBranches each d b p s r x → IsPassed x.end → OpenedBranches one d b p s r x × Fits x.spared at
    opened_back b p s (Ok (all_of es)) x h k = onward_back es (here p) x h tt k
    opened_back b p s (Ok (one_of es)) x h k = one_back b es p s x h k
    opened_back b p s (Err f) x h k = absurd (passed_same x (faulted p s f) h k)

  -- a test, and what is said of a variable

  module _ (sp : Sparing) (p : Places) (s : Stood) where
    tested_back : (r : Result Bool Fault) (x : Trace) → Tested (with_at at sp) p s r x → IsPassed x.end → Tested (with_at passing.OnePlace sp) p s r x × Fits x.spared at
    tested_back (Ok true) x h k = (h, fits_here x (here p) h refl)
    tested_back (Ok false) x h k = fails_back sp p s why.TestFalse None x h k
    tested_back (Err f) x h k = absurd (passed_same x (faulted p s f) h k)

    equated_back : (n : ℕ) (v : Val) (o : Option (Option Val)) (x : Trace) → Equated (with_at at sp) p s n v o x → IsPassed x.end → Equated (with_at passing.OnePlace sp) p s n v o x × Fits x.spared at
    equated_back n v (Some (Some w)) x (inl h) k = (inl h, fits_here x (here p) h.1 refl)
    equated_back n v (Some (Some w)) x (inr h) k = let r = fails_back sp p s (why.Differs (record { 0 = n })) (Some v) x h.1 k in (inr (h.0, r.0), r.1)
    equated_back n v (Some None) x h k = (h, fits_here x (here (slice_set p n (Some v))) h refl)
    equated_back n v None x h k = absurd h

    assigned_back : (n : ℕ) (r : Result Val Fault) (x : Trace) → Assigned (with_at at sp) p s n r x → IsPassed x.end → Assigned (with_at passing.OnePlace sp) p s n r x × Fits x.spared at
    assigned_back n (Ok v) x h k = equated_back n v (slice_get p n) x h k
    assigned_back n (Err f) x h k = absurd (passed_same x (faulted p s f) h k)

    chosen_back : (n : ℕ) (q : Place) (r : Result Described Fault) (o : Option (Option Val)) (x : Trace) → Chosen (with_at at sp) p s n q r o x → IsPassed x.end → Chosen (with_at passing.OnePlace sp) p s n q r o x × Fits x.spared at
    chosen_back n q (Err f) o x h k = absurd (passed_same x (faulted p s f) h k)
    chosen_back n q (Ok S) (Some (Some w)) x (inl h) k = (inl h, fits_here x (here p) h.1 refl)
    chosen_back n q (Ok S) (Some (Some w)) x (inr h) k = let r = fails_back sp p s (why.NotIn (record { 0 = n })) None x h.1 k in (inr (h.0, r.0), r.1)
    chosen_back n q (Ok S) (Some None) x h k = (h, fits_none x.spared at (members_none p s n h.0 x h.2))
    chosen_back n q (Ok S) None x h k = absurd h

  abbrev BackOf : Setting → ℕ → Type 0
  BackOf g d = (sp : Sparing) → Back (Branches g (with_at at sp) d) (Branches g (with_at passing.OnePlace sp) d)

  module _ (g : Setting) (d : ℕ) (back : BackOf g d) (sp : Sparing) (c : Context) (a : Term) (p : Places) where
    abbrev OfBack : Sparing → Form → Trace → Type 0
    OfBack inner f = FormBranches g inner d (λ more. Branches g more d) c a f p

    abbrev ByBack : Sparing → Form → Trace → Type 0
    ByBack inner f y = (r : Result Opened Fault) × OpensFrom g d c p (place_of a) f r × OpenedBranches (Turns g inner d) d (is_choice f) p (stood (suc d) (c, a)) r y

    opens_back : (f : Form) (x : Trace) → ByBack (called f (with_at at sp)) f x → IsPassed x.end → ByBack (called f (with_at passing.OnePlace sp)) f x × Fits x.spared at
    opens_back f x h k =
        let r = opened_back (Turns g (with_at at (called f sp)) d) (Turns g (with_at passing.OnePlace (called f sp)) d) d (turn_back g d (called f sp) (back (called f sp))) (is_choice f) p (stood (suc d) (c, a)) h.0 x
        (subst (λ (inner : Sparing). OpenedBranches (Turns g inner d) d (is_choice f) p (stood (suc d) (c, a)) h.0 x) (called_with at f sp) h.2) k in
        ((h.0, h.1, subst (λ (inner : Sparing). OpenedBranches (Turns g inner d) d (is_choice f) p (stood (suc d) (c, a)) h.0 x) (sym (called_with passing.OnePlace f sp)) r.0), r.1)

    -- behind the test that v changes, which passes over nothing

    test_passed : (e : Context × Term) (y : Trace) (n : End) (x : Trace) → y.end ≡ n → Goes (Tests g d) d e y n x → IsPassed x.end → IsPassed y.end
    test_passed e y (passed q) x i h k = subst (λ (n : End). IsPassed n) (sym i) tt
    test_passed e y (ended q s w) x i h k = passed_same x y h k

    test_fits : (e : Context × Term) (y : Trace) (n : End) (x : Trace) → Goes (Tests g d) d e y n x → Fits y.spared at → Fits x.spared at
    test_fits e y (passed q) x h i = fits_same at (added (stood d e) y h.0) x (sym h.2) (fits_all y.spared h.0.spared at i (λ j. fits_none h.0.spared at (altered_none q (stood d e) h.1.0 h.0 h.1.2)))
    test_fits e y (ended q s w) x h i = fits_same at y x (sym h) i

    changing_back : (e v : Term) (x : Trace) → OfBack (with_at at sp) (changing e v) x → IsPassed x.end → OfBack (with_at passing.OnePlace sp) (changing e v) x × Fits x.spared at
    changing_back e v x h k =
        let r = goes_back (Turns g (with_at at sp) d) (Turns g (with_at passing.OnePlace sp) d) d (turn_back g d sp (back sp)) (c, e) (here p) (passed p) h.0 h.1 tt (test_passed (c, changed_of (place_of a) v) h.0 h.0.end x refl h.2 k) in
        ((h.0, r.0, h.2), test_fits (c, changed_of (place_of a) v) h.0 h.0.end x h.2 r.1)

    form_back : (f : Form) (x : Trace) → OfBack (with_at at sp) f x → IsPassed x.end → OfBack (with_at passing.OnePlace sp) f x × Fits x.spared at
    form_back test x h k = let r = tested_back sp p (stood (suc d) (c, a)) h.0 x h.2 k in ((h.0, h.1, r.0), r.1)
    form_back (assign n e) x h k = let r = assigned_back sp p (stood (suc d) (c, a)) n h.0 x h.2 k in ((h.0, h.1, r.0), r.1)
    form_back (choose n e) x h k = let r = chosen_back sp p (stood (suc d) (c, a)) n (place_of e) h.0 (slice_get p n) x h.2 k in ((h.0, h.1, r.0), r.1)
    form_back (changing e v) x h k = changing_back e v x h k
    form_back (both es) x h k = opens_back (both es) x h k
    form_back (narrowed n es) x h k = opens_back (narrowed n es) x h k
    form_back (either es) x h k = opens_back (either es) x h k
    form_back (some bs e) x h k = opens_back (some bs e) x h k
    form_back (branch q e f) x h k = opens_back (branch q e f) x h k
    form_back (arms cs other) x h k = opens_back (arms cs other) x h k
    form_back (inside e) x h k = opens_back (inside e) x h k
    form_back (call j es) x h k = opens_back (call j es) x h k

  all_back : (g : Setting) (d : ℕ) → BackOf g d
  all_back g zero sp c a p x h k = absurd (passed_same x (faulted p (stood zero (c, a)) (fault Nested (place_of a))) h k)
  all_back g (suc d) sp c a p x h k = form_back g d (λ inner c a p x m n. all_back g d inner c a p x m n) sp c a p (form g (length c.slots) a) x h k

pub one_place_is_each : OnePlaceIsEach
one_place_is_each g at named d es p x k = (
  λ h. onward_back at named (Turns g (sparing_of at) d) (Turns g (sparing_of passing.OnePlace) d) d
      (turn_back at named g d (sparing_of passing.OnePlace) (all_back at named g d (sparing_of passing.OnePlace))) es (here p) x h tt k,
  λ h. onward_each at (Turns g (sparing_of passing.OnePlace) d) (Turns g (sparing_of at) d) d
      (turn_each at g d (sparing_of passing.OnePlace) (all_each at g d (sparing_of passing.OnePlace))) es (here p) x h.0 h.1,
)
