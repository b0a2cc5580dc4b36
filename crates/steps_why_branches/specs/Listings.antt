-- What is proved of listing the branches of an action: for each form, what its parts or what is evaluated for it make of the list.
use Rattle.std.specs.Prelude.{◌≡◌, ◌<◌, ◌≤◌, ◌++◌, ◌-◌, ℕ, suc, zero, Bool, false, true, List, [], ◌∷◌, length, map, Contains, Some, None, Result, Ok, Err, slice_get, slice_set}
use Rattle.values_core.specs.Data.{Val}
use Rattle.values_core.specs.Sets.{items_of}
use Rattle.values_core.specs.declared.fault.EvalKind.TheVariants.{Nested}
use Rattle.states_core.specs.declared.fault.Fault.{Fault}
use Rattle.names_terms.specs.Terms.{Term, place_of}
use Rattle.values_sets.specs.DescribedSets.{Described}
use Rattle.values_sets.specs.Membership.{Belongs}
use Rattle.eval_meanings.specs.Contexts.{Context, Places}
use Rattle.eval_meanings.specs.Evaluates.{Evaluates, Describes}
use Rattle.eval_meanings.specs.Laws.{ReadsValues}
use Rattle.eval_meanings.specs.Outcomes.{fault}
use Rattle.eval_meanings.specs.Sets.{MeansSet, list_at}
use Rattle.eval_meanings.specs.Unchanged.{TruthOf, changed_of}
use Rattle.actions_meanings.specs.Forms.{Setting, form, test, assign, choose, changing}
use Rattle.actions_meanings.specs.Holds.{all_of, one_of}
use Rattle.actions_meanings.specs.Filled.{at_next}
use Rattle.steps_found_states.specs.Grounds.{OpensFrom}
use Rattle.steps_found_states.specs.Laws.{form_of}
use Rattle.steps_found_states.specs.Parts.{Parts}
use Rattle.steps_why_branches.specs.PassedOver.{called}
use Rattle.steps_why_branches.specs.Traces.{Earlier, Stood, Trace, added, after_spared, chosen, ended, fails, faulted, here, passed, stops}
use Rattle.steps_why_branches.specs.declared.sparing.Sparing.{Sparing}
use Rattle.steps_why_branches.specs.Branches.{Altered, is_choice, stood, Onward, Turns}
use Rattle.steps_why_branches.specs.Firsts.{Firsts}
use Rattle.steps_why_branches.specs.Founds.{After, AfterTest, ArmsFound, EachFound, FoundOf, MembersFound, TestsFound, TurnsFound}
use Rattle.steps_why_branches.specs.Told.{KnowsAll}
use Rattle.steps_why_branches.specs.declared.why.Why.{Why}
use Rattle.steps_why_branches.specs.declared.why.WhyKind.TheVariants as why

-- of any action, with one evaluation more than its parts have, where there is room for a branch and all that may be read is a value
abbrev pub OfActions : (Setting → Sparing → ℕ → ℕ → Context → Term → Places → Type 0) → Type 0
OfActions P = (g : Setting) (sp : Sparing) (k d : ℕ) (c : Context) (a : Term) (p : Places) → 1 ≤ k → KnowsAll g p c a → ReadsValues g.table (at_next g.which c p) a → P g sp k d c a p

-- the branch is the only one
abbrev pub IsOnly : Setting → Sparing → ℕ → ℕ → Context → Term → Places → Trace → Type 0
IsOnly g sp k d c a p y = FoundOf g sp k (suc d) c a p (y ∷ [])

-- the action itself as the part that a branch ends in
abbrev pub itself : ℕ → Context → Term → Stood
itself d c a = stood (suc d) (c, a)

-- a test goes through, or ends by what it is
abbrev pub TestsAreListed : Type 0
TestsAreListed = OfActions (λ g sp k d c a p. form_of g c a ≡ test →
    (TruthOf (Evaluates g.table (suc d)) (at_next g.which c p) a (Ok true) → IsOnly g sp k d c a p (here p))
    × (TruthOf (Evaluates g.table (suc d)) (at_next g.which c p) a (Ok false) → IsOnly g sp k d c a p (fails sp p (itself d c a) why.TestFalse None))
    × ((f : Fault) → TruthOf (Evaluates g.table (suc d)) (at_next g.which c p) a (Err f) → IsOnly g sp k d c a p (faulted p (itself d c a) f)))

-- `x' = e`, by what x has
abbrev pub AssignmentsAreListed : Type 0
AssignmentsAreListed = OfActions (λ g sp k d c a p. (n : ℕ) (e : Term) → form_of g c a ≡ assign n e →
    ((v w : Val) → Evaluates g.table d (at_next g.which c p) e (Ok v) → slice_get p n ≡ Some (Some w) → w ≡ v → IsOnly g sp k d c a p (here p))
    × ((v w : Val) → Evaluates g.table d (at_next g.which c p) e (Ok v) → slice_get p n ≡ Some (Some w) → ¬ (w ≡ v) → IsOnly g sp k d c a p (fails sp p (itself d c a) (why.Differs (record { 0 = n })) (Some v)))
    × ((v : Val) → Evaluates g.table d (at_next g.which c p) e (Ok v) → slice_get p n ≡ Some None → IsOnly g sp k d c a p (here (slice_set p n (Some v))))
    × ((f : Fault) → Evaluates g.table d (at_next g.which c p) e (Err f) → IsOnly g sp k d c a p (faulted p (itself d c a) f)))

-- `x' \in S` where x has a value, or S has a fault
abbrev pub MembershipsAreListed : Type 0
MembershipsAreListed = OfActions (λ g sp k d c a p. (n : ℕ) (e : Term) → form_of g c a ≡ choose n e →
    ((S : Described) (w : Val) → MeansSet (Describes g.table d) (at_next g.which c p) e (Ok S) → slice_get p n ≡ Some (Some w) → Belongs S w → IsOnly g sp k d c a p (here p))
    × ((S : Described) (w : Val) → MeansSet (Describes g.table d) (at_next g.which c p) e (Ok S) → slice_get p n ≡ Some (Some w) → ¬ Belongs S w
    → IsOnly g sp k d c a p (fails sp p (itself d c a) (why.NotIn (record { 0 = n })) None))
    × ((f : Fault) → MeansSet (Describes g.table d) (at_next g.which c p) e (Err f) → IsOnly g sp k d c a p (faulted p (itself d c a) f)))

-- `x' \in S` where x has none: a branch for each member, or the one end where S can not be listed or has no member
abbrev pub ChoicesOfValuesAreListed : Type 0
ChoicesOfValuesAreListed = OfActions (λ g sp k d c a p. (n : ℕ) (e : Term) (S : Described) → form_of g c a ≡ choose n e → MeansSet (Describes g.table d) (at_next g.which c p) e (Ok S) → slice_get p n ≡ Some None →
    ((u : Val) (xs : List Trace) → list_at (place_of e) S (Ok u) → 1 ≤ length (items_of u) → MembersFound k p n (items_of u) xs → FoundOf g sp k (suc d) c a p xs)
    × ((u : Val) → list_at (place_of e) S (Ok u) → items_of u ≡ [] → IsOnly g sp k d c a p (stops p (itself d c a) (place_of a) why.NoMember))
    × ((f : Fault) → list_at (place_of e) S (Err f) → IsOnly g sp k d c a p (faulted p (itself d c a) f)))

-- with no evaluation left
abbrev pub NestedActionsAreListed : Type 0
NestedActionsAreListed = (g : Setting) (sp : Sparing) (k : ℕ) (c : Context) (a : Term) (p : Places) → 1 ≤ k → FoundOf g sp k zero c a p (faulted p (stood zero (c, a)) (fault Nested (place_of a)) ∷ [])

-- members, one after the other, until the list is full
abbrev pub MembersAreListed : Type 0
MembersAreListed = (k : ℕ) (p : Places) (n : ℕ) →
    MembersFound k p n [] []
    × ((vs : List Val) (v : Val) (xs : List Trace) → length xs < k → MembersFound k p n vs xs → MembersFound k p n (vs ++ v ∷ []) (xs ++ chosen (length vs) (here (slice_set p n (Some v))) ∷ []))
    × ((vs : List Val) (v : Val) (xs : List Trace) → 1 ≤ k → k ≤ length xs → MembersFound k p n vs xs → MembersFound k p n (vs ++ v ∷ []) xs)

-- arms, one after the other: each has the room that is left
abbrev pub ArmsAreListed : Type 0
ArmsAreListed = (g : Setting) (sp : Sparing) (d k : ℕ) (p : Places) →
    ArmsFound g sp d k p [] []
    × ((es : Parts) (e : Context × Term) (xs zs : List Trace) → length xs < k → ArmsFound g sp d k p es xs → FoundOf g sp (k - length xs) d e.0 e.1 p zs → ArmsFound g sp d k p (es ++ e ∷ []) (xs ++ map (chosen (length es)) zs))
    × ((es : Parts) (e : Context × Term) (xs : List Trace) → 1 ≤ k → k ≤ length xs → ArmsFound g sp d k p es xs → ArmsFound g sp d k p (es ++ e ∷ []) xs)

abbrev pub AreEarlier : List Trace → Trace → Type 0
AreEarlier ps y = (x : Trace) → Contains ps x → Earlier x y

-- One part more, behind each of several branches: what comes of a branch that was gone through stands in its place, and one that ended stays.
abbrev pub PartsAreListed : Type 0
PartsAreListed = (g : Setting) (sp : Sparing) (d k : ℕ) (e : Context × Term) →
    EachFound g sp d k e [] []
    × ((ps : List Trace) (y : Trace) (ys zs : List Trace) → AreEarlier ps y → length ys < k → EachFound g sp d k e ps ys → After g sp d (k - length ys) e y zs → EachFound g sp d k e (ps ++ y ∷ []) (ys ++ zs))
    × ((ps : List Trace) (y : Trace) (ys : List Trace) → AreEarlier ps y → k ≤ length ys → EachFound g sp d k e ps ys → EachFound g sp d k e (ps ++ y ∷ []) ys)
    × ((y : Trace) (q : Places) (zs : List Trace) → y.end ≡ passed q → FoundOf g (after_spared y.spared sp) k d e.0 e.1 q zs → After g sp d k e y (map (added (stood d e) y) zs))
    × ((y : Trace) (q : Places) (s : Stood) (w : Why) → y.end ≡ ended q s w → 1 ≤ k → After g sp d k e y (y ∷ []))

-- and so, part for part, of all of them
abbrev pub ConjunctionsAreListed : Type 0
ConjunctionsAreListed = (g : Setting) (sp : Sparing) (d k : ℕ) (p : Places) → 1 ≤ k →
    TurnsFound g sp d k p [] (here p ∷ [])
    × ((es : Parts) (e : Context × Term) (xs ys : List Trace) → TurnsFound g sp d k p es xs → EachFound g sp d k e xs ys → TurnsFound g sp d k p (es ++ e ∷ []) ys)

-- a form that opens: all of its parts, a choice among them, the one that it is, or the fault of what is evaluated for it
abbrev pub OpeningsAreListed : Type 0
OpeningsAreListed = OfActions (λ g sp k d c a p.
    ((es : Parts) (xs : List Trace) → OpensFrom g d c p (place_of a) (form_of g c a) (Ok (all_of es)) → TurnsFound g (called (form_of g c a) sp) d k p es xs → FoundOf g sp k (suc d) c a p xs)
    × ((es : Parts) (xs : List Trace) → is_choice (form_of g c a) ≡ true → OpensFrom g d c p (place_of a) (form_of g c a) (Ok (one_of es)) → 1 ≤ length es → ArmsFound g (called (form_of g c a) sp) d k p es xs → FoundOf g sp k (suc d) c a p xs)
    × (is_choice (form_of g c a) ≡ true → OpensFrom g d c p (place_of a) (form_of g c a) (Ok (one_of [])) → IsOnly g sp k d c a p (stops p (itself d c a) (place_of a) why.NoMember))
    × ((e : Context × Term) (xs : List Trace) → is_choice (form_of g c a) ≡ false → OpensFrom g d c p (place_of a) (form_of g c a) (Ok (one_of (e ∷ []))) → FoundOf g (called (form_of g c a) sp) k d e.0 e.1 p xs → FoundOf g sp k (suc d) c a p xs)
    × ((f : Fault) → OpensFrom g d c p (place_of a) (form_of g c a) (Err f) → IsOnly g sp k d c a p (faulted p (itself d c a) f)))

-- A test that is no part of the text, behind each of several branches: by what it is in the places of a branch that was gone through.
abbrev pub AddedTestsAreListed : Type 0
AddedTestsAreListed = (g : Setting) (d k : ℕ) (e : Context × Term) →
    TestsFound g d k e [] []
    × ((ps : List Trace) (y : Trace) (ys zs : List Trace) → AreEarlier ps y → length ys < k → TestsFound g d k e ps ys → AfterTest g d (k - length ys) e y zs → TestsFound g d k e (ps ++ y ∷ []) (ys ++ zs))
    × ((ps : List Trace) (y : Trace) (ys : List Trace) → AreEarlier ps y → k ≤ length ys → TestsFound g d k e ps ys → TestsFound g d k e (ps ++ y ∷ []) ys)
    × ((y : Trace) (q : Places) (s : Stood) (w : Why) → y.end ≡ ended q s w → 1 ≤ k → AfterTest g d k e y (y ∷ []))
    × (((n : ℕ) → form g n e.1 ≡ test) → (y : Trace) (q : Places) (r : Result Bool Fault) (z : Trace) → y.end ≡ passed q → 1 ≤ k → KnowsAll g q e.0 e.1 → ReadsValues g.table (at_next g.which e.0 q) e.1
    → TruthOf (Evaluates g.table d) (at_next g.which e.0 q) e.1 r → Altered q (stood d e) r z → AfterTest g d k e y (added (stood d e) y z ∷ []))

-- `<<A>>_v`: the branches of A, and behind each the test that v changes
abbrev pub ChangesAreListed : Type 0
ChangesAreListed = OfActions (λ g sp k d c a p. (e v : Term) (zs ys : List Trace) → form_of g c a ≡ changing e v → FoundOf g sp k d c e p zs
    → TestsFound g d k (c, changed_of (place_of a) v) (map (added (stood d (c, e)) (here p)) zs) ys → FoundOf g sp k (suc d) c a p ys)

-- Of the first m + 1 branches of parts that must all hold the last shows that there are more, and those before it are the first m; where there are no
-- more than m, these are all.
abbrev pub OneMoreTells : Type 0
OneMoreTells = (g : Setting) (sp : Sparing) (d m : ℕ) (es : Parts) (p : Places) →
    ((ys : List Trace) (x : Trace) → length ys ≡ m → Firsts (suc m) (Onward (Turns g sp d) d es (here p)) (ys ++ x ∷ [])
    → Firsts m (Onward (Turns g sp d) d es (here p)) ys × Onward (Turns g sp d) d es (here p) x × AreEarlier ys x)
    × ((xs : List Trace) → length xs ≤ m → Firsts (suc m) (Onward (Turns g sp d) d es (here p)) xs
    → Firsts m (Onward (Turns g sp d) d es (here p)) xs × ((x : Trace) → Onward (Turns g sp d) d es (here p) x → AreEarlier xs x → ⊥))
