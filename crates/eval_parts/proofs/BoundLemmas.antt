-- Sets that names are bound over, as Rust holds them, and their members once for each name.
use Rattle.std.proofs.Common.{◌≡◌, inl, inr, refl, ap, sym, ◌∙◌, subst, ℕ, zero, suc, ◌+◌, ◌≤◌, ◌<◌, Bool, true, false, List, [], ◌∷◌, ◌++◌, length, map, drop, take, get_or, append_assoc, arith, rules}
use Rattle.std.proofs.lemmas.List.{take_more, take_all, map-append}
use Rattle.std.specs.Prelude.{Result, Ok, Err, Contains}
use Rattle.std.specs.List.Sorted.{IsStrictlySortedBy}
use Rattle.std.proofs.lemmas.Map.Keys.{sorted_tail}
use Rattle.states_core.specs.declared.fault.Fault.{Fault}
use Rattle.base_core.specs.declared.place.Place.{Place}
use Rattle.values_core.specs.Ascending.{below, not_itself}
use Rattle.values_core.specs.Data.{Val, model, truth, integer, string, set, function}
use Rattle.values_core.specs.IsValue.{IsValue}
use Rattle.values_core.specs.Order.{val_cmp}
use Rattle.values_core.specs.OrderLaws.{val_total}
use Rattle.values_core.specs.SetOperations.{AreDifferent}
use Rattle.values_core.specs.Sets.{IsSet, items_of}
use Rattle.values_core.specs.declared.fault.EvalKind.TheVariants.{NotSet}
use Rattle.reading_trees.specs.declared.operators.Quantifier.{Quantifier}
use Rattle.reading_trees.specs.declared.operators.Quantifier.TheVariants as quantifier
use Rattle.names_terms.specs.Lists.{bounds_list}
use Rattle.names_terms.specs.Terms.{Term, Bounds, NoBounds, MoreBounds, place_of, width}
use Rattle.names_terms.specs.TermViews.{bound_item, bounds_of}
use Rattle.names_terms.specs.declared.term.Bound.{Bound}
use Rattle.eval_meanings.specs.declared.fault.EvalFault.{EvalFault}
use Rattle.eval_meanings.specs.declared.fault.EvalFault.TheVariants.{Refused, NoMemory}
use Rattle.eval_meanings.specs.Answers.{Tells}
use Rattle.eval_meanings.specs.Binders.{BoundValues, combinations, members_at, ranges, times}
use Rattle.eval_meanings.specs.Contexts.{Context, Evaluate, bind}
use Rattle.eval_meanings.specs.Meanings.{QuantifiedEvaluates}
use Rattle.eval_meanings.specs.Outcomes.{Outcome, Each, Gives, Then, fault}
use Rattle.eval_meanings.specs.Unchanged.{TruthOf}
use Rattle.eval_parts.proofs.Listed.{bounds_listed}
use Rattle.eval_parts.proofs.Loops.{Cut, EachSoFar, each_stops}
use Rattle.eval_parts.specs.BoundSets.{BoundEvaluates, HasMembers, bound_members, bound_value}
use Rattle.eval_meanings.specs.Reads.{Reading, ReadsEach}
use Rattle.eval_parts.specs.Scenes.{Stops}
use Rattle.eval_parts.specs.Walks.{AllDiffer, Decided}
use Rattle.eval_parts.specs.declared.bound_values.BoundSet.{BoundSet}

-- the members of a value stand in ascending order, so none twice
ascending_differ : (vs : List Val) → IsStrictlySortedBy val_cmp vs → AreDifferent vs
ascending_differ [] s = tt
ascending_differ (v ∷ vs) s = ((λ h. not_itself val_cmp val_total v v refl (below val_cmp val_total v vs v s h)), ascending_differ vs (sorted_tail val_cmp v vs s))

pub members_differ : (v : Val) → IsValue v → AreDifferent (items_of v)
members_differ (set vs) p = ascending_differ _ p.canonical.0.ascending
members_differ (model s) p = tt
members_differ (truth b) p = tt
members_differ (integer z) p = tt
members_differ (string s) p = tt
members_differ (function ps) p = tt

times_differ : (n : ℕ) (vs : List Val) → AreDifferent vs → AllDiffer (times n vs)
times_differ zero vs d = tt
times_differ (suc n) vs d = (d, times_differ n vs d)

pub more_differ : (lists : List (List Val)) (n : ℕ) (vs : List Val) → AreDifferent vs → AllDiffer lists → AllDiffer (lists ++ times n vs)
more_differ [] n vs d h = times_differ n vs d
more_differ (us ∷ lists) n vs d h = (h.0, more_differ lists n vs d h.1)

-- one list more
pub one_more_time : (lists new : List (List Val)) (n : ℕ) (vs : List Val) (all : List (List Val)) → new ≡ lists ++ vs ∷ [] → lists ++ times (suc n) vs ≡ all → new ++ times n vs ≡ all
one_more_time lists new n vs all e h = ap (λ (us : List (List Val)). us ++ times n vs) e ∙ append_assoc lists (vs ∷ []) (times n vs) ∙ h

-- the lists of one set more
pub one_set_more : (lists new : List (List Val)) (s : ℕ × List Val) (rest : List (ℕ × List Val)) (all : List (List Val)) → new ≡ lists ++ times s.0 s.1 → lists ++ ranges (s ∷ rest) ≡ all → new ++ ranges rest ≡ all
one_set_more lists new s rest all e h = ap (λ (us : List (List Val)). us ++ ranges rest) e ∙ append_assoc lists (times s.0 s.1) (ranges rest) ∙ h

-- as many lists as names
lengths_add : {X : Type 0} (xs ys : List X) → length (xs ++ ys) ≡ length xs + length ys
lengths_add [] ys = omega arith
lengths_add (x ∷ xs) ys = omega (arith, lengths_add xs ys)

length_times : (n : ℕ) (vs : List Val) → length (times n vs) ≡ n
length_times zero vs = refl
length_times (suc n) vs = ap suc (length_times n vs)

abbrev names_in : List ℕ → ℕ
names_in [] = 0
names_in (n ∷ ns) = n + names_in ns

names_add : (ms ns : List ℕ) → names_in (ms ++ ns) ≡ names_in ms + names_in ns
names_add [] ns = omega arith
names_add (m ∷ ms) ns = omega (arith, names_add ms ns)

width_names : (bs : Bounds) → width bs ≡ names_in (map (λ (b : ℕ × Term). b.0) (bounds_list bs))
width_names NoBounds = refl
width_names (MoreBounds bs n t) =
    let pushed : map (λ (b : ℕ × Term). b.0) (bounds_list bs ++ (n, t) ∷ []) ≡ map (λ (b : ℕ × Term). b.0) (bounds_list bs) ++ n ∷ [] = mapped (bounds_list bs) in
    omega (arith, width_names bs, ap names_in pushed, names_add (map (λ (b : ℕ × Term). b.0) (bounds_list bs)) (n ∷ []))
  where
    mapped : (xs : List (ℕ × Term)) → map (λ (b : ℕ × Term). b.0) (xs ++ (n, t) ∷ []) ≡ map (λ (b : ℕ × Term). b.0) xs ++ n ∷ []
    mapped [] = refl
    mapped (x ∷ xs) = ap (λ (ms : List ℕ). x.0 ∷ ms) (mapped xs)

lists_names : (sets : List BoundSet) → length (ranges (map bound_members sets)) ≡ names_in (map (λ (s : BoundSet). s.names) sets)
lists_names [] = refl
lists_names (s ∷ sets) =
    let members = items_of s.value in
    omega (arith, lengths_add (times s.names members) (ranges (map bound_members sets)), length_times s.names members, lists_names sets)

value_or : {A : Type 0} → A → Result A Fault → A
value_or w (Ok x) = x
value_or w (Err f) = w

one_name : (ev : Evaluate) (c : Context) (b : ℕ × Term) (y : (ℕ × Place) × Val) → BoundEvaluates ev c b (Ok y) → y.0.0 ≡ b.0
unfolding value_or
one_name ev c b y (inl (v, h, e)) = ap (λ (q : Result ((ℕ × Place) × Val) Fault). (value_or y q).0.0) e
one_name ev c b y (inr (g, h, e)) = cc

names_are : (ev : Evaluate) (c : Context) (bs : List (ℕ × Term)) (ys : List ((ℕ × Place) × Val)) → Each (BoundEvaluates ev c) bs (Ok ys) → map (λ (y : (ℕ × Place) × Val). y.0.0) ys ≡ map (λ (b : ℕ × Term). b.0) bs
unfolding value_or
names_are ev c [] ys e = ap (λ (q : Result (List ((ℕ × Place) × Val)) Fault). map (λ (y : (ℕ × Place) × Val). y.0.0) (value_or ys q)) e
names_are ev c (b ∷ bs) ys (inl (y, p, inl (zs, h, e))) =
    ap (λ (q : Result (List ((ℕ × Place) × Val)) Fault). map (λ (y : (ℕ × Place) × Val). y.0.0) (value_or ys q)) e ∙ ap (λ (n : ℕ). n ∷ map (λ (y : (ℕ × Place) × Val). y.0.0) zs) (one_name ev c b y p) ∙ ap (λ (ns : List ℕ). b.0 ∷ ns) (names_are ev c bs zs h)
names_are ev c (b ∷ bs) ys (inl (y, p, inr (g, h, e))) = cc
names_are ev c (b ∷ bs) ys (inr (g, p, e)) = cc

own_names : (sets : List BoundSet) → map (λ (y : (ℕ × Place) × Val). y.0.0) (map bound_value sets) ≡ map (λ (s : BoundSet). s.names) sets
own_names [] = refl
own_names (s ∷ sets) = ap (λ (ns : List ℕ). s.names ∷ ns) (own_names sets)

pub as_many_lists : (ev : Evaluate) (c : Context) (bs : Bounds) (sets : List BoundSet) → Each (BoundEvaluates ev c) (bounds_list bs) (Ok (map bound_value sets)) → length (ranges (map bound_members sets)) ≡ width bs
as_many_lists ev c bs sets h = lists_names sets ∙ ap names_in (sym (own_names sets) ∙ names_are ev c (bounds_list bs) (map bound_value sets) h) ∙ sym (width_names bs)

-- the values of the names, by the stages of their sets
pub bound_values : (ev : Evaluate) (c : Context) (bs : Bounds) (sets : List BoundSet) → Each (BoundEvaluates ev c) (bounds_list bs) (Ok (map bound_value sets)) → Each HasMembers (map bound_value sets) (Ok (map bound_members sets)) → BoundValues ev c bs (Ok (combinations (ranges (map bound_members sets))))
bound_values ev c bs sets h g = inl (map bound_value sets, h, inl (map bound_members sets, g, refl))

pub first_stage_stops : (ev : Evaluate) (c : Context) (bs : Bounds) (f : EvalFault) → Stops (Each (BoundEvaluates ev c) (bounds_list bs)) f → Stops (BoundValues ev c bs) f
first_stage_stops ev c bs (Refused kind at) h = inr (fault kind at, h, refl)
first_stage_stops ev c bs NoMemory h = tt

pub second_stage_stops : (ev : Evaluate) (c : Context) (bs : Bounds) (sets : List BoundSet) (f : EvalFault) → Each (BoundEvaluates ev c) (bounds_list bs) (Ok (map bound_value sets)) → Stops (Each HasMembers (map bound_value sets)) f → Stops (BoundValues ev c bs) f
second_stage_stops ev c bs sets (Refused kind at) h g = inl (map bound_value sets, h, inr (fault kind at, g, refl))
second_stage_stops ev c bs sets NoMemory h g = tt

-- a value that is a set, and one that is none
has_members_at : (n : ℕ) (at : Place) (v : Val) → IsSet v → HasMembers ((n, at), v) (Ok (n, items_of v))
has_members_at n at (set vs) s = inl (items_of (set vs), refl, refl)
has_members_at n at (model s) h = absurd h
has_members_at n at (truth b) h = absurd h
has_members_at n at (integer z) h = absurd h
has_members_at n at (string s) h = absurd h
has_members_at n at (function ps) h = absurd h

pub has_members : (s : BoundSet) → IsSet s.value → HasMembers (bound_value s) (Ok (bound_members s))
has_members s h = has_members_at s.names s.at s.value h

no_members_at : (n : ℕ) (at : Place) (v : Val) → ¬ IsSet v → HasMembers ((n, at), v) (Err (fault NotSet at))
no_members_at n at (set vs) h = absurd (h tt)
no_members_at n at (model s) h = inr (fault NotSet at, refl, refl)
no_members_at n at (truth b) h = inr (fault NotSet at, refl, refl)
no_members_at n at (integer z) h = inr (fault NotSet at, refl, refl)
no_members_at n at (string s) h = inr (fault NotSet at, refl, refl)
no_members_at n at (function ps) h = inr (fault NotSet at, refl, refl)

pub no_members : (s : BoundSet) (f : EvalFault) → (f ≡ Refused NotSet s.at) × ¬ IsSet s.value → Tells {A = ℕ × List Val} (Err f) (HasMembers (bound_value s))
no_members s f h = subst (λ (g : EvalFault). Tells {A = ℕ × List Val} (Err g) (HasMembers (bound_value s))) (sym h.0) (no_members_at s.names s.at s.value h.1)

-- the bounds of a term by its items
pub bounds_are : (xs : List Bound) (bs : Bounds) → bounds_of xs ≡ bs → map bound_item xs ≡ bounds_list bs
bounds_are xs bs e = sym (bounds_listed xs) ∙ ap bounds_list e

pub bounds_read : (part : Reading) (c : Context) (xs : List (ℕ × Term)) (i : ℕ) (x : ℕ × Term) → Cut xs i x → ReadsEach part c (map (λ (b : ℕ × Term). b.1) (drop i xs)) → part c x.1 × ReadsEach part c (map (λ (b : ℕ × Term). b.1) (drop (i + 1) xs))
bounds_read part c xs i x k h = subst (λ (us : List (ℕ × Term)). ReadsEach part c (map (λ (b : ℕ × Term). b.1) us)) k h

-- \A and \E by the values of their names
quantified_then : (ev : Evaluate) (c : Context) (q : Quantifier) (bs : Bounds) (e : Term) (r : Result Bool Fault) → Then (BoundValues ev c bs) (Decided q (λ chosen. TruthOf ev (bind c chosen) e)) r → QuantifiedEvaluates ev c q bs e r
quantified_then ev c quantifier.ForAll bs e r h = h
quantified_then ev c quantifier.Exists bs e r h = h

pub quantified_told : (ev : Evaluate) (c : Context) (q : Quantifier) (bs : Bounds) (e : Term) (r : Result Bool EvalFault) → Tells r (Then (BoundValues ev c bs) (Decided q (λ chosen. TruthOf ev (bind c chosen) e))) → Tells r (QuantifiedEvaluates ev c q bs e)
quantified_told ev c q bs e (Ok b) h = quantified_then ev c q bs e (Ok b) h
quantified_told ev c q bs e (Err (Refused kind at)) h = quantified_then ev c q bs e (Err (fault kind at)) h
quantified_told ev c q bs e (Err NoMemory) h = tt

-- the members of one set more
pub taken_more : (sets : List BoundSet) (i : ℕ) (s : BoundSet) → i < length sets → s ≡ get_or sets i s → map bound_members (take i sets) ++ bound_members s ∷ [] ≡ map bound_members (take (i + 1) sets)
taken_more sets i s l e =
    ap (λ (x : BoundSet). map bound_members (take i sets) ++ bound_members x ∷ []) e ∙ sym (ap (map bound_members) (take_more sets i s l) ∙ map-append bound_members (take i sets) (get_or sets i s ∷ []))

pub all_taken : (sets : List BoundSet) (i : ℕ) → length sets ≤ i → map bound_members (take i sets) ≡ map bound_members sets
all_taken sets i l = ap (map bound_members) (take_all i sets l)

-- a bound whose set faults
pub bound_stops : (P : ℕ × Term → Outcome ((ℕ × Place) × Val)) (xs : List (ℕ × Term)) (i : ℕ) (x : ℕ × Term) (ys : List ((ℕ × Place) × Val)) (f : EvalFault) → Cut xs i x → Stops (P x) f → EachSoFar P xs i ys → Stops (Each P xs) f
bound_stops P xs i x ys (Refused kind at) c p s = each_stops P xs i x ys (Refused kind at) c p s
bound_stops P xs i x ys NoMemory c p s = tt
