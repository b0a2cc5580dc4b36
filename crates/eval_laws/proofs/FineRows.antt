-- Where the parts of a term have at most one outcome each, and what they have are values, so it is with the term: row by row.
use Rattle.std.proofs.Common.{◌≡◌, inl, inr, ap, refl, sym, ◌∙◌, subst, List, [], ◌∷◌, ◌++◌}
use Rattle.std.specs.Prelude.{ℕ, ℤ, zero, suc, Bool, true, false, not, length, map, replicate, if◌then◌else◌, Option, Some, None, Result, Ok, Err, MatchBool, Contains, slice_get}
use Rattle.std.specs.List.{AllByRecursion}
use Rattle.base_core.specs.declared.place.Place.{Place}
use Rattle.states_core.specs.declared.fault.Fault.{Fault}
use Rattle.values_core.specs.Data.{Val, model, truth, integer, string, set, function, members}
use Rattle.values_core.specs.IsValue.{IsValue}
use Rattle.values_core.specs.Integers.{int_operands}
use Rattle.values_core.specs.Ascending.{head_in, none_in, tail_in}
use Rattle.values_core.specs.Functions.{IsFunction, HasPair, pairs_in, values_in}
use Rattle.values_core.specs.FunctionLaws.{one_value_at_key, in_keys}
use Rattle.values_core.specs.SetOperations.{GivesSet}
use Rattle.values_core.specs.FunctionOperations.{GivesFunction, GivesSequence, AppliesAt, Excepts}
use Rattle.values_core.specs.declared.fault.EvalKind.TheVariants.{NoCase, NoChoice, NotSet, NotFinite, OutsideDomain}
use Rattle.values_core.specs.declared.fault.OpFault.{OpFault}
use Rattle.values_core.specs.declared.fault.OpFault.TheVariants.{Refused}
use Rattle.reading_trees.specs.declared.operators.PrefixOperator.{PrefixOperator}
use Rattle.reading_trees.specs.declared.operators.PrefixOperator.TheVariants as prefix
use Rattle.reading_trees.specs.declared.operators.InfixOperator.{InfixOperator}
use Rattle.reading_trees.specs.declared.operators.InfixOperator.TheVariants as infix_operator
use Rattle.reading_trees.specs.declared.operators.Quantifier.{Quantifier}
use Rattle.reading_trees.specs.declared.operators.Quantifier.TheVariants as quantifier
use Rattle.names_terms.specs.declared.level.Level.TheVariants as levels
use Rattle.names_terms.specs.declared.standard.NamedSet.{NamedSet}
use Rattle.names_terms.specs.declared.standard.NamedSet.TheVariants as sets
use Rattle.names_terms.specs.declared.standard.StandardOperator.{StandardOperator}
use Rattle.names_terms.specs.declared.standard.StandardOperator.TheVariants as standard
use Rattle.names_terms.specs.declared.operator.Operator.{Operator}
use Rattle.names_terms.specs.declared.operator.Own.{Own}
use Rattle.names_terms.specs.declared.operator.Own.TheVariants as owns
use Rattle.names_terms.specs.Lists.{terms_list, steps_list, bounds_list, fields_list, changes_list, arms_list}
use Rattle.names_terms.specs.Terms as term
use Rattle.names_terms.specs.Terms.{Term, Meaning, Terms, Operands, Step, Steps, Bounds, Fields, Placed, place_of}
use Rattle.values_sets.specs.DescribedSets as described
use Rattle.values_sets.specs.DescribedSets.{Described, Listed}
use Rattle.values_sets.specs.Membership.{Belongs}
use Rattle.values_sets.specs.Listings.{Lists, Listing, IsListed, is_finite}
use Rattle.values_sets.proofs.Collecting.{listed_is, pair_value}
use Rattle.values_sets.proofs.Outcomes.{lists_one_way}
use Rattle.values_sets.proofs.Loops.{is_in}
use Rattle.eval_meanings.specs.Outcomes.{Outcome, Gives, Fails, Then, Either, Each, truth_at, Operated, place_in}
use Rattle.eval_meanings.specs.Contexts.{Context, Table, Places, Evaluate, Describe, IsAt, IsKnown, WithDefinition, bind, within, primed, enter}
use Rattle.eval_meanings.specs.Operations.{InfixAnswers, PrefixAnswers, StandardAnswers}
use Rattle.eval_meanings.specs.Sets.{named_set, IsIn, set_at, MeansSet, list_at, ListedAt, first_operand, other_operands, PartDescribed, ProductDescribed, FieldDescribed, RecordsDescribed, parts_of, fields_of, Between, IntervalDescribed, paired, Joined, ChainDescribed}
use Rattle.eval_meanings.specs.Binders.{members_at, MembersOf, combinations, ranges, BoundValues, FirstThat, Passing}
use Rattle.eval_meanings.specs.Functions.{KeyOf, StepKey, AtStep, steps_place, StepsEvaluate, AtKey, Changed, AllChanged}
use Rattle.eval_meanings.specs.Recursion.{Recursion, KeysDescribed, RecursionEvaluates, applied_by, marked_so, names_at, recursion_at, recursion_of, sets_of_names}
use Rattle.eval_meanings.specs.Unchanged.{TruthOf, prime_of, unchanged_of, changed_of, behind, StaysSame, MeansUnchanged, IsUnchanged}
use Rattle.eval_meanings.specs.Meanings.{ChainEvaluates, both_or_neither, ImplicationHolds, AreEquivalent, IsMemberOf, IsSubsetOf, FunctionsDescribed, SequencesDescribed, SubsetsDescribed, InfixDescribed, InfixEvaluates, PrefixEvaluates, StandardEvaluates, BodyDescribed, UseDescribed, UseEvaluates, FirstArm, SetOfAll, FunctionOfAll, PairOf, QuantifiedEvaluates, FieldEvaluates, MeaningEvaluates, MeaningDescribes, IsValueOf}
use Rattle.eval_meanings.specs.Everywhere.{InParts, InTerms, InOperands, InStep, InSteps, InBounds, InFields}
use Rattle.eval_meanings.specs.Laws.{AreValues, HoldValues, KnowsValue, KnowsValues}
use Rattle.eval_meanings.proofs.AtMostOne.{One}
use Rattle.eval_laws.proofs.OneAnswer.{HasOneAnswer, IsSure, sure_set, sure_function, sure_sequence}
use Rattle.eval_laws.proofs.SureOperations.{sure_infix, sure_prefix, sure_standard, sure_applies, sure_excepts}
use Rattle.eval_laws.proofs.Fine.{IsFine, Any, fine_any, fine_gives, fine_fails, fine_none, fine_then, fine_either, fine_decides, fine_each, fine_all_true, fine_some_true, fine_truth_at, fine_is_truth, one_operated, fine_operated}
use Rattle.eval_laws.proofs.FineContexts.{HoldsValues, all_append, all_map, bind_holds, within_holds, primed_holds, enter_holds, members_are, AreAllValues, combinations_are, ranges_are, know_terms, know_bounds, know_fields, KnowsChange, know_changes, KnowsArm, know_arms, know_path, know_first, know_others, BodiesKnow, know_behind}

-- sets

-- what is listed already is a value
abbrev pub IsDescription : Described → Type 0
IsDescription (Listed v) = IsValue v
IsDescription d = Unit {0}

named_fine : (n : NamedSet) → IsDescription (named_set n)
named_fine sets.Nat = tt
named_fine sets.Int = tt
named_fine sets.Strings = tt
named_fine sets.Booleans = tt

one_listed : (v : Val) → HasOneAnswer (IsListed v)
one_listed v (Ok d) (Ok e) h g = inr (inr (ap Ok (h.1 ∙ sym g.1)))
one_listed v (Ok d) (Err f) h g = absurd (g.0 h.0)
one_listed v (Err e) (Ok d) h g = absurd (h.0 g.0)
one_listed v (Err e) (Err f) h g = inr (inr (ap Err (h.1 ∙ sym g.1)))

fine_set_at : (at : Place) (d : Described) → IsDescription d → IsFine IsDescription (set_at at d)
fine_set_at at (Listed v) p = record { one = one_operated (IsListed v) (λ n. at) (one_listed v); good = λ d h. subst IsDescription (sym h.1) p }
fine_set_at at d p = fine_gives IsDescription d p

listed_value : (d : Described) (s : Val) → Lists d (Ok s) → IsValue s
listed_value d s l = by_end (is_finite d) l
  where
    unlike : (f : OpFault) → ◌≡◌ {A = Result Val OpFault} (Ok s) (Err f) → ⊥
    unlike f e = cc

    by_end : (b : Bool) → MatchBool b (Listing d (Ok s)) (Ok s ≡ Err (Refused NotFinite 0)) → IsValue s
    by_end true g = (listed_is d s g).valid
    by_end false g = absurd (unlike (Refused NotFinite 0) g)

sure_lists : (d : Described) → IsSure (Lists d)
sure_lists d = record { one = lists_one_way d; value = listed_value d }

fine_list_at : (at : Place) (d : Described) → IsDescription d → IsFine IsValue (list_at at d)
fine_list_at at (Listed v) p = fine_gives IsValue v p
fine_list_at at d p = fine_operated (Lists d) (λ n. at) (sure_lists d)

fine_listed : (at : Place) (P : Outcome Described) → IsFine IsDescription P → IsFine IsValue (ListedAt at P)
fine_listed at P p = fine_then IsDescription IsValue P (list_at at) p (fine_list_at at)

one_between : (o : Result (ℤ × ℤ) OpFault) → HasOneAnswer (Between o)
one_between (Ok p) q r h g = inr (inr (h ∙ sym g))
one_between (Err f) q r h g = inr (inr (h ∙ sym g))

between_fine : (o : Result (ℤ × ℤ) OpFault) (d : Described) → Between o (Ok d) → IsDescription d
between_fine (Ok p) d h = let e : described.Interval p.0 p.1 ≡ d = same d h in subst IsDescription e tt
  where
    same : (d : Described) → ◌≡◌ {A = Result Described OpFault} (Ok d) (Ok (described.Interval p.0 p.1)) → described.Interval p.0 p.1 ≡ d
    same d e = cc
between_fine (Err f) d h = absurd (unlike d h)
  where
    unlike : (d : Described) → ◌≡◌ {A = Result Described OpFault} (Ok d) (Err f) → ⊥
    unlike d e = cc

fine_interval : (at p q : Place) (a b : Val) → IsFine IsDescription (IntervalDescribed at p q a b)
fine_interval at p q a b = record { one = one_operated (Between (int_operands a b)) (place_in at (p ∷ q ∷ [])) (one_between (int_operands a b)); good = between_fine (int_operands a b) }

paired_fine : (o : InfixOperator) (d e : Described) → IsDescription (paired o d e)
paired_fine infix_operator.Union d e = tt
paired_fine infix_operator.Intersection d e = tt
paired_fine o d e = tt

fine_pair : (o : InfixOperator) (p q : Place) (d e : Described) → IsDescription d → IsDescription e
    → IsFine IsDescription (Then (set_at p d) (λ x. Then (set_at q e) (λ y. Gives (paired o x y))))
fine_pair o p q d e a b =
    fine_then IsDescription IsDescription (set_at p d) _ (fine_set_at p d a)
    (λ x g. fine_then IsDescription IsDescription (set_at q e) _ (fine_set_at q e b) (λ y h. fine_gives IsDescription (paired o x y) (paired_fine o x y)))

fine_joined : (o : InfixOperator) (at p q : Place) (d e : Described) → IsDescription d → IsDescription e → IsFine IsDescription (Joined o at p q d e)
fine_joined o at p q (Listed a) (Listed b) g h =
    fine_then IsValue IsDescription (Operated (InfixAnswers o a b) (place_in at (p ∷ q ∷ []))) _ (fine_operated (InfixAnswers o a b) (place_in at (p ∷ q ∷ [])) (sure_infix o a b g h))
    (λ v k. fine_gives IsDescription (Listed v) k)
fine_joined o at p q d e g h = fine_pair o p q d e g h

-- values of terms

abbrev IsPart : Place × Described → Type 0
IsPart d = IsDescription d.1

abbrev IsFieldPart : List ℕ × Place × Described → Type 0
IsFieldPart f = IsDescription f.2

fine_members_at : (at : Place) (v : Val) → IsValue v → IsFine AreAllValues (members_at at v)
fine_members_at at (set vs) p = fine_gives AreAllValues (members vs) (members_are vs p)
fine_members_at at (model x) p = fine_fails AreAllValues NotSet at
fine_members_at at (truth x) p = fine_fails AreAllValues NotSet at
fine_members_at at (integer x) p = fine_fails AreAllValues NotSet at
fine_members_at at (string x) p = fine_fails AreAllValues NotSet at
fine_members_at at (function x) p = fine_fails AreAllValues NotSet at

fine_set_of : (at : Place) (vs : List Val) → IsFine IsValue (SetOfAll at vs)
fine_set_of at vs = fine_operated (GivesSet (Contains vs)) (λ n. at) (sure_set (Contains vs))

fine_function_of : (at : Place) (ps : List (Val × Val)) → IsFine IsValue (FunctionOfAll at ps)
fine_function_of at ps = fine_operated (GivesFunction (λ key v. Contains ps (key, v))) (λ n. at) (sure_function (λ key v. Contains ps (key, v)))

fine_sequence_of : (at : Place) (vs : List Val) → IsFine IsValue (Operated (GivesSequence vs) (λ n. at))
fine_sequence_of at vs = fine_operated (GivesSequence vs) (λ n. at) (sure_sequence vs)

fine_key : (at : Place) (vs : List Val) → AreAllValues vs → IsFine IsValue (KeyOf at vs)
fine_key at [] a = fine_sequence_of at []
fine_key at (v ∷ []) a = fine_gives IsValue v a.0
fine_key at (v ∷ w ∷ vs) a = fine_sequence_of at (v ∷ w ∷ vs)

-- what stands in a value is a value
values_are : (v : Val) → IsValue v → AreAllValues (values_in v)
values_are v p = each (pairs_in v) (λ key w h. pair_value v key w p h)
  where
    each : (ps : List (Val × Val)) → ((key w : Val) → Contains ps (key, w) → IsValue w) → AreAllValues (map (λ x. x.1) ps)
    each [] f = tt
    each (x ∷ ps) f = (f x.0 x.1 (head_in x ps), each ps (λ key w h. f key w (tail_in x ps (key, w) h)))

names_are : (es : List Term) (key : Val) → IsValue key → AreAllValues (names_at es key)
names_are [] key p = values_are key p
names_are (e ∷ []) key p = (p, tt)
names_are (e ∷ f ∷ es) key p = values_are key p

replicated : (n : ℕ) (e : Term) → KnowsValues e → AllByRecursion KnowsValues (replicate n e)
replicated zero e k = tt
replicated (suc n) e k = (k, replicated n e k)

know_sets : (bs : List (ℕ × Term)) → AllByRecursion (λ b. KnowsValues b.1) bs → AllByRecursion KnowsValues (sets_of_names bs)
know_sets [] k = tt
know_sets (b ∷ bs) k = all_append KnowsValues (replicate b.0 b.1) (sets_of_names bs) (replicated b.0 b.1 k.0) (know_sets bs k.1)

-- what a function that uses itself is made of
abbrev KnowsRecursion : Option Recursion → Type 0
KnowsRecursion None = Unit {0}
KnowsRecursion (Some g) = InBounds KnowsValue g.bounds × KnowsValues g.value

-- and the step that gives it a key
abbrev KnowsApplied : Step → Option Recursion → Type 0
KnowsApplied (term.Index ts) x = KnowsRecursion x
KnowsApplied s None = Unit {0}
KnowsApplied s (Some g) = ⊥

know_marked : (own : Own) (n : ℕ) (body : Term) → KnowsValues body → KnowsRecursion (marked_so own n body)
know_marked owns.Function n (Placed at l (term.Function bs e)) k = k.1
know_marked own n (Placed at l m) k = tt

know_named : (ops : Table) → BodiesKnow ops → (e : Term) → KnowsRecursion (recursion_of ops e)
know_named ops bodies (Placed at l (term.Use n term.NoTerms)) = by_row (slice_get ops n) (bodies n)
  where
    by_row : (found : Option Operator) → ((o : Operator) → found ≡ Some o → KnowsValues o.body) → KnowsRecursion (recursion_at found)
    by_row None f = tt
    by_row (Some o) f = know_marked o.own o.outer o.body (f o refl)
know_named ops bodies (Placed at l m) = tt

know_applied : (ops : Table) → BodiesKnow ops → (e : Term) (ss : Steps) (s : Step) → KnowsApplied s (applied_by ops e ss s)
know_applied ops bodies e term.NoSteps (term.Index ts) = know_named ops bodies e
know_applied ops bodies e term.NoSteps term.Prime = tt
know_applied ops bodies e term.NoSteps (term.Field h) = tt
know_applied ops bodies e (term.MoreSteps ss p r) term.Prime = tt
know_applied ops bodies e (term.MoreSteps ss p r) (term.Index ts) = tt
know_applied ops bodies e (term.MoreSteps ss p r) (term.Field h) = tt

some_same : (v w : Val) → ◌≡◌ {A = Option (Option Val)} (Some (Some v)) (Some (Some w)) → v ≡ w
some_same v w e = cc

slot_same : (v w : Val) → ◌≡◌ {A = Option Val} (Some v) (Some w) → v ≡ w
slot_same v w e = cc

operator_same : (o q : Operator) → ◌≡◌ {A = Option Operator} (Some o) (Some q) → o ≡ q
operator_same o q e = cc

value_same : (v w : Val) → ◌≡◌ {A = Result Val Fault} (Ok w) (Ok v) → v ≡ w
value_same v w e = cc

fine_known : (places : Places) (x : ℕ) → HoldValues places → IsFine IsValue (IsKnown places x)
fine_known places x p = record {
  one = λ r q h g. h.2 ∙ ap Ok (some_same h.0 g.0 (sym h.1 ∙ g.1)) ∙ sym g.2;
  good = λ v h. subst (λ (w : Val). IsValue w) (value_same h.0 v h.2) (p h.0 (is_in places x (Some h.0) h.1));
}

fine_slot : (vs : List Val) (i : ℕ) → AreValues vs → IsFine IsValue (IsAt vs i)
fine_slot vs i p = record {
  one = λ r q h g. h.2 ∙ ap Ok (slot_same h.0 g.0 (sym h.1 ∙ g.1)) ∙ sym g.2;
  good = λ v h. subst (λ (w : Val). IsValue w) (value_same h.0 v h.2) (p h.0 (is_in vs i h.0 h.1));
}

fine_definition : {A : Type 0} (V : A → Type 0) (ops : Table) (k : ℕ) (P : Operator → Outcome A) → ((o : Operator) → slice_get ops k ≡ Some o → IsFine V (P o)) → IsFine V (WithDefinition ops k P)
fine_definition V ops k P f = record {
  one = λ r q h g. (f h.0 h.1).one r q h.2 (subst (λ (o : Operator). P o q) (operator_same g.0 h.0 (sym g.1 ∙ h.1)) g.2);
  good = λ v h. (f h.0 h.1).good v h.2;
}

-- what has a key is a function
has_function : (f key v : Val) → HasPair f key v → IsFunction f
has_function (function ps) key v h = tt
has_function (model x) key v h = absurd (none_in (key, v) h)
has_function (truth x) key v h = absurd (none_in (key, v) h)
has_function (integer x) key v h = absurd (none_in (key, v) h)
has_function (string x) key v h = absurd (none_in (key, v) h)
has_function (set x) key v h = absurd (none_in (key, v) h)

fine_at_key : (base : Place) (f key : Val) (P : Val → Outcome Val) → IsValue f → ((old : Val) → IsValue old → IsFine IsValue (P old)) → IsFine IsValue (AtKey base f key P)
fine_at_key base f key P p k = record { one = one; good = good }
  where
    one : One (AtKey base f key P)
    one r q (inl h) (inl g) = h.1 ∙ sym g.1
    one r q (inl h) (inr (inl g)) = absurd (h.0 g.0)
    one r q (inl h) (inr (inr g)) = absurd (h.0 (has_function f key g.0 g.1))
    one r q (inr (inl h)) (inl g) = absurd (g.0 h.0)
    one r q (inr (inl h)) (inr (inl g)) = h.2 ∙ sym g.2
    one r q (inr (inl h)) (inr (inr g)) = absurd (h.1 (in_keys (pairs_in f) (key, g.0) g.1))
    one r q (inr (inr h)) (inl g) = absurd (g.0 (has_function f key h.0 h.1))
    one r q (inr (inr h)) (inr (inl g)) = absurd (g.1 (in_keys (pairs_in f) (key, h.0) h.1))
    one r q (inr (inr h)) (inr (inr g)) = (k h.0 (pair_value f key h.0 p h.1)).one r q h.2 (subst (λ (v : Val). P v q) (one_value_at_key f key g.0 h.0 p g.1 h.1) g.2)

    unlike : (v : Val) (e : Fault) → ◌≡◌ {A = Result Val Fault} (Ok v) (Err e) → ⊥
    unlike v e q = cc

    good : (v : Val) → AtKey base f key P (Ok v) → IsValue v
    good v (inl h) = absurd (unlike v _ h.1)
    good v (inr (inl h)) = subst (λ (w : Val). IsValue w) (value_same f v h.2) p
    good v (inr (inr h)) = (k h.0 (pair_value f key h.0 p h.1)).good v h.2

fine_first : (at : Place) (P : Val → Outcome Bool) → ((v : Val) → IsValue v → IsFine Any (P v)) → (vs : List Val) → AreAllValues vs → IsFine IsValue (FirstThat at P vs)
fine_first at P p [] a = fine_fails IsValue NoChoice at
fine_first at P p (v ∷ vs) a =
    fine_then Any IsValue (P v) (λ b. Either b (Gives v) (FirstThat at P vs)) (p v a.0)
    (λ b h. fine_either IsValue b (Gives v) (FirstThat at P vs) (fine_gives IsValue v a.0) (fine_first at P p vs a.1))

kept_values : (b : Bool) (v : Val) (ws : List Val) → IsValue v → AreAllValues ws → AreAllValues (if b then v ∷ ws else ws)
kept_values true v ws p a = (p, a)
kept_values false v ws p a = a

fine_passing : (P : Val → Outcome Bool) → ((v : Val) → IsValue v → IsFine Any (P v)) → (vs : List Val) → AreAllValues vs → IsFine AreAllValues (Passing P vs)
fine_passing P p [] a = fine_gives AreAllValues [] tt
fine_passing P p (v ∷ vs) a =
    fine_then Any AreAllValues (P v) _ (p v a.0)
    (λ b h. fine_then AreAllValues AreAllValues (Passing P vs) _ (fine_passing P p vs a.1) (λ ws g. fine_gives AreAllValues (if b then v ∷ ws else ws) (kept_values b v ws a.0 g)))

-- the terms that no text spells

know_prime : (at : Place) (e : Term) → KnowsValues e → KnowsValues (prime_of at e)
know_prime at e k = (tt, (k, tt, tt))

know_unchanged : (at : Place) (e : Term) → KnowsValues e → KnowsValues (unchanged_of at e)
know_unchanged at e k = (tt, k)

know_changed : (at : Place) (e : Term) → KnowsValues e → KnowsValues (changed_of at e)
know_changed at e k = (tt, (know_prime at e k, k))

know_mapped : (es : List (Place × Term)) → AllByRecursion (λ e. KnowsValues e.1) es → AllByRecursion KnowsValues (map (λ e. e.1) es)
know_mapped es k = all_map KnowsValues (λ e. e.1) es k

abbrev pub IsFineEvaluate : Evaluate → Type 0
IsFineEvaluate ev = (c : Context) → HoldsValues c → (e : Term) → KnowsValues e → IsFine IsValue (ev c e)

abbrev pub IsFineDescribe : Describe → Type 0
IsFineDescribe de = (c : Context) → HoldsValues c → (e : Term) → KnowsValues e → IsFine IsDescription (de c e)

module _ (ops : Table) (bodies : BodiesKnow ops) (ev : Evaluate) (de : Describe) (ev_fine : IsFineEvaluate ev) (de_fine : IsFineDescribe de) where
  fine_truth : (c : Context) → HoldsValues c → (e : Term) → KnowsValues e → IsFine Any (TruthOf ev c e)
  fine_truth c h e k = fine_then IsValue Any (ev c e) (truth_at (place_of e)) (ev_fine c h e k) (λ v p. fine_truth_at (place_of e) v)

  fine_terms : (c : Context) → HoldsValues c → (es : List Term) → AllByRecursion KnowsValues es → IsFine AreAllValues (Each (ev c) es)
  fine_terms c h es k = fine_each KnowsValues IsValue (ev c) (ev_fine c h) es k

  -- sets

  fine_set : (c : Context) → HoldsValues c → (e : Term) → KnowsValues e → IsFine IsDescription (MeansSet de c e)
  fine_set c h e k = fine_then IsDescription IsDescription (de c e) (set_at (place_of e)) (de_fine c h e k) (fine_set_at (place_of e))

  fine_product : (c : Context) → HoldsValues c → (es : List Term) → AllByRecursion KnowsValues es → IsFine IsDescription (ProductDescribed de c es)
  fine_product c h es k =
      fine_then (AllByRecursion IsPart) IsDescription (Each (PartDescribed de c) es) _
      (fine_each KnowsValues IsPart (PartDescribed de c) (λ e g. fine_then IsDescription IsPart (de c e) _ (de_fine c h e g) (λ d p. fine_gives IsPart (place_of e, d) p)) es k)
      (λ ds a. fine_then (AllByRecursion IsDescription) IsDescription (Each (λ d. set_at d.0 d.1) ds) _
      (fine_each IsPart IsDescription (λ d. set_at d.0 d.1) (λ d p. fine_set_at d.0 d.1 p) ds a)
      (λ es b. fine_gives IsDescription (described.Product (parts_of es)) tt))

  fine_records : (c : Context) → HoldsValues c → (fs : Fields) → InFields KnowsValue fs → IsFine IsDescription (RecordsDescribed de c fs)
  fine_records c h fs k =
      fine_then (AllByRecursion IsFieldPart) IsDescription (Each (FieldDescribed de c) (fields_list fs)) _
      (fine_each (λ f. KnowsValues f.1) IsFieldPart (FieldDescribed de c)
      (λ f g. fine_then IsDescription IsFieldPart (de c f.1) _ (de_fine c h f.1 g) (λ d p. fine_gives IsFieldPart (f.0, place_of f.1, d) p)) (fields_list fs) (know_fields fs k))
      (λ ds a. fine_then (AllByRecursion Any) IsDescription (Each {B = Val × Described} (λ f. Then (set_at f.1 f.2) (λ d. Gives (string f.0, d))) ds) _
      (fine_each {B = Val × Described} IsFieldPart Any (λ f. Then (set_at f.1 f.2) (λ d. Gives (string f.0, d)))
      (λ f p. fine_then IsDescription Any (set_at f.1 f.2) _ (fine_set_at f.1 f.2 p) (λ d q. fine_gives Any (string f.0, d) tt)) ds a)
      (λ es b. fine_gives IsDescription (described.Records (fields_of es)) tt))

  fine_chain_described : (c : Context) → HoldsValues c → (o : InfixOperator) (p : Place) (d : Described) (es : List (Place × Term)) → IsDescription d → AllByRecursion (λ e. KnowsValues e.1) es
      → IsFine IsDescription (ChainDescribed de c o p d es)
  fine_chain_described c h o p d [] g k = fine_gives IsDescription d g
  fine_chain_described c h o p d (e ∷ es) g k =
      fine_then IsDescription IsDescription (de c e.1) _ (de_fine c h e.1 k.0)
      (λ f i. fine_then IsDescription IsDescription (Joined o e.0 p (place_of e.1) d f) _ (fine_joined o e.0 p (place_of e.1) d f g i)
      (λ x j. fine_chain_described c h o e.0 x es j k.1))

  fine_functions : (c : Context) → HoldsValues c → (s t : Term) → KnowsValues s → KnowsValues t → IsFine IsDescription (FunctionsDescribed ev de c s t)
  fine_functions c h s t k l =
      fine_then IsValue IsDescription (ev c s) _ (ev_fine c h s k)
      (λ v p. fine_then IsDescription IsDescription (de c t) _ (de_fine c h t l)
      (λ d q. fine_then AreAllValues IsDescription (members_at (place_of s) v) _ (fine_members_at (place_of s) v p)
      (λ vs a. fine_then IsDescription IsDescription (set_at (place_of t) d) _ (fine_set_at (place_of t) d q) (λ e g. fine_gives IsDescription (described.Functions v e) tt))))

  fine_sequences : (c : Context) → HoldsValues c → (es : List Term) → AllByRecursion KnowsValues es → IsFine IsDescription (SequencesDescribed de c es)
  fine_sequences c h [] k = fine_none IsDescription
  fine_sequences c h (e ∷ []) k = fine_then IsDescription IsDescription (MeansSet de c e) (λ d. Gives (described.SeqOf d)) (fine_set c h e k.0) (λ d g. fine_gives IsDescription (described.SeqOf d) tt)
  fine_sequences c h (e ∷ f ∷ es) k = fine_none IsDescription

  fine_subsets : (c : Context) → HoldsValues c → (e : Term) → KnowsValues e → IsFine IsDescription (SubsetsDescribed de c e)
  fine_subsets c h e k = fine_then IsDescription IsDescription (MeansSet de c e) _ (fine_set c h e k) (λ d g. fine_gives IsDescription (described.PowerOf d) tt)

  fine_interval_of : (c : Context) → HoldsValues c → (os : Operands) (e : Term) (at : Place) → InOperands KnowsValue os → KnowsValues e → IsFine IsDescription (InfixDescribed ev de c infix_operator.Interval os e at)
  fine_interval_of c h (term.First s) t at k l =
      fine_then IsValue IsDescription (ev c s) _ (ev_fine c h s k)
      (λ v p. fine_then IsValue IsDescription (ev c t) _ (ev_fine c h t l) (λ w q. fine_interval at (place_of s) (place_of t) v w))
  fine_interval_of c h (term.Next os p e) t at k l = fine_none IsDescription

  fine_joined_of : (c : Context) → HoldsValues c → (o : InfixOperator) (s : Term) (es : List (Place × Term)) → KnowsValues s → AllByRecursion (λ e. KnowsValues e.1) es
      → IsFine IsDescription (Then (de c s) (λ d. ChainDescribed de c o (place_of s) d es))
  fine_joined_of c h o s es k l = fine_then IsDescription IsDescription (de c s) _ (de_fine c h s k) (λ d g. fine_chain_described c h o (place_of s) d es g l)

  -- operators

  fine_chain : (c : Context) → HoldsValues c → (o : InfixOperator) (p : Place) (v : Val) (es : List (Place × Term)) → IsValue v → AllByRecursion (λ e. KnowsValues e.1) es
      → IsFine IsValue (ChainEvaluates ev c o p v es)
  fine_chain c h o p v [] g k = fine_gives IsValue v g
  fine_chain c h o p v (e ∷ es) g k =
      fine_then IsValue IsValue (ev c e.1) _ (ev_fine c h e.1 k.0)
      (λ w i. fine_then IsValue IsValue (Operated (InfixAnswers o v w) (place_in e.0 (p ∷ place_of e.1 ∷ []))) _
      (fine_operated (InfixAnswers o v w) (place_in e.0 (p ∷ place_of e.1 ∷ [])) (sure_infix o v w g i))
      (λ u j. fine_chain c h o e.0 u es j k.1))

  fine_member : (c : Context) → HoldsValues c → (s t : Term) → KnowsValues s → KnowsValues t → IsFine Any (IsMemberOf ev de c s t)
  fine_member c h s t k l =
      fine_then IsValue Any (ev c s) _ (ev_fine c h s k) (λ v p. fine_then IsDescription Any (MeansSet de c t) _ (fine_set c h t l) (λ d q. fine_decides _))

  fine_subset : (c : Context) → HoldsValues c → (s t : Term) → KnowsValues s → KnowsValues t → IsFine Any (IsSubsetOf ev de c s t)
  fine_subset c h s t k l =
      fine_then IsValue Any (ev c s) _ (ev_fine c h s k)
      (λ u p. fine_then IsDescription Any (de c t) _ (de_fine c h t l)
      (λ d q. fine_then AreAllValues Any (members_at (place_of s) u) _ (fine_members_at (place_of s) u p)
      (λ us a. fine_then IsDescription Any (set_at (place_of t) d) _ (fine_set_at (place_of t) d q) (λ e g. fine_decides _))))

  fine_implication : (c : Context) → HoldsValues c → (s t : Term) → KnowsValues s → KnowsValues t → IsFine Any (ImplicationHolds ev c s t)
  fine_implication c h s t k l =
      fine_then Any Any (TruthOf ev c s) _ (fine_truth c h s k) (λ p g. fine_either Any p (TruthOf ev c t) (Gives true) (fine_truth c h t l) (fine_gives Any true tt))

  fine_equivalent : (c : Context) → HoldsValues c → (s t : Term) → KnowsValues s → KnowsValues t → IsFine Any (AreEquivalent ev c s t)
  fine_equivalent c h s t k l =
      fine_then IsValue Any (ev c s) _ (ev_fine c h s k)
      (λ v p. fine_then IsValue Any (ev c t) _ (ev_fine c h t l)
      (λ w q. fine_then Any Any (truth_at (place_of s) v) _ (fine_truth_at (place_of s) v)
      (λ x a. fine_then Any Any (truth_at (place_of t) w) _ (fine_truth_at (place_of t) w) (λ y b. fine_gives Any (both_or_neither x y) tt))))

  fine_not : (P : Outcome Bool) → IsFine Any P → IsFine IsValue (Then (Then P (λ p. Gives (not p))) (λ b. Gives (truth b)))
  fine_not P p = fine_is_truth (Then P (λ p. Gives (not p))) (fine_then Any Any P _ p (λ b h. fine_gives Any (not b) tt))

  fine_infix : (c : Context) → HoldsValues c → (o : InfixOperator) (os : Operands) (e : Term) (at : Place) → InOperands KnowsValue os → KnowsValues e → IsFine IsValue (InfixEvaluates ev de c o os e at)
  fine_infix c h infix_operator.Implies (term.First s) t at k l = fine_is_truth (ImplicationHolds ev c s t) (fine_implication c h s t k l)
  fine_infix c h infix_operator.Equivalent (term.First s) t at k l = fine_is_truth (AreEquivalent ev c s t) (fine_equivalent c h s t k l)
  fine_infix c h infix_operator.Member (term.First s) t at k l = fine_is_truth (IsMemberOf ev de c s t) (fine_member c h s t k l)
  fine_infix c h infix_operator.NotMember (term.First s) t at k l = fine_not (IsMemberOf ev de c s t) (fine_member c h s t k l)
  fine_infix c h infix_operator.SubsetOrEqual (term.First s) t at k l = fine_is_truth (IsSubsetOf ev de c s t) (fine_subset c h s t k l)
  fine_infix c h infix_operator.Interval os e at k l = fine_listed at _ (fine_interval_of c h os e at k l)
  fine_infix c h infix_operator.CartesianProduct os e at k l =
      fine_listed at _ (fine_product c h (first_operand os ∷ map (λ e. e.1) (other_operands (term.Next os at e))) (know_first os k, know_mapped (other_operands (term.Next os at e)) (know_others (term.Next os at e) (k, l))))
  fine_infix c h infix_operator.Union os e at k l =
      fine_listed at _ (fine_joined_of c h infix_operator.Union (first_operand os) (other_operands (term.Next os at e)) (know_first os k) (know_others (term.Next os at e) (k, l)))
  fine_infix c h infix_operator.Intersection os e at k l =
      fine_listed at _ (fine_joined_of c h infix_operator.Intersection (first_operand os) (other_operands (term.Next os at e)) (know_first os k) (know_others (term.Next os at e) (k, l)))
  fine_infix c h infix_operator.Difference os e at k l =
      fine_listed at _ (fine_joined_of c h infix_operator.Difference (first_operand os) (other_operands (term.Next os at e)) (know_first os k) (know_others (term.Next os at e) (k, l)))
  fine_infix c h o os e at k l =
      fine_then IsValue IsValue (ev c (first_operand os)) (λ v. ChainEvaluates ev c o (place_of (first_operand os)) v (other_operands (term.Next os at e))) (ev_fine c h (first_operand os) (know_first os k))
      (λ v p. fine_chain c h o (place_of (first_operand os)) v (other_operands (term.Next os at e)) p (know_others (term.Next os at e) (k, l)))

  fine_standard : (c : Context) → HoldsValues c → (o : StandardOperator) (ts : Terms) (at : Place) → InTerms KnowsValue ts → IsFine IsValue (StandardEvaluates ev de c o ts at)
  fine_standard c h standard.Seq ts at k = fine_listed at _ (fine_sequences c h (terms_list ts) (know_terms ts k))
  fine_standard c h o ts at k =
      fine_then AreAllValues IsValue (Each (ev c) (terms_list ts)) (λ vs. Operated (StandardAnswers o vs) (place_in at (map place_of (terms_list ts)))) (fine_terms c h (terms_list ts) (know_terms ts k))
      (λ vs a. fine_operated (StandardAnswers o vs) (place_in at (map place_of (terms_list ts))) (sure_standard o vs a))

  -- uses

  fine_value_of : (c : Context) → HoldsValues c → (e : Term) → KnowsValues e → IsFine IsDescription (IsValueOf (ev c e))
  fine_value_of c h e k = fine_then IsValue IsDescription (ev c e) _ (ev_fine c h e k) (λ v p. fine_gives IsDescription (Listed v) p)

  fine_body : (c : Context) → HoldsValues c → (own : Own) (body : Term) → KnowsValues body → IsFine IsDescription (BodyDescribed own ev de c body)
  fine_body c h owns.Apart body k = de_fine c h body k
  fine_body c h owns.Itself body k = fine_value_of c h body k
  fine_body c h owns.Function body k = fine_value_of c h body k

  fine_use_described : (c : Context) → HoldsValues c → (n : ℕ) → IsFine IsDescription (UseDescribed ops ev de c n)
  fine_use_described c h n = fine_definition IsDescription ops n (λ o. BodyDescribed o.own ev de (enter o [] c) o.body) (λ o e. fine_body (enter o [] c) (enter_holds c o [] h tt) o.own o.body (bodies n o e))

  fine_use : (c : Context) → HoldsValues c → (n : ℕ) (ts : Terms) (at : Place) → InTerms KnowsValue ts → IsFine IsValue (UseEvaluates ops ev de c n ts at)
  fine_use c h n term.NoTerms at k = fine_listed at _ (fine_use_described c h n)
  fine_use c h n (term.MoreTerms ts e) at k =
      fine_then AreAllValues IsValue (Each (ev c) (terms_list (term.MoreTerms ts e))) (λ vs. WithDefinition ops n (λ o. ev (enter o vs c) o.body))
      (fine_terms c h (terms_list (term.MoreTerms ts e)) (know_terms (term.MoreTerms ts e) k))
      (λ vs a. fine_definition IsValue ops n (λ o. ev (enter o vs c) o.body) (λ o e. ev_fine (enter o vs c) (enter_holds c o vs h a) o.body (bodies n o e)))

  -- UNCHANGED

  fine_same : (c : Context) → HoldsValues c → (at : Place) (e : Term) → KnowsValues e → IsFine Any (StaysSame ev c at e)
  fine_same c h at e k =
      fine_then IsValue Any (ev c (prime_of at e)) _ (ev_fine c h (prime_of at e) (know_prime at e k)) (λ v p. fine_then IsValue Any (ev c e) _ (ev_fine c h e k) (λ w q. fine_decides (v ≡ w)))

  fine_means_unchanged : (c : Context) → HoldsValues c → (at : Place) (e : Term) → KnowsValues e → (d : Context) → HoldsValues d → (f : Term) → KnowsValues f → IsFine Any (MeansUnchanged ev c at e d f)
  fine_means_unchanged c h at e k d i (Placed p l (term.Variable x)) j = fine_same c h at (Placed at levels.State (term.Variable x)) (tt, tt)
  fine_means_unchanged c h at e k d i (Placed p l (term.Tuple ts)) j =
      fine_all_true KnowsValues (λ item. TruthOf ev d (unchanged_of at item)) (λ item g. fine_truth d i (unchanged_of at item) (know_unchanged at item g)) (terms_list ts) (know_terms ts j.1)
  fine_means_unchanged c h at e k d i f j = fine_same c h at e k

  fine_unchanged : (c : Context) → HoldsValues c → (at : Place) (e : Term) → KnowsValues e → IsFine Any (IsUnchanged ops ev c at e)
  fine_unchanged c h at e k =
      let found : ℕ × Term = behind ops (length ops) (length c.slots) e in
      fine_means_unchanged c h at e k (within found.0 c) (within_holds c found.0 h) found.1 (know_behind ops bodies (length ops) (length c.slots) e k)

  fine_prefix : (c : Context) → HoldsValues c → (o : PrefixOperator) (e : Term) (at : Place) → KnowsValues e → IsFine IsValue (PrefixEvaluates ops ev de c o e at)
  fine_prefix c h prefix.Not e at k = fine_not (TruthOf ev c e) (fine_truth c h e k)
  fine_prefix c h prefix.Unchanged e at k = fine_is_truth (IsUnchanged ops ev c at e) (fine_unchanged c h at e k)
  fine_prefix c h prefix.Powerset e at k = fine_listed at _ (fine_subsets c h e k)
  fine_prefix c h o e at k =
      fine_then IsValue IsValue (ev c e) (λ v. Operated (PrefixAnswers o v) (place_in at (place_of e ∷ []))) (ev_fine c h e k)
      (λ v p. fine_operated (PrefixAnswers o v) (place_in at (place_of e ∷ [])) (sure_prefix o v))

  -- functions

  fine_index : (c : Context) → HoldsValues c → (at : Place) (ts : Terms) → InTerms KnowsValue ts → IsFine IsValue (StepKey ev c at (term.Index ts))
  fine_index c h at ts k = fine_then AreAllValues IsValue (Each (ev c) (terms_list ts)) (KeyOf at) (fine_terms c h (terms_list ts) (know_terms ts k)) (fine_key at)

  fine_step_key : (c : Context) → HoldsValues c → (at : Place) (s : Step) → InStep KnowsValue s → IsFine Any (StepKey ev c at s)
  fine_step_key c h at term.Prime k = fine_none Any
  fine_step_key c h at (term.Index ts) k = fine_any IsValue _ (fine_index c h at ts k)
  fine_step_key c h at (term.Field n) k = fine_gives Any (string n) tt

  fine_keys : (c : Context) → HoldsValues c → (es : List Term) → AllByRecursion KnowsValues es → IsFine IsDescription (KeysDescribed de c es)
  fine_keys c h [] k = fine_product c h [] k
  fine_keys c h (e ∷ []) k = fine_set c h e k.0
  fine_keys c h (e ∷ f ∷ es) k = fine_product c h (e ∷ f ∷ es) k

  fine_recursion : (c : Context) → HoldsValues c → (at : Place) (g : Recursion) → KnowsRecursion (Some g) → (key : Val) → IsValue key → IsFine IsValue (RecursionEvaluates ev de c at g key)
  fine_recursion c h at g k key p =
      let es : List Term = sets_of_names (bounds_list g.bounds) in
      let vs : List Val = names_at es key in
      fine_then IsDescription IsValue (KeysDescribed de c es) _ (fine_keys c h es (know_sets (bounds_list g.bounds) (know_bounds g.bounds k.0)))
      (λ d q. fine_then Any IsValue (IsIn d key) _ (fine_decides (Belongs d key))
      (λ b r. fine_either IsValue b (ev (bind c vs) g.value) (Fails OutsideDomain at) (ev_fine (bind c vs) (bind_holds c vs h (names_are es key p)) g.value k.1) (fine_fails IsValue OutsideDomain at)))

  fine_step : (c : Context) → HoldsValues c → (p q : Place) (s : Step) → InStep KnowsValue s → (x : Option Recursion) → KnowsApplied s x → (P : Outcome Val) → IsFine IsValue P
      → IsFine IsValue (AtStep ev de c p q s x P)
  fine_step c h p q s k None r P f =
      fine_then IsValue IsValue P _ f
      (λ v g. fine_then Any IsValue (StepKey ev c p s) _ (fine_step_key c h p s k) (λ key i. fine_operated (AppliesAt v key) (place_in p (q ∷ [])) (sure_applies v key g)))
  fine_step c h p q (term.Index ts) k (Some g) r P f =
      fine_then IsValue IsValue (StepKey ev c p (term.Index ts)) _ (fine_index c h p ts k) (λ key i. fine_recursion (within g.around c) (within_holds c g.around h) p g r key i)
  fine_step c h p q s k (Some g) r P f = absurd r

  fine_steps : (c : Context) → HoldsValues c → (e : Term) (ss : Steps) → KnowsValues e → InSteps KnowsValue ss → IsFine IsValue (StepsEvaluate ops ev de c e ss)
  fine_steps c h e term.NoSteps k l = ev_fine c h e k
  fine_steps c h e (term.MoreSteps ss p term.Prime) k l = fine_steps (primed c) (primed_holds c h) e ss k l.0
  fine_steps c h e (term.MoreSteps ss p s) k l =
      fine_step c h p (steps_place (place_of e) ss) s l.1 (applied_by ops e ss s) (know_applied ops bodies e ss s) (StepsEvaluate ops ev de c e ss) (fine_steps c h e ss k l.0)

  fine_changed : (c : Context) → HoldsValues c → (at base : Place) (path : List Step) (new : Term) (f : Val) → AllByRecursion (InStep KnowsValue) path → KnowsValues new → IsValue f
      → IsFine IsValue (Changed ev c at base path new f)
  fine_changed c h at base [] new f k l p = ev_fine (bind c (f ∷ [])) (bind_holds c (f ∷ []) h (p, tt)) new l
  fine_changed c h at base (s ∷ path) new f k l p =
      fine_then Any IsValue (StepKey ev c at s) _ (fine_step_key c h at s k.0)
      (λ key i. fine_at_key base f key (λ old. Then (Changed ev c at base path new old) (λ v. Operated (Excepts f key v) (λ n. at))) p
      (λ old q. fine_then IsValue IsValue (Changed ev c at base path new old) _ (fine_changed c h at base path new old k.1 l q) (λ v g. fine_operated (Excepts f key v) (λ n. at) (sure_excepts f key v p))))

  fine_all_changed : (c : Context) → HoldsValues c → (at base : Place) (cs : List (Steps × Term)) (f : Val) → AllByRecursion KnowsChange cs → IsValue f → IsFine IsValue (AllChanged ev c at base cs f)
  fine_all_changed c h at base [] f k p = fine_gives IsValue f p
  fine_all_changed c h at base (change ∷ cs) f k p =
      fine_then IsValue IsValue (Changed ev c at base (map (λ s. s.1) (steps_list change.0)) change.1 f) (AllChanged ev c at base cs)
      (fine_changed c h at base (map (λ s. s.1) (steps_list change.0)) change.1 f (know_path change.0 k.0.0) k.0.1 p) (λ v g. fine_all_changed c h at base cs v k.1 g)

  -- binders

  fine_members : (c : Context) → HoldsValues c → (e : Term) → KnowsValues e → IsFine AreAllValues (MembersOf ev c e)
  fine_members c h e k = fine_then IsValue AreAllValues (ev c e) (members_at (place_of e)) (ev_fine c h e k) (fine_members_at (place_of e))

  fine_bounds : (c : Context) → HoldsValues c → (bs : Bounds) → InBounds KnowsValue bs → IsFine (AllByRecursion AreAllValues) (BoundValues ev c bs)
  fine_bounds c h bs k =
      fine_then (AllByRecursion (λ u. IsValue u.1)) (AllByRecursion AreAllValues) (Each {B = (ℕ × Place) × Val} (λ b. Then (ev c b.1) (λ v. Gives ((b.0, place_of b.1), v))) (bounds_list bs)) _
      (fine_each {B = (ℕ × Place) × Val} (λ b. KnowsValues b.1) (λ u. IsValue u.1) (λ b. Then (ev c b.1) (λ v. Gives ((b.0, place_of b.1), v)))
      (λ b g. fine_then IsValue (λ u. IsValue u.1) (ev c b.1) _ (ev_fine c h b.1 g) (λ v p. fine_gives (λ u. IsValue u.1) ((b.0, place_of b.1), v) p)) (bounds_list bs) (know_bounds bs k))
      (λ us a. fine_then (AllByRecursion (λ b. AreAllValues b.1)) (AllByRecursion AreAllValues) (Each {B = ℕ × List Val} (λ u. Then (members_at u.0.1 u.1) (λ vs. Gives (u.0.0, vs))) us) _
      (fine_each {B = ℕ × List Val} (λ u. IsValue u.1) (λ b. AreAllValues b.1) (λ u. Then (members_at u.0.1 u.1) (λ vs. Gives (u.0.0, vs)))
      (λ u p. fine_then AreAllValues (λ b. AreAllValues b.1) (members_at u.0.1 u.1) _ (fine_members_at u.0.1 u.1 p) (λ vs q. fine_gives (λ b. AreAllValues b.1) (u.0.0, vs) q)) us a)
      (λ bs b. fine_gives (AllByRecursion AreAllValues) (combinations (ranges bs)) (combinations_are (ranges bs) (ranges_are bs b))))

  fine_test : (c : Context) → HoldsValues c → (e : Term) → KnowsValues e → (vs : List Val) → AreAllValues vs → IsFine Any (TruthOf ev (bind c vs) e)
  fine_test c h e k vs a = fine_truth (bind c vs) (bind_holds c vs h a) e k

  fine_quantified : (c : Context) → HoldsValues c → (q : Quantifier) (bs : Bounds) (e : Term) → InBounds KnowsValue bs → KnowsValues e → IsFine Any (QuantifiedEvaluates ev c q bs e)
  fine_quantified c h quantifier.ForAll bs e k l =
      fine_then (AllByRecursion AreAllValues) Any (BoundValues ev c bs) _ (fine_bounds c h bs k) (fine_all_true AreAllValues (λ chosen. TruthOf ev (bind c chosen) e) (fine_test c h e l))
  fine_quantified c h quantifier.Exists bs e k l =
      fine_then (AllByRecursion AreAllValues) Any (BoundValues ev c bs) _ (fine_bounds c h bs k) (fine_some_true AreAllValues (λ chosen. TruthOf ev (bind c chosen) e) (fine_test c h e l))

  fine_pair_of : (c : Context) → HoldsValues c → (at : Place) (e : Term) → KnowsValues e → (vs : List Val) → AreAllValues vs → IsFine Any (PairOf ev c at e vs)
  fine_pair_of c h at e k vs a =
      fine_then IsValue Any (ev (bind c vs) e) _ (ev_fine (bind c vs) (bind_holds c vs h a) e k) (λ v p. fine_then IsValue Any (KeyOf at vs) _ (fine_key at vs a) (λ key q. fine_gives Any (key, v) tt))

  -- CASE

  fine_arm : (c : Context) → HoldsValues c → (P : Outcome Val) → IsFine IsValue P → (arms : List (Term × Term)) → AllByRecursion KnowsArm arms → IsFine IsValue (FirstArm ev c P arms)
  fine_arm c h P p [] k = p
  fine_arm c h P p (arm ∷ arms) k =
      fine_then Any IsValue (TruthOf ev c arm.0) _ (fine_truth c h arm.0 k.0.0)
      (λ t g. fine_either IsValue t (ev c arm.1) (FirstArm ev c P arms) (ev_fine c h arm.1 k.0.1) (fine_arm c h P p arms k.1))

  -- terms

  pub fine_meaning : (c : Context) → HoldsValues c → (at : Place) (m : Meaning) → KnowsValue m → InParts KnowsValue m → IsFine IsValue (MeaningEvaluates ops ev de c at m)
  fine_meaning c h at (term.Known v) j k = fine_gives IsValue v j
  fine_meaning c h at (term.Named n) j k = fine_listed at (Gives (named_set n)) (fine_gives IsDescription (named_set n) (named_fine n))
  fine_meaning c h at (term.Variable x) j k = fine_known c.now x h.now
  fine_meaning c h at (term.Slot i) j k = fine_slot c.slots i h.slots
  fine_meaning c h at (term.Use n ts) j k = fine_use c h n ts at k
  fine_meaning c h at (term.Standard o ts) j k = fine_standard c h o ts at k
  fine_meaning c h at (term.Parenthesized e) j k = fine_listed at (de c e) (de_fine c h e k)
  fine_meaning c h at (term.Scoped ks e) j k = ev_fine c h e k
  fine_meaning c h at (term.All ts) j k = fine_is_truth _ (fine_all_true KnowsValues (TruthOf ev c) (fine_truth c h) (terms_list ts) (know_terms ts k))
  fine_meaning c h at (term.Any ts) j k = fine_is_truth _ (fine_some_true KnowsValues (TruthOf ev c) (fine_truth c h) (terms_list ts) (know_terms ts k))
  fine_meaning c h at (term.Prefix o e) j k = fine_prefix c h o e at k
  fine_meaning c h at (term.Infix o os e) j k = fine_infix c h o os e at k.0 k.1
  fine_meaning c h at (term.Postfix e ss s) j k = fine_steps c h e (term.MoreSteps ss at s) k.0 (k.1, k.2)
  fine_meaning c h at (term.SetOf ts) j k = fine_then AreAllValues IsValue (Each (ev c) (terms_list ts)) (SetOfAll at) (fine_terms c h (terms_list ts) (know_terms ts k)) (λ vs a. fine_set_of at vs)
  fine_meaning c h at (term.Filter s p) j k =
      fine_then AreAllValues IsValue (MembersOf ev c s) _ (fine_members c h s k.0)
      (λ vs a. fine_then AreAllValues IsValue (Passing (λ v. TruthOf ev (bind c (v ∷ [])) p) vs) (SetOfAll at)
      (fine_passing (λ v. TruthOf ev (bind c (v ∷ [])) p) (λ v q. fine_test c h p k.1 (v ∷ []) (q, tt)) vs a) (λ ws b. fine_set_of at ws))
  fine_meaning c h at (term.Map e bs) j k =
      fine_then (AllByRecursion AreAllValues) IsValue (BoundValues ev c bs) _ (fine_bounds c h bs k.1)
      (λ all a. fine_then AreAllValues IsValue (Each (λ chosen. ev (bind c chosen) e) all) (SetOfAll at)
      (fine_each AreAllValues IsValue (λ chosen. ev (bind c chosen) e) (λ chosen b. ev_fine (bind c chosen) (bind_holds c chosen h b) e k.0) all a) (λ vs b. fine_set_of at vs))
  fine_meaning c h at (term.Tuple ts) j k = fine_then AreAllValues IsValue (Each (ev c) (terms_list ts)) _ (fine_terms c h (terms_list ts) (know_terms ts k)) (λ vs a. fine_sequence_of at vs)
  fine_meaning c h at (term.Function bs e) j k =
      fine_then (AllByRecursion AreAllValues) IsValue (BoundValues ev c bs) _ (fine_bounds c h bs k.0)
      (λ all a. fine_then (AllByRecursion Any) IsValue (Each (PairOf ev c at e) all) (FunctionOfAll at) (fine_each AreAllValues Any (PairOf ev c at e) (fine_pair_of c h at e k.1) all a) (λ ps b. fine_function_of at ps))
  fine_meaning c h at (term.FunctionSet s t) j k = fine_listed at _ (fine_functions c h s t k.0 k.1)
  fine_meaning c h at (term.Record fs) j k =
      fine_then (AllByRecursion Any) IsValue (Each (FieldEvaluates ev c) (fields_list fs)) (FunctionOfAll at)
      (fine_each (λ f. KnowsValues f.1) Any (FieldEvaluates ev c) (λ f g. fine_then IsValue Any (ev c f.1) _ (ev_fine c h f.1 g) (λ v p. fine_gives Any (string f.0, v) tt)) (fields_list fs) (know_fields fs k))
      (λ ps b. fine_function_of at ps)
  fine_meaning c h at (term.RecordSet fs) j k = fine_listed at _ (fine_records c h fs k)
  fine_meaning c h at (term.Except e cs) j k =
      fine_then IsValue IsValue (ev c e) _ (ev_fine c h e k.0) (λ f p. fine_all_changed c h at (place_of e) (changes_list cs) f (know_changes cs k.1) p)
  fine_meaning c h at (term.Quantified q bs e) j k = fine_is_truth _ (fine_quantified c h q bs e k.0 k.1)
  fine_meaning c h at (term.Choose s p) j k =
      fine_then AreAllValues IsValue (MembersOf ev c s) _ (fine_members c h s k.0)
      (fine_first at (λ v. TruthOf ev (bind c (v ∷ [])) p) (λ v q. fine_test c h p k.1 (v ∷ []) (q, tt)))
  fine_meaning c h at (term.If p s t) j k =
      fine_then Any IsValue (TruthOf ev c p) _ (fine_truth c h p k.0) (λ q g. fine_either IsValue q (ev c s) (ev c t) (ev_fine c h s k.1) (ev_fine c h t k.2))
  fine_meaning c h at (term.Case arms) j k = fine_arm c h (Fails NoCase at) (fine_fails IsValue NoCase at) (arms_list arms) (know_arms arms k)
  fine_meaning c h at (term.CaseOther arms e) j k = fine_arm c h (ev c e) (ev_fine c h e k.1) (arms_list arms) (know_arms arms k.0)
  fine_meaning c h at (term.BoxAction a v) j k =
      fine_is_truth _ (fine_some_true KnowsValues (TruthOf ev c) (fine_truth c h) (a ∷ unchanged_of at v ∷ []) (k.0, (know_unchanged at v k.1, tt)))
  fine_meaning c h at (term.AngleAction a v) j k =
      fine_is_truth _ (fine_all_true KnowsValues (TruthOf ev c) (fine_truth c h) (a ∷ changed_of at v ∷ []) (k.0, (know_changed at v k.1, tt)))
  fine_meaning c h at (term.Fairness v a) j k = fine_none IsValue

  fine_value : (c : Context) → HoldsValues c → (at : Place) (m : Meaning) → KnowsValue m → InParts KnowsValue m → IsFine IsDescription (IsValueOf (MeaningEvaluates ops ev de c at m))
  fine_value c h at m j k = fine_then IsValue IsDescription (MeaningEvaluates ops ev de c at m) _ (fine_meaning c h at m j k) (λ v p. fine_gives IsDescription (Listed v) p)

  pub fine_description : (c : Context) → HoldsValues c → (at : Place) (m : Meaning) → KnowsValue m → InParts KnowsValue m → IsFine IsDescription (MeaningDescribes ops ev de c at m)
  fine_description c h at (term.Named n) j k = fine_gives IsDescription (named_set n) (named_fine n)
  fine_description c h at (term.Use n term.NoTerms) j k = fine_use_described c h n
  fine_description c h at (term.Standard standard.Seq ts) j k = fine_sequences c h (terms_list ts) (know_terms ts k)
  fine_description c h at (term.Parenthesized e) j k = de_fine c h e k
  fine_description c h at (term.Prefix prefix.Powerset e) j k = fine_subsets c h e k
  fine_description c h at (term.Infix infix_operator.Interval os e) j k = fine_interval_of c h os e at k.0 k.1
  fine_description c h at (term.Infix infix_operator.CartesianProduct os e) j k =
      fine_product c h (first_operand os ∷ map (λ e. e.1) (other_operands (term.Next os at e))) (know_first os k.0, know_mapped (other_operands (term.Next os at e)) (know_others (term.Next os at e) (k.0, k.1)))
  fine_description c h at (term.Infix infix_operator.Union os e) j k =
      fine_joined_of c h infix_operator.Union (first_operand os) (other_operands (term.Next os at e)) (know_first os k.0) (know_others (term.Next os at e) (k.0, k.1))
  fine_description c h at (term.Infix infix_operator.Intersection os e) j k =
      fine_joined_of c h infix_operator.Intersection (first_operand os) (other_operands (term.Next os at e)) (know_first os k.0) (know_others (term.Next os at e) (k.0, k.1))
  fine_description c h at (term.Infix infix_operator.Difference os e) j k =
      fine_joined_of c h infix_operator.Difference (first_operand os) (other_operands (term.Next os at e)) (know_first os k.0) (know_others (term.Next os at e) (k.0, k.1))
  fine_description c h at (term.FunctionSet s t) j k = fine_functions c h s t k.0 k.1
  fine_description c h at (term.RecordSet fs) j k = fine_records c h fs k
  fine_description c h at m j k = fine_value c h at m j k
