-- What the rows of evaluation are made of, where it speaks of no part of a term: it has an outcome, or tells of those that values have.
use Rattle.std.proofs.Common.{◌≡◌, inl, inr, ap, refl, sym, ◌∙◌, subst, arith, List, [], ◌∷◌}
use Rattle.std.specs.Prelude.{ℕ, suc, Bool, true, false, length, map, if◌then◌else◌, Option, Some, Result, Ok, Err, IsUtf8, Contains, slice_get}
use Rattle.std.specs.List.{AllByRecursion}
use Rattle.base_core.specs.declared.place.Place.{Place}
use Rattle.states_core.specs.declared.fault.Fault.{Fault}
use Rattle.values_core.specs.Data.{Val, model, truth, integer, string, set, function, members}
use Rattle.values_core.specs.IsValue.{IsValue}
use Rattle.values_core.specs.Integers.{int_operands}
use Rattle.values_core.specs.Order.{val_cmp}
use Rattle.values_core.specs.OrderLaws.{val_total}
use Rattle.values_core.specs.Ascending.{head_in, tail_in}
use Rattle.values_core.specs.Sets.{IsSet}
use Rattle.values_core.specs.Functions.{OfValues, keys_in, pairs_in, sequence_of, values_in}
use Rattle.values_core.specs.FunctionLaws.{key_in}
use Rattle.values_core.specs.SetOperations.{AreDifferent, GivesSet}
use Rattle.values_core.specs.FunctionOperations.{GivesFunction, GivesSequence}
use Rattle.values_core.specs.declared.fault.EvalKind.TheVariants.{NoChoice, NotFunction, NotInteger, NotSet}
use Rattle.values_core.specs.declared.fault.OpFault.{OpFault}
use Rattle.reading_trees.specs.declared.operators.InfixOperator.{InfixOperator}
use Rattle.reading_trees.specs.declared.operators.InfixOperator.TheVariants as infix_operator
use Rattle.names_terms.specs.declared.standard.NamedSet.{NamedSet}
use Rattle.names_terms.specs.declared.standard.NamedSet.TheVariants as sets
use Rattle.names_terms.specs.declared.operator.Operator.{Operator}
use Rattle.names_terms.specs.Lists.{bounds_list}
use Rattle.names_terms.specs.Terms.{Term, Bounds, width}
use Rattle.values_operations.proofs.Listing.{ascending_different}
use Rattle.values_operations.proofs.Pairs.{among_cases}
use Rattle.values_sets.specs.DescribedSets as described
use Rattle.values_sets.specs.DescribedSets.{Described, Listed}
use Rattle.values_sets.specs.Membership.{AreOfParts, Belongs, names_of}
use Rattle.values_sets.specs.Soundness.{IsSound, IsString, FieldsAreSound, PartsAreSound}
use Rattle.values_sets.specs.Listings.{Lists, IsListed}
use Rattle.values_sets.proofs.Collecting.{lists_its_members, pair_value}
use Rattle.values_sets.proofs.Loops.{is_in}
use Rattle.values_sets.proofs.Tuples.{values-sequence_of}
use Rattle.eval_meanings.specs.Answers.{is_operation}
use Rattle.eval_meanings.specs.Outcomes.{Outcome, Gives, Then, Either, Operated, fault, place_in}
use Rattle.eval_meanings.specs.Contexts.{Table, Places, IsAt, IsKnown, WithDefinition}
use Rattle.eval_meanings.specs.Operations.{InfixAnswers}
use Rattle.eval_meanings.specs.Sets.{named_set, set_at, list_at, ListedAt, parts_of, fields_of, Between, IntervalDescribed, paired, Joined}
use Rattle.eval_meanings.specs.Binders.{members_at, combinations, ranges, FirstThat, Passing}
use Rattle.eval_meanings.specs.Functions.{KeyOf, AtKey}
use Rattle.eval_meanings.specs.Recursion.{names_at}
use Rattle.eval_meanings.specs.Meanings.{SetOfAll, FunctionOfAll}
use Rattle.eval_meanings.specs.Laws.{AreValues, HoldValues}
use Rattle.eval_meanings.specs.Reads.{Knows, has_value, is_chained}
use Rattle.eval_laws.proofs.SureOperations.{sure_infix}
use Rattle.eval_laws.proofs.FineContexts.{all_in, members_are, AreAllValues, combinations_are, ranges_are}
use Rattle.eval_some_outcome_laws.specs.MadeOfValues.{IsMadeOfValues, AreFieldsOfValues, ArePartsOfValues}
use Rattle.eval_some_outcome_laws.proofs.Answered.{Answered, function_answered, function_or, sequence_answered, set_answered, set_or}
use Rattle.eval_some_outcome_laws.proofs.Listed.{lists_answered}
use Rattle.eval_some_outcome_laws.proofs.Operations.{no, infix_answered}
use Rattle.eval_some_outcome_laws.proofs.Some.{IsSome, Any, some_gives, some_fails, some_then, some_either, Beside, beside_all, beside_differ, map_itself, some_operated}
use Rattle.eval_some_outcome_laws.proofs.Names.{IsKeyOf, combinations_differ, combinations_length, keys_once, names_in, ranges_differ, ranges_length, same_key, same_name, width_names}

-- sets

abbrev pub IsWhole : Described → Type 0
IsWhole d = IsSound d × IsMadeOfValues d

-- a sound set of values, or a value, which may be no set
abbrev pub IsGood : Described → Type 0
IsGood (Listed v) = IsValue v
IsGood d = IsWhole d

pub whole_good : (d : Described) → IsWhole d → IsGood d
whole_good (Listed v) w = w.1
whole_good d w = w

pub named_good : (n : NamedSet) → IsGood (named_set n)
named_good sets.Nat = (tt, tt)
named_good sets.Int = (tt, tt)
named_good sets.Strings = (tt, tt)
named_good sets.Booleans = (tt, tt)

listed_answered : (v : Val) → Answered (IsListed v)
listed_answered v = elim (set_or v) [
  | inl h ↦ inl (Listed v, (h, refl))
  | inr n ↦ inr (NotSet, 0, (n, refl))
]

pub some_set_at : (at : Place) (d : Described) → IsGood d → IsSome IsWhole (set_at at d)
some_set_at at (Listed v) p = some_operated IsWhole (IsListed v) (λ n. at) (listed_answered v) (λ d h. subst IsWhole (sym h.1) (h.0, p))
some_set_at at d p = some_gives IsWhole d p

some_list_at : (at : Place) (d : Described) → IsGood d → IsSome IsValue (list_at at d)
some_list_at at (Listed v) p = some_gives IsValue v p
some_list_at at d p = some_operated IsValue (Lists d) (λ n. at) (lists_answered d p.0 p.1) (λ s l. (lists_its_members d s l).valid)

pub some_listed : (at : Place) (P : Outcome Described) → IsSome IsGood P → IsSome IsValue (ListedAt at P)
some_listed at P p = some_then IsGood IsValue P (list_at at) p (some_list_at at)

interval_answered : (a b : Val) → Answered (Between (int_operands a b))
interval_answered (integer y) (integer z) = inl (described.Interval y z, refl)
interval_answered (integer y) (model s) = inr (NotInteger, 1, refl)
interval_answered (integer y) (truth s) = inr (NotInteger, 1, refl)
interval_answered (integer y) (string s) = inr (NotInteger, 1, refl)
interval_answered (integer y) (set s) = inr (NotInteger, 1, refl)
interval_answered (integer y) (function s) = inr (NotInteger, 1, refl)
interval_answered (model s) b = inr (NotInteger, 0, refl)
interval_answered (truth s) b = inr (NotInteger, 0, refl)
interval_answered (string s) b = inr (NotInteger, 0, refl)
interval_answered (set s) b = inr (NotInteger, 0, refl)
interval_answered (function s) b = inr (NotInteger, 0, refl)

ok_same : (d e : Described) → ◌≡◌ {A = Result Described OpFault} (Ok d) (Ok e) → e ≡ d
ok_same d e q = cc

ok_or : (d : Described) (f : OpFault) → ◌≡◌ {A = Result Described OpFault} (Ok d) (Err f) → ⊥
ok_or d f q = cc

interval_good : (a b : Val) → IsValue a → IsValue b → (d : Described) → Between (int_operands a b) (Ok d) → IsGood d
interval_good (integer y) (integer z) p q d h = subst IsGood (ok_same d (described.Interval y z) h) (tt, (p.canonical, q.canonical))
interval_good (integer y) (model s) p q d h = absurd (ok_or d _ h)
interval_good (integer y) (truth s) p q d h = absurd (ok_or d _ h)
interval_good (integer y) (string s) p q d h = absurd (ok_or d _ h)
interval_good (integer y) (set s) p q d h = absurd (ok_or d _ h)
interval_good (integer y) (function s) p q d h = absurd (ok_or d _ h)
interval_good (model s) b p q d h = absurd (ok_or d _ h)
interval_good (truth s) b p q d h = absurd (ok_or d _ h)
interval_good (string s) b p q d h = absurd (ok_or d _ h)
interval_good (set s) b p q d h = absurd (ok_or d _ h)
interval_good (function s) b p q d h = absurd (ok_or d _ h)

pub some_interval : (at p q : Place) (a b : Val) → IsValue a → IsValue b → IsSome IsGood (IntervalDescribed at p q a b)
some_interval at p q a b h g = some_operated IsGood (Between (int_operands a b)) (place_in at (p ∷ q ∷ [])) (interval_answered a b) (interval_good a b h g)

paired_good : (o : InfixOperator) (d e : Described) → IsWhole d → IsWhole e → IsGood (paired o d e)
paired_good infix_operator.Union d e g h = ((g.0, h.0), (g.1, h.1))
paired_good infix_operator.Intersection d e g h = ((g.0, h.0), (g.1, h.1))
paired_good o d e g h = ((g.0, h.0), (g.1, h.1))

some_pair : (o : InfixOperator) (p q : Place) (d e : Described) → IsGood d → IsGood e → IsSome IsGood (Then (set_at p d) (λ x. Then (set_at q e) (λ y. Gives (paired o x y))))
some_pair o p q d e g h =
    some_then IsWhole IsGood (set_at p d) _ (some_set_at p d g)
    (λ x a. some_then IsWhole IsGood (set_at q e) _ (some_set_at q e h) (λ y b. some_gives IsGood (paired o x y) (paired_good o x y a b)))

pub some_operation : (o : InfixOperator) (a b : Val) (places : ℕ → Place) → IsValue a → IsValue b → is_operation o ≡ true → IsSome IsValue (Operated (InfixAnswers o a b) places)
some_operation o a b places p q t = some_operated IsValue (InfixAnswers o a b) places (infix_answered o a b p q t) (sure_infix o a b p q).value

pub some_joined : (o : InfixOperator) (at p q : Place) (d e : Described) → IsGood d → IsGood e → is_operation o ≡ true → IsSome IsGood (Joined o at p q d e)
some_joined o at p q (Listed a) (Listed b) g h t =
    some_then IsValue IsGood (Operated (InfixAnswers o a b) (place_in at (p ∷ q ∷ []))) _ (some_operation o a b (place_in at (p ∷ q ∷ [])) g h t) (λ v k. some_gives IsGood (Listed v) k)
some_joined o at p q d e g h t = some_pair o p q d e g h

pub product_sound : (ds : List Described) → AllByRecursion IsWhole ds → PartsAreSound (parts_of ds)
product_sound [] a = tt
product_sound (d ∷ ds) a = (a.0.0, product_sound ds a.1)

pub product_values : (ds : List Described) → AllByRecursion IsWhole ds → ArePartsOfValues (parts_of ds)
product_values [] a = tt
product_values (d ∷ ds) a = (a.0.1, product_values ds a.1)

parts_many : (ds : List Described) (vs : List Val) → AreOfParts (parts_of ds) vs → length vs ≡ length ds
parts_many [] [] h = refl
parts_many [] (v ∷ vs) h = absurd h
parts_many (d ∷ ds) [] h = absurd h
parts_many (d ∷ ds) (v ∷ vs) h = ap suc (parts_many ds vs h.1)

-- a set of tuples of one part for each term
abbrev pub IsProductOf : List Term → Described → Type 0
IsProductOf es d = IsWhole d × ((key : Val) → Belongs d key → length (values_in key) ≡ length es)

pub product_keys : (ds : List Described) (n : ℕ) → length ds ≡ n → (key : Val) → Belongs (described.Product (parts_of ds)) key → length (values_in key) ≡ n
product_keys ds n l key b = ap (λ (v : Val). length (values_in v)) b.1 ∙ ap (λ (vs : List Val). length vs) (values-sequence_of b.0) ∙ parts_many ds b.0 b.2 ∙ l

-- fields of a set of records
abbrev pub IsFieldGiven : Val × Described → Type 0
IsFieldGiven e = IsString e.0 × IsWhole e.1

pub records_sound : (es : List (Val × Described)) → AllByRecursion IsFieldGiven es → FieldsAreSound (fields_of es)
records_sound [] a = tt
records_sound (e ∷ es) a = (a.0.0, a.0.1.0, records_sound es a.1)

pub records_values : (es : List (Val × Described)) → AllByRecursion IsFieldGiven es → AreFieldsOfValues (fields_of es)
records_values [] a = tt
records_values (e ∷ es) a = (a.0.1.1, records_values es a.1)

pub records_names : (es : List (Val × Described)) → names_of (fields_of es) ≡ map (λ e. e.0) es
records_names [] = refl
records_names (e ∷ es) = ap (λ (vs : List Val). e.0 ∷ vs) (records_names es)

-- values of terms

abbrev pub IsPart : Term → Place × Described → Type 0
IsPart e d = IsGood d.1

abbrev pub IsPartSet : Place × Described → Described → Type 0
IsPartSet d e = IsWhole e

abbrev pub IsFieldPart : List ℕ × Term → List ℕ × Place × Described → Type 0
IsFieldPart f d = (d.0 ≡ f.0) × IsGood d.2

abbrev pub IsFieldSet : List ℕ × Place × Described → Val × Described → Type 0
IsFieldSet d e = (e.0 ≡ string d.0) × IsWhole e.1

abbrev pub IsFieldOf : List ℕ × Term → Val × Described → Type 0
IsFieldOf f e = (e.0 ≡ string f.0) × IsWhole e.1

pub string_value : (n : List ℕ) → IsUtf8 n → IsValue (string n)
string_value n u = record { canonical = u; shallow = omega arith }

pub field_given : (f : List ℕ × Term) (e : Val × Described) → IsFieldOf f e → IsFieldGiven e
field_given f e h = (subst IsString (sym h.0) tt, h.1)

-- what stands at a name, and the members of a set
abbrev pub AreMembersOf : Val → List Val → Type 0
AreMembersOf v vs = IsSet v × AreAllValues vs × AreDifferent vs

pub some_members_at : (at : Place) (v : Val) → IsValue v → IsSome (AreMembersOf v) (members_at at v)
some_members_at at (set vs) p = some_gives (AreMembersOf (set vs)) (members vs) (tt, members_are vs p, ascending_different val_cmp val_total (members vs) p.canonical.0.ascending)
some_members_at at (model x) p = some_fails (AreMembersOf (model x)) NotSet at
some_members_at at (truth x) p = some_fails (AreMembersOf (truth x)) NotSet at
some_members_at at (integer x) p = some_fails (AreMembersOf (integer x)) NotSet at
some_members_at at (string x) p = some_fails (AreMembersOf (string x)) NotSet at
some_members_at at (function x) p = some_fails (AreMembersOf (function x)) NotSet at

pub some_set_of : (at : Place) (vs : List Val) → AreAllValues vs → IsSome IsValue (SetOfAll at vs)
some_set_of at vs a = some_operated IsValue (GivesSet (Contains vs)) (λ n. at) (set_answered vs (all_in IsValue vs a)) (λ v g. g.valid)

pub some_function_of : (at : Place) (ps : List (Val × Val)) → OfValues ps → AreDifferent (map (λ p. p.0) ps) → IsSome IsValue (FunctionOfAll at ps)
some_function_of at ps a d = some_operated IsValue (GivesFunction (λ key v. Contains ps (key, v))) (λ n. at) (function_answered ps a (keys_once ps d)) (λ v g. g.valid)

pub some_sequence_of : (at : Place) (vs : List Val) → AreAllValues vs → IsSome (λ key. IsValue key × (key ≡ sequence_of vs)) (Operated (GivesSequence vs) (λ n. at))
some_sequence_of at vs a = some_operated (λ key. IsValue key × (key ≡ sequence_of vs)) (GivesSequence vs) (λ n. at) (sequence_answered vs (all_in IsValue vs a)) (λ v g. (g.1, g.0))

pub some_key : (at : Place) (vs : List Val) → AreAllValues vs → IsSome (λ key. IsValue key × IsKeyOf vs key) (KeyOf at vs)
some_key at [] a = some_sequence_of at [] a
some_key at (v ∷ []) a = some_gives (λ key. IsValue key × IsKeyOf (v ∷ []) key) v (a.0, refl)
some_key at (v ∷ w ∷ vs) a = some_sequence_of at (v ∷ w ∷ vs) a

-- what stands in a value is a value
values_are : (v : Val) → IsValue v → AreAllValues (values_in v)
values_are v p = each (pairs_in v) (λ key w h. pair_value v key w p h)
  where
    each : (ps : List (Val × Val)) → ((key w : Val) → Contains ps (key, w) → IsValue w) → AreAllValues (map (λ x. x.1) ps)
    each [] f = tt
    each (x ∷ ps) f = (f x.0 x.1 (head_in x ps), each ps (λ key w h. f key w (tail_in x ps (key, w) h)))

pub names_are : (es : List Term) (key : Val) → IsValue key → AreAllValues (names_at es key)
names_are [] key p = values_are key p
names_are (e ∷ []) key p = (p, tt)
names_are (e ∷ f ∷ es) key p = values_are key p

pub all_with : {X : Type 0} (P Q : X → Type 0) (xs : List X) → AllByRecursion P xs → ((x : X) → Contains xs x → Q x) → AllByRecursion (λ x. P x × Q x) xs
all_with P Q [] a f = tt
all_with P Q (x ∷ xs) a f = ((a.0, f x (head_in x xs)), all_with P Q xs a.1 (λ y h. f y (tail_in x xs y h)))

pub pairs_of_values : (ps : List (Val × Val)) → AllByRecursion (λ p. IsValue p.0 × IsValue p.1) ps → OfValues ps
pairs_of_values ps a key v h = all_in (λ (p : Val × Val). IsValue p.0 × IsValue p.1) ps a (key, v) h

some_same : (v w : Val) → ◌≡◌ {A = Option (Option Val)} (Some (Some v)) (Some (Some w)) → v ≡ w
some_same v w e = cc

slot_same : (v w : Val) → ◌≡◌ {A = Option Val} (Some v) (Some w) → v ≡ w
slot_same v w e = cc

operator_same : (o q : Operator) → ◌≡◌ {A = Option Operator} (Some o) (Some q) → o ≡ q
operator_same o q e = cc

value_same : (v w : Val) → ◌≡◌ {A = Result Val Fault} (Ok w) (Ok v) → v ≡ w
value_same v w e = cc

pub some_known : (places : Places) (x : ℕ) → HoldValues places → Knows places x → IsSome IsValue (IsKnown places x)
some_known places x p k = record {
  some = (Ok k.0, (k.0, k.1, refl));
  good = λ v h. subst (λ (w : Val). IsValue w) (value_same h.0 v h.2) (p h.0 (is_in places x (Some h.0) h.1));
}

pub some_slot : (vs : List Val) (i : ℕ) → AreValues vs → (v : Val) × (slice_get vs i ≡ Some v) → IsSome IsValue (IsAt vs i)
some_slot vs i p k = record {
  some = (Ok k.0, (k.0, k.1, refl));
  good = λ v h. subst (λ (w : Val). IsValue w) (value_same h.0 v h.2) (p h.0 (is_in vs i h.0 h.1));
}

pub some_definition : {A : Type 0} (V : A → Type 0) (ops : Table) (k : ℕ) (P : Operator → Outcome A) (o : Operator) → slice_get ops k ≡ Some o → IsSome V (P o) → IsSome V (WithDefinition ops k P)
some_definition V ops k P o e p = record {
  some = (p.some.0, (o, e, p.some.1));
  good = λ v h. p.good v (subst (λ (q : Operator). P q (Ok v)) (operator_same h.0 o (sym h.1 ∙ e)) h.2);
}

pub some_at_key : (base : Place) (f key : Val) (P : Val → Outcome Val) → IsValue f → ((old : Val) → IsValue old → IsSome IsValue (P old)) → IsSome IsValue (AtKey base f key P)
some_at_key base f key P p k = record { some = by_kind; good = good }
  where
    by_kind : (r : Result Val Fault) × AtKey base f key P r
    by_kind = elim (function_or f) [
      | inl is ↦ elim (among_cases (keys_in f) key) [
        | inl there ↦
            let w = key_in (pairs_in f) key there in
            let n = (k w.0 (pair_value f key w.0 p w.1)).some in
            (n.0, inr (inr (w.0, w.1, n.1)))
        | inr missing ↦ (Ok f, inr (inl (is, missing, refl)))
      ]
      | inr isnt ↦ (Err (fault NotFunction base), inl (isnt, refl))
    ]

    unlike : (v : Val) (e : Fault) → ◌≡◌ {A = Result Val Fault} (Ok v) (Err e) → ⊥
    unlike v e q = cc

    good : (v : Val) → AtKey base f key P (Ok v) → IsValue v
    good v (inl h) = absurd (unlike v _ h.1)
    good v (inr (inl h)) = subst (λ (w : Val). IsValue w) (value_same f v h.2) p
    good v (inr (inr h)) = (k h.0 (pair_value f key h.0 p h.1)).good v h.2

pub some_first : (at : Place) (P : Val → Outcome Bool) → ((v : Val) → IsValue v → IsSome Any (P v)) → (vs : List Val) → AreAllValues vs → IsSome IsValue (FirstThat at P vs)
some_first at P p [] a = some_fails IsValue NoChoice at
some_first at P p (v ∷ vs) a =
    some_then Any IsValue (P v) (λ b. Either b (Gives v) (FirstThat at P vs)) (p v a.0)
    (λ b h. some_either IsValue b (Gives v) (FirstThat at P vs) (λ t. some_gives IsValue v a.0) (some_first at P p vs a.1))

kept_values : (b : Bool) (v : Val) (ws : List Val) → IsValue v → AreAllValues ws → AreAllValues (if b then v ∷ ws else ws)
kept_values true v ws p a = (p, a)
kept_values false v ws p a = a

pub some_passing : (P : Val → Outcome Bool) → ((v : Val) → IsValue v → IsSome Any (P v)) → (vs : List Val) → AreAllValues vs → IsSome AreAllValues (Passing P vs)
some_passing P p [] a = some_gives AreAllValues [] tt
some_passing P p (v ∷ vs) a =
    some_then Any AreAllValues (P v) _ (p v a.0)
    (λ b h. some_then AreAllValues AreAllValues (Passing P vs) _ (some_passing P p vs a.1) (λ ws g. some_gives AreAllValues (if b then v ∷ ws else ws) (kept_values b v ws a.0 g)))

-- bound names

abbrev pub IsBoundValue : ℕ × Term → (ℕ × Place) × Val → Type 0
IsBoundValue b u = (u.0.0 ≡ b.0) × IsValue u.1

abbrev pub IsRange : (ℕ × Place) × Val → ℕ × List Val → Type 0
IsRange u x = (x.0 ≡ u.0.0) × AreAllValues x.1 × AreDifferent x.1

abbrev pub IsRangeOf : ℕ × Term → ℕ × List Val → Type 0
IsRangeOf b x = (x.0 ≡ b.0) × AreAllValues x.1 × AreDifferent x.1

-- combinations of values, a value for each name, and none twice
abbrev pub AreChosen : Bounds → List (List Val) → Type 0
AreChosen bs all = AllByRecursion AreAllValues all × AreDifferent all × ((d : List Val) → Contains all d → length d ≡ width bs)

pub chosen_are : (bs : Bounds) (xs : List (ℕ × List Val)) → Beside IsRangeOf (bounds_list bs) xs → AreChosen bs (combinations (ranges xs))
chosen_are bs xs h = (
  combinations_are (ranges xs) (ranges_are xs (beside_all IsRangeOf (λ x. AreAllValues x.1) (bounds_list bs) xs (λ b x w. w.1) h)),
  combinations_differ (ranges xs) (ranges_differ xs (beside_all IsRangeOf (λ x. AreDifferent x.1) (bounds_list bs) xs (λ b x w. w.2) h)),
  λ d g. combinations_length (ranges xs) d g ∙ ranges_length xs ∙ ap names_in names ∙ sym (width_names bs),
)
  where
    only : (bs : List (ℕ × Term)) (xs : List (ℕ × List Val)) → Beside IsRangeOf bs xs → map (λ (x : ℕ × List Val). x.0) xs ≡ map (λ (b : ℕ × Term). b.0) bs
    only [] [] h = refl
    only [] (x ∷ xs) h = absurd h
    only (b ∷ bs) [] h = absurd h
    only (b ∷ bs) (x ∷ xs) h = let rest = only bs xs h.1 in λ i. h.0.0 i ∷ rest i

    names : map (λ (x : ℕ × List Val). x.0) xs ≡ map (λ (b : ℕ × Term). b.0) (bounds_list bs)
    names = only (bounds_list bs) xs h

-- values of the names of one combination
abbrev pub IsCombination : ℕ → List Val → Type 0
IsCombination n vs = AreAllValues vs × (length vs ≡ n)

pub each_chosen : (bs : Bounds) (all : List (List Val)) → AreChosen bs all → AllByRecursion (IsCombination (width bs)) all
each_chosen bs all a = all_with AreAllValues (λ d. length d ≡ width bs) all a.0 a.2

-- a pair whose key is made of a combination
abbrev pub IsPairOf : ℕ → List Val → Val × Val → Type 0
IsPairOf n vs p = (length vs ≡ n) × IsKeyOf vs p.0 × IsValue p.0 × IsValue p.1

pub pairs_differ : (n : ℕ) (all : List (List Val)) (ps : List (Val × Val)) → Beside (IsPairOf n) all ps → AreDifferent all → AreDifferent (map (λ p. p.0) ps)
pairs_differ n all ps h d =
    beside_differ (IsPairOf n) (λ vs. vs) (λ p. p.0) all ps (λ us vs p q g i e. same_key us vs p.0 (g.0 ∙ sym i.0) g.1 (subst (λ (k : Val). IsKeyOf vs k) (sym e) i.1)) h
    (subst (λ (us : List (List Val)). AreDifferent us) (sym (map_itself all)) d)

-- a pair for a field
abbrev pub IsFieldPair : List ℕ × Term → Val × Val → Type 0
IsFieldPair f p = (p.0 ≡ string f.0) × IsUtf8 f.0 × IsValue p.1

pub fields_differ : (fs : List (List ℕ × Term)) (ps : List (Val × Val)) → Beside IsFieldPair fs ps → AreDifferent (map (λ f. f.0) fs) → AreDifferent (map (λ p. p.0) ps)
fields_differ fs ps h d = beside_differ IsFieldPair (λ f. f.0) (λ p. p.0) fs ps (λ f g p q i j e. same_name f.0 g.0 p.0 i.0 (e ∙ j.0)) h d

pub sets_differ : (fs : List (List ℕ × Term)) (es : List (Val × Described)) → Beside IsFieldOf fs es → AreDifferent (map (λ f. f.0) fs) → AreDifferent (map (λ e. e.0) es)
sets_differ fs es h d = beside_differ IsFieldOf (λ f. f.0) (λ e. e.0) fs es (λ f g p q i j e. same_name f.0 g.0 p.0 i.0 (e ∙ j.0)) h d

-- which operators have rows of their own
abbrev pub has_row : InfixOperator → Bool
has_row infix_operator.Implies = true
has_row infix_operator.Equivalent = true
has_row infix_operator.Member = true
has_row infix_operator.NotMember = true
has_row infix_operator.SubsetOrEqual = true
has_row infix_operator.Interval = true
has_row infix_operator.CartesianProduct = true
has_row o = false

yes : true ≡ false → ⊥
yes e = cc

pub operates : (o : InfixOperator) → has_value o ≡ true → has_row o ≡ false → is_operation o ≡ true
operates infix_operator.LeadsTo e f = absurd (no e)
operates infix_operator.And e f = absurd (no e)
operates infix_operator.Or e f = absurd (no e)
operates infix_operator.Implies e f = absurd (yes f)
operates infix_operator.Equivalent e f = absurd (yes f)
operates infix_operator.Member e f = absurd (yes f)
operates infix_operator.NotMember e f = absurd (yes f)
operates infix_operator.SubsetOrEqual e f = absurd (yes f)
operates infix_operator.Interval e f = absurd (yes f)
operates infix_operator.CartesianProduct e f = absurd (yes f)
operates o e f = refl

pub chained_value : (o : InfixOperator) → is_chained o ≡ true → has_value o ≡ true
chained_value infix_operator.LeadsTo e = e
chained_value infix_operator.And e = e
chained_value infix_operator.Or e = e
chained_value o e = refl
