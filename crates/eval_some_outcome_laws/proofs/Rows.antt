-- Where the parts of a term that can be read have an outcome, the term has one: row by row.
use Rattle.std.proofs.Common.{◌≡◌, inl, inr, ap, refl, sym, ◌∙◌, subst, arith, List, [], ◌∷◌, ◌++◌}
use Rattle.std.specs.Prelude.{ℕ, zero, suc, Bool, true, false, not, length, map, replicate, Option, Some, None, IsTrue, IsUtf8}
use Rattle.std.specs.List.{AllByRecursion}
use Rattle.base_core.specs.declared.place.Place.{Place}
use Rattle.values_core.specs.Data.{Val, truth, string}
use Rattle.values_core.specs.IsValue.{IsValue}
use Rattle.values_core.specs.Sets.{Member, items_of}
use Rattle.values_core.specs.Functions.{sequence_of}
use Rattle.values_core.specs.SetOperations.{AreDifferent}
use Rattle.values_core.specs.FunctionOperations.{GivesSequence, AppliesAt, Excepts}
use Rattle.values_core.specs.declared.fault.EvalKind.TheVariants.{NoCase, OutsideDomain}
use Rattle.reading_trees.specs.declared.operators.PrefixOperator.{PrefixOperator}
use Rattle.reading_trees.specs.declared.operators.PrefixOperator.TheVariants as prefix
use Rattle.reading_trees.specs.declared.operators.InfixOperator.{InfixOperator}
use Rattle.reading_trees.specs.declared.operators.InfixOperator.TheVariants as infix_operator
use Rattle.reading_trees.specs.declared.operators.Quantifier.{Quantifier}
use Rattle.reading_trees.specs.declared.operators.Quantifier.TheVariants as quantifier
use Rattle.names_terms.specs.declared.level.Level.TheVariants as levels
use Rattle.names_terms.specs.declared.standard.StandardOperator.{StandardOperator}
use Rattle.names_terms.specs.declared.standard.StandardOperator.TheVariants as standard
use Rattle.names_terms.specs.declared.operator.Own.{Own}
use Rattle.names_terms.specs.declared.operator.Own.TheVariants as owns
use Rattle.names_terms.specs.Lists.{terms_list, steps_list, bounds_list, fields_list, changes_list, arms_list}
use Rattle.names_terms.specs.Terms as term
use Rattle.names_terms.specs.Terms.{Term, Meaning, Terms, Operands, Step, Steps, Bounds, Fields, Placed, place_of, width}
use Rattle.values_sets.specs.DescribedSets as described
use Rattle.values_sets.specs.DescribedSets.{Described, Listed}
use Rattle.values_sets.specs.Membership.{Belongs, names_of}
use Rattle.values_set_bounds.proofs.Decided.{belongs_or}
use Rattle.eval_meanings.specs.Answers.{arity, is_operation, is_operation_on_one}
use Rattle.eval_meanings.specs.Outcomes.{Outcome, Gives, Fails, Then, Each, truth_at, Operated, place_in}
use Rattle.eval_meanings.specs.Contexts.{Context, Table, Evaluate, Describe, WithDefinition, bind, within, primed, enter}
use Rattle.eval_meanings.specs.Operations.{InfixAnswers, PrefixAnswers, StandardAnswers}
use Rattle.eval_meanings.specs.Sets.{named_set, IsIn, IsWithin, set_at, MeansSet, first_operand, other_operands, PartDescribed, ProductDescribed, FieldDescribed, RecordsDescribed, parts_of, fields_of, Joined, ChainDescribed}
use Rattle.eval_meanings.specs.Binders.{members_at, MembersOf, combinations, ranges, BoundValues, Passing}
use Rattle.eval_meanings.specs.Functions.{KeyOf, StepKey, AtStep, steps_place, StepsEvaluate, Changed, AllChanged}
use Rattle.eval_meanings.specs.Recursion.{Recursion, KeysDescribed, RecursionEvaluates, applied_by, names_at, sets_of_names}
use Rattle.eval_meanings.specs.Unchanged.{TruthOf, prime_of, unchanged_of, changed_of, behind, StaysSame, MeansUnchanged, IsUnchanged}
use Rattle.eval_meanings.specs.Meanings.{ChainEvaluates, both_or_neither, ImplicationHolds, AreEquivalent, IsMemberOf, IsSubsetOf, FunctionsDescribed, SequencesDescribed, SubsetsDescribed, InfixDescribed, InfixEvaluates, PrefixEvaluates, StandardEvaluates, BodyDescribed, UseDescribed, UseEvaluates, FirstArm, SetOfAll, FunctionOfAll, PairOf, QuantifiedEvaluates, FieldEvaluates, MeaningEvaluates, MeaningDescribes, IsValueOf}
use Rattle.eval_meanings.specs.Everywhere.{InParts, InTerms, InOperands, InStep, InSteps, InBounds, InFields}
use Rattle.eval_meanings.specs.Reads.{Reading, ReadsEach, ReadsUnder, UseReads, RecursionReads, StepsRead, PathReads, ChangesRead, ArmsRead, BoundsRead, SameReads, MeansUnchangedReads, UnchangedReads, PrefixReads, InfixReads, MeaningReads}
use Rattle.eval_laws.proofs.SureOperations.{sure_prefix, sure_standard, sure_applies, sure_excepts}
use Rattle.eval_laws.proofs.FineContexts.{HoldsValues, bind_holds, within_holds, primed_holds, enter_holds, AreAllValues}
use Rattle.eval_some_outcome_laws.specs.OfValues.{AreTexts}
use Rattle.eval_some_outcome_laws.proofs.Answered.{all_or_one, equal_or}
use Rattle.eval_some_outcome_laws.proofs.Operations.{no, applies_answered, excepts_answered, prefix_answered, standard_answered}
use Rattle.eval_some_outcome_laws.proofs.Some.{IsSome, Any, some_any, some_as, some_gives, some_fails, some_then, some_either, some_decides, Beside, beside_long, beside_all, beside_both, some_each, some_all_true, some_some_true, some_truth_at, some_is_truth, some_operated}
use Rattle.eval_some_outcome_laws.proofs.Names.{IsKeyOf, sets_length, width_names}
use Rattle.eval_some_outcome_laws.proofs.Written.{WritesValues, AreBodiesWritten, IsArmWritten, IsChangeWritten, IsRecursionWritten, IsWritten, written_arms, written_behind, written_bounds, written_changed, written_changes, written_fields, written_first, written_mapped, written_named, written_others, written_path, written_prime, written_sets, written_terms, written_unchanged}
use Rattle.eval_some_outcome_laws.proofs.Pieces.{IsWhole, IsGood, whole_good, named_good, some_set_at, some_listed, some_interval, some_operation, some_joined, product_sound, product_values, IsProductOf, product_keys, IsFieldGiven, records_sound, records_values, records_names, IsPart, IsPartSet, IsFieldPart, IsFieldSet, IsFieldOf, string_value, field_given, AreMembersOf, some_members_at, some_set_of, some_function_of, some_sequence_of, some_key, names_are, all_with, pairs_of_values, some_known, some_slot, some_definition, some_at_key, some_first, some_passing, IsBoundValue, IsRange, IsRangeOf, AreChosen, chosen_are, IsCombination, each_chosen, IsPairOf, pairs_differ, IsFieldPair, fields_differ, sets_differ, has_row, operates, chained_value}

abbrev pub HasSomeValues : Reading → Evaluate → Type 0
HasSomeValues part ev = (c : Context) → HoldsValues c → (e : Term) → IsWritten e → part c e → IsSome IsValue (ev c e)

abbrev pub HasSomeSets : Reading → Describe → Type 0
HasSomeSets part de = (c : Context) → HoldsValues c → (e : Term) → IsWritten e → part c e → IsSome IsGood (de c e)

module _ (ops : Table) (bodies : AreBodiesWritten ops) (part : Reading) (ev : Evaluate) (de : Describe) (ev_some : HasSomeValues part ev) (de_some : HasSomeSets part de) where
  -- what can be read, and has values alone written in it
  abbrev CanBeRead : Context → Term → Type 0
  CanBeRead c e = IsWritten e × part c e

  both_each : (c : Context) (es : List Term) → AllByRecursion IsWritten es → ReadsEach part c es → AllByRecursion (CanBeRead c) es
  both_each c [] k r = tt
  both_each c (e ∷ es) k r = ((k.0, r.0), both_each c es k.1 r.1)

  both_mapped : {X : Type 0} (f : X → Term) (c : Context) (xs : List X) → AllByRecursion (λ x. IsWritten (f x)) xs → ReadsEach part c (map f xs) → AllByRecursion (λ x. CanBeRead c (f x)) xs
  both_mapped f c [] k r = tt
  both_mapped f c (x ∷ xs) k r = ((k.0, r.0), both_mapped f c xs k.1 r.1)

  some_truth : (c : Context) → HoldsValues c → (e : Term) → IsWritten e → part c e → IsSome Any (TruthOf ev c e)
  some_truth c h e k r = some_then IsValue Any (ev c e) (truth_at (place_of e)) (ev_some c h e k r) (λ v p. some_truth_at (place_of e) v)

  abbrev IsItsValue : Term → Val → Type 0
  IsItsValue e v = IsValue v

  some_terms : (c : Context) → HoldsValues c → (es : List Term) → AllByRecursion IsWritten es → ReadsEach part c es → IsSome (λ vs. AreAllValues vs × (length vs ≡ length es)) (Each (ev c) es)
  some_terms c h es k r =
      some_as (Beside IsItsValue es) (λ vs. AreAllValues vs × (length vs ≡ length es)) (Each (ev c) es) (λ vs b. (beside_all IsItsValue IsValue es vs (λ e v p. p) b, beside_long IsItsValue es vs b))
      (some_each (CanBeRead c) IsItsValue (ev c) (λ e u. ev_some c h e u.0 u.1) es (both_each c es k r))

  -- sets

  some_set : (c : Context) → HoldsValues c → (e : Term) → IsWritten e → part c e → IsSome IsWhole (MeansSet de c e)
  some_set c h e k r = some_then IsGood IsWhole (de c e) (set_at (place_of e)) (de_some c h e k r) (some_set_at (place_of e))

  some_product : (c : Context) → HoldsValues c → (es : List Term) → AllByRecursion IsWritten es → ReadsEach part c es → IsSome (IsProductOf es) (ProductDescribed de c es)
  some_product c h es k r =
      some_then (Beside IsPart es) (IsProductOf es) (Each (PartDescribed de c) es) _
      (some_each (CanBeRead c) IsPart (PartDescribed de c) (λ e u. some_then IsGood (IsPart e) (de c e) _ (de_some c h e u.0 u.1) (λ d p. some_gives (IsPart e) (place_of e, d) p)) es (both_each c es k r))
      (λ ds a. some_then (Beside IsPartSet ds) (IsProductOf es) (Each (λ d. set_at d.0 d.1) ds) _
      (some_each (λ d. IsGood d.1) IsPartSet (λ d. set_at d.0 d.1) (λ d p. some_set_at d.0 d.1 p) ds (beside_all IsPart (λ d. IsGood d.1) es ds (λ e d p. p) a))
      (λ fs b.
      let all = beside_all IsPartSet IsWhole ds fs (λ d e p. p) b in
      let long : length fs ≡ length es = beside_long IsPartSet ds fs b ∙ beside_long IsPart es ds a in
      some_gives (IsProductOf es) (described.Product (parts_of fs)) ((product_sound fs all, product_values fs all), product_keys fs (length es) long)))

  some_product_set : (c : Context) → HoldsValues c → (es : List Term) → AllByRecursion IsWritten es → ReadsEach part c es → IsSome IsGood (ProductDescribed de c es)
  some_product_set c h es k r = some_as (IsProductOf es) IsGood (ProductDescribed de c es) (λ d w. whole_good d w.0) (some_product c h es k r)

  abbrev IsFieldRead : Context → List ℕ × Term → Type 0
  IsFieldRead c f = CanBeRead c f.1 × IsUtf8 f.0

  fields_read : (c : Context) (fs : Fields) → InFields WritesValues fs → AreTexts fs → ReadsEach part c (map (λ f. f.1) (fields_list fs)) → AllByRecursion (IsFieldRead c) (fields_list fs)
  fields_read c fs k n r = all_with (λ f. CanBeRead c f.1) (λ f. IsUtf8 f.0) (fields_list fs) (both_mapped (λ f. f.1) c (fields_list fs) (written_fields fs k) r) n

  some_records : (c : Context) → HoldsValues c → (fs : Fields) → InFields WritesValues fs → AreDifferent (map (λ f. f.0) (fields_list fs)) → ReadsEach part c (map (λ f. f.1) (fields_list fs)) → IsSome IsGood (RecordsDescribed de c fs)
  some_records c h fs k d r =
      some_then (Beside IsFieldPart (fields_list fs)) IsGood (Each (FieldDescribed de c) (fields_list fs)) _
      (some_each (λ f. CanBeRead c f.1) IsFieldPart (FieldDescribed de c)
      (λ f u. some_then IsGood (IsFieldPart f) (de c f.1) _ (de_some c h f.1 u.0 u.1) (λ x p. some_gives (IsFieldPart f) (f.0, place_of f.1, x) (refl, p))) (fields_list fs)
      (both_mapped (λ f. f.1) c (fields_list fs) (written_fields fs k) r))
      (λ ds a. some_then (Beside IsFieldSet ds) IsGood (Each {B = Val × Described} (λ f. Then (set_at f.1 f.2) (λ x. Gives (string f.0, x))) ds) _
      (some_each {B = Val × Described} (λ f. IsGood f.2) IsFieldSet (λ f. Then (set_at f.1 f.2) (λ x. Gives (string f.0, x)))
      (λ f p. some_then IsWhole (IsFieldSet f) (set_at f.1 f.2) _ (some_set_at f.1 f.2 p) (λ x q. some_gives (IsFieldSet f) (string f.0, x) (refl, q))) ds
      (beside_all IsFieldPart (λ f. IsGood f.2) (fields_list fs) ds (λ f x p. p.1) a))
      (λ es b.
      let both = beside_both IsFieldPart IsFieldSet IsFieldOf (fields_list fs) ds es (λ f x e p q. (q.0 ∙ ap string p.0, q.1)) a b in
      let all = beside_all IsFieldOf IsFieldGiven (fields_list fs) es field_given both in
      let apart : AreDifferent (names_of (fields_of es)) = subst (λ (vs : List Val). AreDifferent vs) (sym (records_names es)) (sets_differ (fields_list fs) es both d) in
      some_gives IsGood (described.Records (fields_of es)) ((apart, records_sound es all), records_values es all)))

  some_chain_described : (c : Context) → HoldsValues c → (o : InfixOperator) (p : Place) (d : Described) (es : List (Place × Term)) → is_operation o ≡ true → IsGood d → AllByRecursion (λ e. CanBeRead c e.1) es → IsSome IsGood (ChainDescribed de c o p d es)
  some_chain_described c h o p d [] t g k = some_gives IsGood d g
  some_chain_described c h o p d (e ∷ es) t g k =
      some_then IsGood IsGood (de c e.1) _ (de_some c h e.1 k.0.0 k.0.1)
      (λ f i. some_then IsGood IsGood (Joined o e.0 p (place_of e.1) d f) _ (some_joined o e.0 p (place_of e.1) d f g i t)
      (λ x j. some_chain_described c h o e.0 x es t j k.1))

  some_functions : (c : Context) → HoldsValues c → (s t : Term) → CanBeRead c s → CanBeRead c t → IsSome IsGood (FunctionsDescribed ev de c s t)
  some_functions c h s t k l =
      some_then IsValue IsGood (ev c s) _ (ev_some c h s k.0 k.1)
      (λ v p. some_then IsGood IsGood (de c t) _ (de_some c h t l.0 l.1)
      (λ d q. some_then (AreMembersOf v) IsGood (members_at (place_of s) v) _ (some_members_at (place_of s) v p)
      (λ vs a. some_then IsWhole IsGood (set_at (place_of t) d) _ (some_set_at (place_of t) d q) (λ e g. some_gives IsGood (described.Functions v e) ((a.0, g.0), (p, g.1))))))

  some_sequences : (c : Context) → HoldsValues c → (es : List Term) → AllByRecursion IsWritten es → length es ≡ 1 → ReadsEach part c es → IsSome IsGood (SequencesDescribed de c es)
  some_sequences c h [] k e r = absurd (omega (arith, e))
  some_sequences c h (s ∷ []) k e r = some_then IsWhole IsGood (MeansSet de c s) (λ d. Gives (described.SeqOf d)) (some_set c h s k.0 r.0) (λ d g. some_gives IsGood (described.SeqOf d) g)
  some_sequences c h (s ∷ t ∷ es) k e r = absurd (omega (arith, e))

  some_subsets : (c : Context) → HoldsValues c → (e : Term) → IsWritten e → part c e → IsSome IsGood (SubsetsDescribed de c e)
  some_subsets c h e k r = some_then IsWhole IsGood (MeansSet de c e) _ (some_set c h e k r) (λ d g. some_gives IsGood (described.PowerOf d) g)

  some_interval_of : (c : Context) → HoldsValues c → (os : Operands) (e : Term) (at : Place) → InOperands WritesValues os → IsWritten e → InfixReads part c infix_operator.Interval os at e → IsSome IsGood (InfixDescribed ev de c infix_operator.Interval os e at)
  some_interval_of c h (term.First s) t at k l r =
      some_then IsValue IsGood (ev c s) _ (ev_some c h s k r.1)
      (λ v p. some_then IsValue IsGood (ev c t) _ (ev_some c h t l r.2) (λ w q. some_interval at (place_of s) (place_of t) v w p q))
  some_interval_of c h (term.Next os p e) t at k l r = absurd (no r.0)

  some_joined_of : (c : Context) → HoldsValues c → (o : InfixOperator) (s : Term) (es : List (Place × Term)) → is_operation o ≡ true → CanBeRead c s → AllByRecursion (λ e. CanBeRead c e.1) es
      → IsSome IsGood (Then (de c s) (λ d. ChainDescribed de c o (place_of s) d es))
  some_joined_of c h o s es t k l = some_then IsGood IsGood (de c s) _ (de_some c h s k.0 k.1) (λ d g. some_chain_described c h o (place_of s) d es t g l)

  -- operators

  first_read : (c : Context) (o : InfixOperator) (os : Operands) (at : Place) (e : Term) → InfixReads part c o os at e → part c (first_operand os)
  first_read c o (term.First s) at e r = r.1
  first_read c o (term.Next os p s) at e r = r.1

  others_read : (c : Context) (o : InfixOperator) (os : Operands) (at : Place) (e : Term) → InfixReads part c o os at e → ReadsEach part c (map (λ x. x.1) (other_operands (term.Next os at e)))
  others_read c o (term.First s) at e r = (r.2, tt)
  others_read c o (term.Next os p s) at e r = r.2

  is_operated : (c : Context) (o : InfixOperator) (os : Operands) (at : Place) (e : Term) → InfixReads part c o os at e → has_row o ≡ false → is_operation o ≡ true
  is_operated c o (term.First s) at e r f = operates o r.0 f
  is_operated c o (term.Next os p s) at e r f = operates o (chained_value o r.0) f

  first_can : (c : Context) (o : InfixOperator) (os : Operands) (at : Place) (e : Term) → InOperands WritesValues os → InfixReads part c o os at e → CanBeRead c (first_operand os)
  first_can c o os at e k r = (written_first os k, first_read c o os at e r)

  others_can : (c : Context) (o : InfixOperator) (os : Operands) (at : Place) (e : Term) → InOperands WritesValues os → IsWritten e → InfixReads part c o os at e → AllByRecursion (λ x. CanBeRead c x.1) (other_operands (term.Next os at e))
  others_can c o os at e k l r = both_mapped (λ x. x.1) c (other_operands (term.Next os at e)) (written_others (term.Next os at e) (k, l)) (others_read c o os at e r)

  some_chain : (c : Context) → HoldsValues c → (o : InfixOperator) (p : Place) (v : Val) (es : List (Place × Term)) → is_operation o ≡ true → IsValue v → AllByRecursion (λ e. CanBeRead c e.1) es → IsSome IsValue (ChainEvaluates ev c o p v es)
  some_chain c h o p v [] t g k = some_gives IsValue v g
  some_chain c h o p v (e ∷ es) t g k =
      some_then IsValue IsValue (ev c e.1) _ (ev_some c h e.1 k.0.0 k.0.1)
      (λ w i. some_then IsValue IsValue (Operated (InfixAnswers o v w) (place_in e.0 (p ∷ place_of e.1 ∷ []))) _
      (some_operation o v w (place_in e.0 (p ∷ place_of e.1 ∷ [])) g i t)
      (λ u j. some_chain c h o e.0 u es t j k.1))

  some_member : (c : Context) → HoldsValues c → (s t : Term) → CanBeRead c s → CanBeRead c t → IsSome Any (IsMemberOf ev de c s t)
  some_member c h s t k l =
      some_then IsValue Any (ev c s) _ (ev_some c h s k.0 k.1)
      (λ v p. some_then IsWhole Any (MeansSet de c t) _ (some_set c h t l.0 l.1) (λ d q. some_any (λ b. IsTrue b → Belongs d v) _ (some_decides (Belongs d v) (belongs_or d v))))

  some_subset : (c : Context) → HoldsValues c → (s t : Term) → CanBeRead c s → CanBeRead c t → IsSome Any (IsSubsetOf ev de c s t)
  some_subset c h s t k l =
      some_then IsValue Any (ev c s) _ (ev_some c h s k.0 k.1)
      (λ u p. some_then IsGood Any (de c t) _ (de_some c h t l.0 l.1)
      (λ d q. some_then (AreMembersOf u) Any (members_at (place_of s) u) _ (some_members_at (place_of s) u p)
      (λ us a. some_then IsWhole Any (set_at (place_of t) d) _ (some_set_at (place_of t) d q) (λ e g. within e u))))
    where
      within : (e : Described) (u : Val) → IsSome Any (IsWithin e u)
      within e u = elim (all_or_one (Belongs e) (items_of u) (belongs_or e)) [
        | inl all ↦ some_any (λ b. IsTrue b → (v : Val) → Member v u → Belongs e v) _ (some_decides ((v : Val) → Member v u → Belongs e v) (inl all))
        | inr one ↦ some_any (λ b. IsTrue b → (v : Val) → Member v u → Belongs e v) _ (some_decides ((v : Val) → Member v u → Belongs e v) (inr (λ f. one.2 (f one.0 one.1))))
      ]

  some_implication : (c : Context) → HoldsValues c → (s t : Term) → CanBeRead c s → CanBeRead c t → IsSome Any (ImplicationHolds ev c s t)
  some_implication c h s t k l =
      some_then Any Any (TruthOf ev c s) _ (some_truth c h s k.0 k.1) (λ p g. some_either Any p (TruthOf ev c t) (Gives true) (λ y. some_truth c h t l.0 l.1) (some_gives Any true tt))

  some_equivalent : (c : Context) → HoldsValues c → (s t : Term) → CanBeRead c s → CanBeRead c t → IsSome Any (AreEquivalent ev c s t)
  some_equivalent c h s t k l =
      some_then IsValue Any (ev c s) _ (ev_some c h s k.0 k.1)
      (λ v p. some_then IsValue Any (ev c t) _ (ev_some c h t l.0 l.1)
      (λ w q. some_then Any Any (truth_at (place_of s) v) _ (some_truth_at (place_of s) v)
      (λ x a. some_then Any Any (truth_at (place_of t) w) _ (some_truth_at (place_of t) w) (λ y b. some_gives Any (both_or_neither x y) tt))))

  some_not : (P : Outcome Bool) → IsSome Any P → IsSome IsValue (Then (Then P (λ p. Gives (not p))) (λ b. Gives (truth b)))
  some_not P p = some_is_truth (Then P (λ p. Gives (not p))) (some_then Any Any P _ p (λ b h. some_gives Any (not b) tt))

  some_infix : (c : Context) → HoldsValues c → (o : InfixOperator) (os : Operands) (e : Term) (at : Place) → InOperands WritesValues os → IsWritten e → InfixReads part c o os at e → IsSome IsValue (InfixEvaluates ev de c o os e at)
  some_infix c h infix_operator.Implies (term.First s) t at k l r = some_is_truth (ImplicationHolds ev c s t) (some_implication c h s t (k, r.1) (l, r.2))
  some_infix c h infix_operator.Implies (term.Next os p s) t at k l r = absurd (no r.0)
  some_infix c h infix_operator.Equivalent (term.First s) t at k l r = some_is_truth (AreEquivalent ev c s t) (some_equivalent c h s t (k, r.1) (l, r.2))
  some_infix c h infix_operator.Equivalent (term.Next os p s) t at k l r = absurd (no r.0)
  some_infix c h infix_operator.Member (term.First s) t at k l r = some_is_truth (IsMemberOf ev de c s t) (some_member c h s t (k, r.1) (l, r.2))
  some_infix c h infix_operator.Member (term.Next os p s) t at k l r = absurd (no r.0)
  some_infix c h infix_operator.NotMember (term.First s) t at k l r = some_not (IsMemberOf ev de c s t) (some_member c h s t (k, r.1) (l, r.2))
  some_infix c h infix_operator.NotMember (term.Next os p s) t at k l r = absurd (no r.0)
  some_infix c h infix_operator.SubsetOrEqual (term.First s) t at k l r = some_is_truth (IsSubsetOf ev de c s t) (some_subset c h s t (k, r.1) (l, r.2))
  some_infix c h infix_operator.SubsetOrEqual (term.Next os p s) t at k l r = absurd (no r.0)
  some_infix c h infix_operator.Interval os e at k l r = some_listed at _ (some_interval_of c h os e at k l r)
  some_infix c h infix_operator.CartesianProduct os e at k l r =
      some_listed at _ (some_product_set c h (first_operand os ∷ map (λ e. e.1) (other_operands (term.Next os at e)))
      (written_first os k, written_mapped (other_operands (term.Next os at e)) (written_others (term.Next os at e) (k, l)))
      (first_read c infix_operator.CartesianProduct os at e r, others_read c infix_operator.CartesianProduct os at e r))
  some_infix c h infix_operator.Union os e at k l r =
      some_listed at _ (some_joined_of c h infix_operator.Union (first_operand os) (other_operands (term.Next os at e)) refl (first_can c infix_operator.Union os at e k r) (others_can c infix_operator.Union os at e k l r))
  some_infix c h infix_operator.Intersection os e at k l r =
      some_listed at _ (some_joined_of c h infix_operator.Intersection (first_operand os) (other_operands (term.Next os at e)) refl (first_can c infix_operator.Intersection os at e k r) (others_can c infix_operator.Intersection os at e k l r))
  some_infix c h infix_operator.Difference os e at k l r =
      some_listed at _ (some_joined_of c h infix_operator.Difference (first_operand os) (other_operands (term.Next os at e)) refl (first_can c infix_operator.Difference os at e k r) (others_can c infix_operator.Difference os at e k l r))
  some_infix c h o os e at k l r =
      some_then IsValue IsValue (ev c (first_operand os)) (λ v. ChainEvaluates ev c o (place_of (first_operand os)) v (other_operands (term.Next os at e)))
      (ev_some c h (first_operand os) (written_first os k) (first_read c o os at e r))
      (λ v p. some_chain c h o (place_of (first_operand os)) v (other_operands (term.Next os at e)) (is_operated c o os at e r refl) p (others_can c o os at e k l r))

  abbrev StandardReads : Context → StandardOperator → Terms → Type 0
  StandardReads c o ts = (length (terms_list ts) ≡ arity o) × ReadsEach part c (terms_list ts)

  some_operator : (c : Context) → HoldsValues c → (o : StandardOperator) (ts : Terms) (at : Place) → InTerms WritesValues ts → StandardReads c o ts → ¬ (o ≡ standard.Seq)
      → IsSome IsValue (Then (Each (ev c) (terms_list ts)) (λ vs. Operated (StandardAnswers o vs) (place_in at (map place_of (terms_list ts)))))
  some_operator c h o ts at k r n =
      some_then (λ vs. AreAllValues vs × (length vs ≡ length (terms_list ts))) IsValue (Each (ev c) (terms_list ts)) (λ vs. Operated (StandardAnswers o vs) (place_in at (map place_of (terms_list ts))))
      (some_terms c h (terms_list ts) (written_terms ts k) r.1)
      (λ vs a. some_operated IsValue (StandardAnswers o vs) (place_in at (map place_of (terms_list ts))) (standard_answered o vs a.0 (a.1 ∙ r.0) n) (sure_standard o vs a.0).value)

  some_standard : (c : Context) → HoldsValues c → (o : StandardOperator) (ts : Terms) (at : Place) → InTerms WritesValues ts → StandardReads c o ts → IsSome IsValue (StandardEvaluates ev de c o ts at)
  some_standard c h standard.Seq ts at k r = some_listed at _ (some_sequences c h (terms_list ts) (written_terms ts k) r.0 r.1)
  some_standard c h o ts at k r = some_operator c h o ts at k r (λ e. cc)

  -- uses

  some_value_of : (c : Context) → HoldsValues c → (e : Term) → IsWritten e → part c e → IsSome IsGood (IsValueOf (ev c e))
  some_value_of c h e k r = some_then IsValue IsGood (ev c e) _ (ev_some c h e k r) (λ v p. some_gives IsGood (Listed v) p)

  some_body : (c : Context) → HoldsValues c → (own : Own) (body : Term) → IsWritten body → part c body → IsSome IsGood (BodyDescribed own ev de c body)
  some_body c h owns.Apart body k r = de_some c h body k r
  some_body c h owns.Itself body k r = some_value_of c h body k r
  some_body c h owns.Function body k r = some_value_of c h body k r

  some_use_described : (c : Context) → HoldsValues c → (n : ℕ) → UseReads ops part c n [] → IsSome IsGood (UseDescribed ops ev de c n)
  some_use_described c h n r =
      some_definition IsGood ops n (λ o. BodyDescribed o.own ev de (enter o [] c) o.body) r.0 r.1
      (some_body (enter r.0 [] c) (enter_holds c r.0 [] h tt) r.0.own r.0.body (bodies n r.0 r.1) (r.4 [] refl))

  some_use : (c : Context) → HoldsValues c → (n : ℕ) (ts : Terms) (at : Place) → InTerms WritesValues ts → UseReads ops part c n (terms_list ts) → IsSome IsValue (UseEvaluates ops ev de c n ts at)
  some_use c h n term.NoTerms at k r = some_listed at _ (some_use_described c h n r)
  some_use c h n (term.MoreTerms ts e) at k r =
      let es = terms_list (term.MoreTerms ts e) in
      some_then (λ vs. AreAllValues vs × (length vs ≡ length (terms_list (term.MoreTerms ts e)))) IsValue (Each (ev c) (terms_list (term.MoreTerms ts e))) (λ vs. WithDefinition ops n (λ o. ev (enter o vs c) o.body))
      (some_terms c h (terms_list (term.MoreTerms ts e)) (written_terms (term.MoreTerms ts e) k) r.3)
      (λ vs a. some_definition IsValue ops n (λ o. ev (enter o vs c) o.body) r.0 r.1 (ev_some (enter r.0 vs c) (enter_holds c r.0 vs h a.0) r.0.body (bodies n r.0 r.1) (r.4 vs a.1)))

  -- UNCHANGED

  some_same_value : (c : Context) → HoldsValues c → (at : Place) (e : Term) → IsWritten e → SameReads part c at e → IsSome Any (StaysSame ev c at e)
  some_same_value c h at e k r =
      some_then IsValue Any (ev c (prime_of at e)) _ (ev_some c h (prime_of at e) (written_prime at e k) r.0)
      (λ v p. some_then IsValue Any (ev c e) _ (ev_some c h e k r.1) (λ w q. some_any (λ b. IsTrue b → v ≡ w) _ (some_decides (v ≡ w) (equal_or v w))))

  some_means_unchanged : (c : Context) → HoldsValues c → (at : Place) (e : Term) → IsWritten e → (d : Context) → HoldsValues d → (f : Term) → IsWritten f → MeansUnchangedReads part c at e d f → IsSome Any (MeansUnchanged ev c at e d f)
  some_means_unchanged c h at e k d i (Placed p l (term.Variable x)) j r = some_same_value c h at (Placed at levels.State (term.Variable x)) (tt, tt) r
  some_means_unchanged c h at e k d i (Placed p l (term.Tuple ts)) j r =
      some_all_true (λ item. CanBeRead d (unchanged_of at item)) (λ item. TruthOf ev d (unchanged_of at item)) (λ item u. some_truth d i (unchanged_of at item) u.0 u.1) (terms_list ts)
      (both_mapped (unchanged_of at) d (terms_list ts) (all_unchanged (terms_list ts) (written_terms ts j.1)) r)
    where
      all_unchanged : (es : List Term) → AllByRecursion IsWritten es → AllByRecursion (λ item. IsWritten (unchanged_of at item)) es
      all_unchanged [] a = tt
      all_unchanged (x ∷ xs) a = (written_unchanged at x a.0, all_unchanged xs a.1)
  some_means_unchanged c h at e k d i f j r = some_same_value c h at e k r

  some_unchanged : (c : Context) → HoldsValues c → (at : Place) (e : Term) → IsWritten e → UnchangedReads ops part c at e → IsSome Any (IsUnchanged ops ev c at e)
  some_unchanged c h at e k r =
      let found : ℕ × Term = behind ops (length ops) (length c.slots) e in
      some_means_unchanged c h at e k (within found.0 c) (within_holds c found.0 h) found.1 (written_behind ops bodies (length ops) (length c.slots) e k) r

  some_prefix_operation : (c : Context) → HoldsValues c → (o : PrefixOperator) (e : Term) (at : Place) → IsWritten e → part c e → is_operation_on_one o ≡ true → IsSome IsValue (Then (ev c e) (λ v. Operated (PrefixAnswers o v) (place_in at (place_of e ∷ []))))
  some_prefix_operation c h o e at k r t =
      some_then IsValue IsValue (ev c e) (λ v. Operated (PrefixAnswers o v) (place_in at (place_of e ∷ []))) (ev_some c h e k r)
      (λ v p. some_operated IsValue (PrefixAnswers o v) (place_in at (place_of e ∷ [])) (prefix_answered o v p t) (sure_prefix o v).value)

  some_prefix : (c : Context) → HoldsValues c → (o : PrefixOperator) (e : Term) (at : Place) → IsWritten e → PrefixReads ops part c o at e → IsSome IsValue (PrefixEvaluates ops ev de c o e at)
  some_prefix c h prefix.Not e at k r = some_not (TruthOf ev c e) (some_truth c h e k r)
  some_prefix c h prefix.Unchanged e at k r = some_is_truth (IsUnchanged ops ev c at e) (some_unchanged c h at e k r)
  some_prefix c h prefix.Powerset e at k r = some_listed at _ (some_subsets c h e k r)
  some_prefix c h prefix.Negate e at k r = some_prefix_operation c h prefix.Negate e at k r refl
  some_prefix c h prefix.BigUnion e at k r = some_prefix_operation c h prefix.BigUnion e at k r refl
  some_prefix c h prefix.Domain e at k r = some_prefix_operation c h prefix.Domain e at k r refl
  some_prefix c h prefix.Enabled e at k r = absurd r
  some_prefix c h prefix.Always e at k r = absurd r
  some_prefix c h prefix.Eventually e at k r = absurd r

  -- functions

  some_index : (c : Context) → HoldsValues c → (at : Place) (ts : Terms) → InTerms WritesValues ts → ReadsEach part c (terms_list ts) → IsSome IsValue (StepKey ev c at (term.Index ts))
  some_index c h at ts k r =
      some_then (λ vs. AreAllValues vs × (length vs ≡ length (terms_list ts))) IsValue (Each (ev c) (terms_list ts)) (KeyOf at) (some_terms c h (terms_list ts) (written_terms ts k) r)
      (λ vs a. some_as (λ key. IsValue key × IsKeyOf vs key) IsValue (KeyOf at vs) (λ key w. w.0) (some_key at vs a.0))

  -- the keys of a function that uses itself give each name a value
  abbrev AreKeys : List Term → Described → Type 0
  AreKeys es d = (key : Val) → Belongs d key → length (names_at es key) ≡ length es

  some_keys : (c : Context) → HoldsValues c → (es : List Term) → AllByRecursion IsWritten es → ReadsEach part c es → IsSome (AreKeys es) (KeysDescribed de c es)
  some_keys c h [] k r = some_as (IsProductOf []) (AreKeys []) (ProductDescribed de c []) (λ d w. w.1) (some_product c h [] k r)
  some_keys c h (e ∷ []) k r = some_as IsWhole (AreKeys (e ∷ [])) (MeansSet de c e) (λ d w key b. refl) (some_set c h e k.0 r.0)
  some_keys c h (e ∷ f ∷ es) k r = some_as (IsProductOf (e ∷ f ∷ es)) (AreKeys (e ∷ f ∷ es)) (ProductDescribed de c (e ∷ f ∷ es)) (λ d w. w.1) (some_product c h (e ∷ f ∷ es) k r)

  sets_read : (c : Context) (bs : List (ℕ × Term)) → ReadsEach part c (map (λ b. b.1) bs) → ReadsEach part c (sets_of_names bs)
  sets_read c [] r = tt
  sets_read c (b ∷ bs) r = both (replicate b.0 b.1) (times b.0) (sets_read c bs r.1)
    where
      times : (n : ℕ) → ReadsEach part c (replicate n b.1)
      times zero = tt
      times (suc n) = (r.0, times n)

      both : (es : List Term) → ReadsEach part c es → ReadsEach part c (sets_of_names bs) → ReadsEach part c (es ++ sets_of_names bs)
      both [] g i = i
      both (e ∷ es) g i = (g.0, both es g.1 i)

  some_recursion : (c : Context) → HoldsValues c → (at : Place) (g : Recursion) → IsRecursionWritten (Some g) → ReadsEach part c (map (λ b. b.1) (bounds_list g.bounds)) → ReadsUnder part c (width g.bounds) g.value → (key : Val) → IsValue key
      → IsSome IsValue (RecursionEvaluates ev de c at g key)
  some_recursion c h at g k r u key p =
      let es : List Term = sets_of_names (bounds_list g.bounds) in
      let vs : List Val = names_at es key in
      let long : length es ≡ width g.bounds = sets_length (bounds_list g.bounds) ∙ sym (width_names g.bounds) in
      some_then (AreKeys es) IsValue (KeysDescribed de c es) _ (some_keys c h es (written_sets (bounds_list g.bounds) (written_bounds g.bounds k.0)) (sets_read c (bounds_list g.bounds) r))
      (λ d q. some_then (λ b. IsTrue b → Belongs d key) IsValue (IsIn d key) _ (some_decides (Belongs d key) (belongs_or d key))
      (λ b w. some_either IsValue b (ev (bind c vs) g.value) (Fails OutsideDomain at)
      (λ t. ev_some (bind c vs) (bind_holds c vs h (names_are es key p)) g.value k.1 (u vs (q key (w t) ∙ long))) (some_fails IsValue OutsideDomain at)))

  some_applied : (c : Context) (p q : Place) (s : Step) → IsSome Any (StepKey ev c p s) → (P : Outcome Val) → IsSome IsValue P → IsSome IsValue (AtStep ev de c p q s None P)
  some_applied c p q s k P f =
      some_then IsValue IsValue P _ f
      (λ v g. some_then Any IsValue (StepKey ev c p s) _ k (λ key i. some_operated IsValue (AppliesAt v key) (place_in p (q ∷ [])) (applies_answered v key) (sure_applies v key g).value))

  some_index_step : (c : Context) → HoldsValues c → (p q : Place) (ts : Terms) → InTerms WritesValues ts → ReadsEach part c (terms_list ts) → (x : Option Recursion) → IsRecursionWritten x → RecursionReads part c x → (P : Outcome Val) → IsSome IsValue P
      → IsSome IsValue (AtStep ev de c p q (term.Index ts) x P)
  some_index_step c h p q ts k r None l s P f = some_applied c p q (term.Index ts) (some_any IsValue _ (some_index c h p ts k r)) P f
  some_index_step c h p q ts k r (Some g) l s P f =
      some_then IsValue IsValue (StepKey ev c p (term.Index ts)) _ (some_index c h p ts k r) (λ key i. some_recursion (within g.around c) (within_holds c g.around h) p g l s.1 s.2 key i)

  written_applied : (e : Term) (ss : Steps) (ts : Terms) → IsRecursionWritten (applied_by ops e ss (term.Index ts))
  written_applied e term.NoSteps ts = written_named ops bodies e
  written_applied e (term.MoreSteps ss p s) ts = tt

  field_applied : (e : Term) (ss : Steps) (n : List ℕ) → applied_by ops e ss (term.Field n) ≡ None
  field_applied e term.NoSteps n = refl
  field_applied e (term.MoreSteps ss p s) n = refl

  some_steps : (c : Context) → HoldsValues c → (e : Term) (ss : Steps) → IsWritten e → InSteps WritesValues ss → StepsRead ops part c e ss → IsSome IsValue (StepsEvaluate ops ev de c e ss)
  some_steps c h e term.NoSteps k l r = ev_some c h e k r
  some_steps c h e (term.MoreSteps ss p term.Prime) k l r = some_steps (primed c) (primed_holds c h) e ss k l.0 r
  some_steps c h e (term.MoreSteps ss p (term.Index ts)) k l r =
      some_index_step c h p (steps_place (place_of e) ss) ts l.1 r.1 (applied_by ops e ss (term.Index ts)) (written_applied e ss ts) r.2 (StepsEvaluate ops ev de c e ss) (some_steps c h e ss k l.0 r.0)
  some_steps c h e (term.MoreSteps ss p (term.Field n)) k l r =
      let P : Outcome Val = StepsEvaluate ops ev de c e ss in
      subst (λ (x : Option Recursion). IsSome IsValue (AtStep ev de c p (steps_place (place_of e) ss) (term.Field n) x P)) (sym (field_applied e ss n))
      (some_applied c p (steps_place (place_of e) ss) (term.Field n) (some_gives Any (string n) tt) P (some_steps c h e ss k l.0 r))

  -- one step of a path
  some_change : (c : Context) (at base : Place) (s : Step) (path : List Step) (new : Term) (f : Val) → IsSome Any (StepKey ev c at s) → IsValue f → ((old : Val) → IsValue old → IsSome IsValue (Changed ev c at base path new old))
      → IsSome IsValue (Changed ev c at base (s ∷ path) new f)
  some_change c at base s path new f k p rest =
      some_then Any IsValue (StepKey ev c at s) _ k
      (λ key i. some_at_key base f key (λ old. Then (Changed ev c at base path new old) (λ v. Operated (Excepts f key v) (λ n. at))) p
      (λ old q. some_then IsValue IsValue (Changed ev c at base path new old) _ (rest old q) (λ v g. some_operated IsValue (Excepts f key v) (λ n. at) (excepts_answered f key v p g) (sure_excepts f key v p).value)))

  some_changed : (c : Context) → HoldsValues c → (at base : Place) (path : List Step) (new : Term) (f : Val) → AllByRecursion (InStep WritesValues) path → IsWritten new → IsValue f → PathReads part c path → ReadsUnder part c 1 new
      → IsSome IsValue (Changed ev c at base path new f)
  some_changed c h at base [] new f k l p r u = ev_some (bind c (f ∷ [])) (bind_holds c (f ∷ []) h (p, tt)) new l (u (f ∷ []) refl)
  some_changed c h at base (term.Prime ∷ path) new f k l p r u = absurd r
  some_changed c h at base (term.Index ts ∷ path) new f k l p r u =
      some_change c at base (term.Index ts) path new f (some_any IsValue _ (some_index c h at ts k.0 r.0)) p (λ old q. some_changed c h at base path new old k.1 l q r.1 u)
  some_changed c h at base (term.Field n ∷ path) new f k l p r u =
      some_change c at base (term.Field n) path new f (some_gives Any (string n) tt) p (λ old q. some_changed c h at base path new old k.1 l q r u)

  some_all_changed : (c : Context) → HoldsValues c → (at base : Place) (cs : List (Steps × Term)) (f : Val) → AllByRecursion IsChangeWritten cs → IsValue f → ChangesRead part c cs → IsSome IsValue (AllChanged ev c at base cs f)
  some_all_changed c h at base [] f k p r = some_gives IsValue f p
  some_all_changed c h at base (change ∷ cs) f k p r =
      some_then IsValue IsValue (Changed ev c at base (map (λ s. s.1) (steps_list change.0)) change.1 f) (AllChanged ev c at base cs)
      (some_changed c h at base (map (λ s. s.1) (steps_list change.0)) change.1 f (written_path change.0 k.0.0) k.0.1 p r.0 r.1) (λ v g. some_all_changed c h at base cs v k.1 g r.2)

  -- binders

  some_members : (c : Context) → HoldsValues c → (e : Term) → IsWritten e → part c e → IsSome AreAllValues (MembersOf ev c e)
  some_members c h e k r =
      some_then IsValue AreAllValues (ev c e) (members_at (place_of e)) (ev_some c h e k r) (λ v p. some_as (AreMembersOf v) AreAllValues (members_at (place_of e) v) (λ vs a. a.1) (some_members_at (place_of e) v p))

  some_bounds : (c : Context) → HoldsValues c → (bs : Bounds) → InBounds WritesValues bs → BoundsRead part c bs → IsSome (AreChosen bs) (BoundValues ev c bs)
  some_bounds c h bs k r =
      some_then (Beside IsBoundValue (bounds_list bs)) (AreChosen bs) (Each {B = (ℕ × Place) × Val} (λ b. Then (ev c b.1) (λ v. Gives ((b.0, place_of b.1), v))) (bounds_list bs)) _
      (some_each {B = (ℕ × Place) × Val} (λ b. CanBeRead c b.1) IsBoundValue (λ b. Then (ev c b.1) (λ v. Gives ((b.0, place_of b.1), v)))
      (λ b u. some_then IsValue (IsBoundValue b) (ev c b.1) _ (ev_some c h b.1 u.0 u.1) (λ v p. some_gives (IsBoundValue b) ((b.0, place_of b.1), v) (refl, p))) (bounds_list bs) (both_mapped (λ b. b.1) c (bounds_list bs) (written_bounds bs k) r))
      (λ us a. some_then (Beside IsRange us) (AreChosen bs) (Each {B = ℕ × List Val} (λ u. Then (members_at u.0.1 u.1) (λ vs. Gives (u.0.0, vs))) us) _
      (some_each {B = ℕ × List Val} (λ u. IsValue u.1) IsRange (λ u. Then (members_at u.0.1 u.1) (λ vs. Gives (u.0.0, vs)))
      (λ u p. some_then (AreMembersOf u.1) (IsRange u) (members_at u.0.1 u.1) _ (some_members_at u.0.1 u.1 p) (λ vs q. some_gives (IsRange u) (u.0.0, vs) (refl, q.1, q.2))) us
      (beside_all IsBoundValue (λ u. IsValue u.1) (bounds_list bs) us (λ b u p. p.1) a))
      (λ xs b. some_gives (AreChosen bs) (combinations (ranges xs))
      (chosen_are bs xs (beside_both IsBoundValue IsRange IsRangeOf (bounds_list bs) us xs (λ y u x p q. (q.0 ∙ p.0, q.1, q.2)) a b))))

  some_test : (c : Context) → HoldsValues c → (e : Term) → IsWritten e → (n : ℕ) → ReadsUnder part c n e → (vs : List Val) → IsCombination n vs → IsSome Any (TruthOf ev (bind c vs) e)
  some_test c h e k n u vs a = some_truth (bind c vs) (bind_holds c vs h a.0) e k (u vs a.1)

  some_quantified : (c : Context) → HoldsValues c → (q : Quantifier) (bs : Bounds) (e : Term) → InBounds WritesValues bs → IsWritten e → BoundsRead part c bs → ReadsUnder part c (width bs) e → IsSome Any (QuantifiedEvaluates ev c q bs e)
  some_quantified c h quantifier.ForAll bs e k l r u =
      some_then (AreChosen bs) Any (BoundValues ev c bs) _ (some_bounds c h bs k r)
      (λ all a. some_all_true (IsCombination (width bs)) (λ chosen. TruthOf ev (bind c chosen) e) (some_test c h e l (width bs) u) all (each_chosen bs all a))
  some_quantified c h quantifier.Exists bs e k l r u =
      some_then (AreChosen bs) Any (BoundValues ev c bs) _ (some_bounds c h bs k r)
      (λ all a. some_some_true (IsCombination (width bs)) (λ chosen. TruthOf ev (bind c chosen) e) (some_test c h e l (width bs) u) all (each_chosen bs all a))

  some_pair_of : (c : Context) → HoldsValues c → (at : Place) (e : Term) → IsWritten e → (n : ℕ) → ReadsUnder part c n e → (vs : List Val) → IsCombination n vs → IsSome (IsPairOf n vs) (PairOf ev c at e vs)
  some_pair_of c h at e k n u vs a =
      some_then IsValue (IsPairOf n vs) (ev (bind c vs) e) _ (ev_some (bind c vs) (bind_holds c vs h a.0) e k (u vs a.1))
      (λ v p. some_then (λ key. IsValue key × IsKeyOf vs key) (IsPairOf n vs) (KeyOf at vs) _ (some_key at vs a.0) (λ key q. some_gives (IsPairOf n vs) (key, v) (a.1, q.1, q.0, p)))

  -- CASE

  some_arm : (c : Context) → HoldsValues c → (P : Outcome Val) → IsSome IsValue P → (arms : List (Term × Term)) → AllByRecursion IsArmWritten arms → ArmsRead part c arms → IsSome IsValue (FirstArm ev c P arms)
  some_arm c h P p [] k r = p
  some_arm c h P p (arm ∷ arms) k r =
      some_then Any IsValue (TruthOf ev c arm.0) _ (some_truth c h arm.0 k.0.0 r.0)
      (λ t g. some_either IsValue t (ev c arm.1) (FirstArm ev c P arms) (λ y. ev_some c h arm.1 k.0.1 r.1) (some_arm c h P p arms k.1 r.2))

  -- terms

  some_record : (c : Context) → HoldsValues c → (at : Place) (fs : Fields) → AreTexts fs → InFields WritesValues fs → AreDifferent (map (λ f. f.0) (fields_list fs)) → ReadsEach part c (map (λ f. f.1) (fields_list fs))
      → IsSome IsValue (Then (Each (FieldEvaluates ev c) (fields_list fs)) (FunctionOfAll at))
  some_record c h at fs n k d r =
      some_then (Beside IsFieldPair (fields_list fs)) IsValue (Each (FieldEvaluates ev c) (fields_list fs)) (FunctionOfAll at)
      (some_each (IsFieldRead c) IsFieldPair (FieldEvaluates ev c)
      (λ f u. some_then IsValue (IsFieldPair f) (ev c f.1) _ (ev_some c h f.1 u.0.0 u.0.1) (λ v p. some_gives (IsFieldPair f) (string f.0, v) (refl, u.1, p))) (fields_list fs) (fields_read c fs k n r))
      (λ ps b. some_function_of at ps
      (pairs_of_values ps (beside_all IsFieldPair (λ p. IsValue p.0 × IsValue p.1) (fields_list fs) ps (λ f p q. (subst (λ (v : Val). IsValue v) (sym q.0) (string_value f.0 q.1), q.2)) b))
      (fields_differ (fields_list fs) ps b d))

  pub some_meaning : (c : Context) → HoldsValues c → (at : Place) (m : Meaning) → WritesValues m → InParts WritesValues m → MeaningReads ops part c at m → IsSome IsValue (MeaningEvaluates ops ev de c at m)
  some_meaning c h at (term.Known v) j k r = some_gives IsValue v j
  some_meaning c h at (term.Named n) j k r = some_listed at (Gives (named_set n)) (some_gives IsGood (named_set n) (named_good n))
  some_meaning c h at (term.Variable x) j k r = some_known c.now x h.now r
  some_meaning c h at (term.Slot i) j k r = some_slot c.slots i h.slots r
  some_meaning c h at (term.Use n ts) j k r = some_use c h n ts at k r
  some_meaning c h at (term.Standard o ts) j k r = some_standard c h o ts at k r
  some_meaning c h at (term.Parenthesized e) j k r = some_listed at (de c e) (de_some c h e k r)
  some_meaning c h at (term.Scoped ks e) j k r = ev_some c h e k r
  some_meaning c h at (term.All ts) j k r = some_is_truth _ (some_all_true (CanBeRead c) (TruthOf ev c) (λ e u. some_truth c h e u.0 u.1) (terms_list ts) (both_each c (terms_list ts) (written_terms ts k) r))
  some_meaning c h at (term.Any ts) j k r = some_is_truth _ (some_some_true (CanBeRead c) (TruthOf ev c) (λ e u. some_truth c h e u.0 u.1) (terms_list ts) (both_each c (terms_list ts) (written_terms ts k) r))
  some_meaning c h at (term.Prefix o e) j k r = some_prefix c h o e at k r
  some_meaning c h at (term.Infix o os e) j k r = some_infix c h o os e at k.0 k.1 r
  some_meaning c h at (term.Postfix e ss s) j k r = some_steps c h e (term.MoreSteps ss at s) k.0 (k.1, k.2) r
  some_meaning c h at (term.SetOf ts) j k r =
      some_then (λ vs. AreAllValues vs × (length vs ≡ length (terms_list ts))) IsValue (Each (ev c) (terms_list ts)) (SetOfAll at) (some_terms c h (terms_list ts) (written_terms ts k) r) (λ vs a. some_set_of at vs a.0)
  some_meaning c h at (term.Filter s p) j k r =
      some_then AreAllValues IsValue (MembersOf ev c s) _ (some_members c h s k.0 r.0)
      (λ vs a. some_then AreAllValues IsValue (Passing (λ v. TruthOf ev (bind c (v ∷ [])) p) vs) (SetOfAll at)
      (some_passing (λ v. TruthOf ev (bind c (v ∷ [])) p) (λ v q. some_test c h p k.1 1 r.1 (v ∷ []) ((q, tt), refl)) vs a) (λ ws b. some_set_of at ws b))
  some_meaning c h at (term.Map e bs) j k r =
      some_then (AreChosen bs) IsValue (BoundValues ev c bs) _ (some_bounds c h bs k.1 r.0)
      (λ all a. some_then (Beside (λ chosen v. IsValue v) all) IsValue (Each (λ chosen. ev (bind c chosen) e) all) (SetOfAll at)
      (some_each (IsCombination (width bs)) (λ chosen v. IsValue v) (λ chosen. ev (bind c chosen) e) (λ chosen b. ev_some (bind c chosen) (bind_holds c chosen h b.0) e k.0 (r.1 chosen b.1)) all (each_chosen bs all a))
      (λ vs b. some_set_of at vs (beside_all (λ chosen v. IsValue v) IsValue all vs (λ chosen v p. p) b)))
  some_meaning c h at (term.Tuple ts) j k r =
      some_then (λ vs. AreAllValues vs × (length vs ≡ length (terms_list ts))) IsValue (Each (ev c) (terms_list ts)) _ (some_terms c h (terms_list ts) (written_terms ts k) r)
      (λ vs a. some_as (λ key. IsValue key × (key ≡ sequence_of vs)) IsValue (Operated (GivesSequence vs) (λ n. at)) (λ v w. w.0) (some_sequence_of at vs a.0))
  some_meaning c h at (term.Function bs e) j k r =
      some_then (AreChosen bs) IsValue (BoundValues ev c bs) _ (some_bounds c h bs k.0 r.0)
      (λ all a. some_then (Beside (IsPairOf (width bs)) all) IsValue (Each (PairOf ev c at e) all) (FunctionOfAll at)
      (some_each (IsCombination (width bs)) (IsPairOf (width bs)) (PairOf ev c at e) (some_pair_of c h at e k.1 (width bs) r.1) all (each_chosen bs all a))
      (λ ps b. some_function_of at ps (pairs_of_values ps (beside_all (IsPairOf (width bs)) (λ p. IsValue p.0 × IsValue p.1) all ps (λ chosen p q. (q.2, q.3)) b)) (pairs_differ (width bs) all ps b a.1)))
  some_meaning c h at (term.FunctionSet s t) j k r = some_listed at _ (some_functions c h s t (k.0, r.0) (k.1, r.1))
  some_meaning c h at (term.Record fs) j k r = some_record c h at fs j k r.0 r.1
  some_meaning c h at (term.RecordSet fs) j k r = some_listed at _ (some_records c h fs k r.0 r.1)
  some_meaning c h at (term.Except e cs) j k r =
      some_then IsValue IsValue (ev c e) _ (ev_some c h e k.0 r.0) (λ f p. some_all_changed c h at (place_of e) (changes_list cs) f (written_changes cs k.1) p r.1)
  some_meaning c h at (term.Quantified q bs e) j k r = some_is_truth _ (some_quantified c h q bs e k.0 k.1 r.0 r.1)
  some_meaning c h at (term.Choose s p) j k r =
      some_then AreAllValues IsValue (MembersOf ev c s) _ (some_members c h s k.0 r.0)
      (some_first at (λ v. TruthOf ev (bind c (v ∷ [])) p) (λ v q. some_test c h p k.1 1 r.1 (v ∷ []) ((q, tt), refl)))
  some_meaning c h at (term.If p s t) j k r =
      some_then Any IsValue (TruthOf ev c p) _ (some_truth c h p k.0 r.0) (λ q g. some_either IsValue q (ev c s) (ev c t) (λ y. ev_some c h s k.1 r.1) (ev_some c h t k.2 r.2))
  some_meaning c h at (term.Case arms) j k r = some_arm c h (Fails NoCase at) (some_fails IsValue NoCase at) (arms_list arms) (written_arms arms k) r
  some_meaning c h at (term.CaseOther arms e) j k r = some_arm c h (ev c e) (ev_some c h e k.1 r.1) (arms_list arms) (written_arms arms k.0) r.0
  some_meaning c h at (term.BoxAction a v) j k r =
      some_is_truth _ (some_some_true (CanBeRead c) (TruthOf ev c) (λ e u. some_truth c h e u.0 u.1) (a ∷ unchanged_of at v ∷ []) ((k.0, r.0), ((written_unchanged at v k.1, r.1), tt)))
  some_meaning c h at (term.AngleAction a v) j k r =
      some_is_truth _ (some_all_true (CanBeRead c) (TruthOf ev c) (λ e u. some_truth c h e u.0 u.1) (a ∷ changed_of at v ∷ []) ((k.0, r.0), ((written_changed at v k.1, r.1), tt)))
  some_meaning c h at (term.Fairness v a) j k r = absurd r

  some_value : (c : Context) → HoldsValues c → (at : Place) (m : Meaning) → WritesValues m → InParts WritesValues m → MeaningReads ops part c at m → IsSome IsGood (IsValueOf (MeaningEvaluates ops ev de c at m))
  some_value c h at m j k r = some_then IsValue IsGood (MeaningEvaluates ops ev de c at m) _ (some_meaning c h at m j k r) (λ v p. some_gives IsGood (Listed v) p)

  pub some_description : (c : Context) → HoldsValues c → (at : Place) (m : Meaning) → WritesValues m → InParts WritesValues m → MeaningReads ops part c at m → IsSome IsGood (MeaningDescribes ops ev de c at m)
  some_description c h at (term.Named n) j k r = some_gives IsGood (named_set n) (named_good n)
  some_description c h at (term.Use n term.NoTerms) j k r = some_use_described c h n r
  some_description c h at (term.Standard standard.Seq ts) j k r = some_sequences c h (terms_list ts) (written_terms ts k) r.0 r.1
  some_description c h at (term.Parenthesized e) j k r = de_some c h e k r
  some_description c h at (term.Prefix prefix.Powerset e) j k r = some_subsets c h e k r
  some_description c h at (term.Infix infix_operator.Interval os e) j k r = some_interval_of c h os e at k.0 k.1 r
  some_description c h at (term.Infix infix_operator.CartesianProduct os e) j k r =
      some_product_set c h (first_operand os ∷ map (λ e. e.1) (other_operands (term.Next os at e)))
      (written_first os k.0, written_mapped (other_operands (term.Next os at e)) (written_others (term.Next os at e) (k.0, k.1)))
      (first_read c infix_operator.CartesianProduct os at e r, others_read c infix_operator.CartesianProduct os at e r)
  some_description c h at (term.Infix infix_operator.Union os e) j k r =
      some_joined_of c h infix_operator.Union (first_operand os) (other_operands (term.Next os at e)) refl (first_can c infix_operator.Union os at e k.0 r) (others_can c infix_operator.Union os at e k.0 k.1 r)
  some_description c h at (term.Infix infix_operator.Intersection os e) j k r =
      some_joined_of c h infix_operator.Intersection (first_operand os) (other_operands (term.Next os at e)) refl (first_can c infix_operator.Intersection os at e k.0 r) (others_can c infix_operator.Intersection os at e k.0 k.1 r)
  some_description c h at (term.Infix infix_operator.Difference os e) j k r =
      some_joined_of c h infix_operator.Difference (first_operand os) (other_operands (term.Next os at e)) refl (first_can c infix_operator.Difference os at e k.0 r) (others_can c infix_operator.Difference os at e k.0 k.1 r)
  some_description c h at (term.FunctionSet s t) j k r = some_functions c h s t (k.0, r.0) (k.1, r.1)
  some_description c h at (term.RecordSet fs) j k r = some_records c h fs k r.0 r.1
  some_description c h at m j k r = some_value c h at m j k r
