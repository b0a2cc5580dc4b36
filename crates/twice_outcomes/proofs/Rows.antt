-- Where the parts of alike terms have the same outcomes, the terms do: row by row.
use Rattle.std.proofs.Common.{◌≡◌, refl, subst, inl, inr, List, [], ◌∷◌, ◌++◌, map, take}
use Rattle.std.specs.Prelude.{ℕ, Bool, true, not, Option, Some, None, Ok, Result, length, slice_get}
use Rattle.std.specs.List.{AllZip}
use Rattle.base_core.specs.declared.place.Place.{Place}
use Rattle.values_core.specs.Data.{Val, string}
use Rattle.values_core.specs.FunctionOperations.{GivesSequence, AppliesAt}
use Rattle.values_core.specs.declared.fault.EvalKind.TheVariants.{NoCase, OutsideDomain}
use Rattle.states_core.specs.declared.fault.Fault.{Fault}
use Rattle.reading_trees.specs.declared.operators.PrefixOperator.{PrefixOperator}
use Rattle.reading_trees.specs.declared.operators.PrefixOperator.TheVariants as prefix
use Rattle.reading_trees.specs.declared.operators.InfixOperator.{InfixOperator}
use Rattle.reading_trees.specs.declared.operators.InfixOperator.TheVariants as infix_operator
use Rattle.reading_trees.specs.declared.operators.Quantifier.{Quantifier}
use Rattle.reading_trees.specs.declared.operators.Quantifier.TheVariants as quantifier
use Rattle.names_terms.specs.declared.level.Level.{Level}
use Rattle.names_terms.specs.declared.level.Level.TheVariants as levels
use Rattle.names_terms.specs.declared.operator.Operator.{Operator}
use Rattle.names_terms.specs.declared.operator.Own.{Own}
use Rattle.names_terms.specs.declared.operator.Own.TheVariants as owns
use Rattle.names_terms.specs.declared.standard.StandardOperator.{StandardOperator}
use Rattle.names_terms.specs.declared.standard.StandardOperator.TheVariants as standard
use Rattle.names_terms.specs.Lists.{terms_list, steps_list, bounds_list, fields_list, changes_list, arms_list}
use Rattle.names_terms.specs.Terms as term
use Rattle.names_terms.specs.Terms.{Term, Meaning, Terms, Operands, Step, Steps, Bounds, Fields, Changes, Placed, place_of}
use Rattle.twice_terms.specs.Alike.{placed_alike, AlikeMeanings, known_alike, named_alike, variable_alike, slot_alike, use_alike, standard_alike, parenthesized_alike, scoped_alike, all_alike, any_alike, prefix_alike, infix_alike, postfix_alike, set_alike, filter_alike, map_alike, tuple_alike, function_alike, function_set_alike, record_alike, record_set_alike, except_alike, quantified_alike, choose_alike, if_alike, case_alike, case_other_alike, box_alike, angle_alike, fairness_alike, AlikeTerms, no_terms_alike, more_terms_alike, AlikeOperands, first_alike, next_alike, AlikeStep, prime_alike, index_alike, field_alike, AlikeSteps, no_steps_alike, more_steps_alike, AlikeBounds, AlikeFields, AlikeChanges, AlikeRows}
use Rattle.twice_terms.specs.Laws.{AreOne, AlikeOperators}
use Rattle.twice_terms.proofs.Inverted.{same_place, row_is}
use Rattle.values_sets.specs.DescribedSets.{Described, SeqOf}
use Rattle.eval_meanings.specs.Outcomes.{Outcome, Gives, Fails, Then, Each, AllTrue, Operated, place_in, truth_at}
use Rattle.eval_meanings.specs.Contexts.{Context, Table, Evaluate, Describe, IsKnown, WithDefinition, bind, within, primed, enter}
use Rattle.eval_meanings.specs.Operations.{InfixAnswers, PrefixAnswers, StandardAnswers}
use Rattle.eval_meanings.specs.Sets.{IsIn, set_at, MeansSet, ListedAt, first_operand, other_operands, PartDescribed, ProductDescribed, FieldDescribed, RecordsDescribed, IntervalDescribed, Joined, ChainDescribed}
use Rattle.eval_meanings.specs.Binders.{members_at, MembersOf, BoundValues, FirstThat, Passing}
use Rattle.eval_meanings.specs.Functions.{KeyOf, StepKey, AtStep, steps_place, StepsEvaluate, AtKey, Changed, AllChanged}
use Rattle.eval_meanings.specs.Recursion.{Recursion, KeysDescribed, RecursionEvaluates, applied_by, names_at, sets_of_names}
use Rattle.eval_meanings.specs.Unchanged.{TruthOf, prime_of, unchanged_of, changed_of, behind, StaysSame, MeansUnchanged, IsUnchanged}
use Rattle.eval_meanings.specs.Meanings.{ChainEvaluates, ImplicationHolds, AreEquivalent, IsMemberOf, IsSubsetOf, FunctionsDescribed, SequencesDescribed, SubsetsDescribed, InfixDescribed, InfixEvaluates, PrefixEvaluates, StandardEvaluates, BodyDescribed, UseDescribed, UseEvaluates, FirstArm, PairOf, QuantifiedEvaluates, FieldEvaluates, MeaningEvaluates, MeaningDescribes, IsValueOf, SetOfAll, FunctionOfAll}
use Rattle.eval_laws.proofs.Keeping.{Keeps, keeps_itself, keeps_then, keeps_first, keeps_either, keeps_each, keeps_all_true, keeps_some_true, keeps_truth}
use Rattle.twice_outcomes.specs.Alikes.{AreAlikeTerms, AreAlikeLists, AreAlikeBeside, AreAlikeArms, AreAlikeChanges, AreFoundAlike}
use Rattle.twice_outcomes.proofs.AlikeLists.{terms_zip, bounds_zip, fields_zip, changes_zip, arms_zip, path_zip, others_zip, firsts_alike, beside_zip, places_same}
use Rattle.twice_outcomes.proofs.Recursions.{AreAlikeRecursions, applied_alike, both_recursions, names_same, no_recursion, sets_alike}
use Rattle.twice_outcomes.proofs.Spelled.{prime_alike_of, unchanged_alike_of, changed_alike_of}
use Rattle.twice_outcomes.proofs.OutcomesZipping.{zips_each, zips_all_true, zips_some_true}

abbrev FindsAlike : Table → Table → Type 0
FindsAlike ops all = (m : ℕ) (e f : Term) → AreAlikeTerms ops all e f → AreFoundAlike ops all (behind ops (length ops) m e) (behind all (length all) m f)

module _ (ops all : Table) (found_alike : FindsAlike ops all) (ev ew : Evaluate) (de dw : Describe) (ev_same : (c : Context) (e f : Term) → AreAlikeTerms ops all e f → Keeps (ev c e) (ew c f)) (de_same : (c : Context) (e f : Term) → AreAlikeTerms ops all e f → Keeps (de c e) (dw c f)) where
  -- alike terms stand at one place
  at_place : (e f : Term) → AreAlikeTerms ops all e f → (R : Place → Type 0) → R (place_of e) → R (place_of f)
  at_place e f a R h = subst (λ (p : Place). R p) (same_place AreOne ops all e f a) h

  truth_same : (c : Context) (e f : Term) → AreAlikeTerms ops all e f → Keeps (TruthOf ev c e) (TruthOf ew c f)
  truth_same c e f a = at_place e f a (λ p. Keeps (TruthOf ev c e) (Then (ew c f) (truth_at p))) (keeps_first (ev c e) (ew c f) (truth_at (place_of e)) (ev_same c e f a))

  terms_same : (c : Context) (es fs : List Term) → AreAlikeLists ops all es fs → Keeps (Each (ev c) es) (Each (ew c) fs)
  terms_same c es fs z = zips_each (AreAlikeTerms ops all) (ev c) (ew c) (ev_same c) es fs z

  -- sets

  set_same : (c : Context) (e f : Term) → AreAlikeTerms ops all e f → Keeps (MeansSet de c e) (MeansSet dw c f)
  set_same c e f a = at_place e f a (λ p. Keeps (MeansSet de c e) (Then (dw c f) (set_at p))) (keeps_first (de c e) (dw c f) (set_at (place_of e)) (de_same c e f a))

  listed_same : (at : Place) (P Q : Outcome Described) → Keeps P Q → Keeps (ListedAt at P) (ListedAt at Q)
  listed_same at P Q p = keeps_first P Q _ p

  part_same : (c : Context) (e f : Term) → AreAlikeTerms ops all e f → Keeps (PartDescribed de c e) (PartDescribed dw c f)
  part_same c e f a =
      at_place e f a (λ p. Keeps (PartDescribed de c e) (Then (dw c f) (λ d. Gives {A = Place × Described} (p, d))))
      (keeps_first (de c e) (dw c f) (λ d. Gives {A = Place × Described} (place_of e, d)) (de_same c e f a))

  product_same : (c : Context) (es fs : List Term) → AreAlikeLists ops all es fs → Keeps (ProductDescribed de c es) (ProductDescribed dw c fs)
  product_same c es fs z =
      keeps_first (Each (PartDescribed de c) es) (Each (PartDescribed dw c) fs) _ (zips_each (AreAlikeTerms ops all) (PartDescribed de c) (PartDescribed dw c) (part_same c) es fs z)

  field_described_same : (c : Context) (x y : List ℕ × Term) → AreAlikeBeside ops all x y → Keeps (FieldDescribed de c x) (FieldDescribed dw c y)
  field_described_same c x y a =
      subst (λ (h : List ℕ). Keeps (FieldDescribed de c x) (FieldDescribed dw c (h, y.1))) a.0
      (at_place x.1 y.1 a.1 (λ p. Keeps (FieldDescribed de c x) (Then (dw c y.1) (λ d. Gives {A = List ℕ × Place × Described} (x.0, p, d))))
      (keeps_first (de c x.1) (dw c y.1) (λ d. Gives {A = List ℕ × Place × Described} (x.0, place_of x.1, d)) (de_same c x.1 y.1 a.1)))

  records_same : (c : Context) (fs gs : Fields) → AlikeFields AreOne ops all fs gs → Keeps (RecordsDescribed de c fs) (RecordsDescribed dw c gs)
  records_same c fs gs t =
      keeps_first (Each (FieldDescribed de c) (fields_list fs)) (Each (FieldDescribed dw c) (fields_list gs)) _
      (zips_each (AreAlikeBeside ops all) (FieldDescribed de c) (FieldDescribed dw c) (field_described_same c) (fields_list fs) (fields_list gs) (fields_zip ops all fs gs t))

  -- the further set f of a chain, whose operator stands at one place and which itself stands at another
  abbrev NextDescribed : Describe → Context → InfixOperator → Place → Described → List (Place × Term) → Place → Place → Described → Outcome Described
  NextDescribed describe c o p d es at q f = Then (Joined o at p q d f) (λ g. ChainDescribed describe c o at g es)

  chain_described_same : (c : Context) (o : InfixOperator) (p : Place) (d : Described) (xs ys : List (Place × Term)) → AllZip (AreAlikeBeside ops all) xs ys
      → Keeps (ChainDescribed de c o p d xs) (ChainDescribed dw c o p d ys)
  chain_described_same c o p d [] [] z = keeps_itself (Gives d)
  chain_described_same c o p d [] (y ∷ ys) z = absurd z
  chain_described_same c o p d (x ∷ xs) [] z = absurd z
  chain_described_same c o p d (x ∷ xs) (y ∷ ys) z =
      let here : Outcome Described = ChainDescribed de c o p d (x ∷ xs) in
      subst (λ (at : Place). Keeps here (ChainDescribed dw c o p d ((at, y.1) ∷ ys))) z.0.0
      (at_place x.1 y.1 z.0.1 (λ q. Keeps here (Then (dw c y.1) (NextDescribed dw c o p d ys x.0 q)))
      (keeps_then (de c x.1) (dw c y.1) (NextDescribed de c o p d xs x.0 (place_of x.1)) (NextDescribed dw c o p d ys x.0 (place_of x.1)) (de_same c x.1 y.1 z.0.1)
      (λ f. let J : Outcome Described = Joined o x.0 p (place_of x.1) d f in keeps_then J J _ _ (keeps_itself J) (λ g. chain_described_same c o x.0 g xs ys z.1))))

  functions_same : (c : Context) (s t u v : Term) → AreAlikeTerms ops all s t → AreAlikeTerms ops all u v → Keeps (FunctionsDescribed ev de c s u) (FunctionsDescribed ew dw c t v)
  functions_same c _ _ _ _ (placed_alike at l m n a) (placed_alike bt k p q b) =
      keeps_then (ev c (Placed at l m)) (ew c (Placed at l n)) _ _ (ev_same c (Placed at l m) (Placed at l n) (placed_alike at l m n a))
      (λ v. keeps_first (de c (Placed bt k p)) (dw c (Placed bt k q)) _ (de_same c (Placed bt k p) (Placed bt k q) (placed_alike bt k p q b)))

  sequences_same : (c : Context) (es fs : List Term) → AreAlikeLists ops all es fs → Keeps (SequencesDescribed de c es) (SequencesDescribed dw c fs)
  sequences_same c [] fs z r k = absurd k
  sequences_same c (e ∷ []) [] z r k = absurd z
  sequences_same c (e ∷ []) (f ∷ []) z r k = keeps_first (MeansSet de c e) (MeansSet dw c f) (λ d. Gives (SeqOf d)) (set_same c e f z.0) r k
  sequences_same c (e ∷ []) (f ∷ g ∷ fs) z r k = absurd z.1
  sequences_same c (e ∷ x ∷ es) fs z r k = absurd k

  subsets_same : (c : Context) (e f : Term) → AreAlikeTerms ops all e f → Keeps (SubsetsDescribed de c e) (SubsetsDescribed dw c f)
  subsets_same c e f a = keeps_first (MeansSet de c e) (MeansSet dw c f) _ (set_same c e f a)

  between_same : (c : Context) (at : Place) (s t u v : Term) → AreAlikeTerms ops all s t → AreAlikeTerms ops all u v
      → Keeps (Then (ev c s) (λ x. Then (ev c u) (IntervalDescribed at (place_of s) (place_of u) x))) (Then (ew c t) (λ x. Then (ew c v) (IntervalDescribed at (place_of t) (place_of v) x)))
  between_same c at _ _ _ _ (placed_alike bt l m n a) (placed_alike dt k p q b) =
      keeps_then (ev c (Placed bt l m)) (ew c (Placed bt l n)) _ _ (ev_same c (Placed bt l m) (Placed bt l n) (placed_alike bt l m n a))
      (λ v. keeps_first (ev c (Placed dt k p)) (ew c (Placed dt k q)) (IntervalDescribed at bt dt v) (ev_same c (Placed dt k p) (Placed dt k q) (placed_alike dt k p q b)))

  interval_same : (c : Context) (os ps : Operands) → AlikeOperands AreOne ops all os ps → (e f : Term) → AreAlikeTerms ops all e f → (at : Place)
      → Keeps (InfixDescribed ev de c infix_operator.Interval os e at) (InfixDescribed ew dw c infix_operator.Interval ps f at)
  interval_same c _ _ (first_alike s t a) e f b at r k = between_same c at s t e f a b r k
  interval_same c _ _ (next_alike os ps bt s t w a) e f b at r k = absurd k

  joined_same : (c : Context) (o : InfixOperator) (s t : Term) → AreAlikeTerms ops all s t → (xs ys : List (Place × Term)) → AllZip (AreAlikeBeside ops all) xs ys
      → Keeps (Then (de c s) (λ d. ChainDescribed de c o (place_of s) d xs)) (Then (dw c t) (λ d. ChainDescribed dw c o (place_of t) d ys))
  joined_same c o _ _ (placed_alike at l m n a) xs ys z =
      keeps_then (de c (Placed at l m)) (dw c (Placed at l n)) _ _ (de_same c (Placed at l m) (Placed at l n) (placed_alike at l m n a)) (λ d. chain_described_same c o at d xs ys z)

  -- operators

  -- the further operand w of a chain
  abbrev NextOperated : Evaluate → Context → InfixOperator → Place → Val → List (Place × Term) → Place → Place → Val → Outcome Val
  NextOperated evaluate c o p v es at q w = Then (Operated (InfixAnswers o v w) (place_in at (p ∷ q ∷ []))) (λ u. ChainEvaluates evaluate c o at u es)

  chain_same : (c : Context) (o : InfixOperator) (p : Place) (v : Val) (xs ys : List (Place × Term)) → AllZip (AreAlikeBeside ops all) xs ys
      → Keeps (ChainEvaluates ev c o p v xs) (ChainEvaluates ew c o p v ys)
  chain_same c o p v [] [] z = keeps_itself (Gives v)
  chain_same c o p v [] (y ∷ ys) z = absurd z
  chain_same c o p v (x ∷ xs) [] z = absurd z
  chain_same c o p v (x ∷ xs) (y ∷ ys) z =
      let here : Outcome Val = ChainEvaluates ev c o p v (x ∷ xs) in
      subst (λ (at : Place). Keeps here (ChainEvaluates ew c o p v ((at, y.1) ∷ ys))) z.0.0
      (at_place x.1 y.1 z.0.1 (λ q. Keeps here (Then (ew c y.1) (NextOperated ew c o p v ys x.0 q)))
      (keeps_then (ev c x.1) (ew c y.1) (NextOperated ev c o p v xs x.0 (place_of x.1)) (NextOperated ew c o p v ys x.0 (place_of x.1)) (ev_same c x.1 y.1 z.0.1)
      (λ w. let J : Outcome Val = Operated (InfixAnswers o v w) (place_in x.0 (p ∷ place_of x.1 ∷ [])) in keeps_then J J _ _ (keeps_itself J) (λ u. chain_same c o x.0 u xs ys z.1))))

  operated_same : (c : Context) (o : InfixOperator) (s t : Term) → AreAlikeTerms ops all s t → (xs ys : List (Place × Term)) → AllZip (AreAlikeBeside ops all) xs ys
      → Keeps (Then (ev c s) (λ v. ChainEvaluates ev c o (place_of s) v xs)) (Then (ew c t) (λ v. ChainEvaluates ew c o (place_of t) v ys))
  operated_same c o _ _ (placed_alike at l m n a) xs ys z =
      keeps_then (ev c (Placed at l m)) (ew c (Placed at l n)) _ _ (ev_same c (Placed at l m) (Placed at l n) (placed_alike at l m n a)) (λ v. chain_same c o at v xs ys z)

  member_same : (c : Context) (s t u v : Term) → AreAlikeTerms ops all s t → AreAlikeTerms ops all u v → Keeps (IsMemberOf ev de c s u) (IsMemberOf ew dw c t v)
  member_same c s t u v a b = keeps_then (ev c s) (ew c t) _ _ (ev_same c s t a) (λ x. keeps_first (MeansSet de c u) (MeansSet dw c v) _ (set_same c u v b))

  subset_same : (c : Context) (s t u v : Term) → AreAlikeTerms ops all s t → AreAlikeTerms ops all u v → Keeps (IsSubsetOf ev de c s u) (IsSubsetOf ew dw c t v)
  subset_same c _ _ _ _ (placed_alike at l m n a) (placed_alike bt k p q b) =
      keeps_then (ev c (Placed at l m)) (ew c (Placed at l n)) _ _ (ev_same c (Placed at l m) (Placed at l n) (placed_alike at l m n a))
      (λ v. keeps_first (de c (Placed bt k p)) (dw c (Placed bt k q)) _ (de_same c (Placed bt k p) (Placed bt k q) (placed_alike bt k p q b)))

  implication_same : (c : Context) (s t u v : Term) → AreAlikeTerms ops all s t → AreAlikeTerms ops all u v → Keeps (ImplicationHolds ev c s u) (ImplicationHolds ew c t v)
  implication_same c s t u v a b =
      keeps_then (TruthOf ev c s) (TruthOf ew c t) _ _ (truth_same c s t a)
      (λ p. keeps_either p (TruthOf ev c u) (Gives true) (TruthOf ew c v) (Gives true) (truth_same c u v b) (keeps_itself (Gives true)))

  equivalent_same : (c : Context) (s t u v : Term) → AreAlikeTerms ops all s t → AreAlikeTerms ops all u v → Keeps (AreEquivalent ev c s u) (AreEquivalent ew c t v)
  equivalent_same c _ _ _ _ (placed_alike at l m n a) (placed_alike bt k p q b) =
      keeps_then (ev c (Placed at l m)) (ew c (Placed at l n)) _ _ (ev_same c (Placed at l m) (Placed at l n) (placed_alike at l m n a))
      (λ v. keeps_first (ev c (Placed bt k p)) (ew c (Placed bt k q)) _ (ev_same c (Placed bt k p) (Placed bt k q) (placed_alike bt k p q b)))

  -- two operands behind one another
  abbrev InfixSame : InfixOperator → Type 0
  InfixSame o = (c : Context) (os ps : Operands) → AlikeOperands AreOne ops all os ps → (e f : Term) → AreAlikeTerms ops all e f → (at : Place)
      → Keeps (InfixEvaluates ev de c o os e at) (InfixEvaluates ew dw c o ps f at)

  abbrev ChainSame : InfixOperator → Type 0
  ChainSame o = (c : Context) (os ps : Operands) → AlikeOperands AreOne ops all os ps → (e f : Term) → AreAlikeTerms ops all e f → (at : Place)
      → Keeps (Then (ev c (first_operand os)) (λ v. ChainEvaluates ev c o (place_of (first_operand os)) v (other_operands (term.Next os at e))))
      (Then (ew c (first_operand ps)) (λ v. ChainEvaluates ew c o (place_of (first_operand ps)) v (other_operands (term.Next ps at f))))

  chains_same : (o : InfixOperator) → ChainSame o
  chains_same o c os ps w e f a at =
      operated_same c o (first_operand os) (first_operand ps) (firsts_alike ops all os ps w) (other_operands (term.Next os at e)) (other_operands (term.Next ps at f))
      (others_zip ops all (term.Next os at e) (term.Next ps at f) (next_alike os ps at e f w a))

  implies_same : InfixSame infix_operator.Implies
  implies_same c _ _ (first_alike s t a) e f b at r k = keeps_truth (ImplicationHolds ev c s e) (ImplicationHolds ew c t f) (implication_same c s t e f a b) r k
  implies_same c _ _ (next_alike os ps bt s t w a) e f b at r k = chains_same infix_operator.Implies c (term.Next os bt s) (term.Next ps bt t) (next_alike os ps bt s t w a) e f b at r k

  equivalence_same : InfixSame infix_operator.Equivalent
  equivalence_same c _ _ (first_alike s t a) e f b at r k = keeps_truth (AreEquivalent ev c s e) (AreEquivalent ew c t f) (equivalent_same c s t e f a b) r k
  equivalence_same c _ _ (next_alike os ps bt s t w a) e f b at r k = chains_same infix_operator.Equivalent c (term.Next os bt s) (term.Next ps bt t) (next_alike os ps bt s t w a) e f b at r k

  is_in_same : InfixSame infix_operator.Member
  is_in_same c _ _ (first_alike s t a) e f b at r k = keeps_truth (IsMemberOf ev de c s e) (IsMemberOf ew dw c t f) (member_same c s t e f a b) r k
  is_in_same c _ _ (next_alike os ps bt s t w a) e f b at r k = chains_same infix_operator.Member c (term.Next os bt s) (term.Next ps bt t) (next_alike os ps bt s t w a) e f b at r k

  not_in_same : InfixSame infix_operator.NotMember
  not_in_same c _ _ (first_alike s t a) e f b at r k =
      keeps_truth (Then (IsMemberOf ev de c s e) (λ p. Gives (not p))) (Then (IsMemberOf ew dw c t f) (λ p. Gives (not p)))
      (keeps_first (IsMemberOf ev de c s e) (IsMemberOf ew dw c t f) (λ p. Gives (not p)) (member_same c s t e f a b)) r k
  not_in_same c _ _ (next_alike os ps bt s t w a) e f b at r k = chains_same infix_operator.NotMember c (term.Next os bt s) (term.Next ps bt t) (next_alike os ps bt s t w a) e f b at r k

  within_same : InfixSame infix_operator.SubsetOrEqual
  within_same c _ _ (first_alike s t a) e f b at r k = keeps_truth (IsSubsetOf ev de c s e) (IsSubsetOf ew dw c t f) (subset_same c s t e f a b) r k
  within_same c _ _ (next_alike os ps bt s t w a) e f b at r k = chains_same infix_operator.SubsetOrEqual c (term.Next os bt s) (term.Next ps bt t) (next_alike os ps bt s t w a) e f b at r k

  -- the sets of infix operators
  cartesian_same : (c : Context) (os ps : Operands) → AlikeOperands AreOne ops all os ps → (e f : Term) → AreAlikeTerms ops all e f → (at : Place)
      → Keeps (InfixDescribed ev de c infix_operator.CartesianProduct os e at) (InfixDescribed ew dw c infix_operator.CartesianProduct ps f at)
  cartesian_same c os ps w e f a at r k =
      product_same c (first_operand os ∷ map (λ x. x.1) (other_operands (term.Next os at e))) (first_operand ps ∷ map (λ x. x.1) (other_operands (term.Next ps at f)))
      (firsts_alike ops all os ps w, beside_zip ops all (other_operands (term.Next os at e)) (other_operands (term.Next ps at f)) (others_zip ops all (term.Next os at e) (term.Next ps at f) (next_alike os ps at e f w a))) r k

  joining_same : (o : InfixOperator) (c : Context) (os ps : Operands) → AlikeOperands AreOne ops all os ps → (e f : Term) → AreAlikeTerms ops all e f → (at : Place)
      → Keeps (Then (de c (first_operand os)) (λ d. ChainDescribed de c o (place_of (first_operand os)) d (other_operands (term.Next os at e))))
      (Then (dw c (first_operand ps)) (λ d. ChainDescribed dw c o (place_of (first_operand ps)) d (other_operands (term.Next ps at f))))
  joining_same o c os ps w e f a at =
      joined_same c o (first_operand os) (first_operand ps) (firsts_alike ops all os ps w) (other_operands (term.Next os at e)) (other_operands (term.Next ps at f))
      (others_zip ops all (term.Next os at e) (term.Next ps at f) (next_alike os ps at e f w a))

  infix_same : (o : InfixOperator) → InfixSame o
  infix_same infix_operator.Implies c os ps w e f a at r k = implies_same c os ps w e f a at r k
  infix_same infix_operator.Equivalent c os ps w e f a at r k = equivalence_same c os ps w e f a at r k
  infix_same infix_operator.Member c os ps w e f a at r k = is_in_same c os ps w e f a at r k
  infix_same infix_operator.NotMember c os ps w e f a at r k = not_in_same c os ps w e f a at r k
  infix_same infix_operator.SubsetOrEqual c os ps w e f a at r k = within_same c os ps w e f a at r k
  infix_same infix_operator.Interval c os ps w e f a at r k = listed_same at _ _ (interval_same c os ps w e f a at) r k
  infix_same infix_operator.CartesianProduct c os ps w e f a at r k = listed_same at _ _ (cartesian_same c os ps w e f a at) r k
  infix_same infix_operator.Union c os ps w e f a at r k = listed_same at _ _ (joining_same infix_operator.Union c os ps w e f a at) r k
  infix_same infix_operator.Intersection c os ps w e f a at r k = listed_same at _ _ (joining_same infix_operator.Intersection c os ps w e f a at) r k
  infix_same infix_operator.Difference c os ps w e f a at r k = listed_same at _ _ (joining_same infix_operator.Difference c os ps w e f a at) r k
  infix_same o c os ps w e f a at r k = chains_same o c os ps w e f a at r k

  standard_same : (o : StandardOperator) (c : Context) (ts us : Terms) → AlikeTerms AreOne ops all ts us → (at : Place) → Keeps (StandardEvaluates ev de c o ts at) (StandardEvaluates ew dw c o us at)
  standard_same standard.Seq c ts us t at r k = listed_same at _ _ (sequences_same c (terms_list ts) (terms_list us) (terms_zip ops all ts us t)) r k
  standard_same o c ts us t at r k =
      subst (λ (ps : List Place). Then (Each (ew c) (terms_list us)) (λ vs. Operated (StandardAnswers o vs) (place_in at ps)) r) (places_same ops all (terms_list ts) (terms_list us) (terms_zip ops all ts us t))
      (keeps_first (Each (ev c) (terms_list ts)) (Each (ew c) (terms_list us)) (λ vs. Operated (StandardAnswers o vs) (place_in at (map place_of (terms_list ts))))
      (terms_same c (terms_list ts) (terms_list us) (terms_zip ops all ts us t)) r k)

  -- uses

  -- what comes of the body of a definition that is alike
  entered_same : {A : Type 0} (P : Context → Term → Outcome A) (c : Context) (vs : List Val) (o p : Operator) → o.outer ≡ p.outer → (r : Result A Fault) → P (enter o vs c) p.body r → P (enter p vs c) p.body r
  entered_same P c vs o p q r h = subst (λ (n : ℕ). P (record { slots = take n c.slots ++ vs; now = c.now; next = c.next }) p.body r) q h

  body_same : (c : Context) (own : Own) (e f : Term) → AreAlikeTerms ops all e f → Keeps (BodyDescribed own ev de c e) (BodyDescribed own ew dw c f)
  body_same c owns.Apart e f a = de_same c e f a
  body_same c owns.Itself e f a = keeps_first (ev c e) (ew c f) _ (ev_same c e f a)
  body_same c owns.Function e f a = keeps_first (ev c e) (ew c f) _ (ev_same c e f a)

  use_described_same : (c : Context) (k j : ℕ) → AlikeRows AreOne ops all k j → Keeps (UseDescribed ops ev de c k) (UseDescribed all ew dw c j)
  use_described_same c k j row r h =
      let w : (p : Operator) × (slice_get all j ≡ Some p) × AlikeOperators AreOne ops all h.0 p = row_is AreOne ops all k j h.0 row h.1 in
      let same : BodyDescribed h.0.own ew dw (enter h.0 [] c) w.0.body r = body_same (enter h.0 [] c) h.0.own h.0.body w.0.body w.2.body r h.2 in
      (w.0, w.1, entered_same (BodyDescribed w.0.own ew dw) c [] h.0 w.0 w.2.outer r (subst (λ (own : Own). BodyDescribed own ew dw (enter h.0 [] c) w.0.body r) w.2.own same))

  use_same : (c : Context) (k j : ℕ) → AlikeRows AreOne ops all k j → (ts us : Terms) → AlikeTerms AreOne ops all ts us → (at : Place)
      → Keeps (UseEvaluates ops ev de c k ts at) (UseEvaluates all ew dw c j us at)
  use_same c k j row _ _ no_terms_alike at r h = listed_same at _ _ (use_described_same c k j row) r h
  use_same c k j row _ _ (more_terms_alike ts us e f t a) at r h =
      let es : List Term = terms_list (term.MoreTerms ts e) in
      let fs : List Term = terms_list (term.MoreTerms us f) in
      keeps_then (Each (ev c) es) (Each (ew c) fs) (λ vs. WithDefinition ops k (λ o. ev (enter o vs c) o.body)) (λ vs. WithDefinition all j (λ o. ew (enter o vs c) o.body))
      (terms_same c es fs (terms_zip ops all (term.MoreTerms ts e) (term.MoreTerms us f) (more_terms_alike ts us e f t a)))
      (λ vs q g.
      let w : (p : Operator) × (slice_get all j ≡ Some p) × AlikeOperators AreOne ops all g.0 p = row_is AreOne ops all k j g.0 row g.1 in
      (w.0, w.1, entered_same ew c vs g.0 w.0 w.2.outer q (ev_same (enter g.0 vs c) g.0.body w.0.body w.2.body q g.2))) r h

  -- UNCHANGED

  stays_same : (c : Context) (at : Place) (e f : Term) → AreAlikeTerms ops all e f → Keeps (StaysSame ev c at e) (StaysSame ew c at f)
  stays_same c at e f a =
      keeps_then (ev c (prime_of at e)) (ew c (prime_of at f)) _ _ (ev_same c (prime_of at e) (prime_of at f) (prime_alike_of ops all at e f a)) (λ v. keeps_first (ev c e) (ew c f) _ (ev_same c e f a))

  unchanged_parts_same : (d : Context) (at : Place) (ts us : Terms) → AlikeTerms AreOne ops all ts us
      → Keeps (AllTrue (λ item. TruthOf ev d (unchanged_of at item)) (terms_list ts)) (AllTrue (λ item. TruthOf ew d (unchanged_of at item)) (terms_list us))
  unchanged_parts_same d at ts us t =
      zips_all_true (AreAlikeTerms ops all) (λ item. TruthOf ev d (unchanged_of at item)) (λ item. TruthOf ew d (unchanged_of at item))
      (λ e f a. truth_same d (unchanged_of at e) (unchanged_of at f) (unchanged_alike_of ops all at e f a)) (terms_list ts) (terms_list us) (terms_zip ops all ts us t)

  means_unchanged_same : (c : Context) (at : Place) (e f : Term) → AreAlikeTerms ops all e f → (d : Context) (p : Place) (l : Level) (m n : Meaning) → AlikeMeanings AreOne ops all m n
      → Keeps (MeansUnchanged ev c at e d (Placed p l m)) (MeansUnchanged ew c at f d (Placed p l n))
  means_unchanged_same c at e f a d p l _ _ (variable_alike x y q) = stays_same c at (Placed at levels.State (term.Variable x)) (Placed at levels.State (term.Variable y)) (placed_alike at levels.State (term.Variable x) (term.Variable y) (variable_alike x y q))
  means_unchanged_same c at e f a d p l _ _ (tuple_alike ts us t) = unchanged_parts_same d at ts us t
  means_unchanged_same c at e f a d p l m n b = stays_same c at e f a

  unchanged_behind_same : (c : Context) (at : Place) (e f : Term) → AreAlikeTerms ops all e f → (d : Context) (g h : Term) → AreAlikeTerms ops all g h
      → Keeps (MeansUnchanged ev c at e d g) (MeansUnchanged ew c at f d h)
  unchanged_behind_same c at e f a d _ _ (placed_alike p l m n b) = means_unchanged_same c at e f a d p l m n b

  unchanged_same : (c : Context) (at : Place) (e f : Term) → AreAlikeTerms ops all e f → Keeps (IsUnchanged ops ev c at e) (IsUnchanged all ew c at f)
  unchanged_same c at e f a r k =
      let here : ℕ × Term = behind ops (length ops) (length c.slots) e in
      let there : ℕ × Term = behind all (length all) (length c.slots) f in
      let both : AreFoundAlike ops all here there = found_alike (length c.slots) e f a in
      subst (λ (n : ℕ). MeansUnchanged ew c at f (within n c) there.1 r) both.slots
      (unchanged_behind_same c at e f a (within here.0 c) here.1 there.1 both.terms r k)

  prefix_same : (o : PrefixOperator) (c : Context) (e f : Term) → AreAlikeTerms ops all e f → (at : Place) → Keeps (PrefixEvaluates ops ev de c o e at) (PrefixEvaluates all ew dw c o f at)
  prefix_same prefix.Not c e f a at r k =
      keeps_truth (Then (TruthOf ev c e) (λ p. Gives (not p))) (Then (TruthOf ew c f) (λ p. Gives (not p))) (keeps_first (TruthOf ev c e) (TruthOf ew c f) (λ p. Gives (not p)) (truth_same c e f a)) r k
  prefix_same prefix.Unchanged c e f a at r k = keeps_truth (IsUnchanged ops ev c at e) (IsUnchanged all ew c at f) (unchanged_same c at e f a) r k
  prefix_same prefix.Powerset c e f a at r k = listed_same at _ _ (subsets_same c e f a) r k
  prefix_same o c e f a at r k =
      at_place e f a (λ p. Then (ew c f) (λ v. Operated (PrefixAnswers o v) (place_in at (p ∷ []))) r)
      (keeps_first (ev c e) (ew c f) (λ v. Operated (PrefixAnswers o v) (place_in at (place_of e ∷ []))) (ev_same c e f a) r k)

  -- functions

  key_same : (c : Context) (at : Place) (s r : Step) → AlikeStep AreOne ops all s r → Keeps (StepKey ev c at s) (StepKey ew c at r)
  key_same c at _ _ prime_alike q k = k
  key_same c at _ _ (index_alike ts us t) q k =
      keeps_first (Each (ev c) (terms_list ts)) (Each (ew c) (terms_list us)) (KeyOf at) (terms_same c (terms_list ts) (terms_list us) (terms_zip ops all ts us t)) q k
  key_same c at _ _ (field_alike h) q k = k

  steps_place_same : (e f : Term) → AreAlikeTerms ops all e f → (ss rs : Steps) → AlikeSteps AreOne ops all ss rs → steps_place (place_of e) ss ≡ steps_place (place_of f) rs
  steps_place_same e f a _ _ no_steps_alike = same_place AreOne ops all e f a
  steps_place_same e f a _ _ (more_steps_alike ss rs at s r t u) = refl

  keys_same : (c : Context) (es fs : List Term) → AreAlikeLists ops all es fs → Keeps (KeysDescribed de c es) (KeysDescribed dw c fs)
  keys_same c [] [] z = product_same c [] [] z
  keys_same c [] (f ∷ fs) z = absurd z
  keys_same c (e ∷ es) [] z = absurd z
  keys_same c (e ∷ []) (f ∷ []) z = set_same c e f z.0
  keys_same c (e ∷ []) (f ∷ g ∷ fs) z = absurd z.1
  keys_same c (e ∷ x ∷ es) (f ∷ []) z = absurd z.1
  keys_same c (e ∷ x ∷ es) (f ∷ g ∷ fs) z = product_same c (e ∷ x ∷ es) (f ∷ g ∷ fs) z

  recursion_same : (c : Context) (at : Place) (n : ℕ) (bs ds : Bounds) → AlikeBounds AreOne ops all bs ds → (e f : Term) → AreAlikeTerms ops all e f → (key : Val)
      → Keeps (RecursionEvaluates ev de c at (record { around = n; bounds = bs; value = e }) key) (RecursionEvaluates ew dw c at (record { around = n; bounds = ds; value = f }) key)
  recursion_same c at n bs ds t e f a key =
      let es : List Term = sets_of_names (bounds_list bs) in
      let fs : List Term = sets_of_names (bounds_list ds) in
      let z : AreAlikeLists ops all es fs = sets_alike ops all bs ds t in
      let vs : List Val = names_at es key in
      let here : Keeps (ev (bind c vs) e) (ew (bind c (names_at fs key)) f) = subst (λ (ws : List Val). Keeps (ev (bind c vs) e) (ew (bind c ws) f)) (names_same ops all es fs z key) (ev_same (bind c vs) e f a) in
      keeps_then (KeysDescribed de c es) (KeysDescribed dw c fs) _ _ (keys_same c es fs z)
      (λ d. keeps_then (IsIn d key) (IsIn d key) _ _ (keeps_itself (IsIn d key))
      (λ b. keeps_either b (ev (bind c vs) e) (Fails OutsideDomain at) (ew (bind c (names_at fs key)) f) (Fails OutsideDomain at) here (keeps_itself (Fails OutsideDomain at))))

  at_step_same : (c : Context) (at p q : Place) → p ≡ q → (s r : Step) → AlikeStep AreOne ops all s r → (x y : Option Recursion) → AreAlikeRecursions ops all x y → (P Q : Outcome Val) → Keeps P Q
      → Keeps (AtStep ev de c at p s x P) (AtStep ew dw c at q r y Q)
  at_step_same c at p q e s r u _ _ no_recursion P Q k =
      subst (λ (o : Place). Keeps (AtStep ev de c at p s None P) (AtStep ew dw c at o r None Q)) e (keeps_then P Q _ _ k (λ g. keeps_first (StepKey ev c at s) (StepKey ew c at r) _ (key_same c at s r u)))
  at_step_same c at p q e s r u _ _ (both_recursions n bs ds f g t a) P Q k =
      keeps_then (StepKey ev c at s) (StepKey ew c at r) _ _ (key_same c at s r u) (recursion_same (within n c) at n bs ds t f g a)

  step_same : (c : Context) (e f : Term) → AreAlikeTerms ops all e f → (ss rs : Steps) → AlikeSteps AreOne ops all ss rs → ((b : Context) → Keeps (StepsEvaluate ops ev de b e ss) (StepsEvaluate all ew dw b f rs)) → (at : Place) (s r : Step)
      → AlikeStep AreOne ops all s r → Keeps (StepsEvaluate ops ev de c e (term.MoreSteps ss at s)) (StepsEvaluate all ew dw c f (term.MoreSteps rs at r))
  step_same c e f a ss rs t h at _ _ prime_alike = h (primed c)
  step_same c e f a ss rs t h at _ _ (index_alike ts us u) =
      at_step_same c at (steps_place (place_of e) ss) (steps_place (place_of f) rs) (steps_place_same e f a ss rs t) (term.Index ts) (term.Index us) (index_alike ts us u)
      (applied_by ops e ss (term.Index ts)) (applied_by all f rs (term.Index us)) (applied_alike ops all e f a ss rs t (term.Index ts) (term.Index us) (index_alike ts us u)) (StepsEvaluate ops ev de c e ss) (StepsEvaluate all ew dw c f rs) (h c)
  step_same c e f a ss rs t h at _ _ (field_alike n) =
      at_step_same c at (steps_place (place_of e) ss) (steps_place (place_of f) rs) (steps_place_same e f a ss rs t) (term.Field n) (term.Field n) (field_alike n)
      (applied_by ops e ss (term.Field n)) (applied_by all f rs (term.Field n)) (applied_alike ops all e f a ss rs t (term.Field n) (term.Field n) (field_alike n)) (StepsEvaluate ops ev de c e ss) (StepsEvaluate all ew dw c f rs) (h c)

  steps_same : (e f : Term) → AreAlikeTerms ops all e f → (ss rs : Steps) → AlikeSteps AreOne ops all ss rs → (c : Context) → Keeps (StepsEvaluate ops ev de c e ss) (StepsEvaluate all ew dw c f rs)
  steps_same e f a _ _ no_steps_alike c = ev_same c e f a
  steps_same e f a _ _ (more_steps_alike ss rs at s r t u) c = step_same c e f a ss rs t (steps_same e f a ss rs t) at s r u

  at_key_same : (base : Place) (f key : Val) (P Q : Val → Outcome Val) → ((v : Val) → Keeps (P v) (Q v)) → Keeps (AtKey base f key P) (AtKey base f key Q)
  at_key_same base f key P Q p r (inl k) = inl k
  at_key_same base f key P Q p r (inr (inl k)) = inr (inl k)
  at_key_same base f key P Q p r (inr (inr k)) = inr (inr (k.0, k.1, p k.0 r k.2))

  changed_same : (c : Context) (at base : Place) (ss rs : List Step) → AllZip (AlikeStep AreOne ops all) ss rs → (e f : Term) → AreAlikeTerms ops all e f → (v : Val)
      → Keeps (Changed ev c at base ss e v) (Changed ew c at base rs f v)
  changed_same c at base [] [] z e f a v = ev_same (bind c (v ∷ [])) e f a
  changed_same c at base [] (r ∷ rs) z e f a v = absurd z
  changed_same c at base (s ∷ ss) [] z e f a v = absurd z
  changed_same c at base (s ∷ ss) (r ∷ rs) z e f a v =
      keeps_then (StepKey ev c at s) (StepKey ew c at r) _ _ (key_same c at s r z.0)
      (λ key. at_key_same base v key _ _ (λ old. keeps_first (Changed ev c at base ss e old) (Changed ew c at base rs f old) _ (changed_same c at base ss rs z.1 e f a old)))

  all_changed_same : (c : Context) (at base : Place) (xs ys : List (Steps × Term)) → AllZip (AreAlikeChanges ops all) xs ys → (v : Val) → Keeps (AllChanged ev c at base xs v) (AllChanged ew c at base ys v)
  all_changed_same c at base [] [] z v = keeps_itself (Gives v)
  all_changed_same c at base [] (y ∷ ys) z v = absurd z
  all_changed_same c at base (x ∷ xs) [] z v = absurd z
  all_changed_same c at base (x ∷ xs) (y ∷ ys) z v =
      let here : List Step = map (λ s. s.1) (steps_list x.0) in
      let there : List Step = map (λ s. s.1) (steps_list y.0) in
      keeps_then (Changed ev c at base here x.1 v) (Changed ew c at base there y.1 v) _ _ (changed_same c at base here there (path_zip ops all x.0 y.0 z.0.0) x.1 y.1 z.0.1 v)
      (all_changed_same c at base xs ys z.1)

  except_same : (c : Context) (at : Place) (e f : Term) → AreAlikeTerms ops all e f → (cs ds : Changes) → AlikeChanges AreOne ops all cs ds
      → Keeps (Then (ev c e) (AllChanged ev c at (place_of e) (changes_list cs))) (Then (ew c f) (AllChanged ew c at (place_of f) (changes_list ds)))
  except_same c at _ _ (placed_alike bt l m n a) cs ds t =
      keeps_then (ev c (Placed bt l m)) (ew c (Placed bt l n)) _ _ (ev_same c (Placed bt l m) (Placed bt l n) (placed_alike bt l m n a))
      (all_changed_same c at bt (changes_list cs) (changes_list ds) (changes_zip ops all cs ds t))

  -- binders

  members_same : (c : Context) (e f : Term) → AreAlikeTerms ops all e f → Keeps (MembersOf ev c e) (MembersOf ew c f)
  members_same c e f a = at_place e f a (λ p. Keeps (MembersOf ev c e) (Then (ew c f) (members_at p))) (keeps_first (ev c e) (ew c f) (members_at (place_of e)) (ev_same c e f a))

  -- a set that names are bound over
  abbrev BoundOver : Evaluate → Context → ℕ × Term → Outcome ((ℕ × Place) × Val)
  BoundOver evaluate c b = Then (evaluate c b.1) (λ v. Gives ((b.0, place_of b.1), v))

  bound_same : (c : Context) (x y : ℕ × Term) → AreAlikeBeside ops all x y → Keeps (BoundOver ev c x) (BoundOver ew c y)
  bound_same c x y a =
      subst (λ (n : ℕ). Keeps (BoundOver ev c x) (BoundOver ew c (n, y.1))) a.0
      (at_place x.1 y.1 a.1 (λ p. Keeps (BoundOver ev c x) (Then (ew c y.1) (λ v. Gives {A = (ℕ × Place) × Val} ((x.0, p), v))))
      (keeps_first (ev c x.1) (ew c y.1) (λ v. Gives {A = (ℕ × Place) × Val} ((x.0, place_of x.1), v)) (ev_same c x.1 y.1 a.1)))

  bounds_same : (c : Context) (bs ds : Bounds) → AlikeBounds AreOne ops all bs ds → Keeps (BoundValues ev c bs) (BoundValues ew c ds)
  bounds_same c bs ds t =
      keeps_first (Each (BoundOver ev c) (bounds_list bs)) (Each (BoundOver ew c) (bounds_list ds)) _
      (zips_each (AreAlikeBeside ops all) (BoundOver ev c) (BoundOver ew c) (bound_same c) (bounds_list bs) (bounds_list ds) (bounds_zip ops all bs ds t))

  first_same : (at : Place) (P Q : Val → Outcome Bool) → ((v : Val) → Keeps (P v) (Q v)) → (vs : List Val) → Keeps (FirstThat at P vs) (FirstThat at Q vs)
  first_same at P Q p [] r k = k
  first_same at P Q p (v ∷ vs) r k =
      keeps_then (P v) (Q v) _ _ (p v)
      (λ b. keeps_either b (Gives v) (FirstThat at P vs) (Gives v) (FirstThat at Q vs) (keeps_itself (Gives v)) (first_same at P Q p vs)) r k

  passing_same : (P Q : Val → Outcome Bool) → ((v : Val) → Keeps (P v) (Q v)) → (vs : List Val) → Keeps (Passing P vs) (Passing Q vs)
  passing_same P Q p [] = keeps_itself (Gives [])
  passing_same P Q p (v ∷ vs) = keeps_then (P v) (Q v) _ _ (p v) (λ b. keeps_first (Passing P vs) (Passing Q vs) _ (passing_same P Q p vs))

  test_same : (c : Context) (e f : Term) → AreAlikeTerms ops all e f → (v : Val) → Keeps (TruthOf ev (bind c (v ∷ [])) e) (TruthOf ew (bind c (v ∷ [])) f)
  test_same c e f a v = truth_same (bind c (v ∷ [])) e f a

  tests_same : (c : Context) (e f : Term) → AreAlikeTerms ops all e f → (vs : List Val) → Keeps (TruthOf ev (bind c vs) e) (TruthOf ew (bind c vs) f)
  tests_same c e f a vs = truth_same (bind c vs) e f a

  quantified_same : (q : Quantifier) (c : Context) (bs ds : Bounds) → AlikeBounds AreOne ops all bs ds → (e f : Term) → AreAlikeTerms ops all e f
      → Keeps (QuantifiedEvaluates ev c q bs e) (QuantifiedEvaluates ew c q ds f)
  quantified_same quantifier.ForAll c bs ds t e f a =
      keeps_then (BoundValues ev c bs) (BoundValues ew c ds) _ _ (bounds_same c bs ds t) (keeps_all_true (λ vs. TruthOf ev (bind c vs) e) (λ vs. TruthOf ew (bind c vs) f) (tests_same c e f a))
  quantified_same quantifier.Exists c bs ds t e f a =
      keeps_then (BoundValues ev c bs) (BoundValues ew c ds) _ _ (bounds_same c bs ds t) (keeps_some_true (λ vs. TruthOf ev (bind c vs) e) (λ vs. TruthOf ew (bind c vs) f) (tests_same c e f a))

  pair_same : (c : Context) (at : Place) (e f : Term) → AreAlikeTerms ops all e f → (vs : List Val) → Keeps (PairOf ev c at e vs) (PairOf ew c at f vs)
  pair_same c at e f a vs = keeps_first (ev (bind c vs) e) (ew (bind c vs) f) _ (ev_same (bind c vs) e f a)

  field_same : (c : Context) (x y : List ℕ × Term) → AreAlikeBeside ops all x y → Keeps (FieldEvaluates ev c x) (FieldEvaluates ew c y)
  field_same c x y a =
      subst (λ (h : List ℕ). Keeps (FieldEvaluates ev c x) (FieldEvaluates ew c (h, y.1))) a.0 (keeps_first (ev c x.1) (ew c y.1) (λ v. Gives {A = Val × Val} (string x.0, v)) (ev_same c x.1 y.1 a.1))

  -- CASE

  arm_same : (c : Context) (P Q : Outcome Val) → Keeps P Q → (xs ys : List (Term × Term)) → AllZip (AreAlikeArms ops all) xs ys → Keeps (FirstArm ev c P xs) (FirstArm ew c Q ys)
  arm_same c P Q p [] [] z = p
  arm_same c P Q p [] (y ∷ ys) z = absurd z
  arm_same c P Q p (x ∷ xs) [] z = absurd z
  arm_same c P Q p (x ∷ xs) (y ∷ ys) z =
      keeps_then (TruthOf ev c x.0) (TruthOf ew c y.0) _ _ (truth_same c x.0 y.0 z.0.0)
      (λ t. keeps_either t (ev c x.1) (FirstArm ev c P xs) (ew c y.1) (FirstArm ew c Q ys) (ev_same c x.1 y.1 z.0.1) (arm_same c P Q p xs ys z.1))

  -- terms

  set_of_same : (c : Context) (at : Place) (ts us : Terms) → AlikeTerms AreOne ops all ts us → Keeps (MeaningEvaluates ops ev de c at (term.SetOf ts)) (MeaningEvaluates all ew dw c at (term.SetOf us))
  set_of_same c at ts us t r k = keeps_first _ _ (SetOfAll at) (terms_same c (terms_list ts) (terms_list us) (terms_zip ops all ts us t)) r k

  tuple_same : (c : Context) (at : Place) (ts us : Terms) → AlikeTerms AreOne ops all ts us → Keeps (MeaningEvaluates ops ev de c at (term.Tuple ts)) (MeaningEvaluates all ew dw c at (term.Tuple us))
  tuple_same c at ts us t r k = keeps_first _ _ (λ vs. Operated (GivesSequence vs) (λ n. at)) (terms_same c (terms_list ts) (terms_list us) (terms_zip ops all ts us t)) r k

  filter_same : (c : Context) (at : Place) (a b e f : Term) → AreAlikeTerms ops all a b → AreAlikeTerms ops all e f → Keeps (MeaningEvaluates ops ev de c at (term.Filter a e)) (MeaningEvaluates all ew dw c at (term.Filter b f))
  filter_same c at a b e f s t r k =
      keeps_then (MembersOf ev c a) (MembersOf ew c b) _ _ (members_same c a b s)
      (λ vs. keeps_first _ _ (SetOfAll at) (passing_same (λ v. TruthOf ev (bind c (v ∷ [])) e) (λ v. TruthOf ew (bind c (v ∷ [])) f) (test_same c e f t) vs)) r k

  map_same : (c : Context) (at : Place) (e f : Term) → AreAlikeTerms ops all e f → (bs ds : Bounds) → AlikeBounds AreOne ops all bs ds → Keeps (MeaningEvaluates ops ev de c at (term.Map e bs)) (MeaningEvaluates all ew dw c at (term.Map f ds))
  map_same c at e f a bs ds t r k =
      keeps_then (BoundValues ev c bs) (BoundValues ew c ds) _ _ (bounds_same c bs ds t)
      (λ vs. keeps_first _ _ (SetOfAll at) (keeps_each (λ v. ev (bind c v) e) (λ v. ew (bind c v) f) (λ v. ev_same (bind c v) e f a) vs)) r k

  function_same : (c : Context) (at : Place) (bs ds : Bounds) → AlikeBounds AreOne ops all bs ds → (e f : Term) → AreAlikeTerms ops all e f
      → Keeps (MeaningEvaluates ops ev de c at (term.Function bs e)) (MeaningEvaluates all ew dw c at (term.Function ds f))
  function_same c at bs ds t e f a r k =
      keeps_then (BoundValues ev c bs) (BoundValues ew c ds) _ _ (bounds_same c bs ds t)
      (λ vs. keeps_first _ _ (FunctionOfAll at) (keeps_each (PairOf ev c at e) (PairOf ew c at f) (pair_same c at e f a) vs)) r k

  record_same : (c : Context) (at : Place) (fs gs : Fields) → AlikeFields AreOne ops all fs gs → Keeps (MeaningEvaluates ops ev de c at (term.Record fs)) (MeaningEvaluates all ew dw c at (term.Record gs))
  record_same c at fs gs t r k =
      keeps_first _ _ (FunctionOfAll at) (zips_each (AreAlikeBeside ops all) (FieldEvaluates ev c) (FieldEvaluates ew c) (field_same c) (fields_list fs) (fields_list gs) (fields_zip ops all fs gs t)) r k

  if_same : (c : Context) (at : Place) (p q a b e f : Term) → AreAlikeTerms ops all p q → AreAlikeTerms ops all a b → AreAlikeTerms ops all e f
      → Keeps (MeaningEvaluates ops ev de c at (term.If p a e)) (MeaningEvaluates all ew dw c at (term.If q b f))
  if_same c at p q a b e f s t u r k =
      keeps_then (TruthOf ev c p) (TruthOf ew c q) _ _ (truth_same c p q s) (λ h. keeps_either h (ev c a) (ev c e) (ew c b) (ew c f) (ev_same c a b t) (ev_same c e f u)) r k

  pub meaning_same : (c : Context) (at : Place) (m n : Meaning) → AlikeMeanings AreOne ops all m n → Keeps (MeaningEvaluates ops ev de c at m) (MeaningEvaluates all ew dw c at n)
  meaning_same c at _ _ (known_alike v w s) = λ r k. subst (λ (u : Val). r ≡ Ok u) s k
  meaning_same c at _ _ (named_alike s) = λ r k. k
  meaning_same c at _ _ (variable_alike x y q) = λ r k. subst (λ (z : ℕ). IsKnown c.now z r) q k
  meaning_same c at _ _ (slot_alike i) = λ r k. k
  meaning_same c at _ _ (use_alike k j ts us r t) = use_same c k j r ts us t at
  meaning_same c at _ _ (standard_alike o ts us t) = standard_same o c ts us t at
  meaning_same c at _ _ (parenthesized_alike e f a) = listed_same at (de c e) (dw c f) (de_same c e f a)
  meaning_same c at _ _ (scoped_alike ks js e f r a) = ev_same c e f a
  meaning_same c at _ _ (all_alike ts us t) =
      keeps_truth _ _ (zips_all_true (AreAlikeTerms ops all) (TruthOf ev c) (TruthOf ew c) (truth_same c) (terms_list ts) (terms_list us) (terms_zip ops all ts us t))
  meaning_same c at _ _ (any_alike ts us t) =
      keeps_truth _ _ (zips_some_true (AreAlikeTerms ops all) (TruthOf ev c) (TruthOf ew c) (truth_same c) (terms_list ts) (terms_list us) (terms_zip ops all ts us t))
  meaning_same c at _ _ (prefix_alike o e f a) = prefix_same o c e f a at
  meaning_same c at _ _ (infix_alike o os ps e f t a) = infix_same o c os ps t e f a at
  meaning_same c at _ _ (postfix_alike e f ss rs s r a t u) = steps_same e f a (term.MoreSteps ss at s) (term.MoreSteps rs at r) (more_steps_alike ss rs at s r t u) c
  meaning_same c at _ _ (set_alike ts us t) = set_of_same c at ts us t
  meaning_same c at _ _ (filter_alike a b e f s t) = filter_same c at a b e f s t
  meaning_same c at _ _ (map_alike e f bs ds a t) = map_same c at e f a bs ds t
  meaning_same c at _ _ (tuple_alike ts us t) = tuple_same c at ts us t
  meaning_same c at _ _ (function_alike bs ds e f t a) = function_same c at bs ds t e f a
  meaning_same c at _ _ (function_set_alike a b e f s t) = listed_same at _ _ (functions_same c a b e f s t)
  meaning_same c at _ _ (record_alike fs gs t) = record_same c at fs gs t
  meaning_same c at _ _ (record_set_alike fs gs t) = listed_same at _ _ (records_same c fs gs t)
  meaning_same c at _ _ (except_alike e f cs ds a t) = except_same c at e f a cs ds t
  meaning_same c at _ _ (quantified_alike q bs ds e f t a) = keeps_truth _ _ (quantified_same q c bs ds t e f a)
  meaning_same c at _ _ (choose_alike a b e f s t) =
      keeps_then (MembersOf ev c a) (MembersOf ew c b) _ _ (members_same c a b s) (first_same at (λ v. TruthOf ev (bind c (v ∷ [])) e) (λ v. TruthOf ew (bind c (v ∷ [])) f) (test_same c e f t))
  meaning_same c at _ _ (if_alike p q a b e f s t u) = if_same c at p q a b e f s t u
  meaning_same c at _ _ (case_alike ps qs t) = arm_same c (Fails NoCase at) (Fails NoCase at) (keeps_itself (Fails NoCase at)) (arms_list ps) (arms_list qs) (arms_zip ops all ps qs t)
  meaning_same c at _ _ (case_other_alike ps qs e f t a) = arm_same c (ev c e) (ew c f) (ev_same c e f a) (arms_list ps) (arms_list qs) (arms_zip ops all ps qs t)
  meaning_same c at _ _ (box_alike e f v w a b) =
      keeps_truth _ _ (zips_some_true (AreAlikeTerms ops all) (TruthOf ev c) (TruthOf ew c) (truth_same c) (e ∷ unchanged_of at v ∷ []) (f ∷ unchanged_of at w ∷ []) (a, (unchanged_alike_of ops all at v w b, tt)))
  meaning_same c at _ _ (angle_alike e f v w a b) =
      keeps_truth _ _ (zips_all_true (AreAlikeTerms ops all) (TruthOf ev c) (TruthOf ew c) (truth_same c) (e ∷ changed_of at v ∷ []) (f ∷ changed_of at w ∷ []) (a, (changed_alike_of ops all at v w b, tt)))
  meaning_same c at _ _ (fairness_alike v w e f a b) = λ r k. absurd k

  -- descriptions: what is no described set is the value that it has

  value_same : (c : Context) (at : Place) (m n : Meaning) → AlikeMeanings AreOne ops all m n → Keeps (IsValueOf (MeaningEvaluates ops ev de c at m)) (IsValueOf (MeaningEvaluates all ew dw c at n))
  value_same c at m n a = keeps_first (MeaningEvaluates ops ev de c at m) (MeaningEvaluates all ew dw c at n) _ (meaning_same c at m n a)

  abbrev DescribedSame : Meaning → Meaning → Type 0
  DescribedSame m n = (c : Context) (at : Place) → AlikeMeanings AreOne ops all m n → Keeps (MeaningDescribes ops ev de c at m) (MeaningDescribes all ew dw c at n)

  use_means_same : (k j : ℕ) → AlikeRows AreOne ops all k j → (ts us : Terms) → AlikeTerms AreOne ops all ts us → DescribedSame (term.Use k ts) (term.Use j us)
  use_means_same k j row _ _ no_terms_alike c at a r h = use_described_same c k j row r h
  use_means_same k j row _ _ (more_terms_alike ts us e f t b) c at a r h = value_same c at (term.Use k (term.MoreTerms ts e)) (term.Use j (term.MoreTerms us f)) a r h

  standard_means_same : (o : StandardOperator) (ts us : Terms) → AlikeTerms AreOne ops all ts us → DescribedSame (term.Standard o ts) (term.Standard o us)
  standard_means_same standard.Seq ts us t c at a r h = sequences_same c (terms_list ts) (terms_list us) (terms_zip ops all ts us t) r h
  standard_means_same o ts us t c at a r h = value_same c at (term.Standard o ts) (term.Standard o us) a r h

  prefix_means_same : (o : PrefixOperator) (e f : Term) → AreAlikeTerms ops all e f → DescribedSame (term.Prefix o e) (term.Prefix o f)
  prefix_means_same prefix.Powerset e f b c at a r h = subsets_same c e f b r h
  prefix_means_same o e f b c at a r h = value_same c at (term.Prefix o e) (term.Prefix o f) a r h

  infix_means_same : (o : InfixOperator) (os ps : Operands) → AlikeOperands AreOne ops all os ps → (e f : Term) → AreAlikeTerms ops all e f → DescribedSame (term.Infix o os e) (term.Infix o ps f)
  infix_means_same infix_operator.Interval os ps w e f b c at a r h = interval_same c os ps w e f b at r h
  infix_means_same infix_operator.CartesianProduct os ps w e f b c at a r h = cartesian_same c os ps w e f b at r h
  infix_means_same infix_operator.Union os ps w e f b c at a r h = joining_same infix_operator.Union c os ps w e f b at r h
  infix_means_same infix_operator.Intersection os ps w e f b c at a r h = joining_same infix_operator.Intersection c os ps w e f b at r h
  infix_means_same infix_operator.Difference os ps w e f b c at a r h = joining_same infix_operator.Difference c os ps w e f b at r h
  infix_means_same o os ps w e f b c at a r h = value_same c at (term.Infix o os e) (term.Infix o ps f) a r h

  pub description_same : (c : Context) (at : Place) (m n : Meaning) → AlikeMeanings AreOne ops all m n → Keeps (MeaningDescribes ops ev de c at m) (MeaningDescribes all ew dw c at n)
  description_same c at _ _ (named_alike s) r h = h
  description_same c at _ _ (use_alike k j ts us row t) r h = use_means_same k j row ts us t c at (use_alike k j ts us row t) r h
  description_same c at _ _ (standard_alike o ts us t) r h = standard_means_same o ts us t c at (standard_alike o ts us t) r h
  description_same c at _ _ (parenthesized_alike e f a) r h = de_same c e f a r h
  description_same c at _ _ (prefix_alike o e f a) r h = prefix_means_same o e f a c at (prefix_alike o e f a) r h
  description_same c at _ _ (infix_alike o os ps e f t a) r h = infix_means_same o os ps t e f a c at (infix_alike o os ps e f t a) r h
  description_same c at _ _ (function_set_alike a b e f s t) r h = functions_same c a b e f s t r h
  description_same c at _ _ (record_set_alike fs gs t) r h = records_same c fs gs t r h
  description_same c at m n a r h = value_same c at m n a r h
