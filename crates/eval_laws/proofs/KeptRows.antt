-- Where the parts of a term keep their outcomes, the term does: row by row.
use Rattle.std.proofs.Common.{ap, subst, inl, inr, List, [], ◌∷◌}
use Rattle.std.specs.Prelude.{ℕ, Bool, true, not, length, map, Option, Some, None}
use Rattle.base_core.specs.declared.place.Place.{Place}
use Rattle.values_core.specs.Data.{Val}
use Rattle.values_core.specs.declared.fault.EvalKind.TheVariants.{NoCase, OutsideDomain}
use Rattle.reading_trees.specs.declared.operators.PrefixOperator.{PrefixOperator}
use Rattle.reading_trees.specs.declared.operators.PrefixOperator.TheVariants as prefix
use Rattle.reading_trees.specs.declared.operators.InfixOperator.{InfixOperator}
use Rattle.reading_trees.specs.declared.operators.InfixOperator.TheVariants as infix_operator
use Rattle.reading_trees.specs.declared.operators.Quantifier.{Quantifier}
use Rattle.reading_trees.specs.declared.operators.Quantifier.TheVariants as quantifier
use Rattle.names_terms.specs.declared.level.Level.TheVariants as levels
use Rattle.names_terms.specs.declared.operator.Own.{Own}
use Rattle.names_terms.specs.declared.operator.Own.TheVariants as owns
use Rattle.names_terms.specs.declared.standard.StandardOperator.{StandardOperator}
use Rattle.names_terms.specs.declared.standard.StandardOperator.TheVariants as standard
use Rattle.names_terms.specs.Lists.{terms_list, steps_list, bounds_list, fields_list, changes_list, arms_list}
use Rattle.names_terms.specs.Terms as term
use Rattle.names_terms.specs.Terms.{Term, Meaning, Terms, Operands, Step, Steps, Bounds, Fields, Placed, place_of}
use Rattle.values_sets.specs.DescribedSets.{Described, SeqOf}
use Rattle.eval_meanings.specs.Outcomes.{Outcome, Gives, Fails, Then, Each, Operated, place_in}
use Rattle.eval_meanings.specs.Contexts.{Context, Table, Evaluate, Describe, WithDefinition, bind, within, primed, enter}
use Rattle.eval_meanings.specs.Operations.{InfixAnswers, PrefixAnswers}
use Rattle.eval_meanings.specs.Sets.{IsIn, MeansSet, ListedAt, first_operand, other_operands, PartDescribed, ProductDescribed, FieldDescribed, RecordsDescribed, IntervalDescribed, Joined, ChainDescribed}
use Rattle.eval_meanings.specs.Binders.{MembersOf, BoundValues, FirstThat, Passing}
use Rattle.eval_meanings.specs.Functions.{KeyOf, StepKey, AtStep, steps_place, StepsEvaluate, AtKey, Changed, AllChanged}
use Rattle.eval_meanings.specs.Recursion.{Recursion, KeysDescribed, RecursionEvaluates, applied_by, names_at, sets_of_names}
use Rattle.eval_meanings.specs.Unchanged.{TruthOf, prime_of, unchanged_of, changed_of, behind, StaysSame, MeansUnchanged, IsUnchanged}
use Rattle.eval_meanings.specs.Meanings.{ChainEvaluates, ImplicationHolds, AreEquivalent, IsMemberOf, IsSubsetOf, FunctionsDescribed, SequencesDescribed, SubsetsDescribed, InfixDescribed, InfixEvaluates, PrefixEvaluates, StandardEvaluates, BodyDescribed, UseDescribed, UseEvaluates, FirstArm, PairOf, QuantifiedEvaluates, FieldEvaluates, MeaningEvaluates, MeaningDescribes, IsValueOf}
use Rattle.eval_laws.proofs.Keeping.{Keeps, keeps_itself, keeps_then, keeps_first, keeps_either, keeps_each, keeps_all_true, keeps_some_true, keeps_truth}
use Rattle.eval_laws.proofs.KeptContexts.{KnowsMore, bind_more, within_more, primed_more, enter_more, keeps_known, keeps_slot}

module _ (ev : Evaluate) (de : Describe) (ev_more : (c b : Context) → KnowsMore c b → (e : Term) → Keeps (ev c e) (ev b e)) (de_more : (c b : Context) → KnowsMore c b → (e : Term) → Keeps (de c e) (de b e)) where
  truth_more : (c b : Context) → KnowsMore c b → (e : Term) → Keeps (TruthOf ev c e) (TruthOf ev b e)
  truth_more c b h e = keeps_first (ev c e) (ev b e) _ (ev_more c b h e)

  terms_more : (c b : Context) → KnowsMore c b → (es : List Term) → Keeps (Each (ev c) es) (Each (ev b) es)
  terms_more c b h es = keeps_each (ev c) (ev b) (ev_more c b h) es

  -- sets

  set_more : (c b : Context) → KnowsMore c b → (e : Term) → Keeps (MeansSet de c e) (MeansSet de b e)
  set_more c b h e = keeps_first (de c e) (de b e) _ (de_more c b h e)

  listed_more : (at : Place) (P Q : Outcome Described) → Keeps P Q → Keeps (ListedAt at P) (ListedAt at Q)
  listed_more at P Q p = keeps_first P Q _ p

  product_more : (c b : Context) → KnowsMore c b → (es : List Term) → Keeps (ProductDescribed de c es) (ProductDescribed de b es)
  product_more c b h es =
      keeps_first (Each (PartDescribed de c) es) (Each (PartDescribed de b) es) _
      (keeps_each (PartDescribed de c) (PartDescribed de b) (λ e. keeps_first (de c e) (de b e) _ (de_more c b h e)) es)

  records_more : (c b : Context) → KnowsMore c b → (fs : Fields) → Keeps (RecordsDescribed de c fs) (RecordsDescribed de b fs)
  records_more c b h fs =
      keeps_first (Each (FieldDescribed de c) (fields_list fs)) (Each (FieldDescribed de b) (fields_list fs)) _
      (keeps_each (FieldDescribed de c) (FieldDescribed de b) (λ f. keeps_first (de c f.1) (de b f.1) _ (de_more c b h f.1)) (fields_list fs))

  chain_described_more : (c b : Context) → KnowsMore c b → (o : InfixOperator) (p : Place) (d : Described) (es : List (Place × Term))
      → Keeps (ChainDescribed de c o p d es) (ChainDescribed de b o p d es)
  chain_described_more c b h o p d [] = keeps_itself (Gives d)
  chain_described_more c b h o p d (e ∷ es) =
      keeps_then (de c e.1) (de b e.1) _ _ (de_more c b h e.1)
      (λ f. keeps_then (Joined o e.0 p (place_of e.1) d f) (Joined o e.0 p (place_of e.1) d f) _ _ (keeps_itself (Joined o e.0 p (place_of e.1) d f))
      (λ g. chain_described_more c b h o e.0 g es))

  functions_more : (c b : Context) → KnowsMore c b → (s t : Term) → Keeps (FunctionsDescribed ev de c s t) (FunctionsDescribed ev de b s t)
  functions_more c b h s t = keeps_then (ev c s) (ev b s) _ _ (ev_more c b h s) (λ v. keeps_first (de c t) (de b t) _ (de_more c b h t))

  sequences_more : (c b : Context) → KnowsMore c b → (es : List Term) → Keeps (SequencesDescribed de c es) (SequencesDescribed de b es)
  sequences_more c b h [] r k = k
  sequences_more c b h (e ∷ []) r k = keeps_first (MeansSet de c e) (MeansSet de b e) (λ d. Gives (SeqOf d)) (set_more c b h e) r k
  sequences_more c b h (e ∷ f ∷ es) r k = k

  subsets_more : (c b : Context) → KnowsMore c b → (e : Term) → Keeps (SubsetsDescribed de c e) (SubsetsDescribed de b e)
  subsets_more c b h e = keeps_first (MeansSet de c e) (MeansSet de b e) _ (set_more c b h e)

  interval_more : (c b : Context) → KnowsMore c b → (os : Operands) (e : Term) (at : Place)
      → Keeps (InfixDescribed ev de c infix_operator.Interval os e at) (InfixDescribed ev de b infix_operator.Interval os e at)
  interval_more c b h (term.First s) t at r k = keeps_then (ev c s) (ev b s) _ _ (ev_more c b h s) (λ v. keeps_first (ev c t) (ev b t) (IntervalDescribed at (place_of s) (place_of t) v) (ev_more c b h t)) r k
  interval_more c b h (term.Next os p e) t at r k = k

  joined_more : (c b : Context) → KnowsMore c b → (o : InfixOperator) (s : Term) (es : List (Place × Term))
      → Keeps (Then (de c s) (λ d. ChainDescribed de c o (place_of s) d es)) (Then (de b s) (λ d. ChainDescribed de b o (place_of s) d es))
  joined_more c b h o s es = keeps_then (de c s) (de b s) _ _ (de_more c b h s) (λ d. chain_described_more c b h o (place_of s) d es)

  -- operators

  chain_more : (c b : Context) → KnowsMore c b → (o : InfixOperator) (p : Place) (v : Val) (es : List (Place × Term))
      → Keeps (ChainEvaluates ev c o p v es) (ChainEvaluates ev b o p v es)
  chain_more c b h o p v [] = keeps_itself (Gives v)
  chain_more c b h o p v (e ∷ es) =
      keeps_then (ev c e.1) (ev b e.1) _ _ (ev_more c b h e.1)
      (λ w. let P : Outcome Val = Operated (InfixAnswers o v w) (place_in e.0 (p ∷ place_of e.1 ∷ [])) in keeps_then P P _ _ (keeps_itself P) (λ u. chain_more c b h o e.0 u es))

  member_more : (c b : Context) → KnowsMore c b → (s t : Term) → Keeps (IsMemberOf ev de c s t) (IsMemberOf ev de b s t)
  member_more c b h s t = keeps_then (ev c s) (ev b s) _ _ (ev_more c b h s) (λ v. keeps_first (MeansSet de c t) (MeansSet de b t) _ (set_more c b h t))

  subset_more : (c b : Context) → KnowsMore c b → (s t : Term) → Keeps (IsSubsetOf ev de c s t) (IsSubsetOf ev de b s t)
  subset_more c b h s t = keeps_then (ev c s) (ev b s) _ _ (ev_more c b h s) (λ u. keeps_first (de c t) (de b t) _ (de_more c b h t))

  implication_more : (c b : Context) → KnowsMore c b → (s t : Term) → Keeps (ImplicationHolds ev c s t) (ImplicationHolds ev b s t)
  implication_more c b h s t =
      keeps_then (TruthOf ev c s) (TruthOf ev b s) _ _ (truth_more c b h s)
      (λ p. keeps_either p (TruthOf ev c t) (Gives true) (TruthOf ev b t) (Gives true) (truth_more c b h t) (keeps_itself (Gives true)))

  equivalent_more : (c b : Context) → KnowsMore c b → (s t : Term) → Keeps (AreEquivalent ev c s t) (AreEquivalent ev b s t)
  equivalent_more c b h s t = keeps_then (ev c s) (ev b s) _ _ (ev_more c b h s) (λ v. keeps_first (ev c t) (ev b t) _ (ev_more c b h t))

  infix_more : (c b : Context) → KnowsMore c b → (o : InfixOperator) (os : Operands) (e : Term) (at : Place) → Keeps (InfixEvaluates ev de c o os e at) (InfixEvaluates ev de b o os e at)
  infix_more c b h infix_operator.Implies (term.First s) t at r k = keeps_truth (ImplicationHolds ev c s t) (ImplicationHolds ev b s t) (implication_more c b h s t) r k
  infix_more c b h infix_operator.Equivalent (term.First s) t at r k = keeps_truth (AreEquivalent ev c s t) (AreEquivalent ev b s t) (equivalent_more c b h s t) r k
  infix_more c b h infix_operator.Member (term.First s) t at r k = keeps_truth (IsMemberOf ev de c s t) (IsMemberOf ev de b s t) (member_more c b h s t) r k
  infix_more c b h infix_operator.NotMember (term.First s) t at r k =
      keeps_truth (Then (IsMemberOf ev de c s t) (λ p. Gives (not p))) (Then (IsMemberOf ev de b s t) (λ p. Gives (not p)))
      (keeps_first (IsMemberOf ev de c s t) (IsMemberOf ev de b s t) _ (member_more c b h s t)) r k
  infix_more c b h infix_operator.SubsetOrEqual (term.First s) t at r k = keeps_truth (IsSubsetOf ev de c s t) (IsSubsetOf ev de b s t) (subset_more c b h s t) r k
  infix_more c b h infix_operator.Interval os e at r k = listed_more at _ _ (interval_more c b h os e at) r k
  infix_more c b h infix_operator.CartesianProduct os e at r k = listed_more at _ _ (product_more c b h (first_operand os ∷ map (λ e. e.1) (other_operands (term.Next os at e)))) r k
  infix_more c b h infix_operator.Union os e at r k = listed_more at _ _ (joined_more c b h infix_operator.Union (first_operand os) (other_operands (term.Next os at e))) r k
  infix_more c b h infix_operator.Intersection os e at r k = listed_more at _ _ (joined_more c b h infix_operator.Intersection (first_operand os) (other_operands (term.Next os at e))) r k
  infix_more c b h infix_operator.Difference os e at r k = listed_more at _ _ (joined_more c b h infix_operator.Difference (first_operand os) (other_operands (term.Next os at e))) r k
  infix_more c b h o os e at r k =
      keeps_then (ev c (first_operand os)) (ev b (first_operand os)) _ _ (ev_more c b h (first_operand os))
      (λ v. chain_more c b h o (place_of (first_operand os)) v (other_operands (term.Next os at e))) r k

  standard_more : (c b : Context) → KnowsMore c b → (o : StandardOperator) (ts : Terms) (at : Place) → Keeps (StandardEvaluates ev de c o ts at) (StandardEvaluates ev de b o ts at)
  standard_more c b h standard.Seq ts at = listed_more at _ _ (sequences_more c b h (terms_list ts))
  standard_more c b h o ts at = keeps_first (Each (ev c) (terms_list ts)) (Each (ev b) (terms_list ts)) _ (terms_more c b h (terms_list ts))

  -- uses

  body_more : (c b : Context) → KnowsMore c b → (own : Own) (body : Term) → Keeps (BodyDescribed own ev de c body) (BodyDescribed own ev de b body)
  body_more c b h owns.Apart body = de_more c b h body
  body_more c b h owns.Itself body = keeps_first (ev c body) (ev b body) _ (ev_more c b h body)
  body_more c b h owns.Function body = keeps_first (ev c body) (ev b body) _ (ev_more c b h body)

  use_described_more : (ops : Table) (c b : Context) → KnowsMore c b → (n : ℕ) → Keeps (UseDescribed ops ev de c n) (UseDescribed ops ev de b n)
  use_described_more ops c b h n r k = (k.0, k.1, body_more (enter k.0 [] c) (enter k.0 [] b) (enter_more c b k.0 [] h) k.0.own k.0.body r k.2)

  use_more : (ops : Table) (c b : Context) → KnowsMore c b → (n : ℕ) (ts : Terms) (at : Place) → Keeps (UseEvaluates ops ev de c n ts at) (UseEvaluates ops ev de b n ts at)
  use_more ops c b h n term.NoTerms at r k = listed_more at _ _ (use_described_more ops c b h n) r k
  use_more ops c b h n (term.MoreTerms ts e) at r k =
      let es : List Term = terms_list (term.MoreTerms ts e) in
      keeps_then (Each (ev c) es) (Each (ev b) es) (λ vs. WithDefinition ops n (λ o. ev (enter o vs c) o.body)) (λ vs. WithDefinition ops n (λ o. ev (enter o vs b) o.body)) (terms_more c b h es)
      (λ vs q g. (g.0, g.1, ev_more (enter g.0 vs c) (enter g.0 vs b) (enter_more c b g.0 vs h) g.0.body q g.2)) r k

  -- UNCHANGED

  same_more : (c b : Context) → KnowsMore c b → (at : Place) (e : Term) → Keeps (StaysSame ev c at e) (StaysSame ev b at e)
  same_more c b h at e = keeps_then (ev c (prime_of at e)) (ev b (prime_of at e)) _ _ (ev_more c b h (prime_of at e)) (λ v. keeps_first (ev c e) (ev b e) _ (ev_more c b h e))

  means_unchanged_more : (c b : Context) → KnowsMore c b → (at : Place) (e : Term) (d a : Context) → KnowsMore d a → (f : Term)
      → Keeps (MeansUnchanged ev c at e d f) (MeansUnchanged ev b at e a f)
  means_unchanged_more c b h at e d a i (Placed p l (term.Variable x)) = same_more c b h at (Placed at levels.State (term.Variable x))
  means_unchanged_more c b h at e d a i (Placed p l (term.Tuple ts)) =
      keeps_all_true (λ item. TruthOf ev d (unchanged_of at item)) (λ item. TruthOf ev a (unchanged_of at item)) (λ item. truth_more d a i (unchanged_of at item)) (terms_list ts)
  means_unchanged_more c b h at e d a i f = same_more c b h at e

  -- what stands behind a name, where there are so many slots
  abbrev UnchangedIn : Table → ℕ → Context → Place → Term → Outcome Bool
  UnchangedIn ops n c at e = let found : ℕ × Term = behind ops (length ops) n e in MeansUnchanged ev c at e (within found.0 c) found.1

  unchanged_more : (ops : Table) (c b : Context) → KnowsMore c b → (at : Place) (e : Term) → Keeps (IsUnchanged ops ev c at e) (IsUnchanged ops ev b at e)
  unchanged_more ops c b h at e r k =
      let found : ℕ × Term = behind ops (length ops) (length c.slots) e in
      subst (λ (n : ℕ). UnchangedIn ops n b at e r) (ap length h.slots)
      (means_unchanged_more c b h at e (within found.0 c) (within found.0 b) (within_more c b found.0 h) found.1 r k)

  prefix_more : (ops : Table) (c b : Context) → KnowsMore c b → (o : PrefixOperator) (e : Term) (at : Place) → Keeps (PrefixEvaluates ops ev de c o e at) (PrefixEvaluates ops ev de b o e at)
  prefix_more ops c b h prefix.Not e at r k =
      keeps_truth (Then (TruthOf ev c e) (λ p. Gives (not p))) (Then (TruthOf ev b e) (λ p. Gives (not p))) (keeps_first (TruthOf ev c e) (TruthOf ev b e) _ (truth_more c b h e)) r k
  prefix_more ops c b h prefix.Unchanged e at r k = keeps_truth (IsUnchanged ops ev c at e) (IsUnchanged ops ev b at e) (unchanged_more ops c b h at e) r k
  prefix_more ops c b h prefix.Powerset e at r k = listed_more at _ _ (subsets_more c b h e) r k
  prefix_more ops c b h o e at r k = keeps_first (ev c e) (ev b e) (λ v. Operated (PrefixAnswers o v) (place_in at (place_of e ∷ []))) (ev_more c b h e) r k

  -- functions

  key_more : (c b : Context) → KnowsMore c b → (at : Place) (s : Step) → Keeps (StepKey ev c at s) (StepKey ev b at s)
  key_more c b h at term.Prime r k = k
  key_more c b h at (term.Index ts) r k = keeps_first (Each (ev c) (terms_list ts)) (Each (ev b) (terms_list ts)) (KeyOf at) (terms_more c b h (terms_list ts)) r k
  key_more c b h at (term.Field n) r k = k

  keys_more : (c b : Context) → KnowsMore c b → (es : List Term) → Keeps (KeysDescribed de c es) (KeysDescribed de b es)
  keys_more c b h [] = product_more c b h []
  keys_more c b h (e ∷ []) = set_more c b h e
  keys_more c b h (e ∷ f ∷ es) = product_more c b h (e ∷ f ∷ es)

  recursion_more : (c b : Context) → KnowsMore c b → (at : Place) (g : Recursion) (key : Val) → Keeps (RecursionEvaluates ev de c at g key) (RecursionEvaluates ev de b at g key)
  recursion_more c b h at g key =
      let es : List Term = sets_of_names (bounds_list g.bounds) in
      let vs : List Val = names_at es key in
      keeps_then (KeysDescribed de c es) (KeysDescribed de b es) _ _ (keys_more c b h es)
      (λ d. keeps_then (IsIn d key) (IsIn d key) _ _ (keeps_itself (IsIn d key))
      (λ t. keeps_either t (ev (bind c vs) g.value) (Fails OutsideDomain at) (ev (bind b vs) g.value) (Fails OutsideDomain at) (ev_more (bind c vs) (bind b vs) (bind_more c b vs h) g.value) (keeps_itself (Fails OutsideDomain at))))

  at_step_more : (c b : Context) → KnowsMore c b → (p q : Place) (s : Step) (x : Option Recursion) (P Q : Outcome Val) → Keeps P Q → Keeps (AtStep ev de c p q s x P) (AtStep ev de b p q s x Q)
  at_step_more c b h p q s None P Q k = keeps_then P Q _ _ k (λ f. keeps_first (StepKey ev c p s) (StepKey ev b p s) _ (key_more c b h p s))
  at_step_more c b h p q s (Some g) P Q k =
      keeps_then (StepKey ev c p s) (StepKey ev b p s) _ _ (key_more c b h p s) (recursion_more (within g.around c) (within g.around b) (within_more c b g.around h) p g)

  steps_more : (ops : Table) (c b : Context) → KnowsMore c b → (e : Term) (ss : Steps) → Keeps (StepsEvaluate ops ev de c e ss) (StepsEvaluate ops ev de b e ss)
  steps_more ops c b h e term.NoSteps = ev_more c b h e
  steps_more ops c b h e (term.MoreSteps ss p term.Prime) = steps_more ops (primed c) (primed b) (primed_more c b h) e ss
  steps_more ops c b h e (term.MoreSteps ss p s) =
      at_step_more c b h p (steps_place (place_of e) ss) s (applied_by ops e ss s) (StepsEvaluate ops ev de c e ss) (StepsEvaluate ops ev de b e ss) (steps_more ops c b h e ss)

  at_key_more : (base : Place) (f key : Val) (P Q : Val → Outcome Val) → ((v : Val) → Keeps (P v) (Q v)) → Keeps (AtKey base f key P) (AtKey base f key Q)
  at_key_more base f key P Q p r (inl k) = inl k
  at_key_more base f key P Q p r (inr (inl k)) = inr (inl k)
  at_key_more base f key P Q p r (inr (inr k)) = inr (inr (k.0, k.1, p k.0 r k.2))

  changed_more : (c b : Context) → KnowsMore c b → (at base : Place) (path : List Step) (new : Term) (f : Val) → Keeps (Changed ev c at base path new f) (Changed ev b at base path new f)
  changed_more c b h at base [] new f = ev_more (bind c (f ∷ [])) (bind b (f ∷ [])) (bind_more c b (f ∷ []) h) new
  changed_more c b h at base (s ∷ path) new f =
      keeps_then (StepKey ev c at s) (StepKey ev b at s) _ _ (key_more c b h at s)
      (λ key. at_key_more base f key _ _ (λ old. keeps_first (Changed ev c at base path new old) (Changed ev b at base path new old) _ (changed_more c b h at base path new old)))

  all_changed_more : (c b : Context) → KnowsMore c b → (at base : Place) (cs : List (Steps × Term)) (f : Val) → Keeps (AllChanged ev c at base cs f) (AllChanged ev b at base cs f)
  all_changed_more c b h at base [] f = keeps_itself (Gives f)
  all_changed_more c b h at base (change ∷ cs) f =
      let path : List Step = map (λ s. s.1) (steps_list change.0) in
      keeps_then (Changed ev c at base path change.1 f) (Changed ev b at base path change.1 f) _ _ (changed_more c b h at base path change.1 f) (all_changed_more c b h at base cs)

  -- binders

  members_more : (c b : Context) → KnowsMore c b → (e : Term) → Keeps (MembersOf ev c e) (MembersOf ev b e)
  members_more c b h e = keeps_first (ev c e) (ev b e) _ (ev_more c b h e)

  bounds_more : (c b : Context) → KnowsMore c b → (bs : Bounds) → Keeps (BoundValues ev c bs) (BoundValues ev b bs)
  bounds_more c b h bs =
      keeps_first _ _ _ (keeps_each {B = (ℕ × Place) × Val} (λ n. Then (ev c n.1) (λ v. Gives ((n.0, place_of n.1), v))) (λ n. Then (ev b n.1) (λ v. Gives ((n.0, place_of n.1), v)))
      (λ n. keeps_first (ev c n.1) (ev b n.1) _ (ev_more c b h n.1)) (bounds_list bs))

  first_more : (at : Place) (P Q : Val → Outcome Bool) → ((v : Val) → Keeps (P v) (Q v)) → (vs : List Val) → Keeps (FirstThat at P vs) (FirstThat at Q vs)
  first_more at P Q p [] r k = k
  first_more at P Q p (v ∷ vs) r k =
      keeps_then (P v) (Q v) _ _ (p v)
      (λ b. keeps_either b (Gives v) (FirstThat at P vs) (Gives v) (FirstThat at Q vs) (keeps_itself (Gives v)) (first_more at P Q p vs)) r k

  passing_more : (P Q : Val → Outcome Bool) → ((v : Val) → Keeps (P v) (Q v)) → (vs : List Val) → Keeps (Passing P vs) (Passing Q vs)
  passing_more P Q p [] = keeps_itself (Gives [])
  passing_more P Q p (v ∷ vs) = keeps_then (P v) (Q v) _ _ (p v) (λ b. keeps_first (Passing P vs) (Passing Q vs) _ (passing_more P Q p vs))

  test_more : (c b : Context) → KnowsMore c b → (p : Term) (v : Val) → Keeps (TruthOf ev (bind c (v ∷ [])) p) (TruthOf ev (bind b (v ∷ [])) p)
  test_more c b h p v = truth_more (bind c (v ∷ [])) (bind b (v ∷ [])) (bind_more c b (v ∷ []) h) p

  tests_more : (c b : Context) → KnowsMore c b → (e : Term) (vs : List Val) → Keeps (TruthOf ev (bind c vs) e) (TruthOf ev (bind b vs) e)
  tests_more c b h e vs = truth_more (bind c vs) (bind b vs) (bind_more c b vs h) e

  quantified_more : (c b : Context) → KnowsMore c b → (q : Quantifier) (bs : Bounds) (e : Term) → Keeps (QuantifiedEvaluates ev c q bs e) (QuantifiedEvaluates ev b q bs e)
  quantified_more c b h quantifier.ForAll bs e = keeps_then (BoundValues ev c bs) (BoundValues ev b bs) _ _ (bounds_more c b h bs) (keeps_all_true _ _ (tests_more c b h e))
  quantified_more c b h quantifier.Exists bs e = keeps_then (BoundValues ev c bs) (BoundValues ev b bs) _ _ (bounds_more c b h bs) (keeps_some_true _ _ (tests_more c b h e))

  pair_more : (c b : Context) → KnowsMore c b → (at : Place) (e : Term) (vs : List Val) → Keeps (PairOf ev c at e vs) (PairOf ev b at e vs)
  pair_more c b h at e vs = keeps_first (ev (bind c vs) e) (ev (bind b vs) e) _ (ev_more (bind c vs) (bind b vs) (bind_more c b vs h) e)

  -- CASE

  arm_more : (c b : Context) → KnowsMore c b → (P Q : Outcome Val) → Keeps P Q → (arms : List (Term × Term)) → Keeps (FirstArm ev c P arms) (FirstArm ev b Q arms)
  arm_more c b h P Q p [] = p
  arm_more c b h P Q p (arm ∷ arms) =
      keeps_then (TruthOf ev c arm.0) (TruthOf ev b arm.0) _ _ (truth_more c b h arm.0)
      (λ t. keeps_either t (ev c arm.1) (FirstArm ev c P arms) (ev b arm.1) (FirstArm ev b Q arms) (ev_more c b h arm.1) (arm_more c b h P Q p arms))

  -- terms

  pub meaning_more : (ops : Table) (c b : Context) → KnowsMore c b → (at : Place) (m : Meaning) → Keeps (MeaningEvaluates ops ev de c at m) (MeaningEvaluates ops ev de b at m)
  meaning_more ops c b h at (term.Known v) = λ r k. k
  meaning_more ops c b h at (term.Named n) = λ r k. k
  meaning_more ops c b h at (term.Variable x) = keeps_known c.now b.now x h.now
  meaning_more ops c b h at (term.Slot i) = keeps_slot c.slots b.slots i h.slots
  meaning_more ops c b h at (term.Use n ts) = use_more ops c b h n ts at
  meaning_more ops c b h at (term.Standard o ts) = standard_more c b h o ts at
  meaning_more ops c b h at (term.Parenthesized e) = listed_more at (de c e) (de b e) (de_more c b h e)
  meaning_more ops c b h at (term.Scoped ks e) = ev_more c b h e
  meaning_more ops c b h at (term.All ts) = keeps_truth _ _ (keeps_all_true (TruthOf ev c) (TruthOf ev b) (truth_more c b h) (terms_list ts))
  meaning_more ops c b h at (term.Any ts) = keeps_truth _ _ (keeps_some_true (TruthOf ev c) (TruthOf ev b) (truth_more c b h) (terms_list ts))
  meaning_more ops c b h at (term.Prefix o e) = prefix_more ops c b h o e at
  meaning_more ops c b h at (term.Infix o os e) = infix_more c b h o os e at
  meaning_more ops c b h at (term.Postfix e ss s) = steps_more ops c b h e (term.MoreSteps ss at s)
  meaning_more ops c b h at (term.SetOf ts) = keeps_first _ _ _ (terms_more c b h (terms_list ts))
  meaning_more ops c b h at (term.Filter a p) =
      keeps_then (MembersOf ev c a) (MembersOf ev b a) _ _ (members_more c b h a)
      (λ vs. keeps_first _ _ _ (passing_more (λ v. TruthOf ev (bind c (v ∷ [])) p) (λ v. TruthOf ev (bind b (v ∷ [])) p) (test_more c b h p) vs))
  meaning_more ops c b h at (term.Map e bs) =
      keeps_then (BoundValues ev c bs) (BoundValues ev b bs) _ _ (bounds_more c b h bs)
      (λ all. keeps_first _ _ _ (keeps_each (λ vs. ev (bind c vs) e) (λ vs. ev (bind b vs) e) (λ vs. ev_more (bind c vs) (bind b vs) (bind_more c b vs h) e) all))
  meaning_more ops c b h at (term.Tuple ts) = keeps_first _ _ _ (terms_more c b h (terms_list ts))
  meaning_more ops c b h at (term.Function bs e) =
      keeps_then (BoundValues ev c bs) (BoundValues ev b bs) _ _ (bounds_more c b h bs)
      (λ all. keeps_first _ _ _ (keeps_each (PairOf ev c at e) (PairOf ev b at e) (pair_more c b h at e) all))
  meaning_more ops c b h at (term.FunctionSet s t) = listed_more at _ _ (functions_more c b h s t)
  meaning_more ops c b h at (term.Record fs) =
      keeps_first _ _ _ (keeps_each (FieldEvaluates ev c) (FieldEvaluates ev b) (λ f. keeps_first (ev c f.1) (ev b f.1) _ (ev_more c b h f.1)) (fields_list fs))
  meaning_more ops c b h at (term.RecordSet fs) = listed_more at _ _ (records_more c b h fs)
  meaning_more ops c b h at (term.Except e cs) = keeps_then (ev c e) (ev b e) _ _ (ev_more c b h e) (all_changed_more c b h at (place_of e) (changes_list cs))
  meaning_more ops c b h at (term.Quantified q bs e) = keeps_truth _ _ (quantified_more c b h q bs e)
  meaning_more ops c b h at (term.Choose s p) = keeps_then (MembersOf ev c s) (MembersOf ev b s) _ _ (members_more c b h s) (first_more at _ _ (test_more c b h p))
  meaning_more ops c b h at (term.If p s t) =
      keeps_then (TruthOf ev c p) (TruthOf ev b p) _ _ (truth_more c b h p)
      (λ q. keeps_either q (ev c s) (ev c t) (ev b s) (ev b t) (ev_more c b h s) (ev_more c b h t))
  meaning_more ops c b h at (term.Case arms) = arm_more c b h (Fails NoCase at) (Fails NoCase at) (keeps_itself (Fails NoCase at)) (arms_list arms)
  meaning_more ops c b h at (term.CaseOther arms e) = arm_more c b h (ev c e) (ev b e) (ev_more c b h e) (arms_list arms)
  meaning_more ops c b h at (term.BoxAction a v) = keeps_truth _ _ (keeps_some_true (TruthOf ev c) (TruthOf ev b) (truth_more c b h) (a ∷ unchanged_of at v ∷ []))
  meaning_more ops c b h at (term.AngleAction a v) = keeps_truth _ _ (keeps_all_true (TruthOf ev c) (TruthOf ev b) (truth_more c b h) (a ∷ changed_of at v ∷ []))
  meaning_more ops c b h at (term.Fairness v a) = λ r k. k

  value_more : (ops : Table) (c b : Context) → KnowsMore c b → (at : Place) (m : Meaning) → Keeps (IsValueOf (MeaningEvaluates ops ev de c at m)) (IsValueOf (MeaningEvaluates ops ev de b at m))
  value_more ops c b h at m = keeps_first (MeaningEvaluates ops ev de c at m) (MeaningEvaluates ops ev de b at m) _ (meaning_more ops c b h at m)

  pub description_more : (ops : Table) (c b : Context) → KnowsMore c b → (at : Place) (m : Meaning) → Keeps (MeaningDescribes ops ev de c at m) (MeaningDescribes ops ev de b at m)
  description_more ops c b h at (term.Named n) = λ r k. k
  description_more ops c b h at (term.Use n term.NoTerms) = use_described_more ops c b h n
  description_more ops c b h at (term.Standard standard.Seq ts) = sequences_more c b h (terms_list ts)
  description_more ops c b h at (term.Parenthesized e) = de_more c b h e
  description_more ops c b h at (term.Prefix prefix.Powerset e) = subsets_more c b h e
  description_more ops c b h at (term.Infix infix_operator.Interval os e) = interval_more c b h os e at
  description_more ops c b h at (term.Infix infix_operator.CartesianProduct os e) = product_more c b h (first_operand os ∷ map (λ e. e.1) (other_operands (term.Next os at e)))
  description_more ops c b h at (term.Infix infix_operator.Union os e) = joined_more c b h infix_operator.Union (first_operand os) (other_operands (term.Next os at e))
  description_more ops c b h at (term.Infix infix_operator.Intersection os e) = joined_more c b h infix_operator.Intersection (first_operand os) (other_operands (term.Next os at e))
  description_more ops c b h at (term.Infix infix_operator.Difference os e) = joined_more c b h infix_operator.Difference (first_operand os) (other_operands (term.Next os at e))
  description_more ops c b h at (term.FunctionSet s t) = functions_more c b h s t
  description_more ops c b h at (term.RecordSet fs) = records_more c b h fs
  description_more ops c b h at m = value_more ops c b h at m
