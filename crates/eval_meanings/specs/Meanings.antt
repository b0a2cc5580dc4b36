-- One level of evaluation: what comes of a term with this meaning at this place, where its parts are evaluated and described so. One clause
-- for each kind of term. The meaning of each is that of Lamport, Specifying Systems, chapter 16; orders, places and what is listed are
-- this project's profile. Temporal operators have no value.
use Rattle.std.specs.Prelude.{ℕ, Bool, true, false, not, List, [], ◌∷◌, map, Contains}
use Rattle.base_core.specs.declared.place.Place.{Place}
use Rattle.values_core.specs.Data.{Val, string}
use Rattle.values_core.specs.SetOperations.{GivesSet}
use Rattle.values_core.specs.FunctionOperations.{GivesFunction, GivesSequence}
use Rattle.values_core.specs.declared.fault.EvalKind.TheVariants.{NoCase}
use Rattle.reading_trees.specs.declared.operators.PrefixOperator.{PrefixOperator}
use Rattle.reading_trees.specs.declared.operators.PrefixOperator.TheVariants as prefix
use Rattle.reading_trees.specs.declared.operators.InfixOperator.{InfixOperator}
use Rattle.reading_trees.specs.declared.operators.InfixOperator.TheVariants as infix_operator
use Rattle.reading_trees.specs.declared.operators.Quantifier.{Quantifier}
use Rattle.reading_trees.specs.declared.operators.Quantifier.TheVariants as quantifier
use Rattle.names_terms.specs.declared.operator.Own.{Own}
use Rattle.names_terms.specs.declared.operator.Own.TheVariants as owns
use Rattle.names_terms.specs.declared.standard.StandardOperator.{StandardOperator}
use Rattle.names_terms.specs.declared.standard.StandardOperator.TheVariants as standard
use Rattle.names_terms.specs.Lists.{terms_list, fields_list, changes_list, arms_list}
use Rattle.names_terms.specs.Terms as term
use Rattle.names_terms.specs.Terms.{Term, Meaning, Terms, Operands, Step, Bounds, Fields, place_of}
use Rattle.values_sets.specs.DescribedSets as described
use Rattle.values_sets.specs.DescribedSets.{Described, Listed}
use Rattle.eval_meanings.specs.Outcomes.{Outcome, Gives, Fails, Then, Either, Each, AllTrue, SomeTrue, truth_at, IsTruth, Operated, place_in}
use Rattle.eval_meanings.specs.Contexts.{Context, Table, Evaluate, Describe, IsAt, IsKnown, WithDefinition, bind, enter}
use Rattle.eval_meanings.specs.Operations.{InfixAnswers, PrefixAnswers, StandardAnswers}
use Rattle.eval_meanings.specs.Sets.{named_set, set_at, MeansSet, ListedAt, IsIn, IsWithin, first_operand, other_operands, ProductDescribed, RecordsDescribed, IntervalDescribed, ChainDescribed}
use Rattle.eval_meanings.specs.Binders.{members_at, MembersOf, BoundValues, FirstThat, Passing}
use Rattle.eval_meanings.specs.Functions.{KeyOf, StepsEvaluate, AllChanged}
use Rattle.eval_meanings.specs.Unchanged.{TruthOf, IsUnchanged, HoldsOrStutters, HoldsAndChanges}

-- A chain of an operator on values goes as if nested to the left: the beginning, which stands at the place p, is the operand of what follows, and
-- the place of each result is that of its operator.
abbrev pub ChainEvaluates : Evaluate → Context → InfixOperator → Place → Val → List (Place × Term) → Outcome Val
ChainEvaluates evaluate c o p v [] = Gives v
ChainEvaluates evaluate c o p v (e ∷ es) =
    Then (evaluate c e.1) (λ w. Then (Operated (InfixAnswers o v w) (place_in e.0 (p ∷ place_of e.1 ∷ []))) (λ u. ChainEvaluates evaluate c o e.0 u es))

-- a => b: b is asked for where a is true
abbrev pub ImplicationHolds : Evaluate → Context → Term → Term → Outcome Bool
ImplicationHolds evaluate c a b = Then (TruthOf evaluate c a) (λ p. Either p (TruthOf evaluate c b) (Gives true))

-- a <=> b: both are evaluated, then tested
abbrev pub both_or_neither : Bool → Bool → Bool
both_or_neither true q = q
both_or_neither false q = not q

abbrev pub AreEquivalent : Evaluate → Context → Term → Term → Outcome Bool
AreEquivalent evaluate c a b =
    Then (evaluate c a) (λ v. Then (evaluate c b) (λ w. Then (truth_at (place_of a) v) (λ p. Then (truth_at (place_of b) w) (λ q. Gives (both_or_neither p q)))))

-- a \in S and S \subseteq T: the right side is not listed
abbrev pub IsMemberOf : Evaluate → Describe → Context → Term → Term → Outcome Bool
IsMemberOf evaluate describe c a b = Then (evaluate c a) (λ v. Then (MeansSet describe c b) (λ d. IsIn d v))

abbrev pub IsSubsetOf : Evaluate → Describe → Context → Term → Term → Outcome Bool
IsSubsetOf evaluate describe c a b =
    Then (evaluate c a) (λ u. Then (describe c b) (λ d. Then (members_at (place_of a) u) (λ us. Then (set_at (place_of b) d) (λ e. IsWithin e u))))

-- [S -> T]: the domain is listed, at its turn
abbrev pub FunctionsDescribed : Evaluate → Describe → Context → Term → Term → Outcome Described
FunctionsDescribed evaluate describe c a b =
    Then (evaluate c a) (λ v. Then (describe c b) (λ d. Then (members_at (place_of a) v) (λ vs. Then (set_at (place_of b) d) (λ e. Gives (described.Functions v e)))))

-- Seq(S) and SUBSET S
abbrev pub SequencesDescribed : Describe → Context → List Term → Outcome Described
SequencesDescribed describe c (a ∷ []) r = Then (MeansSet describe c a) (λ d. Gives (described.SeqOf d)) r
SequencesDescribed describe c es r = ⊥

abbrev pub SubsetsDescribed : Describe → Context → Term → Outcome Described
SubsetsDescribed describe c a = Then (MeansSet describe c a) (λ d. Gives (described.PowerOf d))

-- the sets that infix operators make: a..b, S \X T, and \cup, \cap and \, which make a value of values
abbrev pub InfixDescribed : Evaluate → Describe → Context → InfixOperator → Operands → Term → Place → Outcome Described
InfixDescribed evaluate describe c infix_operator.Interval (term.First a) b at r = Then (evaluate c a) (λ v. Then (evaluate c b) (IntervalDescribed at (place_of a) (place_of b) v)) r
InfixDescribed evaluate describe c infix_operator.Interval os b at r = ⊥
InfixDescribed evaluate describe c infix_operator.CartesianProduct os b at r =
    ProductDescribed describe c (first_operand os ∷ map (λ e. e.1) (other_operands (term.Next os at b))) r
InfixDescribed evaluate describe c o os b at r =
    Then (describe c (first_operand os)) (λ d. ChainDescribed describe c o (place_of (first_operand os)) d (other_operands (term.Next os at b))) r

abbrev pub InfixEvaluates : Evaluate → Describe → Context → InfixOperator → Operands → Term → Place → Outcome Val
InfixEvaluates evaluate describe c infix_operator.Implies (term.First a) b at r = IsTruth (ImplicationHolds evaluate c a b) r
InfixEvaluates evaluate describe c infix_operator.Equivalent (term.First a) b at r = IsTruth (AreEquivalent evaluate c a b) r
InfixEvaluates evaluate describe c infix_operator.Member (term.First a) b at r = IsTruth (IsMemberOf evaluate describe c a b) r
InfixEvaluates evaluate describe c infix_operator.NotMember (term.First a) b at r = IsTruth (Then (IsMemberOf evaluate describe c a b) (λ p. Gives (not p))) r
InfixEvaluates evaluate describe c infix_operator.SubsetOrEqual (term.First a) b at r = IsTruth (IsSubsetOf evaluate describe c a b) r
InfixEvaluates evaluate describe c infix_operator.Interval os b at r = ListedAt at (InfixDescribed evaluate describe c infix_operator.Interval os b at) r
InfixEvaluates evaluate describe c infix_operator.CartesianProduct os b at r = ListedAt at (InfixDescribed evaluate describe c infix_operator.CartesianProduct os b at) r
InfixEvaluates evaluate describe c infix_operator.Union os b at r = ListedAt at (InfixDescribed evaluate describe c infix_operator.Union os b at) r
InfixEvaluates evaluate describe c infix_operator.Intersection os b at r = ListedAt at (InfixDescribed evaluate describe c infix_operator.Intersection os b at) r
InfixEvaluates evaluate describe c infix_operator.Difference os b at r = ListedAt at (InfixDescribed evaluate describe c infix_operator.Difference os b at) r
InfixEvaluates evaluate describe c o os b at r =
    Then (evaluate c (first_operand os)) (λ v. ChainEvaluates evaluate c o (place_of (first_operand os)) v (other_operands (term.Next os at b))) r

abbrev pub PrefixEvaluates : Table → Evaluate → Describe → Context → PrefixOperator → Term → Place → Outcome Val
PrefixEvaluates ops evaluate describe c prefix.Not a at r = IsTruth (Then (TruthOf evaluate c a) (λ p. Gives (not p))) r
PrefixEvaluates ops evaluate describe c prefix.Unchanged a at r = IsTruth (IsUnchanged ops evaluate c at a) r
PrefixEvaluates ops evaluate describe c prefix.Powerset a at r = ListedAt at (SubsetsDescribed describe c a) r
PrefixEvaluates ops evaluate describe c o a at r = Then (evaluate c a) (λ v. Operated (PrefixAnswers o v) (place_in at (place_of a ∷ []))) r

-- the arguments first; Seq is a set
abbrev pub StandardEvaluates : Evaluate → Describe → Context → StandardOperator → Terms → Place → Outcome Val
StandardEvaluates evaluate describe c standard.Seq ts at r = ListedAt at (SequencesDescribed describe c (terms_list ts)) r
StandardEvaluates evaluate describe c o ts at r =
    Then (Each (evaluate c) (terms_list ts)) (λ vs. Operated (StandardAnswers o vs) (place_in at (map place_of (terms_list ts)))) r

-- a term that is no described set is the value that it has
abbrev pub IsValueOf : Outcome Val → Outcome Described
IsValueOf P = Then P (λ v. Gives (Listed v))

-- A definition: its arguments first, then its body. One without parameters is evaluated at each use, and described as its body is; one that uses
-- itself is described as the value that it has.
abbrev pub BodyDescribed : Own → Evaluate → Describe → Context → Term → Outcome Described
BodyDescribed owns.Apart evaluate describe c body = describe c body
BodyDescribed own evaluate describe c body = IsValueOf (evaluate c body)

abbrev pub UseDescribed : Table → Evaluate → Describe → Context → ℕ → Outcome Described
UseDescribed ops evaluate describe c k = WithDefinition ops k (λ o. BodyDescribed o.own evaluate describe (enter o [] c) o.body)

abbrev pub UseEvaluates : Table → Evaluate → Describe → Context → ℕ → Terms → Place → Outcome Val
UseEvaluates ops evaluate describe c k term.NoTerms at r = ListedAt at (UseDescribed ops evaluate describe c k) r
UseEvaluates ops evaluate describe c k ts at r = Then (Each (evaluate c) (terms_list ts)) (λ vs. WithDefinition ops k (λ o. evaluate (enter o vs c) o.body)) r

-- CASE: the value of the first arm whose test is true, or else what the last arm says
abbrev pub FirstArm : Evaluate → Context → Outcome Val → List (Term × Term) → Outcome Val
FirstArm evaluate c other [] = other
FirstArm evaluate c other (arm ∷ arms) = Then (TruthOf evaluate c arm.0) (λ b. Either b (evaluate c arm.1) (FirstArm evaluate c other arms))

-- the set of what stands in a list, and the function of pairs
abbrev pub SetOfAll : Place → List Val → Outcome Val
SetOfAll at vs = Operated (GivesSet (Contains vs)) (λ n. at)

abbrev pub FunctionOfAll : Place → List (Val × Val) → Outcome Val
FunctionOfAll at ps = Operated (GivesFunction (λ key v. Contains ps (key, v))) (λ n. at)

-- [x \in S, y \in T |-> e]: with several names the keys are tuples
abbrev pub PairOf : Evaluate → Context → Place → Term → List Val → Outcome (Val × Val)
PairOf evaluate c at e chosen = Then (evaluate (bind c chosen) e) (λ v. Then (KeyOf at chosen) (λ key. Gives (key, v)))

abbrev pub QuantifiedEvaluates : Evaluate → Context → Quantifier → Bounds → Term → Outcome Bool
QuantifiedEvaluates evaluate c quantifier.ForAll bs e = Then (BoundValues evaluate c bs) (AllTrue (λ chosen. TruthOf evaluate (bind c chosen) e))
QuantifiedEvaluates evaluate c quantifier.Exists bs e = Then (BoundValues evaluate c bs) (SomeTrue (λ chosen. TruthOf evaluate (bind c chosen) e))

abbrev pub FieldEvaluates : Evaluate → Context → (List ℕ × Term) → Outcome (Val × Val)
FieldEvaluates evaluate c f = Then (evaluate c f.1) (λ v. Gives (string f.0, v))

abbrev pub MeaningEvaluates : Table → Evaluate → Describe → Context → Place → Meaning → Outcome Val
MeaningEvaluates ops evaluate describe c at (term.Known v) r = Gives v r
MeaningEvaluates ops evaluate describe c at (term.Named n) r = ListedAt at (Gives (named_set n)) r
MeaningEvaluates ops evaluate describe c at (term.Variable x) r = IsKnown c.now x r
MeaningEvaluates ops evaluate describe c at (term.Slot i) r = IsAt c.slots i r
MeaningEvaluates ops evaluate describe c at (term.Use k ts) r = UseEvaluates ops evaluate describe c k ts at r
MeaningEvaluates ops evaluate describe c at (term.Standard o ts) r = StandardEvaluates evaluate describe c o ts at r
MeaningEvaluates ops evaluate describe c at (term.Parenthesized e) r = ListedAt at (describe c e) r
MeaningEvaluates ops evaluate describe c at (term.Scoped ks e) r = evaluate c e r
MeaningEvaluates ops evaluate describe c at (term.All ts) r = IsTruth (AllTrue (TruthOf evaluate c) (terms_list ts)) r
MeaningEvaluates ops evaluate describe c at (term.Any ts) r = IsTruth (SomeTrue (TruthOf evaluate c) (terms_list ts)) r
MeaningEvaluates ops evaluate describe c at (term.Prefix o e) r = PrefixEvaluates ops evaluate describe c o e at r
MeaningEvaluates ops evaluate describe c at (term.Infix o os e) r = InfixEvaluates evaluate describe c o os e at r
MeaningEvaluates ops evaluate describe c at (term.Postfix e ss s) r = StepsEvaluate ops evaluate describe c e (term.MoreSteps ss at s) r
MeaningEvaluates ops evaluate describe c at (term.SetOf ts) r = Then (Each (evaluate c) (terms_list ts)) (SetOfAll at) r
MeaningEvaluates ops evaluate describe c at (term.Filter a p) r =
    Then (MembersOf evaluate c a) (λ vs. Then (Passing (λ v. TruthOf evaluate (bind c (v ∷ [])) p) vs) (SetOfAll at)) r
MeaningEvaluates ops evaluate describe c at (term.Map e bs) r = Then (BoundValues evaluate c bs) (λ all. Then (Each (λ chosen. evaluate (bind c chosen) e) all) (SetOfAll at)) r
MeaningEvaluates ops evaluate describe c at (term.Tuple ts) r = Then (Each (evaluate c) (terms_list ts)) (λ vs. Operated (GivesSequence vs) (λ n. at)) r
MeaningEvaluates ops evaluate describe c at (term.Function bs e) r = Then (BoundValues evaluate c bs) (λ all. Then (Each (PairOf evaluate c at e) all) (FunctionOfAll at)) r
MeaningEvaluates ops evaluate describe c at (term.FunctionSet a b) r = ListedAt at (FunctionsDescribed evaluate describe c a b) r
MeaningEvaluates ops evaluate describe c at (term.Record fs) r = Then (Each (FieldEvaluates evaluate c) (fields_list fs)) (FunctionOfAll at) r
MeaningEvaluates ops evaluate describe c at (term.RecordSet fs) r = ListedAt at (RecordsDescribed describe c fs) r
MeaningEvaluates ops evaluate describe c at (term.Except e changes) r = Then (evaluate c e) (AllChanged evaluate c at (place_of e) (changes_list changes)) r
MeaningEvaluates ops evaluate describe c at (term.Quantified q bs e) r = IsTruth (QuantifiedEvaluates evaluate c q bs e) r
MeaningEvaluates ops evaluate describe c at (term.Choose a p) r = Then (MembersOf evaluate c a) (FirstThat at (λ v. TruthOf evaluate (bind c (v ∷ [])) p)) r
MeaningEvaluates ops evaluate describe c at (term.If p a b) r = Then (TruthOf evaluate c p) (λ t. Either t (evaluate c a) (evaluate c b)) r
MeaningEvaluates ops evaluate describe c at (term.Case arms) r = FirstArm evaluate c (Fails NoCase at) (arms_list arms) r
MeaningEvaluates ops evaluate describe c at (term.CaseOther arms e) r = FirstArm evaluate c (evaluate c e) (arms_list arms) r
MeaningEvaluates ops evaluate describe c at (term.BoxAction a v) r = IsTruth (HoldsOrStutters evaluate c at a v) r
MeaningEvaluates ops evaluate describe c at (term.AngleAction a v) r = IsTruth (HoldsAndChanges evaluate c at a v) r
MeaningEvaluates ops evaluate describe c at (term.Fairness v a) r = ⊥

-- which set a term means, where it is tested and not listed
abbrev pub MeaningDescribes : Table → Evaluate → Describe → Context → Place → Meaning → Outcome Described
MeaningDescribes ops evaluate describe c at (term.Named n) r = Gives (named_set n) r
MeaningDescribes ops evaluate describe c at (term.Use k term.NoTerms) r = UseDescribed ops evaluate describe c k r
MeaningDescribes ops evaluate describe c at (term.Standard standard.Seq ts) r = SequencesDescribed describe c (terms_list ts) r
MeaningDescribes ops evaluate describe c at (term.Parenthesized e) r = describe c e r
MeaningDescribes ops evaluate describe c at (term.Prefix prefix.Powerset a) r = SubsetsDescribed describe c a r
MeaningDescribes ops evaluate describe c at (term.Infix infix_operator.Interval os b) r = InfixDescribed evaluate describe c infix_operator.Interval os b at r
MeaningDescribes ops evaluate describe c at (term.Infix infix_operator.CartesianProduct os b) r = InfixDescribed evaluate describe c infix_operator.CartesianProduct os b at r
MeaningDescribes ops evaluate describe c at (term.Infix infix_operator.Union os b) r = InfixDescribed evaluate describe c infix_operator.Union os b at r
MeaningDescribes ops evaluate describe c at (term.Infix infix_operator.Intersection os b) r = InfixDescribed evaluate describe c infix_operator.Intersection os b at r
MeaningDescribes ops evaluate describe c at (term.Infix infix_operator.Difference os b) r = InfixDescribed evaluate describe c infix_operator.Difference os b at r
MeaningDescribes ops evaluate describe c at (term.FunctionSet a b) r = FunctionsDescribed evaluate describe c a b r
MeaningDescribes ops evaluate describe c at (term.RecordSet fs) r = RecordsDescribed describe c fs r
MeaningDescribes ops evaluate describe c at m r = IsValueOf (MeaningEvaluates ops evaluate describe c at m) r
