-- Of each tree in which nothing is wrong with names some term is meant, row by row.
use Rattle.std.proofs.Common.{◌≡◌, ◌∙◌, sym, ap, refl, subst, List, [], ◌∷◌, ◌++◌, length}
use Rattle.std.specs.Prelude.{ℕ, None}
use Rattle.base_core.specs.declared.place.Place.{Place}
use Rattle.values_core.specs.Data.{integer, string, truth}
use Rattle.reading_trees.specs.declared.laid.Bullet.TheVariants as bullet
use Rattle.reading_trees.specs.declared.operators.InfixOperator.{InfixOperator}
use Rattle.reading_trees.specs.declared.operators.InfixOperator.TheVariants as infix_operator
use Rattle.reading_trees.specs.Trees as tree
use Rattle.reading_trees.specs.Trees.{Tree, Trees}
use Rattle.names_terms.specs.Levels.{level_for}
use Rattle.names_terms.specs.Terms as term
use Rattle.names_terms.specs.Terms.{Term, Terms, Meaning, Placed}
use Rattle.names_terms.specs.declared.operator.Operator.{Operator}
use Rattle.names_scopes.specs.declared.scope.Local.{Local}
use Rattle.names_scopes.specs.declared.scope.Local.TheVariants.{Bound}
use Rattle.names_scopes.specs.Scopes.{bind_bounds, at_sign}
use Rattle.names_meanings.specs.Around.{Here, Around, takes}
use Rattle.names_meanings.specs.Complaints.{Takes, bound_name, with_name, with_bounds, with_definitions, complaint, complaints, operands_complaint, step_complaint, steps_complaint, bounds_complaint, fields_complaint, changes_complaint, arms_complaint, definitions_complaint}
use Rattle.names_meanings.specs.Means.{Means, MeansEach, MeansOperands, MeansStep, MeansSteps, MeansBounds, MeansFields, MeansChanges, MeansArms, builtin_set, chain, operands_list}
use Rattle.names_meanings.specs.Outcomes.{Grows}
use Rattle.names_meanings.proofs.AroundLemmas.{takes_grown}
use Rattle.names_meanings.proofs.Reading.{grows_on, nothing}
use Rattle.names_meanings.proofs.Rows.{chain_level}
use Rattle.names_meanings.proofs.StandingOn.{stands_grown, stands_later}
use Rattle.names_outcome_laws.specs.Lets.{lets, lets_arms, lets_bounds, lets_changes, lets_each, lets_fields, lets_in, lets_operands, lets_step, lets_steps}
use Rattle.names_outcome_laws.proofs.Lets.{AddsLets, adds_both, adds_none}
use Rattle.names_outcome_laws.proofs.Defining.{SomeDefinitions, no_definitions, one_more}
use Rattle.names_outcome_laws.proofs.Named.{SomeTerm, some_at, some_call, some_name, some_qualified}
use Rattle.names_outcome_laws.proofs.Reading.{SomeRead, Stands, both, fine_bounds, fine_one, inside, left_none, right_none, row, scoped, stands_bounds, stands_one}

-- a meaning whose level asks for no table, at a place
abbrev placed : Place → Meaning → Term
placed at m = Placed at (level_for [] m) m

-- what some term that is a leaf means
leaf : (w : Around) (t : Tree) (e : Term) → ((h : Here) (all : List Operator) → Means h.names all h.scope t e) → lets e ≡ [] → complaint (takes w) t ≡ None → SomeTerm w t
leaf w t e m n q =
    record { what = e; behind = w; read = nothing w (λ all g. m w.here all) q; lets = subst (λ (ks : List ℕ). AddsLets w.table w.table ks) (sym n) (adds_none w.table) }

abbrev SomeUnder : Around → List ℕ → Tree → Type 0
SomeUnder w n t = SomeRead Term lets w (λ g. complaint (with_name g n bound_name) t) (λ e h all. Means h.names all (h.scope ++ Bound n ∷ []) t e)

abbrev SomeWithin : Around → tree.Bounds → Tree → Type 0
SomeWithin w bs t = SomeRead Term lets w (λ g. complaint (with_bounds g bs) t) (λ e h all. Means h.names all (bind_bounds h.scope bs) t e)

-- a tree is read wherever nothing is wrong with its names
abbrev Whole : Tree → Type 0
Whole t = (w : Around) → Stands w → complaint (takes w) t ≡ None → SomeTerm w t

under : (w : Around) (n : List ℕ) (t : Tree) → Stands w → complaint (with_name (takes w) n bound_name) t ≡ None → Whole t → SomeUnder w n t
under w n t s q f =
    inside w (λ (sc : List Local). sc ++ Bound n ∷ []) s q (f (scoped w (w.here.scope ++ Bound n ∷ [])) (stands_one w n s) (fine_one w n t q))

within : (w : Around) (bs : tree.Bounds) (t : Tree) → Stands w → complaint (with_bounds (takes w) bs) t ≡ None → Whole t → SomeWithin w bs t
within w bs t s q f =
    inside w (λ (sc : List Local). bind_bounds sc bs) s q (f (scoped w (bind_bounds w.here.scope bs)) (stands_bounds w bs s) (fine_bounds w bs t q))

-- a LET, whose definitions stand behind the table, and whose body sees them
let_row : (w : Around) (at : Place) (ds : tree.Definitions) (a : Tree) → Stands w → complaint (takes w) (tree.Let at ds a) ≡ None → (definitions_complaint (takes w) ds ≡ None → SomeDefinitions w ds) → Whole a → SomeTerm w (tree.Let at ds a)
let_row w at ds a s q f g =
    let d : SomeDefinitions w ds = f (left_none (definitions_complaint (takes w) ds) (complaint (with_definitions (takes w) ds) a) q) in
    let known : complaint (takes d.behind) a ≡ None = ap (λ (h : Takes). complaint h a) d.read.taken ∙ right_none (definitions_complaint (takes w) ds) (complaint (with_definitions (takes w) ds) a) q in
    let r : SomeTerm d.behind a = g d.behind d.stands known in
    let grown : Grows w.table r.behind.table = grows_on w.table d.read.grown r.read.grown in
    record {
      what = placed at (term.Scoped d.numbers r.what);
      behind = record { here = w.here; table = r.behind.table };
      read = record {
        kept = refl;
        grown = grown;
        unnamed = r.read.unnamed ∙ d.read.unnamed;
        ordered = λ o. r.read.ordered (d.read.ordered o);
        taken = takes_grown w.here.names w.here.scope w.table r.behind.table s grown;
        means = λ all h. (
          d.numbers,
          d.behind.here.scope,
          r.what,
          d.read.means all (stands_grown d.behind.table r.read.grown h),
          subst (λ ns. Means ns all d.behind.here.scope a r.what) d.read.kept (r.read.means all (stands_later w.table d.read.grown h)),
          refl,
        );
        fine = q;
      };
      lets = adds_both w.table d.behind.table r.behind.table d.numbers (lets r.what) d.lets r.lets;
    }

-- a chain of `/\` or `\/` has the LETs of its operands
operands_lets : (os : term.Operands) → lets_each (operands_list os) ≡ lets_operands os
operands_lets (term.First e) = refl
operands_lets (term.Next os at e) = ap (λ (ks : List ℕ). ks ++ lets e) (operands_lets os)

chain_lets : (o : InfixOperator) (os : term.Operands) (e : Term) → lets_in (chain o os e) ≡ lets_operands os ++ lets e
chain_lets infix_operator.And os e = ap (λ (ks : List ℕ). ks ++ lets e) (operands_lets os)
chain_lets infix_operator.Or os e = ap (λ (ks : List ℕ). ks ++ lets e) (operands_lets os)
chain_lets _ os e = refl

mutual
  pub tree_some : (t : Tree) → Whole t
  tree_some (tree.Number at z) w s q = leaf w (tree.Number at z) (placed at (term.Known (integer z))) (λ h all. refl) refl refl
  tree_some (tree.Str at b) w s q = leaf w (tree.Str at b) (placed at (term.Known (string b))) (λ h all. refl) refl refl
  tree_some (tree.Truth at b) w s q = leaf w (tree.Truth at b) (placed at (term.Known (truth b))) (λ h all. refl) refl refl
  tree_some (tree.Builtin at b) w s q = leaf w (tree.Builtin at b) (placed at (term.Named (builtin_set b))) (λ h all. refl) refl refl
  tree_some (tree.Name at n) w s q = some_name w at n s q
  tree_some (tree.Call at n es) w s q = some_call w at n es s q (trees_some es w s)
  tree_some (tree.Qualified at n es) w s q = some_qualified w at n es s q (trees_some es w s)
  tree_some (tree.At at) w s q = some_at w at s q
  tree_some (tree.Parenthesized at a) w s q = row w (λ (x : Term). placed at (term.Parenthesized x)) (λ x h all p. (x, p, refl)) (λ x. refl) (tree_some a w s q)
  tree_some (tree.Junction at bullet.And es) w s q = row w (λ (ts : Terms). placed at (term.All ts)) (λ ts h all p. (ts, p, refl)) (λ x. refl) (trees_some es w s q)
  tree_some (tree.Junction at bullet.Or es) w s q = row w (λ (ts : Terms). placed at (term.Any ts)) (λ ts h all p. (ts, p, refl)) (λ x. refl) (trees_some es w s q)
  tree_some (tree.Prefix at o a) w s q = row w (λ (x : Term). placed at (term.Prefix o x)) (λ x h all p. (x, p, refl)) (λ x. refl) (tree_some a w s q)
  tree_some (tree.Infix at o os a) w s q =
      row w (λ (x : term.Operands × Term). placed at (chain o x.0 x.1)) (λ x h all p. (x.0, x.1, p.0, p.1, ap (λ l. Placed at l (chain o x.0 x.1)) (chain_level [] all o x.0 x.1))) (λ x. chain_lets o x.0 x.1)
      (both w s q (operands_some os w s) (tree_some a))
  tree_some (tree.Postfix at a ss e) w s q =
      row w (λ (x : Term × (term.Steps × term.Step)). placed at (term.Postfix x.0 x.1.0 x.1.1)) (λ x h all p. (x.0, x.1.0, x.1.1, p.0, p.1.0, p.1.1, refl)) (λ x. refl)
      (both w s q (tree_some a w s) (λ m r k. both m r k (steps_some ss m r) (step_some e)))
  tree_some (tree.SetOf at es) w s q = row w (λ (ts : Terms). placed at (term.SetOf ts)) (λ ts h all p. (ts, p, refl)) (λ x. refl) (trees_some es w s q)
  tree_some (tree.Filter at n a b) w s q =
      row w (λ (x : Term × Term). placed at (term.Filter x.0 x.1)) (λ x h all p. (x.0, x.1, p.0, p.1, refl)) (λ x. refl)
      (both w s q (tree_some a w s) (λ m r k. under m n b r k (tree_some b)))
  tree_some (tree.Map at a bs) w s q =
      row w (λ (x : Term × term.Bounds). placed at (term.Map x.0 x.1)) (λ x h all p. (x.0, x.1, p.0, p.1, refl)) (λ x. refl)
      (both w s q (λ k. within w bs a s k (tree_some a)) (bounds_some bs))
  tree_some (tree.Tuple at es) w s q = row w (λ (ts : Terms). placed at (term.Tuple ts)) (λ ts h all p. (ts, p, refl)) (λ x. refl) (trees_some es w s q)
  tree_some (tree.Function at bs a) w s q =
      row w (λ (x : term.Bounds × Term). placed at (term.Function x.0 x.1)) (λ x h all p. (x.0, x.1, p.0, p.1, refl)) (λ x. refl)
      (both w s q (bounds_some bs w s) (λ m r k. within m bs a r k (tree_some a)))
  tree_some (tree.FunctionSet at a b) w s q =
      row w (λ (x : Term × Term). placed at (term.FunctionSet x.0 x.1)) (λ x h all p. (x.0, x.1, p.0, p.1, refl)) (λ x. refl) (both w s q (tree_some a w s) (tree_some b))
  tree_some (tree.Record at fs) w s q = row w (λ (ys : term.Fields). placed at (term.Record ys)) (λ ys h all p. (ys, p, refl)) (λ x. refl) (fields_some fs w s q)
  tree_some (tree.RecordSet at fs) w s q = row w (λ (ys : term.Fields). placed at (term.RecordSet ys)) (λ ys h all p. (ys, p, refl)) (λ x. refl) (fields_some fs w s q)
  tree_some (tree.Except at a cs) w s q =
      row w (λ (x : Term × term.Changes). placed at (term.Except x.0 x.1)) (λ x h all p. (x.0, x.1, p.0, p.1, refl)) (λ x. refl) (both w s q (tree_some a w s) (changes_some cs))
  tree_some (tree.Quantified at o bs a) w s q =
      row w (λ (x : term.Bounds × Term). placed at (term.Quantified o x.0 x.1)) (λ x h all p. (x.0, x.1, p.0, p.1, refl)) (λ x. refl)
      (both w s q (bounds_some bs w s) (λ m r k. within m bs a r k (tree_some a)))
  tree_some (tree.Choose at n a b) w s q =
      row w (λ (x : Term × Term). placed at (term.Choose x.0 x.1)) (λ x h all p. (x.0, x.1, p.0, p.1, refl)) (λ x. refl)
      (both w s q (tree_some a w s) (λ m r k. under m n b r k (tree_some b)))
  tree_some (tree.If at c a b) w s q =
      row w (λ (x : Term × (Term × Term)). placed at (term.If x.0 x.1.0 x.1.1)) (λ x h all p. (x.0, x.1.0, x.1.1, p.0, p.1.0, p.1.1, refl)) (λ x. refl)
      (both w s q (tree_some c w s) (λ m r k. both m r k (tree_some a m r) (tree_some b)))
  tree_some (tree.Case at arms) w s q = row w (λ (ys : term.Arms). placed at (term.Case ys)) (λ ys h all p. (ys, p, refl)) (λ x. refl) (arms_some arms w s q)
  tree_some (tree.CaseOther at arms a) w s q =
      row w (λ (x : term.Arms × Term). placed at (term.CaseOther x.0 x.1)) (λ x h all p. (x.0, x.1, p.0, p.1, refl)) (λ x. refl) (both w s q (arms_some arms w s) (tree_some a))
  tree_some (tree.Let at ds a) w s q = let_row w at ds a s q (definitions_some ds w s) (tree_some a)
  tree_some (tree.BoxAction at a b) w s q =
      row w (λ (x : Term × Term). placed at (term.BoxAction x.0 x.1)) (λ x h all p. (x.0, x.1, p.0, p.1, refl)) (λ x. refl) (both w s q (tree_some a w s) (tree_some b))
  tree_some (tree.AngleAction at a b) w s q =
      row w (λ (x : Term × Term). placed at (term.AngleAction x.0 x.1)) (λ x h all p. (x.0, x.1, p.0, p.1, refl)) (λ x. refl) (both w s q (tree_some a w s) (tree_some b))
  tree_some (tree.Fairness at a b) w s q =
      row w (λ (x : Term × Term). placed at (term.Fairness x.0 x.1)) (λ x h all p. (x.0, x.1, p.0, p.1, refl)) (λ x. refl) (both w s q (tree_some a w s) (tree_some b))

  pub trees_some : (es : Trees) (w : Around) → Stands w → complaints (takes w) es ≡ None → SomeRead Terms lets_each w (λ g. complaints g es) (λ ts h all. MeansEach h.names all h.scope es ts)
  trees_some tree.NoTrees w s q = record { what = term.NoTerms; behind = w; read = nothing w (λ all g. refl) refl; lets = adds_none w.table }
  trees_some (tree.MoreTrees es e) w s q =
      row w (λ (x : Terms × Term). term.MoreTerms x.0 x.1) (λ x h all p. (x.0, x.1, refl, p.0, p.1)) (λ x. refl) (both w s q (trees_some es w s) (tree_some e))

  operands_some : (es : tree.Operands) (w : Around) → Stands w → operands_complaint (takes w) es ≡ None → SomeRead term.Operands lets_operands w (λ g. operands_complaint g es) (λ os h all. MeansOperands h.names all h.scope es os)
  operands_some (tree.First e) w s q = row w (λ (x : Term). term.First x) (λ x h all p. (x, refl, p)) (λ x. refl) (tree_some e w s q)
  operands_some (tree.Next es at e) w s q =
      row w (λ (x : term.Operands × Term). term.Next x.0 at x.1) (λ x h all p. (x.0, x.1, refl, p.0, p.1)) (λ x. refl) (both w s q (operands_some es w s) (tree_some e))

  step_some : (e : tree.Step) (w : Around) → Stands w → step_complaint (takes w) e ≡ None → SomeRead term.Step lets_step w (λ g. step_complaint g e) (λ x h all. MeansStep h.names all h.scope e x)
  step_some tree.Prime w s q = record { what = term.Prime; behind = w; read = nothing w (λ all g. refl) refl; lets = adds_none w.table }
  step_some (tree.Index es) w s q = row w (λ (ts : Terms). term.Index ts) (λ ts h all p. (ts, refl, p)) (λ x. refl) (trees_some es w s q)
  step_some (tree.Field n) w s q = record { what = term.Field n; behind = w; read = nothing w (λ all g. refl) refl; lets = adds_none w.table }

  steps_some : (es : tree.Steps) (w : Around) → Stands w → steps_complaint (takes w) es ≡ None → SomeRead term.Steps lets_steps w (λ g. steps_complaint g es) (λ xs h all. MeansSteps h.names all h.scope es xs)
  steps_some tree.NoSteps w s q = record { what = term.NoSteps; behind = w; read = nothing w (λ all g. refl) refl; lets = adds_none w.table }
  steps_some (tree.MoreSteps es at e) w s q =
      row w (λ (x : term.Steps × term.Step). term.MoreSteps x.0 at x.1) (λ x h all p. (x.0, x.1, refl, p.0, p.1)) (λ x. refl) (both w s q (steps_some es w s) (step_some e))

  bounds_some : (bs : tree.Bounds) (w : Around) → Stands w → bounds_complaint (takes w) bs ≡ None → SomeRead term.Bounds lets_bounds w (λ g. bounds_complaint g bs) (λ xs h all. MeansBounds h.names all h.scope bs xs)
  bounds_some tree.NoBounds w s q = record { what = term.NoBounds; behind = w; read = nothing w (λ all g. refl) refl; lets = adds_none w.table }
  bounds_some (tree.MoreBounds bs ns e) w s q =
      row w (λ (x : term.Bounds × Term). term.MoreBounds x.0 (length ns) x.1) (λ x h all p. (x.0, x.1, refl, p.0, p.1)) (λ x. refl) (both w s q (bounds_some bs w s) (tree_some e))

  fields_some : (fs : tree.Fields) (w : Around) → Stands w → fields_complaint (takes w) fs ≡ None → SomeRead term.Fields lets_fields w (λ g. fields_complaint g fs) (λ xs h all. MeansFields h.names all h.scope fs xs)
  fields_some tree.NoFields w s q = record { what = term.NoFields; behind = w; read = nothing w (λ all g. refl) refl; lets = adds_none w.table }
  fields_some (tree.MoreFields fs n e) w s q =
      row w (λ (x : term.Fields × Term). term.MoreFields x.0 n x.1) (λ x h all p. (x.0, x.1, refl, p.0, p.1)) (λ x. refl) (both w s q (fields_some fs w s) (tree_some e))

  changes_some : (cs : tree.Changes) (w : Around) → Stands w → changes_complaint (takes w) cs ≡ None → SomeRead term.Changes lets_changes w (λ g. changes_complaint g cs) (λ xs h all. MeansChanges h.names all h.scope cs xs)
  changes_some tree.NoChanges w s q = record { what = term.NoChanges; behind = w; read = nothing w (λ all g. refl) refl; lets = adds_none w.table }
  changes_some (tree.MoreChanges cs path e) w s q =
      row w (λ (x : term.Changes × (term.Steps × Term)). term.MoreChanges x.0 x.1.0 x.1.1) (λ x h all p. (x.0, x.1.0, x.1.1, refl, p.0, p.1.0, p.1.1)) (λ x. refl)
      (both w s q (changes_some cs w s) (λ m r k. both m r k (steps_some path m r) (λ n u j. under n at_sign e u j (tree_some e))))

  arms_some : (arms : tree.Arms) (w : Around) → Stands w → arms_complaint (takes w) arms ≡ None → SomeRead term.Arms lets_arms w (λ g. arms_complaint g arms) (λ xs h all. MeansArms h.names all h.scope arms xs)
  arms_some tree.NoArms w s q = record { what = term.NoArms; behind = w; read = nothing w (λ all g. refl) refl; lets = adds_none w.table }
  arms_some (tree.MoreArms arms c e) w s q =
      row w (λ (x : term.Arms × (Term × Term)). term.MoreArms x.0 x.1.0 x.1.1) (λ x h all p. (x.0, x.1.0, x.1.1, refl, p.0, p.1.0, p.1.1)) (λ x. refl)
      (both w s q (arms_some arms w s) (λ m r k. both m r k (tree_some c m r) (tree_some e)))

  definitions_some : (ds : tree.Definitions) (w : Around) → Stands w → definitions_complaint (takes w) ds ≡ None → SomeDefinitions w ds
  definitions_some tree.NoDefinitions w s q = no_definitions w s
  definitions_some (tree.MoreDefinitions ds n at ps form e) w s q =
      one_more w ds (record { name = n; at = at; params = ps; form = form; body = e }) q (definitions_some ds w s) (tree_some e)
