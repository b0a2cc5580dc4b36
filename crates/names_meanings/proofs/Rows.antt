-- The meaning of each row, from what its parts mean.
use Rattle.std.proofs.Common.{◌≡◌, ◌∙◌, sym, ap, refl, subst, List, [], ◌∷◌, ◌++◌, length, ◌<◌, ◌==◌, arith}
use Rattle.std.specs.Prelude.{ℕ, zero, suc, ◌+◌, ℤ, Bool, true, Option, Some, None, option_map, Result, Ok, Err, IfOk, IfErr, slice_get}
use Rattle.std.proofs.lemmas.Bool.Decides.{nat_tests}
use Rattle.base_core.specs.declared.place.Place.{Place}
use Rattle.values_core.specs.Data.{integer, string, truth}
use Rattle.reading_trees.specs.declared.laid.Bullet.{Bullet}
use Rattle.reading_trees.specs.declared.laid.Bullet.TheVariants as bullet
use Rattle.reading_trees.specs.declared.operators.BuiltinSet.{BuiltinSet}
use Rattle.reading_trees.specs.declared.operators.InfixOperator.{InfixOperator}
use Rattle.reading_trees.specs.declared.operators.InfixOperator.TheVariants as infix_operator
use Rattle.reading_trees.specs.Trees as tree
use Rattle.reading_trees.specs.Trees.{Tree, Trees}
use Rattle.reading_trees.specs.TreeViews.{trees_from, trees_of}
use Rattle.names_terms.specs.declared.operator.Operator.{Operator}
use Rattle.names_terms.specs.Terms as term
use Rattle.names_terms.specs.Terms.{Term, Terms, Meaning, Placed}
use Rattle.names_terms.specs.declared.term.TermNode.{TermNode}
use Rattle.names_terms.specs.TermViews.{node_view}
use Rattle.names_terms.specs.Levels.{level_for, joined, of_terms, of_operator}
use Rattle.names_meanings.specs.declared.fault.NameFault.{NameFault}
use Rattle.names_scopes.specs.declared.meant.Meant.{Meant}
use Rattle.names_scopes.specs.declared.meant.Meant.TheVariants as meant
use Rattle.names_scopes.specs.declared.meant.Named.{Named}
use Rattle.names_meanings.specs.Around.{Around, takes}
use Rattle.names_meanings.specs.Complaints.{counted, number_of, complaint, complaints}
use Rattle.names_meanings.specs.Means.{Means, MeansOperands, builtin_set, junction, chain}
use Rattle.names_meanings.specs.Outcomes.{meant_above, taken_by, IsSought, Complains, Grows, StandsOn}
use Rattle.names_scopes.specs.Standing.{IsIn}
use Rattle.names_meanings.specs.Reads.{Reads, Resolves, ResolvesRow, ResolvesEach, ResolvesOperands, ResolvesStep, ResolvesSteps, ResolvesBounds, ResolvesChanges, ResolvesArms, ResolvesWithin, ResolvesUnder, IsUse}
use Rattle.names_scopes.specs.Scopes.{used, at_sign}
use Rattle.names_meanings.proofs.StandingOn.{stands_at}
use Rattle.names_meanings.proofs.Reading.{nothing, and_then, so, row_is, none_both, complains_first, complains_later}

-- Leaves.

pub number_row : (w : Around) (at : Place) (z : ℤ) → ResolvesRow w w (tree.Number at z) (term.Known (integer z))
number_row w at z = nothing w (λ all g. refl) refl

pub text_row : (w : Around) (at : Place) (s : List ℕ) → ResolvesRow w w (tree.Str at s) (term.Known (string s))
text_row w at s = nothing w (λ all g. refl) refl

pub truth_row : (w : Around) (at : Place) (b : Bool) → ResolvesRow w w (tree.Truth at b) (term.Known (truth b))
truth_row w at b = nothing w (λ all g. refl) refl

pub builtin_row : (w : Around) (at : Place) (b : BuiltinSet) → ResolvesRow w w (tree.Builtin at b) (term.Named (builtin_set b))
builtin_row w at b = nothing w (λ all g. refl) refl

-- Names.

enough : (n : List ℕ) (at : Place) (k : ℕ) (b : Bool) → counted n at k (Some (record { needed = k; is_above = b })) ≡ None
enough n at k b = let e : (k == k) ≡ true = grind (arith, nat_tests) in rw e refl

pub counted_sought : (w : Around) (n : List ℕ) (at : Place) (k : ℕ) (m : Meant) → IsSought w.here.names w.here.scope n k m → counted n at k (takes w n) ≡ None
counted_sought w n at k m s =
    ap (λ (o : Option Named). counted n at k (option_map (taken_by w.table) o)) s.1 ∙ ap (λ (j : ℕ). counted n at k (Some (record { needed = j; is_above = meant_above w.table s.0.meant }))) s.3 ∙ enough n at k (meant_above w.table s.0.meant)

-- the level of a use is the same over each table where the definitions stand on
pub used_level : (from : ℕ) (table all : List Operator) (m : Meant) (ts : Terms) → IsIn (length table) m → StandsOn from table all → level_for all (used m ts) ≡ level_for table (used m ts)
used_level from table all (meant.Slot i) ts k g = refl
used_level from table all (meant.Variable x) ts k g = refl
used_level from table all (meant.Known v) ts k g = refl
used_level from table all (meant.Set s) ts k g = refl
used_level from table all (meant.Standard o) ts k g = refl
used_level from table all (meant.Definition i) ts k g =
    let here : (o : Operator) × (slice_get table i.0 ≡ Some o) = stands_at table i.0 k in
    let there : (e : Term) × (slice_get all i.0 ≡ Some (record here.0 { body = e })) = g.heads i.0 here.0 here.1 in
    ap (λ (o : Option Operator). joined (of_operator o) (of_terms ts)) there.1 ∙ sym (ap (λ (o : Option Operator). joined (of_operator o) (of_terms ts)) here.1)

pub use_is : (w : Around) (n : List ℕ) (at : Place) (m : Meant) (v : Meaning) (ts : Terms) → ts ≡ term.NoTerms → v ≡ used m ts → IsSought w.here.names w.here.scope n 0 m → IsIn (length w.table) m → IsUse w n at v
use_is w n at m v ts t e s k =
    let is : v ≡ used m term.NoTerms = e ∙ ap (λ (x : Terms). used m x) t in
    record {
      means = (s.0, s.1, is ∙ ap (λ (y : Meant). used y term.NoTerms) (sym s.2));
      level = λ all g. ap (λ (x : Meaning). level_for all x) is ∙ used_level (length w.table) w.table all m term.NoTerms k g ∙ ap (λ (x : Meaning). level_for w.table x) (sym is);
      fine = counted_sought w n at 0 m s;
    }

pub name_row : (w : Around) (n : List ℕ) (at : Place) (v : Meaning) → IsUse w n at v → ResolvesRow w w (tree.Name at n) v
name_row w n at v u = nothing w (λ all g. (v, u.means, ap (λ l. Placed at l v) (sym (u.level all g)))) u.fine

pub at_row : (w : Around) (at : Place) (n : List ℕ) (v : Meaning) → n ≡ at_sign → IsUse w n at v → ResolvesRow w w (tree.At at) v
at_row w at n v e u =
    let k : IsUse w at_sign at v = subst (λ (x : List ℕ). IsUse w x at v) e u in
    nothing w (λ all g. (v, k.means, ap (λ l. Placed at l v) (sym (k.level all g)))) k.fine

-- Calls.

number_from : (ts : Trees) (xs : List Tree) → number_of (trees_from ts xs) ≡ number_of ts + length xs
number_from ts [] = omega arith
number_from ts (x ∷ xs) = number_from (tree.MoreTrees ts x) xs ∙ omega arith

pub number_is : (xs : List Tree) (all : Trees) → trees_of xs ≡ all → length xs ≡ number_of all
number_is xs all e = sym (sym (ap number_of e) ∙ number_from tree.NoTrees xs ∙ omega arith)

more_in : (a b : List Operator) (m : Meant) → Grows a b → IsIn (length a) m → IsIn (length b) m
more_in a b (meant.Slot i) g k = tt
more_in a b (meant.Variable x) g k = tt
more_in a b (meant.Known v) g k = tt
more_in a b (meant.Set s) g k = tt
more_in a b (meant.Standard o) g k = tt
more_in a b (meant.Definition i) g k = subst (λ (x : List Operator). i.0 < length x) (sym g.1) (in_front a g.0 i.0 k)
  where
    in_front : (xs ys : List Operator) (j : ℕ) → j < length xs → j < length (xs ++ ys)
    in_front [] ys j lt = absurd (omega (arith, lt))
    in_front (x ∷ xs) ys zero lt = omega arith
    in_front (x ∷ xs) ys (suc j) lt = let r : j < length (xs ++ ys) = in_front xs ys j (omega (arith, lt)) in omega (arith, r)

pub call_row : (w v : Around) (at : Place) (n : List ℕ) (args : Trees) (k : ℕ) (m : Meant) (ts : Terms) (x : Meaning) → k ≡ number_of args → x ≡ used m ts → IsSought w.here.names w.here.scope n k m → IsIn (length w.table) m → ResolvesEach w v args ts → ResolvesRow w v (tree.Call at n args) x
call_row w v at n args k m ts x c e s i r =
    let level : (all : List Operator) → StandsOn (length w.table) v.table all → level_for all x ≡ level_for v.table x =
    λ all g. ap (λ (y : Meaning). level_for all y) e ∙ used_level (length w.table) v.table all m ts (more_in w.table v.table m r.grown i) g ∙ ap (λ (y : Meaning). level_for v.table y) (sym e) in
    record {
      kept = r.kept;
      grown = r.grown;
      unnamed = r.unnamed;
      ordered = r.ordered;
      taken = r.taken;
      means = λ all g. (ts, x, r.means all g, (s.0, s.1, e ∙ ap (λ (y : Meant). used y ts) (sym s.2)), ap (λ l. Placed at l x) (sym (level all g)));
      fine = none_both (counted n at (number_of args) (takes w n)) (complaints (takes w) args) (ap (λ (j : ℕ). counted n at j (takes w n)) (sym c) ∙ counted_sought w n at k m s) r.fine;
    }

pub call_refused : (w : Around) (at : Place) (n : List ℕ) (args : Trees) (k : ℕ) (f : NameFault) → k ≡ number_of args → Complains (counted n at k (takes w n)) f → Complains (complaint (takes w) (tree.Call at n args)) f
call_refused w at n args k f c p =
    complains_first (counted n at (number_of args) (takes w n)) (complaints (takes w) args) f (subst (λ (j : ℕ). Complains (counted n at j (takes w n)) f) c p)

pub arguments_refused : (w : Around) (at : Place) (n : List ℕ) (args : Trees) (k : ℕ) (m : Meant) (f : NameFault) → k ≡ number_of args → IsSought w.here.names w.here.scope n k m → Complains (complaints (takes w) args) f → Complains (complaint (takes w) (tree.Call at n args)) f
arguments_refused w at n args k m f c s p =
    complains_later (counted n at (number_of args) (takes w n)) (complaints (takes w) args) f (ap (λ (j : ℕ). counted n at j (takes w n)) (sym c) ∙ counted_sought w n at k m s) p

-- Other rows.

pub junction_row : (w v : Around) (at : Place) (b : Bullet) (es : Trees) (ts : Terms) → ResolvesEach w v es ts → ResolvesRow w v (tree.Junction at b es) (junction b ts)
junction_row w v at bullet.And es ts r = so w v r (λ h all p. (ts, p, refl))
junction_row w v at bullet.Or es ts r = so w v r (λ h all p. (ts, p, refl))

pub chain_level : (a b : List Operator) (o : InfixOperator) (os : term.Operands) (x : Term) → level_for a (chain o os x) ≡ level_for b (chain o os x)
chain_level a b infix_operator.And os x = refl
chain_level a b infix_operator.Or os x = refl
chain_level a b o os x = refl

pub infix_row : (w v : Around) (at : Place) (o : InfixOperator) (os : tree.Operands) (a : Tree) (xs : term.Operands) (x : Term) → Reads w v (λ g. complaint g (tree.Infix at o os a)) (λ h all. MeansOperands h.names all h.scope os xs × Means h.names all h.scope a x) → ResolvesRow w v (tree.Infix at o os a) (chain o xs x)
infix_row w v at o os a xs x r =
    so w v r (λ h all p. (xs, x, p.0, p.1, ap (λ l. Placed at l (chain o xs x)) (chain_level v.table all o xs x)))

-- Rows of several parts, one read behind the other.

pub chain_row : (w m v : Around) (at : Place) (o : InfixOperator) (os : tree.Operands) (a t : Tree) (xs : term.Operands) (x : Term) (n : Meaning) → tree.Infix at o os a ≡ t → n ≡ chain o xs x → ResolvesOperands w m os xs → Resolves m v a x → ResolvesRow w v t n
chain_row w m v at o os a t xs x n q e r s = row_is w v (tree.Infix at o os a) t (chain o xs x) n q e (infix_row w v at o os a xs x (and_then w m v r s))

pub postfix_row : (w m n v : Around) (at : Place) (a : Tree) (ss : tree.Steps) (s : tree.Step) (t : Tree) (x : Term) (ys : term.Steps) (y : term.Step) → tree.Postfix at a ss s ≡ t → Resolves w m a x → ResolvesSteps m n ss ys → ResolvesStep n v s y → ResolvesRow w v t (term.Postfix x ys y)
postfix_row w m n v at a ss s t x ys y q r u k =
    subst (λ (z : Tree). ResolvesRow w v z (term.Postfix x ys y)) q (so w v (and_then w m v r (and_then m n v u k)) (λ h all p. (x, ys, y, p.0, p.1.0, p.1.1, refl)))

pub filter_row : (w m v : Around) (at : Place) (n : List ℕ) (s e t : Tree) (x y : Term) → tree.Filter at n s e ≡ t → Resolves w m s x → ResolvesUnder m v n e y → ResolvesRow w v t (term.Filter x y)
filter_row w m v at n s e t x y q r u = subst (λ (z : Tree). ResolvesRow w v z (term.Filter x y)) q (so w v (and_then w m v r u) (λ h all p. (x, y, p.0, p.1, refl)))

pub map_row : (w m v : Around) (at : Place) (e : Tree) (bs : tree.Bounds) (t : Tree) (x : Term) (ys : term.Bounds) → tree.Map at e bs ≡ t → ResolvesWithin w m bs e x → ResolvesBounds m v bs ys → ResolvesRow w v t (term.Map x ys)
map_row w m v at e bs t x ys q r u = subst (λ (z : Tree). ResolvesRow w v z (term.Map x ys)) q (so w v (and_then w m v r u) (λ h all p. (x, ys, p.0, p.1, refl)))

pub function_row : (w m v : Around) (at : Place) (bs : tree.Bounds) (e t : Tree) (ys : term.Bounds) (x : Term) → tree.Function at bs e ≡ t → ResolvesBounds w m bs ys → ResolvesWithin m v bs e x → ResolvesRow w v t (term.Function ys x)
function_row w m v at bs e t ys x q r u = subst (λ (z : Tree). ResolvesRow w v z (term.Function ys x)) q (so w v (and_then w m v r u) (λ h all p. (ys, x, p.0, p.1, refl)))

pub function_set_row : (w m v : Around) (at : Place) (a b t : Tree) (x y : Term) → tree.FunctionSet at a b ≡ t → Resolves w m a x → Resolves m v b y → ResolvesRow w v t (term.FunctionSet x y)
function_set_row w m v at a b t x y q r u = subst (λ (z : Tree). ResolvesRow w v z (term.FunctionSet x y)) q (so w v (and_then w m v r u) (λ h all p. (x, y, p.0, p.1, refl)))

pub except_row : (w m v : Around) (at : Place) (a : Tree) (cs : tree.Changes) (t : Tree) (x : Term) (ys : term.Changes) → tree.Except at a cs ≡ t → Resolves w m a x → ResolvesChanges m v cs ys → ResolvesRow w v t (term.Except x ys)
except_row w m v at a cs t x ys q r u = subst (λ (z : Tree). ResolvesRow w v z (term.Except x ys)) q (so w v (and_then w m v r u) (λ h all p. (x, ys, p.0, p.1, refl)))

pub case_other_row : (w m v : Around) (at : Place) (arms : tree.Arms) (a t : Tree) (ys : term.Arms) (x : Term) → tree.CaseOther at arms a ≡ t → ResolvesArms w m arms ys → Resolves m v a x → ResolvesRow w v t (term.CaseOther ys x)
case_other_row w m v at arms a t ys x q r s = subst (λ (z : Tree). ResolvesRow w v z (term.CaseOther ys x)) q (so w v (and_then w m v r s) (λ h all p. (ys, x, p.0, p.1, refl)))

pub box_row : (w m v : Around) (at : Place) (a b t : Tree) (x y : Term) → tree.BoxAction at a b ≡ t → Resolves w m a x → Resolves m v b y → ResolvesRow w v t (term.BoxAction x y)
box_row w m v at a b t x y q r u = subst (λ (z : Tree). ResolvesRow w v z (term.BoxAction x y)) q (so w v (and_then w m v r u) (λ h all p. (x, y, p.0, p.1, refl)))

pub angle_row : (w m v : Around) (at : Place) (a b t : Tree) (x y : Term) → tree.AngleAction at a b ≡ t → Resolves w m a x → Resolves m v b y → ResolvesRow w v t (term.AngleAction x y)
angle_row w m v at a b t x y q r u = subst (λ (z : Tree). ResolvesRow w v z (term.AngleAction x y)) q (so w v (and_then w m v r u) (λ h all p. (x, y, p.0, p.1, refl)))

pub fairness_row : (w m v : Around) (at : Place) (a b t : Tree) (x y : Term) → tree.Fairness at a b ≡ t → Resolves w m a x → Resolves m v b y → ResolvesRow w v t (term.Fairness x y)
fairness_row w m v at a b t x y q r u = subst (λ (z : Tree). ResolvesRow w v z (term.Fairness x y)) q (so w v (and_then w m v r u) (λ h all p. (x, y, p.0, p.1, refl)))

-- What a call answers that gives the meaning of a name.

pub name_answers : (w : Around) (n : List ℕ) (at : Place) (t : Tree) (r : Result TermNode NameFault) → tree.Name at n ≡ t → IfOk r (λ x. IsUse w n at (node_view x)) → IfOk r (λ x. ResolvesRow w w t (node_view x))
name_answers w n at t (Ok x) e u = subst (λ (y : Tree). ResolvesRow w w y (node_view x)) e (name_row w n at (node_view x) u)
name_answers w n at t (Err f) e u = tt

pub at_answers : (w : Around) (n : List ℕ) (at : Place) (t : Tree) (r : Result TermNode NameFault) → tree.At at ≡ t → n ≡ at_sign → IfOk r (λ x. IsUse w n at (node_view x)) → IfOk r (λ x. ResolvesRow w w t (node_view x))
at_answers w n at t (Ok x) e k u = subst (λ (y : Tree). ResolvesRow w w y (node_view x)) e (at_row w at n (node_view x) k u)
at_answers w n at t (Err f) e k u = tt

-- a qualified name means what a call of that name does
pub qualified_answers : (w v : Around) (at : Place) (n : List ℕ) (args : Trees) (t : Tree) (r : Result TermNode NameFault) → tree.Qualified at n args ≡ t → IfOk r (λ x. ResolvesRow w v (tree.Call at n args) (node_view x)) → IfOk r (λ x. ResolvesRow w v t (node_view x))
qualified_answers w v at n args t r e h = subst (λ (y : Tree). IfOk r (λ x. ResolvesRow w v y (node_view x))) e h

pub qualified_refused : (w : Around) (at : Place) (n : List ℕ) (args : Trees) (t : Tree) (r : Result TermNode NameFault) → tree.Qualified at n args ≡ t → IfErr r (Complains (complaint (takes w) (tree.Call at n args))) → IfErr r (Complains (complaint (takes w) t))
qualified_refused w at n args t r e h = subst (λ (y : Tree). IfErr r (Complains (complaint (takes w) y))) e h

pub at_refused : (w : Around) (n : List ℕ) (at : Place) (t : Tree) (r : Result TermNode NameFault) → tree.At at ≡ t → n ≡ at_sign → IfErr r (Complains (counted n at 0 (takes w n))) → IfErr r (Complains (complaint (takes w) t))
at_refused w n at t (Ok x) e k u = tt
at_refused w n at t (Err f) e k u =
    subst (λ (y : Tree). Complains (complaint (takes w) y) f) e (subst (λ (m : List ℕ). Complains (counted m at 0 (takes w m)) f) k u)
