-- Rows whose last part reaches as far right as possible.
use Rattle.std.proofs.Common.{◌≡◌, ◌∙◌, sym, ap, refl, subst, List, [], ◌∷◌, ◌++◌, length, ◌≤◌, arith, append_assoc, append-nil}
use Rattle.std.specs.Prelude.{ℕ, zero, suc, take, Option, Some, None, MatchOption}
use Rattle.std.specs.Borrow.{Bor}
use Rattle.base_core.specs.declared.place.Place.{Place}
use Rattle.reading_trees.specs.declared.operators.Quantifier.{Quantifier}
use Rattle.reading_trees.specs.declared.expr.Node.{Node}
use Rattle.reading_trees.specs.declared.expr.Node.TheVariants as node
use Rattle.reading_trees.specs.Trees as tree
use Rattle.reading_trees.specs.Trees.{Tree, place_of}
use Rattle.reading_trees.specs.TreeViews.{node_view}
use Rattle.names_terms.specs.declared.operator.Operator.{Operator}
use Rattle.names_terms.specs.Terms as term
use Rattle.names_terms.specs.Terms.{Term, Meaning, Placed}
use Rattle.names_terms.specs.Levels.{level_for}
use Rattle.names_meanings.specs.declared.fault.NameFault.{NameFault}
use Rattle.names_scopes.specs.declared.meant.Entry.{Entry}
use Rattle.names_meanings.specs.declared.pending.Pending.{Pending}
use Rattle.names_meanings.specs.declared.pending.Pending.TheVariants as pending
use Rattle.names_scopes.specs.declared.scope.Local.{Local}
use Rattle.names_scopes.specs.declared.scope.Local.TheVariants.{Bound, Defined}
use Rattle.names_meanings.specs.Around.{Here, Around, IsAround, takes}
use Rattle.names_meanings.specs.Complaints.{Takes, or_else, bound_name, with_name, with_bounds, with_definitions, complaint, bounds_complaint, definitions_complaint}
use Rattle.names_meanings.specs.Means.{Means, Defines}
use Rattle.names_meanings.specs.Outcomes.{takes_in, Complains, Grows, named_in, KeepsOrder, StandsOn}
use Rattle.names_meanings.specs.Pendings.{closed, closed_all, Opens, OpensRow, StaysClosed}
use Rattle.names_meanings.specs.Reads.{Reads, Resolves, ResolvesRow, ResolvesBounds, ResolvesDefinitions, ResolvesTo, cut}
use Rattle.names_scopes.specs.Scopes.{bind, bind_bounds}
use Rattle.names_meanings.proofs.AroundLemmas.{around_cut, takes_grown}
use Rattle.names_meanings.proofs.Takes.{takes_bound, takes_bounds}
use Rattle.names_meanings.proofs.Reading.{grows_same, grows_on}
use Rattle.names_meanings.proofs.StandingOn.{stands_same, stands_grown, stands_later}
use Rattle.names_meanings.proofs.Within.{bounds_add}
use Rattle.names_meanings.proofs.Closing.{closed_behind}

-- The first complaint, where there is none of the first parts.

only_last : (a c : Option NameFault) → a ≡ None → or_else a c ≡ c
only_last a c e = ap (λ x. or_else x c) e

only_third : (a b c : Option NameFault) → or_else a b ≡ None → or_else a (or_else b c) ≡ c
only_third (Some f) b c e = absurd (cc)
only_third None b c e = ap (λ x. or_else x c) e

-- Rows.

pub if_opens : (w v : Around) (rows new : List Pending) (at : Place) (p a last t : Tree) (x y : Term) → tree.If at p a last ≡ t → new ≡ rows ++ pending.If at x y ∷ [] → Reads w v (λ g. or_else (complaint g p) (complaint g a)) (λ h all. Means h.names all h.scope p x × Means h.names all h.scope a y) → OpensRow w v rows new t last
if_opens w v rows new at p a last t x y e n r =
    subst (λ (u : Tree). OpensRow w v rows new u last) e
    (record {
      row = pending.If at x y;
      added = n;
      kept = ap (λ (h : Here). h.names) r.kept;
      bound = [];
      scope = ap (λ (h : Here). h.scope) r.kept ∙ sym (append-nil w.here.scope);
      grown = r.grown;
      unnamed = r.unnamed;
      ordered = r.ordered;
      means = λ all g z q. (x, y, z, (r.means all g).0, (r.means all g).1, subst (λ (h : Here). Means h.names all h.scope last z) r.kept q, refl);
      same = only_third (complaint (takes w) p) (complaint (takes w) a) (complaint (takes w) last) r.fine ∙ ap (λ (g : Takes). complaint g last) (sym r.taken);
      within = omega arith;
    })

pub quantified_opens : (w m v : Around) (rows new : List Pending) (at : Place) (q : Quantifier) (bs : tree.Bounds) (a t : Tree) (ys : term.Bounds) → tree.Quantified at q bs a ≡ t → new ≡ rows ++ pending.Quantified at q ys ∷ [] → ResolvesBounds w m bs ys → v ≡ record { here = record { names = m.here.names; scope = bind_bounds m.here.scope bs }; table = m.table } → OpensRow w v rows new t a
quantified_opens w m v rows new at q bs a t ys e n r b =
    let names : v.here.names ≡ w.here.names = ap (λ (u : Around). u.here.names) b ∙ ap (λ (h : Here). h.names) r.kept in
    let scope : v.here.scope ≡ bind_bounds w.here.scope bs = ap (λ (u : Around). u.here.scope) b ∙ ap (λ (h : Here). bind_bounds h.scope bs) r.kept in
    let table : v.table ≡ m.table = ap (λ (u : Around). u.table) b in
    let more : (more : List Local) × (bind_bounds w.here.scope bs ≡ w.here.scope ++ more) = bounds_add w.here.scope bs in
    let grown : Grows w.table v.table = subst (λ (x : List Operator). Grows w.table x) (sym table) r.grown in
    subst (λ (u : Tree). OpensRow w v rows new u a) e
    (record {
      row = pending.Quantified at q ys;
      added = n;
      kept = names;
      bound = more.0;
      scope = scope ∙ more.1;
      grown = grown;
      unnamed = ap named_in table ∙ r.unnamed;
      ordered = subst (λ (x : List Operator). KeepsOrder w.table x) (sym table) r.ordered;
      means = λ all g z k.
          (ys, z, r.means all (subst (λ (x : List Operator). StandsOn (length w.table) x all) table g), subst (λ (x : List Entry). Means x all (bind_bounds w.here.scope bs) a z) names (subst (λ (x : List Local). Means v.here.names all x a z) scope k), refl);
      same = only_last (bounds_complaint (takes w) bs) (complaint (with_bounds (takes w) bs) a) r.fine ∙ ap (λ (g : Takes). complaint g a) (sym (ap takes b ∙ takes_bounds m.table m.here.names m.here.scope bs ∙ ap (λ (g : Takes). with_bounds g bs) r.taken));
      within = omega arith;
    })

pub choose_opens : (w m v : Around) (rows new : List Pending) (at : Place) (n : List ℕ) (s a t : Tree) (y : Term) → tree.Choose at n s a ≡ t → new ≡ rows ++ pending.Choose at y ∷ [] → Resolves w m s y → v ≡ record { here = record { names = m.here.names; scope = bind m.here.scope (n ∷ []) }; table = m.table } → OpensRow w v rows new t a
choose_opens w m v rows new at n s a t y e j r b =
    let names : v.here.names ≡ w.here.names = ap (λ (u : Around). u.here.names) b ∙ ap (λ (h : Here). h.names) r.kept in
    let scope : v.here.scope ≡ w.here.scope ++ Bound n ∷ [] = ap (λ (u : Around). u.here.scope) b ∙ ap (λ (h : Here). h.scope ++ Bound n ∷ []) r.kept in
    let table : v.table ≡ m.table = ap (λ (u : Around). u.table) b in
    let grown : Grows w.table v.table = subst (λ (x : List Operator). Grows w.table x) (sym table) r.grown in
    subst (λ (u : Tree). OpensRow w v rows new u a) e
    (record {
      row = pending.Choose at y;
      added = j;
      kept = names;
      bound = Bound n ∷ [];
      scope = scope;
      grown = grown;
      unnamed = ap named_in table ∙ r.unnamed;
      ordered = subst (λ (x : List Operator). KeepsOrder w.table x) (sym table) r.ordered;
      means = λ all g z k.
          (y, z, r.means all (subst (λ (x : List Operator). StandsOn (length w.table) x all) table g), subst (λ (x : List Entry). Means x all (w.here.scope ++ Bound n ∷ []) a z) names (subst (λ (x : List Local). Means v.here.names all x a z) scope k), refl);
      same = only_last (complaint (takes w) s) (complaint (with_name (takes w) n bound_name) a) r.fine ∙ ap (λ (g : Takes). complaint g a) (sym (ap takes b ∙ takes_bound m.table m.here.names m.here.scope n ∙ ap (λ (g : Takes). with_name g n bound_name) r.taken));
      within = omega arith;
    })

defines_add : (names : List Entry) (ops : List Operator) (sc : List Local) (ds : tree.Definitions) (ks : List ℕ) (inner : List Local) → Defines names ops sc ds ks inner → (more : List Local) × (inner ≡ sc ++ more)
defines_add names ops sc tree.NoDefinitions ks inner d = ([], d.1 ∙ sym (append-nil sc))
defines_add names ops sc (tree.MoreDefinitions ds n at ps form e) ks inner d =
    let m : (more : List Local) × (d.1 ≡ sc ++ more) = defines_add names ops sc ds d.0 d.1 d.4 in
    let one : List Local = Defined n d.2 (length ps) ∷ [] in
    (m.0 ++ one, d.8 ∙ ap (λ x. x ++ one) m.1 ∙ append_assoc sc m.0 one)

pub let_opens : (w v : Around) (rows new : List Pending) (at : Place) (ds : tree.Definitions) (a t : Tree) (ks : List ℕ) → tree.Let at ds a ≡ t → new ≡ rows ++ pending.Scoped at ks ∷ [] → ResolvesDefinitions w v ds ks → OpensRow w v rows new t a
let_opens w v rows new at ds a t ks e n r =
    let d : Defines w.here.names v.table w.here.scope ds ks v.here.scope = r.means v.table (stands_same (length w.table) v.table) in
    let more : (more : List Local) × (v.here.scope ≡ w.here.scope ++ more) = defines_add w.here.names v.table w.here.scope ds ks v.here.scope d in
    subst (λ (u : Tree). OpensRow w v rows new u a) e
    (record {
      row = pending.Scoped at ks;
      added = n;
      kept = r.kept;
      bound = more.0;
      scope = more.1;
      grown = r.grown;
      unnamed = r.unnamed;
      ordered = r.ordered;
      means = λ all g z k. (ks, v.here.scope, z, r.means all g, subst (λ (x : List Entry). Means x all v.here.scope a z) r.kept k, refl);
      same = only_last (definitions_complaint (takes w) ds) (complaint (with_definitions (takes w) ds) a) r.fine ∙ ap (λ (g : Takes). complaint g a) (sym r.taken);
      within = omega arith;
    })

-- One row behind the other.

pub opens_begin : (w : Around) (t : Tree) → Opens w w [] t t
opens_begin w t =
    record {
      kept = refl;
      bound = [];
      scope = sym (append-nil w.here.scope);
      grown = grows_same w.table;
      unnamed = refl;
      ordered = λ o. o;
      means = λ all g x k. k;
      same = refl;
      within = omega arith;
    }

pub opens_on : (w m v : Around) (rows new : List Pending) (t mid last : Tree) → Opens w m rows t mid → OpensRow m v rows new mid last → Opens w v new t last
opens_on w m v rows new t mid last a b =
    record {
      kept = b.kept ∙ a.kept;
      bound = a.bound ++ b.bound;
      scope = b.scope ∙ ap (λ x. x ++ b.bound) a.scope ∙ append_assoc w.here.scope a.bound b.bound;
      grown = grows_on w.table a.grown b.grown;
      unnamed = b.unnamed ∙ a.unnamed;
      ordered = λ o. b.ordered (a.ordered o);
      means = λ all g x k.
          subst (λ (e : Term). Means w.here.names all w.here.scope t e) (sym (ap (λ (rs : List Pending). closed_all rs x) b.added ∙ closed_behind rows b.row x))
          (a.means all (stands_grown m.table b.grown g) (closed b.row x) (b.means all (stands_later w.table a.grown g) x k));
      same = a.same ∙ b.same;
      within = omega (arith, a.within, b.within);
    }

pub opens_stay : (w m v : Around) (rows new : List Pending) (t rest : Tree) → Opens w m rows t rest → StaysClosed m v rows new rest → Opens w v new t rest
opens_stay w m v rows new t rest a s =
    subst (λ (x : List Pending). Opens w v x t rest) (sym s.added) (subst (λ (x : Around). Opens w x rows t rest) (sym s.around) a)

pub opens_refused : (w m : Around) (rows : List Pending) (t rest : Tree) (f : NameFault) → Opens w m rows t rest → Complains (complaint (takes m) rest) f → Complains (complaint (takes w) t) f
opens_refused w m rows t rest f a c = subst (λ (x : Option NameFault). Complains x f) (sym a.same) c

-- The whole tree.

take_less : (k : ℕ) (xs ys : List Local) → k ≤ length xs → take k (xs ++ ys) ≡ take k xs
take_less zero xs ys le = refl
take_less (suc k) [] ys le = absurd (omega (arith, le))
take_less (suc k) (x ∷ xs) ys le = ap (λ t. x ∷ t) (take_less k xs ys (omega (arith, le)))

pub opens_to : (w m v u : Around) (depth : ℕ) (rows : List Pending) (t rest : Tree) (n : Meaning) (e whole : Term) → IsAround w.here.names w.here.scope w.table → Opens w m rows t rest → ResolvesRow m v rest n → e ≡ Placed (place_of rest) (level_for v.table n) n → u ≡ record { here = record { names = v.here.names; scope = take depth v.here.scope }; table = v.table } → whole ≡ closed_all rows e → ResolvesTo w u depth t whole
opens_to w m v u depth rows t rest n e whole s a r p c q =
    let table : u.table ≡ v.table = ap (λ (x : Around). x.table) c in
    let grown : Grows w.table u.table = subst (λ (x : List Operator). Grows w.table x) (sym table) (grows_on w.table a.grown r.grown) in
    let kept : depth ≤ length w.here.scope → u.here ≡ cut depth w.here =
    λ le. ap (λ (x : Around). x.here) c ∙ ap (λ (h : Here). cut depth h) r.kept ∙ ap (λ (x : List Entry). record { names = x; scope = take depth m.here.scope }) a.kept ∙ ap (λ (x : List Local). record { names = w.here.names; scope = x }) (ap (λ (x : List Local). take depth x) a.scope ∙ take_less depth w.here.scope a.bound le) in
    record {
      kept = kept;
      grown = grown;
      unnamed = ap named_in table ∙ r.unnamed ∙ a.unnamed;
      ordered = subst (λ (x : List Operator). KeepsOrder w.table x) (sym table) (λ o. r.ordered (a.ordered o));
      taken = λ le. ap (λ (h : Here). takes_in u.table h.names h.scope) (kept le) ∙ takes_grown w.here.names (take depth w.here.scope) w.table u.table (around_cut w.here.names w.here.scope w.table depth s) grown;
      means = λ all g.
          let k : StandsOn (length w.table) v.table all = subst (λ (x : List Operator). StandsOn (length w.table) x all) table g in
          subst (λ (x : Term). Means w.here.names all w.here.scope t x) (sym q)
          (a.means all (stands_grown m.table r.grown k) e (subst (λ (x : Term). Means m.here.names all m.here.scope rest x) (sym p) (r.means all (stands_later w.table a.grown k))));
      fine = a.same ∙ r.fine;
    }

pub place_is : (at : Place) (n : Node) → place_of (node_view at n) ≡ at
place_is at (node.Number z) = refl
place_is at (node.Str t) = refl
place_is at (node.Truth b) = refl
place_is at (node.Builtin b) = refl
place_is at (node.Name n) = refl
place_is at (node.Call n es) = refl
place_is at (node.Qualified n es) = refl
place_is at node.At = refl
place_is at (node.Parenthesized e) = refl
place_is at (node.Junction b es) = refl
place_is at (node.Prefix o e) = refl
place_is at (node.Infix o es e) = refl
place_is at (node.Postfix e ss s) = refl
place_is at (node.SetOf es) = refl
place_is at (node.Filter n s e) = refl
place_is at (node.Map e bs) = refl
place_is at (node.Tuple es) = refl
place_is at (node.Function bs e) = refl
place_is at (node.FunctionSet s e) = refl
place_is at (node.Record fs) = refl
place_is at (node.RecordSet fs) = refl
place_is at (node.Except e cs) = refl
place_is at (node.Quantified q bs e) = refl
place_is at (node.Choose n s e) = refl
place_is at (node.If p e f) = refl
place_is at (node.Case arms None) = refl
place_is at (node.Case arms (Some e)) = refl
place_is at (node.Let ds e) = refl
place_is at (node.BoxAction e v) = refl
place_is at (node.AngleAction e v) = refl
place_is at (node.Fairness v e) = refl

-- what the code that opens a row answers

pub row_opened : (w v : Around) (rows new : List Pending) (t : Tree) (o : Option (Bor Tree)) (last : Bor Tree) → o ≡ Some last → MatchOption o (StaysClosed w v rows new t) (λ x. OpensRow w v rows new t x.now) → OpensRow w v rows new t last.now
row_opened w v rows new t (Some x) last e m = let same : x ≡ last = cc in subst (λ (y : Bor Tree). OpensRow w v rows new t y.now) same m
row_opened w v rows new t None last e m = absurd (cc)

pub row_stays : (w v : Around) (rows new : List Pending) (t : Tree) (o : Option (Bor Tree)) → o ≡ None → MatchOption o (StaysClosed w v rows new t) (λ x. OpensRow w v rows new t x.now) → StaysClosed w v rows new t
row_stays w v rows new t (Some x) e m = absurd (cc)
row_stays w v rows new t None e m = m
