-- A tree under parameters.
use Rattle.std.proofs.Common.{◌≡◌, ◌∙◌, sym, ap, subst, arith, List, [], length}
use Rattle.std.specs.Prelude.{ℕ, None, Result, Ok, Err, IfOk, IfErr, OnOk}
use Rattle.reading_trees.specs.Trees.{Tree}
use Rattle.names_terms.specs.declared.operator.Operator.{Operator}
use Rattle.names_terms.specs.Terms.{Term}
use Rattle.names_meanings.specs.declared.fault.NameFault.{NameFault}
use Rattle.names_scopes.specs.declared.meant.Entry.{Entry}
use Rattle.names_scopes.specs.declared.scope.Local.{Local}
use Rattle.names_term_parts.specs.Slots.{MentionsBelow, UsesSmaller}
use Rattle.names_scopes.specs.Standing.{AreIn}
use Rattle.names_meanings.specs.Around.{Here, Around, takes}
use Rattle.names_meanings.specs.Complaints.{Takes, with_names, complaint}
use Rattle.names_meanings.specs.Means.{Means}
use Rattle.names_meanings.specs.Outcomes.{takes_in, takes_of, Complains, Grows, named_in, IsOrdered, Lasts, StandsOn}
use Rattle.names_meanings.specs.Reads.{ResolvesTo, ResolvesBody}
use Rattle.names_scopes.specs.Scopes.{bind}
use Rattle.names_meanings.proofs.Takes.{takes_bind}
use Rattle.names_meanings.proofs.Within.{names_refused}
use Rattle.names_meanings.proofs.MeansBelow.{body_below}
use Rattle.names_meanings.proofs.AroundLemmas.{ordered_by, smaller_by}
use Rattle.names_meanings.proofs.StandingOn.{stands_same}

pub body_is : (w v u : Around) (ps : List (List ℕ)) (t : Tree) (e : Term) → v ≡ record { here = record { names = w.here.names; scope = bind w.here.scope ps }; table = w.table } → ResolvesTo v u 0 t e → ResolvesBody w u ps t e
body_is w v u ps t e b r =
    let k : ResolvesTo (record { here = record { names = w.here.names; scope = bind w.here.scope ps }; table = w.table }) u 0 t e =
    subst (λ (x : Around). ResolvesTo x u 0 t e) b r in
    record {
      kept = ap (λ (h : Here). h.names) (k.kept (omega arith));
      grown = k.grown;
      unnamed = k.unnamed;
      ordered = k.ordered;
      means = k.means;
      fine = ap (λ (g : Takes). complaint g t) (sym (takes_bind w.table w.here.names w.here.scope ps)) ∙ k.fine;
    }

-- nothing is bound around, but for the parameters

pub whole_means : (w u : Around) (names : List Entry) (table : List Operator) (ps : List (List ℕ)) (t : Tree) (e : Term) → w.here.names ≡ names → w.here.scope ≡ [] → table ≡ u.table → ResolvesBody w u ps t e → Lasts (length w.table) table (λ all. Means names all (bind [] ps) t e)
whole_means w u names table ps t e n s k r = λ all g.
    subst (λ (x : List Entry). Means x all (bind [] ps) t e) n (subst (λ (x : List Local). Means w.here.names all (bind x ps) t e) s (r.means all (subst (λ (x : List Operator). StandsOn (length w.table) x all) k g)))

takes_are : (w : Around) (names : List Entry) (old : List Operator) → w.here.names ≡ names → w.here.scope ≡ [] → w.table ≡ old → takes w ≡ takes_of old names
takes_are w names old n s o =
    ap (λ (x : List Entry). takes_in w.table x w.here.scope) n ∙ ap (λ (x : List Local). takes_in w.table names x) s ∙ ap (λ (x : List Operator). takes_of x names) o

pub whole_fine : (w u : Around) (names : List Entry) (old : List Operator) (ps : List (List ℕ)) (t : Tree) (e : Term) → w.here.names ≡ names → w.here.scope ≡ [] → w.table ≡ old → ResolvesBody w u ps t e → complaint (with_names (takes_of old names) ps) t ≡ None
whole_fine w u names old ps t e n s o r = ap (λ (g : Takes). complaint (with_names g ps) t) (sym (takes_are w names old n s o)) ∙ r.fine

pub whole_refused : (w : Around) (names : List Entry) (old : List Operator) (ps : List (List ℕ)) (t : Tree) (f : NameFault) → w.here.names ≡ names → w.here.scope ≡ [] → w.table ≡ old → Complains (complaint (with_names (takes w) ps) t) f → Complains (complaint (with_names (takes_of old names) ps) t) f
whole_refused w names old ps t f n s o c = subst (λ (g : Takes). Complains (complaint (with_names g ps) t) f) (takes_are w names old n s o) c

pub all_unnamed : (w u : Around) (old new : List Operator) (ps : List (List ℕ)) (t : Tree) (r : Result Term NameFault) → w.table ≡ old → new ≡ u.table → IfOk r (λ e. ResolvesBody w u ps t e) → OnOk r (named_in new ≡ named_in old)
all_unnamed w u old new ps t (Ok e) o n b = ap named_in n ∙ b.unnamed ∙ ap named_in o
all_unnamed w u old new ps t (Err f) o n b = tt

pub whole_grown : (w u : Around) (old new : List Operator) (ps : List (List ℕ)) (t : Tree) (e : Term) → w.table ≡ old → new ≡ u.table → ResolvesBody w u ps t e → Grows old new
whole_grown w u old new ps t e o n r = subst (λ (x : List Operator). Grows x new) o (subst (λ (x : List Operator). Grows w.table x) (sym n) r.grown)

pub bodies_are : (w v u : Around) (ps : List (List ℕ)) (t : Tree) (r : Result Term NameFault) → v ≡ record { here = record { names = w.here.names; scope = bind w.here.scope ps }; table = w.table } → IfOk r (λ e. ResolvesTo v u 0 t e) → IfOk r (λ e. ResolvesBody w u ps t e)
bodies_are w v u ps t (Ok e) b k = body_is w v u ps t e b k
bodies_are w v u ps t (Err f) b k = tt

pub bodies_refused : (w v : Around) (ps : List (List ℕ)) (t : Tree) (r : Result Term NameFault) → v ≡ record { here = record { names = w.here.names; scope = bind w.here.scope ps }; table = w.table } → IfErr r (Complains (complaint (takes v) t)) → IfErr r (Complains (complaint (with_names (takes w) ps) t))
bodies_refused w v ps t (Ok e) b k = tt
bodies_refused w v ps t (Err f) b k = names_refused w v ps t f b k

pub all_means : (w u : Around) (names : List Entry) (old table : List Operator) (ps : List (List ℕ)) (t : Tree) (r : Result Term NameFault) → w.here.names ≡ names → w.here.scope ≡ [] → w.table ≡ old → table ≡ u.table → IfOk r (λ e. ResolvesBody w u ps t e) → IfOk r (λ e. Lasts (length old) table (λ all. Means names all (bind [] ps) t e))
all_means w u names old table ps t (Ok e) n s o k b = subst (λ (x : List Operator). Lasts (length x) table (λ all. Means names all (bind [] ps) t e)) o (whole_means w u names table ps t e n s k b)
all_means w u names old table ps t (Err f) n s o k b = tt

pub all_fine : (w u : Around) (names : List Entry) (old : List Operator) (ps : List (List ℕ)) (t : Tree) (r : Result Term NameFault) → w.here.names ≡ names → w.here.scope ≡ [] → w.table ≡ old → IfOk r (λ e. ResolvesBody w u ps t e) → OnOk r (complaint (with_names (takes_of old names) ps) t ≡ None)
all_fine w u names old ps t (Ok e) n s o b = whole_fine w u names old ps t e n s o b
all_fine w u names old ps t (Err f) n s o b = tt

pub all_grown : (w u : Around) (old new : List Operator) (ps : List (List ℕ)) (t : Tree) (r : Result Term NameFault) → w.table ≡ old → new ≡ u.table → IfOk r (λ e. ResolvesBody w u ps t e) → OnOk r (Grows old new)
all_grown w u old new ps t (Ok e) o n b = whole_grown w u old new ps t e o n b
all_grown w u old new ps t (Err f) o n b = tt

pub all_refused : (w : Around) (names : List Entry) (old : List Operator) (ps : List (List ℕ)) (t : Tree) (r : Result Term NameFault) → w.here.names ≡ names → w.here.scope ≡ [] → w.table ≡ old → IfErr r (Complains (complaint (with_names (takes w) ps) t)) → IfErr r (Complains (complaint (with_names (takes_of old names) ps) t))
all_refused w names old ps t (Ok e) n s o c = tt
all_refused w names old ps t (Err f) n s o c = whole_refused w names old ps t f n s o c

pub within_params : (w v : Around) (ns ps : List (List ℕ)) → ns ≡ ps → v ≡ record { here = record { names = w.here.names; scope = bind w.here.scope ns }; table = w.table } → v ≡ record { here = record { names = w.here.names; scope = bind w.here.scope ps }; table = w.table }
within_params w v ns ps e b = b ∙ ap (λ (x : List (List ℕ)). record { here = record { names = w.here.names; scope = bind w.here.scope x }; table = w.table }) e

-- the table and the term that are handed out
pub whole_below : (w u : Around) (names : List Entry) (table : List Operator) (ps : List (List ℕ)) (t : Tree) (r : Result Term NameFault) → w.here.names ≡ names → w.here.scope ≡ [] → table ≡ u.table → AreIn (length table) u.here.names → IfOk r (λ e. ResolvesBody w u ps t e) → IfOk r (MentionsBelow (length table))
whole_below w u names table ps t (Ok e) n s k a b = body_below names table (subst (λ (x : List Entry). AreIn (length table) x) (b.kept ∙ n) a) [] ps t e tt (whole_means w u names table ps t e n s k b table (stands_same (length w.table) table))
whole_below w u names table ps t (Err f) n s k a b = tt

pub whole_smaller : (w u : Around) (old new : List Operator) (ps : List (List ℕ)) (t : Tree) (r : Result Term NameFault) → w.table ≡ old → new ≡ u.table → IfOk r (λ e. ResolvesBody w u ps t e) → OnOk r (UsesSmaller old → UsesSmaller new)
whole_smaller w u old new ps t (Ok e) o n b = λ h.
    let before : IsOrdered w.table = subst (λ (x : List Operator). IsOrdered x) (sym o) (ordered_by old h) in
    smaller_by new (subst (λ (x : List Operator). IsOrdered x) (sym n) (b.ordered before))
whole_smaller w u old new ps t (Err f) o n b = tt
