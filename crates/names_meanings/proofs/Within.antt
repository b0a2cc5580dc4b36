-- Parts that are read where more names are bound, behind which the scope is cut back.
use Rattle.std.proofs.Common.{◌≡◌, ◌∙◌, sym, ap, refl, subst, List, [], ◌∷◌, ◌++◌, length, ◌≤◌, arith, append_assoc, append-nil}
use Rattle.std.proofs.lemmas.List.{length-append}
use Rattle.std.specs.Prelude.{ℕ, take, None, Result, Ok, Err, IfOk, IfErr}
use Rattle.reading_trees.specs.Trees as tree
use Rattle.reading_trees.specs.Trees.{Tree}
use Rattle.names_terms.specs.Terms.{Term}
use Rattle.names_meanings.specs.declared.fault.NameFault.{NameFault}
use Rattle.names_scopes.specs.declared.scope.Local.{Local}
use Rattle.names_scopes.specs.declared.scope.Local.TheVariants.{Bound}
use Rattle.names_meanings.specs.Around.{Around, takes}
use Rattle.names_meanings.specs.Complaints.{Takes, bound_name, with_name, with_names, with_bounds, complaint}
use Rattle.names_meanings.specs.Means.{Means}
use Rattle.names_meanings.specs.Outcomes.{takes_in, Complains, Grows, named_in, KeepsOrder, Lasts}
use Rattle.names_meanings.specs.Reads.{Reads, ResolvesTo, ResolvesWithin, ResolvesUnder}
use Rattle.names_scopes.specs.Scopes.{bind, bind_bounds}
use Rattle.names_meanings.proofs.Takes.{takes_bind, takes_bounds}

-- A scope is the beginning of one with more names.

nil_more : (sc : List Local) → sc ≡ sc ++ []
nil_more sc = sym (append-nil sc)

pub bind_adds : (sc : List Local) (ns : List (List ℕ)) → (more : List Local) × (bind sc ns ≡ sc ++ more)
bind_adds sc [] = ([], nil_more sc)
bind_adds sc (n ∷ ns) =
    let m : (more : List Local) × (bind (sc ++ Bound n ∷ []) ns ≡ (sc ++ Bound n ∷ []) ++ more) = bind_adds (sc ++ Bound n ∷ []) ns in
    (Bound n ∷ m.0, m.1 ∙ append_assoc sc (Bound n ∷ []) m.0)

pub bounds_add : (sc : List Local) (bs : tree.Bounds) → (more : List Local) × (bind_bounds sc bs ≡ sc ++ more)
bounds_add sc tree.NoBounds = ([], nil_more sc)
bounds_add sc (tree.MoreBounds bs ns e) =
    let m : (more : List Local) × (bind_bounds sc bs ≡ sc ++ more) = bounds_add sc bs in
    let k : (more : List Local) × (bind (bind_bounds sc bs) ns ≡ bind_bounds sc bs ++ more) = bind_adds (bind_bounds sc bs) ns in
    (m.0 ++ k.0, k.1 ∙ ap (λ x. x ++ k.0) m.1 ∙ append_assoc sc m.0 k.0)

pub take_front : (xs ys : List Local) → take (length xs) (xs ++ ys) ≡ xs
take_front [] ys = refl
take_front (x ∷ xs) ys = ap (λ t. x ∷ t) (take_front xs ys)

longer : (xs ys : List Local) → length xs ≤ length (xs ++ ys)
longer xs ys = omega (arith, length-append xs ys)

-- what was read in a longer scope
pub record ReadIn (m v : Around) (sc : List Local) (t : Tree) (e : Term) : Type 0 where
  pub kept : v.here ≡ m.here
  pub grown : Grows m.table v.table
  pub unnamed : named_in v.table ≡ named_in m.table
  pub ordered : KeepsOrder m.table v.table
  pub taken : takes v ≡ takes m
  pub means : Lasts (length m.table) v.table (λ all. Means m.here.names all sc t e)
  pub fine : complaint (takes_in m.table m.here.names sc) t ≡ None

read_in : (m v : Around) (sc more : List Local) (t : Tree) (e : Term) → sc ≡ m.here.scope ++ more → ResolvesTo (record { here = record { names = m.here.names; scope = sc }; table = m.table }) v (length m.here.scope) t e → ReadIn m v sc t e
read_in m v sc more t e s r =
    let below : length m.here.scope ≤ length sc = subst (λ (x : List Local). length m.here.scope ≤ length x) (sym s) (longer m.here.scope more) in
    let back : take (length m.here.scope) sc ≡ m.here.scope = ap (λ (x : List Local). take (length m.here.scope) x) s ∙ take_front m.here.scope more in
    let kept : v.here ≡ m.here = r.kept below ∙ ap (λ (x : List Local). record { names = m.here.names; scope = x }) back in
    record { kept = kept; grown = r.grown; unnamed = r.unnamed; ordered = r.ordered; taken = r.taken below ∙ ap (λ (x : List Local). takes_in m.table m.here.names x) back; means = r.means; fine = r.fine }

pub read_back : (m m1 v : Around) (depth : ℕ) (sc more : List Local) (t : Tree) (e : Term) → m1 ≡ record { here = record { names = m.here.names; scope = sc }; table = m.table } → depth ≡ length m.here.scope → sc ≡ m.here.scope ++ more → ResolvesTo m1 v depth t e → ReadIn m v sc t e
read_back m m1 v depth sc more t e w d s r =
    read_in m v sc more t e s (subst (λ (k : ℕ). ResolvesTo (record { here = record { names = m.here.names; scope = sc }; table = m.table }) v k t e) d (subst (λ (a : Around). ResolvesTo a v depth t e) w r))

-- under names
pub names_within : (m m1 v : Around) (depth : ℕ) (ns : List (List ℕ)) (t : Tree) (e : Term) → m1 ≡ record { here = record { names = m.here.names; scope = bind m.here.scope ns }; table = m.table } → depth ≡ length m.here.scope → ResolvesTo m1 v depth t e → Reads m v (λ g. complaint (with_names g ns) t) (λ h all. Means h.names all (bind h.scope ns) t e)
names_within m m1 v depth ns t e w d r =
    let a : (more : List Local) × (bind m.here.scope ns ≡ m.here.scope ++ more) = bind_adds m.here.scope ns in
    let b : ReadIn m v (bind m.here.scope ns) t e = read_back m m1 v depth (bind m.here.scope ns) a.0 t e w d a.1 r in
    record {
      kept = b.kept;
      grown = b.grown;
      unnamed = b.unnamed;
      ordered = b.ordered;
      taken = b.taken;
      means = b.means;
      fine = ap (λ (g : Takes). complaint g t) (sym (takes_bind m.table m.here.names m.here.scope ns)) ∙ b.fine;
    }

pub names_refused : (m m1 : Around) (ns : List (List ℕ)) (t : Tree) (f : NameFault) → m1 ≡ record { here = record { names = m.here.names; scope = bind m.here.scope ns }; table = m.table } → Complains (complaint (takes m1) t) f → Complains (complaint (with_names (takes m) ns) t) f
names_refused m m1 ns t f w c =
    subst (λ (g : Takes). Complains (complaint g t) f) (ap takes w ∙ takes_bind m.table m.here.names m.here.scope ns) c

-- under bounds
pub bounds_within : (m m1 v : Around) (depth : ℕ) (bs : tree.Bounds) (t : Tree) (e : Term) → m1 ≡ record { here = record { names = m.here.names; scope = bind_bounds m.here.scope bs }; table = m.table } → depth ≡ length m.here.scope → ResolvesTo m1 v depth t e → Reads m v (λ g. complaint (with_bounds g bs) t) (λ h all. Means h.names all (bind_bounds h.scope bs) t e)
bounds_within m m1 v depth bs t e w d r =
    let a : (more : List Local) × (bind_bounds m.here.scope bs ≡ m.here.scope ++ more) = bounds_add m.here.scope bs in
    let b : ReadIn m v (bind_bounds m.here.scope bs) t e = read_back m m1 v depth (bind_bounds m.here.scope bs) a.0 t e w d a.1 r in
    record {
      kept = b.kept;
      grown = b.grown;
      unnamed = b.unnamed;
      ordered = b.ordered;
      taken = b.taken;
      means = b.means;
      fine = ap (λ (g : Takes). complaint g t) (sym (takes_bounds m.table m.here.names m.here.scope bs)) ∙ b.fine;
    }

pub bounds_refused : (m m1 : Around) (bs : tree.Bounds) (t : Tree) (f : NameFault) → m1 ≡ record { here = record { names = m.here.names; scope = bind_bounds m.here.scope bs }; table = m.table } → Complains (complaint (takes m1) t) f → Complains (complaint (with_bounds (takes m) bs) t) f
bounds_refused m m1 bs t f w c =
    subst (λ (g : Takes). Complains (complaint g t) f) (ap takes w ∙ takes_bounds m.table m.here.names m.here.scope bs) c

-- with nothing more bound
pub same_within : (w v : Around) (depth : ℕ) (t : Tree) (e : Term) → depth ≡ length w.here.scope → ResolvesTo w v depth t e → Reads w v (λ g. complaint g t) (λ h all. Means h.names all h.scope t e)
same_within w v depth t e d r =
    let b : ReadIn w v w.here.scope t e = read_back w w v depth w.here.scope [] t e refl d (nil_more w.here.scope) r in
    record { kept = b.kept; grown = b.grown; unnamed = b.unnamed; ordered = b.ordered; taken = b.taken; means = b.means; fine = b.fine }

-- what a call answers that reads a tree there

pub bounds_answers : (m m1 v : Around) (depth : ℕ) (bs : tree.Bounds) (t : Tree) (r : Result Term NameFault) → m1 ≡ record { here = record { names = m.here.names; scope = bind_bounds m.here.scope bs }; table = m.table } → depth ≡ length m.here.scope → IfOk r (λ e. ResolvesTo m1 v depth t e) → IfOk r (λ e. ResolvesWithin m v bs t e)
bounds_answers m m1 v depth bs t (Ok e) w d k = bounds_within m m1 v depth bs t e w d k
bounds_answers m m1 v depth bs t (Err f) w d k = tt

pub bounds_refuse : (m m1 : Around) (bs : tree.Bounds) (t : Tree) (r : Result Term NameFault) → m1 ≡ record { here = record { names = m.here.names; scope = bind_bounds m.here.scope bs }; table = m.table } → IfErr r (Complains (complaint (takes m1) t)) → IfErr r (Complains (complaint (with_bounds (takes m) bs) t))
bounds_refuse m m1 bs t (Ok e) w k = tt
bounds_refuse m m1 bs t (Err f) w k = bounds_refused m m1 bs t f w k

pub name_answers : (m m1 v : Around) (depth : ℕ) (n : List ℕ) (t : Tree) (r : Result Term NameFault) → m1 ≡ record { here = record { names = m.here.names; scope = bind m.here.scope (n ∷ []) }; table = m.table } → depth ≡ length m.here.scope → IfOk r (λ e. ResolvesTo m1 v depth t e) → IfOk r (λ e. ResolvesUnder m v n t e)
name_answers m m1 v depth n t (Ok e) w d k = names_within m m1 v depth (n ∷ []) t e w d k
name_answers m m1 v depth n t (Err f) w d k = tt

pub name_refuse : (m m1 : Around) (n : List ℕ) (t : Tree) (r : Result Term NameFault) → m1 ≡ record { here = record { names = m.here.names; scope = bind m.here.scope (n ∷ []) }; table = m.table } → IfErr r (Complains (complaint (takes m1) t)) → IfErr r (Complains (complaint (with_name (takes m) n bound_name) t))
name_refuse m m1 n t (Ok e) w k = tt
name_refuse m m1 n t (Err f) w k = names_refused m m1 (n ∷ []) t f w k
