-- What is read of a tree, one part behind the other: some term, and the table behind it.
use Rattle.std.proofs.Common.{◌≡◌, ◌∙◌, sym, ap, refl, subst, List, [], ◌∷◌, ◌++◌, length, ◌≤◌}
use Rattle.std.specs.Prelude.{ℕ, Option, Some, None, take}
use Rattle.reading_trees.specs.Trees as tree
use Rattle.reading_trees.specs.Trees.{Tree}
use Rattle.names_terms.specs.Terms.{Term}
use Rattle.names_terms.specs.declared.operator.Operator.{Operator}
use Rattle.names_meanings.specs.declared.fault.NameFault.{NameFault}
use Rattle.names_scopes.specs.declared.meant.Entry.{Entry}
use Rattle.names_scopes.specs.declared.scope.Local.{Local}
use Rattle.names_scopes.specs.declared.scope.Local.TheVariants.{Bound}
use Rattle.names_scopes.specs.Standing.{LocalsIn}
use Rattle.names_scopes.specs.Scopes.{bind, bind_bounds}
use Rattle.names_scopes.proofs.ScopeLemmas.{one_slot}
use Rattle.names_meanings.specs.Around.{Here, Around, IsAround, takes}
use Rattle.names_meanings.specs.Complaints.{Takes, or_else, bound_name, with_name, with_names, with_bounds, complaint}
use Rattle.names_meanings.specs.Outcomes.{Grows}
use Rattle.names_meanings.specs.Reads.{Reads, Resolves, ResolvesTo, cut}
use Rattle.names_meanings.proofs.AroundLemmas.{around_cut, in_more, more_locals, takes_grown}
use Rattle.names_meanings.proofs.Reading.{and_then, so}
use Rattle.names_meanings.proofs.StandingOn.{longer}
use Rattle.names_meanings.proofs.Takes.{takes_bound, takes_bind, takes_bounds}
use Rattle.names_outcome_laws.proofs.Lets.{AddsLets, adds_both}

-- something of this kind was read here, and the table has the definitions of its LETs behind it
pub record SomeRead (A : Type 0) (L : A → List ℕ) (w : Around) (c : Takes → Option NameFault) (P : A → Here → List Operator → Type 0) : Type 0 where
  pub what : A
  pub behind : Around
  pub read : Reads w behind c (P what)
  pub lets : AddsLets w.table behind.table (L what)

-- each definition that a name means stands in the table
abbrev pub Stands : Around → Type 0
Stands w = IsAround w.here.names w.here.scope w.table

-- other names bound around
abbrev pub scoped : Around → List Local → Around
scoped w sc = record { here = record { names = w.here.names; scope = sc }; table = w.table }

pub around_grown : (names : List Entry) (sc : List Local) (a b : List Operator) → IsAround names sc a → Grows a b → IsAround names sc b
around_grown names sc a b s g =
    let le : length a ≤ length b = longer a g in
    record { program = λ j d lt. in_more (length a) (length b) _ le (s.program j d lt); around = more_locals (length a) (length b) sc le s.around }

pub stands_behind : (w v : Around) → Stands w → v.here ≡ w.here → Grows w.table v.table → Stands v
stands_behind w v s h g = subst (λ (x : Here). IsAround x.names x.scope v.table) (sym h) (around_grown w.here.names w.here.scope w.table v.table s g)

-- ---- complaints

pub left_none : (a b : Option NameFault) → or_else a b ≡ None → a ≡ None
left_none None b h = refl
left_none (Some x) b h = absurd (cc)

pub right_none : (a b : Option NameFault) → or_else a b ≡ None → b ≡ None
right_none None b h = h
right_none (Some x) b h = absurd (cc)

-- ---- one part behind the other

pub row : {A B : Type 0} {L : A → List ℕ} {M : B → List ℕ} (w : Around) {c : Takes → Option NameFault} {P : A → Here → List Operator → Type 0} {Q : B → Here → List Operator → Type 0} (f : A → B) → ((x : A) (h : Here) (all : List Operator) → P x h all → Q (f x) h all) → ((x : A) → M (f x) ≡ L x) → SomeRead A L w c P → SomeRead B M w c Q
row w f g e r = record {
  what = f r.what;
  behind = r.behind;
  read = so w r.behind r.read (λ h all p. g r.what h all p);
  lets = subst (λ (ks : List ℕ). AddsLets w.table r.behind.table ks) (sym (e r.what)) r.lets;
}

pub both : {A B : Type 0} {L : A → List ℕ} {M : B → List ℕ} (w : Around) {c d : Takes → Option NameFault} {P : A → Here → List Operator → Type 0} {Q : B → Here → List Operator → Type 0} → Stands w → or_else (c (takes w)) (d (takes w)) ≡ None → (c (takes w) ≡ None → SomeRead A L w c P) → ((m : Around) → Stands m → d (takes m) ≡ None → SomeRead B M m d Q) → SomeRead (A × B) (λ x. L x.0 ++ M x.1) w (λ g. or_else (c g) (d g)) (λ x h all. P x.0 h all × Q x.1 h all)
both {A = A} {B = B} {L = L} {M = M} w {c = c} {d = d} {P = P} {Q = Q} s q f g =
    let one : SomeRead A L w c P = f (left_none (c (takes w)) (d (takes w)) q) in
    let there : Stands one.behind = stands_behind w one.behind s one.read.kept one.read.grown in
    let later : d (takes one.behind) ≡ None = ap d one.read.taken ∙ right_none (c (takes w)) (d (takes w)) q in
    let two : SomeRead B M one.behind d Q = g one.behind there later in
    record {
      what = (one.what, two.what);
      behind = two.behind;
      read = and_then w one.behind two.behind one.read two.read;
      lets = adds_both w.table one.behind.table two.behind.table (L one.what) (M two.what) one.lets two.lets;
    }

-- what is read where more names are bound, behind which the scope is as it was
pub inside : {A : Type 0} {L : A → List ℕ} (w : Around) (f : List Local → List Local) {c d : Takes → Option NameFault} {P : A → Here → List Operator → Type 0} → Stands w → d (takes w) ≡ None → SomeRead A L (scoped w (f w.here.scope)) c P → SomeRead A L w d (λ x h all. P x (record { names = h.names; scope = f h.scope }) all)
inside w f s q r = record {
  what = r.what;
  behind = record { here = w.here; table = r.behind.table };
  read = record {
    kept = refl;
    grown = r.read.grown;
    unnamed = r.read.unnamed;
    ordered = r.read.ordered;
    taken = takes_grown w.here.names w.here.scope w.table r.behind.table s r.read.grown;
    means = r.read.means;
    fine = q;
  };
  lets = r.lets;
}

-- ---- scopes

bind_in : (n : ℕ) (sc : List Local) (ns : List (List ℕ)) → LocalsIn n sc → LocalsIn n (bind sc ns)
bind_in n sc [] h = h
bind_in n sc (m ∷ ns) h = bind_in n (sc ++ Bound m ∷ []) ns (one_slot n sc m h)

bounds_in : (n : ℕ) (sc : List Local) (bs : tree.Bounds) → LocalsIn n sc → LocalsIn n (bind_bounds sc bs)
bounds_in n sc tree.NoBounds h = h
bounds_in n sc (tree.MoreBounds bs ns e) h = bind_in n (bind_bounds sc bs) ns (bounds_in n sc bs h)

pub stands_one : (w : Around) (n : List ℕ) → Stands w → Stands (scoped w (w.here.scope ++ Bound n ∷ []))
stands_one w n s = record { program = s.program; around = one_slot (length w.table) w.here.scope n s.around }

pub stands_names : (w : Around) (ns : List (List ℕ)) → Stands w → Stands (scoped w (bind w.here.scope ns))
stands_names w ns s = record { program = s.program; around = bind_in (length w.table) w.here.scope ns s.around }

pub stands_bounds : (w : Around) (bs : tree.Bounds) → Stands w → Stands (scoped w (bind_bounds w.here.scope bs))
stands_bounds w bs s = record { program = s.program; around = bounds_in (length w.table) w.here.scope bs s.around }

pub fine_one : (w : Around) (n : List ℕ) (t : Tree) → complaint (with_name (takes w) n bound_name) t ≡ None → complaint (takes (scoped w (w.here.scope ++ Bound n ∷ []))) t ≡ None
fine_one w n t q = ap (λ (g : Takes). complaint g t) (takes_bound w.table w.here.names w.here.scope n) ∙ q

pub fine_names : (w : Around) (ns : List (List ℕ)) (t : Tree) → complaint (with_names (takes w) ns) t ≡ None → complaint (takes (scoped w (bind w.here.scope ns))) t ≡ None
fine_names w ns t q = ap (λ (g : Takes). complaint g t) (takes_bind w.table w.here.names w.here.scope ns) ∙ q

pub fine_bounds : (w : Around) (bs : tree.Bounds) (t : Tree) → complaint (with_bounds (takes w) bs) t ≡ None → complaint (takes (scoped w (bind_bounds w.here.scope bs))) t ≡ None
fine_bounds w bs t q = ap (λ (g : Takes). complaint g t) (takes_bounds w.table w.here.names w.here.scope bs) ∙ q

-- what was read, with the scope cut back
pub cut_back : (w v : Around) (depth : ℕ) (t : Tree) (e : Term) → Stands w → Resolves w v t e → ResolvesTo w (record { here = cut depth w.here; table = v.table }) depth t e
cut_back w v depth t e s r = record {
  kept = λ le. refl;
  grown = r.grown;
  unnamed = r.unnamed;
  ordered = r.ordered;
  taken = λ le. takes_grown w.here.names (take depth w.here.scope) w.table v.table (around_cut w.here.names w.here.scope w.table depth s) r.grown;
  means = r.means;
  fine = r.fine;
}
