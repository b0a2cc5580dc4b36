-- A name with which nothing is wrong means something.
use Rattle.std.proofs.Common.{◌≡◌, refl, sym, ap, subst, List, [], length, arith}
use Rattle.std.specs.Prelude.{ℕ, ◌==◌, Bool, true, false, if◌then◌else◌, Option, Some, None, option_map}
use Rattle.std.proofs.lemmas.Bool.Decides.{nat_tests}
use Rattle.base_core.specs.declared.place.Place.{Place}
use Rattle.reading_trees.specs.Trees as tree
use Rattle.reading_trees.specs.Trees.{Tree, Trees}
use Rattle.names_terms.specs.Levels.{level_for}
use Rattle.names_terms.specs.Terms as term
use Rattle.names_terms.specs.Terms.{Term, Terms, Meaning, Placed}
use Rattle.names_terms.specs.declared.operator.Operator.{Operator}
use Rattle.names_meanings.specs.declared.fault.NameFault.{NameFault}
use Rattle.names_meanings.specs.declared.fault.NameFault.TheVariants.{WrongArity}
use Rattle.names_scopes.specs.declared.meant.Meant.{Meant}
use Rattle.names_scopes.specs.declared.meant.Meant.TheVariants as meant
use Rattle.names_scopes.specs.declared.meant.Entry.{Entry}
use Rattle.names_scopes.specs.declared.scope.Local.{Local}
use Rattle.names_scopes.specs.declared.meant.Named.{Named}
use Rattle.names_scopes.specs.Scopes.{meaning_in, used, at_sign}
use Rattle.names_meanings.specs.Around.{Around, takes}
use Rattle.names_meanings.specs.Complaints.{counted, number_of, complaint, complaints}
use Rattle.names_meanings.specs.Means.{Means, MeansEach}
use Rattle.names_meanings.specs.Outcomes.{IsSought, needed_by, needs, taken_by}
use Rattle.names_meanings.specs.Reads.{IsUse}
use Rattle.names_meanings.proofs.AroundLemmas.{sought_in}
use Rattle.names_meanings.proofs.Rows.{at_row, call_row, name_row, use_is}
use Rattle.names_meanings.proofs.StandingOn.{stands_same}
use Rattle.names_outcome_laws.specs.Lets.{lets, lets_each, lets_in}
use Rattle.names_outcome_laws.proofs.Lets.{AddsLets, adds_none}
use Rattle.names_outcome_laws.proofs.Reading.{SomeRead, Stands, left_none, right_none}

if_none : (b : Bool) (f : NameFault) → (if b then None else Some f) ≡ None → b ≡ true
if_none true f h = refl
if_none false f h = absurd (cc)

same_number : (k n : ℕ) → (k == n) ≡ true → n ≡ k
same_number k n q = grind (arith, nat_tests)

find : (ops : List Operator) (n : List ℕ) (at : Place) (k : ℕ) (o : Option Named) → counted n at k (option_map (taken_by ops) o) ≡ None → (what : Named) × (o ≡ Some what) × (needed_by what ≡ k)
find ops n at k None h = absurd (cc)
find ops n at k (Some x) h = (x, refl, same_number k (needed_by x) (if_none (k == needed_by x) (WrongArity n k (needed_by x) at) h))

-- what it means
pub sought : (w : Around) (n : List ℕ) (at : Place) (k : ℕ) → counted n at k (takes w n) ≡ None → (m : Meant) × IsSought w.here.names w.here.scope n k m
sought w n at k h =
    let f : (what : Named) × (meaning_in w.here.names w.here.scope n ≡ Some what) × (needed_by what ≡ k) = find w.table n at k (meaning_in w.here.names w.here.scope n) h in
    (f.0.meant, (f.0, f.1, refl, f.2))

abbrev pub SomeTerm : Around → Tree → Type 0
SomeTerm w t = SomeRead Term lets w (λ g. complaint g t) (λ e h all. Means h.names all h.scope t e)

use_lets : (m : Meant) → lets_in (used m term.NoTerms) ≡ []
use_lets (meant.Slot i) = refl
use_lets (meant.Variable x) = refl
use_lets (meant.Known v) = refl
use_lets (meant.Set s) = refl
use_lets (meant.Standard o) = refl
use_lets (meant.Definition k) = refl

-- a use of it without arguments
some_use : (w : Around) (n : List ℕ) (at : Place) → Stands w → counted n at 0 (takes w n) ≡ None → (m : Meaning) × IsUse w n at m × (lets_in m ≡ [])
some_use w n at s h =
    let f : (m : Meant) × IsSought w.here.names w.here.scope n 0 m = sought w n at 0 h in
    (used f.0 term.NoTerms, use_is w n at f.0 (used f.0 term.NoTerms) term.NoTerms refl refl f.1 (sought_in w.here.names w.here.scope w.table n 0 f.0 s f.1), use_lets f.0)

-- what a name that is used so names has no LETs
nothing_listed : (w : Around) (xs : List ℕ) → xs ≡ [] → AddsLets w.table w.table xs
nothing_listed w xs e = subst (λ (ks : List ℕ). AddsLets w.table w.table ks) (sym e) (adds_none w.table)

pub some_name : (w : Around) (at : Place) (n : List ℕ) → Stands w → counted n at 0 (takes w n) ≡ None → SomeTerm w (tree.Name at n)
some_name w at n s h =
    let u : (m : Meaning) × IsUse w n at m × (lets_in m ≡ []) = some_use w n at s h in
    record { what = Placed at (level_for w.table u.0) u.0; behind = w; read = name_row w n at u.0 u.1; lets = nothing_listed w (lets_in u.0) u.2 }

pub some_at : (w : Around) (at : Place) → Stands w → counted at_sign at 0 (takes w at_sign) ≡ None → SomeTerm w (tree.At at)
some_at w at s h =
    let u : (m : Meaning) × IsUse w at_sign at m × (lets_in m ≡ []) = some_use w at_sign at s h in
    record { what = Placed at (level_for w.table u.0) u.0; behind = w; read = at_row w at at_sign u.0 refl u.1; lets = nothing_listed w (lets_in u.0) u.2 }

-- with arguments: only an operator has any
call_lets : (m : Meant) (k : ℕ) (args : Trees) (ts : Terms) → needs m k ≡ number_of args → (number_of args ≡ 0 → ts ≡ term.NoTerms) → lets_in (used m ts) ≡ lets_each ts
call_lets (meant.Slot i) k args ts e none = sym (ap (λ (xs : Terms). lets_each xs) (none (sym e)))
call_lets (meant.Variable x) k args ts e none = sym (ap (λ (xs : Terms). lets_each xs) (none (sym e)))
call_lets (meant.Known v) k args ts e none = sym (ap (λ (xs : Terms). lets_each xs) (none (sym e)))
call_lets (meant.Set s) k args ts e none = sym (ap (λ (xs : Terms). lets_each xs) (none (sym e)))
call_lets (meant.Standard o) k args ts e none = refl
call_lets (meant.Definition d) k args ts e none = refl

no_terms : (names : List Entry) (all : List Operator) (sc : List Local) (args : Trees) (ts : Terms) → MeansEach names all sc args ts → number_of args ≡ 0 → ts ≡ term.NoTerms
no_terms names all sc tree.NoTrees ts m e = m
no_terms names all sc (tree.MoreTrees es x) ts m e = absurd (omega (arith, e))

sought_lets : (w : Around) (n : List ℕ) (args : Trees) (m : Meant) (ts : Terms) → IsSought w.here.names w.here.scope n (number_of args) m → (number_of args ≡ 0 → ts ≡ term.NoTerms)
    → lets_in (used m ts) ≡ lets_each ts
sought_lets w n args m ts (what, is, same, needed) none =
    subst (λ (x : Meant). lets_in (used x ts) ≡ lets_each ts) same (call_lets what.meant what.needed args ts needed none)

pub some_call : (w : Around) (at : Place) (n : List ℕ) (args : Trees) → Stands w → complaint (takes w) (tree.Call at n args) ≡ None → (complaints (takes w) args ≡ None → SomeRead Terms lets_each w (λ g. complaints g args) (λ ts h all. MeansEach h.names all h.scope args ts)) → SomeTerm w (tree.Call at n args)
some_call w at n args s h f =
    let a : counted n at (number_of args) (takes w n) ≡ None = left_none (counted n at (number_of args) (takes w n)) (complaints (takes w) args) h in
    let r : SomeRead Terms lets_each w (λ g. complaints g args) (λ ts h all. MeansEach h.names all h.scope args ts) = f (right_none (counted n at (number_of args) (takes w n)) (complaints (takes w) args) h) in
    let m : (m : Meant) × IsSought w.here.names w.here.scope n (number_of args) m = sought w n at (number_of args) a in
    record {
      what = Placed at (level_for r.behind.table (used m.0 r.what)) (used m.0 r.what);
      behind = r.behind;
      read = call_row w r.behind at n args (number_of args) m.0 r.what (used m.0 r.what) refl refl m.1 (sought_in w.here.names w.here.scope w.table n (number_of args) m.0 s m.1) r.read;
      lets = subst (λ (ks : List ℕ). AddsLets w.table r.behind.table ks) (sym (sought_lets w n args m.0 r.what m.1 (no_terms w.here.names r.behind.table w.here.scope args r.what (r.read.means r.behind.table (stands_same (length w.table) r.behind.table))))) r.lets;
    }

-- a name with a mark means what a call of it does
pub some_qualified : (w : Around) (at : Place) (n : List ℕ) (args : Trees) → Stands w → complaint (takes w) (tree.Qualified at n args) ≡ None → (complaints (takes w) args ≡ None → SomeRead Terms lets_each w (λ g. complaints g args) (λ ts h all. MeansEach h.names all h.scope args ts)) → SomeTerm w (tree.Qualified at n args)
some_qualified w at n args s h f =
    let r : SomeTerm w (tree.Call at n args) = some_call w at n args s h f in
    record { what = r.what; behind = r.behind; read = r.read; lets = r.lets }
