-- How what was read comes together.
use Rattle.std.proofs.Common.{◌≡◌, ◌∙◌, sym, ap, refl, subst, List, [], ◌++◌, length, append_assoc, append-nil}
use Rattle.std.specs.Prelude.{Option, None, Result, Ok, Err, IfErr, IsErrAnd}
use Rattle.reading_trees.specs.Trees.{Tree}
use Rattle.names_terms.specs.declared.operator.Operator.{Operator}
use Rattle.names_terms.specs.Terms.{Meaning}
use Rattle.names_meanings.specs.declared.fault.NameFault.{NameFault}
use Rattle.names_meanings.specs.declared.fault.NameFault.TheVariants.{UnknownName, WrongArity, Recursion, NoMemory}
use Rattle.names_meanings.specs.Around.{Here, Around, takes}
use Rattle.names_meanings.specs.Complaints.{Takes, or_else, complaint}
use Rattle.names_meanings.specs.Outcomes.{Complains, Grows, Lasts}
use Rattle.names_meanings.specs.Reads.{Reads, ResolvesRow}
use Rattle.names_meanings.proofs.StandingOn.{stands_grown, stands_later}

-- The first complaint.

pub wanting : (c : Option NameFault) (f : NameFault) → f ≡ NoMemory → Complains c f
wanting c f w = subst (λ (x : NameFault). Complains c x) (sym w) tt

pub complains_first : (c d : Option NameFault) (f : NameFault) → Complains c f → Complains (or_else c d) f
complains_first c d NoMemory p = tt
complains_first c d (UnknownName n at) p = ap (λ x. or_else x d) p
complains_first c d (WrongArity n found needed at) p = ap (λ x. or_else x d) p
complains_first c d (Recursion n at) p = ap (λ x. or_else x d) p

pub complains_later : (c d : Option NameFault) (f : NameFault) → c ≡ None → Complains d f → Complains (or_else c d) f
complains_later c d NoMemory e p = tt
complains_later c d (UnknownName n at) e p = ap (λ x. or_else x d) e ∙ p
complains_later c d (WrongArity n found needed at) e p = ap (λ x. or_else x d) e ∙ p
complains_later c d (Recursion n at) e p = ap (λ x. or_else x d) e ∙ p

pub none_both : (c d : Option NameFault) → c ≡ None → d ≡ None → or_else c d ≡ None
none_both c d e p = ap (λ x. or_else x d) e ∙ p

-- what a `?` hands on
pub stopped : {A : Type 0} (r : Result A NameFault) (f : NameFault) (P : NameFault → Type 0) → IsErrAnd r (λ e. e ≡ f) → P f → IfErr r P
stopped (Ok x) f P g h = tt
stopped (Err e) f P g h = subst (λ (x : NameFault). P x) (sym g) h

-- Tables that grow.

pub grows_same : (ops : List Operator) → Grows ops ops
grows_same ops = ([], sym (append-nil ops))

pub grows_on : (a : List Operator) {b c : List Operator} → Grows a b → Grows b c → Grows a c
grows_on a g h = (g.0 ++ h.0, h.1 ∙ ap (λ x. x ++ h.0) g.1 ∙ append_assoc a g.0 h.0)

-- One part behind the other.

pub nothing : (w : Around) {c : Takes → Option NameFault} {P : Here → List Operator → Type 0} → Lasts (length w.table) w.table (P w.here) → c (takes w) ≡ None → Reads w w c P
nothing w h n = record { kept = refl; grown = grows_same w.table; unnamed = refl; ordered = λ o. o; taken = refl; means = h; fine = n }

pub and_then : (w m v : Around) {c d : Takes → Option NameFault} {P Q : Here → List Operator → Type 0} → Reads w m c P → Reads m v d Q → Reads w v (λ g. or_else (c g) (d g)) (λ h all. P h all × Q h all)
and_then w m v {c = c} {d = d} {Q = Q} p q =
    record {
      kept = q.kept ∙ p.kept;
      grown = grows_on w.table p.grown q.grown;
      unnamed = q.unnamed ∙ p.unnamed;
      ordered = λ o. q.ordered (p.ordered o);
      taken = q.taken ∙ p.taken;
      means = λ all g. (p.means all (stands_grown m.table q.grown g), subst (λ (h : Here). Q h all) p.kept (q.means all (stands_later w.table p.grown g)));
      fine = none_both (c (takes w)) (d (takes w)) p.fine (subst (λ (g : Takes). d g ≡ None) p.taken q.fine);
    }

-- another fact of what was read
pub so : (w v : Around) {c : Takes → Option NameFault} {P Q : Here → List Operator → Type 0} → Reads w v c P → ((h : Here) (all : List Operator) → P h all → Q h all) → Reads w v c Q
so w v p f = record { kept = p.kept; grown = p.grown; unnamed = p.unnamed; ordered = p.ordered; taken = p.taken; means = λ all g. f w.here all (p.means all g); fine = p.fine }

pub refused_later : (w m : Around) {c : Takes → Option NameFault} (d : Takes → Option NameFault) {P : Here → List Operator → Type 0} (f : NameFault) → Reads w m c P → Complains (d (takes m)) f → Complains (or_else (c (takes w)) (d (takes w))) f
refused_later w m {c = c} d f p r = complains_later (c (takes w)) (d (takes w)) f p.fine (subst (λ (g : Takes). Complains (d g) f) p.taken r)

-- Rows.

pub row_is : (w v : Around) (t u : Tree) (m n : Meaning) → t ≡ u → n ≡ m → ResolvesRow w v t m → ResolvesRow w v u n
row_is w v t u m n e f r = subst (λ (x : Meaning). ResolvesRow w v u x) (sym f) (subst (λ (x : Tree). ResolvesRow w v x m) e r)

pub tree_refused : (w : Around) (t u : Tree) (f : NameFault) → t ≡ u → Complains (complaint (takes w) t) f → Complains (complaint (takes w) u) f
tree_refused w t u f e c = subst (λ (x : Tree). Complains (complaint (takes w) x) f) e c
