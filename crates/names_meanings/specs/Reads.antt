-- For the prover: what was read of a tree, one part behind the other.
use Rattle.std.specs.Prelude.{◌≡◌, ◌≤◌, ℕ, List, [], ◌∷◌, ◌++◌, length, take, Option, None}
use Rattle.base_core.specs.declared.place.Place.{Place}
use Rattle.reading_trees.specs.Trees as tree
use Rattle.reading_trees.specs.Trees.{Tree, Trees, place_of}
use Rattle.names_terms.specs.declared.operator.Operator.{Operator}
use Rattle.names_terms.specs.Terms as term
use Rattle.names_terms.specs.Terms.{Term, Terms, Meaning, Placed}
use Rattle.names_terms.specs.Levels.{level_for}
use Rattle.names_meanings.specs.declared.fault.NameFault.{NameFault}
use Rattle.names_scopes.specs.declared.scope.Local.TheVariants.{Bound}
use Rattle.names_scopes.specs.FirstOperands.{first_of}
use Rattle.names_meanings.specs.Around.{Here, Around, takes}
use Rattle.names_meanings.specs.Complaints.{Takes, bound_name, with_name, with_names, with_bounds, with_definitions, counted, complaint, complaints, operands_complaint, step_complaint, steps_complaint, bounds_complaint, fields_complaint, changes_complaint, arms_complaint, definitions_complaint}
use Rattle.names_meanings.specs.Means.{Uses, Means, MeansEach, MeansOperands, MeansStep, MeansSteps, MeansBounds, MeansFields, MeansChanges, MeansArms, Defines}
use Rattle.names_meanings.specs.Outcomes.{Complains, Grows, named_in, KeepsOrder, Lasts}
use Rattle.names_scopes.specs.Scopes.{bind, bind_bounds}

-- Something was read here, of which there is no complaint: what stands around is as it was but for a table that has grown, and over each table
-- where its definitions stand on the fact holds.
pub record Reads (w w' : Around) (c : Takes → Option NameFault) (P : Here → List Operator → Type 0) : Type 0 where
  pub kept : w'.here ≡ w.here
  pub grown : Grows w.table w'.table
  pub unnamed : named_in w'.table ≡ named_in w.table
  pub ordered : KeepsOrder w.table w'.table
  pub taken : takes w' ≡ takes w
  pub means : Lasts (length w.table) w'.table (P w.here)
  pub fine : c (takes w) ≡ None

abbrev pub Resolves : Around → Around → Tree → Term → Type 0
Resolves w w' t e = Reads w w' (λ g. complaint g t) (λ h all. Means h.names all h.scope t e)

-- the tree has this meaning
abbrev pub ResolvesRow : Around → Around → Tree → Meaning → Type 0
ResolvesRow w w' t m = Reads w w' (λ g. complaint g t) (λ h all. Means h.names all h.scope t (Placed (place_of t) (level_for w'.table m) m))

abbrev pub ResolvesEach : Around → Around → Trees → Terms → Type 0
ResolvesEach w w' ts es = Reads w w' (λ g. complaints g ts) (λ h all. MeansEach h.names all h.scope ts es)

abbrev pub ResolvesOperands : Around → Around → tree.Operands → term.Operands → Type 0
ResolvesOperands w w' ts es = Reads w w' (λ g. operands_complaint g ts) (λ h all. MeansOperands h.names all h.scope ts es)

abbrev pub ResolvesStep : Around → Around → tree.Step → term.Step → Type 0
ResolvesStep w w' t e = Reads w w' (λ g. step_complaint g t) (λ h all. MeansStep h.names all h.scope t e)

abbrev pub ResolvesSteps : Around → Around → tree.Steps → term.Steps → Type 0
ResolvesSteps w w' ts es = Reads w w' (λ g. steps_complaint g ts) (λ h all. MeansSteps h.names all h.scope ts es)

abbrev pub ResolvesBounds : Around → Around → tree.Bounds → term.Bounds → Type 0
ResolvesBounds w w' ts es = Reads w w' (λ g. bounds_complaint g ts) (λ h all. MeansBounds h.names all h.scope ts es)

abbrev pub ResolvesFields : Around → Around → tree.Fields → term.Fields → Type 0
ResolvesFields w w' ts es = Reads w w' (λ g. fields_complaint g ts) (λ h all. MeansFields h.names all h.scope ts es)

abbrev pub ResolvesChanges : Around → Around → tree.Changes → term.Changes → Type 0
ResolvesChanges w w' ts es = Reads w w' (λ g. changes_complaint g ts) (λ h all. MeansChanges h.names all h.scope ts es)

abbrev pub ResolvesArms : Around → Around → tree.Arms → term.Arms → Type 0
ResolvesArms w w' ts es = Reads w w' (λ g. arms_complaint g ts) (λ h all. MeansArms h.names all h.scope ts es)

-- a tree was read where the names of bounds are bound
abbrev pub ResolvesWithin : Around → Around → tree.Bounds → Tree → Term → Type 0
ResolvesWithin w w' bs t e =
    Reads w w' (λ g. complaint (with_bounds g bs) t) (λ h all. Means h.names all (bind_bounds h.scope bs) t e)

-- a tree was read where a name is bound
abbrev pub ResolvesUnder : Around → Around → List ℕ → Tree → Term → Type 0
ResolvesUnder w w' n t e =
    Reads w w' (λ g. complaint (with_name g n bound_name) t) (λ h all. Means h.names all (h.scope ++ Bound n ∷ []) t e)

-- what stands around, with only the first names bound, so many of them
abbrev pub cut : ℕ → Here → Here
cut depth h = record { names = h.names; scope = take depth h.scope }

-- a tree was read in its scope, which is then cut back
pub record ResolvesTo (w w' : Around) (depth : ℕ) (t : Tree) (e : Term) : Type 0 where
  pub kept : depth ≤ length w.here.scope → w'.here ≡ cut depth w.here
  pub grown : Grows w.table w'.table
  pub unnamed : named_in w'.table ≡ named_in w.table
  pub ordered : KeepsOrder w.table w'.table
  pub taken : depth ≤ length w.here.scope → takes w' ≡ takes (record { here = cut depth w.here; table = w.table })
  pub means : Lasts (length w.table) w'.table (λ all. Means w.here.names all w.here.scope t e)
  pub fine : complaint (takes w) t ≡ None

-- a tree was read under parameters
pub record ResolvesBody (w w' : Around) (ps : List (List ℕ)) (t : Tree) (e : Term) : Type 0 where
  pub kept : w'.here.names ≡ w.here.names
  pub grown : Grows w.table w'.table
  pub unnamed : named_in w'.table ≡ named_in w.table
  pub ordered : KeepsOrder w.table w'.table
  pub means : Lasts (length w.table) w'.table (λ all. Means w.here.names all (bind w.here.scope ps) t e)
  pub fine : complaint (with_names (takes w) ps) t ≡ None

-- a name without arguments that means this
pub record IsUse (w : Around) (n : List ℕ) (at : Place) (m : Meaning) : Type 0 where
  pub means : Uses w.here.names w.here.scope n term.NoTerms m
  pub level : Lasts (length w.table) w.table (λ all. level_for all m ≡ level_for w.table m)
  pub fine : counted n at 0 (takes w n) ≡ None

-- operands behind the first were read
abbrev pub ResolvesOthers : Around → Around → tree.Operands → term.Operands → term.Operands → Type 0
ResolvesOthers w w' trees before os =
    (begun : Around) → ResolvesOperands begun w (tree.First (first_of trees)) before → ResolvesOperands begun w' trees os

-- operands behind the first are refused
abbrev pub RefusesOthers : Around → tree.Operands → term.Operands → NameFault → Type 0
RefusesOthers w trees before f =
    (begun : Around) → ResolvesOperands begun w (tree.First (first_of trees)) before → Complains (operands_complaint (takes begun) trees) f

-- definitions of a LET, behind which more names are bound
pub record ResolvesDefinitions (w w' : Around) (ds : tree.Definitions) (ks : List ℕ) : Type 0 where
  pub kept : w'.here.names ≡ w.here.names
  pub grown : Grows w.table w'.table
  pub unnamed : named_in w'.table ≡ named_in w.table
  pub ordered : KeepsOrder w.table w'.table
  pub taken : takes w' ≡ with_definitions (takes w) ds
  pub means : Lasts (length w.table) w'.table (λ all. Defines w.here.names all w.here.scope ds ks w'.here.scope)
  pub fine : definitions_complaint (takes w) ds ≡ None
