-- Definitions with nothing wrong in their levels.
use Rattle.std.specs.Prelude.{◌≡◌, ◌≢◌, ℕ, List, [], Contains, Some, slice_get}
use Rattle.reading_trees.specs.Trees.{Tree}
use Rattle.names_terms.specs.declared.ids.DefId.{DefId}
use Rattle.names_terms.specs.declared.operator.Operator.{Operator}
use Rattle.names_terms.specs.declared.spec.Spec.{Spec}
use Rattle.names_terms.specs.Terms.{Term}
use Rattle.names_term_parts.specs.declared.fault.LevelFault.{LevelFault}
use Rattle.names_term_parts.specs.Slots.{Mentions}
use Rattle.names_term_levels.specs.Faults.{IsFault}
use Rattle.names_scopes.specs.declared.meant.Entry.{Entry}
use Rattle.names_scopes.specs.declared.meant.Meant.TheVariants as meant
use Rattle.names_scopes.specs.declared.meant.Named.{Named}
use Rattle.names_scopes.specs.declared.scope.Local.{Local}
use Rattle.names_scopes.specs.declared.scope.Local.TheVariants.{Defined}
use Rattle.names_scopes.specs.Scopes.{among, bind}
use Rattle.names_meanings.specs.Means.{Means}
use Rattle.names_specification_laws.specs.IsSpec.{IsNeeded, IsReached}
use Rattle.names_specification_laws.specs.Meanings.{NameMeanings}

-- nothing is wrong with the levels in the term
abbrev pub HasNoFault : List Operator → Term → Type 0
HasNoFault ops e = (f : LevelFault) → IsFault ops e f → ⊥

-- Nothing is wrong with the definition, whose body is what some tree means, nor with any other that is bound around it.
pub data IsFaultless (known : NameMeanings) (ops : List Operator) : ℕ → Type 0 where
  faultless : (k : ℕ) (o : Operator) (scope : List Local) (t : Tree) (names : List Entry) → slice_get ops k ≡ Some o → HasNoFault ops o.body
      → ((n : List ℕ) (d : DefId) (p : ℕ) → Contains scope (Defined n d p) → d.0 ≢ k → IsFaultless known ops d.0)
      → ((n : List ℕ) → among names n ≡ known n) → Means names ops scope t o.body → IsFaultless known ops k

-- nothing is wrong with the definitions that names of a program mean
abbrev pub NamesAreFaultless : NameMeanings → List Operator → Type 0
NamesAreFaultless known ops = (n : List ℕ) (w : Named) (d : DefId) → known n ≡ Some w → w.meant ≡ meant.Definition d → IsFaultless known ops d.0

-- nor with those that are bound around a place
abbrev pub ScopeIsFaultless : NameMeanings → List Operator → List Local → Type 0
ScopeIsFaultless known ops scope = (n : List ℕ) (d : DefId) (p : ℕ) → Contains scope (Defined n d p) → IsFaultless known ops d.0

-- a definition of a program, with which nothing is wrong
abbrev pub DefinitionsAreFaultless : Type 0
DefinitionsAreFaultless =
    (known : NameMeanings) (ops : List Operator) (k : ℕ) (o : Operator) (params : List (List ℕ)) (t : Tree) (names : List Entry) → slice_get ops k ≡ Some o → HasNoFault ops o.body → ((n : List ℕ) → among names n ≡ known n) → Means names ops (bind [] params) t o.body → IsFaultless known ops k

-- where nothing is wrong with what a tree means, nothing is with what that mentions
abbrev pub MentionedAreFaultless : Type 0
MentionedAreFaultless =
    (known : NameMeanings) (ops : List Operator) (scope : List Local) (t : Tree) (e : Term) (names : List Entry) → NamesAreFaultless known ops → ScopeIsFaultless known ops scope → ((n : List ℕ) → among names n ≡ known n) → Means names ops scope t e → HasNoFault ops e → (k : ℕ) → Mentions e k → IsFaultless known ops k

-- what the body of one mentions is one
abbrev pub BodiesAreFaultless : Type 0
BodiesAreFaultless =
    (known : NameMeanings) (ops : List Operator) (k : ℕ) (o : Operator) (j : ℕ) → NamesAreFaultless known ops → IsFaultless known ops k → slice_get ops k ≡ Some o → Mentions o.body j → IsFaultless known ops j

-- where nothing is wrong with what is needed, nothing is with what is reached
abbrev pub ReachedAreFaultless : Type 0
ReachedAreFaultless =
    (s : Spec) (known : NameMeanings) → NamesAreFaultless known s.operators → ((k : ℕ) → IsNeeded s k → IsFaultless known s.operators k) → (k : ℕ) (o : Operator) → IsReached s k → slice_get s.operators k ≡ Some o → HasNoFault s.operators o.body
