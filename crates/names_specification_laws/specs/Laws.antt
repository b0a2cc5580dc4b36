-- What trees mean is in order.
use Rattle.std.specs.Prelude.{◌≡◌, ◌+◌, ℕ, List, [], length, Some, None, option_map, slice_get}
use Rattle.reading_trees.specs.Trees.{Tree}
use Rattle.names_terms.specs.declared.operator.Operator.{Operator}
use Rattle.names_terms.specs.declared.spec.Spec.{Spec}
use Rattle.names_terms.specs.Terms.{Term, level_of}
use Rattle.names_term_parts.specs.Slots.{Mentions}
use Rattle.names_scopes.specs.declared.meant.Entry.{Entry}
use Rattle.names_scopes.specs.declared.scope.Local.{Local}
use Rattle.names_scopes.specs.Scopes.{among, bind, slots}
use Rattle.names_meanings.specs.Complaints.{Takes, complaint, with_names}
use Rattle.names_meanings.specs.Means.{Means}
use Rattle.names_meanings.specs.Outcomes.{taken_by}
use Rattle.names_specification_laws.specs.Everywhere.{Everywhere}
use Rattle.names_specification_laws.specs.Formed.{IsFormed}
use Rattle.names_specification_laws.specs.IsSpec.{IsRow, IsNeeded, IsReached}
use Rattle.names_specification_laws.specs.Meanings.{NameMeanings, HasTerm, NamesFit, ScopeFits, HasMeaning, NamesHaveMeaning, ScopeHasMeaning}

-- what a tree means is in order, row by row
abbrev pub MeaningsAreInOrder : Type 0
MeaningsAreInOrder =
    (known : NameMeanings) (variables : ℕ) (ops : List Operator) (scope : List Local) (t : Tree) (e : Term) → NamesFit known variables ops → ScopeFits ops scope → HasTerm known ops scope t e → Everywhere (IsRow variables ops) (slots scope) e

-- each definition that it mentions has a meaning
abbrev pub MentionedHaveMeaning : Type 0
MentionedHaveMeaning =
    (known : NameMeanings) (ops : List Operator) (scope : List Local) (t : Tree) (e : Term) → NamesHaveMeaning known ops → ScopeFits ops scope → ScopeHasMeaning known ops scope → HasTerm known ops scope t e → (k : ℕ) → Mentions e k → HasMeaning known ops k

-- a body of the table in order, under the level that its definition has
abbrev pub IsOrderly : ℕ → List Operator → Operator → Type 0
IsOrderly variables ops o = Everywhere (IsRow variables ops) (o.outer + o.params) o.body × (o.level ≡ level_of o.body)

-- What a tree of a program means under parameters, where of names the same is known as in the program, and nothing is wrong with them.
abbrev pub TreesHaveTerms : Type 0
TreesHaveTerms =
    (known : NameMeanings) (ops : List Operator) (names : List Entry) (takes : Takes) (params : List (List ℕ)) (t : Tree) (e : Term) → ((n : List ℕ) → among names n ≡ known n) → ((n : List ℕ) → option_map (taken_by ops) (known n) ≡ takes n) → IsFormed t → complaint (with_names takes params) t ≡ None → Means names ops (bind [] params) t e → HasTerm known ops (bind [] params) t e

-- a definition of a program, under its parameters
abbrev pub DefinitionsHaveMeaning : Type 0
DefinitionsHaveMeaning =
    (known : NameMeanings) (ops : List Operator) (k : ℕ) (o : Operator) (params : List (List ℕ)) (t : Tree) → slice_get ops k ≡ Some o → o.outer ≡ 0 → o.params ≡ length params → o.level ≡ level_of o.body → HasTerm known ops (bind [] params) t o.body → HasMeaning known ops k

-- what the body of a definition with a meaning mentions has a meaning
abbrev pub BodiesMentionMeant : Type 0
BodiesMentionMeant =
    (known : NameMeanings) (ops : List Operator) (k : ℕ) (o : Operator) (j : ℕ) → NamesHaveMeaning known ops → HasMeaning known ops k → slice_get ops k ≡ Some o → Mentions o.body j → HasMeaning known ops j

-- each definition that has a meaning is in order
abbrev pub MeantAreInOrder : Type 0
MeantAreInOrder =
    (known : NameMeanings) (variables : ℕ) (ops : List Operator) (k : ℕ) (o : Operator) → NamesFit known variables ops → HasMeaning known ops k → slice_get ops k ≡ Some o → IsOrderly variables ops o

-- where what is needed has a meaning, each definition that is reached is in order
abbrev pub ReachedAreInOrder : Type 0
ReachedAreInOrder =
    (s : Spec) (known : NameMeanings) → NamesFit known (length s.variables) s.operators → NamesHaveMeaning known s.operators → ((k : ℕ) → IsNeeded s k → HasMeaning known s.operators k) → (k : ℕ) (o : Operator) → IsReached s k → slice_get s.operators k ≡ Some o → IsOrderly (length s.variables) s.operators o
