-- What the names of a tree decide: laws of the first name that means nothing, and of what a tree means.
use Rattle.std.specs.Prelude.{◌≡◌, ◌↔◌, ℕ, true, List, Option, Some, None}
use Rattle.reading_trees.specs.Trees.{Tree}
use Rattle.names_terms.specs.declared.operator.Operator.{Operator}
use Rattle.names_terms.specs.Terms.{Term}
use Rattle.names_scopes.specs.declared.scope.Local.{Local}
use Rattle.names_scopes.specs.declared.meant.Entry.{Entry}
use Rattle.names_scopes.specs.declared.meant.Named.{Named}
use Rattle.names_scopes.specs.Mentions.{mentions}
use Rattle.names_scopes.specs.Scopes.{among, meaning_in, slots}
use Rattle.names_meanings.specs.Complaints.{Taken, Takes, complaint}
use Rattle.names_meanings.specs.Means.{Means}
use Rattle.names_meanings.specs.Outcomes.{takes_in}

-- each name that means something goes on to, with as many arguments and the same level
abbrev pub Keeps : Takes → Takes → Type 0
Keeps g g' = (n : List ℕ) (k : Taken) → g n ≡ Some k → g' n ≡ Some k

-- the name means something
abbrev pub IsKnown : Option Taken → Type 0
IsKnown o = (k : Taken) × (o ≡ Some k)

-- each name of the one list means the same in the other
abbrev pub HasMore : List Entry → List Entry → Type 0
HasMore names names' = (n : List ℕ) (w : Named) → among names n ≡ Some w → among names' n ≡ Some w

-- where names mean nothing wrong, they do not where more names mean something
abbrev pub FineStaysFine : Type 0
FineStaysFine = (g g' : Takes) → Keeps g g' → (t : Tree) → complaint g t ≡ None → complaint g' t ≡ None

-- each name that is mentioned where nothing is wrong means something
abbrev pub FineNamesAreKnown : Type 0
FineNamesAreKnown = (g : Takes) (t : Tree) → complaint g t ≡ None → (n : List ℕ) → mentions n t ≡ true → IsKnown (g n)

-- what is wrong with names depends on the names that are mentioned alone
abbrev pub MentionedNamesDecide : Type 0
MentionedNamesDecide = (g g' : Takes) (t : Tree) → ((n : List ℕ) → mentions n t ≡ true → g n ≡ g' n) → complaint g t ≡ complaint g' t

-- what a tree means it goes on to mean where more names mean something
abbrev pub MeaningsStay : Type 0
MeaningsStay =
    (names names' : List Entry) → HasMore names names' → (ops : List Operator) (scope : List Local) (t : Tree) (e : Term) → Means names ops scope t e → Means names' ops scope t e

-- Two programs, each with names that are bound around, agree on the names that are free in the tree: each means the same at both places. As many
-- slots are taken around.
pub record Agree (t : Tree) (names names' : List Entry) (scope scope' : List Local) : Type 0 where
  pub taken : slots scope ≡ slots scope'
  pub free : (n : List ℕ) → mentions n t ≡ true → meaning_in names scope n ≡ meaning_in names' scope' n

-- what a tree means depends on what the names mean that are free in it, where nothing is wrong with its names
abbrev pub MeansByNames : Type 0
MeansByNames =
    (names names' : List Entry) (scope scope' : List Local) (ops : List Operator) (t : Tree) (e : Term) → Agree t names names' scope scope' → complaint (takes_in ops names scope) t ≡ None → (Means names ops scope t e ↔ Means names' ops scope' t e)
