-- Terms that differ by the numbers of definitions alone, each over its table, where each value that is known is one; and what stands beside such terms.
use Rattle.std.specs.Prelude.{◌≡◌, ℕ, List}
use Rattle.std.specs.List.{AllZip}
use Rattle.base_core.specs.declared.place.Place.{Place}
use Rattle.names_terms.specs.Terms.{Term, Step, Steps}
use Rattle.names_term_parts.specs.Slots.{UsesSmaller}
use Rattle.twice_terms.specs.Alike.{Alike, AlikeStep, AlikeSteps}
use Rattle.twice_terms.specs.Laws.{AreOne}
use Rattle.eval_meanings.specs.Contexts.{Table}

-- each definition uses those of smaller numbers alone
abbrev pub AreOrdered : Table → Type 0
AreOrdered ops = UsesSmaller ops

abbrev pub AreAlikeTerms : Table → Table → Term → Term → Type 0
AreAlikeTerms ops all e f = Alike AreOne ops all e f

-- one by one
abbrev pub AreAlikeLists : Table → Table → List Term → List Term → Type 0
AreAlikeLists ops all es fs = AllZip (AreAlikeTerms ops all) es fs

-- alike terms, and beside them the same
abbrev pub AreAlikeBeside : {A : Type 0} → Table → Table → A × Term → A × Term → Type 0
AreAlikeBeside ops all x y = (x.0 ≡ y.0) × AreAlikeTerms ops all x.1 y.1

-- two arms of CASE
abbrev pub AreAlikeArms : Table → Table → Term × Term → Term × Term → Type 0
AreAlikeArms ops all x y = AreAlikeTerms ops all x.0 y.0 × AreAlikeTerms ops all x.1 y.1

-- two changes of EXCEPT
abbrev pub AreAlikeChanges : Table → Table → Steps × Term → Steps × Term → Type 0
AreAlikeChanges ops all x y = AlikeSteps AreOne ops all x.0 y.0 × AreAlikeTerms ops all x.1 y.1

-- two steps behind a primary, at one place
abbrev pub AreAlikeSteps : Table → Table → Place × Step → Place × Step → Type 0
AreAlikeSteps ops all x y = (x.0 ≡ y.0) × AlikeStep AreOne ops all x.1 y.1

-- What stands behind two names: so many slots are in scope there, and the terms are alike.
pub record AreFoundAlike (ops all : Table) (found other : ℕ × Term) : Type 0 where
  pub slots : found.0 ≡ other.0
  pub terms : AreAlikeTerms ops all found.1 other.1
