-- Terms of which all that they read and all that is written in them are values.
use Rattle.std.specs.Prelude.{◌≡◌, ℕ, List, Contains, Some, IsUtf8, slice_get}
use Rattle.names_terms.specs.declared.operator.Operator.{Operator}
use Rattle.names_terms.specs.Lists.{fields_list}
use Rattle.names_terms.specs.Terms as term
use Rattle.names_terms.specs.Terms.{Term, Meaning, Fields}
use Rattle.eval_meanings.specs.Contexts.{Context, Table}
use Rattle.eval_meanings.specs.Everywhere.{Everywhere}
use Rattle.eval_meanings.specs.Laws.{ReadsValues}

-- the names of fields are UTF-8
abbrev pub AreTexts : Fields → Type 0
AreTexts fs = (f : List ℕ × Term) → Contains (fields_list fs) f → IsUtf8 f.0

-- a record has texts as the names of its fields, so that each of them, as a string, is a value
abbrev pub NamesByTexts : Meaning → Type 0
NamesByTexts (term.Record fs) = AreTexts fs
NamesByTexts m = Unit {0}

-- Beside what a term reads, the keys of the records that it makes are values.
pub record IsOfValues (ops : Table) (c : Context) (e : Term) : Type 0 where
  pub reads : ReadsValues ops c e
  pub names : Everywhere NamesByTexts e
  pub definitions : (k : ℕ) (o : Operator) → slice_get ops k ≡ Some o → Everywhere NamesByTexts o.body
