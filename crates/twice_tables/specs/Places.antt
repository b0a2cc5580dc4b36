-- What names mean over two tables: alike where they differ by the numbers of definitions alone, and the definitions are in a relation that is told from outside.
use Rattle.std.specs.Prelude.{◌≡◌, ℕ, List, [], ◌∷◌, Some, None, slice_get}
use Rattle.values_core.specs.Data.{Val}
use Rattle.reading_trees.specs.declared.config.Config.{Config}
use Rattle.reading_trees.specs.declared.module.Program.{Program}
use Rattle.states_core.specs.declared.var_id.VarId.{VarId}
use Rattle.names_terms.specs.declared.ids.DefId.{DefId}
use Rattle.names_terms.specs.declared.operator.Operator.{Operator}
use Rattle.names_terms.specs.declared.operator.Own.TheVariants.{Apart}
use Rattle.names_terms.specs.declared.standard.NamedSet.{NamedSet}
use Rattle.names_terms.specs.declared.standard.StandardOperator.{StandardOperator}
use Rattle.names_terms.specs.Terms.{Term}
use Rattle.names_term_parts.specs.Slots.{Mentions}
use Rattle.names_scopes.specs.declared.meant.Entry.{Entry}
use Rattle.names_scopes.specs.declared.meant.Meant.{Meant}
use Rattle.names_scopes.specs.declared.meant.Meant.TheVariants as meant
use Rattle.names_scopes.specs.declared.meant.Named.{Named}
use Rattle.names_scopes.specs.declared.scope.Local.{Local}
use Rattle.names_scopes.specs.declared.scope.Local.TheVariants.{Bound, Defined}
use Rattle.names_scopes.specs.Scopes.{among}
use Rattle.names_program.specs.Names.{constant_index, replacement, value_at}
use Rattle.twice_terms.specs.Alike.{AlikeRows}

pub data AlikeMeant (Same : Val → Val → Type 0) (Row : ℕ → ℕ → Type 0) : Meant → Meant → Type 0 where
  slot_meant : (i : ℕ) → AlikeMeant Same Row (meant.Slot i) (meant.Slot i)
  variable_meant : (x : VarId) → AlikeMeant Same Row (meant.Variable x) (meant.Variable x)
  known_meant : (v w : Val) → Same v w → AlikeMeant Same Row (meant.Known v) (meant.Known w)
  set_meant : (s : NamedSet) → AlikeMeant Same Row (meant.Set s) (meant.Set s)
  standard_meant : (o : StandardOperator) → AlikeMeant Same Row (meant.Standard o) (meant.Standard o)
  definition_meant : (k j : DefId) → Row k.0 j.0 → AlikeMeant Same Row (meant.Definition k) (meant.Definition j)

-- the names that are bound around two places, one by one
pub data AlikeLocals (Row : ℕ → ℕ → Type 0) : List Local → List Local → Type 0 where
  no_locals_alike : AlikeLocals Row [] []
  bound_alike : (n : List ℕ) (sc tc : List Local) → AlikeLocals Row sc tc → AlikeLocals Row (Bound n ∷ sc) (Bound n ∷ tc)
  defined_alike : (n : List ℕ) (k j : DefId) (p : ℕ) (sc tc : List Local) → Row k.0 j.0 → AlikeLocals Row sc tc
      → AlikeLocals Row (Defined n k p ∷ sc) (Defined n j p ∷ tc)

-- a name that means something in both programs means what is alike
abbrev pub AreAlikeNames : (Val → Val → Type 0) → (ℕ → ℕ → Type 0) → List Entry → List Entry → Type 0
AreAlikeNames Same Row names others =
    (n : List ℕ) (v w : Named) → among names n ≡ Some v → among others n ≡ Some w → AlikeMeant Same Row v.meant w.meant

-- such rows of the first table are alike to those of the other
abbrev pub AlikeWhere : (Val → Val → Type 0) → List Operator → List Operator → (ℕ → Type 0) → ℕ → ℕ → Type 0
AlikeWhere Same ops all Q k j = Q k → AlikeRows Same ops all k j

-- each definition that the term mentions is such
abbrev pub AreMentioned : (ℕ → Type 0) → Term → Type 0
AreMentioned Q e = (k : ℕ) → Mentions e k → Q k

-- the bodies of such definitions mention such alone, but for those that use themselves
abbrev pub BodiesStay : List Operator → (ℕ → Type 0) → Type 0
BodiesStay ops Q = (k : ℕ) (o : Operator) → slice_get ops k ≡ Some o → o.own ≡ Apart → Q k → AreMentioned Q o.body

-- The values of a constant are the same in both lists, where no definition stands in its place.
abbrev pub ValuesAre : (Val → Val → Type 0) → Program → Config → List Val → List Val → Type 0
ValuesAre Same p c values others =
    (n : List ℕ) (i : ℕ) → constant_index p n ≡ Some i → replacement p c n 0 ≡ None → Same (value_at values i) (value_at others i)
