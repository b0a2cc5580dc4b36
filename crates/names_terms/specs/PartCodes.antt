-- For the prover: how the parts of terms that are no terms are told apart.
use Rattle.std.specs.Prelude.{◌≡◌, ℕ, zero, suc, refl}
use Rattle.std.proofs.Common.{ap, ◌∙◌}
use Rattle.std.specs.Coded.{Coded, code_by}
use base.Stored.{Gv, gnum}
use denote.Struct.Codes.{itself}
use Rattle.values_core.specs.Data.{Val}
use Rattle.values_core.specs.Tree.{stored, from_stored, from_stored-stored, to_tree, from_tree, from_tree-to_tree}
use Rattle.names_terms.specs.declared.level.Level.{Level}
use Rattle.names_terms.specs.declared.level.Level.TheVariants as levels
use Rattle.names_terms.specs.declared.operator.Own.{Own}
use Rattle.names_terms.specs.declared.operator.Own.TheVariants as owns
use Rattle.names_terms.specs.declared.standard.NamedSet.{NamedSet}
use Rattle.names_terms.specs.declared.standard.NamedSet.TheVariants as sets
use Rattle.names_terms.specs.declared.standard.StandardOperator.{StandardOperator}
use Rattle.names_terms.specs.declared.standard.StandardOperator.TheVariants as operators

abbrev pub nat_gv : ℕ → Gv
nat_gv n = gnum n

abbrev pub gv_nat : Gv → ℕ
gv_nat (gnum n) = n
gv_nat _ = 0

pub nat_back : (n : ℕ) → gv_nat (nat_gv n) ≡ n
nat_back n = refl

abbrev pub val_gv : Val → Gv
val_gv v = stored (to_tree v)

abbrev pub gv_val : Gv → Val
gv_val g = from_tree (from_stored g)

pub val_back : (v : Val) → gv_val (val_gv v) ≡ v
val_back v = ap from_tree (from_stored-stored (to_tree v)) ∙ from_tree-to_tree v

abbrev pub level_gv : Level → Gv
level_gv levels.Constant = gnum 0
level_gv levels.State = gnum 1
level_gv levels.Action = gnum 2
level_gv levels.Temporal = gnum 3

abbrev pub gv_level : Gv → Level
gv_level (gnum zero) = levels.Constant
gv_level (gnum (suc zero)) = levels.State
gv_level (gnum (suc (suc zero))) = levels.Action
gv_level (gnum (suc (suc (suc zero)))) = levels.Temporal
gv_level _ = levels.Constant

pub level_back : (x : Level) → gv_level (level_gv x) ≡ x
level_back levels.Constant = refl
level_back levels.State = refl
level_back levels.Action = refl
level_back levels.Temporal = refl

abbrev pub level_code : Coded Level
level_code = code_by Gv itself level_gv gv_level level_back

abbrev pub own_gv : Own → Gv
own_gv owns.Apart = gnum 0
own_gv owns.Itself = gnum 1
own_gv owns.Function = gnum 2

abbrev pub gv_own : Gv → Own
gv_own (gnum zero) = owns.Apart
gv_own (gnum (suc zero)) = owns.Itself
gv_own (gnum (suc (suc zero))) = owns.Function
gv_own _ = owns.Apart

pub own_back : (o : Own) → gv_own (own_gv o) ≡ o
own_back owns.Apart = refl
own_back owns.Itself = refl
own_back owns.Function = refl

abbrev pub own_code : Coded Own
own_code = code_by Gv itself own_gv gv_own own_back

abbrev pub named_gv : NamedSet → Gv
named_gv sets.Nat = gnum 0
named_gv sets.Int = gnum 1
named_gv sets.Strings = gnum 2
named_gv sets.Booleans = gnum 3

abbrev pub gv_named : Gv → NamedSet
gv_named (gnum zero) = sets.Nat
gv_named (gnum (suc zero)) = sets.Int
gv_named (gnum (suc (suc zero))) = sets.Strings
gv_named (gnum (suc (suc (suc zero)))) = sets.Booleans
gv_named _ = sets.Nat

pub named_back : (x : NamedSet) → gv_named (named_gv x) ≡ x
named_back sets.Nat = refl
named_back sets.Int = refl
named_back sets.Strings = refl
named_back sets.Booleans = refl

abbrev pub standard_gv : StandardOperator → Gv
standard_gv operators.Seq = gnum 0
standard_gv operators.Len = gnum 1
standard_gv operators.Head = gnum 2
standard_gv operators.Tail = gnum 3
standard_gv operators.Append = gnum 4
standard_gv operators.SubSeq = gnum 5
standard_gv operators.IsFiniteSet = gnum 6
standard_gv operators.Cardinality = gnum 7

abbrev pub gv_standard : Gv → StandardOperator
gv_standard (gnum zero) = operators.Seq
gv_standard (gnum (suc zero)) = operators.Len
gv_standard (gnum (suc (suc zero))) = operators.Head
gv_standard (gnum (suc (suc (suc zero)))) = operators.Tail
gv_standard (gnum (suc (suc (suc (suc zero))))) = operators.Append
gv_standard (gnum (suc (suc (suc (suc (suc zero)))))) = operators.SubSeq
gv_standard (gnum (suc (suc (suc (suc (suc (suc zero))))))) = operators.IsFiniteSet
gv_standard (gnum (suc (suc (suc (suc (suc (suc (suc zero)))))))) = operators.Cardinality
gv_standard _ = operators.Seq

pub standard_back : (x : StandardOperator) → gv_standard (standard_gv x) ≡ x
standard_back operators.Seq = refl
standard_back operators.Len = refl
standard_back operators.Head = refl
standard_back operators.Tail = refl
standard_back operators.Append = refl
standard_back operators.SubSeq = refl
standard_back operators.IsFiniteSet = refl
standard_back operators.Cardinality = refl
