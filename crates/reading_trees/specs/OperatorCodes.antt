-- How operators, places and names are told apart by a proof: each as data of numbers.
use Rattle.std.specs.Prelude.{◌≡◌, ℕ, zero, suc, ℤ, pos, negsuc, Bool, true, false, List, [], ◌∷◌, refl}
use Rattle.std.proofs.Common.{ap}
use base.Stored.{Gv, gnil, gnum, gcons}
use Rattle.base_core.specs.declared.place.Place.{Place}
use Rattle.reading_trees.specs.declared.form.DefinitionForm.{DefinitionForm}
use Rattle.reading_trees.specs.declared.form.DefinitionForm.TheVariants as forms
use Rattle.reading_trees.specs.declared.laid.Bullet.{Bullet}
use Rattle.reading_trees.specs.declared.laid.Bullet.TheVariants as bullets
use Rattle.reading_trees.specs.declared.operators.PrefixOperator.{PrefixOperator}
use Rattle.reading_trees.specs.declared.operators.PrefixOperator.TheVariants as prefixes
use Rattle.reading_trees.specs.declared.operators.InfixOperator.{InfixOperator}
use Rattle.reading_trees.specs.declared.operators.InfixOperator.TheVariants as infixes
use Rattle.reading_trees.specs.declared.operators.Quantifier.{Quantifier}
use Rattle.reading_trees.specs.declared.operators.Quantifier.TheVariants as quantifiers
use Rattle.reading_trees.specs.declared.operators.BuiltinSet.{BuiltinSet}
use Rattle.reading_trees.specs.declared.operators.BuiltinSet.TheVariants as builtins

abbrev pub place_gv : Place → Gv
place_gv p = gcons (gnum p.file) (gcons (gnum p.line) (gnum p.col))

abbrev pub gv_place : Gv → Place
gv_place (gcons (gnum f) (gcons (gnum l) (gnum c))) = record { file = f; line = l; col = c }
gv_place _ = record { file = 0; line = 0; col = 0 }

pub place_back : (p : Place) → gv_place (place_gv p) ≡ p
place_back p = refl

abbrev pub int_gv : ℤ → Gv
int_gv (pos n) = gcons (gnum 0) (gnum n)
int_gv (negsuc n) = gcons (gnum 1) (gnum n)

abbrev pub gv_int : Gv → ℤ
gv_int (gcons (gnum zero) (gnum n)) = pos n
gv_int (gcons (gnum (suc k)) (gnum n)) = negsuc n
gv_int _ = pos 0

pub int_back : (z : ℤ) → gv_int (int_gv z) ≡ z
int_back (pos n) = refl
int_back (negsuc n) = refl

abbrev pub bool_gv : Bool → Gv
bool_gv true = gnum 1
bool_gv false = gnum 0

abbrev pub gv_bool : Gv → Bool
gv_bool (gnum (suc k)) = true
gv_bool _ = false

pub bool_back : (b : Bool) → gv_bool (bool_gv b) ≡ b
bool_back true = refl
bool_back false = refl

abbrev pub bytes_gv : List ℕ → Gv
bytes_gv [] = gnil
bytes_gv (b ∷ bs) = gcons (gnum b) (bytes_gv bs)

abbrev pub gv_bytes : Gv → List ℕ
gv_bytes (gcons (gnum b) g) = b ∷ gv_bytes g
gv_bytes _ = []

pub bytes_back : (s : List ℕ) → gv_bytes (bytes_gv s) ≡ s
bytes_back [] = refl
bytes_back (b ∷ bs) = ap (λ t. b ∷ t) (bytes_back bs)

abbrev pub names_gv : List (List ℕ) → Gv
names_gv [] = gnil
names_gv (n ∷ ns) = gcons (bytes_gv n) (names_gv ns)

abbrev pub gv_names : Gv → List (List ℕ)
gv_names (gcons a b) = gv_bytes a ∷ gv_names b
gv_names _ = []

pub names_back : (ns : List (List ℕ)) → gv_names (names_gv ns) ≡ ns
names_back [] = refl
names_back (n ∷ ns) = λ i. bytes_back n i ∷ names_back ns i

abbrev pub prefix_gv : PrefixOperator → Gv
prefix_gv prefixes.Not = gnum 0
prefix_gv prefixes.Unchanged = gnum 1
prefix_gv prefixes.Enabled = gnum 2
prefix_gv prefixes.Always = gnum 3
prefix_gv prefixes.Eventually = gnum 4
prefix_gv prefixes.Powerset = gnum 5
prefix_gv prefixes.BigUnion = gnum 6
prefix_gv prefixes.Domain = gnum 7
prefix_gv prefixes.Negate = gnum 8

abbrev pub gv_prefix : Gv → PrefixOperator
gv_prefix (gnum zero) = prefixes.Not
gv_prefix (gnum (suc zero)) = prefixes.Unchanged
gv_prefix (gnum (suc (suc zero))) = prefixes.Enabled
gv_prefix (gnum (suc (suc (suc zero)))) = prefixes.Always
gv_prefix (gnum (suc (suc (suc (suc zero))))) = prefixes.Eventually
gv_prefix (gnum (suc (suc (suc (suc (suc zero)))))) = prefixes.Powerset
gv_prefix (gnum (suc (suc (suc (suc (suc (suc zero))))))) = prefixes.BigUnion
gv_prefix (gnum (suc (suc (suc (suc (suc (suc (suc zero)))))))) = prefixes.Domain
gv_prefix _ = prefixes.Negate

pub prefix_back : (x : PrefixOperator) → gv_prefix (prefix_gv x) ≡ x
prefix_back prefixes.Not = refl
prefix_back prefixes.Unchanged = refl
prefix_back prefixes.Enabled = refl
prefix_back prefixes.Always = refl
prefix_back prefixes.Eventually = refl
prefix_back prefixes.Powerset = refl
prefix_back prefixes.BigUnion = refl
prefix_back prefixes.Domain = refl
prefix_back prefixes.Negate = refl

abbrev pub infix_gv : InfixOperator → Gv
infix_gv infixes.Implies = gnum 0
infix_gv infixes.Equivalent = gnum 1
infix_gv infixes.LeadsTo = gnum 2
infix_gv infixes.And = gnum 3
infix_gv infixes.Or = gnum 4
infix_gv infixes.Equal = gnum 5
infix_gv infixes.NotEqual = gnum 6
infix_gv infixes.Less = gnum 7
infix_gv infixes.Greater = gnum 8
infix_gv infixes.LessOrEqual = gnum 9
infix_gv infixes.GreaterOrEqual = gnum 10
infix_gv infixes.Member = gnum 11
infix_gv infixes.NotMember = gnum 12
infix_gv infixes.SubsetOrEqual = gnum 13
infix_gv infixes.MergedFunctions = gnum 14
infix_gv infixes.SingleFunction = gnum 15
infix_gv infixes.Union = gnum 16
infix_gv infixes.Intersection = gnum 17
infix_gv infixes.Difference = gnum 18
infix_gv infixes.Interval = gnum 19
infix_gv infixes.Plus = gnum 20
infix_gv infixes.Remainder = gnum 21
infix_gv infixes.Minus = gnum 22
infix_gv infixes.CartesianProduct = gnum 23
infix_gv infixes.Times = gnum 24
infix_gv infixes.Concatenation = gnum 25
infix_gv infixes.Quotient = gnum 26
infix_gv infixes.Power = gnum 27

abbrev pub gv_infix : Gv → InfixOperator
gv_infix (gnum zero) = infixes.Implies
gv_infix (gnum (suc zero)) = infixes.Equivalent
gv_infix (gnum (suc (suc zero))) = infixes.LeadsTo
gv_infix (gnum (suc (suc (suc zero)))) = infixes.And
gv_infix (gnum (suc (suc (suc (suc zero))))) = infixes.Or
gv_infix (gnum (suc (suc (suc (suc (suc zero)))))) = infixes.Equal
gv_infix (gnum (suc (suc (suc (suc (suc (suc zero))))))) = infixes.NotEqual
gv_infix (gnum (suc (suc (suc (suc (suc (suc (suc zero)))))))) = infixes.Less
gv_infix (gnum (suc (suc (suc (suc (suc (suc (suc (suc zero))))))))) = infixes.Greater
gv_infix (gnum (suc (suc (suc (suc (suc (suc (suc (suc (suc zero)))))))))) = infixes.LessOrEqual
gv_infix (gnum (suc (suc (suc (suc (suc (suc (suc (suc (suc (suc zero))))))))))) = infixes.GreaterOrEqual
gv_infix (gnum (suc (suc (suc (suc (suc (suc (suc (suc (suc (suc (suc zero)))))))))))) = infixes.Member
gv_infix (gnum (suc (suc (suc (suc (suc (suc (suc (suc (suc (suc (suc (suc zero))))))))))))) = infixes.NotMember
gv_infix (gnum (suc (suc (suc (suc (suc (suc (suc (suc (suc (suc (suc (suc (suc zero)))))))))))))) = infixes.SubsetOrEqual
gv_infix (gnum (suc (suc (suc (suc (suc (suc (suc (suc (suc (suc (suc (suc (suc (suc zero))))))))))))))) = infixes.MergedFunctions
gv_infix (gnum (suc (suc (suc (suc (suc (suc (suc (suc (suc (suc (suc (suc (suc (suc (suc zero)))))))))))))))) = infixes.SingleFunction
gv_infix (gnum (suc (suc (suc (suc (suc (suc (suc (suc (suc (suc (suc (suc (suc (suc (suc (suc zero))))))))))))))))) = infixes.Union
gv_infix (gnum (suc (suc (suc (suc (suc (suc (suc (suc (suc (suc (suc (suc (suc (suc (suc (suc (suc zero)))))))))))))))))) = infixes.Intersection
gv_infix (gnum (suc (suc (suc (suc (suc (suc (suc (suc (suc (suc (suc (suc (suc (suc (suc (suc (suc (suc zero))))))))))))))))))) = infixes.Difference
gv_infix (gnum (suc (suc (suc (suc (suc (suc (suc (suc (suc (suc (suc (suc (suc (suc (suc (suc (suc (suc (suc zero)))))))))))))))))))) = infixes.Interval
gv_infix (gnum (suc (suc (suc (suc (suc (suc (suc (suc (suc (suc (suc (suc (suc (suc (suc (suc (suc (suc (suc (suc zero))))))))))))))))))))) = infixes.Plus
gv_infix (gnum (suc (suc (suc (suc (suc (suc (suc (suc (suc (suc (suc (suc (suc (suc (suc (suc (suc (suc (suc (suc (suc zero)))))))))))))))))))))) = infixes.Remainder
gv_infix (gnum (suc (suc (suc (suc (suc (suc (suc (suc (suc (suc (suc (suc (suc (suc (suc (suc (suc (suc (suc (suc (suc (suc zero))))))))))))))))))))))) = infixes.Minus
gv_infix (gnum (suc (suc (suc (suc (suc (suc (suc (suc (suc (suc (suc (suc (suc (suc (suc (suc (suc (suc (suc (suc (suc (suc (suc zero)))))))))))))))))))))))) = infixes.CartesianProduct
gv_infix (gnum (suc (suc (suc (suc (suc (suc (suc (suc (suc (suc (suc (suc (suc (suc (suc (suc (suc (suc (suc (suc (suc (suc (suc (suc zero))))))))))))))))))))))))) = infixes.Times
gv_infix (gnum (suc (suc (suc (suc (suc (suc (suc (suc (suc (suc (suc (suc (suc (suc (suc (suc (suc (suc (suc (suc (suc (suc (suc (suc (suc zero)))))))))))))))))))))))))) = infixes.Concatenation
gv_infix (gnum (suc (suc (suc (suc (suc (suc (suc (suc (suc (suc (suc (suc (suc (suc (suc (suc (suc (suc (suc (suc (suc (suc (suc (suc (suc (suc zero))))))))))))))))))))))))))) = infixes.Quotient
gv_infix _ = infixes.Power

pub infix_back : (x : InfixOperator) → gv_infix (infix_gv x) ≡ x
infix_back infixes.Implies = refl
infix_back infixes.Equivalent = refl
infix_back infixes.LeadsTo = refl
infix_back infixes.And = refl
infix_back infixes.Or = refl
infix_back infixes.Equal = refl
infix_back infixes.NotEqual = refl
infix_back infixes.Less = refl
infix_back infixes.Greater = refl
infix_back infixes.LessOrEqual = refl
infix_back infixes.GreaterOrEqual = refl
infix_back infixes.Member = refl
infix_back infixes.NotMember = refl
infix_back infixes.SubsetOrEqual = refl
infix_back infixes.MergedFunctions = refl
infix_back infixes.SingleFunction = refl
infix_back infixes.Union = refl
infix_back infixes.Intersection = refl
infix_back infixes.Difference = refl
infix_back infixes.Interval = refl
infix_back infixes.Plus = refl
infix_back infixes.Remainder = refl
infix_back infixes.Minus = refl
infix_back infixes.CartesianProduct = refl
infix_back infixes.Times = refl
infix_back infixes.Concatenation = refl
infix_back infixes.Quotient = refl
infix_back infixes.Power = refl

abbrev pub quantifier_gv : Quantifier → Gv
quantifier_gv quantifiers.ForAll = gnum 0
quantifier_gv quantifiers.Exists = gnum 1

abbrev pub gv_quantifier : Gv → Quantifier
gv_quantifier (gnum zero) = quantifiers.ForAll
gv_quantifier _ = quantifiers.Exists

pub quantifier_back : (x : Quantifier) → gv_quantifier (quantifier_gv x) ≡ x
quantifier_back quantifiers.ForAll = refl
quantifier_back quantifiers.Exists = refl

abbrev pub builtin_gv : BuiltinSet → Gv
builtin_gv builtins.Booleans = gnum 0
builtin_gv builtins.Strings = gnum 1

abbrev pub gv_builtin : Gv → BuiltinSet
gv_builtin (gnum zero) = builtins.Booleans
gv_builtin _ = builtins.Strings

pub builtin_back : (x : BuiltinSet) → gv_builtin (builtin_gv x) ≡ x
builtin_back builtins.Booleans = refl
builtin_back builtins.Strings = refl

abbrev pub bullet_gv : Bullet → Gv
bullet_gv bullets.And = gnum 0
bullet_gv bullets.Or = gnum 1

abbrev pub gv_bullet : Gv → Bullet
gv_bullet (gnum zero) = bullets.And
gv_bullet _ = bullets.Or

pub bullet_back : (x : Bullet) → gv_bullet (bullet_gv x) ≡ x
bullet_back bullets.And = refl
bullet_back bullets.Or = refl

abbrev pub form_gv : DefinitionForm → Gv
form_gv forms.Operator = gnum 0
form_gv forms.Function = gnum 1
form_gv forms.Constant = gnum 2

abbrev pub gv_form : Gv → DefinitionForm
gv_form (gnum zero) = forms.Operator
gv_form (gnum (suc zero)) = forms.Function
gv_form _ = forms.Constant

pub form_back : (x : DefinitionForm) → gv_form (form_gv x) ≡ x
form_back forms.Operator = refl
form_back forms.Function = refl
form_back forms.Constant = refl
