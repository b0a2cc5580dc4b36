-- The tests of a token, by the summary of what is open.
use Rattle.std.proofs.Common.{◌≡◌, ℕ, Bool, true, false, ◌&&◌, is_some, [], ◌∷◌, Option, Some, None, refl, sym, ap, ◌∙◌, arith}
use Rattle.std.proofs.lemmas.Bool.Decides.{nat_tests}
use Rattle.std.specs.Prelude.{nat_le, if◌then◌else◌}
use Rattle.reading_tokens.specs.declared.token.Kind.{Kind}
use Rattle.reading_tokens.specs.declared.token.Token.{Token}
use Rattle.reading_trees.specs.declared.construct.Open.TheVariants.{List as InList, Case, Inside}
use Rattle.reading_trees.specs.Opens.{Opens, belongs, some_list, left_of_some, is_left, is_item, ends_by_column, ends_by_closing, reaches}
use Rattle.reading_junctions.specs.Summary.{greater, summary_of, at_or_left, list_ends, list_has, inside_belongs, summary_reaches, summary_closes}

greater_some : (o : Option ℕ) (c : ℕ) → is_some (greater o c) ≡ true
greater_some None c = refl
greater_some (Some d) c = elim (nat_le d c) as (λ b. is_some (if b then Some c else Some d) ≡ true) [ true ↦ refl | false ↦ refl ]

pub some_list-summary : (os : Opens) → some_list os ≡ is_some (summary_of os).rightmost
some_list-summary [] = refl
some_list-summary (InList b c ∷ os) = sym (greater_some (summary_of os).rightmost c)
some_list-summary (Case ∷ os) = some_list-summary os
some_list-summary (Inside c ∷ os) = some_list-summary os

pub is_item-summary : (t : Token) (os : Opens) → is_item t os ≡ list_has t (summary_of os).list
is_item-summary t [] = refl
is_item-summary t (InList b c ∷ os) = refl
is_item-summary t (Case ∷ os) = is_item-summary t os
is_item-summary t (Inside c ∷ os) = refl

pub ends_by_column-summary : (col : ℕ) (os : Opens) → ends_by_column col os ≡ list_ends col (summary_of os).list
ends_by_column-summary col [] = refl
ends_by_column-summary col (InList b c ∷ os) = refl
ends_by_column-summary col (Case ∷ os) = ends_by_column-summary col os
ends_by_column-summary col (Inside c ∷ os) = refl

both_ways : (x y : Bool) (z : Bool) → (if y then true else (if x && y then true else z)) ≡ (if true && y then true else z)
both_ways true true z = refl
both_ways false true z = refl
both_ways true false z = refl
both_ways false false z = refl

pub reaches-summary : (operand : Bool) (k : Kind) (os : Opens) → reaches operand k os ≡ summary_reaches operand k (summary_of os)
reaches-summary operand k [] = refl
reaches-summary operand k (InList b c ∷ os) = reaches-summary operand k os
reaches-summary operand k (Case ∷ os) =
    ap (λ x. if belongs operand k Case then true else x) (reaches-summary operand k os)
    ∙ both_ways (summary_of os).case (belongs operand k Case) (inside_belongs operand k (summary_of os).inside)
reaches-summary operand k (Inside c ∷ os) = refl

after_case : (x y : Bool) (z w r : Bool) → (if y then false else (if x && y then false else (w && (if z && y then true else r)))) ≡ (if true && y then false else (w && (if true && y then true else r)))
after_case x true z w r = refl
after_case true false true w r = refl
after_case false false true w r = refl
after_case true false false w r = refl
after_case false false false w r = refl

pub ends_by_closing-summary : (operand : Bool) (k : Kind) (os : Opens) → ends_by_closing operand k os ≡ summary_closes operand k (summary_of os)
ends_by_closing-summary operand k [] = refl
ends_by_closing-summary operand k (InList b c ∷ os) = reaches-summary operand k os
ends_by_closing-summary operand k (Case ∷ os) =
    ap (λ x. if belongs operand k Case then false else x) (ends_by_closing-summary operand k os)
    ∙ after_case (summary_of os).case_last (belongs operand k Case) (summary_of os).case (is_some (summary_of os).list) (inside_belongs operand k (summary_of os).inside)
ends_by_closing-summary operand k (Inside c ∷ os) = refl

-- a column is at or left of the greater of two exactly where it is so of one
le_greater : (col c d : ℕ) → (if nat_le col c then true else nat_le col d) ≡ at_or_left col (if nat_le d c then Some c else Some d)
le_greater col c d = grind (arith, nat_tests)

left_of_greater : (col c : ℕ) (o : Option ℕ) → (if nat_le col c then true else at_or_left col o) ≡ at_or_left col (greater o c)
left_of_greater col c None = elim (nat_le col c) as (λ b. (if b then true else false) ≡ b) [ true ↦ refl | false ↦ refl ]
left_of_greater col c (Some d) = le_greater col c d

pub left_of_some-summary : (col : ℕ) (os : Opens) → left_of_some col os ≡ at_or_left col (summary_of os).rightmost
left_of_some-summary col [] = refl
left_of_some-summary col (InList b c ∷ os) = ap (λ x. if nat_le col c then true else x) (left_of_some-summary col os) ∙ left_of_greater col c (summary_of os).rightmost
left_of_some-summary col (Case ∷ os) = left_of_some-summary col os
left_of_some-summary col (Inside c ∷ os) = left_of_some-summary col os

pub is_left-summary : (col : ℕ) (os : Opens) → is_left col os ≡ at_or_left col (summary_of os).holding
is_left-summary col [] = refl
is_left-summary col (InList b c ∷ os) = is_left-summary col os
is_left-summary col (Case ∷ os) = is_left-summary col os
is_left-summary col (Inside c ∷ os) = left_of_some-summary col os
