-- A chain by its first operand and those behind it: its first place, what its text begins with, and what joining does to it.
use Rattle.std.proofs.Common.{◌≡◌, ℕ, ◌<◌, Bool, true, false, ◌&&◌, ◌||◌, List, [], ◌∷◌, refl, sym, ap, subst, ◌∙◌, arith}
use Rattle.std.specs.Prelude.{if◌then◌else◌, Option, Some, None, slice_get}
use Rattle.base_core.specs.declared.place.Place.{Place}
use Rattle.reading_trees.specs.declared.operators.InfixOperator.{InfixOperator}
use Rattle.reading_trees.specs.declared.operators.InfixOperator.TheVariants as infixes
use Rattle.reading_trees.specs.declared.expr.Operand.{Operand}
use Rattle.reading_trees.specs.Precedence.{infix_range}
use Rattle.reading_trees.specs.Grammar.{begins_member, first_begins, is_member, is_name}
use Rattle.reading_trees.specs.Trees as tree
use Rattle.reading_trees.specs.Trees.{Tree, Operands, First, Next}
use Rattle.reading_trees.specs.TreeViews.{operands_from, operands_of}
use Rattle.reading_trees.specs.TreeSizes.{tree_size}
use Rattle.reading_trees.specs.TreeFalls.{operands_falls}
use Rattle.reading_open_rows.specs.Does.{with_others}
use Rattle.reading_machine.specs.Machine.{above, first_place, Joined, Joins, Meets, joins_in, joins_first, joins_next, join, join_first}

first_place_from : (es : Operands) (u : Operand) (us : List Operand) (at : Place) → first_place (operands_from es (u ∷ us)) at ≡ first_place es u.at
first_place_from es u [] at = refl
first_place_from es u (v ∷ us) at = first_place_from (Next es u.at u.value) v us at

abbrev place_or : Option Operand → Place → Place
place_or (Some u) at = u.at
place_or None at = at

first_place_of : (e : Tree) (us : List Operand) (at : Place) → place_or (slice_get us 0) at ≡ first_place (operands_of e us) at
first_place_of e [] at = refl
first_place_of e (u ∷ us) at = sym (first_place_from (First e) u us at)

-- the first operator stands before the first of the others
pub first_operator : (es : Operands) (at : Place) (e : Tree) (us : List Operand) (u : Operand) → operands_of e us ≡ es → Some u ≡ slice_get us 0 → u.at ≡ first_place es at
first_operator es at e us u is got = ap (λ o. place_or o at) got ∙ first_place_of e us at ∙ ap (λ fs. first_place fs at) is

first_begins_from : (o : InfixOperator) (es : Operands) (us : List Operand) → first_begins o (operands_from es us) ≡ first_begins o es
first_begins_from o es [] = refl
first_begins_from o es (u ∷ us) = first_begins_from o (Next es u.at u.value) us

-- the text of a chain begins as that of its first operand does
first_begins_of : (e : Tree) (at : Place) (o : InfixOperator) (es : Operands) (f l : Tree) (us : List Operand) → tree.Infix at o es l ≡ e → operands_of f us ≡ es → (is_member o && is_name f || begins_member f) ≡ begins_member e
first_begins_of e at o es f l us whole is = sym (first_begins_from o (First f) us) ∙ ap (first_begins o) is ∙ ap begins_member whole

both : (a b c : Bool) → true ≡ a → true ≡ b → true ≡ (a && b || c)
both a b c h k = rw (← h, ← k) refl

one_is_not : (a b c : Bool) → a ≡ false → c ≡ (a && b || c)
one_is_not a b c h = rw h refl

other_is_not : (a b c : Bool) → b ≡ false → c ≡ (a && b || c)
other_is_not true b c h = rw h refl
other_is_not false b c h = refl

pub begins_so : (e : Tree) (at : Place) (o : InfixOperator) (es : Operands) (f l : Tree) (us : List Operand) → tree.Infix at o es l ≡ e → operands_of f us ≡ es → true ≡ is_member o → true ≡ is_name f → true ≡ begins_member e
begins_so e at o es f l us whole is h k = both (is_member o) (is_name f) (begins_member f) h k ∙ first_begins_of e at o es f l us whole is

pub begins_no_name : (e : Tree) (at : Place) (o : InfixOperator) (es : Operands) (f l : Tree) (us : List Operand) → tree.Infix at o es l ≡ e → operands_of f us ≡ es → is_name f ≡ false → begins_member f ≡ begins_member e
begins_no_name e at o es f l us whole is h = other_is_not (is_member o) (is_name f) (begins_member f) h ∙ first_begins_of e at o es f l us whole is

pub begins_no_member : (e : Tree) (at : Place) (o : InfixOperator) (es : Operands) (f l : Tree) (us : List Operand) → tree.Infix at o es l ≡ e → operands_of f us ≡ es → is_member o ≡ false → begins_member f ≡ begins_member e
begins_no_member e at o es f l us whole is h = one_is_not (is_member o) (is_name f) (begins_member f) h ∙ first_begins_of e at o es f l us whole is

abbrev with_more : Joined Operands → List Operand → Joined Operands
with_more (Joins es) us = Joins (operands_from es us)
with_more (Meets p) us = Meets p

no_more : (j : Joined Operands) → j ≡ with_more j []
no_more (Joins es) = refl
no_more (Meets p) = refl

one_more : (j : Joined Operands) (u : Operand) (us : List Operand) → with_more (joins_next j u.at u.value) us ≡ with_more j (u ∷ us)
one_more (Joins es) u us = refl
one_more (Meets p) u us = refl

more_first : (j : Joined Tree) (us : List Operand) → with_more (joins_first j) us ≡ with_others j us
more_first (Joins e) us = refl
more_first (Meets p) us = refl

join_first_from : (x : Tree) (q : Place) (es : Operands) (us : List Operand) → join_first x q (operands_from es us) ≡ with_more (join_first x q es) us
join_first_from x q es [] = no_more (join_first x q es)
join_first_from x q es (u ∷ us) = join_first_from x q (Next es u.at u.value) us ∙ one_more (join_first x q es) u us

pub join_first_of : (x : Tree) (q : Place) (e : Tree) (us : List Operand) → join_first x q (operands_of e us) ≡ with_others (join x q e) us
join_first_of x q e us = join_first_from x q (First e) us ∙ more_first (join x q e) us

second : (a b : Bool) (x y z : Joined Tree) → a ≡ false → b ≡ true → (if a then x else if b then y else z) ≡ y
second a b x y z h k = rw (h, k) refl

join_below : (x : Tree) (q at : Place) (o : InfixOperator) (es : Operands) (e l : Tree) (us : List Operand) → above (infix_range o) (infix_range infixes.Member) ≡ false → above (infix_range infixes.Member) (infix_range o) ≡ true → operands_of e us ≡ es → join x q (tree.Infix at o es l) ≡ joins_in at o l (with_others (join x q e) us)
join_below x q at o es e l us h k is =
    second (above (infix_range o) (infix_range infixes.Member)) (above (infix_range infixes.Member) (infix_range o)) _ _ _ h k
    ∙ ap (λ fs. joins_in at o l (join_first x q fs)) (sym is)
    ∙ ap (joins_in at o l) (join_first_of x q e us)

-- the same, where j is what came of the first operand
pub joined_below : (x : Tree) (q at : Place) (o : InfixOperator) (es : Operands) (e f l : Tree) (us : List Operand) (j : Joined Tree) → tree.Infix at o es l ≡ e → operands_of f us ≡ es → above (infix_range o) (infix_range infixes.Member) ≡ false → above (infix_range infixes.Member) (infix_range o) ≡ true → j ≡ join x q f → joins_in at o l (with_others j us) ≡ join x q e
joined_below x q at o es e f l us j whole is h k got =
    ap (λ (i : Joined Tree). joins_in at o l (with_others i us)) got ∙ sym (join_below x q at o es f l us h k is) ∙ ap (join x q) whole

-- the first operand is smaller than the chain
pub first_falls : (e : Tree) (at : Place) (o : InfixOperator) (es : Operands) (f l : Tree) (us : List Operand) → tree.Infix at o es l ≡ e → operands_of f us ≡ es → tree_size f < tree_size e
first_falls e at o es f l us whole is =
    let falls = operands_falls f us in
    let less : tree_size f < tree_size (tree.Infix at o (operands_of f us) l) = omega (arith, falls) in
    subst (λ (n : ℕ). tree_size f < n) (ap (λ (fs : Operands). tree_size (tree.Infix at o fs l)) is ∙ ap tree_size whole) less
