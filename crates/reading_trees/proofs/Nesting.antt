-- Marked lists nest, and what is inside a list stands right of it.
use Rattle.std.proofs.Common.{◌≡◌, ℕ, ◌<◌, Bool, true, false, ◌&&◌, ◌||◌, not, cond, List, [], ◌∷◌, None, refl, sym, ap, subst, arith}
use Rattle.std.proofs.lemmas.Bool.Decides.{nat_tests}
use Rattle.std.specs.Prelude.{nat_le, ◌==◌}
use Rattle.base_core.specs.declared.place.Place.{Place}
use Rattle.reading_trees.specs.declared.laid.Bullet.{Bullet}
use Rattle.reading_trees.specs.declared.laid.Bullet.TheVariants.{And, Or}
use Rattle.reading_trees.specs.declared.laid.Laid.{Laid}
use Rattle.reading_trees.specs.declared.laid.Laid.TheVariants.{Plain, ListOpen, ListItem, ListClose}
use Rattle.reading_tokens.specs.declared.token.Word.TheVariants as words
use Rattle.reading_tokens.specs.declared.token.Symbol.TheVariants as symbols
use Rattle.reading_tokens.specs.declared.token.Kind.{Kind}
use Rattle.reading_tokens.specs.declared.token.Kind.TheVariants as kinds
use Rattle.reading_tokens.specs.declared.token.Token.{Token}
use Rattle.reading_trees.specs.declared.construct.Open.TheVariants.{List as InList, Case, Inside}
use Rattle.reading_trees.specs.Opens.{Opens, bullet_of, has_bullet, same_bullet, belongs, finishes, is_end, opened_by, with_opened, closed_by, reaches, some_list, left_of_some, is_left, is_item, ends, ends_by_column, ends_by_closing, opens_behind, without_list, without_cases}
use Rattle.reading_trees.specs.Laid.{bullet_token, Stands, Marked, IsLaid}
use Rattle.reading_trees.specs.Nests.{Lists, IsRightOf, Nests}

-- the lists among what is open
abbrev lists_of : Opens → Lists
lists_of [] = []
lists_of (InList b c ∷ os) = (b, c) ∷ lists_of os
lists_of (Case ∷ os) = lists_of os
lists_of (Inside c ∷ os) = lists_of os

-- each list is right of those around it
abbrev Rises : Lists → Type 0
Rises [] = Unit {0}
Rises (l ∷ ls) = IsRightOf l.1 ls × Rises ls

right_more : (a b : ℕ) (ls : Lists) → a < b → IsRightOf a ls → IsRightOf b ls
right_more a b [] h k = tt
right_more a b (l ∷ ls) h k = (omega (arith, k.0), right_more a b ls h k.1)

-- ---- what the tests say

or_left : (x y z : Bool) → (x || y || z) ≡ false → x ≡ false
or_left false y z h = refl
or_left true y z h = absurd (let q : true ≡ false = h in cc)

or_last : (x y z : Bool) → (x || y || z) ≡ false → z ≡ false
or_last false false z h = h
or_last false true z h = absurd (let q : true ≡ false = h in cc)
or_last true y z h = absurd (let q : true ≡ false = h in cc)

and_not : (x y : Bool) → (x && not y) ≡ false → y ≡ false → x ≡ false
and_not false y h e = refl
and_not true false h e = h
and_not true true h e = e

pub and_first : (x y : Bool) → (x && y) ≡ true → x ≡ true
and_first true y h = refl
and_first false y h = absurd (let q : false ≡ true = h in cc)

pub and_second : (x y : Bool) → (x && y) ≡ true → y ≡ true
and_second true y h = h
and_second false y h = absurd (let q : false ≡ true = h in cc)

if_false : (x y : Bool) → cond x true y ≡ false → (x ≡ false) × (y ≡ false)
if_false false y h = (refl, h)
if_false true y h = absurd (let q : true ≡ false = h in cc)

not_le : (a b : ℕ) → nat_le a b ≡ false → b < a
not_le a b h = grind (arith, nat_tests)

same_number : (a b : ℕ) → (a == b) ≡ true → a ≡ b
same_number a b h = grind (arith, nat_tests)

same_symbol : (a b : Bullet) → same_bullet a b ≡ true → a ≡ b
same_symbol And And h = refl
same_symbol Or Or h = refl
same_symbol And Or h = absurd (let q : false ≡ true = h in cc)
same_symbol Or And h = absurd (let q : false ≡ true = h in cc)

right_of_all : (col : ℕ) (os : Opens) → left_of_some col os ≡ false → IsRightOf col (lists_of os)
right_of_all col [] h = tt
right_of_all col (InList b c ∷ os) h = let k = if_false (nat_le col c) (left_of_some col os) h in (not_le col c k.0, right_of_all col os k.1)
right_of_all col (Case ∷ os) h = right_of_all col os h
right_of_all col (Inside c ∷ os) h = right_of_all col os h

right_by_tests : (t : Token) (os : Opens) → ends_by_column t.place.col os ≡ false → is_left t.place.col os ≡ false → Rises (lists_of os) → IsRightOf t.place.col (lists_of os)
right_by_tests t [] h k r = tt
right_by_tests t (InList b c ∷ os) h k r = (not_le t.place.col c h, right_more c t.place.col (lists_of os) (not_le t.place.col c h) r.0)
right_by_tests t (Case ∷ os) h k r = right_by_tests t os h k r
right_by_tests t (Inside c ∷ os) h k r = right_of_all t.place.col os k

-- a token that is no item stands right of all lists
right_of : (operand : Bool) (t : Token) (os : Opens) → Stands operand t os → is_item t os ≡ false → Rises (lists_of os) → IsRightOf t.place.col (lists_of os)
right_of operand t os s i r =
    right_by_tests t os (and_not (ends_by_column t.place.col os) (is_item t os) (or_left (ends_by_column t.place.col os && not (is_item t os)) (ends_by_closing operand t.kind os) (is_end t.kind && some_list os) s.no_end) i) s.not_left r

-- ---- what stays open

cases_same : (os : Opens) → lists_of (without_cases os) ≡ lists_of os
cases_same [] = refl
cases_same (InList b c ∷ os) = refl
cases_same (Case ∷ os) = cases_same os
cases_same (Inside c ∷ os) = refl

closed_same : (operand : Bool) (k : Kind) (os : Opens) → lists_of (closed_by operand k os) ≡ lists_of os
closed_same operand k [] = refl
closed_same operand k (InList b c ∷ os) = refl
closed_same operand k (Case ∷ os) =
    elim (belongs operand k Case) as (λ b. lists_of (cond b (Case ∷ os) (closed_by operand k os)) ≡ lists_of os) [ true ↦ refl | false ↦ closed_same operand k os ]
closed_same operand k (Inside c ∷ os) = elim (finishes k c) as (λ b. lists_of (cond b os (Inside c ∷ os)) ≡ lists_of os) [ true ↦ refl | false ↦ refl ]

opened_same : (k : Kind) (os others : Opens) → lists_of others ≡ lists_of os → lists_of (with_opened (opened_by k) os others) ≡ lists_of os
opened_same (kinds.Word words.If) os others h = refl
opened_same (kinds.Word words.Let) os others h = refl
opened_same (kinds.Word words.Case) os others h = refl
opened_same (kinds.Word words.Choose) os others h = refl
opened_same (kinds.Symbol symbols.OpenParenthesis) os others h = refl
opened_same (kinds.Symbol symbols.OpenBracket) os others h = refl
opened_same (kinds.Symbol symbols.OpenBrace) os others h = refl
opened_same (kinds.Symbol symbols.OpenTuple) os others h = refl
opened_same (kinds.Symbol symbols.ForAll) os others h = refl
opened_same (kinds.Symbol symbols.Exists) os others h = refl
opened_same _ os others h = h

no_lists : (os : Opens) → some_list os ≡ false → lists_of os ≡ []
no_lists [] h = refl
no_lists (InList b c ∷ os) h = absurd (let q : true ≡ false = h in cc)
no_lists (Case ∷ os) h = no_lists os h
no_lists (Inside c ∷ os) h = no_lists os h

end_same : (e : Bool) (os others : Opens) → (e && some_list os) ≡ false → lists_of others ≡ lists_of os → lists_of (cond e [] others) ≡ lists_of os
end_same true os others h k = sym (no_lists os h)
end_same false os others h k = k

behind_same : (operand : Bool) (t : Token) (os : Opens) → ends operand t os ≡ false → lists_of (opens_behind operand t.kind os) ≡ lists_of os
behind_same operand t os h =
    end_same (is_end t.kind) os _ (or_last (ends_by_column t.place.col os && not (is_item t os)) (ends_by_closing operand t.kind os) (is_end t.kind && some_list os) h)
    (opened_same t.kind os _ (elim (reaches operand t.kind os) as (λ b. lists_of (cond b (closed_by operand t.kind os) os) ≡ lists_of os) [ true ↦ closed_same operand t.kind os | false ↦ refl ]))

rises_less : (os : Opens) → Rises (lists_of os) → Rises (lists_of (without_list os))
rises_less [] r = tt
rises_less (InList b c ∷ os) r = r.1
rises_less (Case ∷ os) r = rises_less os r
rises_less (Inside c ∷ os) r = rises_less os r

-- ---- a list that ends is open

column_list : (col : ℕ) (os : Opens) → some_list os ≡ false → ends_by_column col os ≡ false
column_list col [] h = refl
column_list col (InList b c ∷ os) h = absurd (let q : true ≡ false = h in cc)
column_list col (Case ∷ os) h = column_list col os h
column_list col (Inside c ∷ os) h = refl

closing_list : (operand : Bool) (k : Kind) (os : Opens) → some_list os ≡ false → ends_by_closing operand k os ≡ false
closing_list operand k [] h = refl
closing_list operand k (InList b c ∷ os) h = absurd (let q : true ≡ false = h in cc)
closing_list operand k (Case ∷ os) h =
    elim (belongs operand k Case) as (λ b. cond b false (ends_by_closing operand k os) ≡ false) [ true ↦ refl | false ↦ closing_list operand k os h ]
closing_list operand k (Inside c ∷ os) h = refl

no_end_here : (x y z w s : Bool) → x ≡ false → z ≡ false → s ≡ false → ((x && not y) || z || (w && s)) ≡ true → ⊥
no_end_here false y false true false e f g h = let q : false ≡ true = h in cc
no_end_here false y false false false e f g h = let q : false ≡ true = h in cc
no_end_here true y z w s e f g h = let q : true ≡ false = e in cc
no_end_here false y true w s e f g h = let q : true ≡ false = f in cc
no_end_here false y false w true e f g h = let q : true ≡ false = g in cc

pub ends_list : (operand : Bool) (t : Token) (os : Opens) (b : Bool) → some_list os ≡ b → ends operand t os ≡ true → b ≡ true
ends_list operand t os true s h = refl
ends_list operand t os false s h = absurd (no_end_here (ends_by_column t.place.col os) (is_item t os) (ends_by_closing operand t.kind os) (is_end t.kind) (some_list os) (column_list t.place.col os s) (closing_list operand t.kind os s) s h)

-- ---- nesting

close_nests : (at : Place) (xs : List Laid) (os : Opens) → some_list os ≡ true → Nests (lists_of (without_list os)) xs → Nests (lists_of os) (ListClose at ∷ xs)
close_nests at xs [] h n = absurd (let q : false ≡ true = h in cc)
close_nests at xs (InList b c ∷ os) h n = n
close_nests at xs (Case ∷ os) h n = close_nests at xs os h n
close_nests at xs (Inside c ∷ os) h n = close_nests at xs os h n

bullet_same : (a b : Bullet) (at : Place) → has_bullet (bullet_of (bullet_token a at).kind) b ≡ true → a ≡ b
bullet_same And b at h = same_symbol And b h
bullet_same Or b at h = same_symbol Or b h

item_nests : (b : Bullet) (at : Place) (xs : List Laid) (os : Opens) → is_item (bullet_token b at) os ≡ true → Rises (lists_of os) → Nests (lists_of os) xs → Nests (lists_of os) (ListItem b at ∷ xs)
item_nests b at xs [] h r n = absurd (let q : false ≡ true = h in cc)
item_nests b at xs (InList a c ∷ os) h r n =
    let e = same_number at.col c (and_second (has_bullet (bullet_of (bullet_token b at).kind) a) (at.col == c) h) in
    (bullet_same b a at (and_first (has_bullet (bullet_of (bullet_token b at).kind) a) (at.col == c) h), e, subst (λ x. IsRightOf x (lists_of os)) (sym e) r.0, n)
item_nests b at xs (Case ∷ os) h r n = item_nests b at xs os h r n
item_nests b at xs (Inside c ∷ os) h r n = absurd (let q : false ≡ true = h in cc)

nests : (os : Opens) (operand : Bool) (xs : List Laid) → Rises (lists_of os) → Marked os operand xs None → Nests (lists_of os) xs
nests os operand [] r h = ap lists_of h
nests os operand (Plain t ∷ xs) r h =
    let e = behind_same operand t os h.0.no_end in
    (right_of operand t os h.0 h.1 r, subst (λ ls. Nests ls xs) e (nests (opens_behind operand t.kind os) _ xs (subst Rises (sym e) r) h.3))
nests os operand (ListItem b at ∷ xs) r h =
    let e = cases_same os in
    item_nests b at xs os h.1 r (subst (λ ls. Nests ls xs) e (nests (without_cases os) true xs (subst Rises (sym e) r) h.2))
nests os operand (ListClose at ∷ xs) r h =
    close_nests at xs os (ends_list operand h.0.token os (some_list os) refl h.0.ends_here) (nests (without_list os) false xs (rises_less os r) h.1)
nests os operand (ListOpen b at ∷ []) r h = absurd h
nests os operand (ListOpen b at ∷ Plain t ∷ xs) r h = absurd h
nests os operand (ListOpen b at ∷ ListOpen c p ∷ xs) r h = absurd h
nests os operand (ListOpen b at ∷ ListClose p ∷ xs) r h = absurd h
nests os operand (ListOpen b at ∷ ListItem c p ∷ xs) r h =
    let right = right_of operand (bullet_token b at) os h.2 h.3 r in
    (right, (sym h.0, ap (λ x. x.col) (sym h.1), subst (λ x. IsRightOf x.col (lists_of os)) h.1 right, nests (InList b at.col ∷ os) true xs (right, r) h.5))

pub laid_nests : (tokens : List Token) (laid : List Laid) → IsLaid tokens laid → Nests [] laid
laid_nests tokens laid h = nests [] true laid tt h.marked
