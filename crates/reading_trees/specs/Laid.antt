-- When tokens are rightly marked with their junction lists: conditions on the marked list, each at one of its
-- elements, over what the marks before it have left open.
--
-- 1. Without ListOpen and ListClose, and with each ListItem as its bullet, it is the tokens (`tokens_of`).
-- 2. Lists and constructs nest: what is open is one list, the innermost first, and behind the End nothing is
--    (`Opens`, `opens_behind`).
-- 3. What is inside a list stands right of its bullets (this follows, see `LaidNests`).
-- 4. A `/\` or `\/` is an item where it has the symbol and the column of the innermost list, or where an operand is
--    expected; in the second case alone it is the first of a new list (`is_item`, `wants_operand`).
-- 5. The innermost list ends before a token at or left of it that is not its item, before a closing token of a
--    construct that was opened before the list and has only lists and CASEs open after it, and before the End (`ends`).
-- 6. No token stands at or left of a list inside which a construct other than CASE is open (`is_left`). The first
--    that does is refused.
use Rattle.std.specs.Prelude.{◌≡◌, ◌⊎◌, Bool, true, false, ◌&&◌, is_some, List, [], ◌∷◌, ◌++◌, Option, Some, None}
use Rattle.base_core.specs.declared.place.Place.{Place}
use Rattle.reading_trees.specs.declared.laid.Bullet.{Bullet}
use Rattle.reading_trees.specs.declared.laid.Bullet.TheVariants.{And, Or}
use Rattle.reading_trees.specs.declared.laid.Laid.{Laid}
use Rattle.reading_trees.specs.declared.laid.Laid.TheVariants.{Plain, ListOpen, ListItem, ListClose}
use Rattle.reading_tokens.specs.declared.token.Symbol.{Symbol}
use Rattle.reading_tokens.specs.declared.token.Symbol.TheVariants as symbols
use Rattle.reading_tokens.specs.declared.token.Kind.TheVariants as kinds
use Rattle.reading_tokens.specs.declared.token.Token.{Token}
use Rattle.reading_trees.specs.declared.construct.Open.TheVariants.{List as InList}
use Rattle.reading_trees.specs.Opens.{Opens, is_end, bullet_of, wants_operand, is_left, is_item, ends, opens_behind, without_list, without_cases}

abbrev pub symbol_of : Bullet → Symbol
symbol_of And = symbols.And
symbol_of Or = symbols.Or

-- the token that is marked as an item
abbrev pub bullet_token : Bullet → Place → Token
bullet_token b at = record { kind = kinds.Symbol (symbol_of b); place = at }

-- The tokens that were marked: without ListOpen and ListClose, each ListItem being its bullet.
abbrev pub tokens_of : List Laid → List Token
tokens_of [] = []
tokens_of (Plain t ∷ xs) = t ∷ tokens_of xs
tokens_of (ListOpen b at ∷ xs) = tokens_of xs
tokens_of (ListItem b at ∷ xs) = bullet_token b at ∷ tokens_of xs
tokens_of (ListClose at ∷ xs) = tokens_of xs

-- the token that comes next: the first of a marked list, or else the one behind it
abbrev pub next_of : List Laid → Option Token → Option Token
next_of [] behind = behind
next_of (Plain t ∷ xs) behind = Some t
next_of (ListOpen b at ∷ xs) behind = next_of xs behind
next_of (ListItem b at ∷ xs) behind = Some (bullet_token b at)
next_of (ListClose at ∷ xs) behind = next_of xs behind

-- A token stands here: the innermost list does not end before it, and it is not left of a list that has a construct
-- open in it.
pub record Stands (operand : Bool) (t : Token) (os : Opens) : Type 0 where
  pub no_end : ends operand t os ≡ false
  pub not_left : is_left t.place.col os ≡ false

-- The innermost list ends here, at the place of the next token.
pub record Closes (operand : Bool) (at : Place) (next : Option Token) (os : Opens) : Type 0 where
  pub token : Token
  pub next_is : next ≡ Some token
  pub place : at ≡ token.place
  pub ends_here : ends operand token os ≡ true
  pub not_left : is_left token.place.col os ≡ false

-- Marked tokens from a point on, where `os` is open and an operand is expected or not. Either they are all the tokens
-- that there are, and nothing is open behind them; or a token behind them stands left of a list that has a construct
-- open in it.
--
-- A `/\` or `\/` is an item where it is the next of the innermost list, the first of a new list where it is not but
-- an operand is expected, and an infix operator elsewhere.
abbrev pub Marked : Opens → Bool → List Laid → Option Token → Type 0
Marked os operand [] None = os ≡ []
Marked os operand [] (Some t) = is_left t.place.col os ≡ true
Marked os operand (Plain t ∷ xs) behind =
    Stands operand t os × (is_item t os ≡ false) × ((is_some (bullet_of t.kind) && operand) ≡ false) × Marked (opens_behind operand t.kind os) (wants_operand t.kind) xs behind
Marked os operand (ListItem b at ∷ xs) behind =
    Stands operand (bullet_token b at) os × (is_item (bullet_token b at) os ≡ true) × Marked (without_cases os) true xs behind
Marked os operand (ListClose at ∷ xs) behind =
    Closes operand at (next_of xs behind) os × Marked (without_list os) false xs behind
Marked os operand (ListOpen b at ∷ ListItem c p ∷ xs) behind =
    (b ≡ c) × (at ≡ p) × Stands operand (bullet_token b at) os × (is_item (bullet_token b at) os ≡ false) × (operand ≡ true) × Marked (InList b at.col ∷ os) true xs behind
Marked os operand (ListOpen b at ∷ []) behind = ⊥
Marked os operand (ListOpen b at ∷ Plain t ∷ xs) behind = ⊥
Marked os operand (ListOpen b at ∷ ListOpen c p ∷ xs) behind = ⊥
Marked os operand (ListOpen b at ∷ ListClose p ∷ xs) behind = ⊥

-- These are the tokens with their junction lists marked. At the beginning nothing is open, and an operand is expected.
pub record IsLaid (tokens : List Token) (laid : List Laid) : Type 0 where
  pub same : tokens_of laid ≡ tokens
  pub marked : Marked [] true laid None

-- The first token that stands at or left of the column of a list inside which a construct other than CASE is open
-- has this place. The tokens before it are marked as ever.
pub record IsLeftOfList (tokens : List Token) (place : Place) : Type 0 where
  pub before : List Laid
  pub token : Token
  pub rest : List Token
  pub same : tokens_of before ++ token ∷ rest ≡ tokens
  pub marked : Marked [] true before (Some token)
  pub here : place ≡ token.place

-- no token of the list is the End
abbrev pub NoEnd : List Token → Type 0
NoEnd [] = Unit {0}
NoEnd (t ∷ ts) = (is_end t.kind ≡ false) × NoEnd ts

-- The last token is the End, and no other is.
pub record EndsOnce (tokens : List Token) : Type 0 where
  pub before : List Token
  pub last : Token
  pub whole : tokens ≡ before ++ last ∷ []
  pub is_last : last.kind ≡ kinds.End
  pub once : NoEnd before

-- ---- laws

-- tokens are marked in one way
abbrev pub OneLaid : Type 0
OneLaid = (tokens : List Token) (a b : List Laid) → IsLaid tokens a → IsLaid tokens b → a ≡ b

-- they are refused at one place
abbrev pub OneFault : Type 0
OneFault = (tokens : List Token) (p q : Place) → IsLeftOfList tokens p → IsLeftOfList tokens q → p ≡ q

-- and never both
abbrev pub NeverBoth : Type 0
NeverBoth = (tokens : List Token) (a : List Laid) (p : Place) → IsLaid tokens a → IsLeftOfList tokens p → ⊥

-- tokens are marked, or refused
abbrev pub Decided : List Token → Type 0
Decided tokens = ((laid : List Laid) × IsLaid tokens laid) ⊎ ((place : Place) × IsLeftOfList tokens place)

-- so are all tokens of which the last, and no other, is the End
abbrev pub AllDecided : Type 0
AllDecided = (tokens : List Token) → EndsOnce tokens → Decided tokens
