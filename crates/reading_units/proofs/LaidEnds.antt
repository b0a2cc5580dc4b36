-- What is marked ends as the tokens do.
use Rattle.std.specs.Prelude.{◌≡◌, Bool, true, false, List, [], ◌∷◌, ◌++◌, Option, Some, None, refl}
use Rattle.std.proofs.Common.{sym, ◌∙◌, ap, subst}
use Rattle.reading_tokens.specs.declared.token.Token.{Token}
use Rattle.reading_tokens.specs.declared.token.Kind.{Kind}
use Rattle.reading_tokens.specs.declared.token.Kind.TheVariants as kinds
use Rattle.reading_trees.specs.declared.laid.Laid.{Laid}
use Rattle.reading_trees.specs.declared.laid.Laid.TheVariants.{Plain, ListOpen, ListItem, ListClose}
use Rattle.reading_trees.specs.Laid.{Marked, NoEnd, tokens_of, next_of, bullet_token}
use Rattle.reading_trees.specs.Opens.{Opens, is_end}
use Rattle.reading_trees.specs.Modules.{LaidEndsOnce}
use Rattle.reading_units.specs.LaidEnds.{MarkedEndsOnce}

abbrev tail_of : List Token → List Token
tail_of [] = []
tail_of (t ∷ ts) = ts

abbrev head_or : Token → List Token → Token
head_or u [] = u
head_or u (t ∷ ts) = t

abbrev HasSome : List Token → Type 0
HasSome [] = ⊥
HasSome (t ∷ ts) = Unit {0}

some_behind : (before : List Token) (last : Token) → HasSome (before ++ last ∷ [])
some_behind [] last = tt
some_behind (b ∷ bs) last = tt

abbrev IsSomeToken : Option Token → Type 0
IsSomeToken None = ⊥
IsSomeToken (Some t) = Unit {0}

-- where no token is left, none comes next
none_next : (xs : List Laid) → tokens_of xs ≡ [] → next_of xs None ≡ None
none_next [] e = refl
none_next (Plain t ∷ xs) e = absurd (subst HasSome e tt)
none_next (ListOpen b at ∷ xs) e = none_next xs e
none_next (ListItem b at ∷ xs) e = absurd (subst HasSome e tt)
none_next (ListClose at ∷ xs) e = none_next xs e

-- where no token is left, nothing is marked
none_marked : (os : Opens) (operand : Bool) (xs : List Laid) → Marked os operand xs None → tokens_of xs ≡ [] → xs ≡ []
none_marked os operand [] m e = refl
none_marked os operand (Plain t ∷ xs) m e = absurd (subst HasSome e tt)
none_marked os operand (ListItem b at ∷ xs) m e = absurd (subst HasSome e tt)
none_marked os operand (ListClose at ∷ xs) m e = absurd (subst IsSomeToken (sym (m.0.next_is) ∙ none_next xs e) tt)
none_marked os operand (ListOpen b at ∷ ListItem c p ∷ xs) m e = absurd (subst HasSome e tt)
none_marked os operand (ListOpen b at ∷ []) m e = absurd m
none_marked os operand (ListOpen b at ∷ Plain t ∷ xs) m e = absurd m
none_marked os operand (ListOpen b at ∷ ListOpen c p ∷ xs) m e = absurd m
none_marked os operand (ListOpen b at ∷ ListClose p ∷ xs) m e = absurd m

plain_before : (t : Token) (xs : List Laid) → is_end t.kind ≡ false → LaidEndsOnce xs → LaidEndsOnce (Plain t ∷ xs)
plain_before t xs h l = record { before = Plain t ∷ l.before; last = l.last; whole = ap (λ ys. Plain t ∷ ys) l.whole; is_last = l.is_last; once = (h, l.once) }

open_before : (b : _) (at : _) (xs : List Laid) → LaidEndsOnce xs → LaidEndsOnce (ListOpen b at ∷ xs)
open_before b at xs l = record { before = ListOpen b at ∷ l.before; last = l.last; whole = ap (λ ys. ListOpen b at ∷ ys) l.whole; is_last = l.is_last; once = l.once }

item_before : (b : _) (at : _) (xs : List Laid) → LaidEndsOnce xs → LaidEndsOnce (ListItem b at ∷ xs)
item_before b at xs l = record { before = ListItem b at ∷ l.before; last = l.last; whole = ap (λ ys. ListItem b at ∷ ys) l.whole; is_last = l.is_last; once = l.once }

close_before : (at : _) (xs : List Laid) → LaidEndsOnce xs → LaidEndsOnce (ListClose at ∷ xs)
close_before at xs l = record { before = ListClose at ∷ l.before; last = l.last; whole = ap (λ ys. ListClose at ∷ ys) l.whole; is_last = l.is_last; once = l.once }

only_last : (t : Token) (xs : List Laid) → t.kind ≡ kinds.End → xs ≡ [] → LaidEndsOnce (Plain t ∷ xs)
only_last t xs k e = record { before = []; last = t; whole = ap (λ ys. Plain t ∷ ys) e; is_last = k; once = tt }

abbrev NotEnd : Kind → Type 0
NotEnd kinds.End = ⊥
NotEnd _ = Unit {0}

-- what the tokens from a point on are, when the last of them is the End and no other is
record Rest (tokens : List Token) : Type 0 where
  before : List Token
  last : Token
  whole : tokens ≡ before ++ last ∷ []
  is_last : last.kind ≡ kinds.End
  once : NoEnd before

rest_behind : (t : Token) (ts before : List Token) (last : Token) → t ∷ ts ≡ before ++ last ∷ [] → last.kind ≡ kinds.End → NoEnd before → NotEnd t.kind → Rest ts
rest_behind t ts [] last e k once other = absurd (subst NotEnd (ap (λ l. (head_or t l).kind) e ∙ k) other)
rest_behind t ts (b ∷ bs) last e k once other = record { before = bs; last = last; whole = ap tail_of e; is_last = k; once = once.1 }

plain_ends : (t : Token) (xs : List Laid) (os : Opens) (operand : Bool) (before : List Token) (last : Token) → t ∷ tokens_of xs ≡ before ++ last ∷ [] → last.kind ≡ kinds.End → NoEnd before → Marked os operand xs None → (Rest (tokens_of xs) → LaidEndsOnce xs) → LaidEndsOnce (Plain t ∷ xs)
plain_ends t xs os operand [] last e k once m go = only_last t xs (ap (λ l. (head_or t l).kind) e ∙ k) (none_marked os operand xs m (ap tail_of e))
plain_ends t xs os operand (b ∷ bs) last e k once m go = plain_before t xs (subst (λ u. is_end u.kind ≡ false) (sym (ap (head_or t) e)) once.0) (go (record { before = bs; last = last; whole = ap tail_of e; is_last = k; once = once.1 }))

ends : (os : Opens) (operand : Bool) (xs : List Laid) → Marked os operand xs None → Rest (tokens_of xs) → LaidEndsOnce xs
ends os operand [] m r = absurd (subst HasSome (sym r.whole) (some_behind r.before r.last))
ends os operand (Plain t ∷ xs) m r = plain_ends t xs _ _ r.before r.last r.whole r.is_last r.once m.3 (λ s. ends _ _ xs m.3 s)
ends os operand (ListItem b at ∷ xs) m r = item_before b at xs (ends _ _ xs m.2 (rest_behind (bullet_token b at) (tokens_of xs) r.before r.last r.whole r.is_last r.once tt))
ends os operand (ListClose at ∷ xs) m r = close_before at xs (ends _ _ xs m.1 r)
ends os operand (ListOpen b at ∷ ListItem c p ∷ xs) m r = open_before b at (ListItem c p ∷ xs) (item_before c p xs (ends _ _ xs m.5 (rest_behind (bullet_token c p) (tokens_of xs) r.before r.last r.whole r.is_last r.once tt)))
ends os operand (ListOpen b at ∷ []) m r = absurd m
ends os operand (ListOpen b at ∷ Plain t ∷ xs) m r = absurd m
ends os operand (ListOpen b at ∷ ListOpen c p ∷ xs) m r = absurd m
ends os operand (ListOpen b at ∷ ListClose p ∷ xs) m r = absurd m

pub marked_ends : MarkedEndsOnce
marked_ends tokens laid once is = ends [] true laid is.marked (record { before = once.before; last = once.last; whole = is.same ∙ once.whole; is_last = once.is_last; once = once.once })
