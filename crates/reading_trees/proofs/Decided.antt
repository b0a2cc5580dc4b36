-- Tokens that end once are marked, or refused.
use Rattle.std.proofs.Common.{◌≡◌, ℕ, zero, suc, ◌+◌, ◌*◌, ◌<◌, ◌≤◌, Bool, true, false, ◌&&◌, inl, inr, cond, is_some, List, [], ◌∷◌, ◌++◌, length, Option, Some, None, refl, sym, ap, subst, ◌∙◌, arith}
use Rattle.std.specs.Prelude.{◌==◌}
use Rattle.base_core.specs.declared.place.Place.{Place}
use Rattle.reading_trees.specs.declared.laid.Bullet.{Bullet}
use Rattle.reading_trees.specs.declared.laid.Bullet.TheVariants.{And, Or}
use Rattle.reading_trees.specs.declared.laid.Laid.{Laid}
use Rattle.reading_trees.specs.declared.laid.Laid.TheVariants.{Plain, ListOpen, ListItem, ListClose}
use Rattle.reading_tokens.specs.declared.token.Symbol.{Symbol}
use Rattle.reading_tokens.specs.declared.token.Symbol.TheVariants as symbols
use Rattle.reading_tokens.specs.declared.token.Kind.{Kind}
use Rattle.reading_tokens.specs.declared.token.Kind.TheVariants as kinds
use Rattle.reading_tokens.specs.declared.token.Token.{Token}
use Rattle.reading_trees.specs.declared.construct.Open.{Open}
use Rattle.reading_trees.specs.declared.construct.Open.TheVariants.{List as InList, Case, Inside}
use Rattle.reading_trees.specs.Opens.{Opens, some_list, symbol_bullet, bullet_of, has_bullet, belongs, finishes, is_end, opened_by, with_opened, closed_by, reaches, is_left, is_item, ends, wants_operand, opens_behind, without_list, without_cases}
use Rattle.reading_trees.specs.Laid.{bullet_token, symbol_of, tokens_of, next_of, Stands, Marked, EndsOnce, Decided}
use Rattle.reading_trees.proofs.Unique.{tail, append_none}
use Rattle.reading_trees.proofs.Nesting.{and_first, and_second, ends_list}

-- a front of the tokens is marked, and all of them are, or the next is left of a list
record Outcome (os : Opens) (operand : Bool) (ts : List Token) : Type 0 where
  laid : List Laid
  behind : Option Token
  rest : List Token
  same : tokens_of laid ++ tail behind rest ≡ ts
  marked : Marked os operand laid behind

next_is : (xs : List Laid) (z : Option Token) (r : List Token) (t : Token) (ts : List Token) → tokens_of xs ++ tail z r ≡ t ∷ ts → next_of xs z ≡ Some t
next_is [] None r t ts e = absurd (let q : [] ≡ t ∷ ts = e in cc)
next_is [] (Some u) r t ts e = (let q : u ∷ r ≡ t ∷ ts = e in cc)
next_is (Plain u ∷ xs) z r t ts e = (let q : u ∷ (tokens_of xs ++ tail z r) ≡ t ∷ ts = e in cc)
next_is (ListItem b at ∷ xs) z r t ts e = (let q : bullet_token b at ∷ (tokens_of xs ++ tail z r) ≡ t ∷ ts = e in cc)
next_is (ListOpen b at ∷ xs) z r t ts e = next_is xs z r t ts e
next_is (ListClose at ∷ xs) z r t ts e = next_is xs z r t ts e

-- ---- bullets

absurd_bool : {A : Type 0} → false ≡ true → A
absurd_bool h = absurd (let q : false ≡ true = h in cc)

of_symbol : (s : Symbol) → is_some (symbol_bullet s) ≡ true → (b : Bullet) × (symbol_of b ≡ s)
of_symbol symbols.And h = (And, refl)
of_symbol symbols.Or h = (Or, refl)
of_symbol _ h = absurd_bool h

of_kind : (k : Kind) → is_some (bullet_of k) ≡ true → (b : Bullet) × (kinds.Symbol (symbol_of b) ≡ k)
of_kind (kinds.Symbol s) h = let k = of_symbol s h in (k.0, ap (λ x. kinds.Symbol x) k.1)
of_kind _ h = absurd_bool h

token_with : Token → Kind → Token
token_with t k = record { kind = k; place = t.place }

of_token : (t : Token) → is_some (bullet_of t.kind) ≡ true → (b : Bullet) × (bullet_token b t.place ≡ t)
unfolding token_with
of_token t h = let k = of_kind t.kind h in (k.0, ap (token_with t) k.1)

has_some : (o : Option Bullet) (b : Bullet) → has_bullet o b ≡ true → is_some o ≡ true
has_some None b h = h
has_some (Some a) b h = refl

item_bullet : (t : Token) (os : Opens) → is_item t os ≡ true → is_some (bullet_of t.kind) ≡ true
item_bullet t [] h = absurd_bool h
item_bullet t (InList b c ∷ os) h = has_some (bullet_of t.kind) b (and_first (has_bullet (bullet_of t.kind) b) (t.place.col == c) h)
item_bullet t (Case ∷ os) h = item_bullet t os h
item_bullet t (Inside c ∷ os) h = absurd_bool h

end_no_bullet : (k : Kind) → is_end k ≡ true → is_some (bullet_of k) ≡ true → ⊥
end_no_bullet kinds.End h e = absurd_bool e
end_no_bullet _ h e = absurd_bool h

-- ---- the last token is the End

abbrev LastIsEnd : Token → List Token → Type 0
LastIsEnd t [] = is_end t.kind ≡ true
LastIsEnd t (u ∷ ts) = LastIsEnd u ts

abbrev Ending : Opens → List Token → Type 0
Ending os [] = os ≡ []
Ending os (t ∷ ts) = LastIsEnd t ts

ending_plain : (operand : Bool) (t : Token) (ts : List Token) (os : Opens) → LastIsEnd t ts → Ending (opens_behind operand t.kind os) ts
ending_plain operand t [] os h = ap (λ b. cond b [] (with_opened (opened_by t.kind) os (cond (reaches operand t.kind os) (closed_by operand t.kind os) os))) h
ending_plain operand t (u ∷ ts) os h = h

ending_bullet : (t : Token) (ts : List Token) (os : Opens) → LastIsEnd t ts → is_some (bullet_of t.kind) ≡ true → Ending os ts
ending_bullet t [] os h e = absurd (end_no_bullet t.kind h e)
ending_bullet t (u ∷ ts) os h e = h

last_end : (before : List Token) (last : Token) → is_end last.kind ≡ true → Ending [] (before ++ last ∷ [])
last_end [] last h = h
last_end (t ∷ []) last h = h
last_end (t ∷ u ∷ ts) last h = last_end (u ∷ ts) last h

-- ---- how much is left

no_more : (os : Opens) → length (without_list os) ≤ length os
no_more [] = omega arith
no_more (InList b c ∷ os) = omega arith
no_more (Case ∷ os) = omega (arith, no_more os)
no_more (Inside c ∷ os) = omega (arith, no_more os)

shorter : (operand : Bool) (t : Token) (os : Opens) → some_list os ≡ true → length (without_list os) < length os
shorter operand t [] h = absurd_bool h
shorter operand t (InList b c ∷ os) h = omega arith
shorter operand t (Case ∷ os) h = omega (arith, no_more os)
shorter operand t (Inside c ∷ os) h = omega (arith, no_more os)

fewer_cases : (os : Opens) → length (without_cases os) ≤ length os
fewer_cases [] = omega arith
fewer_cases (InList b c ∷ os) = omega arith
fewer_cases (Case ∷ os) = omega (arith, fewer_cases os)
fewer_cases (Inside c ∷ os) = omega arith

fewer_closed : (operand : Bool) (k : Kind) (os : Opens) → length (closed_by operand k os) ≤ length os
fewer_closed operand k [] = omega arith
fewer_closed operand k (InList b c ∷ os) = omega arith
fewer_closed operand k (Case ∷ os) =
    elim (belongs operand k Case) as (λ b. length (cond b (Case ∷ os) (closed_by operand k os)) ≤ length (Case ∷ os)) [ true ↦ omega arith | false ↦ omega (arith, fewer_closed operand k os) ]
fewer_closed operand k (Inside c ∷ os) = elim (finishes k c) as (λ b. length (cond b os (Inside c ∷ os)) ≤ length (Inside c ∷ os)) [ true ↦ omega arith | false ↦ omega arith ]

fewer_opened : (o : Option Open) (os others : Opens) → length others ≤ length os → length (with_opened o os others) ≤ length os + 1
fewer_opened None os others h = omega arith
fewer_opened (Some o) os others h = omega arith

fewer_unless : (e : Bool) (os : Opens) (n : ℕ) → length os ≤ n → length (cond e [] os) ≤ n
fewer_unless true os n h = omega arith
fewer_unless false os n h = h

fewer_behind : (operand : Bool) (k : Kind) (os : Opens) → length (opens_behind operand k os) ≤ length os + 1
fewer_behind operand k os =
    fewer_unless (is_end k) _ (length os + 1)
    (fewer_opened (opened_by k) os _ (elim (reaches operand k os) as (λ b. length (cond b (closed_by operand k os) os) ≤ length os) [ true ↦ fewer_closed operand k os | false ↦ omega arith ]))

-- ---- steps

module _ (os : Opens) (operand : Bool) (ts : List Token) where
  left_out : (t : Token) → is_left t.place.col os ≡ true → Outcome os operand (t ∷ ts)
  left_out t h = record { laid = []; behind = Some t; rest = ts; same = refl; marked = h }

  close_out : (t : Token) → is_left t.place.col os ≡ false → ends operand t os ≡ true → Outcome (without_list os) false (t ∷ ts) → Outcome os operand (t ∷ ts)
  close_out t l e o = record {
    laid = ListClose t.place ∷ o.laid;
    behind = o.behind;
    rest = o.rest;
    same = o.same;
    marked = (record { token = t; next_is = next_is o.laid o.behind o.rest t ts o.same; place = refl; ends_here = e; not_left = l }, o.marked);
  }

  plain_out : (t : Token) → Stands operand t os → is_item t os ≡ false → (is_some (bullet_of t.kind) && operand) ≡ false → Outcome (opens_behind operand t.kind os) (wants_operand t.kind) ts → Outcome os operand (t ∷ ts)
  plain_out t s i j o = record { laid = Plain t ∷ o.laid; behind = o.behind; rest = o.rest; same = ap (λ x. t ∷ x) o.same; marked = (s, i, j, o.marked) }

  item_out : (b : Bullet) (at : Place) → Stands operand (bullet_token b at) os → is_item (bullet_token b at) os ≡ true → Outcome (without_cases os) true ts → Outcome os operand (bullet_token b at ∷ ts)
  item_out b at s i o = record { laid = ListItem b at ∷ o.laid; behind = o.behind; rest = o.rest; same = ap (λ x. bullet_token b at ∷ x) o.same; marked = (s, i, o.marked) }

  begin_out : (b : Bullet) (at : Place) → Stands operand (bullet_token b at) os → is_item (bullet_token b at) os ≡ false → operand ≡ true → Outcome (InList b at.col ∷ os) true ts → Outcome os operand (bullet_token b at ∷ ts)
  begin_out b at s i j o = record {
    laid = ListOpen b at ∷ ListItem b at ∷ o.laid;
    behind = o.behind;
    rest = o.rest;
    same = ap (λ x. bullet_token b at ∷ x) o.same;
    marked = (refl, refl, s, i, j, o.marked);
  }

  item_at : (t : Token) → Stands operand t os → is_item t os ≡ true → Outcome (without_cases os) true ts → Outcome os operand (t ∷ ts)
  item_at t =
      λ s i o.
      let b = of_token t (item_bullet t os i) in
      subst (λ u. Outcome os operand (u ∷ ts)) b.1 (item_out b.0 t.place (subst (λ u. Stands operand u os) (sym b.1) s) (ap (λ u. is_item u os) b.1 ∙ i) o)

  begin_at : (t : Token) → Stands operand t os → is_item t os ≡ false → (is_some (bullet_of t.kind) && operand) ≡ true → ((b : Bullet) → Outcome (InList b t.place.col ∷ os) true ts) → Outcome os operand (t ∷ ts)
  begin_at t =
      λ s i j o.
      let b = of_token t (and_first (is_some (bullet_of t.kind)) operand j) in
      subst (λ u. Outcome os operand (u ∷ ts)) b.1
      (begin_out b.0 t.place (subst (λ u. Stands operand u os) (sym b.1) s) (ap (λ u. is_item u os) b.1 ∙ i) (and_second (is_some (bullet_of t.kind)) operand j) (o b.0))

abbrev Rec : ℕ → Type 0
Rec n = (os : Opens) (operand : Bool) (ts : List Token) → 2 * length ts + length os < n → Ending os ts → Outcome os operand ts

step : (n : ℕ) (os : Opens) (operand : Bool) (t : Token) (ts : List Token) (l e i j : Bool) → 2 * length (t ∷ ts) + length os < n + 1 → LastIsEnd t ts → Rec n → is_left t.place.col os ≡ l → ends operand t os ≡ e → is_item t os ≡ i → (is_some (bullet_of t.kind) && operand) ≡ j → Outcome os operand (t ∷ ts)
step n os operand t ts true e i j w end rec p q r s = left_out os operand ts t p
step n os operand t ts false true i j w end rec p q r s =
    close_out os operand ts t p q (rec (without_list os) false (t ∷ ts) (omega (arith, shorter operand t os (ends_list operand t os (some_list os) refl q))) end)
step n os operand t ts false false true j w end rec p q r s =
    item_at os operand ts t (record { no_end = q; not_left = p }) r (rec (without_cases os) true ts (omega (arith, fewer_cases os)) (ending_bullet t ts (without_cases os) end (item_bullet t os r)))
step n os operand t ts false false false true w end rec p q r s =
    begin_at os operand ts t (record { no_end = q; not_left = p }) r s (λ b. rec (InList b t.place.col ∷ os) true ts (omega arith) (ending_bullet t ts (InList b t.place.col ∷ os) end (and_first (is_some (bullet_of t.kind)) operand s)))
step n os operand t ts false false false false w end rec p q r s =
    plain_out os operand ts t (record { no_end = q; not_left = p }) r s
    (rec (opens_behind operand t.kind os) (wants_operand t.kind) ts (omega (arith, fewer_behind operand t.kind os)) (ending_plain operand t ts os end))

decide : (n : ℕ) → Rec n
decide n os operand [] w end = record { laid = []; behind = None; rest = []; same = refl; marked = end }
decide zero os operand (t ∷ ts) w end = absurd (omega (arith, w))
decide (suc n) os operand (t ∷ ts) w end =
    step n os operand t ts (is_left t.place.col os) (ends operand t os) (is_item t os) (is_some (bullet_of t.kind) && operand) (omega (arith, w)) end (decide n) refl refl refl refl

of_outcome : (tokens : List Token) (laid : List Laid) (behind : Option Token) (rest : List Token) → tokens_of laid ++ tail behind rest ≡ tokens → Marked [] true laid behind → Decided tokens
of_outcome tokens laid None rest e m = inl (laid, record { same = sym (append_none (tokens_of laid)) ∙ e; marked = m })
of_outcome tokens laid (Some t) rest e m = inr (t.place, record { before = laid; token = t; rest = rest; same = e; marked = m; here = refl })

pub decided : (tokens : List Token) → EndsOnce tokens → Decided tokens
decided tokens h =
    let o = decide (2 * length (h.before ++ h.last ∷ []) + 1) [] true (h.before ++ h.last ∷ []) (omega arith) (last_end h.before h.last (ap is_end h.is_last)) in
    of_outcome tokens o.laid o.behind o.rest (o.same ∙ sym h.whole) o.marked
