-- Tokens have their junction lists marked in one way.
use Rattle.std.proofs.Common.{◌≡◌, ◌≢◌, ℕ, zero, suc, ◌<◌, ◌≤◌, Bool, true, false, ◌&&◌, is_some, List, [], ◌∷◌, ◌++◌, length, Option, Some, None, refl, sym, ap, subst, ◌∙◌, arith}
use Rattle.base_core.specs.declared.place.Place.{Place}
use Rattle.reading_trees.specs.declared.laid.Bullet.{Bullet}
use Rattle.reading_trees.specs.declared.laid.Bullet.TheVariants.{And, Or}
use Rattle.reading_trees.specs.declared.laid.Laid.{Laid}
use Rattle.reading_trees.specs.declared.laid.Laid.TheVariants.{Plain, ListOpen, ListItem, ListClose}
use Rattle.reading_tokens.specs.declared.token.Kind.{Kind}
use Rattle.reading_tokens.specs.declared.token.Token.{Token}
use Rattle.reading_trees.specs.declared.construct.Open.TheVariants.{List as InList}
use Rattle.reading_trees.specs.Opens.{Opens, bullet_of, is_left, ends, is_item, wants_operand, opens_behind, without_list, without_cases}
use Rattle.reading_trees.specs.Laid.{bullet_token, tokens_of, next_of, Marked, IsLaid, IsLeftOfList}

-- what comes of a token
data Act : Type 0 where
  left : Act
  close : Act
  item : Act
  begin : Act
  plain : Act

abbrev act_of : Bool → Bool → Bool → Bool → Act
act_of true e i j = left
act_of false true i j = close
act_of false false true j = item
act_of false false false true = begin
act_of false false false false = plain

abbrev act : Opens → Bool → Token → Act
act os operand t = act_of (is_left t.place.col os) (ends operand t os) (is_item t os) (is_some (bullet_of t.kind) && operand)

abbrev or_and : Option Bullet → Bullet
or_and (Some b) = b
or_and None = And

abbrev bullet_at : Kind → Bullet
bullet_at k = or_and (bullet_of k)

abbrev elements : Act → Token → List Laid → List Laid
elements left t xs = xs
elements close t xs = ListClose t.place ∷ xs
elements item t xs = ListItem (bullet_at t.kind) t.place ∷ xs
elements begin t xs = ListOpen (bullet_at t.kind) t.place ∷ ListItem (bullet_at t.kind) t.place ∷ xs
elements plain t xs = Plain t ∷ xs

abbrev opens_after : Bool → Act → Token → Opens → Opens
opens_after operand left t os = os
opens_after operand close t os = without_list os
opens_after operand item t os = without_cases os
opens_after operand begin t os = InList (bullet_at t.kind) t.place.col ∷ os
opens_after operand plain t os = opens_behind operand t.kind os

abbrev operand_after : Act → Token → Bool
operand_after left t = true
operand_after close t = false
operand_after item t = true
operand_after begin t = true
operand_after plain t = wants_operand t.kind

abbrev consumed : Act → Token → List Token → List Token
consumed left t ts = ts
consumed close t ts = ts
consumed item t ts = t ∷ ts
consumed begin t ts = t ∷ ts
consumed plain t ts = t ∷ ts

-- the first step of marked tokens
data View (os : Opens) (operand : Bool) (z : Option Token) (ys : List Laid) : Type 0 where
  done : ys ≡ [] → z ≡ None → View os operand z ys
  stuck : (t : Token) → ys ≡ [] → z ≡ Some t → act os operand t ≡ left → View os operand z ys
  more : (a : Act) (t : Token) (xs : List Laid) → ys ≡ elements a t xs → act os operand t ≡ a → a ≢ left → next_of ys z ≡ Some t → tokens_of ys ≡ consumed a t (tokens_of xs) → Marked (opens_after operand a t os) (operand_after a t) xs z → View os operand z ys

act_is : (l e i j : Bool) (l' e' i' j' : Bool) → l ≡ l' → e ≡ e' → i ≡ i' → j ≡ j' → act_of l e i j ≡ act_of l' e' i' j'
act_is l e i j l' e' i' j' p q r s = cc

act_left : (l e i j : Bool) → l ≡ true → act_of l e i j ≡ left
act_left true e i j p = refl
act_left false e i j p = cc

act_close : (l e i j : Bool) → l ≡ false → e ≡ true → act_of l e i j ≡ close
act_close false true i j p q = refl
act_close true e i j p q = cc
act_close false false i j p q = cc

act_item : (l e i j : Bool) → l ≡ false → e ≡ false → i ≡ true → act_of l e i j ≡ item
act_item l e i j p q r = act_is l e i j false false true j p q r refl

act_begin : (l e i j : Bool) → l ≡ false → e ≡ false → i ≡ false → j ≡ true → act_of l e i j ≡ begin
act_begin l e i j p q r s = act_is l e i j false false false true p q r s

act_plain : (l e i j : Bool) → l ≡ false → e ≡ false → i ≡ false → j ≡ false → act_of l e i j ≡ plain
act_plain l e i j p q r s = act_is l e i j false false false false p q r s

place_same : (b : Bullet) (at p : Place) → at ≡ p → ListItem b p ≡ ListItem b at
place_same b at p e = cc

not_other : And ≡ Or → ⊥
not_other e = cc

module _ (os : Opens) (operand : Bool) (z : Option Token) where
  view_open : (b : Bullet) (at p : Place) (xs : List Laid) → bullet_at (bullet_token b at).kind ≡ b → (is_some (bullet_of (bullet_token b at).kind) ≡ true) → Marked os operand (ListOpen b at ∷ ListItem b p ∷ xs) z → View os operand z (ListOpen b at ∷ ListItem b p ∷ xs)
  view_open b at p xs e s h = more begin (bullet_token b at) xs
      (ap (λ t. ListOpen b at ∷ t ∷ xs) (place_same b at p h.1) ∙ ap (λ c. ListOpen c at ∷ ListItem c at ∷ xs) (sym e))
      (act_begin _ _ _ _ h.2.not_left h.2.no_end h.3 (ap (λ x. x && operand) s ∙ h.4)) (λ e. cc)
      (ap (λ q. Some (bullet_token b q)) (sym h.1)) (ap (λ q. bullet_token b q ∷ tokens_of xs) (sym h.1))
      (subst (λ c. Marked (InList c at.col ∷ os) true xs z) (sym e) h.5)

  view_item : (b : Bullet) (at : Place) (xs : List Laid) → bullet_at (bullet_token b at).kind ≡ b → Marked os operand (ListItem b at ∷ xs) z → View os operand z (ListItem b at ∷ xs)
  view_item b at xs e h = more item (bullet_token b at) xs (ap (λ c. ListItem c at ∷ xs) (sym e)) (act_item _ _ _ _ h.0.not_left h.0.no_end h.1) (λ e. cc) refl refl h.2

  view : (ys : List Laid) → Marked os operand ys z → View os operand z ys
  view [] h = elim z as (λ w. Marked os operand [] w → View os operand w []) [ None ↦ (λ k. done refl refl) | Some t ↦ (λ k. stuck t refl refl (act_left _ _ _ _ k)) ] h
  view (Plain t ∷ xs) h = more plain t xs refl (act_plain _ _ _ _ h.0.not_left h.0.no_end h.1 h.2) (λ e. cc) refl refl h.3
  view (ListItem And at ∷ xs) h = view_item And at xs refl h
  view (ListItem Or at ∷ xs) h = view_item Or at xs refl h
  view (ListClose at ∷ xs) h =
      more close h.0.token xs (ap (λ p. ListClose p ∷ xs) h.0.place) (act_close _ _ _ _ h.0.not_left h.0.ends_here) (λ e. cc) h.0.next_is refl h.1
  view (ListOpen b at ∷ []) h = absurd h
  view (ListOpen b at ∷ Plain t ∷ xs) h = absurd h
  view (ListOpen b at ∷ ListOpen c p ∷ xs) h = absurd h
  view (ListOpen b at ∷ ListClose p ∷ xs) h = absurd h
  view (ListOpen And at ∷ ListItem And p ∷ xs) h = view_open And at p xs refl refl h
  view (ListOpen Or at ∷ ListItem Or p ∷ xs) h = view_open Or at p xs refl refl h
  view (ListOpen And at ∷ ListItem Or p ∷ xs) h = absurd (not_other h.0)
  view (ListOpen Or at ∷ ListItem And p ∷ xs) h = absurd (not_other (sym h.0))

abbrev pub tail : Option Token → List Token → List Token
tail None r = []
tail (Some t) r = t ∷ r

-- the next token begins the tokens
first_is : (xs : List Laid) (z : Option Token) (r : List Token) (t : Token) → next_of xs z ≡ Some t → (rest : List Token) × (tokens_of xs ++ tail z r ≡ t ∷ rest)
first_is [] None r t e = absurd (let q : None ≡ Some t = e in cc)
first_is [] (Some u) r t e = (r, cc)
first_is (Plain u ∷ xs) z r t e = (tokens_of xs ++ tail z r, cc)
first_is (ListItem b at ∷ xs) z r t e = (tokens_of xs ++ tail z r, cc)
first_is (ListOpen b at ∷ xs) z r t e = first_is xs z r t e
first_is (ListClose at ∷ xs) z r t e = first_is xs z r t e

fewer : (a : Act) (t : Token) (xs : List Laid) → a ≢ left → length xs < length (elements a t xs)
fewer left t xs h = absurd (h refl)
fewer close t xs h = omega arith
fewer item t xs h = omega arith
fewer begin t xs h = omega arith
fewer plain t xs h = omega arith

-- what is left of the tokens behind a step
left_same : (a : Act) (t : Token) (u v p q : List Token) → a ≢ left → consumed a t u ++ p ≡ consumed a t v ++ q → u ++ p ≡ v ++ q
left_same left t u v p q h e = absurd (h refl)
left_same close t u v p q h e = e
left_same item t u v p q h e = cc
left_same begin t u v p q h e = cc
left_same plain t u v p q h e = cc

abbrev Both : List Laid → List Laid → Option Token → Option Token → Type 0
Both xs ys z w = (xs ≡ ys) × (z ≡ w)

no_token : (ys : List Laid) (z w : Option Token) (r s : List Token) (xs : List Laid) (t : Token) → xs ≡ [] → z ≡ None → tokens_of xs ++ tail z r ≡ tokens_of ys ++ tail w s → next_of ys w ≡ Some t → ⊥
no_token ys z w r s xs t e f g n =
    let k = first_is ys w s t n in
    let q : [] ≡ t ∷ k.0 = sym (ap (λ x. tokens_of x ++ tail z r) e ∙ ap (λ x. tail x r) f) ∙ g ∙ k.1 in
    cc

same_token : (xs ys : List Laid) (z w : Option Token) (r s : List Token) (t u : Token) → next_of xs z ≡ Some t → next_of ys w ≡ Some u → tokens_of xs ++ tail z r ≡ tokens_of ys ++ tail w s → t ≡ u
same_token xs ys z w r s t u p q e =
    let k = first_is xs z r t p in
    let l = first_is ys w s u q in
    let g : t ∷ k.0 ≡ u ∷ l.0 = sym k.1 ∙ e ∙ l.1 in
    cc

-- no token is both left of a list and not
not_both : (os : Opens) (operand : Bool) (t u : Token) (a : Act) → t ≡ u → act os operand t ≡ left → act os operand u ≡ a → a ≢ left → ⊥
not_both os operand t u a e f g h = h (sym g ∙ ap (act os operand) (sym e) ∙ f)

same_views : (n : ℕ) (os : Opens) (operand : Bool) (xs ys : List Laid) (z w : Option Token) (r s : List Token) → length xs ≤ n → View os operand z xs → View os operand w ys → tokens_of xs ++ tail z r ≡ tokens_of ys ++ tail w s → Both xs ys z w
same_views n os operand xs ys z w r s l (done a b) (done c d) e = (a ∙ sym c, b ∙ sym d)
same_views n os operand xs ys z w r s l (done a b) (stuck t c d f) e = absurd (no_token ys z w r s xs t a b e (ap (λ x. next_of x w) c ∙ d))
same_views n os operand xs ys z w r s l (done a b) (more c t us f g i j k m) e = absurd (no_token ys z w r s xs t a b e j)
same_views n os operand xs ys z w r s l (stuck t a b c) (done d f) e = absurd (no_token xs w z s r ys t d f (sym e) (ap (λ x. next_of x z) a ∙ b))
same_views n os operand xs ys z w r s l (stuck t a b c) (stuck u d f g) e =
    let q = same_token xs ys z w r s t u (ap (λ x. next_of x z) a ∙ b) (ap (λ x. next_of x w) d ∙ f) e in
    (a ∙ sym d, b ∙ ap (λ x. Some x) q ∙ sym f)
same_views n os operand xs ys z w r s l (stuck t a b c) (more d u us f g i j k m) e =
    absurd (not_both os operand t u d (same_token xs ys z w r s t u (ap (λ x. next_of x z) a ∙ b) j e) c g i)
same_views n os operand xs ys z w r s l (more c t us f g i j k m) (done a b) e = absurd (no_token xs w z s r ys t a b (sym e) j)
same_views n os operand xs ys z w r s l (more d u us f g i j k m) (stuck t a b c) e =
    absurd (not_both os operand t u d (sym (same_token xs ys z w r s u t j (ap (λ x. next_of x w) a ∙ b) e)) c g i)
same_views zero os operand xs ys z w r s l (more d u us f g i j k m) (more c t vs f' g' i' j' k' m') e =
    absurd (omega (arith, fewer d u us i, ap length f))
same_views (suc n) os operand xs ys z w r s l (more d u us f g i j k m) (more c t vs f' g' i' j' k' m') e =
    let q = same_token xs ys z w r s u t j j' e in
    let p : d ≡ c = sym g ∙ ap (act os operand) q ∙ g' in
    let m2 : Marked (opens_after operand d u os) (operand_after d u) vs w =
    subst (λ x. Marked (opens_after operand x u os) (operand_after x u) vs w) (sym p) (subst (λ x. Marked (opens_after operand c x os) (operand_after c x) vs w) (sym q) m')
    in
    let k2 : tokens_of ys ≡ consumed d u (tokens_of vs) = k' ∙ ap (λ x. consumed c x (tokens_of vs)) (sym q) ∙ ap (λ x. consumed x u (tokens_of vs)) (sym p) in
    let e2 = left_same d u (tokens_of us) (tokens_of vs) (tail z r) (tail w s) i (ap (λ x. x ++ tail z r) (sym k) ∙ e ∙ ap (λ x. x ++ tail w s) k2) in
    let both = same_views n (opens_after operand d u os) (operand_after d u) us vs z w r s (omega (arith, fewer d u us i, ap length f)) (view _ _ z us m) (view _ _ w vs m2) e2 in
    (f ∙ ap (elements d u) both.0 ∙ ap (λ x. elements d x vs) q ∙ ap (λ x. elements x t vs) p ∙ sym f', both.1)

same : (n : ℕ) (os : Opens) (operand : Bool) (xs ys : List Laid) (z w : Option Token) (r s : List Token) → length xs ≤ n → Marked os operand xs z → Marked os operand ys w → tokens_of xs ++ tail z r ≡ tokens_of ys ++ tail w s → Both xs ys z w
same n os operand xs ys z w r s l h k e = same_views n os operand xs ys z w r s l (view os operand z xs h) (view os operand w ys k) e

pub append_none : (ts : List Token) → ts ++ [] ≡ ts
append_none [] = refl
append_none (t ∷ ts) = ap (λ x. t ∷ x) (append_none ts)

pub one_laid : (tokens : List Token) (a b : List Laid) → IsLaid tokens a → IsLaid tokens b → a ≡ b
one_laid tokens a b h k =
    (same (length a) [] true a b None None [] [] (omega arith) h.marked k.marked (append_none (tokens_of a) ∙ h.same ∙ sym k.same ∙ sym (append_none (tokens_of b)))).0

pub one_fault : (tokens : List Token) (p q : Place) → IsLeftOfList tokens p → IsLeftOfList tokens q → p ≡ q
one_fault tokens p q h k =
    let both = same (length h.before) [] true h.before k.before (Some h.token) (Some k.token) h.rest k.rest (omega arith) h.marked k.marked (h.same ∙ sym k.same) in
    let t : h.token ≡ k.token = (let e = both.1 in cc) in
    h.here ∙ ap (λ x. x.place) t ∙ sym k.here

pub never_both : (tokens : List Token) (a : List Laid) (p : Place) → IsLaid tokens a → IsLeftOfList tokens p → ⊥
never_both tokens a p h k =
    let both = same (length a) [] true a k.before None (Some k.token) [] k.rest (omega arith) h.marked k.marked (append_none (tokens_of a) ∙ h.same ∙ sym k.same) in
    let e : None ≡ Some k.token = both.1 in
    cc
