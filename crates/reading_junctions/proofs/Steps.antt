-- The steps of the marking.
use Rattle.std.proofs.Common.{◌≡◌, ℕ, ◌<◌, ◌≤◌, Bool, true, false, ◌&&◌, ◌||◌, cond, not, List, [], ◌∷◌, ◌++◌, length, reverse, Option, Some, None, refl, sym, ap, subst, ◌∙◌, arith, append_assoc}
use Rattle.std.proofs.lemmas.List.{reverse-append}
use Rattle.std.specs.Prelude.{nat_le, ◌==◌}
use Rattle.reading_tokens.specs.declared.token.Token.{Token}
use Rattle.reading_trees.specs.declared.laid.Laid.{Laid}
use Rattle.reading_trees.specs.declared.laid.Laid.TheVariants.{Plain, ListOpen, ListItem, ListClose}
use Rattle.reading_trees.specs.declared.construct.Open.TheVariants.{List as InList, Case, Inside}
use Rattle.reading_trees.specs.Opens.{Opens, bullet_of, has_bullet, is_end, is_left, left_of_some, ends, is_item, without_list}
use Rattle.reading_trees.specs.Laid.{bullet_token, tokens_of, next_of, Marked, IsLaid, IsLeftOfList, EndsOnce}
use Rattle.reading_junctions.specs.declared.marking.Marking.{Marking}
use Rattle.reading_junctions.specs.Steps.{Ends, Marks}

-- only a bullet is an item
pub not_item : (t : Token) (os : Opens) → bullet_of t.kind ≡ None → is_item t os ≡ false
not_item t [] h = refl
not_item t (InList b c ∷ os) h = ap (λ x. has_bullet x b && t.place.col == c) h
not_item t (Case ∷ os) h = not_item t os h
not_item t (Inside c ∷ os) h = refl

rest_of : (b c : Bool) → cond b true c ≡ false → c ≡ false
rest_of true c h = absurd (let q : true ≡ false = h in cc)
rest_of false c h = h

right_left : (col : ℕ) (os : Opens) → left_of_some col os ≡ false → is_left col os ≡ false
right_left col [] h = refl
right_left col (InList b c ∷ os) h = right_left col os (rest_of (nat_le col c) _ h)
right_left col (Case ∷ os) h = right_left col os h
right_left col (Inside c ∷ os) h = h

-- what stands right of all lists stands right of fewer
right_fewer : (col : ℕ) (os : Opens) → left_of_some col os ≡ false → is_left col (without_list os) ≡ false
right_fewer col [] h = refl
right_fewer col (InList b c ∷ os) h = right_left col os (rest_of (nat_le col c) _ h)
right_fewer col (Case ∷ os) h = right_fewer col os h
right_fewer col (Inside c ∷ os) h = right_fewer col os h

left_fewer : (col : ℕ) (os : Opens) → is_left col os ≡ false → is_left col (without_list os) ≡ false
left_fewer col [] h = refl
left_fewer col (InList b c ∷ os) h = h
left_fewer col (Case ∷ os) h = left_fewer col os h
left_fewer col (Inside c ∷ os) h = right_fewer col os h

both_false : (x y : Bool) → ((false && x) || false || (y && false)) ≡ false
both_false x true = refl
both_false x false = refl

no_more : (os : Opens) → length (without_list os) ≤ length os
no_more [] = omega arith
no_more (InList b c ∷ os) = omega arith
no_more (Case ∷ os) = omega (arith, no_more os)
no_more (Inside c ∷ os) = omega (arith, no_more os)

-- a list that ends was open
pub shorter : (operand : Bool) (t : Token) (os : Opens) → ends operand t os ≡ true → length (without_list os) < length os
shorter operand t [] h = absurd (let q : true ≡ false = sym h ∙ both_false (not (is_item t [])) (is_end t.kind) in cc)
shorter operand t (InList b c ∷ os) h = omega arith
shorter operand t (Case ∷ os) h = omega (arith, no_more os)
shorter operand t (Inside c ∷ os) h = omega (arith, no_more os)

append_none : {X : Type 0} (xs : List X) → xs ++ [] ≡ xs
append_none [] = refl
append_none (x ∷ xs) = ap (λ t. x ∷ t) (append_none xs)

pub tokens_append : (xs ys : List Laid) → tokens_of (xs ++ ys) ≡ tokens_of xs ++ tokens_of ys
tokens_append [] ys = refl
tokens_append (Plain t ∷ xs) ys = ap (λ x. t ∷ x) (tokens_append xs ys)
tokens_append (ListItem b at ∷ xs) ys = ap (λ x. bullet_token b at ∷ x) (tokens_append xs ys)
tokens_append (ListOpen b at ∷ xs) ys = tokens_append xs ys
tokens_append (ListClose at ∷ xs) ys = tokens_append xs ys

-- the ends of lists that are marked so far before a token
pub record Closed (old new : Marking) (t : Token) : Type 0 where
  pub added : List Laid
  pub whole : new.laid.items ≡ old.laid.items ++ added
  pub tokens : tokens_of added ≡ []
  pub not_left : is_left t.place.col new.stack ≡ false
  pub on : (xs : List Laid) (z : Option Token) → next_of xs z ≡ Some t → Marked new.stack new.operand xs z → Marked old.stack old.operand (added ++ xs) z

module _ (old : Marking) (t : Token) where
  pub closed_none : is_left t.place.col old.stack ≡ false → Closed old old t
  closed_none h = record { added = []; whole = sym (append_none old.laid.items); tokens = refl; not_left = h; on = λ xs z e m. m }

  pub closed_more : (new more : Marking) → Closed old new t → ends new.operand t new.stack ≡ true → more.laid.items ≡ new.laid.items ++ ListClose t.place ∷ [] → more.stack ≡ without_list new.stack → more.operand ≡ false → Closed old more t
  closed_more new more h e m f o = record {
    added = h.added ++ ListClose t.place ∷ [];
    whole = m ∙ ap (λ x. x ++ ListClose t.place ∷ []) h.whole ∙ append_assoc old.laid.items h.added (ListClose t.place ∷ []);
    tokens = tokens_append h.added (ListClose t.place ∷ []) ∙ ap (λ x. x ++ []) h.tokens;
    not_left = ap (is_left t.place.col) f ∙ left_fewer t.place.col new.stack h.not_left;
    on = λ xs z n k.
        subst (λ x. Marked old.stack old.operand x z) (sym (append_assoc h.added (ListClose t.place ∷ []) xs))
        (h.on (ListClose t.place ∷ xs) z n (
          record { token = t; next_is = n; place = refl; ends_here = e; not_left = h.not_left },
          subst (λ s. Marked s false xs z) f (subst (λ b. Marked more.stack b xs z) o k),
        ));
  }

  pub closed_all : (new : Marking) → Closed old new t → ends new.operand t new.stack ≡ false → Ends old new t
  closed_all new h e = record { added = h.added; whole = h.whole; tokens = h.tokens; stands = record { no_end = e; not_left = h.not_left }; on = h.on }

-- All tokens but the rest are marked.
pub record Done (tokens rest : List Token) (m : Marking) : Type 0 where
  pub same : tokens_of m.laid.items ++ rest ≡ tokens
  pub on : (xs : List Laid) (z : Option Token) → Marked m.stack m.operand xs z → Marked [] true (m.laid.items ++ xs) z
  pub ended : (before : List Token) (t : Token) → tokens_of m.laid.items ≡ before ++ t ∷ [] → is_end t.kind ≡ true → m.stack ≡ []

pub done_none : (tokens rest : List Token) (m : Marking) → rest ≡ tokens → m.laid.items ≡ [] → m.stack ≡ [] → m.operand ≡ true → Done tokens rest m
done_none tokens rest m r l s o = record {
  same = ap (λ x. tokens_of x ++ rest) l ∙ r;
  on = λ xs z k. subst (λ x. Marked [] true (x ++ xs) z) (sym l) (subst (λ x. Marked x true xs z) s (subst (λ b. Marked m.stack b xs z) o k));
  ended = λ before t e w. s;
}

last_same : (xs ys : List Token) (t u : Token) → xs ++ t ∷ [] ≡ ys ++ u ∷ [] → t ≡ u
last_same xs ys t u e =
    let q : t ∷ reverse xs ≡ u ∷ reverse ys = sym (reverse-append xs (t ∷ [])) ∙ ap reverse e ∙ reverse-append ys (u ∷ []) in
    cc

-- what the marking of a token adds to the tokens that were marked
marked_tokens : (m mid new : Marking) (t : Token) → Ends m mid t → Marks mid new t → tokens_of new.laid.items ≡ tokens_of m.laid.items ++ t ∷ []
marked_tokens m mid new t h k =
    ap tokens_of (k.whole ∙ ap (λ x. x ++ k.added) h.whole ∙ append_assoc m.laid.items h.added k.added) ∙ tokens_append m.laid.items (h.added ++ k.added)
    ∙ ap (λ x. tokens_of m.laid.items ++ x) (tokens_append h.added k.added ∙ ap (λ x. x ++ tokens_of k.added) h.tokens ∙ ap tokens_of (sym (append_none k.added)) ∙ k.tokens [])

pub done_more : (tokens rest left : List Token) (t : Token) (m mid new : Marking) → rest ≡ t ∷ left → Done tokens rest m → Ends m mid t → Marks mid new t → Done tokens left new
done_more tokens rest left t m mid new r d h k =
    let whole : new.laid.items ≡ m.laid.items ++ (h.added ++ k.added) = k.whole ∙ ap (λ x. x ++ k.added) h.whole ∙ append_assoc m.laid.items h.added k.added in
    let added = marked_tokens m mid new t h k in
    record {
      same = ap (λ x. x ++ left) added ∙ append_assoc (tokens_of m.laid.items) (t ∷ []) left ∙ ap (λ x. tokens_of m.laid.items ++ x) (sym r) ∙ d.same;
      on = λ xs z n.
          subst (λ x. Marked [] true x z) (sym (ap (λ x. x ++ xs) whole ∙ append_assoc m.laid.items (h.added ++ k.added) xs ∙ ap (λ x. m.laid.items ++ x) (append_assoc h.added k.added xs)))
          (d.on (h.added ++ (k.added ++ xs)) z (h.on (k.added ++ xs) z (k.first xs z) (k.on xs z n)));
      ended = λ before u q w. k.ended (ap (λ x. is_end x.kind) (last_same (tokens_of m.laid.items) before t u (sym added ∙ q)) ∙ w);
    }

pub left_at : (tokens rest left : List Token) (t : Token) (m : Marking) → rest ≡ t ∷ left → Done tokens rest m → is_left t.place.col m.stack ≡ true → IsLeftOfList tokens t.place
left_at tokens rest left t m r d h = record {
  before = m.laid.items;
  token = t;
  rest = left;
  same = ap (λ x. tokens_of m.laid.items ++ x) (sym r) ∙ d.same;
  marked = subst (λ x. Marked [] true x (Some t)) (append_none m.laid.items) (d.on [] (Some t) h);
  here = refl;
}

pub all_done : (tokens rest : List Token) (m : Marking) → rest ≡ [] → Done tokens rest m → EndsOnce tokens → IsLaid tokens m.laid.items
all_done tokens rest m r d h =
    let same : tokens_of m.laid.items ≡ tokens = sym (append_none (tokens_of m.laid.items)) ∙ ap (λ x. tokens_of m.laid.items ++ x) (sym r) ∙ d.same in
    record {
      same = same;
      marked = subst (λ x. Marked [] true x None) (append_none m.laid.items) (d.on [] None (d.ended h.before h.last (same ∙ h.whole) (ap is_end h.is_last)));
    }

pub no_length : (xs : List Token) → length xs ≡ 0 → xs ≡ []
no_length [] h = refl
no_length (x ∷ xs) h = absurd (omega (arith, h))
