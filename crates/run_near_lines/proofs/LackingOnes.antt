-- What is seen and alone is lacking.
use Rattle.std.proofs.Common.{◌≡◌, ◌⊎◌, inl, inr, refl, sym, ◌∙◌, ap, subst, ℕ, List, [], ◌∷◌, ◌++◌, append_assoc, true, false, is_some, option_map}
use Rattle.std.specs.Prelude.{All, MatchOption, Option, None, Some}
use Rattle.std.specs.List.{AllByRecursion}
use Rattle.values_core.specs.Data.{Val}
use Rattle.eval_meanings.specs.Contexts.{Places}
use Rattle.logs_updates.specs.Changes.{Finds}
use Rattle.logs_updates.specs.declared.line.Line.{Line}
use Rattle.logs_updates.specs.declared.update.See.{See}
use Rattle.steps_found_states.proofs.Lists.{all_by_place, place_by_all}
use Rattle.steps_why_not.specs.Lines.{StandsIn}
use Rattle.run_texts.specs.Answers.{Named}
use Rattle.run_near_lines.specs.Adding.{IsOnly, LackingSays}
use Rattle.run_near_lines.specs.Near.{LacksAlone, StandsAt}
use Rattle.run_near_lines.specs.Texts.{unseen_text}
use denote.Ref.{Bor}

-- of what was seen so far this alone does not stand there, or all does
abbrev pub LacksSoFar : List See → Places → Option See → Type 0
LacksSoFar sees q None = All (StandsIn q) sees
LacksSoFar sees q (Some z) = LacksAlone sees q z

module _ (q : Places) where
  -- the same, one thing after the other
  abbrev Alone : List See → See → Type 0
  Alone [] see = ⊥
  Alone (z ∷ zs) see = ((StandsIn q z → ⊥) × (z ≡ see) × AllByRecursion (StandsIn q) zs) ⊎ (StandsIn q z × Alone zs see)

  alone_behind : (before behind : List See) (see : See) → AllByRecursion (StandsIn q) before → (StandsIn q see → ⊥) → AllByRecursion (StandsIn q) behind → Alone (before ++ see ∷ behind) see
  alone_behind [] behind see a n b = inl (n, refl, b)
  alone_behind (z ∷ before) behind see a n b = inr (a.0, alone_behind before behind see a.1 n b)

  each : (sees : List See) → All (StandsIn q) sees → AllByRecursion (StandsIn q) sees
  each sees h = place_by_all (StandsIn q) sees h

  alone_is : (sees : List See) (see : See) → LacksAlone sees q see → Alone sees see
  alone_is sees see h = subst (λ (zs : List See). Alone zs see) (sym h.all) (alone_behind h.before h.behind see (each h.before h.earlier) h.lacks (each h.behind h.later))

  none_alone : (sees : List See) (see : See) → AllByRecursion (StandsIn q) sees → Alone sees see → ⊥
  none_alone [] see a h = h
  none_alone (z ∷ zs) see a (inl h) = h.0 a.0
  none_alone (z ∷ zs) see a (inr h) = none_alone zs see a.1 h.1

  stands_behind : (xs ys : List See) (x : See) → AllByRecursion (StandsIn q) (xs ++ x ∷ ys) → StandsIn q x
  stands_behind [] ys x a = a.0
  stands_behind (z ∷ xs) ys x a = stands_behind xs ys x a.1

  two_alone : (xs ys : List See) (x z see : See) → Alone xs z → (StandsIn q x → ⊥) → Alone (xs ++ x ∷ ys) see → ⊥
  two_alone [] ys x z see a n h = a
  two_alone (y ∷ xs) ys x z see (inl a) n (inl h) = n (stands_behind xs ys x h.2)
  two_alone (y ∷ xs) ys x z see (inl a) n (inr h) = a.0 h.0
  two_alone (y ∷ xs) ys x z see (inr a) n (inl h) = h.0 a.0
  two_alone (y ∷ xs) ys x z see (inr a) n (inr h) = two_alone xs ys x z see a.1 n h.1

  same_alone : (sees : List See) (see z : See) → Alone sees see → Alone sees z → see ≡ z
  same_alone [] see z a b = absurd a
  same_alone (y ∷ ys) see z (inl a) (inl b) = sym a.1 ∙ b.1
  same_alone (y ∷ ys) see z (inl a) (inr b) = absurd (a.0 b.0)
  same_alone (y ∷ ys) see z (inr a) (inl b) = absurd (b.0 a.0)
  same_alone (y ∷ ys) see z (inr a) (inr b) = same_alone ys see z a.1 b.1

  -- one thing is lacking, and no other is

  pub one_alone : (sees : List See) (see z : See) → LacksAlone sees q see → LacksAlone sees q z → see ≡ z
  one_alone sees see z a b = same_alone sees see z (alone_is sees see a) (alone_is sees z b)

  pub none_lacks : (sees : List See) → All (StandsIn q) sees → (see : See) → LacksAlone sees q see → ⊥
  none_lacks sees a see h = none_alone sees see (each sees a) (alone_is sees see h)

  pub two_lack : (sees xs ys : List See) (x z : See) → xs ++ x ∷ ys ≡ sees → LacksAlone xs q z → (StandsIn q x → ⊥) → (see : See) → LacksAlone sees q see → ⊥
  two_lack sees xs ys x z e a n see h = two_alone xs ys x z see (alone_is xs z a) n (subst (λ (zs : List See). Alone zs see) (sym e) (alone_is sees see h))

  -- one thing more

  all_more : (xs : List See) (x : See) → AllByRecursion (StandsIn q) xs → StandsIn q x → AllByRecursion (StandsIn q) (xs ++ x ∷ [])
  all_more [] x a s = (s, tt)
  all_more (z ∷ xs) x a s = (a.0, all_more xs x a.1 s)

  pub stands_more : (xs : List See) (x : See) → All (StandsIn q) xs → StandsIn q x → All (StandsIn q) (xs ++ x ∷ [])
  stands_more xs x a s = all_by_place (StandsIn q) (xs ++ x ∷ []) (all_more xs x (each xs a) s)

  pub lacks_first : (xs : List See) (x : See) → All (StandsIn q) xs → (StandsIn q x → ⊥) → LacksAlone (xs ++ x ∷ []) q x
  lacks_first xs x a n = record { before = xs; behind = []; all = refl; earlier = a; lacks = n; later = all_by_place (StandsIn q) [] tt }

  pub lacks_more : (xs : List See) (x z : See) → LacksAlone xs q z → StandsIn q x → LacksAlone (xs ++ x ∷ []) q z
  lacks_more xs x z h s = record {
    before = h.before;
    behind = h.behind ++ x ∷ [];
    all = ap (λ (zs : List See). zs ++ x ∷ []) h.all ∙ append_assoc h.before (z ∷ h.behind) (x ∷ []);
    earlier = h.earlier;
    lacks = h.lacks;
    later = stands_more h.behind x h.later s;
  }

  -- so far

  pub more_stands : (xs : List See) (x : See) (o : Option See) → LacksSoFar xs q o → StandsIn q x → LacksSoFar (xs ++ x ∷ []) q o
  more_stands xs x None h s = stands_more xs x h s
  more_stands xs x (Some z) h s = lacks_more xs x z h s

  pub first_lacks : (xs : List See) (x : See) (o : Option See) → LacksSoFar xs q o → o ≡ None → (StandsIn q x → ⊥) → LacksAlone (xs ++ x ∷ []) q x
  first_lacks xs x None h e n = lacks_first xs x h n
  first_lacks xs x (Some z) h e n = absurd (not_none z e)
    where
      not_none : (z : See) → ◌≡◌ {A = Option See} (Some z) None → ⊥
      not_none z e = cc

  pub second_lacks : (sees xs ys : List See) (x : See) (o : Option See) → xs ++ x ∷ ys ≡ sees → LacksSoFar xs q o → (o ≡ None → ⊥) → (StandsIn q x → ⊥) → (see : See) → LacksAlone sees q see → ⊥
  second_lacks sees xs ys x None e h some n see k = some refl
  second_lacks sees xs ys x (Some z) e h some n see k = two_lack sees xs ys x z e h n see k

  -- the text of the one that is lacking
  pub lacking_text : (line : Line) (l : Named) (see : See) (o : Option Val) → LacksAlone line.sees q see → IsOnly (Finds (StandsAt q see.path)) o → (t : List ℕ) → LackingSays line l q t → t ≡ unseen_text l line.at see o
  lacking_text line l see o alone only t h =
      let same : h.see ≡ see = one_alone line.sees h.see see h.alone alone in
      let found : h.stands ≡ o = only.alone h.stands (subst (λ (z : See). Finds (StandsAt q z.path) h.stands) same h.found) in
      h.is ∙ ap (λ (z : See). unseen_text l line.at z h.stands) same ∙ ap (λ (z : Option Val). unseen_text l line.at see z) found

-- where the search ends
pub lacks_done : (sees : List See) (q : Places) (o : Option (Bor See)) → LacksSoFar sees q (option_map (λ v. v.now) o) → MatchOption o ((see : See) → LacksAlone sees q see → ⊥) (λ see. LacksAlone sees q see.now)
lacks_done sees q None h = none_lacks q sees h
lacks_done sees q (Some z) h = h

pub some_not : (o : Option (Bor See)) → is_some o ≡ true → option_map (λ v. v.now) o ≡ None → ⊥
some_not None e f = cc
some_not (Some z) e f = cc

pub none_is : (o : Option (Bor See)) → is_some o ≡ false → option_map (λ v. v.now) o ≡ None
none_is None e = refl
none_is (Some z) e = cc
