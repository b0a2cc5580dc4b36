-- Parts that must all hold, one after the other: the branches of the first of them, of each of which comes what comes of the next part.
use Rattle.std.proofs.Common.{◌≡◌, ◌⊎◌, inl, inr, refl, sym, subst, arith, ℕ, ◌<◌, ◌≤◌, ◌+◌, ◌-◌, List, [], ◌∷◌, ◌++◌, map, length}
use Rattle.std.specs.Prelude.{Contains}
use Rattle.steps_why_branches.specs.Choices.{Choices, Before}
use Rattle.states_core.specs.States.{Values}
use Rattle.names_terms.specs.Terms.{Term}
use Rattle.eval_meanings.specs.Contexts.{Context, Places}
use Rattle.steps_found_states.specs.Parts.{Parts}
use Rattle.steps_why_branches.specs.Traces.{Earlier, End, Stood, Trace, added, ended, passed}
use Rattle.steps_why_branches.specs.Branches.{Goes, Onward, Turning, stood}
use Rattle.steps_why_branches.specs.Firsts.{CoverOn, CoveredBy, Covering, Covers, Each, Firsts, HasSoMany, Reaches}
use Rattle.steps_why_branches.specs.declared.why.Why.{Why}
use Rattle.steps_why_branches.proofs.Elements.{in_map, map_length, append_length}
use Rattle.steps_why_branches.proofs.Order.{before_longer, longer_after, before_behind}
use Rattle.steps_why_branches.proofs.FirstBranches.{firsts_none, firsts_one, firsts_map, firsts_append, firsts_full}
use Rattle.steps_found_states.proofs.Lists.{in_cases, in_left, in_right, one_in}
use Rattle.values_core.specs.Ascending.{head_in, none_in}

module _ (part : Turning) (d : ℕ) where
  -- one part more
  pub onward_more : (es : Parts) (e : Context × Term) (y z x : Trace) → Onward part d es y z → Goes part d e z z.end x → Onward part d (es ++ e ∷ []) y x
  onward_more [] e y z x h g = (x, subst (λ (w : Trace). Goes part d e w w.end x) h g, refl)
  onward_more (a ∷ es) e y z x h g = (h.0, h.1, onward_more es e h.0 z x h.2 g)

  pub onward_less : (es : Parts) (e : Context × Term) (y x : Trace) → Onward part d (es ++ e ∷ []) y x → (z : Trace) × Onward part d es y z × Goes part d e z z.end x
  onward_less [] e y x h = (y, refl, subst (λ (w : Trace). Goes part d e y y.end w) (sym h.2) h.1)
  onward_less (a ∷ es) e y x h = let r = onward_less es e h.0 x h.2 in (r.0, (h.0, h.1, r.1), r.2)

  -- what comes of an earlier branch is earlier

  goes_before : (e : Context × Term) (y : Trace) (n : End) (x : Trace) (js : Choices) → Goes part d e y n x → Before y.choices js → Before x.choices js
  goes_before e y (passed q) x js g h = subst (λ (w : Trace). Before w.choices js) (sym g.2) (before_longer y.choices js g.0.choices h)
  goes_before e y (ended q s w) x js g h = subst (λ (z : Trace). Before z.choices js) (sym g) h

  goes_after : (e : Context × Term) (y : Trace) (n : End) (x : Trace) (is : Choices) → Goes part d e y n x → Before is y.choices → Before is x.choices
  goes_after e y (passed q) x is g h = subst (λ (w : Trace). Before is w.choices) (sym g.2) (longer_after is y.choices g.0.choices h)
  goes_after e y (ended q s w) x is g h = subst (λ (z : Trace). Before is z.choices) (sym g) h

  goes_in_order : (e : Context × Term) (y z x w : Trace) → Earlier y z → Goes part d e y y.end x → Goes part d e z z.end w → Earlier x w
  goes_in_order e y z x w h g i = goes_after e z z.end w x.choices i (goes_before e y y.end x z.choices g h)

  -- what comes of one branch
  pub goes_on : (k : ℕ) (e : Context × Term) (y : Trace) (q : Places) (zs : List Trace) → Firsts k (part y.spared e.0 e.1 q) zs → Firsts k (Goes part d e y (passed q)) (map (added (stood d e) y) zs)
  goes_on k e y q zs a = firsts_map k (part y.spared e.0 e.1 q) (Goes part d e y (passed q)) (added (stood d e) y) zs
      (λ x z h. before_behind y.choices x.choices z.choices h) (λ x p. (x, p, refl)) (λ x g. g) a

  pub goes_no_more : (k : ℕ) (e : Context × Term) (y : Trace) (q : Places) (s : Stood) (w : Why) → 1 ≤ k → Firsts k (Goes part d e y (ended q s w)) (y ∷ [])
  goes_no_more k e y q s w l = firsts_one k (Goes part d e y (ended q s w)) y l refl (λ x g. g)

  -- what comes of each

  pub each_none : (k : ℕ) (e : Context × Term) → Each k part d e [] []
  each_none k e = record {
    firsts = firsts_none k (Reaches part d e []) (λ x h. none_in h.0 h.1);
    grows = inl (omega arith);
  }

  reached_less : (e : Context × Term) (ps qs : List Trace) (x : Trace) → Reaches part d e ps x → Reaches part d e (ps ++ qs) x
  reached_less e ps qs x h = (h.0, in_left ps qs h.0 h.1, h.2)

  reached_one : (e : Context × Term) (ps : List Trace) (y x : Trace) → Goes part d e y y.end x → Reaches part d e (ps ++ y ∷ []) x
  reached_one e ps y x h = (y, in_right ps (y ∷ []) y (head_in y []), h)

  reached_cases : (e : Context × Term) (ps : List Trace) (y x : Trace) → Reaches part d e (ps ++ y ∷ []) x → Reaches part d e ps x ⊎ Goes part d e y y.end x
  reached_cases e ps y x h = elim (in_cases ps (y ∷ []) h.0 h.1) [
    | inl m ↦ inl (h.0, m, h.2)
    | inr m ↦ inr (subst (λ (z : Trace). Goes part d e z z.end x) (sym (one_in y h.0 m)) h.2)
  ]

  reached_in_order : (e : Context × Term) (ps : List Trace) (y : Trace) → ((x : Trace) → Contains ps x → Earlier x y) → (x z : Trace) → Reaches part d e ps x → Goes part d e y y.end z → Earlier x z
  reached_in_order e ps y h x z r g = goes_in_order e r.0 y x z (h r.0 r.1) r.2 g

  pub each_more : (k : ℕ) (e : Context × Term) (ps : List Trace) (y : Trace) (ys zs : List Trace) → ((x : Trace) → Contains ps x → Earlier x y) → length ys < k
      → Each k part d e ps ys → Firsts (k - length ys) (Goes part d e y y.end) zs → 1 ≤ length zs → Each k part d e (ps ++ y ∷ []) (ys ++ zs)
  each_more k e ps y ys zs h s a b one = record {
    firsts = firsts_append k (Reaches part d e ps) (Goes part d e y y.end) (Reaches part d e (ps ++ y ∷ [])) ys zs
        (reached_less e ps (y ∷ [])) (reached_one e ps y) (reached_cases e ps y) (reached_in_order e ps y h) s a.firsts b;
    grows = grown a.grows;
  }
    where
      grown : HasSoMany (length ps) k ys → HasSoMany (length (ps ++ y ∷ [])) k (ys ++ zs)
      grown (inl g) =
          let l : length (ps ++ y ∷ []) ≡ length ps + length (y ∷ []) = append_length ps (y ∷ []) in
          let m : length (ys ++ zs) ≡ length ys + length zs = append_length ys zs in
          inl (omega (arith, g, l, m, one))
      grown (inr g) = absurd (omega (arith, g, s))

  pub each_full : (k : ℕ) (e : Context × Term) (ps : List Trace) (y : Trace) (ys : List Trace) → ((x : Trace) → Contains ps x → Earlier x y) → k ≤ length ys
      → Each k part d e ps ys → Each k part d e (ps ++ y ∷ []) ys
  each_full k e ps y ys h s a = record {
    firsts = firsts_full k (Reaches part d e ps) (Goes part d e y y.end) (Reaches part d e (ps ++ y ∷ [])) ys
        (reached_less e ps (y ∷ [])) (reached_cases e ps y) (reached_in_order e ps y h) s a.firsts;
    grows = inr s;
  }

  -- and so of anything with one part more
  pub then_more : (k : ℕ) (P : Trace → Type 0) (e : Context × Term) (xs ys : List Trace) → Firsts k P xs → Each k part d e xs ys → Firsts k (λ x. (y : Trace) × P y × Goes part d e y y.end x) ys
  then_more k P e xs ys a b = record {
    ordered = b.firsts.ordered;
    few = b.firsts.few;
    are = λ x m. let r = b.firsts.are x m in (r.0, a.are r.0 r.1, r.2);
    rest = λ x h. beyond x h.0 (a.rest h.0 h.1) h.2;
  }
    where
      full : k ≤ length xs → HasSoMany (length xs) k ys → k ≤ length ys
      full l (inl g) = omega (arith, l, g)
      full l (inr g) = g

      beyond : (x z : Trace) → Contains xs z ⊎ ((k ≤ length xs) × ((w : Trace) → Contains xs w → Earlier w z)) → Goes part d e z z.end x
          → Contains ys x ⊎ ((k ≤ length ys) × ((w : Trace) → Contains ys w → Earlier w x))
      beyond x z (inl m) g = b.firsts.rest x (z, m, g)
      beyond x z (inr m) g = inr (full m.0 b.grows, λ w n. let r = b.firsts.are w n in goes_in_order e r.0 z w x (m.1 r.0 r.1) r.2 g)

  -- and so of the parts with one more
  pub turn_more : (k : ℕ) (es : Parts) (e : Context × Term) (y : Trace) (xs ys : List Trace) → Firsts k (Onward part d es y) xs → Each k part d e xs ys → Firsts k (Onward part d (es ++ e ∷ []) y) ys
  turn_more k es e y xs ys a b = record {
    ordered = b.firsts.ordered;
    few = b.firsts.few;
    are = λ x m. let r = b.firsts.are x m in onward_more es e y r.0 x (a.are r.0 r.1) r.2;
    rest = λ x h. let r = onward_less es e y x h in beyond x r.0 (a.rest r.0 r.1) r.2;
  }
    where
      full : k ≤ length xs → HasSoMany (length xs) k ys → k ≤ length ys
      full l (inl g) = omega (arith, l, g)
      full l (inr g) = g

      beyond : (x z : Trace) → Contains xs z ⊎ ((k ≤ length xs) × ((w : Trace) → Contains xs w → Earlier w z)) → Goes part d e z z.end x
          → Contains ys x ⊎ ((k ≤ length ys) × ((w : Trace) → Contains ys w → Earlier w x))
      beyond x z (inl m) g = b.firsts.rest x (z, m, g)
      beyond x z (inr m) g = inr (full m.0 b.grows, λ w n. let r = b.firsts.are w n in goes_in_order e r.0 z w x (m.1 r.0 r.1) r.2 g)

-- which states are covered

pub covered_left : (xs ys : List Trace) (t : Values) → CoveredBy xs t → CoveredBy (xs ++ ys) t
covered_left xs ys t h = (h.0, in_left xs ys h.0 h.1, h.2)

pub covered_right : (xs ys : List Trace) (t : Values) → CoveredBy ys t → CoveredBy (xs ++ ys) t
covered_right xs ys t h = (h.0, in_right xs ys h.0 h.1, h.2)

-- a change that leaves the ends as they are
pub covered_map : (f : Trace → Trace) → ((x : Trace) → (f x).end ≡ x.end) → (xs : List Trace) (t : Values) → CoveredBy xs t → CoveredBy (map f xs) t
covered_map f h xs t c = (f c.0, in_map f xs c.0 c.1, subst (λ (n : End). Covers n t) (sym (h c.0)) c.2)

pub covering_map : (f : Trace → Trace) → ((x : Trace) → (f x).end ≡ x.end) → (k : ℕ) (p : Places) (H : Values → Type 0) (xs : List Trace) → Covering k p H xs → Covering k p H (map f xs)
covering_map f h k p H xs c t i g = elim (c t i g) [
  | inl m ↦ inl (covered_map f h xs t m)
  | inr m ↦ inr (subst (λ (n : ℕ). k ≤ n) (sym (map_length f xs)) m)
]

pub cover_none : (k : ℕ) (H : Values → Type 0) → CoverOn k H [] []
cover_none k H x t m c h = absurd (none_in x m)

module _ (k : ℕ) (H : Values → Type 0) (ps : List Trace) (y : Trace) (ys zs : List Trace) where
  pub cover_more : CoverOn k H ps ys → ((t : Values) → Covers y.end t → H t → CoveredBy zs t ⊎ (k - length ys ≤ length zs)) → CoverOn k H (ps ++ y ∷ []) (ys ++ zs)
  cover_more a b x t m c h = elim (in_cases ps (y ∷ []) x m) [
    | inl n ↦ elim (a x t n c h) [
      | inl o ↦ inl (covered_left ys zs t o)
      | inr o ↦ inr (let all : length (ys ++ zs) ≡ length ys + length zs = append_length ys zs in omega (arith, all, o))
    ]
    | inr n ↦ elim (b t (subst (λ (z : Trace). Covers z.end t) (sym (one_in y x n)) c) h) [
      | inl o ↦ inl (covered_right ys zs t o)
      | inr o ↦ inr (let all : length (ys ++ zs) ≡ length ys + length zs = append_length ys zs in omega (arith, all, o))
    ]
  ]

pub cover_full : (k : ℕ) (H : Values → Type 0) (ps ys : List Trace) → k ≤ length ys → CoverOn k H ps ys
cover_full k H ps ys l x t m c h = inr l

-- what an ended branch covers it covers still
pub covers_still : (k : ℕ) (y : Trace) (t : Values) → Covers y.end t → CoveredBy (y ∷ []) t ⊎ (k ≤ length (y ∷ []))
covers_still k y t c = inl (y, head_in y [], c)

pub turn_covers : (k : ℕ) (p : Places) (H K L : Values → Type 0) (xs ys : List Trace) → ((t : Values) → L t → H t × K t) → HasSoMany (length xs) k ys
    → Covering k p H xs → CoverOn k K xs ys → Covering k p L ys
turn_covers k p H K L xs ys i g a b t c h = elim (a t c (i t h).0) [
  | inl m ↦ b m.0 t m.1 m.2 (i t h).1
  | inr m ↦ inr (full m g)
]
  where
    full : k ≤ length xs → HasSoMany (length xs) k ys → k ≤ length ys
    full l (inl g) = omega (arith, l, g)
    full l (inr g) = g
