-- Each number that is taken keeps what is reached.
use Rattle.std.proofs.Common.{◌≡◌, ◌↔◌, ◌⊎◌, inl, inr, ℕ, ◌<◌, Bool, true, false, List, [], ◌∷◌, ◌++◌, length, replicate, get_or, set, ap, sym, ◌∙◌, subst, refl, arith, get_or-set_same, get_or-set_other, length-append}
use Rattle.std.specs.List.{Contains}
use Rattle.std.proofs.lemmas.List.{length-set, length-replicate, get_or-replicate, get_or_past}
use Rattle.std.proofs.lemmas.List.Elements.{Contains-append_left, Contains-append_right, Contains-append_cases, Contains-push, Contains-push_cases}
use Rattle.base_use_order.specs.Uses.{Table, Uses, used_by, IsWithin}
use Rattle.base_use_order.specs.Reach.{IsLedTo, IsReached, is_first, is_used}
use Rattle.base_use_order.specs.UsersReaching.{Reaches, is_not, left_to_reach}
use Rattle.base_use_order.proofs.Lists.{same_or_not, within_or_past, none_in}
use Rattle.base_use_order.proofs.Weighing.{weight_falls}

-- what is reached stays so, and a is
set_reached : (reached : List Bool) (a b : ℕ) → a < length reached → IsReached reached b ⊎ (a ≡ b) → IsReached (set reached a true) b
set_reached reached a b l h = elim (same_or_not a b) [
  | inl q ↦ subst (λ (w : ℕ). IsReached (set reached a true) w) q (get_or-set_same reached a true false l)
  | inr q ↦ elim h [
    | inl r ↦ get_or-set_other reached a b true false (λ (e : b ≡ a). q (sym e)) ∙ r
    | inr e ↦ absurd (q e)
  ]
]

was_reached : (reached : List Bool) (a b : ℕ) → IsReached (set reached a true) b → IsReached reached b ⊎ (a ≡ b)
was_reached reached a b h = elim (same_or_not a b) [
  | inl q ↦ inr q
  | inr q ↦ inl (sym (get_or-set_other reached a b true false (λ (e : b ≡ a). q (sym e))) ∙ h)
]

none_reached : (n a : ℕ) → IsReached (replicate n false) a → ⊥
none_reached n a h = elim (within_or_past a n) [
  | inl l ↦ let e : get_or (replicate n false) a false ≡ false = get_or-replicate n a false false l in cc
  | inr p ↦ let e : get_or (replicate n false) a false ≡ false = get_or_past (replicate n false) a false (omega (arith, p, length-replicate n false)) in cc
]

-- one number more was taken than what it uses adds
pub fewer_to_reach : (uses : Table) (reached : List Bool) (waiting old new : List ℕ) (a : ℕ) → length reached ≡ length uses → a < length reached → get_or reached a false ≡ false
    → old ≡ waiting ++ a ∷ [] → new ≡ waiting ++ used_by uses a → left_to_reach uses (set reached a true) new < left_to_reach uses reached old
fewer_to_reach uses reached waiting old new a sizes small e f g =
    let falls = weight_falls is_not reached uses a true false (ap is_not e) refl small sizes in
    omega (arith, falls, ap length f, ap length g, length-append waiting (a ∷ []), length-append waiting (used_by uses a))

module _ (uses : Table) (from : List ℕ) (inside : IsWithin uses) where
  starts : (reached : List Bool) → ((a : ℕ) → Contains from a → a < length uses) → length reached ≡ length uses → ((a : ℕ) → IsReached reached a → ⊥) → Reaches uses from reached from
  starts reached few sizes none = record {
    sizes = sizes;
    within = few;
    reached_led = λ a h. absurd (none a h);
    waiting_led = λ a h. is_first a h;
    first = λ a u. inr u;
    closed = λ a b h u. absurd (none a h);
  }

  pub begins : (n : ℕ) (reached : List Bool) (waiting : List ℕ) → ((a : ℕ) → Contains from a → a < length uses) → n ≡ length uses → reached ≡ replicate n false → waiting ≡ from
      → Reaches uses from reached waiting
  begins n reached waiting few e f g =
      subst (λ (w : List ℕ). Reaches uses from reached w) (sym g)
      (starts reached few (ap length f ∙ length-replicate n false ∙ e) (λ a h. none_reached n a (subst (λ (w : List Bool). IsReached w a) f h)))

  module _ (reached : List Bool) (waiting : List ℕ) (a : ℕ) (r : Reaches uses from reached (waiting ++ a ∷ [])) where
    pub taken_within : a < length uses
    taken_within = r.within a (Contains-push waiting a)

    -- what was reached is passed by
    pub skips : IsReached reached a → Reaches uses from reached waiting
    skips here =
        let less : (b : ℕ) → IsReached reached b ⊎ Contains (waiting ++ a ∷ []) b → IsReached reached b ⊎ Contains waiting b = λ (b : ℕ) (h : IsReached reached b ⊎ Contains (waiting ++ a ∷ []) b). elim h [
          | inl g ↦ inl g
          | inr g ↦ elim (Contains-push_cases waiting a b g) [ inl w ↦ inr w | inr e ↦ inl (subst (λ (w : ℕ). IsReached reached w) e here) ]
        ] in
        record {
          sizes = r.sizes;
          within = λ b h. r.within b (Contains-append_left waiting (a ∷ []) b h);
          reached_led = r.reached_led;
          waiting_led = λ b h. r.waiting_led b (Contains-append_left waiting (a ∷ []) b h);
          first = λ b u. less b (r.first b u);
          closed = λ b c h u. less c (r.closed b c h u);
        }

    -- what it uses waits, and it is reached
    pub reaches : Reaches uses from (set reached a true) (waiting ++ used_by uses a)
    reaches =
        let used = used_by uses a in
        let small : a < length reached = omega (arith, taken_within, r.sizes) in
        let led : IsLedTo uses from a = r.waiting_led a (Contains-push waiting a) in
        let more : (b : ℕ) → IsReached reached b ⊎ Contains (waiting ++ a ∷ []) b → IsReached (set reached a true) b ⊎ Contains (waiting ++ used) b = λ (b : ℕ) (h : IsReached reached b ⊎ Contains (waiting ++ a ∷ []) b). elim h [
          | inl g ↦ inl (set_reached reached a b small (inl g))
          | inr g ↦ elim (Contains-push_cases waiting a b g) [ inl w ↦ inr (Contains-append_left waiting used b w) | inr e ↦ inl (set_reached reached a b small (inr e)) ]
        ] in
        record {
          sizes = length-set reached a true ∙ r.sizes;
          within = λ b h. elim (Contains-append_cases waiting used b h) [ inl w ↦ r.within b (Contains-append_left waiting (a ∷ []) b w) | inr u ↦ inside a b u ];
          reached_led = λ b h. elim (was_reached reached a b h) [ inl g ↦ r.reached_led b g | inr e ↦ subst (λ (w : ℕ). IsLedTo uses from w) e led ];
          waiting_led = λ b h. elim (Contains-append_cases waiting used b h) [ inl w ↦ r.waiting_led b (Contains-append_left waiting (a ∷ []) b w) | inr u ↦ is_used a b led u ];
          first = λ b u. more b (r.first b u);
          closed = λ b c h u. elim (was_reached reached a b h) [
            | inl g ↦ more c (r.closed b c g u)
            | inr e ↦ inr (Contains-append_right waiting used c (subst (λ (w : ℕ). Uses uses w c) (sym e) u))
          ];
        }

  module _ (reached : List Bool) (r : Reaches uses from reached []) where
    -- what is led to is reached at the end
    pub reached_all : (c : ℕ) → IsLedTo uses from c → IsReached reached c
    reached_all _ (is_first a h) = elim (r.first a h) [ inl g ↦ g | inr g ↦ absurd (none_in a g) ]
    reached_all _ (is_used a b l u) = elim (r.closed a b (reached_all a l) u) [ inl g ↦ g | inr g ↦ absurd (none_in b g) ]

    pub reached_exactly : (c : ℕ) → IsReached reached c ↔ IsLedTo uses from c
    reached_exactly c = (r.reached_led c, reached_all c)
