-- Each number that is taken keeps what is reached.
use Rattle.std.proofs.Common.{◌≡◌, ◌⊎◌, inl, inr, ℕ, ◌<◌, Bool, true, false, List, [], ◌∷◌, ◌++◌, length, replicate, get_or, set, ap, sym, ◌∙◌, subst, refl, arith, get_or-set_same, get_or-set_other, length-append}
use Rattle.std.specs.List.{Contains}
use Rattle.std.proofs.lemmas.List.{length-set, length-replicate, get_or-replicate, get_or_past}
use Rattle.std.proofs.lemmas.List.Elements.{Contains-append_left, Contains-append_right, Contains-append_cases, Contains-push, Contains-push_cases}
use Rattle.base_use_order.specs.Uses.{Table, Uses, used_by, Leads, IsWithin}
use Rattle.base_use_order.specs.Uses.Leads.{direct, through}
use Rattle.base_use_order.specs.Reaching.{IsReached, Reaches, is_not, left_to_reach}
use Rattle.base_use_order.proofs.Lists.{same_or_not, within_or_past, none_in}
use Rattle.base_use_order.proofs.OrderLaws.{leads_on}
use Rattle.base_use_order.proofs.Weighing.{weight_falls}

-- what is reached stays so, and a is
set_reached : (reached : List Bool) (a b : ℕ) → a < length reached → IsReached reached b ⊎ (a ≡ b) → IsReached (set reached a true) b
set_reached reached a b l h = elim (same_or_not a b) [
  | inl q ↦ subst (λ (w : ℕ). IsReached (set reached a true) w) q (get_or-set_same reached a true false l)
  | inr q ↦ elim h [
    | inl r ↦ get_or-set_other reached a b true false (λ (e : b ≡ a). q (sym e)) ∙ r
    | inr e ↦ absurd (q e)
  ]
]

was_reached : (reached : List Bool) (a b : ℕ) → IsReached (set reached a true) b → IsReached reached b ⊎ (a ≡ b)
was_reached reached a b h = elim (same_or_not a b) [
  | inl q ↦ inr q
  | inr q ↦ inl (sym (get_or-set_other reached a b true false (λ (e : b ≡ a). q (sym e))) ∙ h)
]

none_reached : (n a : ℕ) → IsReached (replicate n false) a → ⊥
none_reached n a h = elim (within_or_past a n) [
  | inl l ↦ let e : get_or (replicate n false) a false ≡ false = get_or-replicate n a false false l in cc
  | inr p ↦ let e : get_or (replicate n false) a false ≡ false = get_or_past (replicate n false) a false (omega (arith, p, length-replicate n false)) in cc
]

-- one number more was taken than what it uses adds
pub fewer_to_reach : (uses : Table) (reached : List Bool) (waiting old new : List ℕ) (a : ℕ) → length reached ≡ length uses → a < length reached → get_or reached a false ≡ false
    → old ≡ waiting ++ a ∷ [] → new ≡ waiting ++ used_by uses a → left_to_reach uses (set reached a true) new < left_to_reach uses reached old
fewer_to_reach uses reached waiting old new a sizes small e f g =
    let falls = weight_falls is_not reached uses a true false (ap is_not e) refl small sizes in
    omega (arith, falls, ap length f, ap length g, length-append waiting (a ∷ []), length-append waiting (used_by uses a))

module _ (uses : Table) (definition : ℕ) (inside : IsWithin uses) where
  pub starts : (reached : List Bool) → length reached ≡ length uses → ((a : ℕ) → IsReached reached a → ⊥) → Reaches uses definition reached (used_by uses definition)
  starts reached sizes none = record {
    sizes = sizes;
    within = λ a h. inside definition a h;
    reached_led = λ a h. absurd (none a h);
    waiting_led = λ a h. direct definition a h;
    first = λ a u. inr u;
    closed = λ a b h u. absurd (none a h);
  }

  pub begins : (n : ℕ) (reached : List Bool) (waiting : List ℕ) → n ≡ length uses → reached ≡ replicate n false → waiting ≡ used_by uses definition → Reaches uses definition reached waiting
  begins n reached waiting e f g =
      subst (λ (w : List ℕ). Reaches uses definition reached w) (sym g)
      (starts reached (ap length f ∙ length-replicate n false ∙ e) (λ a h. none_reached n a (subst (λ (w : List Bool). IsReached w a) f h)))

  module _ (reached : List Bool) (waiting : List ℕ) (a : ℕ) (r : Reaches uses definition reached (waiting ++ a ∷ [])) where
    pub taken_within : a < length uses
    taken_within = r.within a (Contains-push waiting a)

    -- what was reached is passed by
    pub skips : IsReached reached a → Reaches uses definition reached waiting
    skips here =
        let less : (b : ℕ) → IsReached reached b ⊎ Contains (waiting ++ a ∷ []) b → IsReached reached b ⊎ Contains waiting b = λ (b : ℕ) (h : IsReached reached b ⊎ Contains (waiting ++ a ∷ []) b). elim h [
          | inl g ↦ inl g
          | inr g ↦ elim (Contains-push_cases waiting a b g) [ inl w ↦ inr w | inr e ↦ inl (subst (λ (w : ℕ). IsReached reached w) e here) ]
        ] in
        record {
          sizes = r.sizes;
          within = λ b h. r.within b (Contains-append_left waiting (a ∷ []) b h);
          reached_led = r.reached_led;
          waiting_led = λ b h. r.waiting_led b (Contains-append_left waiting (a ∷ []) b h);
          first = λ b u. less b (r.first b u);
          closed = λ b c h u. less c (r.closed b c h u);
        }

    -- what it uses waits, and it is reached
    pub reaches : Reaches uses definition (set reached a true) (waiting ++ used_by uses a)
    reaches =
        let used = used_by uses a in
        let small : a < length reached = omega (arith, taken_within, r.sizes) in
        let led : Leads uses definition a = r.waiting_led a (Contains-push waiting a) in
        let more : (b : ℕ) → IsReached reached b ⊎ Contains (waiting ++ a ∷ []) b → IsReached (set reached a true) b ⊎ Contains (waiting ++ used) b = λ (b : ℕ) (h : IsReached reached b ⊎ Contains (waiting ++ a ∷ []) b). elim h [
          | inl g ↦ inl (set_reached reached a b small (inl g))
          | inr g ↦ elim (Contains-push_cases waiting a b g) [ inl w ↦ inr (Contains-append_left waiting used b w) | inr e ↦ inl (set_reached reached a b small (inr e)) ]
        ] in
        record {
          sizes = length-set reached a true ∙ r.sizes;
          within = λ b h. elim (Contains-append_cases waiting used b h) [ inl w ↦ r.within b (Contains-append_left waiting (a ∷ []) b w) | inr u ↦ inside a b u ];
          reached_led = λ b h. elim (was_reached reached a b h) [ inl g ↦ r.reached_led b g | inr e ↦ subst (λ (w : ℕ). Leads uses definition w) e led ];
          waiting_led = λ b h. elim (Contains-append_cases waiting used b h) [ inl w ↦ r.waiting_led b (Contains-append_left waiting (a ∷ []) b w) | inr u ↦ leads_on uses definition a led b u ];
          first = λ b u. more b (r.first b u);
          closed = λ b c h u. elim (was_reached reached a b h) [
            | inl g ↦ more c (r.closed b c g u)
            | inr e ↦ inr (Contains-append_right waiting used c (subst (λ (w : ℕ). Uses uses w c) (sym e) u))
          ];
        }

  module _ (reached : List Bool) (r : Reaches uses definition reached []) where
    all_reached : (a c : ℕ) → Leads uses a c → ((b : ℕ) → Uses uses a b → IsReached reached b) → IsReached reached c
    all_reached _ _ (direct a b u) f = f b u
    all_reached _ _ (through a b c u l) f = all_reached b c l (λ d v. elim (r.closed b d (f b u) v) [ inl h ↦ h | inr h ↦ absurd (none_in d h) ])

    -- what is reached at the end is what is led to
    pub reached_all : (c : ℕ) → Leads uses definition c → IsReached reached c
    reached_all c l = all_reached definition c l (λ b u. elim (r.first b u) [ inl h ↦ h | inr h ↦ absurd (none_in b h) ])
