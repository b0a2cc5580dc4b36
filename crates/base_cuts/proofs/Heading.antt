-- The next line whose clock is above that of no other.
use Rattle.std.proofs.Common.{◌≡◌, inl, inr, ◌↔◌, ℕ, zero, suc, ◌+◌, ◌<◌, ◌≤◌, Bool, true, false, IsTrue, List, [], ◌∷◌, length, get_or, slice_set, Some, option_map, ap, ◌∙◌, subst, refl, arith, Vec}
use Rattle.std.specs.declared.alloc.Global.{Global}
use Rattle.std.specs.List.{slice_get}
use Rattle.std.proofs.lemmas.Option.{slice_get-map}
use Rattle.base_cuts.specs.Cuts.{Cut, next, taken, with_one}
use Rattle.base_cuts.specs.Orders.{Carries, FollowsBy, sizes_of}
use Rattle.base_cuts.specs.Heads.{HasBelow, IsLeast}
use Rattle.base_cuts.specs.Views.{logs_of}
use Rattle.base_cuts.proofs.Growing.{nat_lt_or, none_past}
use Rattle.base_cuts.proofs.Rules.{clock_line, one_clock, some_is}

pub set_there : (c : Cut) (f n : ℕ) → f < length c → n ≡ suc (taken c f) → slice_set c f n ≡ with_one c f
set_there [] f n h e = absurd (omega (arith, h))
set_there (x ∷ xs) zero n h e = λ i. e i ∷ xs
set_there (x ∷ xs) (suc f) n h e = ap (λ (zs : Cut). x ∷ zs) (set_there xs f n (omega (arith, h)) e)

pub get_any : {X : Type 0} (xs : List X) (i : ℕ) (a b : X) → i < length xs → get_or xs i a ≡ get_or xs i b
get_any [] i a b h = absurd (omega (arith, h))
get_any (x ∷ xs) zero a b h = refl
get_any (x ∷ xs) (suc i) a b h = get_any xs i a b (omega (arith, h))

pub one_more : (P : ℕ → Type 0) (n : ℕ) → ((g : ℕ) → g < n → P g → ⊥) → (P n → ⊥) → (g : ℕ) → g < n + 1 → P g → ⊥
one_more P n h last g l p = elim (nat_lt_or g n) [ inl less ↦ h g less p | inr over ↦ let same : g ≡ n = omega (arith, l, over) in last (subst P same p) ]

no_true : IsTrue false → ⊥
no_true e = cc

pub no_both : (b : Bool) → IsTrue b → b ≡ false → ⊥
no_both b h e = cc

pub found_below : (P : ℕ → Type 0) (n : ℕ) → P n → IsTrue false ↔ ((g : ℕ) → P g → ⊥)
found_below P n p = (λ e. absurd (no_true e), λ h. absurd (h n p))

pub all_below : (P : ℕ → Type 0) → ((g : ℕ) → P g → ⊥) → IsTrue true ↔ ((g : ℕ) → P g → ⊥)
all_below P h = (λ e. h, λ k. refl)

module _ {K : Type 0} where
  long_map : (logs : List (Vec K Global)) → length (sizes_of (logs_of logs)) ≡ length logs
  long_map [] = refl
  long_map (x ∷ xs) = ap suc (long_map xs)

  pub no_log : (logs : List (Vec K Global)) (c : Cut) (f : ℕ) → length logs ≤ f → taken (sizes_of (logs_of logs)) f ≤ taken c f
  no_log logs c f h = let l = long_map logs in let z = none_past (sizes_of (logs_of logs)) f (omega (arith, h, l)) in omega (arith, z)

  size_at : (logs : List (Vec K Global)) (f : ℕ) (log : Vec K Global) → slice_get logs f ≡ Some log → taken (sizes_of (logs_of logs)) f ≡ length log.items
  size_at [] f log e = cc
  size_at (x ∷ xs) zero log e = let same : x ≡ log = some_is e in ap (λ (v : Vec K Global). length v.items) same
  size_at (x ∷ xs) (suc f) log e = size_at xs f log e

  pub no_line : (logs : List (Vec K Global)) (c : Cut) (f : ℕ) (log : Vec K Global) → slice_get logs f ≡ Some log → length log.items ≤ taken c f → taken (sizes_of (logs_of logs)) f ≤ taken c f
  no_line logs c f log e h = let s = size_at logs f log e in omega (arith, s, h)

  pub has_clock : (logs : List (Vec K Global)) (c : Cut) (f : ℕ) (log : Vec K Global) (d : K) → slice_get logs f ≡ Some log → slice_get log.items (taken c f) ≡ Some d → Carries (logs_of logs) (next c f) d
  has_clock logs c f log d e h = (log.items, slice_get-map (λ (v : Vec K Global). v.items) logs f ∙ ap (option_map (λ (v : Vec K Global). v.items)) e, h)

  pub none_below_it : (Above : K → K → Type 0) (clocks : List (List K)) (c : Cut) (f : ℕ) (clock : K) → taken (sizes_of clocks) f ≤ taken c f → HasBelow Above clocks c f clock → ⊥
  none_below_it Above clocks c f clock h b = let l = clock_line clocks f (taken c f) b.1.0 b.0 b.1.1 b.1.2 in omega (arith, h, l)

  pub below_it : (Above : K → K → Type 0) (clocks : List (List K)) (c : Cut) (f : ℕ) (clock other : K) → Carries clocks (next c f) other → Above clock other ↔ HasBelow Above clocks c f clock
  below_it Above clocks c f clock other h = (λ l. (other, h, l), λ b. subst (Above clock) (one_clock clocks (next c f) b.0 other b.1 h) b.2)

  -- no log past the last has a next line
  pub none_further : (Above : K → K → Type 0) (logs : List (Vec K Global)) (c : Cut) (clock : K) → ((g : ℕ) → g < length logs → HasBelow Above (logs_of logs) c g clock → ⊥)
      → (g : ℕ) → HasBelow Above (logs_of logs) c g clock → ⊥
  none_further Above logs c clock h g b =
      elim (nat_lt_or g (length logs)) [ inl l ↦ h g l b | inr over ↦ none_below_it Above (logs_of logs) c g clock (no_log logs c g over) b ]

  pub least_clock : (Above : K → K → Type 0) (clocks : List (List K)) (c : Cut) (f : ℕ) (clock : K) → Carries clocks (next c f) clock
      → ((g : ℕ) → HasBelow Above clocks c g clock → ⊥) ↔ IsLeast (sizes_of clocks) (FollowsBy Above clocks) c f
  least_clock Above clocks c f clock h = (
    λ k. record {
      is = clock_line clocks f (taken c f) h.0 clock h.1 h.2;
      least = λ g line must. k g (must.1, must.3, subst (λ (x : K). Above x must.1) (one_clock clocks (next c f) must.0 clock must.2 h) must.4);
    },
    λ least g b. least.least g (clock_line clocks g (taken c g) b.1.0 b.0 b.1.1 b.1.2) (clock, b.0, h, b.1, b.2),
  )

  pub no_least : (Above : K → K → Type 0) (clocks : List (List K)) (c : Cut) (f : ℕ) → taken (sizes_of clocks) f ≤ taken c f → IsLeast (sizes_of clocks) (FollowsBy Above clocks) c f → ⊥
  no_least Above clocks c f h least = let l = least.is in omega (arith, h, l)

pub one_set : (counts c : Cut) (f n : ℕ) → counts ≡ c → f < length c → n ≡ get_or counts f n → slice_set counts f (n + 1) ≡ with_one c f
one_set counts c f n same inside e =
    let b : f < length counts = let l : length counts ≡ length c = ap length same in omega (arith, l, inside) in
    let value : n ≡ taken counts f = e ∙ get_any counts f n 0 b in
    set_there counts f (n + 1) b (omega (arith, value)) ∙ ap (λ (x : Cut). with_one x f) same
