-- Where there is an order, no definition uses itself, and all are in the order.
use Rattle.std.proofs.Common.{◌≡◌, ◌≢◌, inl, inr, ℕ, ◌<◌, ◌≤◌, List, [], ◌∷◌, ◌++◌, length, ap, sym, ◌∙◌, subst, arith, append_assoc}
use Rattle.std.specs.List.{Contains, AllPairs, range_with_len}
use Rattle.std.proofs.lemmas.List.{get_or_past}
use Rattle.std.proofs.lemmas.List.Elements.{Contains-append_left}
use Rattle.std.proofs.lemmas.List.FromFn.{length-range_with_len}
use Rattle.base_use_order.specs.Uses.{Table, Uses, Leads, IsOrder, NoneUsesItself, HasAll}
use Rattle.base_use_order.specs.Uses.Leads.{direct, through}
use Rattle.base_use_order.proofs.Lists.{within_or_past, none_in, cut_at, not_twice, no_more, below_in, in_below, below_once}

-- what uses one is a definition
pub user_within : (uses : Table) (a b : ℕ) → Uses uses a b → a < length uses
user_within uses a b u = elim (within_or_past a (length uses)) [
  | inl l ↦ l
  | inr past ↦ absurd (none_in b (subst (λ (w : List ℕ). Contains w b) (get_or_past uses a [] past) u))
]

module _ (uses : Table) where
  pub leads_within : (a c : ℕ) → Leads uses a c → a < length uses
  leads_within _ _ (direct a b u) = user_within uses a b u
  leads_within _ _ (through a b c u l) = user_within uses a b u

  -- one more use at the end
  pub leads_on : (a b : ℕ) → Leads uses a b → (c : ℕ) → Uses uses b c → Leads uses a c
  leads_on _ _ (direct a b u) c v = through a b c u (direct b c v)
  leads_on _ _ (through a b d u l) c v = through a b c u (leads_on b d l c v)

module _ (uses : Table) (order : List ℕ) (is : IsOrder uses order) where
  leads_before : (a c : ℕ) → Leads uses a c → (before after : List ℕ) → order ≡ before ++ a ∷ after → Contains before c
  leads_before _ _ (direct a b u) before after e = is.used_before a b before after e u
  leads_before _ _ (through a b c u l) before after e =
      let cut = cut_at before b (is.used_before a b before after e u) in
      let deeper : order ≡ cut.0 ++ b ∷ (cut.1 ++ a ∷ after) = e ∙ ap (λ (w : List ℕ). w ++ a ∷ after) cut.2 ∙ append_assoc cut.0 (b ∷ cut.1) (a ∷ after) in
      subst (λ (w : List ℕ). Contains w c) (sym cut.2) (Contains-append_left cut.0 (b ∷ cut.1) c (leads_before b c l cut.0 (cut.1 ++ a ∷ after) deeper))

pub none_uses_itself : NoneUsesItself
none_uses_itself uses order is a l =
    let cut = cut_at order a ((is.all a).0 (leads_within uses a a l)) in
    not_twice cut.0 cut.1 a (subst (λ (w : List ℕ). AllPairs (λ a b. a ≢ b) w) cut.2 is.once) (leads_before uses order is a a l cut.0 cut.1 cut.2)

pub has_all : HasAll
has_all uses order is =
    let n = length uses in
    let up : length order ≤ length (range_with_len 0 n) = no_more order (range_with_len 0 n) is.once (λ a h. below_in n a ((is.all a).1 h)) in
    let down : length (range_with_len 0 n) ≤ length order = no_more (range_with_len 0 n) order (below_once n) (λ a h. (is.all a).0 (in_below n a h)) in
    omega (arith, up, down, length-range_with_len 0 n)
