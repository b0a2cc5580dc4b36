-- Definitions that stand in order already are taken in turn.
use Rattle.std.proofs.Common.{◌≡◌, inl, inr, ℕ, zero, suc, ◌+◌, ◌-◌, ◌<◌, ◌≤◌, List, [], ◌∷◌, ◌++◌, length, map, reverse, get_or, ap, sym, ◌∙◌, subst, refl, arith}
use Rattle.std.specs.List.{Contains, range_with_len}
use Rattle.std.proofs.lemmas.List.FromFn.{length-range_with_len}
use Rattle.base_use_order.specs.declared.walk.Mark.{Mark}
use Rattle.base_use_order.specs.declared.walk.Mark.TheVariants.{New, Done}
use Rattle.base_use_order.specs.declared.walk.Task.{Task}
use Rattle.base_use_order.specs.declared.walk.Task.TheVariants.{Enter, Leave}
use Rattle.base_use_order.specs.Uses.{Table, used_by, Leads, AreInOrder, IsOrder, SomeUsesItself, numbers_below}
use Rattle.base_use_order.specs.Uses.Leads.{direct, through}
use Rattle.base_use_order.specs.Walks.{InTurn, Stands, Tells, open_in, tasks_from}
use Rattle.base_use_order.proofs.Lists.{head_in, tail_in, below_in, in_below, reversed_in}
use Rattle.base_use_order.proofs.OrderLaws.{has_all}
use Rattle.base_use_order.proofs.Walking.{turned}

-- where each uses only those before it, none uses itself
leads_down : (uses : Table) → AreInOrder uses → (a c : ℕ) → Leads uses a c → c < a
leads_down uses up _ _ (direct a b u) = up a b u
leads_down uses up _ _ (through a b c u l) = let first : b < a = up a b u in let more : c < b = leads_down uses up b c l in omega (arith, first, more)

pub none_in_order : (uses : Table) → AreInOrder uses → SomeUsesItself uses → ⊥
none_in_order uses up h = let down : h.0 < h.0 = leads_down uses up h.0 h.0 h.1 in omega (arith, down)

range_more : (a n : ℕ) → range_with_len a (suc n) ≡ range_with_len a n ++ (a + n) ∷ []
range_more a zero = let same : a ≡ a + 0 = omega arith in ap (λ (w : ℕ). w ∷ []) same
range_more a (suc n) =
    let same : (a + 1) + n ≡ a + suc n = omega arith in
    ap (λ (w : List ℕ). a ∷ w) (range_more (a + 1) n ∙ ap (λ (w : ℕ). range_with_len (a + 1) n ++ w ∷ []) same)

-- the next one to enter
entering_next : (n k a : ℕ) (tasks : List Task) → Enter a ∷ tasks ≡ tasks_from n k → (a ≡ k) × (tasks ≡ tasks_from n (k + 1))
entering_next n k a tasks e = at (n - k) refl e
  where
    at : (m : ℕ) → m ≡ n - k → Enter a ∷ tasks ≡ map Enter (range_with_len k m) → (a ≡ k) × (tasks ≡ tasks_from n (k + 1))
    at zero f g = cc
    at (suc m) f g =
        let same : a ≡ k = cc in
        let rest : tasks ≡ map Enter (range_with_len (k + 1) m) = cc in
        let fewer : m ≡ n - (k + 1) = omega (arith, f) in
        (same, rest ∙ ap (λ (w : ℕ). map Enter (range_with_len (k + 1) w)) fewer)

none_leaves : (n k a : ℕ) (tasks : List Task) → Leave a ∷ tasks ≡ tasks_from n k → ⊥
none_leaves n k a tasks e = at (n - k) e
  where
    at : (m : ℕ) → Leave a ∷ tasks ≡ map Enter (range_with_len k m) → ⊥
    at zero g = cc
    at (suc m) g = cc

module _ (n : ℕ) (order : List ℕ) (tasks : List Task) (a : ℕ) where
  -- one that is done is passed by
  pub turns_by : Contains order a → InTurn n order (Enter a ∷ tasks) → InTurn n order tasks
  turns_by h (k, f, inl e) =
      let next = entering_next n k a tasks e in
      let low : a < k = in_below k a (subst (λ (w : List ℕ). Contains w a) f h) in
      absurd (omega (arith, next.0, low))
  turns_by h (k, f, inr ([], low, e)) = cc
  turns_by h (k, f, inr (x ∷ xs, low, e)) =
      let rest : tasks ≡ map Enter xs ++ Leave k ∷ tasks_from n (k + 1) = cc in
      (k, f, inr (xs, λ b g. low b (tail_in x xs b g), rest))

  -- one that is not is opened
  pub turns_in : (Contains order a → ⊥) → (xs : List ℕ) → ((b : ℕ) → Contains xs b → b < a) → InTurn n order (Enter a ∷ tasks) → InTurn n order (map Enter xs ++ Leave a ∷ tasks)
  turns_in fresh xs down (k, f, inl e) =
      let next = entering_next n k a tasks e in (
        k,
        f,
        inr (
          xs,
          λ b g. subst (λ (w : ℕ). b < w) next.0 (down b g),
          ap (λ (w : ℕ). map Enter xs ++ Leave w ∷ tasks) next.0 ∙ ap (λ (w : List Task). map Enter xs ++ Leave k ∷ w) next.1,
        ),
      )
  turns_in fresh xs down (k, f, inr ([], low, e)) = cc
  turns_in fresh xs down (k, f, inr (y ∷ ys, low, e)) =
      let same : y ≡ a = cc in
      let small : y < k = low y (head_in y ys) in
      absurd (fresh (subst (λ (w : List ℕ). Contains w a) (sym f) (below_in k a (subst (λ (w : ℕ). w < k) same small))))

  pub turns_out : InTurn n order (Leave a ∷ tasks) → InTurn n (order ++ a ∷ []) tasks
  turns_out (k, f, inl e) = absurd (none_leaves n k a tasks e)
  turns_out (k, f, inr ([], low, e)) =
      let same : a ≡ k = cc in
      let rest : tasks ≡ tasks_from n (k + 1) = cc in
      let more : k + 1 ≡ suc k = omega arith in
      (k + 1, ap (λ (w : List ℕ). w ++ a ∷ []) f ∙ ap (λ (w : ℕ). numbers_below k ++ w ∷ []) (same ∙ zero_plus k) ∙ sym (ap numbers_below more ∙ range_more 0 k), inl rest)
    where
      zero_plus : (m : ℕ) → m ≡ 0 + m
      zero_plus m = omega arith
  turns_out (k, f, inr (x ∷ xs, low, e)) = cc

pub turns_first : (n d : ℕ) (order : List ℕ) (tasks : List Task) → d ≤ 0 → order ≡ [] → tasks ≡ tasks_from n d → InTurn n order tasks
turns_first n d order tasks z f e = let first : d ≡ 0 = omega (arith, z) in (0, f, inl (e ∙ ap (tasks_from n) first))

-- at the end all were taken in turn
pub turned_all : (uses : Table) (n : ℕ) (order : List ℕ) (tasks : List Task) → n ≡ length uses → length tasks ≡ 0 → IsOrder uses order → InTurn n order (reverse tasks) → order ≡ numbers_below n
turned_all uses n order tasks size none is (k, f, at) =
    let all : k ≡ n = omega (arith, has_all uses order is, ap length f, length-range_with_len 0 k, size) in
    f ∙ ap numbers_below all

-- A task in the walk, with what its mark tells.
module _ (uses : Table) (up : AreInOrder uses) (n : ℕ) (marks : List Mark) (order : List ℕ) (a : ℕ) where
  pub in_turn_by : (tasks : List Task) → Stands uses marks order (Enter a ∷ tasks) → get_or marks a New ≡ Done → InTurn n order (Enter a ∷ tasks) → InTurn n order tasks
  in_turn_by tasks s e t =
      let told : Tells order (open_in tasks) a Done = subst (λ (m : Mark). Tells order (open_in tasks) a m) e (s.told a) in
      turns_by n order tasks a told.0 t

  pub in_turn_in : (old : List Task) → Stands uses marks order (Enter a ∷ reverse old) → get_or marks a New ≡ New → (used : List ℕ) → used ≡ used_by uses a → (tasks : List Task) → tasks ≡ (old ++ Leave a ∷ []) ++ map Enter used
      → (kept : List ℕ) → kept ≡ order → InTurn n order (Enter a ∷ reverse old) → InTurn n kept (reverse tasks)
  in_turn_in old s e used is tasks come kept g t =
      let told : Tells order (open_in (reverse old)) a New = subst (λ (m : Mark). Tells order (open_in (reverse old)) a m) e (s.told a) in
      let down : (b : ℕ) → Contains (reverse used) b → b < a = λ (b : ℕ) (h : Contains (reverse used) b). up a b (subst (λ (w : List ℕ). Contains w b) is (reversed_in used b h)) in
      subst (λ (w : List ℕ). InTurn n w (reverse tasks)) (sym g)
      (subst (λ (w : List Task). InTurn n order w) (sym (turned uses marks order old a used is tasks come)) (turns_in n order (reverse old) a told.0 (reverse used) down t))

  pub in_turn_out : (old : List Task) (longer : List ℕ) (tasks : List Task) → longer ≡ order ++ a ∷ [] → tasks ≡ old → InTurn n order (Leave a ∷ reverse old) → InTurn n longer (reverse tasks)
  in_turn_out old longer tasks g h t =
      subst (λ (w : List ℕ). InTurn n w (reverse tasks)) (sym g)
      (subst (λ (w : List Task). InTurn n (order ++ a ∷ []) (reverse w)) (sym h) (turns_out n order (reverse old) a t))
