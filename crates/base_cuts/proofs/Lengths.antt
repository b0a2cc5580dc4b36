-- How many lines an allowed order has.
use Rattle.std.proofs.Common.{◌≡◌, inl, inr, List, [], ◌∷◌, length, ap, sym, ◌∙◌, subst, arith}
use Rattle.base_clock_order.specs.declared.order.LineRef.{LineRef}
use Rattle.base_clocks.specs.Stamps.{IsAbove}
use Rattle.base_cuts.specs.Cuts.{Cut, after, next, nothing, taken, total, with_one}
use Rattle.base_cuts.specs.Orders.{FollowsBy, IsGreater, IsAllowed, IsMade, IsOrderUnder, IsReadyAt, Order, in_sequence, by_clock, by_vectors, sizes, sizes_of}
use Rattle.base_cuts.specs.Heads.{IsRule}
use Rattle.base_cuts.proofs.Lists.{none_in}
use Rattle.base_cuts.proofs.Growing.{after_long, nat_lt_or, nothing_long, total_within, with_long}
use Rattle.base_cuts.proofs.Takes.{IsAll, OrdersRest, order_rest, orders_taken, nothing_within, rest_orders, taken_within}
use Rattle.base_cuts.proofs.Sequences.{total_after, total_nothing}
use Rattle.base_cuts.proofs.Rules.{ready_least}
use Rattle.base_cuts.proofs.Ready.{clock_rule, vector_rule}

module _ (sizes : Cut) (R : LineRef → LineRef → Type 0) (rule : IsRule sizes R) where
  pub end_all : (c : Cut) (xs : List LineRef) → length c ≡ length sizes → OrdersRest sizes R c xs → IsAll sizes (after c xs)
  end_all c [] long r = λ f. elim (nat_lt_or (taken c f) (taken sizes f)) [
    | inl l ↦ absurd (none_in (next c f) (r.all (next c f) l (omega arith)))
    | inr h ↦ h
  ]
  end_all c (l ∷ ls) long r = end_all (with_one c l.file) ls (with_long c l.file ∙ long) (rest_orders sizes R rule c l ls long r)

  pub order_long : (xs : List LineRef) → IsOrderUnder sizes R xs → length xs ≡ total sizes
  order_long xs o =
      let r = order_rest sizes R rule xs o in
      let all = end_all (nothing sizes) xs (nothing_long sizes) r in
      let within = taken_within sizes R rule (nothing sizes) xs (nothing_long sizes) (nothing_within sizes R rule) (orders_taken sizes R rule (nothing sizes) xs (nothing_long sizes) r) in
      let long : length (after (nothing sizes) xs) ≡ length sizes = after_long (nothing sizes) xs ∙ nothing_long sizes in
      let up = total_within (after (nothing sizes) xs) sizes long within in
      let down = total_within sizes (after (nothing sizes) xs) (sym long) all in
      let steps = total_after sizes (nothing sizes) xs (nothing_long sizes) o.lines.lines in
      let none = total_nothing sizes in
      omega (arith, up, down, steps, none)

pub none_rule : (sizes : Cut) → IsRule sizes (λ a b. ⊥)
none_rule sizes = record { down = λ a b i la lb h k. k; never = λ a la k. k; across = λ a b c la lb lc h k. h; decides = λ a b la lb. inr (λ k. k) }

-- an allowed order is as long as all logs together
pub as_long : (o : Order) → IsMade o → (xs : List LineRef) → IsAllowed o xs → length xs ≡ total (sizes o)
as_long (in_sequence files lines) made xs e = ap length e ∙ order_long (sizes (in_sequence files lines)) (λ a b. ⊥) (none_rule _) lines made
as_long (by_clock clocks) made xs h = order_long (sizes_of clocks) (FollowsBy IsGreater clocks) (clock_rule clocks made) xs h
as_long (by_vectors vs) made xs h = order_long (sizes_of vs) (FollowsBy IsAbove vs) (vector_rule vs made) xs h

-- what is ready is the next line of its log
pub next_is : (o : Order) → IsMade o → (c : Cut) (l : LineRef) → IsReadyAt o c l → l ≡ next c l.file
next_is (in_sequence files lines) made c l r =
    (ready_least (sizes (in_sequence files lines)) (λ a b. ⊥) (none_rule _) c l r.0 r.2.0 r.1 (subst (IsOrderUnder (sizes (in_sequence files lines)) (λ a b. ⊥)) (sym r.2.1) made)).0
next_is (by_clock clocks) made c l r = (ready_least (sizes_of clocks) (FollowsBy IsGreater clocks) (clock_rule clocks made) c l r.0 r.2.0 r.1 r.2.1).0
next_is (by_vectors vs) made c l r = (ready_least (sizes_of vs) (FollowsBy IsAbove vs) (vector_rule vs made) c l r.0 r.2.0 r.1 r.2.1).0
