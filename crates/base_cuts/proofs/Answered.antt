-- What is answered of each kind of order.
use Rattle.std.proofs.Common.{◌≡◌, ◌↔◌, ℕ, ℤ, Bool, IsTrue, IfOk, Result, List, Some, ap, sym, ◌∙◌, subst, refl}
use Rattle.std.specs.List.{slice_get}
use Rattle.base_clock_order.specs.declared.order.LineRef.{LineRef}
use Rattle.base_clocks.specs.Stamps.{IsAbove}
use Rattle.base_clocks.specs.declared.stamp.Stamp.{Stamp}
use Rattle.base_cuts.specs.Cuts.{Cut, next, total}
use Rattle.base_cuts.specs.Heads.{IsLeast}
use Rattle.base_cuts.specs.Orders.{FollowsBy, IsCut, IsGreater, IsMade, IsReadyAt, Order, by_clock, by_vectors, in_sequence, sizes_of, start}
use Rattle.base_cuts.proofs.Ready.{by_clocks, by_vector, in_order}

-- the cut is that at which nothing is taken
pub starts : {E : Type 0} (r : Result Cut E) (c : Cut) (o p : Order) → IfOk r (λ cut. cut ≡ c) → c ≡ start o → o ≡ p → IfOk r (λ cut. cut ≡ start p)
starts r c o p h e same = subst (λ (d : Cut). IfOk r (λ cut. cut ≡ d)) (e ∙ ap start same) h

-- of a sequence
pub ready_in_sequence : (o : Order) (files : ℕ) (lines : List LineRef) → in_sequence files lines ≡ o → IsMade o → (c : Cut) → IsCut o c → (f : ℕ) (b : Bool)
    → IsTrue b ↔ (slice_get lines (total c) ≡ Some (next c f)) → IsTrue b ↔ IsReadyAt o c (next c f)
ready_in_sequence o files lines same made c cut f b h =
    let law = in_order files lines (subst IsMade (sym same) made) c (subst (λ (p : Order). IsCut p c) (sym same) cut) (next c f) in
    subst (λ (p : Order). IsTrue b ↔ IsReadyAt p c (next c f)) same (λ t. law.1 (h.0 t), λ r. h.1 (law.0 r))

-- by clocks
pub ready_by_clock : (o : Order) (clocks : List (List ℤ)) → by_clock clocks ≡ o → IsMade o → (c : Cut) → IsCut o c → (f : ℕ) (b : Bool)
    → IsTrue b ↔ IsLeast (sizes_of clocks) (FollowsBy IsGreater clocks) c f → IsTrue b ↔ IsReadyAt o c (next c f)
ready_by_clock o clocks same made c cut f b h =
    let law = by_clocks clocks (subst IsMade (sym same) made) c (subst (λ (p : Order). IsCut p c) (sym same) cut) (next c f) in
    subst (λ (p : Order). IsTrue b ↔ IsReadyAt p c (next c f)) same (λ t. law.1 (refl, h.0 t), λ r. h.1 (law.0 r).1)

-- by vectors
pub ready_by_vectors : (o : Order) (vectors : List (List (List Stamp))) → by_vectors vectors ≡ o → IsMade o → (c : Cut) → IsCut o c → (f : ℕ) (b : Bool)
    → IsTrue b ↔ IsLeast (sizes_of vectors) (FollowsBy IsAbove vectors) c f → IsTrue b ↔ IsReadyAt o c (next c f)
ready_by_vectors o vectors same made c cut f b h =
    let law = by_vector vectors (subst IsMade (sym same) made) c (subst (λ (p : Order). IsCut p c) (sym same) cut) (next c f) in
    subst (λ (p : Order). IsTrue b ↔ IsReadyAt p c (next c f)) same (λ t. law.1 (refl, h.0 t), λ r. h.1 (law.0 r).1)
