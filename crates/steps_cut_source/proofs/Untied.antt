-- What logs are made of has one proof, so it comes out of a field that keeps no more than that there is one.
use Rattle.std.proofs.Common.{◌≡◌, ◌≢◌, ℕ, ◌<◌, List, length, get_or, sym, ◌∙◌, arith}
use Rattle.std.specs.Prelude.{AllPairs, Contains}
use Rattle.std.specs.Coded.{Π_prop, ×_prop, le_prop}
use Rattle.std.proofs.Props.{props}
use mathlib.Core.HLevel.{Σ_prop_path}
use mathlib.Core.Logic.{∥∥₁_elim}
use Rattle.base_clock_order.specs.Orders.{FollowsInLog, NoneBefore}
use Rattle.base_clock_order.specs.declared.order.LineRef.{LineRef}
use Rattle.base_cuts.specs.Cuts.{Cut, IsLineOf}
use Rattle.base_cuts.specs.Orders.{HasEachLine, IsMade, Order, by_clock, by_vectors, in_sequence, sizes, sizes_of}
use Rattle.logs_tied.specs.Lines.{AreTied}
use Rattle.logs_tied.specs.declared.logs.Logs.{Logs}

ref_set : IsSet LineRef
ref_set = hlevel props

-- the list has the line at that place
abbrev IsAt : List LineRef → LineRef → ℕ → Type 0
IsAt order l k = (k < length order) × (get_or order k l ≡ l)

at_prop : (order : List LineRef) (l : LineRef) (k : ℕ) → IsProp (IsAt order l k)
at_prop order l k = ×_prop le_prop (ref_set (get_or order k l) l)

one_pair : (order : List LineRef) (l : LineRef) (h k : (n : ℕ) × IsAt order l n) → h.0 ≡ k.0 → h ≡ k
one_pair order l h k same = Σ_prop_path {A = ℕ} {B = IsAt order l} (λ n. at_prop order l n) {u = h} {v = k} same

-- one of two numbers is less, or they are one
three : (m n : ℕ) → ((m < n) → ⊥) → ((n < m) → ⊥) → m ≡ n
three m n h k = grind (arith, h, k)

-- a line stands at one place in a list that has it once
one_place : (order : List LineRef) → AllPairs (λ a b. a ≢ b) order → (l : LineRef) → IsProp (Contains order l)
one_place order once l h k =
    let same : h.0 ≡ k.0 = three h.0 k.0 (λ less. once h.0 k.0 l less k.1 (h.2 ∙ sym k.2)) (λ less. once k.0 h.0 l less h.1 (k.2 ∙ sym h.2)) in
    let both = one_pair order l (h.0, (h.1, h.2)) (k.0, (k.1, k.2)) same in
    λ i. ((both i).0, (both i).1.0, (both i).1.1)

each_prop : (cut : Cut) (order : List LineRef) → IsProp (HasEachLine cut order)
each_prop cut order x y =
    let lines_prop : IsProp ((l : LineRef) → Contains order l → IsLineOf cut l) = hlevel props in
    let once_prop : IsProp (AllPairs (λ a b. a ≢ b) order) = hlevel props in
    let all_prop : IsProp ((l : LineRef) → IsLineOf cut l → Contains order l) = Π_prop (λ l. Π_prop (λ h. one_place order x.once l)) in
    λ i. record { lines = lines_prop x.lines y.lines i; all = all_prop x.all y.all i; once = once_prop x.once y.once i }

made_prop : (o : Order) → IsProp (IsMade o)
made_prop (in_sequence files lines) x y =
    let in_log_prop : IsProp (NoneBefore FollowsInLog lines) = hlevel props in
    let rule_prop : IsProp (NoneBefore (λ a b. ⊥) lines) = hlevel props in
    λ i. record { lines = each_prop (sizes (in_sequence files lines)) lines x.lines y.lines i; in_log = in_log_prop x.in_log y.in_log i; rule = rule_prop x.rule y.rule i }
made_prop (by_clock clocks) x y =
    let clocks_prop : IsProp (IsMade (by_clock clocks)) = hlevel props in
    clocks_prop x y
made_prop (by_vectors vectors) x y =
    let vectors_prop : IsProp (IsMade (by_vectors vectors)) = hlevel props in
    vectors_prop x y

tied_prop : (logs : Logs) → IsProp (AreTied logs)
tied_prop logs x y =
    let sizes_prop : IsProp (sizes logs.order ≡ sizes_of logs.files.items) = hlevel props in
    λ i. record { made = made_prop logs.order x.made y.made i; sizes = sizes_prop x.sizes y.sizes i }

pub untied : (logs : Logs) → ∥ AreTied logs ∥₁ → AreTied logs
untied logs h = ∥∥₁_elim h (tied_prop logs) (λ x. x)
