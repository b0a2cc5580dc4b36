-- The lines of an allowed order, and those that are left behind its first lines.
use Rattle.std.proofs.Common.{◌≡◌, ℕ, ◌+◌, ◌<◌, ◌^◌, List, [], ◌∷◌, ◌++◌, length, length-append, ap, sym, ◌∙◌, subst, arith}
use Rattle.std.specs.List.{Contains}
use Rattle.base_clock_order.specs.declared.order.LineRef.{LineRef}
use Rattle.base_cuts.specs.Cuts.{Cut, IsLineOf, after, next, taken, total}
use Rattle.base_cuts.specs.Orders.{AreCountable, IsAllowed, IsMade, IsReadyAt, Order, by_clock, by_vectors, in_sequence, sizes, start}
use Rattle.base_cuts.specs.Laws.{SomeIsReady}
use Rattle.base_cuts.proofs.Growing.{after_long, has_log, nothing_long}
use Rattle.base_cuts.proofs.Lengths.{as_long}
use Rattle.base_cuts.proofs.Lists.{head_in, tail_in}
use Rattle.base_cuts.proofs.Ready.{more_one}
use Rattle.base_cuts.proofs.Sequences.{in_first, total_after, total_nothing}

-- the lines of an allowed order are lines of the logs
pub are_lines : (o : Order) → IsMade o → (xs : List LineRef) → IsAllowed o xs → (l : LineRef) → Contains xs l → IsLineOf (sizes o) l
are_lines (in_sequence files lines) made xs e l h = made.lines.lines l (subst (λ (zs : List LineRef). Contains zs l) e h)
are_lines (by_clock clocks) made xs a l h = a.lines.lines l h
are_lines (by_vectors vs) made xs a l h = a.lines.lines l h

-- as many are taken as stand in the beginning of an allowed order
pub beginning_long : (o : Order) → IsMade o → (xs ys : List LineRef) → IsAllowed o (xs ++ ys) → total (after (start o) xs) ≡ length xs
beginning_long o made xs ys a =
    let r = total_after (sizes o) (start o) xs (nothing_long (sizes o)) (λ l h. are_lines o made (xs ++ ys) a l (in_first xs ys l h)) in
    let z = total_nothing (sizes o) in
    omega (arith, r, z)

next_of : (o : Order) → IsMade o → (c : Cut) (xs ys : List LineRef) → after (start o) xs ≡ c → IsAllowed o (xs ++ ys) → total c < total (sizes o) → (l : LineRef) × IsReadyAt o c l
next_of o made c xs [] e a less =
    let long = as_long o made (xs ++ []) a in
    let end = length-append xs [] in
    let taken = beginning_long o made xs [] a in
    let same : total (after (start o) xs) ≡ total c = ap total e in
    absurd (omega (arith, long, end, taken, same, less))
next_of o made c xs (y ∷ ys) e a less = (y, (xs, e, (ys, subst (IsAllowed o) (more_one xs y ys) a)))

pub some_ready : SomeIsReady
some_ready o made c cut less = next_of o made c cut.0 cut.2.0 cut.1 cut.2.1 less

in_end : (xs : List LineRef) (l : LineRef) (ys : List LineRef) → Contains ((xs ++ l ∷ []) ++ ys) l
in_end [] l ys = head_in l ys
in_end (x ∷ xs) l ys = tail_in x ((xs ++ l ∷ []) ++ ys) l (in_end xs l ys)

-- what is ready is a line of the logs
pub ready_line : (o : Order) → IsMade o → (c : Cut) (l : LineRef) → IsReadyAt o c l → IsLineOf (sizes o) l
ready_line o made c l r = are_lines o made ((r.0 ++ l ∷ []) ++ r.2.0) r.2.1 l (in_end r.0 l r.2.0)

-- a cut has a number for each log
pub cut_long : (o : Order) (xs : List LineRef) → length (after (start o) xs) ≡ length (sizes o)
cut_long o xs = after_long (start o) xs ∙ nothing_long (sizes o)

-- a line that is ready is of one of the logs
pub ready_inside : (o : Order) → IsMade o → (c : Cut) (l : LineRef) → IsReadyAt o c l → l.file < length c
ready_inside o made c l r =
    let b = has_log (sizes o) l (ready_line o made c l r) in
    let long : length c ≡ length (sizes o) = sym (ap length r.1) ∙ cut_long o r.0 in
    omega (arith, b, long)

-- there is room for one more line where one is ready
pub ready_room : (o : Order) → IsMade o → AreCountable o → (c : Cut) (f : ℕ) → IsReadyAt o c (next c f) → taken c f + 1 < 2 ^ 32
ready_room o made countable c f r =
    let less = ready_line o made c (next c f) r in
    let few = countable f in
    omega (arith, less, few)
