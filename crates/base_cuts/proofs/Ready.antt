-- What is ready, and what is taken, in each kind of order.
use Rattle.std.proofs.Common.{◌≡◌, ℤ, ◌≤ℤ◌, List, [], ◌∷◌, ◌++◌, ap, sym, ◌∙◌, subst, refl}
use Rattle.base_clock_order.specs.declared.order.LineRef.{LineRef}
use Rattle.base_clocks.specs.Stamps.{IsAbove, IsAtMost}
use Rattle.base_clocks.specs.declared.stamp.Stamp.{Stamp}
use Rattle.base_cuts.specs.Cuts.{Cut, after, next}
use Rattle.base_cuts.specs.Orders.{AreReady, Begins, FollowsBy, IsGreater, IsAllowed, IsMade, Order, in_sequence, by_clock, by_vectors, sizes, sizes_of, start}
use Rattle.base_cuts.specs.Heads.{IsLeast, IsRule}
use Rattle.base_cuts.specs.Laws.{OneCut, ReadyByClock, ReadyByVectors, ReadyGoesOn, ReadyInSequence, SomeAllowed, TakenBegins}
use Rattle.base_cuts.proofs.Rules as rules
use Rattle.base_cuts.proofs.Rules.{is_rule}
use Rattle.base_cuts.proofs.Clocks.{numbers, vectors}
use Rattle.base_cuts.proofs.Sequences as sequence
use Rattle.base_cuts.proofs.Growing.{after_more}

pub clock_rule : (clocks : List (List ℤ)) → IsMade (by_clock clocks) → IsRule (sizes_of clocks) (FollowsBy IsGreater clocks)
clock_rule clocks made = is_rule clocks (λ c d. c ≤ℤ d) IsGreater numbers made

pub vector_rule : (vs : List (List (List Stamp))) → IsMade (by_vectors vs) → IsRule (sizes_of vs) (FollowsBy IsAbove vs)
vector_rule vs made = is_rule vs IsAtMost IsAbove vectors made

pub some_allowed : SomeAllowed
some_allowed (in_sequence files lines) made = (lines, refl)
some_allowed (by_clock clocks) made = rules.some_order (sizes_of clocks) (FollowsBy IsGreater clocks) (clock_rule clocks made)
some_allowed (by_vectors vs) made = rules.some_order (sizes_of vs) (FollowsBy IsAbove vs) (vector_rule vs made)

pub goes_on : ReadyGoesOn
goes_on (in_sequence files lines) made xs l b r = sequence.exchange (sizes (in_sequence files lines)) lines made l xs b.0 r.0 r.2.0 b.1 r.1 r.2.1
goes_on (by_clock clocks) made xs l b r = rules.exchange (sizes_of clocks) (FollowsBy IsGreater clocks) (clock_rule clocks made) l xs b.0 r.0 r.2.0 b.1 r.1 r.2.1
goes_on (by_vectors vs) made xs l b r = rules.exchange (sizes_of vs) (FollowsBy IsAbove vs) (vector_rule vs made) l xs b.0 r.0 r.2.0 b.1 r.1 r.2.1

pub nil_end : (xs : List LineRef) → xs ≡ xs ++ []
nil_end [] = refl
nil_end (x ∷ xs) = ap (λ (zs : List LineRef). x ∷ zs) (nil_end xs)

pub more_one : (xs : List LineRef) (l : LineRef) (ls : List LineRef) → xs ++ l ∷ ls ≡ (xs ++ l ∷ []) ++ ls
more_one [] l ls = refl
more_one (x ∷ xs) l ls = ap (λ (zs : List LineRef). x ∷ zs) (more_one xs l ls)

pub more_two : (xs ys zs : List LineRef) → (xs ++ ys) ++ zs ≡ xs ++ (ys ++ zs)
more_two [] ys zs = refl
more_two (x ∷ xs) ys zs = ap (λ (ws : List LineRef). x ∷ ws) (more_two xs ys zs)

ready_begins : (o : Order) → IsMade o → (xs ls : List LineRef) → Begins o xs → AreReady o (after (start o) xs) ls → Begins o (xs ++ ls)
ready_begins o made xs [] b h = subst (Begins o) (nil_end xs) b
ready_begins o made xs (l ∷ ls) b h =
    let one = goes_on o made xs l b h.0 in
    subst (Begins o) (sym (more_one xs l ls)) (ready_begins o made (xs ++ l ∷ []) ls one (subst (λ (c : Cut). AreReady o c ls) (sym (after_more (start o) xs (l ∷ []))) h.1))

begins_ready : (o : Order) (xs ls : List LineRef) → Begins o (xs ++ ls) → AreReady o (after (start o) xs) ls
begins_ready o xs [] b = tt
begins_ready o xs (l ∷ ls) b = (
  (xs, refl, (ls ++ b.0, subst (IsAllowed o) (ap (λ (zs : List LineRef). zs ++ b.0) (more_one xs l ls) ∙ more_two (xs ++ l ∷ []) ls b.0) b.1)),
  subst (λ (c : Cut). AreReady o c ls) (after_more (start o) xs (l ∷ [])) (begins_ready o (xs ++ l ∷ []) ls (subst (Begins o) (more_one xs l ls) b)),
)

pub taken_begins : TakenBegins
taken_begins o made xs = (ready_begins o made [] xs (some_allowed o made), begins_ready o [] xs)

pub by_clocks : ReadyByClock
by_clocks clocks made c cut l = (
  λ r. rules.ready_least (sizes_of clocks) (FollowsBy IsGreater clocks) (clock_rule clocks made) c l r.0 r.2.0 r.1 r.2.1,
  λ h. (
    cut.0,
    cut.1,
    rules.least_begins (sizes_of clocks) (FollowsBy IsGreater clocks) (clock_rule clocks made) l cut.0 cut.2.0 cut.2.1
        (subst (λ (d : Cut). l ≡ next d l.file) (sym cut.1) h.0) (subst (λ (d : Cut). IsLeast (sizes_of clocks) (FollowsBy IsGreater clocks) d l.file) (sym cut.1) h.1),
  ),
)

pub by_vector : ReadyByVectors
by_vector vs made c cut l = (
  λ r. rules.ready_least (sizes_of vs) (FollowsBy IsAbove vs) (vector_rule vs made) c l r.0 r.2.0 r.1 r.2.1,
  λ h. (
    cut.0,
    cut.1,
    rules.least_begins (sizes_of vs) (FollowsBy IsAbove vs) (vector_rule vs made) l cut.0 cut.2.0 cut.2.1 (subst (λ (d : Cut). l ≡ next d l.file) (sym cut.1) h.0)
        (subst (λ (d : Cut). IsLeast (sizes_of vs) (FollowsBy IsAbove vs) d l.file) (sym cut.1) h.1),
  ),
)

pub in_order : ReadyInSequence
in_order files lines made c cut l = (
  λ r. sequence.ready_there (sizes (in_sequence files lines)) lines made c l r.0 r.2.0 r.1 r.2.1,
  λ h. (cut.0, cut.1, sequence.there_ready (sizes (in_sequence files lines)) lines made c l cut.0 cut.2.0 cut.1 cut.2.1 h),
)

pub one_cut : OneCut
one_cut files lines made c d p q same = sequence.one_cut (sizes (in_sequence files lines)) lines made c d p.0 q.0 p.2.0 q.2.0 p.2.1 q.2.1 p.1 q.1 same
