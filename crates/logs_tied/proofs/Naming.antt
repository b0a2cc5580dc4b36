-- An order is named line by line.
use Rattle.std.proofs.Common.{◌≡◌, ◌⊎◌, inl, inr, ℕ, zero, suc, List, [], ◌∷◌, ◌++◌, length, length-append, take, Some, ap, sym, ◌∙◌, subst, refl, arith}
use Rattle.std.proofs.Math.Seq.{take-append_seam}
use Rattle.std.proofs.lemmas.List.{take-append-le}
use Rattle.std.specs.List.{slice_get}
use Rattle.base_clock_order.specs.declared.order.LineRef.{LineRef}
use Rattle.base_cuts.specs.Cuts.{after, total}
use Rattle.base_cuts.specs.Orders.{IsAllowed, IsMade, Order, sizes, start}
use Rattle.logs_tied.specs.Named.{IsChosen, names}
use Rattle.logs_tied.specs.Naming.{NamingEnds, NamingGoesOn}
use Rattle.base_cuts.proofs.Rules.{inside, some_is}
use Rattle.base_cuts.proofs.Lengths.{as_long}
use Rattle.base_cuts.proofs.Ready.{goes_on, nil_end}

end_cases : (xs : List LineRef) (l : LineRef) (n : ℕ) (m : LineRef) → slice_get (xs ++ l ∷ []) n ≡ Some m → (slice_get xs n ≡ Some m) ⊎ ((n ≡ length xs) × (l ≡ m))
end_cases [] l zero m e = inr (refl, some_is e)
end_cases [] l (suc n) m e = cc
end_cases (x ∷ xs) l zero m e = inl e
end_cases (x ∷ xs) l (suc n) m e = elim (end_cases xs l n m e) [ inl h ↦ inl h | inr h ↦ inr (ap suc h.0, h.1) ]

pub naming_goes_on : NamingGoesOn
naming_goes_on files o made w xs l so chosen = record {
  begins = goes_on o made xs l so.begins chosen.0;
  keeps = λ n m e. elim (end_cases xs l n m e) [
    | inl h ↦
        let b = inside xs n m h in
        subst (λ (ys : List LineRef). IsChosen files o (after (start o) ys) (slice_get (names w) n) m) (sym (take-append-le n xs (l ∷ []) (omega (arith, b)))) (so.keeps n m h)
    | inr h ↦
        let seam : take n (xs ++ l ∷ []) ≡ xs = ap (λ (i : ℕ). take i (xs ++ l ∷ [])) h.0 ∙ take-append_seam xs (l ∷ []) in
        subst (λ (ys : List LineRef). IsChosen files o (after (start o) ys) (slice_get (names w) n) m) (sym seam)
        (subst (λ (i : ℕ). IsChosen files o (after (start o) xs) (slice_get (names w) i) m) (sym h.0) (subst (IsChosen files o (after (start o) xs) (slice_get (names w) (length xs))) h.1 chosen))
  ];
}

ends : (o : Order) → IsMade o → (xs ys : List LineRef) → IsAllowed o (xs ++ ys) → length xs ≡ total (sizes o) → IsAllowed o xs
ends o made xs [] a long = subst (IsAllowed o) (sym (nil_end xs)) a
ends o made xs (y ∷ ys) a long =
    let all = as_long o made (xs ++ y ∷ ys) a in
    let more = length-append xs (y ∷ ys) in
    absurd (omega (arith, long, all, more))

pub naming_ends : NamingEnds
naming_ends files o made w xs so long = (ends o made xs so.begins.0 so.begins.1 long, so.keeps)
