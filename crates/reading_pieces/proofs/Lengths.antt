-- The tokens that a piece goes on with, by their number.
use Rattle.std.proofs.Common.{◌≡◌, ◌∙◌, inl, inr, ℕ, zero, suc, ◌+◌, ◌≤◌, arith, length, get_or, Bool, true, false, cond, List, [], ◌∷◌, ◌++◌, take, drop, refl, sym, ap, subst}
use Rattle.reading_tokens.specs.declared.token.Token.{Token}
use Rattle.reading_pieces.specs.declared.within.Within.{Within}
use Rattle.reading_pieces.specs.Lengths.{length_behind}
use Rattle.reading_pieces.specs.declared.mark.Mark.TheVariants.{Dashes}
use Rattle.reading_pieces.specs.Marks.{mark_of}
use Rattle.reading_pieces.specs.Pieces.{GoesOn, IsHeading, IsPiece}
use Rattle.reading_pieces.specs.Within.{begins_behind, begun_with, behind}

rejoined : (n : ℕ) (ts : List Token) → take n ts ++ drop n ts ≡ ts
rejoined zero ts = refl
rejoined (suc n) [] = refl
rejoined (suc n) (t ∷ ts) = ap (λ xs. t ∷ xs) (rejoined n ts)

-- these first tokens, and those behind them
abbrev PartsAt : Within → List Token → ℕ → Type 0
PartsAt w ts n = GoesOn w (take n ts) (drop n ts)

one_more : (w : Within) (t : Token) (ts : List Token) (n : ℕ) → begins_behind w (t ∷ ts) ≡ false → PartsAt (behind w (t ∷ ts)) ts n → PartsAt w (t ∷ ts) (suc n)
one_more w t ts n e h =
    let same : ts ≡ take n ts ++ drop n ts = sym (rejoined n ts) in
    subst (λ xs. (begins_behind w (t ∷ xs) ≡ false) × GoesOn (behind w (t ∷ xs)) (take n ts) (drop n ts)) same (e, h)

by_cases : (w : Within) (t : Token) (ts : List Token) (b : Bool) (n : ℕ) → begins_behind w (t ∷ ts) ≡ b → PartsAt (behind w (t ∷ ts)) ts n
    → PartsAt w (t ∷ ts) (cond b 0 (suc n))
by_cases w t ts true n e h = inr e
by_cases w t ts false n e h = one_more w t ts n e h

pub goes_on : (w : Within) (ts : List Token) → PartsAt w ts (length_behind w ts)
unfolding length_behind
goes_on w [] = inl refl
goes_on w (t ∷ ts) = by_cases w t ts (begins_behind w (t ∷ ts)) (length_behind (behind w (t ∷ ts)) ts) refl (goes_on (behind w (t ∷ ts)) ts)

-- the same where the number has another name
pub goes_on_with : (w : Within) (ts : List Token) (n : ℕ) → n ≡ length_behind w ts → GoesOn w (take n ts) (drop n ts)
goes_on_with w ts n e = subst (PartsAt w ts) (sym e) (goes_on w ts)

pub heading_at : (ts us : List Token) (n : ℕ) → 4 ≤ length ts → us ≡ drop 4 ts → n ≡ length_behind (begun_with Dashes) us → IsHeading (take (4 + n) ts) (drop (4 + n) ts)
heading_at (a ∷ b ∷ c ∷ d ∷ ts) us n l u e =
    let all = a ∷ b ∷ c ∷ d ∷ ts in
    let same : suc (suc (suc (suc n))) ≡ 4 + n = omega arith in
    let goes : GoesOn (begun_with Dashes) (take n ts) (drop n ts) = goes_on_with (begun_with Dashes) ts n (e ∙ ap (λ v. length_behind (begun_with Dashes) v) u) in
    subst (λ k. IsHeading (take k all) (drop k all)) same goes
heading_at [] us n l u e = absurd (omega arith)
heading_at (a ∷ []) us n l u e = absurd (omega arith)
heading_at (a ∷ b ∷ []) us n l u e = absurd (omega arith)
heading_at (a ∷ b ∷ c ∷ []) us n l u e = absurd (omega arith)

pub piece_at : (t : Token) (ts us : List Token) (n : ℕ) → us ≡ ts → n ≡ length_behind (begun_with (mark_of t)) us → IsPiece (take (1 + n) (t ∷ ts)) (drop (1 + n) (t ∷ ts))
piece_at t ts us n u e =
    let same : suc n ≡ 1 + n = omega arith in
    let goes : GoesOn (begun_with (mark_of t)) (take n ts) (drop n ts) = goes_on_with (begun_with (mark_of t)) ts n (e ∙ ap (λ v. length_behind (begun_with (mark_of t)) v) u) in
    subst (λ k. IsPiece (take k (t ∷ ts)) (drop k (t ∷ ts))) same goes

pub first_piece : (ts us : List Token) (x : Token) (w : Within) (n : ℕ) → 1 ≤ length ts → us ≡ drop 1 ts → x ≡ get_or ts 0 x → w ≡ begun_with (mark_of x) → n ≡ length_behind w us
    → IsPiece (take (1 + n) ts) (drop (1 + n) ts)
first_piece [] us x w n l u f b e = absurd (omega arith)
first_piece (t ∷ ts) us x w n l u f b e =
    let head : w ≡ begun_with (mark_of t) = b ∙ ap (λ v. begun_with (mark_of v)) f in
    piece_at t ts us n u (e ∙ ap (λ v. length_behind v us) head)
