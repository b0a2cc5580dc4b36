-- Tokens of which none is the End, and a piece alone.
use Rattle.std.proofs.Common.{◌≡◌, ◌∙◌, ℕ, zero, suc, ◌+◌, ◌-◌, ◌≤◌, arith, length, List, [], ◌∷◌, ◌++◌, append_assoc, take, drop, refl, sym, ap, subst}
use Rattle.std.proofs.lemmas.List.{length-append, take-append-le}
use Rattle.base_core.specs.declared.place.Place.{Place}
use Rattle.reading_tokens.specs.declared.token.Kind.TheVariants as kinds
use Rattle.reading_tokens.specs.declared.token.Token.{Token}
use Rattle.reading_tokens.specs.Tokens.{token_at}
use Rattle.reading_trees.specs.Laid.{EndsOnce, NoEnd}
use Rattle.reading_wide_modules.specs.Alone.{alone}
use Rattle.reading_wide_modules.specs.Forms.{readable}
use Rattle.reading_wide_modules.proofs.PieceTokens.{readable_all}

no_end_both : (xs ys : List Token) → NoEnd xs → NoEnd ys → NoEnd (xs ++ ys)
no_end_both [] ys h g = g
no_end_both (x ∷ xs) ys h g = (h.0, no_end_both xs ys h.1 g)

pub no_end_take : (n : ℕ) (xs : List Token) → NoEnd xs → NoEnd (take n xs)
no_end_take zero xs h = tt
no_end_take (suc n) [] h = tt
no_end_take (suc n) (x ∷ xs) h = (h.0, no_end_take n xs h.1)

pub no_end_drop : (n : ℕ) (xs : List Token) → NoEnd xs → NoEnd (drop n xs)
no_end_drop zero xs h = h
no_end_drop (suc n) [] h = tt
no_end_drop (suc n) (x ∷ xs) h = no_end_drop n xs h.1

pub alone_ends : (heading piece : List Token) (at : Place) → NoEnd heading → NoEnd piece → EndsOnce (alone heading piece at)
alone_ends heading piece at h g =
    let equals = token_at kinds.Equals at in
    record {
      before = heading ++ piece ++ equals ∷ [];
      last = token_at kinds.End at;
      whole = sym (append_assoc (heading ++ piece) (equals ∷ []) (token_at kinds.End at ∷ []));
      is_last = refl;
      once = no_end_both (heading ++ piece) (equals ∷ []) (no_end_both heading piece h g) (refl, tt);
    }

-- before the last two of such tokens none is the End
pub body_ends : (tokens : List Token) → EndsOnce tokens → NoEnd (take (length tokens - 2) tokens)
body_ends tokens h =
    let n = length tokens - 2 in
    let long : length tokens ≡ length h.before + 1 = ap length h.whole ∙ length-append h.before (h.last ∷ []) in
    let few : n ≤ length h.before = omega arith in
    let same : take n tokens ≡ take n h.before = ap (λ v. take n v) h.whole ∙ take-append-le n h.before (h.last ∷ []) few in
    subst (λ v. NoEnd v) (sym same) (no_end_take n h.before h.once)

pub no_end_readable : (piece : List Token) → NoEnd piece → NoEnd (readable piece)
no_end_readable piece h = readable_all (λ ts. NoEnd ts) (λ t ts k. k.1) piece h
