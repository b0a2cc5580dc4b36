-- What remains of tokens: the End stays the last alone, and what each token holds is held.
use Rattle.std.proofs.Common.{◌≡◌, ◌≤◌, false, List, [], ◌∷◌, ◌++◌, length, Option, Some, None, sym, subst, ap, refl, arith}
use Rattle.std.specs.Prelude.{if◌then◌else◌}
use Rattle.reading_tokens.specs.declared.token.Kind.{Kind}
use Rattle.reading_tokens.specs.declared.token.Kind.TheVariants.{End}
use Rattle.reading_tokens.specs.declared.token.Token.{Token}
use Rattle.reading_trees.specs.Laid.{EndsOnce, NoEnd}
use Rattle.reading_trees.specs.Opens.{is_end}
use Rattle.reading_wide_configuration.specs.declared.bounds.Bound.{Bound}
use Rattle.reading_wide_configuration.specs.Passed.{is_listed, kept, remaining, remaining_in, word_at}

-- the End is in no statement
end_apart : (inside : Option Bound) (t : Token) → t.kind ≡ End → word_at inside t [] ≡ None
end_apart inside t e = ap (λ (k : Kind). if is_listed k then inside else None) e

alone : (t : Token) → t.kind ≡ End → EndsOnce (t ∷ [])
alone t e = record { before = []; last = t; whole = refl; is_last = e; once = tt }

kept_ends : (w : Option Bound) (t : Token) (rest : List Token) → is_end t.kind ≡ false → EndsOnce rest → EndsOnce (kept w t rest)
kept_ends (Some b) t rest h e = e
kept_ends None t rest h e =
    record { before = t ∷ e.before; last = e.last; whole = ap (λ (us : List Token). t ∷ us) e.whole; is_last = e.is_last; once = (h, e.once) }

ends_in : (inside : Option Bound) (before : List Token) (last : Token) → last.kind ≡ End → NoEnd before → EndsOnce (remaining_in inside (before ++ last ∷ []))
ends_in inside [] last e none = subst (λ (w : Option Bound). EndsOnce (kept w last (remaining_in w []))) (sym (end_apart inside last e)) (alone last e)
ends_in inside (t ∷ before) last e none =
    let w = word_at inside t (before ++ last ∷ []) in
    kept_ends w t (remaining_in w (before ++ last ∷ [])) none.0 (ends_in w before last e none.1)

-- what remains ends once too
pub remaining_ends : (tokens : List Token) → EndsOnce tokens → EndsOnce (remaining tokens)
remaining_ends tokens e = subst (λ (us : List Token). EndsOnce (remaining us)) (sym e.whole) (ends_in None e.before e.last e.is_last e.once)

-- ---- what tokens hold

module _ (Holds : Kind → Type 0) where
  abbrev pub AllHold : List Token → Type 0
  AllHold [] = Unit {0}
  AllHold (t ∷ ts) = Holds t.kind × AllHold ts

  kept_hold : (w : Option Bound) (t : Token) (rest : List Token) → Holds t.kind → AllHold rest → AllHold (kept w t rest)
  kept_hold (Some b) t rest h hs = hs
  kept_hold None t rest h hs = (h, hs)

  pub remaining_hold : (inside : Option Bound) (ts : List Token) → AllHold ts → AllHold (remaining_in inside ts)
  remaining_hold inside [] h = tt
  remaining_hold inside (t ∷ ts) h = let w = word_at inside t ts in kept_hold w t (remaining_in w ts) h.0 (remaining_hold w ts h.1)

kept_few : (w : Option Bound) (t : Token) (rest ts : List Token) → length rest ≤ length ts → length (kept w t rest) ≤ length (t ∷ ts)
kept_few (Some b) t rest ts h = omega (arith, h)
kept_few None t rest ts h = omega (arith, h)

pub remaining_few : (inside : Option Bound) (ts : List Token) → length (remaining_in inside ts) ≤ length ts
remaining_few inside [] = omega arith
remaining_few inside (t ∷ ts) = let w = word_at inside t ts in kept_few w t (remaining_in w ts) ts (remaining_few w ts)
