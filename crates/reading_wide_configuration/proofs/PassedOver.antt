-- What is passed over, and what the loop over tokens keeps.
use Rattle.std.proofs.Common.{◌≡◌, Bool, true, false, List, [], ◌∷◌, ◌++◌, Option, Some, None, ℕ, sym, ap, ◌∙◌, refl}
use Rattle.std.specs.Prelude.{if◌then◌else◌, map, not, ◌&&◌, ◌||◌, is_some}
use Rattle.reading_tokens.specs.declared.token.Kind.{Kind}
use Rattle.reading_tokens.specs.declared.token.Kind.TheVariants as kinds
use Rattle.reading_tokens.specs.declared.token.Token.{Token}
use Rattle.reading_configuration.specs.Keywords.{begins_statement}
use Rattle.reading_configuration.specs.Statements.{Named}
use Rattle.reading_wide_configuration.specs.declared.bounds.Bound.{Bound}
use Rattle.reading_wide_configuration.specs.Bounds.{begins_any, bound_of, line_of}
use Rattle.reading_wide_configuration.specs.Laws.{AreListed, EndsList, NothingIsPassed, StatementsArePassed, named}
use Rattle.reading_wide_configuration.specs.Passed.{begins_list, begins_sign, begun, bound_in, is_listed, kept, line_at, remaining, remaining_in, told, told_in, word_at}

-- ---- where no such word stands

either_none : (b c : Bool) (w : Option Bound) → w ≡ None → (if b then None else (if c then w else None)) ≡ None
either_none true c w e = refl
either_none false true w e = e
either_none false false w e = refl

none_at : (t : Token) (ts : List Token) → bound_in t.kind ≡ None → word_at None t ts ≡ None
none_at t ts e = either_none (is_listed t.kind) (begins_list ts) (bound_in t.kind) e

pub nothing_passed : NothingIsPassed
nothing_passed [] h = (refl, refl)
nothing_passed (t ∷ ts) h =
    let e = none_at t ts h.0 in
    let rest = nothing_passed ts h.1 in (
      ap (λ (w : Option Bound). kept w t (remaining_in w ts)) e ∙ ap (λ (us : List Token). t ∷ us) rest.0,
      ap (λ (w : Option Bound). told_in w ts) e ∙ rest.1,
    )

-- ---- a statement

abbrev token : Named → Token
token n = record { kind = kinds.Name n.text; place = n.at }

-- names in a list stay in it
listed_at : (inside : Option Bound) (n : Named) (ts : List Token) → begins_any n.text ≡ false → word_at inside (token n) ts ≡ inside
listed_at inside n ts e = ap (λ (b : Bool). if not b then inside else begun (token n) ts) e

listed_line : (b : Bound) (n : Named) → begins_any n.text ≡ false → line_at b (kinds.Name n.text) ≡ line_of b n.text ∷ []
listed_line b n e = ap (λ (x : Bool). if x then [] else line_of b n.text ∷ []) e

either_nothing : (x : Bool) (lines : List (List ℕ)) → not x ≡ false → (if x then [] else lines) ≡ []
either_nothing true lines e = refl
either_nothing false lines e = cc

unlisted_line : (b : Bound) (k : Kind) → is_listed k ≡ false → line_at b k ≡ []
unlisted_line b (kinds.Name text) e = either_nothing (begins_any text) (line_of b text ∷ []) e
unlisted_line b (kinds.Number z) e = refl
unlisted_line b (kinds.Str s) e = refl
unlisted_line b kinds.Dashes e = refl
unlisted_line b kinds.Equals e = refl
unlisted_line b kinds.Fair e = refl
unlisted_line b (kinds.Word w) e = refl
unlisted_line b (kinds.Symbol s) e = refl
unlisted_line b (kinds.Foreign f) e = refl
unlisted_line b kinds.End e = refl

unlisted_at : (inside : Option Bound) (t : Token) (ts : List Token) → is_listed t.kind ≡ false → word_at inside t ts ≡ begun t ts
unlisted_at inside t ts e = ap (λ (b : Bool). if b then inside else begun t ts) e

-- behind a list it is as if there were none
behind_same : (b : Bound) (behind : List Token) → EndsList behind → (remaining_in (Some b) behind ≡ remaining behind) × (told_in (Some b) behind ≡ told behind)
behind_same b [] h = (refl, refl)
behind_same b (t ∷ ts) h =
    let same : word_at (Some b) t ts ≡ word_at None t ts = unlisted_at (Some b) t ts h ∙ sym (unlisted_at None t ts h) in (
      ap (λ (w : Option Bound). kept w t (remaining_in w ts)) same,
      ap (λ (ls : List (List ℕ)). ls ++ told_in (word_at (Some b) t ts) ts) (unlisted_line b t.kind h) ∙ ap (λ (w : Option Bound). told_in w ts) same,
    )

names_passed : (b : Bound) (ns : List Named) (behind : List Token) → AreListed ns → EndsList behind
    → (remaining_in (Some b) (named ns ++ behind) ≡ remaining behind) × (told_in (Some b) (named ns ++ behind) ≡ map (λ (n : Named). line_of b n.text) ns ++ told behind)
names_passed b [] behind h e = behind_same b behind e
names_passed b (n ∷ ns) behind h e =
    let rest = names_passed b ns behind h.1 e in
    let ts = named ns ++ behind in
    let at : word_at (Some b) (token n) ts ≡ Some b = listed_at (Some b) n ts h.0 in (
      ap (λ (w : Option Bound). kept w (token n) (remaining_in w ts)) at ∙ rest.0,
      ap (λ (ls : List (List ℕ)). ls ++ told_in (word_at (Some b) (token n) ts) ts) (listed_line b n h.0)
          ∙ ap (λ (w : Option Bound). line_of b n.text ∷ told_in w ts) at ∙ ap (λ (ls : List (List ℕ)). line_of b n.text ∷ ls) rest.1,
    )

or_true : (x y : Bool) → y ≡ true → (x || y) ≡ true
or_true true y e = refl
or_true false y e = e

begins_some : (b : Bound) (word : List ℕ) → bound_of word ≡ Some b → begins_any word ≡ true
begins_some b word e = or_true (begins_statement word) (is_some (bound_of word)) (ap (λ (o : Option Bound). is_some o) e)

begins_at : (inside w : Option Bound) (b : Bound) (x y z : Bool) → x ≡ true → y ≡ false → z ≡ false → w ≡ Some b
    → (if not x then inside else (if not y && not z then w else None)) ≡ Some b
begins_at inside w b true false false e f g h = h
begins_at inside w b false y z e f g h = cc
begins_at inside w b true true z e f g h = cc
begins_at inside w b true false true e f g h = cc

nothing_told : (inside : Option Bound) (word : Named) (b : Bound) → bound_of word.text ≡ Some b → (ts : List Token)
    → told_in inside (token word ∷ ts) ≡ told_in (word_at inside (token word) ts) ts
nothing_told None word b e ts = refl
nothing_told (Some c) word b e ts =
    ap (λ (ls : List (List ℕ)). ls ++ told_in (word_at (Some c) (token word) ts) ts)
    (ap (λ (x : Bool). if x then [] else line_of c word.text ∷ []) (begins_some b word.text e))

pub statements_passed : StatementsArePassed
statements_passed inside word first names behind b is listed sign ends =
    let ts = token first ∷ (named names ++ behind) in
    let rest = names_passed b (first ∷ names) behind listed ends in
    let at : word_at inside (token word) ts ≡ Some b =
    begins_at inside (bound_of word.text) b (begins_any word.text) (begins_any first.text) (begins_sign (named names ++ behind)) (begins_some b word.text is) listed.0 sign is in (
      ap (λ (w : Option Bound). kept w (token word) (remaining_in w ts)) at ∙ rest.0,
      nothing_told inside word b is ts ∙ ap (λ (w : Option Bound). told_in w ts) at ∙ rest.1,
    )
