-- The tokens of a text that is no module stand in its file.
use Rattle.std.proofs.Common.{◌≡◌, ◌∙◌, sym, refl, subst, arith, append_assoc, ℕ, ◌+◌, Bool, true, false, ◌&&◌, List, [], ◌∷◌, ◌++◌, Ok, Err}
use Rattle.std.specs.Prelude.{◌==◌, nat_le, nat_lt, if◌then◌else◌, Option, Some, None, Contains, MatchBool}
use Rattle.std.specs.Str.{is_utf8}
use Rattle.std.proofs.lemmas.List.Elements.{Contains-append_left, Contains-append_right}
use Rattle.base_core.specs.declared.place.Place.{Place}
use Rattle.reading_tokens.specs.declared.token.Kind.{Kind}
use Rattle.reading_tokens.specs.declared.token.Kind.TheVariants as kinds
use Rattle.reading_tokens.specs.declared.token.Token.{Token}
use Rattle.reading_tokens.specs.declared.piece.LexKind.{LexKind}
use Rattle.reading_tokens.specs.declared.piece.Shape.{Shape}
use Rattle.reading_tokens.specs.declared.piece.Shape.TheVariants.{Blank, Spelled, Bad}
use Rattle.reading_tokens.specs.Tokens.{LexedFrom, LexedText, Outcome, Piece, Tokens, is_equals, kind_at, outcome_of, place_after, place_behind, start_of, token_at, with_front, with_piece, with_token}
use Rattle.reading_wide_configuration.specs.Passed.{kept, remaining_in, word_at}

abbrev pub AreIn : ℕ → List Token → Type 0
AreIn file [] = Unit {0}
AreIn file (t ∷ ts) = (t.place.file ≡ file) × AreIn file ts

abbrev GiveIn : ℕ → Outcome → Type 0
GiveIn file (Ok ts) = AreIn file ts
GiveIn file (Err e) = Unit {0}

-- ---- places

if_place : (b : Bool) (x y : Place) (file : ℕ) → x.file ≡ file → y.file ≡ file → (if b then x else y).file ≡ file
if_place true x y file p q = p
if_place false x y file p q = q

after_in : (at : Place) (b : ℕ) → (place_after at b).file ≡ at.file
after_in at b = if_place (b == 10) _ _ at.file refl (if_place (b == 9) _ _ at.file refl (if_place (nat_le 128 b && nat_lt b 192) _ _ at.file refl refl))

behind_in : (bs : List ℕ) (at : Place) → (place_behind at bs).file ≡ at.file
behind_in [] at = refl
behind_in (b ∷ bs) at = behind_in bs (place_after at b) ∙ after_in at b

-- ---- what comes of pieces

front_in : (file : ℕ) (t : Token) (o : Outcome) → t.place.file ≡ file → GiveIn file o → GiveIn file (with_front t o)
front_in file t (Ok ts) p h = (p, h)
front_in file t (Err e) p h = tt

if_outcome : (file : ℕ) (b : Bool) (x y : Outcome) → GiveIn file x → GiveIn file y → GiveIn file (if b then x else y)
if_outcome file true x y p q = p
if_outcome file false x y p q = q

token_in : (file : ℕ) (framed : Bool) (kind : Kind) (at next : Place) (count : ℕ) (rest : ℕ → Outcome) → at.file ≡ file → next.file ≡ file → ((n : ℕ) → GiveIn file (rest n))
    → GiveIn file (with_token framed kind at next count rest)
token_in file framed kind at next count rest p q h =
    if_outcome file (count == 200000) _ _ tt
    (if_outcome file (framed && is_equals kind) _ _ (p, (q, tt)) (front_in file (token_at (kind_at framed count kind) at) (rest (count + 1)) p (h (count + 1))))

piece_in : (file : ℕ) (framed : Bool) (s : Shape) (at next : Place) (count : ℕ) (rest : ℕ → Outcome) → at.file ≡ file → next.file ≡ file → ((n : ℕ) → GiveIn file (rest n))
    → GiveIn file (with_piece framed s at next count rest)
piece_in file framed Blank at next count rest p q h = h count
piece_in file framed (Spelled kind) at next count rest p q h = token_in file framed kind at next count rest p q h
piece_in file framed (Bad why) at next count rest p q h = tt

pieces_in : (file : ℕ) (framed : Bool) (ps : List Piece) (at : Place) (count : ℕ) → at.file ≡ file → GiveIn file (outcome_of framed ps at count)
pieces_in file framed [] at count p = (p, tt)
pieces_in file framed (x ∷ ps) at count p =
    let next : (place_behind at x.bytes).file ≡ file = behind_in x.bytes at ∙ p in
    piece_in file framed x.shape at (place_behind at x.bytes) count (outcome_of framed ps (place_behind at x.bytes)) p next (λ n. pieces_in file framed ps (place_behind at x.bytes) n next)

lexed_in : (file : ℕ) (text : List ℕ) (o : Outcome) → LexedFrom false (start_of file) 0 text o → GiveIn file o
lexed_in file text o h = subst (λ (x : Outcome). GiveIn file x) (sym h.gives) (pieces_in file false h.pieces (start_of file) 0 refl)

utf8_in : (b : Bool) (file : ℕ) (text : List ℕ) (ts : List Token) (e : LexKind × Place) → MatchBool b (LexedText false file text (Ok ts)) (◌≡◌ {A = Outcome} (Ok ts) (Err e)) → AreIn file ts
utf8_in true file text ts e l = lexed_in file text (Ok ts) l
utf8_in false file text ts e l = absurd cc

pub tokens_in : (file : ℕ) (text : List ℕ) (ts : List Token) → Tokens false file text (Ok ts) → AreIn file ts
tokens_in file text ts h = utf8_in (is_utf8 text) file text ts _ h

-- ---- names

-- this is told of each name, with its place
module _ (P : List ℕ → Place → Type 0) where
  abbrev pub NameIs : Kind → Place → Type 0
  NameIs (kinds.Name text) at = P text at
  NameIs k at = Unit {0}

  abbrev pub NamesAre : List Token → Type 0
  NamesAre [] = Unit {0}
  NamesAre (t ∷ ts) = NameIs t.kind t.place × NamesAre ts

  pub front_are : (xs ys : List Token) → NamesAre (xs ++ ys) → NamesAre xs
  front_are [] ys h = tt
  front_are (x ∷ xs) ys h = (h.0, front_are xs ys h.1)

  -- of those that remain where some are passed over
  kept_are : (w : Option _) (t : Token) (rest : List Token) → NameIs t.kind t.place → NamesAre rest → NamesAre (kept w t rest)
  kept_are (Some b) t rest p h = h
  kept_are None t rest p h = (p, h)

  pub remaining_are : (inside : Option _) (ts : List Token) → NamesAre ts → NamesAre (remaining_in inside ts)
  remaining_are inside [] h = tt
  remaining_are inside (t ∷ ts) h = let w = word_at inside t ts in kept_are w t (remaining_in w ts) h.0 (remaining_are w ts h.1)

-- the name is one of these tokens, and in this file
abbrev pub IsAmong : ℕ → List Token → List ℕ → Place → Type 0
IsAmong file tokens word at = (at.file ≡ file) × Contains tokens (token_at (kinds.Name word) at)

name_among : (file : ℕ) (tokens : List Token) (k : Kind) (at : Place) → at.file ≡ file → Contains tokens (token_at k at) → NameIs (IsAmong file tokens) k at
name_among file tokens (kinds.Name text) at p h = (p, h)
name_among file tokens (kinds.Number z) at p h = tt
name_among file tokens (kinds.Str s) at p h = tt
name_among file tokens kinds.Dashes at p h = tt
name_among file tokens kinds.Equals at p h = tt
name_among file tokens kinds.Fair at p h = tt
name_among file tokens (kinds.Word w) at p h = tt
name_among file tokens (kinds.Symbol s) at p h = tt
name_among file tokens (kinds.Foreign f) at p h = tt
name_among file tokens kinds.End at p h = tt

head_in : (t : Token) (ts : List Token) → Contains (t ∷ ts) t
head_in t ts = Contains-append_left (t ∷ []) ts t (0, omega arith, refl)

rest_among : (file : ℕ) (tokens before ts : List Token) → tokens ≡ before ++ ts → AreIn file ts → NamesAre (IsAmong file tokens) ts
rest_among file tokens before [] e h = tt
rest_among file tokens before (t ∷ ts) e h = (
  name_among file tokens t.kind t.place h.0 (subst (λ (l : List Token). Contains l t) (sym e) (Contains-append_right before (t ∷ ts) t (head_in t ts))),
  rest_among file tokens (before ++ t ∷ []) ts (e ∙ sym (append_assoc before (t ∷ []) ts)) h.1,
)

pub names_among : (file : ℕ) (tokens : List Token) → AreIn file tokens → NamesAre (IsAmong file tokens) tokens
names_among file tokens h = rest_among file tokens [] tokens refl h
