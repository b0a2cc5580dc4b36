-- What stands behind an opening quote.
use Rattle.std.proofs.Common.{◌≡◌, ◌≢◌, ℕ, zero, suc, ◌+◌, ◌<◌, ◌≤◌, true, false, eqb, ◌||◌, List, [], ◌∷◌, ◌++◌, length, get_or, drop, Some, None, Result, Ok, Err, refl, sym, ap, ◌∙◌, arith, append_assoc}
use Rattle.std.proofs.lemmas.Bool.Decides.{nat_tests}
use Rattle.reading_tokens.specs.declared.piece.LexKind.{LexKind}
use Rattle.reading_tokens.specs.declared.piece.LexKind.TheVariants.{OpenString, BadCharacter}
use Rattle.reading_tokens.specs.Shapes.{Quoted, after_quote, escaped, with_character, with_byte, with_escape, closed, broken}

-- these characters before what comes of the rest
abbrev with_bytes : List ℕ → Result (List ℕ) LexKind → Result (List ℕ) LexKind
with_bytes cs (Ok bs) = Ok (cs ++ bs)
with_bytes cs (Err why) = Err why

abbrev pub with_characters : List ℕ → Quoted → Quoted
with_characters cs q = record { content = with_bytes cs q.content; rest = q.rest }

with_bytes_none : (r : Result (List ℕ) LexKind) → with_bytes [] r ≡ r
with_bytes_none (Ok bs) = refl
with_bytes_none (Err why) = refl

pub with_none : (q : Quoted) → q ≡ with_characters [] q
with_none q = let f = λ (r : Result (List ℕ) LexKind). record q { content = r } in ap f (sym (with_bytes_none q.content))

with_bytes_more : (cs : List ℕ) (c : ℕ) (r : Result (List ℕ) LexKind) → with_bytes cs (with_byte c r) ≡ with_bytes (cs ++ c ∷ []) r
with_bytes_more cs c (Ok bs) = ap Ok (sym (append_assoc cs (c ∷ []) bs))
with_bytes_more cs c (Err why) = refl

pub with_more : (cs : List ℕ) (c : ℕ) (q : Quoted) → with_characters cs (with_character c q) ≡ with_characters (cs ++ c ∷ []) q
with_more cs c q = let f = λ (r : Result (List ℕ) LexKind). record q { content = r } in ap f (with_bytes_more cs c q.content)

suc_add : (m n : ℕ) → suc m + n ≡ suc (m + n)
suc_add m n = omega arith

-- the byte at a place and what stands behind it
quote_at : (text : List ℕ) (at : ℕ) → at < length text → after_quote (drop at text) ≡ after_quote (get_or text at 0 ∷ drop (at + 1) text)
quote_at [] at h = absurd (omega arith)
quote_at (b ∷ bs) zero h = refl
quote_at (b ∷ bs) (suc at) h = rw (suc_add at 1) (quote_at bs at (omega arith))

two_at : (text : List ℕ) (at : ℕ) → at + 1 < length text → drop (at + 1) text ≡ get_or text (at + 1) 0 ∷ drop (at + 2) text
two_at [] at h = absurd (omega arith)
two_at (b ∷ []) at h = absurd (omega arith)
two_at (b ∷ c ∷ bs) zero h = refl
two_at (b ∷ c ∷ bs) (suc at) h = rw (suc_add at 1, suc_add at 2) (two_at (c ∷ bs) at (omega arith))

closes : (b : ℕ) (bs : List ℕ) → b ≡ 34 → after_quote (b ∷ bs) ≡ closed bs
unfolding after_quote
closes b [] e = rw e refl
closes b (c ∷ bs) e = rw e refl

breaks : (b : ℕ) (bs : List ℕ) → eqb b 34 ≡ false → (eqb b 10 || eqb b 13) ≡ true → after_quote (b ∷ bs) ≡ broken OpenString bs
unfolding after_quote
breaks b [] e f = rw e refl
breaks b (c ∷ bs) e f = rw (e, f) refl

escapes : (c : ℕ) (bs : List ℕ) → after_quote (92 ∷ c ∷ bs) ≡ with_escape (escaped c) bs (after_quote bs)
unfolding after_quote
escapes c bs = refl

pub goes_on : (b : ℕ) (bs : List ℕ) → eqb b 34 ≡ false → (eqb b 10 || eqb b 13) ≡ false → eqb b 92 ≡ false → after_quote (b ∷ bs) ≡ with_character b (after_quote bs)
unfolding after_quote
goes_on b [] e f g = rw e refl
goes_on b (c ∷ bs) e f g = rw (e, f, g) refl

alone : after_quote (92 ∷ []) ≡ broken OpenString []
unfolding after_quote
alone = refl

pub quote_past : (text : List ℕ) (at : ℕ) → length text ≤ at → after_quote (drop at text) ≡ broken OpenString []
unfolding after_quote
quote_past [] zero h = refl
quote_past [] (suc at) h = refl
quote_past (b ∷ bs) zero h = absurd (omega arith)
quote_past (b ∷ bs) (suc at) h = quote_past bs at (omega arith)

drop_all : (text : List ℕ) → drop (length text) text ≡ []
drop_all [] = refl
drop_all (b ∷ bs) = drop_all bs

append_none : (xs : List ℕ) → xs ++ [] ≡ xs
append_none [] = refl
append_none (x ∷ xs) = ap (λ t. x ∷ t) (append_none xs)

not_equal : (a b : ℕ) → a ≢ b → eqb a b ≡ false
not_equal a b h = grind (arith, nat_tests)

-- the string up to a place, and what the byte there makes of it
module _ (text : List ℕ) (at : ℕ) (content : List ℕ) (read : after_quote text ≡ with_characters content (after_quote (drop at text))) where
  pub string_past : length text ≤ at → after_quote text ≡ broken OpenString (drop (length text) text)
  string_past h = read ∙ ap (with_characters content) (quote_past text at h) ∙ ap (broken OpenString) (sym (drop_all text))

  module _ (h : at < length text) where
    pub string_closes : get_or text at 0 ≡ 34 → after_quote text ≡ record { content = Ok content; rest = drop (at + 1) text }
    string_closes e =
        let f = λ (cs : List ℕ). record (closed (drop (at + 1) text)) { content = Ok cs } in
        read ∙ ap (with_characters content) (quote_at text at h ∙ closes _ _ e) ∙ ap f (append_none content)

    pub string_breaks : get_or text at 0 ≢ 34 → (eqb (get_or text at 0) 10 || eqb (get_or text at 0) 13) ≡ true → after_quote text ≡ broken OpenString (drop (at + 1) text)
    string_breaks e f = read ∙ ap (with_characters content) (quote_at text at h ∙ breaks _ _ (not_equal _ _ e) f)

    pub string_goes : get_or text at 0 ≢ 34 → (eqb (get_or text at 0) 10 || eqb (get_or text at 0) 13) ≡ false → get_or text at 0 ≢ 92 → (more : List ℕ) → more ≡ content ++ get_or text at 0 ∷ [] → after_quote text ≡ with_characters more (after_quote (drop (at + 1) text))
    string_goes e f g more m =
        read ∙ ap (with_characters content) (quote_at text at h ∙ goes_on _ _ (not_equal _ _ e) f (not_equal _ _ g))
        ∙ with_more content _ _ ∙ ap (λ t. with_characters t (after_quote (drop (at + 1) text))) (sym m)

    module _ (e : get_or text at 0 ≡ 92) where
      pub string_cut : at + 1 ≡ length text → after_quote text ≡ broken OpenString (drop (length text) text)
      string_cut n =
          read ∙ ap (with_characters content) (quote_at text at h ∙ ap (λ b. after_quote (b ∷ drop (at + 1) text)) e ∙ ap (λ m. after_quote (92 ∷ drop m text)) n ∙ ap (λ t. after_quote (92 ∷ t)) (drop_all text) ∙ alone)
          ∙ ap (broken OpenString) (sym (drop_all text))

      escape_at : at + 1 < length text → after_quote (drop at text) ≡ with_escape (escaped (get_or text (at + 1) 0)) (drop (at + 2) text) (after_quote (drop (at + 2) text))
      escape_at n =
          quote_at text at h ∙ ap (λ b. after_quote (b ∷ drop (at + 1) text)) e ∙ ap (λ t. after_quote (92 ∷ t)) (two_at text at n) ∙ escapes _ _

      pub string_bad : at + 1 < length text → escaped (get_or text (at + 1) 0) ≡ None → after_quote text ≡ broken BadCharacter (drop (at + 2) text)
      string_bad n f =
          read ∙ ap (with_characters content) (escape_at n ∙ ap (λ o. with_escape o (drop (at + 2) text) (after_quote (drop (at + 2) text))) f)

      pub string_escape : at + 1 < length text → (c : ℕ) → escaped (get_or text (at + 1) 0) ≡ Some c → (more : List ℕ) → more ≡ content ++ c ∷ [] → after_quote text ≡ with_characters more (after_quote (drop (at + 2) text))
      string_escape n c f more m =
          read ∙ ap (with_characters content) (escape_at n ∙ ap (λ o. with_escape o (drop (at + 2) text) (after_quote (drop (at + 2) text))) f)
          ∙ with_more content _ _ ∙ ap (λ t. with_characters t (after_quote (drop (at + 2) text))) (sym m)
