-- Compact JSON of whole numbers has no line feed.
use Rattle.std.proofs.Common.{◌≡◌, ℕ, zero, suc, ◌+◌, ◌/◌, ◌%◌, pos, negsuc, List, [], ◌∷◌, ◌++◌, Bool, true, false, refl, ap, arith, cond, decimal}
use Rattle.std.specs.Prelude.{◌==◌, nat_lt, not}
use Rattle.std.specs.Char.{digit_char}
use Rattle.std.specs.List.{AllByRecursion, list_all, onto_first, slice_split}
use Rattle.std.proofs.lemmas.Bool.{and_parts}
use Rattle.std.proofs.lemmas.Bool.Decides.{nat_tests}
use Rattle.std.specs.Fmt.{digit_glyph, digits, digits_onto}
use Rattle.json.specs.Print.{escape, escape_byte, escape_letter, quoted}
use Rattle.serde_json.specs.Data.{Num, unsigned, negative, float, Data, null, boolean, number, string, array, object, Items, no_items, item, Members, no_members, member}
use Rattle.serde_json.specs.Written.{comma_if, compact_text, items_text, members_text, number_text}
use Rattle.twice_printed.proofs.CleanData.{IsWhole, IsClean, AreClean, HaveClean}

abbrev pub NoFeed : List ℕ → Type 0
NoFeed = AllByRecursion (λ b. (b == 10) ≡ false)

-- by a test of each byte
pub feedless-tested : (xs : List ℕ) → list_all (λ b. not (b == 10)) xs ≡ true → NoFeed xs
feedless-tested [] h = tt
feedless-tested (x ∷ xs) h = let p = and_parts (not (x == 10)) (list_all (λ b. not (b == 10)) xs) h in (not_true (x == 10) p.0, feedless-tested xs p.1)
  where
    not_true : (b : Bool) → not b ≡ true → b ≡ false
    not_true true e = absurd cc
    not_true false e = refl

pub feedless-append : (xs ys : List ℕ) → NoFeed xs → NoFeed ys → NoFeed (xs ++ ys)
feedless-append [] ys h k = k
feedless-append (x ∷ xs) ys h k = (h.0, feedless-append xs ys h.1 k)

by_test : (b : Bool) (xs ys : List ℕ) → (b ≡ true → NoFeed xs) → (b ≡ false → NoFeed ys) → NoFeed (cond b xs ys)
by_test true xs ys f g = f refl
by_test false xs ys f g = g refl

letter_is_no_feed : (x : ℕ) → (escape_letter x == 10) ≡ false
letter_is_no_feed x = grind (arith, nat_tests)

digit_is_no_feed : (d : ℕ) → (digit_char d == 10) ≡ false
digit_is_no_feed d = grind (arith, nat_tests)

plain_is_no_feed : (x : ℕ) → nat_lt 0 (escape_letter x) ≡ false → (x == 10) ≡ false
plain_is_no_feed x h = grind (arith, nat_tests, h)

byte_is_feedless : (x : ℕ) → NoFeed (escape_byte x)
unfolding escape_byte
byte_is_feedless x =
    by_test (nat_lt 0 (escape_letter x)) _ _ (λ e. (refl, (letter_is_no_feed x, tt)))
    (λ e. by_test (nat_lt x 32) _ _ (λ f. (refl, (refl, (refl, (refl, (digit_is_no_feed (x / 16), (digit_is_no_feed (x % 16), tt))))))) (λ f. (plain_is_no_feed x e, tt)))

escaped : (s : List ℕ) → NoFeed (escape s)
escaped [] = tt
escaped (x ∷ s) = feedless-append (escape_byte x) (escape s) (byte_is_feedless x) (escaped s)

pub feedless-quoted : (s : List ℕ) → NoFeed (quoted s)
feedless-quoted s = (refl, feedless-append (escape s) (34 ∷ []) (escaped s) (refl, tt))

glyph_is_no_feed : (b : Bool) (d : ℕ) → (cond b (48 + d) (87 + d) == 10) ≡ false
glyph_is_no_feed true d = grind (arith, nat_tests)
glyph_is_no_feed false d = grind (arith, nat_tests)

feedless-digits : (k n : ℕ) (ds : List ℕ) → NoFeed ds → NoFeed (digits_onto k 10 false n ds)
feedless-digits zero n ds h = h
feedless-digits (suc k) n ds h =
    let glyph = glyph_is_no_feed (nat_lt (n % 10) 10) (n % 10) in
    by_test (n / 10 == 0) _ _ (λ e. (glyph, h)) (λ e. feedless-digits k (n / 10) (digit_glyph false (n % 10) ∷ ds) (glyph, h))

pub feedless-decimal : (n : ℕ) → NoFeed (decimal n)
unfolding digits
feedless-decimal n = feedless-digits 64 n [] tt

feedless-number : (n : Num) → IsWhole n → NoFeed (number_text n)
feedless-number (unsigned n) h = feedless-decimal n
feedless-number (negative (pos n)) h = absurd h
feedless-number (negative (negsuc n)) h = (refl, feedless-decimal (suc n))
feedless-number (float x) h = absurd h

feedless-comma : (b : Bool) → NoFeed (comma_if b)
feedless-comma true = (refl, tt)
feedless-comma false = tt

mutual
  pub feedless : (d : Data) → IsClean d → NoFeed (compact_text d)
  feedless null h = (refl, (refl, (refl, (refl, tt))))
  feedless (boolean true) h = (refl, (refl, (refl, (refl, tt))))
  feedless (boolean false) h = (refl, (refl, (refl, (refl, (refl, tt)))))
  feedless (number n) h = feedless-number n h
  feedless (string s) h = feedless-quoted s
  feedless (array ds) h = (refl, feedless_items false ds h)
  feedless (object ms) h = (refl, feedless_members false ms h)

  feedless_items : (later : Bool) (ds : Items) → AreClean ds → NoFeed (items_text later ds)
  feedless_items later no_items h = (refl, tt)
  feedless_items later (item d ds) h =
      feedless-append (comma_if later) (compact_text d ++ items_text true ds) (feedless-comma later) (feedless-append (compact_text d) (items_text true ds) (feedless d h.0) (feedless_items true ds h.1))

  feedless_members : (later : Bool) (ms : Members) → HaveClean ms → NoFeed (members_text later ms)
  feedless_members later no_members h = (refl, tt)
  feedless_members later (member k d ms) h =
      feedless-append (comma_if later) (quoted k ++ 58 ∷ (compact_text d ++ members_text true ms)) (feedless-comma later)
      (feedless-append (quoted k) (58 ∷ (compact_text d ++ members_text true ms)) (feedless-quoted k) (refl, feedless-append (compact_text d) (members_text true ms) (feedless d h.1) (feedless_members true ms h.3)))

cut_later : (b : Bool) (x : ℕ) (xs : List ℕ) (parts all : List (List ℕ)) → b ≡ false → parts ≡ xs ∷ all → cond b ([] ∷ parts) (onto_first x parts) ≡ (x ∷ xs) ∷ all
cut_later true x xs parts all e p = absurd cc
cut_later false x xs parts all e p = ap (onto_first x) p

-- a line that has no line feed is the first piece of a text that it begins
pub first_piece : (xs rest : List ℕ) → NoFeed xs → slice_split (λ b. b == 10) (xs ++ 10 ∷ rest) ≡ xs ∷ slice_split (λ b. b == 10) rest
first_piece [] rest h = refl
first_piece (x ∷ xs) rest h =
    cut_later (x == 10) x xs (slice_split (λ b. b == 10) (xs ++ 10 ∷ rest)) (slice_split (λ b. b == 10) rest) h.0 (first_piece xs rest h.1)
