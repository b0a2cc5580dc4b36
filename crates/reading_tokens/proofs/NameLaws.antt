-- The program's test of a name tells the names of the language.
use Rattle.std.proofs.Common.{◌≡◌, inl, inr, ◌∙◌, sym, ap, refl, ℕ, ◌==◌, ◌&&◌, not, Bool, true, false, cond, List, [], ◌∷◌, Option, Some, None, arith}
use Rattle.std.proofs.lemmas.Bool.{and_parts, and_from, false≢true, not-true}
use Rattle.std.proofs.lemmas.Bool.Decides.{nat_tests}
use Rattle.std.specs.Prelude.{is_some, length, Result, Ok, Err, drop, nat_lt, ◌^◌, if◌then◌else◌, pos, ℤ}
use Rattle.std.specs.List.{list_all, list_any}
use Rattle.std.specs.Str.{bytes_eq}
use Rattle.reading_tokens.specs.declared.token.Kind.{Kind}
use Rattle.reading_tokens.specs.declared.token.Kind.TheVariants as kinds
use Rattle.reading_tokens.specs.declared.token.Symbol.TheVariants as symbol
use Rattle.reading_tokens.specs.declared.piece.LexKind.{LexKind}
use Rattle.reading_tokens.specs.declared.piece.LexKind.TheVariants.{BadCharacter, NumberTooLarge}
use Rattle.reading_tokens.specs.declared.piece.Shape.{Shape}
use Rattle.reading_tokens.specs.declared.piece.Shape.TheVariants.{Blank, Spelled, Bad}
use Rattle.reading_tokens.specs.Spellings.{Spelling, kind_in, words, runs, signs}
use Rattle.reading_tokens.specs.Shapes.{after_comment, after_quote, backslash_shape, begins_fair, begins_four, comment_shape, content_shape, each, in_line, is_base, is_blank, is_dash, is_digit, is_empty, is_equal, is_letter, is_one_digit, is_word, is_word_start, named_shape, number_from, number_shape, only_if, opens_comment, run_shape, sign_shape, string_shape, word_shape}
use Rattle.reading_tokens.proofs.Choices.{if_or, pick}
use Rattle.reading_tokens.specs.Names.{IsName}
use Rattle.reading_tokens.specs.NameTests.{is_plain_name, is_word_text}

each_here : (x y : Bool) → cond x y false ≡ (x && y)
each_here true y = refl
each_here false y = refl

each_is : (p : ℕ → Bool) (bs : List ℕ) → each p bs ≡ list_all p bs
each_is p [] = refl
each_is p (b ∷ bs) = each_here (p b) (each p bs) ∙ ap (λ r. p b && r) (each_is p bs)

-- ---- no table spells a name

abbrev is_name_kind : Kind → Bool
is_name_kind (kinds.Name text) = true
is_name_kind _ = false

abbrev names_none : List Spelling → Bool
names_none = list_all (λ s. not (is_name_kind s.kind))

kind_none : (ss : List Spelling) (bs : List ℕ) (k : Kind) → names_none ss ≡ true → kind_in ss bs ≡ Some k → is_name_kind k ≡ false
unfolding kind_in
kind_none [] bs k h e = cc
kind_none (s ∷ ss) bs k h e =
    let p = and_parts (not (is_name_kind s.kind)) (names_none ss) h in
    elim (pick (bytes_eq s.bytes bs) (Some s.kind) (kind_in ss bs) k e) [
      | inl q ↦ let same : s.kind ≡ k = cc in ap is_name_kind (sym same) ∙ not-true _ p.0
      | inr q ↦ kind_none ss bs k p.1 q
    ]

no_name : (ss : List Spelling) (bs name : List ℕ) → names_none ss ≡ true → kind_in ss bs ≡ Some (kinds.Name name) → ⊥
no_name ss bs name h e = false≢true (sym (kind_none ss bs (kinds.Name name) h e))

words_none : names_none words ≡ true
unfolding words
words_none = refl

runs_none : names_none runs ≡ true
unfolding runs
runs_none = refl

signs_none : names_none signs ≡ true
unfolding signs
signs_none = refl

-- ---- what is no word is no name

abbrev IsThis : Option Shape → List ℕ → Type 0
IsThis o name = o ≡ Some (Spelled (kinds.Name name))

only_none : (b : Bool) (s : Shape) (name : List ℕ) → IsThis (only_if b s) name → s ≡ Spelled (kinds.Name name)
only_none true s name e = cc
only_none false s name e = cc

number_at : (b : Bool) (n : ℤ) (name : List ℕ) → cond b (Spelled (kinds.Number n)) (Bad NumberTooLarge) ≡ Spelled (kinds.Name name) → ⊥
number_at true n name e = cc
number_at false n name e = cc

number_none : (b : Bool) (digits name : List ℕ) → IsThis (only_if b (number_shape digits)) name → ⊥
number_none b digits name e =
    number_at (nat_lt (number_from 0 digits) (2 ^ 63)) (pos (number_from 0 digits)) name (only_none b (number_shape digits) name e)

content_none : (r : Result (List ℕ) LexKind) (name : List ℕ) → content_shape r ≡ Spelled (kinds.Name name) → ⊥
content_none (Ok text) name e = cc
content_none (Err why) name e = cc

kind_shape_none : (k : Kind) (name : List ℕ) → IsThis (Some (Spelled k)) name → k ≡ kinds.Name name
kind_shape_none k name e = cc

run_none : (b : Bool) (o : Option Kind) (name : List ℕ) → IsThis (run_shape b o) name → o ≡ Some (kinds.Name name)
run_none true None name e = cc
run_none true (Some k) name e = ap (λ k. Some k) (kind_shape_none k name e)
run_none false o name e = cc

backslash_none : (bs name : List ℕ) → IsThis (backslash_shape bs) name → ⊥
backslash_none [] name e = cc
backslash_none (c ∷ cs) name e = elim (pick (c == 42) _ _ _ e) [
  | inl h ↦ let bad = only_none (each in_line cs) Blank name h in cc
  | inr h ↦ elim (pick (c == 47) _ _ _ h) [
    | inl h ↦ let bad = only_none (is_empty cs) (Spelled (kinds.Symbol symbol.Or)) name h in cc
    | inr h ↦ elim (pick (is_base c && is_one_digit cs) _ _ _ h) [
      | inl h ↦ cc
      | inr h ↦ no_name runs (c ∷ cs) name runs_none (run_none (each is_letter (c ∷ cs)) (kind_in runs (c ∷ cs)) name h)
    ]
  ]
]

comment_none : (o : Option (List ℕ)) (name : List ℕ) → IsThis (comment_shape o) name → ⊥
comment_none None name e = cc
comment_none (Some rest) name e = let bad = only_none (is_empty rest) Blank name e in cc

sign_none : (o : Option Kind) (bs name : List ℕ) → IsThis (sign_shape o bs) name → o ≡ Some (kinds.Name name)
sign_none (Some k) bs name e = ap (λ k. Some k) (kind_shape_none k name e)
sign_none None [] name e = cc
sign_none None (b ∷ bs) name e = cc

sign_tail_none : (b : ℕ) (bs name : List ℕ)
    → IsThis (if b == 34 then string_shape (after_quote bs)
    else if b == 92 then backslash_shape bs
    else if opens_comment (b ∷ bs) then comment_shape (after_comment 1 (drop 1 bs))
    else if begins_four 45 (b ∷ bs) then only_if (each is_dash bs) (Spelled kinds.Dashes)
    else if begins_four 61 (b ∷ bs) then only_if (each is_equal bs) (Spelled kinds.Equals)
    else sign_shape (kind_in signs (b ∷ bs)) bs) name
    → ⊥
sign_tail_none b bs name e = elim (pick (b == 34) _ _ _ e) [
  | inl h ↦ content_none (after_quote bs).content name (only_none (is_empty (after_quote bs).rest) (content_shape (after_quote bs).content) name h)
  | inr h ↦ elim (pick (b == 92) _ _ _ h) [
    | inl h ↦ backslash_none bs name h
    | inr h ↦ elim (pick (opens_comment (b ∷ bs)) _ _ _ h) [
      | inl h ↦ comment_none (after_comment 1 (drop 1 bs)) name h
      | inr h ↦ elim (pick (begins_four 45 (b ∷ bs)) _ _ _ h) [
        | inl h ↦ let bad = only_none (each is_dash bs) (Spelled kinds.Dashes) name h in cc
        | inr h ↦ elim (pick (begins_four 61 (b ∷ bs)) _ _ _ h) [
          | inl h ↦ let bad = only_none (each is_equal bs) (Spelled kinds.Equals) name h in cc
          | inr h ↦ no_name signs (b ∷ bs) name signs_none (sign_none (kind_in signs (b ∷ bs)) bs name h)
        ]
      ]
    ]
  ]
]

-- ---- words

not_blank : (b : ℕ) → is_word_start b ≡ true → is_blank b ≡ false
not_blank b h = grind (arith, nat_tests)

not_digit : (b : ℕ) → is_word_start b ≡ true → is_digit b ≡ false
not_digit b h = grind (arith, nat_tests)

is_none : (o : Option Kind) → not (is_some o) ≡ true → o ≡ None
is_none None h = refl
is_none (Some k) h = cc

-- the parts of the test
record Plain (name : List ℕ) : Type 0 where
  text : is_word_text name ≡ true
  letter : list_any is_letter name ≡ true
  fair : begins_fair name ≡ false
  kind : kind_in words name ≡ None

plain : (name : List ℕ) → is_plain_name name ≡ true → Plain name
plain name h =
    let a = and_parts (is_word_text name && list_any is_letter name && not (begins_fair name)) (not (is_some (kind_in words name))) h in
    let b = and_parts (is_word_text name && list_any is_letter name) (not (begins_fair name)) a.0 in
    let d = and_parts (is_word_text name) (list_any is_letter name) b.0 in
    record { text = d.0; letter = d.1; fair = not-true _ b.1; kind = is_none _ a.1 }

named : (name : List ℕ) → kind_in words name ≡ None → list_any is_letter name ≡ true → named_shape (kind_in words name) name ≡ Spelled (kinds.Name name)
named name k l = ap (λ o. named_shape o name) k ∙ ap (λ b. cond b (Spelled (kinds.Name name)) (Bad BadCharacter)) l

word_named : (name : List ℕ) → Plain name → IsThis (word_shape name) name
word_named name p = let f = p.fair in rw f (ap (λ s. Some s) (named name p.kind p.letter))

pub is_name_to : (name : List ℕ) → is_plain_name name ≡ true → IsName name
is_name_to [] h = cc
is_name_to (b ∷ bs) h =
    let p = plain (b ∷ bs) h in
    let t = and_parts (is_word_start b) (list_all is_word bs) p.text in
    let s = t.0 in
    let each_word = each_is is_word bs ∙ t.1 in
    let blank = not_blank b s in
    let digit = not_digit b s in
    rw (blank, digit, s, each_word) (word_named (b ∷ bs) p)

has_letter : (b : Bool) (w name : List ℕ) → cond b (Spelled (kinds.Name w)) (Bad BadCharacter) ≡ Spelled (kinds.Name name) → b ≡ true
has_letter true w name e = refl
has_letter false w name e = cc

some_same : {X : Type 0} {x y : X} → Some x ≡ Some y → x ≡ y
some_same e = cc

only_word : (o : Option Kind) (w name : List ℕ) → kind_in words w ≡ o → named_shape o w ≡ Spelled (kinds.Name name)
    → (kind_in words w ≡ None) × (list_any is_letter w ≡ true)
only_word (Some k) w name q e = absurd (no_name words w name words_none (q ∙ ap (λ k. Some k) (let same : k ≡ kinds.Name name = cc in same)))
only_word None w name q e = (q, has_letter (list_any is_letter w) w name e)

word_is : (w name : List ℕ) → IsThis (word_shape w) name → (begins_fair w ≡ false) × (kind_in words w ≡ None) × (list_any is_letter w ≡ true)
word_is w name e = elim (if_or (begins_fair w) _ _ _ e) [
  | inl h ↦ let bad = only_none (length w == 3) (Spelled kinds.Fair) name h.1 in cc
  | inr h ↦
      let same : named_shape (kind_in words w) w ≡ Spelled (kinds.Name name) = some_same h.1 in
      let r = only_word (kind_in words w) w name refl same in
      (h.0, r.0, r.1)
]

word_from : (b : ℕ) (bs name : List ℕ) → is_word_start b ≡ true → IsThis (if each is_word bs then word_shape (b ∷ bs) else None) name → is_plain_name (b ∷ bs) ≡ true
word_from b bs name s e = elim (if_or (each is_word bs) _ _ _ e) [
  | inl h ↦
      let r = word_is (b ∷ bs) name h.1 in
      let t : is_word_text (b ∷ bs) ≡ true = and_from _ _ s (sym (each_is is_word bs) ∙ h.0) in
      and_from _ _ (and_from _ _ (and_from _ _ t r.2) (ap not r.0)) (ap (λ o. not (is_some o)) r.1)
  | inr h ↦ cc
]

pub is_name_from : (name : List ℕ) → IsName name → is_plain_name name ≡ true
is_name_from [] e = cc
is_name_from (b ∷ bs) e = elim (if_or (is_blank b) _ _ _ e) [
  | inl h ↦ let bad = only_none (is_empty bs) Blank (b ∷ bs) h.1 in cc
  | inr h ↦ elim (if_or (is_digit b) _ _ _ h.1) [
    | inl h ↦ absurd (number_none (each is_digit bs) (b ∷ bs) (b ∷ bs) h.1)
    | inr h ↦ elim (if_or (is_word_start b) _ _ _ h.1) [
      | inl h ↦ word_from b bs (b ∷ bs) h.0 h.1
      | inr h ↦ absurd (sign_tail_none b bs (b ∷ bs) h.1)
    ]
  ]
]

-- the bytes of a name are letters, digits and `_`
pub name_bytes : (name : List ℕ) → IsName name → list_all is_word name ≡ true
name_bytes [] h = refl
name_bytes (b ∷ bs) h =
    let p = plain (b ∷ bs) (is_name_from (b ∷ bs) h) in
    let t = and_parts (is_word_start b) (list_all is_word bs) p.text in
    let s = t.0 in
    and_from (is_word b) (list_all is_word bs) (rw s refl) t.1
