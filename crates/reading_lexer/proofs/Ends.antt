-- Strings and comments, at the front of a text.
use Rattle.std.proofs.Common.{◌≡◌, ℕ, zero, suc, ◌+◌, ◌-◌, ◌<◌, ◌≤◌, ◌⊎◌, inl, inr, Bool, true, false, ◌||◌, ◌&&◌, cond, eqb, List, [], ◌∷◌, ◌++◌, length, get_or, take, drop, Option, Some, None, Result, Ok, Err, refl, sym, ap, subst, ◌∙◌, arith, append_assoc, length-append, length-drop}
use Rattle.std.proofs.lemmas.Bool.Decides.{nat_tests}
use Rattle.std.proofs.lemmas.List.{take_at}
use Rattle.std.proofs.lemmas.Str.{IsUtf8-take, IsUtf8-drop, IsUtf8-append, IsUtf8-nil, IsUtf8-from_ascii, IsCharBoundary-before_ascii, IsCharBoundary-after_ascii}
use Rattle.std.proofs.lemmas.Str.Ascii.{IsAscii-nil, IsAscii-cons}
use Rattle.std.specs.Str.{IsUtf8}
use Rattle.std.specs.Prelude.{nat_lt}
use Rattle.reading_tokens.specs.declared.piece.LexKind.{LexKind}
use Rattle.reading_tokens.specs.declared.piece.LexKind.TheVariants.{OpenString, OpenComment}
use Rattle.reading_tokens.specs.declared.piece.Shape.TheVariants.{Blank, Bad}
use Rattle.reading_tokens.specs.Shapes.{IsPiece, shape_of, is_empty, Quoted, after_quote, escaped, with_character, with_byte, with_escape, closed, broken, content_shape, string_shape, opens_comment, after_comment, comment_shape}
use Rattle.reading_lexer.proofs.Fronts.{made, no_run, first_of, rest_of, only_if_false, and_first, and_second}
use Rattle.reading_lexer.proofs.Quotes.{goes_on}
use Rattle.reading_lexer.specs.Lexer.{InUtf8}

-- the bytes of a string, before what stands behind it
abbrev Stops : List ℕ → Quoted → Type 0
Stops xs q = 0 < length q.rest → (used : List ℕ) × (xs ≡ used ++ q.rest) × ((more : List ℕ) → after_quote (used ++ more) ≡ record { content = q.content; rest = more })

closes_more : (b : ℕ) (more : List ℕ) → eqb b 34 ≡ true → after_quote (b ∷ more) ≡ closed more
unfolding after_quote
closes_more b [] e = first_of (eqb b 34) _ _ e
closes_more b (c ∷ bs) e = first_of (eqb b 34) _ _ e

breaks_more : (b : ℕ) (more : List ℕ) → eqb b 34 ≡ false → (eqb b 10 || eqb b 13) ≡ true → after_quote (b ∷ more) ≡ broken OpenString more
unfolding after_quote
breaks_more b [] e f = rest_of (eqb b 34) _ _ e
breaks_more b (c ∷ bs) e f = rest_of (eqb b 34) _ _ e ∙ first_of (eqb b 10 || eqb b 13) _ _ f

escape_more : (b c : ℕ) (more : List ℕ) → eqb b 34 ≡ false → (eqb b 10 || eqb b 13) ≡ false → eqb b 92 ≡ true → after_quote (b ∷ c ∷ more) ≡ with_escape (escaped c) more (after_quote more)
unfolding after_quote
escape_more b c more e f g = rest_of (eqb b 34) _ _ e ∙ rest_of (eqb b 10 || eqb b 13) _ _ f ∙ first_of (eqb b 92) _ _ g

stops_escape : (b c : ℕ) (bs : List ℕ) (o : Option ℕ) → escaped c ≡ o → eqb b 34 ≡ false → (eqb b 10 || eqb b 13) ≡ false → eqb b 92 ≡ true → Stops bs (after_quote bs) → Stops (b ∷ c ∷ bs) (with_escape o bs (after_quote bs))
stops_escape b c bs (Some d) o e f g h = λ l.
    let u = h l in
    (b ∷ c ∷ u.0, ap (λ t. b ∷ c ∷ t) u.1, λ more. escape_more b c (u.0 ++ more) e f g ∙ ap (λ r. with_escape r (u.0 ++ more) (after_quote (u.0 ++ more))) o ∙ ap (with_character d) (u.2 more))
stops_escape b c bs None o e f g h = λ l.
    (b ∷ c ∷ [], refl, λ more. escape_more b c more e f g ∙ ap (λ r. with_escape r more (after_quote more)) o)

stops_by : (b c : ℕ) (bs : List ℕ) (x y z : Bool) → eqb b 34 ≡ x → (eqb b 10 || eqb b 13) ≡ y → eqb b 92 ≡ z → Stops bs (after_quote bs) → Stops (c ∷ bs) (after_quote (c ∷ bs)) → Stops (b ∷ c ∷ bs) (cond x (closed (c ∷ bs)) (cond y (broken OpenString (c ∷ bs)) (cond z (with_escape (escaped c) bs (after_quote bs)) (with_character b (after_quote (c ∷ bs))))))
stops_by b c bs true y z e f g h k = λ l. (b ∷ [], refl, λ more. closes_more b more e)
stops_by b c bs false true z e f g h k = λ l. (b ∷ [], refl, λ more. breaks_more b more e f)
stops_by b c bs false false true e f g h k = stops_escape b c bs (escaped c) refl e f g h
stops_by b c bs false false false e f g h k = λ l.
    let u = k l in
    (b ∷ u.0, ap (λ t. b ∷ t) u.1, λ more. goes_on b (u.0 ++ more) e f g ∙ ap (with_character b) (u.2 more))

none_left : (b : Bool) → 0 < length (cond b (closed []) (broken OpenString [])).rest → ⊥
none_left true h = omega arith
none_left false h = omega arith

stops : (xs : List ℕ) → Stops xs (after_quote xs)
unfolding after_quote
stops [] = λ l. absurd (omega arith)
stops (b ∷ []) = λ l. absurd (none_left (eqb b 34) l)
stops (b ∷ c ∷ bs) = stops_by b c bs (eqb b 34) (eqb b 10 || eqb b 13) (eqb b 92) refl refl refl (stops bs) (stops (c ∷ bs))

string_is : (ys : List ℕ) → shape_of (34 ∷ ys) ≡ string_shape (after_quote ys)
string_is ys = refl

not_empty : (m : ℕ) (rest : List ℕ) → 0 < m → m ≤ length rest → is_empty (take m rest) ≡ false
not_empty zero rest h k = absurd (omega arith)
not_empty (suc m) [] h k = absurd (omega arith)
not_empty (suc m) (x ∷ rest) h k = refl

take_past : (front rest : List ℕ) (m : ℕ) → length front ≤ m → take m (front ++ rest) ≡ front ++ take (m - length front) rest
take_past [] rest m h = ap (λ n. take n rest) (let e : m ≡ m - 0 = omega arith in e)
take_past (y ∷ front) rest zero h = absurd (omega arith)
take_past (y ∷ front) rest (suc m) h =
    let e : suc m - suc (length front) ≡ m - length front = omega arith in
    ap (λ t. y ∷ t) (take_past front rest m (omega arith)) ∙ ap (λ n. y ∷ (front ++ take n rest)) (sym e)

shape_none : (q : Quoted) → is_empty q.rest ≡ false → string_shape q ≡ None
shape_none q e = only_if_false _ _ e

string_front : (used rest : List ℕ) (content : Result (List ℕ) LexKind) → 0 < length rest → ((more : List ℕ) → after_quote (used ++ more) ≡ record { content = content; rest = more }) → IsPiece (34 ∷ (used ++ rest)) (suc (length used)) (content_shape content)
string_front used rest content l h =
    made (34 ∷ (used ++ rest)) (suc (length used)) _ (omega arith) (omega (arith, length-append used rest)) (no_run 34 _ refl)
    (ap (λ t. string_shape (after_quote t)) (take_past used rest (length used) (omega arith)) ∙ ap string_shape (h (take (length used - length used) rest)) ∙ whole used rest content)
    (longer used rest content h) where
      whole : (used rest : List ℕ) (content : Result (List ℕ) LexKind) → string_shape (record { content = content; rest = take (length used - length used) rest }) ≡ Some (content_shape content)
      whole used rest content =
          let e : length used - length used ≡ 0 = omega arith in
          ap (λ n. string_shape (record { content = content; rest = take n rest })) e

      longer : (used rest : List ℕ) (content : Result (List ℕ) LexKind) → ((more : List ℕ) → after_quote (used ++ more) ≡ record { content = content; rest = more }) → (more : ℕ) → suc (length used) < more → more ≤ length (34 ∷ (used ++ rest)) → shape_of (take more (34 ∷ (used ++ rest))) ≡ None
      longer used rest content h zero k w = absurd (omega arith)
      longer used rest content h (suc m) k w =
          ap (λ t. string_shape (after_quote t)) (take_past used rest m (omega arith)) ∙ ap string_shape (h (take (m - length used) rest))
          ∙ shape_none _ (not_empty (m - length used) rest (omega arith) (omega (arith, length-append used rest)))

take_all : (xs : List ℕ) → take (length xs) xs ≡ xs
take_all [] = refl
take_all (x ∷ xs) = ap (λ t. x ∷ t) (take_all xs)

-- a string that goes to the end of the text
string_whole : (cs : List ℕ) (content : Result (List ℕ) LexKind) (rest : List ℕ) → length rest ≡ 0 → after_quote cs ≡ record { content = content; rest = rest } → IsPiece (34 ∷ cs) (suc (length cs)) (content_shape content)
string_whole cs content [] l e =
    made (34 ∷ cs) (suc (length cs)) _ (omega arith) (omega arith) (no_run 34 _ refl)
    (ap (λ t. string_shape (after_quote t)) (take_all cs) ∙ ap string_shape e)
    (λ more k w. absurd (omega arith))
string_whole cs content (r ∷ rest) l e = absurd (omega arith)

string_by : (cs : List ℕ) (size : ℕ) (content : Result (List ℕ) LexKind) → size ≤ length cs → after_quote cs ≡ record { content = content; rest = drop size cs } → ((length cs ≤ size) ⊎ (size < length cs)) → IsPiece (34 ∷ cs) (suc size) (content_shape content)
string_by cs size content w e (inl h) =
    let n : length cs ≡ size = omega arith in
    subst (λ m. IsPiece (34 ∷ cs) (suc m) (content_shape content)) n (string_whole cs content (drop size cs) (omega (arith, length-drop size cs)) e)
string_by cs size content w e (inr h) =
    let l : 0 < length (drop size cs) = omega (arith, length-drop size cs) in
    let r : (after_quote cs).rest ≡ drop size cs = ap (λ q. q.rest) e in
    let u = stops cs (omega (arith, ap length r)) in
    let split : cs ≡ u.0 ++ drop size cs = u.1 ∙ ap (λ t. u.0 ++ t) r in
    let n : length u.0 ≡ size = omega (arith, ap length split, length-append u.0 (drop size cs), length-drop size cs) in
    let f : (more : List ℕ) → after_quote (u.0 ++ more) ≡ record { content = content; rest = more } = λ more. u.2 more ∙ ap (λ (q : Quoted). record { content = q.content; rest = more }) e in
    let p : IsPiece (34 ∷ (u.0 ++ drop size cs)) (suc (length u.0)) (content_shape content) = string_front u.0 (drop size cs) content l f in
    subst (λ t. IsPiece (34 ∷ t) (suc size) (content_shape content)) (sym split) (subst (λ m. IsPiece (34 ∷ (u.0 ++ drop size cs)) (suc m) (content_shape content)) n p)

order : (m n : ℕ) → (m ≤ n) ⊎ (n < m)
order m n = grind arith

pub string_piece : (text rest : List ℕ) (size : ℕ) (content : Result (List ℕ) LexKind) → 0 < length text → get_or text 0 0 ≡ 34 → rest ≡ drop 1 text → size ≤ length rest → after_quote rest ≡ record { content = content; rest = drop size rest } → IsPiece text (size + 1) (content_shape content)
string_piece [] rest size content h f r w e = absurd (omega arith)
string_piece (b ∷ cs) rest size content h f r w e =
    let n : suc size ≡ size + 1 = omega arith in
    let p : IsPiece (34 ∷ rest) (suc size) (content_shape content) = string_by rest size content w e (order (length rest) size) in
    let t : 34 ∷ rest ≡ b ∷ cs = ap (λ x. 34 ∷ x) r ∙ ap (λ x. x ∷ cs) (sym f) in
    subst (λ m. IsPiece (b ∷ cs) m (content_shape content)) n (subst (λ x. IsPiece x (suc size) (content_shape content)) t p)

-- the characters of a string are UTF-8 where the text is: pre is what stands before them
before_ascii : (pre cs : List ℕ) (b : ℕ) → b < 128 → IsUtf8 (pre ++ b ∷ cs) → IsUtf8 pre
before_ascii pre cs b h u =
    let n : length pre < length (pre ++ b ∷ cs) = omega (arith, length-append pre (b ∷ cs)) in
    let g : get_or (pre ++ b ∷ cs) (length pre) 0 ≡ b = at_seam pre b cs in
    let p = IsUtf8-take (pre ++ b ∷ cs) (length pre) u (IsCharBoundary-before_ascii (pre ++ b ∷ cs) (length pre) n (omega (arith, g))) in
    subst IsUtf8 (take_at pre (b ∷ cs) (length pre) refl) p where
      at_seam : (pre : List ℕ) (b : ℕ) (cs : List ℕ) → get_or (pre ++ b ∷ cs) (length pre) 0 ≡ b
      at_seam [] b cs = refl
      at_seam (p ∷ pre) b cs = at_seam pre b cs

pub behind_ascii : (pre cs : List ℕ) (b : ℕ) → b < 128 → IsUtf8 (pre ++ b ∷ cs) → IsUtf8 cs
behind_ascii pre cs b h u =
    let n : length pre < length (pre ++ b ∷ cs) = omega (arith, length-append pre (b ∷ cs)) in
    let g : get_or (pre ++ b ∷ cs) (length pre) 0 ≡ b = at_seam pre b cs in
    let p = IsUtf8-drop (pre ++ b ∷ cs) (length pre + 1) u (IsCharBoundary-after_ascii (pre ++ b ∷ cs) (length pre) u n (omega (arith, g))) in
    subst IsUtf8 (after pre b cs) p where
      at_seam : (pre : List ℕ) (b : ℕ) (cs : List ℕ) → get_or (pre ++ b ∷ cs) (length pre) 0 ≡ b
      at_seam [] b cs = refl
      at_seam (p ∷ pre) b cs = at_seam pre b cs

      one_more : (n : ℕ) → suc n + 1 ≡ suc (n + 1)
      one_more n = omega arith

      after : (pre : List ℕ) (b : ℕ) (cs : List ℕ) → drop (length pre + 1) (pre ++ b ∷ cs) ≡ cs
      after [] b cs = refl
      after (p ∷ pre) b cs = ap (λ n. drop n (p ∷ pre ++ b ∷ cs)) (one_more (length pre)) ∙ after pre b cs

one_ascii : (c : ℕ) → c < 128 → IsUtf8 (c ∷ [])
one_ascii c h = IsUtf8-from_ascii (c ∷ []) (IsAscii-cons c [] h IsAscii-nil)

escaped_low : (c d : ℕ) → escaped c ≡ Some d → c < 128
escaped_low c d e = grind (arith, nat_tests)

escape_low : (c d : ℕ) → escaped c ≡ Some d → d < 128
escape_low c d e = grind (arith, nat_tests)

abbrev Keeps : List ℕ → List ℕ → Quoted → Type 0
Keeps pre cs q = IsUtf8 (pre ++ cs) → (content : List ℕ) → q.content ≡ Ok content → IsUtf8 (pre ++ content)

abbrev no_characters : Result (List ℕ) LexKind
no_characters = Ok []

keeps_closed : (pre cs : List ℕ) (b : ℕ) → eqb b 34 ≡ true → IsUtf8 (pre ++ b ∷ cs) → (content : List ℕ) → no_characters ≡ Ok content → IsUtf8 (pre ++ content)
keeps_closed pre cs b e u content c =
    let low : b < 128 = grind (arith, nat_tests) in
    let none : [] ≡ content = cc in
    subst (λ t. IsUtf8 (pre ++ t)) none (IsUtf8-append pre [] (before_ascii pre cs b low u) IsUtf8-nil)

inner : (b : ℕ) (r : Result (List ℕ) LexKind) (content : List ℕ) → with_byte b r ≡ Ok content → (k : List ℕ) × (r ≡ Ok k) × (b ∷ k ≡ content)
inner b (Ok k) content e = (k, refl, cc)
inner b (Err why) content e = cc

keeps_escape : (b c : ℕ) (bs : List ℕ) (o : Option ℕ) → escaped c ≡ o → eqb b 92 ≡ true → Keeps [] bs (after_quote bs) → (pre : List ℕ) → Keeps pre (b ∷ c ∷ bs) (with_escape o bs (after_quote bs))
keeps_escape b c bs (Some d) o e h pre = λ u content m.
    let low : b < 128 = grind (arith, nat_tests) in
    let i = inner d _ content m in
    let before = before_ascii pre (c ∷ bs) b low u in
    let v : IsUtf8 ((pre ++ b ∷ []) ++ c ∷ bs) = subst IsUtf8 (sym (append_assoc pre (b ∷ []) (c ∷ bs))) u in
    let rest = behind_ascii (pre ++ b ∷ []) bs c (escaped_low c d o) v in
    subst (λ t. IsUtf8 (pre ++ t)) i.2 (IsUtf8-append pre (d ∷ i.0) before (IsUtf8-append (d ∷ []) i.0 (one_ascii d (escape_low c d o)) (h rest i.0 i.1)))
keeps_escape b c bs None o e h pre = λ u content m. cc

keeps_by : (b c : ℕ) (bs : List ℕ) (x y z : Bool) → eqb b 34 ≡ x → eqb b 92 ≡ z → Keeps [] bs (after_quote bs) → ((pre : List ℕ) → Keeps pre (c ∷ bs) (after_quote (c ∷ bs))) → (pre : List ℕ) → Keeps pre (b ∷ c ∷ bs) (cond x (closed (c ∷ bs)) (cond y (broken OpenString (c ∷ bs)) (cond z (with_escape (escaped c) bs (after_quote bs)) (with_character b (after_quote (c ∷ bs))))))
keeps_by b c bs true y z e g h k pre = λ u content m. keeps_closed pre (c ∷ bs) b e u content m
keeps_by b c bs false true z e g h k pre = λ u content m. cc
keeps_by b c bs false false true e g h k pre = keeps_escape b c bs (escaped c) refl g h pre
keeps_by b c bs false false false e g h k pre = λ u content m.
    let i = inner b _ content m in
    let v : IsUtf8 ((pre ++ b ∷ []) ++ c ∷ bs) = subst IsUtf8 (sym (append_assoc pre (b ∷ []) (c ∷ bs))) u in
    subst (λ t. IsUtf8 (pre ++ t)) i.2 (subst IsUtf8 (append_assoc pre (b ∷ []) i.0) (k (pre ++ b ∷ []) v i.0 i.1))

keeps_one : (pre : List ℕ) (b : ℕ) (x : Bool) → eqb b 34 ≡ x → Keeps pre (b ∷ []) (cond x (closed []) (broken OpenString []))
keeps_one pre b true e = λ u content m. keeps_closed pre [] b e u content m
keeps_one pre b false e = λ u content m. cc

keeps : (cs pre : List ℕ) → Keeps pre cs (after_quote cs)
unfolding after_quote
keeps [] pre = λ u content m. cc
keeps (b ∷ []) pre = keeps_one pre b (eqb b 34) refl
keeps (b ∷ c ∷ bs) pre = keeps_by b c bs (eqb b 34) (eqb b 10 || eqb b 13) (eqb b 92) refl refl (keeps bs []) (keeps (c ∷ bs)) pre

utf8_behind : (text rest : List ℕ) (b : ℕ) → b < 128 → rest ≡ drop 1 text → 0 < length text → get_or text 0 0 ≡ b → InUtf8 text → IsUtf8 rest
utf8_behind [] rest b h r l e u = absurd (omega arith)
utf8_behind (x ∷ xs) rest b h r l e u = subst IsUtf8 (sym r) (behind_ascii u.0 xs x (omega (arith, e)) u.1)

pub string_utf8 : (text rest bytes content left : List ℕ) → 0 < length text → get_or text 0 0 ≡ 34 → rest ≡ drop 1 text → InUtf8 text → after_quote rest ≡ record { content = Ok content; rest = left } → bytes ≡ content → IsUtf8 bytes
string_utf8 text rest bytes content left l e r u q s =
    let low : 34 < 128 = omega arith in
    let v = utf8_behind text rest 34 low r l e u in
    subst IsUtf8 (sym s) (keeps rest [] v content (ap (λ x. x.content) q))

-- the bytes of a comment, before whatever stands behind it
abbrev Used : ℕ → List ℕ → List ℕ → Type 0
Used depth xs rest = (used : List ℕ) × (xs ≡ used ++ rest) × ((more : List ℕ) → after_comment depth (used ++ more) ≡ Some more)

goes_front : (depth b c : ℕ) (bs rest us : List ℕ) → (eqb b 40 && eqb c 42) ≡ false → (eqb b 42 && eqb c 41) ≡ false → c ∷ bs ≡ us ++ rest → ((more : List ℕ) → after_comment depth (us ++ more) ≡ Some more) → Used depth (b ∷ c ∷ bs) rest
unfolding after_comment
goes_front depth b c bs rest [] x y e a = absurd (let q : None ≡ Some [] = a [] in cc)
goes_front depth b c bs rest (d ∷ us) x y e a =
    let q : d ≡ c = cc in
    let f : (more : List ℕ) → after_comment depth (c ∷ us ++ more) ≡ Some more = λ more. subst (λ t. after_comment depth (t ∷ us ++ more) ≡ Some more) q (a more) in
    (b ∷ c ∷ us, ap (λ t. b ∷ t) e ∙ ap (λ t. b ∷ t ∷ (us ++ rest)) q, λ more. rest_of (eqb b 40 && eqb c 42) _ _ x ∙ rest_of (eqb b 42 && eqb c 41) _ _ y ∙ f more)

used_by : (depth b c : ℕ) (bs rest : List ℕ) (x y z : Bool) → (eqb b 40 && eqb c 42) ≡ x → (eqb b 42 && eqb c 41) ≡ y → nat_lt 1 depth ≡ z → (after_comment (depth + 1) bs ≡ Some rest → Used (depth + 1) bs rest) → (after_comment (depth - 1) bs ≡ Some rest → Used (depth - 1) bs rest) → (after_comment depth (c ∷ bs) ≡ Some rest → Used depth (c ∷ bs) rest) → cond x (after_comment (depth + 1) bs) (cond y (cond z (after_comment (depth - 1) bs) (Some bs)) (after_comment depth (c ∷ bs))) ≡ Some rest → Used depth (b ∷ c ∷ bs) rest
unfolding after_comment
used_by depth b c bs rest true y z ex ey ez f g h e =
    let u = f e in (b ∷ c ∷ u.0, ap (λ t. b ∷ c ∷ t) u.1, λ more. first_of (eqb b 40 && eqb c 42) _ _ ex ∙ u.2 more)
used_by depth b c bs rest false true true ex ey ez f g h e =
    let u = g e in
    (b ∷ c ∷ u.0, ap (λ t. b ∷ c ∷ t) u.1, λ more. rest_of (eqb b 40 && eqb c 42) _ _ ex ∙ first_of (eqb b 42 && eqb c 41) _ _ ey ∙ first_of (nat_lt 1 depth) _ _ ez ∙ u.2 more)
used_by depth b c bs rest false true false ex ey ez f g h e =
    (b ∷ c ∷ [], cc, λ more. rest_of (eqb b 40 && eqb c 42) _ _ ex ∙ first_of (eqb b 42 && eqb c 41) _ _ ey ∙ rest_of (nat_lt 1 depth) _ _ ez)
used_by depth b c bs rest false false z ex ey ez f g h e =
    let u = h e in goes_front depth b c bs rest u.0 ex ey u.1 u.2

comment_used : (depth : ℕ) (xs rest : List ℕ) → after_comment depth xs ≡ Some rest → Used depth xs rest
unfolding after_comment
comment_used depth [] rest e = absurd (let q : None ≡ Some rest = e in cc)
comment_used depth (b ∷ []) rest e = absurd (let q : None ≡ Some rest = e in cc)
comment_used depth (b ∷ c ∷ bs) rest e =
    used_by depth b c bs rest (eqb b 40 && eqb c 42) (eqb b 42 && eqb c 41) (nat_lt 1 depth) refl refl refl (comment_used (depth + 1) bs rest) (comment_used (depth - 1) bs rest) (comment_used depth (c ∷ bs) rest) e

comment_none : (o : Option (List ℕ)) (m : ℕ) (rest : List ℕ) → o ≡ Some (take m rest) → 0 < m → m ≤ length rest → comment_shape o ≡ None
comment_none o m rest e h k = ap comment_shape e ∙ only_if_false _ _ (not_empty m rest h k)

comment_front : (used rest : List ℕ) → ((more : List ℕ) → after_comment 1 (used ++ more) ≡ Some more) → IsPiece (40 ∷ 42 ∷ (used ++ rest)) (suc (suc (length used))) Blank
comment_front used rest h =
    made (40 ∷ 42 ∷ (used ++ rest)) (suc (suc (length used))) _ (omega arith) (omega (arith, length-append used rest)) (no_run 40 _ refl)
    (ap (λ t. comment_shape (after_comment 1 t)) (take_past used rest (length used) (omega arith)) ∙ ap comment_shape (h (take (length used - length used) rest)) ∙ whole used rest)
    (longer used rest h) where
      whole : (used rest : List ℕ) → comment_shape (Some (take (length used - length used) rest)) ≡ Some Blank
      whole used rest = let e : length used - length used ≡ 0 = omega arith in ap (λ n. comment_shape (Some (take n rest))) e

      longer : (used rest : List ℕ) → ((more : List ℕ) → after_comment 1 (used ++ more) ≡ Some more) → (more : ℕ) → suc (suc (length used)) < more → more ≤ length (40 ∷ 42 ∷ (used ++ rest)) → shape_of (take more (40 ∷ 42 ∷ (used ++ rest))) ≡ None
      longer used rest h zero k w = absurd (omega arith)
      longer used rest h (suc zero) k w = absurd (omega arith)
      longer used rest h (suc (suc m)) k w =
          ap (λ t. comment_shape (after_comment 1 t)) (take_past used rest m (omega arith))
          ∙ comment_none _ (m - length used) rest (h (take (m - length used) rest)) (omega arith) (omega (arith, length-append used rest))

is_eq : (a b : ℕ) → eqb a b ≡ true → a ≡ b
is_eq a b e = grind (arith, nat_tests)

opening : (b c : ℕ) (bs : List ℕ) → opens_comment (b ∷ c ∷ bs) ≡ true → 40 ∷ 42 ∷ bs ≡ b ∷ c ∷ bs
opening b c bs e =
    let x : b ≡ 40 = is_eq b 40 (and_first (eqb b 40) (eqb c 42) e) in
    let y : c ≡ 42 = is_eq c 42 (and_second (eqb b 40) (eqb c 42) e) in cc

pub comment_piece : (text rest : List ℕ) (end : ℕ) → opens_comment text ≡ true → rest ≡ drop 2 text → end ≤ length rest → after_comment 1 rest ≡ Some (drop end rest) → IsPiece text (end + 2) Blank
comment_piece [] rest end o r w e = cc
comment_piece (b ∷ []) rest end o r w e = cc
comment_piece (b ∷ c ∷ bs) rest end o r w e =
    let u = comment_used 1 rest (drop end rest) e in
    let n : length u.0 ≡ end = omega (arith, ap length u.1, length-append u.0 (drop end rest), length-drop end rest) in
    let m : suc (suc (length u.0)) ≡ end + 2 = omega arith in
    let p = comment_front u.0 (drop end rest) u.2 in
    let t : 40 ∷ 42 ∷ (u.0 ++ drop end rest) ≡ b ∷ c ∷ bs = ap (λ x. 40 ∷ 42 ∷ x) (sym u.1 ∙ r) ∙ opening b c bs o in
    subst (λ x. IsPiece x (end + 2) Blank) t (subst (λ x. IsPiece (40 ∷ 42 ∷ (u.0 ++ drop end rest)) x Blank) m p)

pub open_piece : (text rest : List ℕ) → opens_comment text ≡ true → rest ≡ drop 2 text → after_comment 1 rest ≡ None → IsPiece text (length text) (Bad OpenComment)
open_piece [] rest o r e = cc
open_piece (b ∷ []) rest o r e = cc
open_piece (b ∷ c ∷ bs) rest o r e =
    let f : after_comment 1 bs ≡ None = ap (after_comment 1) (sym r) ∙ e in
    let p : IsPiece (40 ∷ 42 ∷ bs) (length (40 ∷ 42 ∷ bs)) (Bad OpenComment) =
    made (40 ∷ 42 ∷ bs) (length (40 ∷ 42 ∷ bs)) _ (omega arith) (omega arith) (no_run 40 _ refl)
    (ap (λ t. comment_shape (after_comment 1 t)) (take_all bs) ∙ ap comment_shape f)
    (λ more k w. absurd (omega arith))
    in
    subst (λ x. IsPiece x (length x) (Bad OpenComment)) (opening b c bs o) p

pub after_one : (text : List ℕ) → take (length text - 1) (drop 1 text) ≡ drop 1 text
after_one [] = refl
after_one (b ∷ bs) = let e : suc (length bs) - 1 ≡ length bs = omega arith in ap (λ n. take n bs) e ∙ take_all bs

pub after_two : (text : List ℕ) → take (length text - 2) (drop 2 text) ≡ drop 2 text
after_two [] = refl
after_two (b ∷ []) = refl
after_two (b ∷ c ∷ bs) = let e : suc (suc (length bs)) - 2 ≡ length bs = omega arith in ap (λ n. take n bs) e ∙ take_all bs
