-- JSON that has whole numbers alone, texts of UTF-8, and keys that ascend, is read from its text as itself.
use Rattle.std.proofs.Common.{decimal, ◌≡◌, ℕ, suc, ◌^◌, ◌<◌, ◌≤◌, pos, negsuc, max, List, [], ◌∷◌, ◌++◌, Bool, true, false, IsUtf8, append-nil, Some, Ordering, Less, Greater, refl, sym, ap, ◌∙◌, subst, arith, option_map, option_and_then}
use Rattle.std.proofs.lemmas.Fmt.{IsAscii-decimal}
use Rattle.std.proofs.lemmas.Str.{IsUtf8-append, IsUtf8-from_ascii, IsUtf8-nil}
use Rattle.std.specs.Cmp.Lexicographic.{slice_cmp, nat_list_cmp_total}
use Rattle.std.specs.Ordering.{nat_cmp, match_ordering, ordering_reverse}
use Rattle.json.specs.Json as json
use Rattle.json.specs.Token.{Token}
use Rattle.json.specs.Tree as tree
use Rattle.json.specs.Print.{print, quoted}
use Rattle.json.proofs.Printed.Decimals.{IsNumber-decimal, IsNumber-signed_decimal}
use Rattle.json.proofs.Printed.Tokens.{tokens-print}
use Rattle.json.proofs.Printed.Trees.{ArePrintable-json_tokens, value-json_tokens}
use Rattle.json.proofs.Printed.Utf8.{IsUtf8-are_ascii, IsUtf8-boolean, IsUtf8-quoted}
use Rattle.json.specs.Lex.{tokens}
use Rattle.serde_json.specs.Data.{Num, unsigned, negative, float, Data, null, boolean, number, string, array, object, Items, no_items, item, Members, no_members, member, put, depth, items_depth, members_depth}
use Rattle.serde_json.specs.Read.{of_json, of_items, of_members, read, max_depth}
use Rattle.serde_json.specs.Written.{comma_if, compact_text, items_text, members_text, number_text, outline, items_outline, members_outline}
use Rattle.serde_json.proofs.Numbers.{number_of-decimal, number_of-negative}
use Rattle.serde_json.proofs.Texts.{print-outline}

-- an integer of 64 bits
abbrev pub IsWhole : Num → Type 0
IsWhole (unsigned n) = n < 2 ^ 63
IsWhole (negative (pos n)) = ⊥
IsWhole (negative (negsuc n)) = n < 2 ^ 63
IsWhole (float x) = ⊥

-- each key is above k
abbrev pub KeysAbove : List ℕ → Members → Type 0
KeysAbove k no_members = Unit {0}
KeysAbove k (member l d ms) = (slice_cmp nat_cmp k l ≡ Less) × KeysAbove k ms

abbrev mutual
  pub IsClean : Data → Type 0
  IsClean null = Unit {0}
  IsClean (boolean b) = Unit {0}
  IsClean (number n) = IsWhole n
  IsClean (string s) = IsUtf8 s
  IsClean (array ds) = AreClean ds
  IsClean (object ms) = HaveClean ms

  pub AreClean : Items → Type 0
  AreClean no_items = Unit {0}
  AreClean (item d ds) = IsClean d × AreClean ds

  pub HaveClean : Members → Type 0
  HaveClean no_members = Unit {0}
  HaveClean (member k d ms) = IsUtf8 k × IsClean d × KeysAbove k ms × HaveClean ms

-- the members of the one and then those of the other
abbrev join : Members → Members → Members
join no_members ms = ms
join (member k d fs) ms = member k d (join fs ms)

-- each key of the one is below each of the other
abbrev Below : Members → Members → Type 0
Below no_members ms = Unit {0}
Below (member k d fs) ms = KeysAbove k ms × Below fs ms

join-no_members : (fs : Members) → join fs no_members ≡ fs
join-no_members no_members = refl
join-no_members (member k d fs) = ap (member k d) (join-no_members fs)

join_push : (fs : Members) (k : List ℕ) (d : Data) (ms : Members) → join (join fs (member k d no_members)) ms ≡ join fs (member k d ms)
join_push no_members k d ms = refl
join_push (member l e fs) k d ms = ap (member l e) (join_push fs k d ms)

-- a key above those before it goes last
put_last : (fs : Members) (k : List ℕ) (d : Data) (ms : Members) → Below fs (member k d ms) → put k d fs ≡ join fs (member k d no_members)
put_last no_members k d ms h = refl
put_last (member l e fs) k d ms h =
    let above : slice_cmp nat_cmp k l ≡ Greater = nat_list_cmp_total.antisymm k l ∙ ap ordering_reverse h.0.0 in
    ap (λ (o : Ordering). match_ordering o (member k d (member l e fs)) (member l d fs) (member l e (put k d fs))) above ∙ ap (member l e) (put_last fs k d ms h.1)

below_push : (fs : Members) (k : List ℕ) (d : Data) (ms : Members) → Below fs (member k d ms) → KeysAbove k ms → Below (join fs (member k d no_members)) ms
below_push no_members k d ms h a = (a, tt)
below_push (member l e fs) k d ms h a = (h.0.1, below_push fs k d ms h.1 a)

number_back : (n : Num) → IsWhole n → of_json (outline (number n)) ≡ Some (number n)
number_back (unsigned n) h = ap (option_map number) (number_of-decimal n (omega (arith, h)))
number_back (negative (pos n)) h = absurd h
number_back (negative (negsuc n)) h = ap (option_map number) (number_of-negative n h)
number_back (float x) h = absurd h

mutual
  back : (d : Data) → IsClean d → of_json (outline d) ≡ Some d
  back null h = refl
  back (boolean b) h = refl
  back (number n) h = number_back n h
  back (string s) h = refl
  back (array ds) h = ap (option_map array) (items_back ds h)
  back (object ms) h = ap (option_map object) (members_back ms no_members h tt)

  items_back : (ds : Items) → AreClean ds → of_items (items_outline ds) ≡ Some ds
  items_back no_items h = refl
  items_back (item d ds) h =
      ap (option_and_then (λ (e : Data). option_map (item e) (of_items (items_outline ds)))) (back d h.0) ∙ ap (option_map (item d)) (items_back ds h.1)

  members_back : (ms fs : Members) → HaveClean ms → Below fs ms → of_members (members_outline ms) fs ≡ Some (join fs ms)
  members_back no_members fs h b = ap Some (sym (join-no_members fs))
  members_back (member k d ms) fs h b =
      ap (option_and_then (λ (e : Data). of_members (members_outline ms) (put k e fs))) (back d h.1) ∙ ap (of_members (members_outline ms)) (put_last fs k d ms b)
      ∙ members_back ms (join fs (member k d no_members)) h.3 (below_push fs k d ms b h.2) ∙ ap Some (join_push fs k d ms)

number_printed : (n : Num) → IsWhole n → tree.HasNumbers (outline (number n))
number_printed (unsigned n) h = IsNumber-decimal n (omega (arith, h))
number_printed (negative (pos n)) h = absurd h
number_printed (negative (negsuc n)) h = IsNumber-signed_decimal (negsuc n) h
number_printed (float x) h = absurd h

mutual
  printed : (d : Data) → IsClean d → tree.HasNumbers (outline d)
  printed null h = tt
  printed (boolean b) h = tt
  printed (number n) h = number_printed n h
  printed (string s) h = tt
  printed (array ds) h = items_printed ds h
  printed (object ms) h = members_printed ms h

  items_printed : (ds : Items) → AreClean ds → tree.ItemsHaveNumbers (items_outline ds)
  items_printed no_items h = tt
  items_printed (item d ds) h = (printed d h.0, items_printed ds h.1)

  members_printed : (ms : Members) → HaveClean ms → tree.MembersHaveNumbers (members_outline ms)
  members_printed no_members h = tt
  members_printed (member k d ms) h = (printed d h.1, members_printed ms h.3)

mutual
  as_deep : (d : Data) → tree.depth (outline d) ≡ depth d
  as_deep null = refl
  as_deep (boolean b) = refl
  as_deep (number n) = refl
  as_deep (string s) = refl
  as_deep (array ds) = ap suc (items_as_deep ds)
  as_deep (object ms) = ap suc (members_as_deep ms)

  items_as_deep : (ds : Items) → tree.items_depth (items_outline ds) ≡ items_depth ds
  items_as_deep no_items = refl
  items_as_deep (item d ds) = λ i. max (as_deep d i) (items_as_deep ds i)

  members_as_deep : (ms : Members) → tree.members_depth (members_outline ms) ≡ members_depth ms
  members_as_deep no_members = refl
  members_as_deep (member k d ms) = λ i. max (as_deep d i) (members_as_deep ms i)

tree_back : (j : json.Json) → tree.HasNumbers j → tree.depth j ≤ max_depth → option_and_then (λ (p : json.Json × List Token). json.if_last p.0 p.1) (json.value max_depth (tokens (print (tree.json_tokens j)))) ≡ Some j
tree_back j numbers shallow =
    ap (option_and_then (λ (p : json.Json × List Token). json.if_last p.0 p.1))
    (ap (json.value max_depth) (tokens-print (tree.json_tokens j) (ArePrintable-json_tokens j numbers) ∙ sym (append-nil (tree.json_tokens j))) ∙ value-json_tokens j max_depth [] shallow)

-- what is printed is read back
pub read_back : (d : Data) → IsClean d → depth d ≤ max_depth → read (compact_text d) ≡ Some d
read_back d h shallow =
    ap read (sym (print-outline d)) ∙ ap (option_and_then of_json) (tree_back (outline d) (printed d h) (subst (λ (n : ℕ). n ≤ max_depth) (sym (as_deep d)) shallow)) ∙ back d h

utf8_decimal : (n : ℕ) → n < 2 ^ 64 → IsUtf8 (decimal n)
utf8_decimal n h = IsUtf8-from_ascii (decimal n) (IsAscii-decimal n h)

utf8_number : (n : Num) → IsWhole n → IsUtf8 (number_text n)
utf8_number (unsigned n) h = utf8_decimal n (omega (arith, h))
utf8_number (negative (pos n)) h = absurd h
utf8_number (negative (negsuc n)) h = IsUtf8-append (45 ∷ []) (decimal (suc n)) (IsUtf8-are_ascii (45 ∷ []) refl) (utf8_decimal (suc n) (omega (arith, h)))
utf8_number (float x) h = absurd h

utf8_comma : (b : Bool) → IsUtf8 (comma_if b)
utf8_comma true = IsUtf8-are_ascii (44 ∷ []) refl
utf8_comma false = IsUtf8-nil

mutual
  -- what is printed is UTF-8
  pub utf8_printed : (d : Data) → IsClean d → IsUtf8 (compact_text d)
  utf8_printed null h = IsUtf8-are_ascii (compact_text null) refl
  utf8_printed (boolean b) h = IsUtf8-boolean b
  utf8_printed (number n) h = utf8_number n h
  utf8_printed (string s) h = IsUtf8-quoted s h
  utf8_printed (array ds) h = IsUtf8-append (91 ∷ []) (items_text false ds) (IsUtf8-are_ascii (91 ∷ []) refl) (utf8_items false ds h)
  utf8_printed (object ms) h = IsUtf8-append (123 ∷ []) (members_text false ms) (IsUtf8-are_ascii (123 ∷ []) refl) (utf8_members false ms h)

  utf8_items : (later : Bool) (ds : Items) → AreClean ds → IsUtf8 (items_text later ds)
  utf8_items later no_items h = IsUtf8-are_ascii (93 ∷ []) refl
  utf8_items later (item d ds) h =
      IsUtf8-append (comma_if later) (compact_text d ++ items_text true ds) (utf8_comma later) (IsUtf8-append (compact_text d) (items_text true ds) (utf8_printed d h.0) (utf8_items true ds h.1))

  utf8_members : (later : Bool) (ms : Members) → HaveClean ms → IsUtf8 (members_text later ms)
  utf8_members later no_members h = IsUtf8-are_ascii (125 ∷ []) refl
  utf8_members later (member k d ms) h =
      let rest = IsUtf8-append (compact_text d) (members_text true ms) (utf8_printed d h.1) (utf8_members true ms h.3) in
      IsUtf8-append (comma_if later) (quoted k ++ 58 ∷ (compact_text d ++ members_text true ms)) (utf8_comma later)
      (IsUtf8-append (quoted k) (58 ∷ (compact_text d ++ members_text true ms)) (IsUtf8-quoted k h.0)
      (IsUtf8-append (58 ∷ []) (compact_text d ++ members_text true ms) (IsUtf8-are_ascii (58 ∷ []) refl) rest))
