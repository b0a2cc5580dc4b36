use Rattle.std.proofs.Common.{◌≡◌, ◌≤◌, ℕ, suc, ◌+◌, ◌++◌, List, drop, length, Some, Bool, true, false, true≢false, nat_lt, if◌then◌else◌, codes, string_bytes, append_assoc, sym, ap, ◌∙◌, subst, refl, arith}
use Rattle.std.proofs.lemmas.Option.{slice_get_read}
use Rattle.std.specs.List.{slice_get, list_all}
use Rattle.serde_json.specs.Data.{Data, Items, Members, no_items, no_members, array, object, string}
use Rattle.serde_json.specs.Written.{compact_text, items_text, members_text}
use Rattle.values_core.specs.Data.{Val, vals_of, pairs_of, depth, vals_depth}
use Rattle.values_core.specs.Functions.{IsSequence, pairs_in, keys_in}
use Rattle.values_core.specs.Sets.{items_of}
use Rattle.values_json.specs.Prints.{prints, print_members, print_values, print_fields, print_pairs, are_named, is_name, name_of, marked}
use Rattle.values_json.proofs.PrintDepths.{key_below, value_below, member_below, set_depth}
use Rattle.values_json.proofs.PrintLemmas.{keyed_is, sequence_prints, keyed_prints, set_prints, pairs_counted, keys_counted}
use Rattle.values_json.proofs.SpellLemmas.{set_text, fun_text, later_true, item_pushed, field_pushed, pair_pushed, three_pushed, none_left, items_ended, members_ended, rest_members, rest_values, rest_pairs, rest_fields, on_pushed, on_ok}
use Rattle.values_json.proofs.spelling.+push.Goals as goal

pub push_members-push_value-requires : goal.push_members-push_value-requires
push_members-push_value-requires t c =
    let vs = c.args.members.now in
    let here = slice_get_read vs (length vs) c.loop-i.i c.index-members-i.result refl c.loop-i-test.true c.index-members-i.is in
    (omega (arith, c.decreases, member_below vs c.loop-i.i c.index-members-i.result here), tt)

pub push_values-push_value-requires : goal.push_values-push_value-requires
push_values-push_value-requires t c = (omega (arith, c.decreases, value_below c.args.value.now c.loop-i.i c.value_at.result.now c.value_at.ensures), tt)

pub push_fields-push_value-requires : goal.push_fields-push_value-requires
push_fields-push_value-requires t c = (omega (arith, c.decreases, value_below c.args.value.now c.loop-i.i c.value_at.result.now c.value_at.ensures), tt)

pub push_pairs-push_value-requires-in-loop-i : goal.push_pairs-push_value-requires-in-loop-i
push_pairs-push_value-requires-in-loop-i t c = (omega (arith, c.decreases, value_below c.args.value.now c.loop-i.i c.value_at.result.now c.value_at.ensures), tt)

pub push_pairs-push_value-requires : goal.push_pairs-push_value-requires
push_pairs-push_value-requires t c =
    let i = c.loop-i.i in
    let k = c.index-keys-i.result in
    let read = slice_get_read c.args.keys.now (length c.args.keys.now) i k refl c.loop-i-test.true c.index-keys-i.is in
    let key : slice_get (keys_in c.args.value.now) i ≡ Some k = subst (λ (ks : List Val). slice_get ks i ≡ Some k) c.requires read in
    (omega (arith, c.decreases, key_below c.args.value.now i k key), tt)

pub push_set-push_members-requires : goal.push_set-push_members-requires
push_set-push_members-requires t c =
    let deep = subst (λ (vs : List Val). depth c.args.value.now ≡ suc (vals_depth (vals_of vs))) (sym c.members.ensures) (set_depth c.args.value.now c.requires) in
    (omega (arith, c.decreases, deep), tt)

pub push_values-loop-i-preserved : goal.push_values-loop-i-preserved
push_values-loop-i-preserved t c =
    let ps = pairs_in c.args.value.now in
    let i = c.loop-i.i in
    let v = c.value_at.result.now in
    let old = string_bytes c.loop-i.text in
    let new = string_bytes c.push_value.new.text in
    let left = print_values (pairs_of (drop (i + 1) ps)) in
    let step = item_pushed old (string_bytes c.push_comma.new.text) new (nat_lt 0 i) (prints v) left c.in_ok-push_comma.ensures c.in_ok-push_value.ensures in
    ap (λ (b : Bool). new ++ items_text b left) (later_true i) ∙ step ∙ ap (λ (ds : Items). old ++ items_text (nat_lt 0 i) ds) (sym (rest_values ps i v c.value_at.ensures)) ∙ c.loop-i.invariant

pub push_fields-loop-i-preserved : goal.push_fields-loop-i-preserved
push_fields-loop-i-preserved t c =
    let ps = pairs_in c.args.value.now in
    let i = c.loop-i.i in
    let k = c.index-keys-i.result in
    let read = slice_get_read c.args.keys.now (length c.args.keys.now) i k refl c.loop-i-test.true c.index-keys-i.is in
    let key : slice_get (keys_in c.args.value.now) i ≡ Some k = subst (λ (ks : List Val). slice_get ks i ≡ Some k) c.requires read in
    let v = c.value_at.result.now in
    let old = string_bytes c.loop-i.text in
    let a = string_bytes c.push_comma.new.text in
    let b = string_bytes c.push_quoted.new.text in
    let new = string_bytes c.push_value.new.text in
    let left = print_fields (pairs_of (drop (i + 1) ps)) in
    let named : b ≡ a ++ compact_text (string (name_of k)) = c.in_ok-push_quoted.ensures ∙ ap (λ (s : List ℕ). a ++ compact_text (string s)) c.text_of_key.ensures in
    let step = field_pushed old a b (string_bytes c.push_str.new.self) new (nat_lt 0 i) (name_of k) (prints v) left c.in_ok-push_comma.ensures named c.in_ok-push_str.ensures.bytes c.in_ok-push_value.ensures in
    ap (λ (l : Bool). new ++ members_text l left) (later_true i) ∙ step ∙ ap (λ (ms : Members). old ++ members_text (nat_lt 0 i) ms) (sym (rest_fields ps i k v key c.value_at.ensures)) ∙ c.loop-i.invariant

pub push_pairs-loop-i-preserved : goal.push_pairs-loop-i-preserved
push_pairs-loop-i-preserved t c =
    let ps = pairs_in c.args.value.now in
    let i = c.loop-i.i in
    let k = c.index-keys-i.result in
    let read = slice_get_read c.args.keys.now (length c.args.keys.now) i k refl c.loop-i-test.true c.index-keys-i.is in
    let key : slice_get (keys_in c.args.value.now) i ≡ Some k = subst (λ (ks : List Val). slice_get ks i ≡ Some k) c.requires read in
    let v = c.value_at.result.now in
    let old = string_bytes c.loop-i.text in
    let new = string_bytes c.push_str-in-loop-i-2.new.self in
    let left = print_pairs (pairs_of (drop (i + 1) ps)) in
    let step =
    pair_pushed old (string_bytes c.push_comma.new.text) (string_bytes c.push_str.new.self) (string_bytes c.push_value.new.text) (string_bytes c.push_str-in-loop-i.new.self) (string_bytes c.push_value-in-loop-i.new.text) new
    (nat_lt 0 i) (prints k) (prints v) left
    c.in_ok-push_comma.ensures c.in_ok-push_str.ensures.bytes c.in_ok-push_value.ensures c.in_ok-push_str-2.ensures.bytes c.in_ok-push_value-2.ensures c.in_ok-push_str-3.ensures.bytes in
    ap (λ (b : Bool). new ++ items_text b left) (later_true i) ∙ step ∙ ap (λ (ds : Items). old ++ items_text (nat_lt 0 i) ds) (sym (rest_pairs ps i k v key c.value_at.ensures)) ∙ c.loop-i.invariant

pub push_function-returns-then-is_sequence : goal.push_function-returns-then-is_sequence
push_function-returns-then-is_sequence t c =
    let f = c.args.value.now in
    let old = string_bytes c.args.text.now in
    let a = string_bytes c.push_str.new.self in
    let ds = print_values (pairs_of (pairs_in f)) in
    let whole : array ds ≡ prints f = sequence_prints f ds (c.is_sequence.ensures.0 c.if-is_sequence.true) refl in
    on_ok c.push_values.result (λ e. e ∙ ap (λ (x : List ℕ). x ++ items_text false ds) c.in_ok-push_str.ensures.bytes ∙ append_assoc old (codes "[") (items_text false ds) ∙ ap (λ (d : Data). old ++ compact_text d) whole) c.push_values.ensures

pub push_function-returns : goal.push_function-returns
push_function-returns t c =
    let v = c.args.value.now in
    let ps = pairs_of (pairs_in v) in
    let none : IsSequence v → ⊥ = λ s. true≢false (sym (c.is_sequence.ensures.1 s) ∙ c.if-is_sequence.false) in
    let d = if are_named ps then object (print_fields ps) else marked (codes "$fun") (array (print_pairs ps)) in
    on_ok c.push_keyed.result (λ e. e ∙ ap (λ (x : Data). string_bytes c.args.text.now ++ compact_text x) (keyed_prints v d c.requires none refl)) c.push_keyed.ensures

pub push_keyed-returns-then-all_named : goal.push_keyed-returns-then-all_named
push_keyed-returns-then-all_named t c =
    let ps = pairs_in c.args.value.now in
    let old = string_bytes c.args.text.now in
    let ms = print_fields (pairs_of ps) in
    let named : list_all is_name (keys_in c.args.value.now) ≡ true = subst (λ (ks : List Val). list_all is_name ks ≡ true) c.requires (sym c.all_named.ensures ∙ c.if-all_named.true) in
    let whole = keyed_is ps (object ms) (marked (codes "$fun") (array (print_pairs (pairs_of ps)))) (object ms) true named refl in
    on_ok c.push_fields.result (λ e. e ∙ ap (λ (x : List ℕ). x ++ members_text false ms) c.in_ok-push_str.ensures.bytes ∙ append_assoc old (codes "{") (members_text false ms) ∙ ap (λ (d : Data). old ++ compact_text d) whole) c.push_fields.ensures

pub push_keyed-returns : goal.push_keyed-returns
push_keyed-returns t c =
    let ps = pairs_in c.args.value.now in
    let old = string_bytes c.args.text.now in
    let ds = print_pairs (pairs_of ps) in
    let d = marked (codes "$fun") (array ds) in
    let none : list_all is_name (keys_in c.args.value.now) ≡ false = subst (λ (ks : List Val). list_all is_name ks ≡ false) c.requires (sym c.all_named.ensures ∙ c.if-all_named.false) in
    let whole = keyed_is ps (object (print_fields (pairs_of ps))) d d false none refl in
    let a = string_bytes c.push_str-2.new.self in
    let b = string_bytes c.push_pairs.new.text in
    let new = string_bytes c.push_str-3.new.self in
    on_pushed c.push_str-3.result new b (codes "}") (old ++ compact_text (if are_named (pairs_of ps) then object (print_fields (pairs_of ps)) else d)) c.push_str-3.ensures.bytes
    (λ e. three_pushed old a b new (codes "{\"$fun\":[") (items_text false ds) (codes "}") (compact_text (if are_named (pairs_of ps) then object (print_fields (pairs_of ps)) else d)) c.in_ok-push_str-2.ensures.bytes c.in_ok-push_pairs.ensures e
    (fun_text ds ∙ ap compact_text whole))

pub push_set-returns : goal.push_set-returns
push_set-returns t c =
    let s = c.args.value.now in
    let old = string_bytes c.args.text.now in
    let ds = print_members (vals_of (items_of s)) in
    let a = string_bytes c.push_str.new.self in
    let b = string_bytes c.push_members.new.text in
    let new = string_bytes c.push_str-2.new.self in
    let listed : b ≡ a ++ items_text false ds = c.in_ok-push_members.ensures ∙ ap (λ (vs : List Val). a ++ items_text false (print_members (vals_of vs))) c.members.ensures in
    on_pushed c.push_str-2.result new b (codes "}") (old ++ compact_text (prints s)) c.push_str-2.ensures.bytes
    (λ e. three_pushed old a b new (codes "{\"$set\":[") (items_text false ds) (codes "}") (compact_text (prints s)) c.in_ok-push_str.ensures.bytes listed e
    (set_text ds ∙ ap compact_text (set_prints s ds c.requires refl)))

pub push_members-loop-i-preserved : goal.push_members-loop-i-preserved
push_members-loop-i-preserved t c =
    let vs = c.args.members.now in
    let i = c.loop-i.i in
    let v = c.index-members-i.result in
    let here = slice_get_read vs (length vs) i v refl c.loop-i-test.true c.index-members-i.is in
    let old = string_bytes c.loop-i.text in
    let new = string_bytes c.push_value.new.text in
    let left = print_members (vals_of (drop (i + 1) vs)) in
    let step = item_pushed old (string_bytes c.push_comma.new.text) new (nat_lt 0 i) (prints v) left c.in_ok-push_comma.ensures c.in_ok-push_value.ensures in
    ap (λ (b : Bool). new ++ items_text b left) (later_true i) ∙ step ∙ ap (λ (ds : Items). old ++ items_text (nat_lt 0 i) ds) (sym (rest_members vs i v here)) ∙ c.loop-i.invariant

pub push_members-returns : goal.push_members-returns
push_members-returns t c =
    let vs = c.args.members.now in
    let i = c.loop-i.i in
    let left = print_members (vals_of (drop i vs)) in
    let text = string_bytes c.loop-i.text in
    let new = string_bytes c.push_str.new.self in
    let whole = string_bytes c.args.text.now ++ items_text false (print_members (vals_of vs)) in
    let all : length vs ≤ i = omega arith in
    let none : left ≡ no_items = ap (λ (rest : List Val). print_members (vals_of rest)) (none_left vs i all) in
    on_pushed c.push_str.result new text (codes "]") whole c.push_str.ensures.bytes (items_ended text new whole (nat_lt 0 i) left none c.loop-i.invariant)

pub push_values-value_at-requires : goal.push_values-value_at-requires
push_values-value_at-requires t c = omega (arith, pairs_counted c.args.value.now c.requires)

pub push_values-returns : goal.push_values-returns
push_values-returns t c =
    let ps = pairs_in c.args.value.now in
    let i = c.loop-i.i in
    let left = print_values (pairs_of (drop i ps)) in
    let text = string_bytes c.loop-i.text in
    let new = string_bytes c.push_str.new.self in
    let whole = string_bytes c.args.text.now ++ items_text false (print_values (pairs_of ps)) in
    let all : length ps ≤ i = omega (arith, pairs_counted c.args.value.now c.requires) in
    let none : left ≡ no_items = ap (λ (rest : List (Val × Val)). print_values (pairs_of rest)) (none_left ps i all) in
    on_pushed c.push_str.result new text (codes "]") whole c.push_str.ensures.bytes (items_ended text new whole (nat_lt 0 i) left none c.loop-i.invariant)

pub push_fields-value_at-requires : goal.push_fields-value_at-requires
push_fields-value_at-requires t c = omega (arith, keys_counted c.args.keys.now c.args.value.now c.requires)

pub push_fields-returns : goal.push_fields-returns
push_fields-returns t c =
    let ps = pairs_in c.args.value.now in
    let i = c.loop-i.i in
    let left = print_fields (pairs_of (drop i ps)) in
    let text = string_bytes c.loop-i.text in
    let new = string_bytes c.push_str-2.new.self in
    let whole = string_bytes c.args.text.now ++ members_text false (print_fields (pairs_of ps)) in
    let all : length ps ≤ i = omega (arith, keys_counted c.args.keys.now c.args.value.now c.requires) in
    let none : left ≡ no_members = ap (λ (rest : List (Val × Val)). print_fields (pairs_of rest)) (none_left ps i all) in
    on_pushed c.push_str-2.result new text (codes "}") whole c.push_str-2.ensures.bytes (members_ended text new whole (nat_lt 0 i) left none c.loop-i.invariant)

pub push_pairs-value_at-requires : goal.push_pairs-value_at-requires
push_pairs-value_at-requires t c = omega (arith, keys_counted c.args.keys.now c.args.value.now c.requires)

pub push_pairs-returns : goal.push_pairs-returns
push_pairs-returns t c =
    let ps = pairs_in c.args.value.now in
    let i = c.loop-i.i in
    let left = print_pairs (pairs_of (drop i ps)) in
    let text = string_bytes c.loop-i.text in
    let new = string_bytes c.push_str-2.new.self in
    let whole = string_bytes c.args.text.now ++ items_text false (print_pairs (pairs_of ps)) in
    let all : length ps ≤ i = omega (arith, keys_counted c.args.keys.now c.args.value.now c.requires) in
    let none : left ≡ no_items = ap (λ (rest : List (Val × Val)). print_pairs (pairs_of rest)) (none_left ps i all) in
    on_pushed c.push_str-2.result new text (codes "]") whole c.push_str-2.ensures.bytes (items_ended text new whole (nat_lt 0 i) left none c.loop-i.invariant)
