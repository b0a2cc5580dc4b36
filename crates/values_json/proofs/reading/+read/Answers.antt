use Rattle.std.proofs.Common.{◌≡◌, ℕ, List, [], ◌∷◌, ◌++◌, true, false, ap, sym, ◌∙◌, subst, append_assoc, arith, string_bytes, IfOk}
use Rattle.serde_json.specs.View.{view, items_view, members_view}
use Rattle.serde_json.specs.Data.{Members, object}
use Rattle.serde_json.proofs.Views.{Entry, view-Array}
use Rattle.values_core.specs.Data.{Val}
use Rattle.values_json.specs.Reads.{Finds, Reads, ReadsEach, ReadsPairs, ReadsFields, ReadsForm, is_marked}
use Rattle.values_json.proofs.ReadLemmas.{items_more, items_stop, pairs_more, pairs_stop, fields_more, fields_stop, fields_marked, no_form_unless_one, no_form_more, nil_end, sole, not_two, view-String, view-Number}
use Rattle.values_json.proofs.ReadSteps.{array_gives, set_gives, function_gives, record_gives, plain_gives, form_gives}
use Rattle.values_json.proofs.reading.+read.Goals as goal

pub read_array-returns-in-Some : goal.read_array-returns-in-Some
read_array-returns-in-Some t c =
    let each = rw c.in-Some.is at c.in_ok-values.ensures in
    array_gives (items_view c.args.items.now.items) c.in-Some.values.items c.make_sequence.result each c.make_sequence.ensures

pub read_set-returns-in-Some : goal.read_set-returns-in-Some
read_set-returns-in-Some t c =
    let each = rw c.in-Some.is at c.in_ok-values-in-Array.ensures in
    rw (c.in-Array.is, view-Array c.in-Array.items) (set_gives (items_view c.in-Array.items.items) c.in-Some.values.items c.make_set.result each c.make_set.ensures)

pub read_function-returns-in-Some : goal.read_function-returns-in-Some
read_function-returns-in-Some t c =
    let each = rw c.in-Some.is at c.in_ok-pairs-in-Array.ensures in
    rw (c.in-Array.is, view-Array c.in-Array.items) (function_gives (items_view c.in-Array.items.items) c.in-Some.pairs.items c.make_mapping.result each c.make_mapping.ensures)

pub read_record-returns-in-Some : goal.read_record-returns-in-Some
read_record-returns-in-Some t c =
    let each = rw c.in-Some.is at c.in_ok-fields.ensures in
    record_gives (members_view c.args.members.now.entries) c.in-Some.fields.items c.make_record.result each c.make_record.ensures

pub read_items-returns-in-None : goal.read_items-returns-in-None
read_items-returns-in-None t c =
    let none = rw c.in-None.is at c.in_ok-value.ensures in
    let all : c.deref-item-items.result.now ≡ c.args.items.now.items = c.deref-item-items.ensures.value in
    subst (λ xs. (v : List Val) → ReadsEach (items_view xs) v → ⊥) all (items_stop c.deref-item-items.result.now c.loop-item.item-index c.item-item.result c.loop-item-test.true c.item-item.is none)

pub read_items-loop-item-preserved : goal.read_items-loop-item-preserved
read_items-loop-item-preserved t c =
    let value = rw c.in-Some.is at c.in_ok-value.ensures in
    rw c.in_ok-push-in-Some.ensures.items (items_more c.deref-item-items.result.now c.loop-item.item-index c.item-item.result c.loop-item.values.items c.in-Some.value c.loop-item-test.true c.item-item.is c.loop-item.invariant value)

pub read_pairs-returns-in-None : goal.read_pairs-returns-in-None
read_pairs-returns-in-None t c =
    let none = rw c.in-None.is at c.in_ok-pair.ensures in
    let all : c.deref-item-items.result.now ≡ c.args.items.now.items = c.deref-item-items.ensures.value in
    subst (λ xs. (v : List (Val × Val)) → ReadsPairs (items_view xs) v → ⊥) all (pairs_stop c.deref-item-items.result.now c.loop-item.item-index c.item-item.result c.loop-item-test.true c.item-item.is none)

pub read_pairs-loop-item-preserved : goal.read_pairs-loop-item-preserved
read_pairs-loop-item-preserved t c =
    let value = rw c.in-Some.is at c.in_ok-pair.ensures in
    rw c.in_ok-push-in-Some.ensures.items (pairs_more c.deref-item-items.result.now c.loop-item.item-index c.item-item.result c.loop-item.pairs.items c.in-Some.pair c.loop-item-test.true c.item-item.is c.loop-item.invariant value)

pub read_two-returns-then-len-ne2 : goal.read_two-returns-then-len-ne2
read_two-returns-then-len-ne2 t c = λ v p. not_two c.args.parts.now.items v (λ e. c.if-len-ne2.true (omega (arith, e, c.len.ensures))) p

pub read_value-returns-in-Number : goal.read_value-returns-in-Number
read_value-returns-in-Number t c = rw (c.in-Number.is, view-Number c.in-Number.number) c.read_number.ensures

pub read_value-returns-in-String : goal.read_value-returns-in-String
read_value-returns-in-String t c = rw (c.in-String.is, view-String c.in-String.text) (rw c.as_str.ensures.value at c.read_text.ensures)

pub read_value-returns-in-Array : goal.read_value-returns-in-Array
read_value-returns-in-Array t c = rw (c.in-Array.is, view-Array c.in-Array.items) c.read_array.ensures

pub read_fields-returns-then-is_mark : goal.read_fields-returns-then-is_mark
read_fields-returns-then-is_mark t c =
    let l = c.loop-key in
    let e : Entry = (c.in-Some.key.now, c.in-Some.content.now) in
    let all : c.args.members.now.entries ≡ l.invariant.0 ++ e ∷ c.next.new.self = l.invariant.1 ∙ ap (λ (es : List Entry). l.invariant.0 ++ es) c.in-Some.ensures.steps in
    let mark : is_marked (string_bytes e.0) ≡ true = ap is_marked (sym c.as_str.ensures.value) ∙ sym c.is_mark.ensures ∙ c.if-is_mark.true in
    subst (λ (es : List Entry). (v : List (List ℕ × Val)) → ReadsFields (members_view es) v → ⊥) (sym all) (fields_marked l.invariant.0 e c.next.new.self mark)

pub read_fields-returns-in-None-2 : goal.read_fields-returns-in-None-2
read_fields-returns-in-None-2 t c =
    let l = c.loop-key in
    let e : Entry = (c.in-Some.key.now, c.in-Some.content.now) in
    let all : c.args.members.now.entries ≡ l.invariant.0 ++ e ∷ c.next.new.self = l.invariant.1 ∙ ap (λ (es : List Entry). l.invariant.0 ++ es) c.in-Some.ensures.steps in
    let none = rw c.in-None-2.is at c.in_ok-value.ensures in
    subst (λ (es : List Entry). (v : List (List ℕ × Val)) → ReadsFields (members_view es) v → ⊥) (sym all) (fields_stop l.invariant.0 e c.next.new.self none)

pub read_fields-loop-key-preserved : goal.read_fields-loop-key-preserved
read_fields-loop-key-preserved t c =
    let l = c.loop-key in
    let e : Entry = (c.in-Some.key.now, c.in-Some.content.now) in
    let all : c.args.members.now.entries ≡ l.invariant.0 ++ e ∷ c.next.new.self = l.invariant.1 ∙ ap (λ (es : List Entry). l.invariant.0 ++ es) c.in-Some.ensures.steps in
    let mark : is_marked (string_bytes e.0) ≡ false = ap is_marked (sym c.as_str.ensures.value) ∙ sym c.is_mark.ensures ∙ c.if-is_mark.false in
    let value = rw c.in-Some-2.is at c.in_ok-value.ensures in
    let name : c.in_ok-name.name ≡ string_bytes e.0 = c.in_ok-name.ensures ∙ c.as_str-in-loop-key.ensures.value in (
      l.invariant.0 ++ e ∷ [],
      all ∙ sym (append_assoc l.invariant.0 (e ∷ []) c.next.new.self),
      rw c.in_ok-push-in-Some-2.ensures.items (fields_more l.invariant.0 e l.fields.items (c.in_ok-name.name, c.in-Some-2.value) l.invariant.2 mark name value),
    )

pub read_object-returns : goal.read_object-returns
read_object-returns t c = plain_gives (members_view c.args.members.now.entries) c.read_record.result (no_form_unless_one c.args.members.now.entries (λ e. c.if-len-eq1.false (c.len.ensures.len ∙ e))) c.read_record.ensures

pub read_sole-loop-mark-preserved : goal.read_sole-loop-mark-preserved
read_sole-loop-mark-preserved t c =
    let l = c.loop-mark in
    let e : Entry = (c.in-Some.mark.now, c.in-Some.content.now) in
    let all : c.args.members.now.entries ≡ l.invariant.0 ++ e ∷ c.next.new.self = l.invariant.1 ∙ ap (λ (es : List Entry). l.invariant.0 ++ es) c.in-Some.ensures.steps in
    let mark : is_marked (string_bytes e.0) ≡ false = ap is_marked (sym c.as_str.ensures.value) ∙ sym c.is_mark.ensures ∙ c.if-is_mark.false in (
      l.invariant.0 ++ e ∷ [],
      all ∙ sym (append_assoc l.invariant.0 (e ∷ []) c.next.new.self),
      no_form_more l.invariant.0 e mark,
    )

pub read_sole-returns-then-is_mark : goal.read_sole-returns-then-is_mark
read_sole-returns-then-is_mark t c =
    let l = c.loop-mark in
    let e : Entry = (c.in-Some.mark.now, c.in-Some.content.now) in
    let all : c.args.members.now.entries ≡ l.invariant.0 ++ e ∷ c.next.new.self = l.invariant.1 ∙ ap (λ (es : List Entry). l.invariant.0 ++ es) c.in-Some.ensures.steps in
    let mark : is_marked (string_bytes e.0) ≡ true = ap is_marked (sym c.as_str.ensures.value) ∙ sym c.is_mark.ensures ∙ c.if-is_mark.true in
    let form = rw c.as_str-then-is_mark.ensures.value at c.read_form.ensures in
    λ one. let ms : Members = members_view c.args.members.now.entries in
    subst (λ (m : Members). IfOk c.read_form.result (Finds (Reads (object m)))) (sym (sole c.args.members.now.entries l.invariant.0 e c.next.new.self all one)) (form_gives (string_bytes e.0) (view e.1) c.read_form.result mark form)

pub read_sole-returns : goal.read_sole-returns
read_sole-returns t c =
    let l = c.loop-mark in
    let all : c.args.members.now.entries ≡ l.invariant.0 = l.invariant.1 ∙ ap (λ (es : List Entry). l.invariant.0 ++ es) c.in-None.ensures.steps.0 ∙ nil_end l.invariant.0 in
    λ one. plain_gives (members_view c.args.members.now.entries) c.read_record.result (subst (λ (es : List Entry). (v : Val) → ReadsForm (members_view es) v → ⊥) (sym all) l.invariant.2) c.read_record.ensures
