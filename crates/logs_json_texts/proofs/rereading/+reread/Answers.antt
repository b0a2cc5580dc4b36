use Rattle.std.proofs.Common.{◌≡◌, ◌-◌, ◌<◌, ◌∷◌, length, take, Some, None, sym, ap, ◌∙◌, arith}
use Rattle.json.specs.Token.{Token}
use Rattle.json.specs.Json.{parse_map, after_end_array, items, value}
use Rattle.json.specs.Reads.{token_of}
use Rattle.json.proofs.Grammar.{value_is, value-begin_array}
use Rattle.serde_json.specs.Read.{of_items, of_json, converted}
use Rattle.serde_json.specs.View.{items_view, view}
use Rattle.logs_json_texts.proofs.Turns.{converted-array, item_read, items_over, items_before, items_before-no_items, one_more_item, none_before}
use Rattle.logs_json_texts.proofs.rereading.+reread.Goals as goal

pub reread_items-items-init : goal.reread_items-items-init
reread_items-items-init t c =
    let all = converted of_items (items (value c.args.depth) (length c.args.reader.now) c.args.reader.now) in
    (length c.args.reader.now, omega arith, none_before all, omega arith, omega arith)

pub reread_items-items-preserved : goal.reread_items-items-preserved
reread_items-items-preserved t c =
    let p = value c.args.depth in
    let l = c.items in
    let n = l.invariant.0 in
    let going : (after_end_array l.reader ≡ None) × (c.take_end_array.new.self ≡ l.reader) = grind arith in
    let done = c.in_ok-reread_item.ensures in
    let v = done.read.item in
    let r = c.reread_item.new.reader in
    let less : length r < length l.reader = rw (← going.1) done.shorter in
    let turn = item_read p n l.reader r (view v) (omega (arith, l.invariant.1)) going.0 (rw (← going.1) done.read.read) in (
      n - 1,
      omega (arith, l.invariant.1),
      l.invariant.2 ∙ ap (parse_map (items_before (take l.count l.kept.items))) turn ∙ one_more_item (take l.count l.kept.items) v _
          ∙ ap (λ vs. parse_map (items_before vs) (converted of_items (items p (n - 1) r))) (sym done.read.is),
      omega (arith, l.invariant.3),
      omega (arith, done.read.within),
    )

pub reread_items-returns-clause-read : goal.reread_items-returns-clause-read
reread_items-returns-clause-read t c =
    let p = value c.args.depth in
    let l = c.items in
    let n = l.invariant.0 in
    let r = c.take_end_array.new.self in
    l.invariant.2 ∙ ap (parse_map (items_before (take l.count l.kept.items))) (items_over p n l.reader r l.invariant.1 (grind arith))
    ∙ ap (λ ds. Some (ds, r)) (items_before-no_items (take l.count l.kept.items) ∙ ap items_view (sym c.truncate.ensures.items))

pub reread_value-returns-in_ok-put_text-in-String-clause-read : goal.reread_value-returns-in_ok-put_text-in-String-clause-read
reread_value-returns-in_ok-put_text-in-String-clause-read t c =
    let first : c.args.reader.now ≡ token_of c.in_ok-token.token ∷ c.next.new.self = grind arith in
    let is : c.args.reader.now ≡ Token.string c.in-String.text.now ∷ c.next.new.self = grind (arith, first) in
    ap (converted of_json) (ap (value c.args.depth) is ∙ value_is c.args.depth _) ∙ ap (λ d. Some (d, c.next.new.self)) (sym c.in_ok-put_text-in-String.ensures)

pub reread_value-returns-in_ok-reread_array-in-BeginArray-clause-read : goal.reread_value-returns-in_ok-reread_array-in-BeginArray-clause-read
reread_value-returns-in_ok-reread_array-in-BeginArray-clause-read t c =
    let first : c.args.reader.now ≡ token_of c.in_ok-token.token ∷ c.next.new.self = grind arith in
    ap (converted of_json) (ap (value c.args.depth) (first ∙ ap (λ k. token_of k ∷ c.next.new.self) c.in-BeginArray.is) ∙ value-begin_array c.args.depth c.next.new.self (omega arith))
    ∙ converted-array (items (value (c.args.depth - 1)) (length c.next.new.self) c.next.new.self) ∙ c.in_ok-reread_array-in-BeginArray.ensures.read
