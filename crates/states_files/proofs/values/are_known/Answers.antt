use Rattle.std.proofs.Common.{◌≡◌, List, ℕ, true, false, ap, sym, ◌∙◌, string_bytes}
use Rattle.serde_json.specs.View.{members_view}
use Rattle.serde_json.proofs.Views.{Entry}
use Rattle.states_files.specs.States.{are_known, is_among}
use Rattle.states_files.proofs.MemberLemmas.{known_later, unknown_here}
use Rattle.states_files.proofs.values.are_known.Goals as goal

pub returns-then-not-is_among : goal.returns-then-not-is_among
returns-then-not-is_among c =
    let e : Entry = (c.in-Some.key.now, c.in-Some._content.now) in
    let key : is_among (string_bytes e.0) c.args.names.now ≡ false = ap (λ (k : List ℕ). is_among k c.args.names.now) (sym c.as_str.ensures.value) ∙ sym c.if-not-is_among.ensures in
    sym (unknown_here c.args.names.now e c.next.new.self key) ∙ ap (λ (es : List Entry). are_known c.args.names.now (members_view es)) (sym c.in-Some.ensures.steps) ∙ c.loop-key.invariant

pub loop-key-preserved : goal.loop-key-preserved
loop-key-preserved c =
    let e : Entry = (c.in-Some.key.now, c.in-Some._content.now) in
    let key : is_among (string_bytes e.0) c.args.names.now ≡ true = ap (λ (k : List ℕ). is_among k c.args.names.now) (sym c.as_str.ensures.value) ∙ sym c.if-not-is_among.ensures in
    sym (known_later c.args.names.now e c.next.new.self key) ∙ ap (λ (es : List Entry). are_known c.args.names.now (members_view es)) (sym c.in-Some.ensures.steps) ∙ c.loop-key.invariant

pub returns : goal.returns
returns c = ap (λ (es : List Entry). are_known c.args.names.now (members_view es)) (sym c.in-None.ensures.steps.0) ∙ c.loop-key.invariant
