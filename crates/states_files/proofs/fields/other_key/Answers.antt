use Rattle.std.proofs.Common.{◌≡◌, List, true, false, Some, ap, sym, ◌∙◌, string_bytes}
use Rattle.serde_json.specs.View.{members_view}
use Rattle.serde_json.proofs.Views.{Entry}
use Rattle.states_files.specs.Fields.{is_key, other_key}
use Rattle.states_files.proofs.MemberLemmas.{other_here, other_later}
use Rattle.states_files.proofs.fields.other_key.Goals as goal

pub returns-then-not-is_key : goal.returns-then-not-is_key
returns-then-not-is_key c =
    let e : Entry = (c.in-Some.key.now, c.in-Some._content.now) in
    let key : is_key (string_bytes e.0) ≡ false = ap is_key (sym c.as_str.ensures.value) ∙ sym c.if-not-is_key.ensures in
    ap Some c.as_str-then-not-is_key.ensures.value ∙ sym (other_here e c.next.new.self key) ∙ ap (λ (es : List Entry). other_key (members_view es)) (sym c.in-Some.ensures.steps) ∙ c.loop-key.invariant

pub loop-key-preserved : goal.loop-key-preserved
loop-key-preserved c =
    let e : Entry = (c.in-Some.key.now, c.in-Some._content.now) in
    let key : is_key (string_bytes e.0) ≡ true = ap is_key (sym c.as_str.ensures.value) ∙ sym c.if-not-is_key.ensures in
    sym (other_later e c.next.new.self key) ∙ ap (λ (es : List Entry). other_key (members_view es)) (sym c.in-Some.ensures.steps) ∙ c.loop-key.invariant

pub returns : goal.returns
returns c = ap (λ (es : List Entry). other_key (members_view es)) (sym c.in-None.ensures.steps.0) ∙ c.loop-key.invariant
