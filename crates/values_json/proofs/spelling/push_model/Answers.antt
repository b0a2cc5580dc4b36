use Rattle.std.proofs.Common.{◌≡◌, ◌++◌, List, ℕ, Bool, false, codes, string_bytes, if◌then◌else◌, ap, sym, ◌∙◌, refl}
use Rattle.std.specs.Str.{bytes_eq}
use Rattle.serde_json.specs.Data.{null, string}
use Rattle.serde_json.specs.Written.{compact_text}
use Rattle.values_core.specs.Data.{model}
use Rattle.values_json.specs.Prints.{prints, marked}
use Rattle.values_json.proofs.SpellLemmas.{model_text, on_pushed, three_pushed}
use Rattle.values_json.proofs.spelling.push_model.Goals as goal

other_model : (s : List ℕ) (b : Bool) → bytes_eq s (codes "null") ≡ b → b ≡ false → marked (codes "$model") (string s) ≡ prints (model s)
other_model s b e f = ap (λ (c : Bool). if c then null else marked (codes "$model") (string s)) (sym (e ∙ f))

pub returns : goal.returns
returns c =
    let s = c.args.name.now in
    let old = string_bytes c.args.text.now in
    let a = string_bytes c.push_str-2.new.self in
    let b = string_bytes c.push_quoted.new.text in
    let new = string_bytes c.push_str-3.new.self in
    let no : bytes_eq s (codes "null") ≡ false = ap (λ (t : List ℕ). bytes_eq t (codes "null")) (sym c.as_str.ensures) ∙ sym c.eq.ensures ∙ c.if-eq.false in
    let quoted : b ≡ a ++ compact_text (string s) = c.in_ok-push_quoted.ensures ∙ ap (λ (t : List ℕ). a ++ compact_text (string t)) c.as_str-2.ensures in
    let whole = model_text s ∙ ap compact_text (other_model s false no refl) in
    on_pushed c.push_str-3.result new b (codes "}") (old ++ compact_text (prints (model s))) c.push_str-3.ensures.bytes
    (λ e. three_pushed old a b new (codes "{\"$model\":") (compact_text (string s)) (codes "}") (compact_text (prints (model s))) c.in_ok-push_str.ensures.bytes quoted e whole)
