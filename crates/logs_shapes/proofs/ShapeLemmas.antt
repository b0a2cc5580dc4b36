-- Where a list of operations, or of what is seen, has not its shape.
use Rattle.std.proofs.Common.{◌≡◌, List, [], false, Option, None, Some, ap, sym, ◌∙◌, refl, true≢false, is_some, option_and_then}
use Rattle.std.specs.List.{list_all}
use Rattle.serde_json.specs.Data.{Data, Members}
use Rattle.serde_json.specs.Find.{as_array}
use Rattle.serde_json.specs.View.{view, items_view}
use Rattle.serde_json.specs.declared.value.Value.{Value}
use Rattle.logs_shapes.specs.Keys.{content}
use Rattle.logs_shapes.specs.Parts.{each_of, see_of, update_of}
use Rattle.logs_shapes.specs.Shapes.{content_or, sees_at, updates_at}
use Rattle.logs_shapes.specs.declared.key.Key.TheVariants as key
use Rattle.logs_shapes.proofs.PartLemmas.{each_is}

none_of : {A : Type 0} (o : Option A) → is_some o ≡ false → o ≡ None
none_of None h = refl
none_of (Some a) h = absurd (true≢false h)

no_list : {A : Type 0} (f : Data → Option A) (d : Data) (xs ys : List Value) → Some (items_view xs) ≡ as_array d → ys ≡ xs → false ≡ list_all (λ x. is_some (f (view x))) ys
    → option_and_then (each_of f) (as_array d) ≡ None
no_list f d xs ys a s h =
    ap (option_and_then (each_of f)) (sym a) ∙ none_of (each_of f (items_view xs)) (each_is f xs ∙ ap (list_all (λ (x : Value). is_some (f (view x)))) (sym s) ∙ sym h)

pub no_sees : (ms : Members) (d : Data) (xs ys : List Value) → Some d ≡ content key.See ms → Some (items_view xs) ≡ as_array d → ys ≡ xs → false ≡ list_all (λ x. is_some (see_of (view x))) ys
    → sees_at ms ≡ None
no_sees ms d xs ys q a s h = ap (content_or [] (λ (e : Data). option_and_then (each_of see_of) (as_array e))) (sym q) ∙ no_list see_of d xs ys a s h

pub no_updates : (ms : Members) (d : Data) (xs ys : List Value) → Some d ≡ content key.Update ms → Some (items_view xs) ≡ as_array d → ys ≡ xs → false ≡ list_all (λ x. is_some (update_of (view x))) ys
    → updates_at false ms ≡ None
no_updates ms d xs ys q a s h = ap (content_or [] (λ (e : Data). option_and_then (each_of update_of) (as_array e))) (sym q) ∙ no_list update_of d xs ys a s h
