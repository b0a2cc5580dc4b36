use Rattle.std.proofs.Common.{◌≡◌, ◌≤◌, ◌++◌, ◌∷◌, [], List, length, map, ap, sym, ◌∙◌, arith}
use Rattle.std.proofs.lemmas.List.{length-map, map-append, take_all}
use Rattle.values_core.specs.Data.{Val}
use Rattle.names_terms.specs.Terms.{Term}
use Rattle.eval_parts.proofs.Loops.{slots_end}
use Rattle.eval_parts.proofs.RecursionLemmas.{is_sequence, many_names, one_name}
use Rattle.eval_parts.proofs.recursion.slots_at.Goals as goal
use denote.Ref.{Bor}

abbrev seen : Bor Term → Term
seen x = x.now

abbrev value : Bor Val → Val
value x = x.now

pub items_of-values-requires : goal.items_of-values-requires
items_of-values-requires c =
    let es = map seen c.args.sets.now in
    let many : length es ≡ 1 → ⊥ = λ q. absurd (c.if-names-eq1.false (sym (length-map c.args.sets.now seen) ∙ q)) in
    is_sequence es c.args.key.now many c.requires

pub returns-then-names-eq1 : goal.returns-then-names-eq1
returns-then-names-eq1 c =
    let es = map seen c.args.sets.now in
    let slots = c.args.slots.now in
    let one : length es ≡ 1 = length-map c.args.sets.now seen ∙ c.if-names-eq1.true in
    let first : c.in_ok-all.all.items ≡ slots = c.in_ok-all.ensures ∙ take_all (length slots) slots (omega arith) in
    ap (map value) c.in_ok-push.ensures.items ∙ ap (λ (xs : List (Bor Val)). map value (xs ++ c.args.key ∷ [])) first ∙ map-append value slots (c.args.key ∷ [])
    ∙ ap (λ (vs : List Val). map value slots ++ vs) (sym (one_name es c.args.key.now one))

pub returns : goal.returns
returns c =
    let es = map seen c.args.sets.now in
    let slots = c.args.slots.now in
    let first : c.in_ok-all.all.items ≡ slots = c.in_ok-all.ensures ∙ take_all (length slots) slots (omega arith) in
    let many : length es ≡ 1 → ⊥ = λ q. absurd (c.if-names-eq1.false (sym (length-map c.args.sets.now seen) ∙ q)) in
    let passed : length c.items_of-values.result.now ≤ c.loop-value.value-index = omega arith in
    slots_end _ _ _ c.loop-value.value-index passed c.loop-value.invariant ∙ ap (λ (xs : List (Bor Val)). map value xs ++ c.items_of-values.result.now) first
    ∙ ap (λ (vs : List Val). map value slots ++ vs) (c.items_of-values.ensures ∙ sym (many_names es c.args.key.now many))
