use Rattle.std.proofs.Common.{◌≡◌, ◌<◌, ◌≤◌, ◌++◌, List, length, map, ap, sym, ◌∙◌, ℕ, arith}
use Rattle.std.proofs.lemmas.List.{append-nil, length-map}
use Rattle.names_terms.specs.Terms.{Term}
use Rattle.names_terms.specs.TermViews.{bound_item}
use Rattle.eval_meanings.specs.Recursion.{sets_of_names}
use Rattle.eval_parts.proofs.BoundLemmas.{bounds_are}
use Rattle.eval_parts.proofs.Loops.{cut_at, cut_end, cut_mapped}
use Rattle.eval_parts.proofs.RecursionLemmas.{sets_pushed}
use Rattle.eval_parts.proofs.recursion.sets_of_names.Goals as goal
use denote.Ref.{Bor}

abbrev seen : Bor Term → Term
seen x = x.now

pub loop-bound-preserved : goal.loop-bound-preserved
loop-bound-preserved c =
    let items = c.items-bound-items.result.now in
    let i = c.loop-bound.bound-index in
    let below : c.loop-bound.bound-index < length c.items-bound-items.result.now = omega arith in
    let cut = cut_mapped bound_item items i c.bound-item.result (cut_at items i c.bound-item.result below c.bound-item.is) in
    sets_pushed (map bound_item items) i (bound_item c.bound-item.result) (map seen c.loop-bound.sets.items) (map seen c.push_times.new.sets.items) (sets_of_names (map bound_item items)) cut c.in_ok-push_times.ensures c.loop-bound.invariant

pub returns : goal.returns
returns c =
    let items = c.items-bound-items.result.now in
    let xs = map bound_item c.items-bound-items.result.now in
    let are = bounds_are items c.args.bounds.now c.items-bound-items.ensures in
    let i = c.loop-bound.bound-index in
    let passed : length c.items-bound-items.result.now ≤ c.loop-bound.bound-index = omega arith in
    let over : length (map bound_item c.items-bound-items.result.now) ≤ c.loop-bound.bound-index = omega (arith, passed, length-map c.items-bound-items.result.now bound_item) in
    let all = map seen c.loop-bound.sets.items in
    let end : all ≡ sets_of_names xs = sym (append-nil all) ∙ sym (ap (λ (ys : List (ℕ × Term)). all ++ sets_of_names ys) (cut_end xs i over)) ∙ c.loop-bound.invariant in
    end ∙ ap sets_of_names are
