use Rattle.std.proofs.Common.{◌≡◌, ◌<◌, ◌+◌, ◌++◌, ◌∷◌, List, length, map, drop, ap, sym, subst, ◌∙◌, arith}
use Rattle.values_core.specs.Data.{Val}
use Rattle.values_core.specs.Sets.{items_of}
use Rattle.eval_meanings.specs.Binders.{ranges, times}
use Rattle.eval_parts.specs.BoundSets.{bound_members}
use Rattle.eval_parts.specs.Walks.{AllDiffer}
use Rattle.eval_parts.specs.declared.bound_values.BoundSet.{BoundSet}
use Rattle.eval_parts.proofs.BoundLemmas.{members_differ, more_differ, one_set_more}
use Rattle.eval_parts.proofs.Loops.{cut_at}
use Rattle.eval_parts.proofs.bound_values.member_lists.Goals as goal
use denote.Ref.{Bor}

abbrev members : Bor (List Val) → List Val
members x = x.now

pub loop-set-preserved : goal.loop-set-preserved
loop-set-preserved c =
    let sets = c.args.sets.now in
    let i = c.loop-set.set-index in
    let s = c.set-item.result in
    let below : c.loop-set.set-index < length c.args.sets.now = omega arith in
    let cut = cut_at sets i c.set-item.result below c.set-item.is in
    let old = map members c.loop-set.lists.items in
    let rest = map bound_members (drop (i + 1) sets) in
    let all = ranges (map bound_members sets) in
    let pushed = c.in_ok-push_times.ensures ∙ ap (λ (vs : List Val). old ++ times s.names vs) c.members.ensures in
    let now : old ++ ranges (bound_members s ∷ rest) ≡ all = ap (λ (us : List BoundSet). old ++ ranges (map bound_members us)) (sym cut) ∙ c.loop-set.invariant.0 in
    (one_set_more old (map members c.push_times.new.lists.items) (bound_members s) rest all pushed now, subst (λ (ls : List (List Val)). AllDiffer ls) (sym pushed) (more_differ old s.names (items_of s.value) (members_differ s.value c.is_value.ensures) c.loop-set.invariant.1))
