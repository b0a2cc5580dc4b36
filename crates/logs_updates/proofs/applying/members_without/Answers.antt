use Rattle.std.proofs.Common.{◌+◌, [], ◌∷◌, ◌++◌, List, Bool, drop, filter, not, append_assoc, ap, sym, ◌∙◌}
use Rattle.values_core.specs.Data.{Val}
use Rattle.values_core.specs.Order.{val_eq}
use Rattle.logs_updates.proofs.MakingLemmas.{filter_rest}
use Rattle.logs_updates.proofs.applying.members_without.Goals as goal

pub loop-member-preserved : goal.loop-member-preserved
loop-member-preserved c =
    let p : Val → Bool = λ m. not (val_eq m c.args.old.now) in
    let xs = c.args.members.now in
    let i = c.loop-member.member-index in
    let x = c.member-item.result in
    let others = c.loop-member.others.items in
    let left = filter p (drop (i + 1) xs) in
    ap (λ (ys : List Val). ys ++ left) c.in_ok-push_other.ensures ∙ append_assoc others (filter p (x ∷ [])) left
    ∙ ap (λ (ys : List Val). others ++ ys) (sym (filter_rest p xs i x c.loop-member-test.true c.member-item.is)) ∙ c.loop-member.invariant
