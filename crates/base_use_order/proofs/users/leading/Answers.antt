use Rattle.std.proofs.Common.{◌∙◌, ◌↔◌, ◌≡◌, sym, subst, ℕ, length}
use Rattle.base_use_order.specs.Uses.{IsWithin, Uses, table_of}
use Rattle.base_use_order.proofs.UserTables.{if_leading, table_length, users_within}
use Rattle.base_use_order.proofs.users.leading.Goals as goal

pub reached-requires-clause-within : goal.reached-requires-clause-within
reached-requires-clause-within c =
    let sizes : length (table_of c.in_ok-users.users.items) ≡ length (table_of c.args.uses.now) =
    table_length c.in_ok-users.users.items ∙ c.in_ok-users.ensures.sizes ∙ sym (table_length c.args.uses.now)
    in
    subst (λ v. IsWithin (table_of v)) (sym c.deref.ensures.value) (users_within (table_of c.args.uses.now) (table_of c.in_ok-users.users.items) sizes c.in_ok-users.ensures.exact)

pub returns-clause-exact : goal.returns-clause-exact
returns-clause-exact c =
    let exact : (a b : ℕ) → Uses (table_of c.deref.result.now) a b ↔ Uses (table_of c.args.uses.now) b a =
    subst (λ v. (a b : ℕ) → Uses (table_of v) a b ↔ Uses (table_of c.args.uses.now) b a) (sym c.deref.ensures.value) c.in_ok-users.ensures.exact
    in
    if_leading (table_of c.args.uses.now) (table_of c.deref.result.now) c.args.to.now c.reached.result exact c.reached.ensures.exact
