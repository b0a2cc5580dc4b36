use Rattle.std.proofs.Common.{◌∙◌, ◌<◌, ◌≤◌, ◌↔◌, ◌≡◌, ◌⊎◌, ℕ, arith, get_or, length, subst, sym}
use Rattle.std.specs.List.{Contains}
use Rattle.base_use_order.specs.Uses.{Uses, table_of, used_by}
use Rattle.base_use_order.proofs.UserTables.{all_users, one_more_user, table_length, used_within}
use Rattle.base_use_order.proofs.users.users.Goals as goal

pub loop-user-init : goal.loop-user-init
loop-user-init c = record {
  sizes = c.in_ok-users.ensures.sizes;
  exact = λ a b. (λ h. absurd (c.in_ok-users.ensures.none a b h), λ h. absurd (omega (arith, h.0)));
}

pub add_uses-requires : goal.add_uses-requires
add_uses-requires c k d l =
    let table = table_of c.args.uses.now in
    let here : k < length (used_by table c.loop-user.user) = subst (λ v. k < length v) c.used_of.ensures l in
    let small = used_within table c.loop-user.user k d c.requires here in
    subst (λ v. get_or v k d < length c.loop-user.users.items) (sym c.used_of.ensures)
    (omega (arith, small, table_length c.args.uses.now, c.loop-user.invariant.sizes))

pub loop-user-preserved : goal.loop-user-preserved
loop-user-preserved c =
    let table = table_of c.args.uses.now in
    let old = table_of c.loop-user.users.items in
    let new = table_of c.add_uses.new.users.items in
    let user = c.loop-user.user in
    let exact : (a b : ℕ) → Uses new a b ↔ (Uses old a b ⊎ (Contains (used_by table user) a × (b ≡ user))) =
    subst (λ v. (a b : ℕ) → Uses new a b ↔ (Uses old a b ⊎ (Contains v a × (b ≡ user)))) c.used_of.ensures c.in_ok-add_uses.ensures.exact
    in
    record {
      sizes = c.in_ok-add_uses.ensures.sizes ∙ c.loop-user.invariant.sizes;
      exact = one_more_user table old new user c.loop-user.invariant.exact exact;
    }

pub returns-clause-exact : goal.returns-clause-exact
returns-clause-exact c =
    let few : length (table_of c.args.uses.now) ≤ c.loop-user.user = omega (arith, table_length c.args.uses.now, c.loop-user-test.false) in
    all_users (table_of c.args.uses.now) (table_of c.loop-user.users.items) c.loop-user.user few c.loop-user.invariant.exact
