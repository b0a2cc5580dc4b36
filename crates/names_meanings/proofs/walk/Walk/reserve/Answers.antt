use Rattle.std.proofs.Common.{refl, sym, ap, subst, List, [], ◌∷◌, ◌++◌}
use Rattle.names_terms.specs.declared.operator.Operator.{Operator}
use Rattle.names_terms.specs.declared.ids.DefId.{DefId}
use Rattle.names_scopes.specs.declared.scope.Local.{Local}
use Rattle.names_scopes.specs.declared.scope.Local.TheVariants.{Defined}
use Rattle.names_meanings.specs.Around.{IsAround}
use Rattle.names_meanings.proofs.AroundLemmas.{around_more, around_defined, order_reserved, known_below}
use Rattle.names_terms.specs.Terms.{level_of, meaning_of}
use Rattle.names_meanings.proofs.walk.Walk.reserve.Goals as goal

pub invariant_of-self-in_err-copy : goal.invariant_of-self-in_err-copy
invariant_of-self-in_err-copy c =
    subst (λ (t : List Operator). IsAround c.self.inside.names.now c.self.inside.scope t) (sym c.in_ok-push.ensures.pushed) (around_more c.self.inside.names.now c.self.inside.scope c.self.inside.table _ c.self.invariant)

pub invariant_of-self-in_err-push-2 : goal.invariant_of-self-in_err-push-2
invariant_of-self-in_err-push-2 c =
    subst (λ (s : List Local). IsAround c.self.inside.names.now s c.push.new.self) (sym c.in_err-push-2.ensures.kept) (subst (λ (t : List Operator). IsAround c.self.inside.names.now c.self.inside.scope t) (sym c.in_ok-push.ensures.pushed) (around_more c.self.inside.names.now c.self.inside.scope c.self.inside.table _ c.self.invariant))

pub invariant_of-self-2 : goal.invariant_of-self-2
invariant_of-self-2 c =
    let k : DefId = record { 0 = c.len.result } in
    subst (λ (s : List Local). IsAround c.self.inside.names.now s c.push.new.self) (sym c.in_ok-push-2.ensures.pushed) (subst (λ (t : List Operator). IsAround c.self.inside.names.now (c.self.inside.scope ++ Defined c.in_ok-copy.field-0 k c.args.params ∷ []) t) (sym c.in_ok-push.ensures.pushed) (around_defined c.self.inside.names.now c.self.inside.scope c.self.inside.table _ c.in_ok-copy.field-0 k c.args.params c.len.ensures c.self.invariant))

pub returns-clause-ordered : goal.returns-clause-ordered
returns-clause-ordered c =
    order_reserved c.args.self.now c.self.inside.names.now c.self.inside.scope c.self.inside.table _ _ c.self.view_is c.in_ok-push.ensures.pushed refl (ap level_of c.in_ok-body.ensures) (known_below c.in_ok-body.body c.boolean.result (ap meaning_of c.in_ok-body.ensures) _)
