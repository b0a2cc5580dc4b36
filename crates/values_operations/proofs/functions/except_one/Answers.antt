use Rattle.std.proofs.Common.{◌≡◌, ◌⊎◌, inl, inr, sym, ◌∙◌, true, false}
use Rattle.values_core.specs.Functions.{InDomain, keys_in}
use Rattle.values_core.specs.FunctionOperations.{GivesFunction, GivesValue, InExcept}
use Rattle.values_operations.proofs.Merging.{contains_has, has_contains}
use Rattle.values_operations.proofs.Pairs.{on_function}
use Rattle.values_operations.proofs.functions.except_one.Goals as goal

pub excepted-requires : goal.excepted-requires
excepted-requires c = has_contains (keys_in c.args.f.now) c.args.key.now (sym c.is_in_domain.ensures ∙ c.if-is_in_domain.true)

pub returns-then-is_in_domain : goal.returns-then-is_in_domain
returns-then-is_in_domain c =
    let f = c.args.f.now in
    let key = c.args.key.now in
    let there : InDomain key f = has_contains (keys_in f) key (sym c.is_in_domain.ensures ∙ c.if-is_in_domain.true) in
    on_function f (λ o. (InDomain key f × GivesFunction (InExcept f key c.args.new) o) ⊎ (¬ InDomain key f × GivesValue (λ h. h ≡ f) o)) c.excepted.result c.in_ok-expect_function.ensures
    (inl (there, c.excepted.ensures))

pub returns : goal.returns
returns c =
    let f = c.args.f.now in
    let key = c.args.key.now in
    on_function f (λ o. (InDomain key f × GivesFunction (InExcept f key c.args.new) o) ⊎ (¬ InDomain key f × GivesValue (λ h. h ≡ f) o)) c.kept.result c.in_ok-expect_function.ensures
    (inr (λ h. let e : true ≡ false = sym (contains_has (keys_in f) key h) ∙ sym c.is_in_domain.ensures ∙ c.if-is_in_domain.false in cc, c.kept.ensures))
