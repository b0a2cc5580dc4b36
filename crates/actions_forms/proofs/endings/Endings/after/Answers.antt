use Rattle.std.proofs.Common.{◌≡◌, ℕ, rules, subst}
use Rattle.actions_forms.specs.declared.endings.Ending.{Ending}
use Rattle.actions_forms.specs.Endings.{Has}
use Rattle.actions_forms.proofs.Known.{contains-among}
use Rattle.actions_forms.proofs.endings.Endings.after.Goals as goal

pub returns-then-eq : goal.returns-then-eq
returns-then-eq c =
    let found : Has c.args.self.now c.in-Some.ending.now = contains-among _ _ c.in-Some.ensures.member in
    let before : c.in-Some.ending.now.before ≡ c.args.before = search (rules, c.if-eq.true, c.eq.ensures) in
    subst (λ (n : ℕ). Has c.args.self.now (record { number = n; before = c.args.before; after = c.in-Some.ending.now.after })) c.if-ending-number.true
    (subst (λ (b : ℕ). Has c.args.self.now (record { number = c.in-Some.ending.now.number; before = b; after = c.in-Some.ending.now.after })) before found)
