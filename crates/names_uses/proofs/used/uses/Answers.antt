use Rattle.std.proofs.Common.{◌≡◌, ◌∙◌, sym, ap, subst, List, map}
use Rattle.std.proofs.lemmas.List.{length-map}
use Rattle.std.specs.Borrow.{Bor}
use Rattle.reading_trees.specs.declared.expr.Definition.{Definition}
use Rattle.names_program.specs.InUnits.{definitions_in}
use Rattle.names_uses.specs.UsedNames.{AreUsed}
use Rattle.names_uses.proofs.UseLemmas.{as_many, uses_exact, uses_within}
use Rattle.names_uses.proofs.Leading.{leads_exact}
use Rattle.base_use_order.specs.Uses.{table_of}
use Rattle.names_uses.proofs.used.uses.Goals as goal

pub returns-clause-each : goal.returns-clause-each
returns-clause-each c =
    let all : map (λ (d : Bor Definition). d.now) c.deref.result.now ≡ definitions_in c.args.program.now.units = ap (map (λ (d : Bor Definition). d.now)) c.deref.ensures.value ∙ c.in_ok-definitions.ensures in
    let used : AreUsed c.args.names.now (definitions_in c.args.program.now.units) (table_of c.in_ok-uses.uses.items) = subst (λ (l : List Definition). AreUsed c.args.names.now l (table_of c.in_ok-uses.uses.items)) all c.in_ok-uses.ensures in
    sym (length-map c.in_ok-uses.uses.items (λ u. u.items)) ∙ as_many c.args.names.now (definitions_in c.args.program.now.units) (table_of c.in_ok-uses.uses.items) used

pub returns-clause-within : goal.returns-clause-within
returns-clause-within c =
    let all : map (λ (d : Bor Definition). d.now) c.deref.result.now ≡ definitions_in c.args.program.now.units = ap (map (λ (d : Bor Definition). d.now)) c.deref.ensures.value ∙ c.in_ok-definitions.ensures in
    let used : AreUsed c.args.names.now (definitions_in c.args.program.now.units) (table_of c.in_ok-uses.uses.items) = subst (λ (l : List Definition). AreUsed c.args.names.now l (table_of c.in_ok-uses.uses.items)) all c.in_ok-uses.ensures in
    uses_within c.args.program.now c.args.config.now c.requires.are.0 c.args.names.now c.requires.are.1 (table_of c.in_ok-uses.uses.items) used

pub returns-clause-exact : goal.returns-clause-exact
returns-clause-exact c =
    let all : map (λ (d : Bor Definition). d.now) c.deref.result.now ≡ definitions_in c.args.program.now.units = ap (map (λ (d : Bor Definition). d.now)) c.deref.ensures.value ∙ c.in_ok-definitions.ensures in
    let used : AreUsed c.args.names.now (definitions_in c.args.program.now.units) (table_of c.in_ok-uses.uses.items) = subst (λ (l : List Definition). AreUsed c.args.names.now l (table_of c.in_ok-uses.uses.items)) all c.in_ok-uses.ensures in
    uses_exact c.args.program.now c.args.config.now c.requires.are.0 c.args.names.now c.requires.are.1 (table_of c.in_ok-uses.uses.items) used

pub returns-clause-leads : goal.returns-clause-leads
returns-clause-leads c =
    let all : map (λ (d : Bor Definition). d.now) c.deref.result.now ≡ definitions_in c.args.program.now.units = ap (map (λ (d : Bor Definition). d.now)) c.deref.ensures.value ∙ c.in_ok-definitions.ensures in
    let used : AreUsed c.args.names.now (definitions_in c.args.program.now.units) (table_of c.in_ok-uses.uses.items) = subst (λ (l : List Definition). AreUsed c.args.names.now l (table_of c.in_ok-uses.uses.items)) all c.in_ok-uses.ensures in
    leads_exact c.args.program.now c.args.config.now (table_of c.in_ok-uses.uses.items) (uses_exact c.args.program.now c.args.config.now c.requires.are.0 c.args.names.now c.requires.are.1 (table_of c.in_ok-uses.uses.items) used)
