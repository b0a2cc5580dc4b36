use Rattle.std.proofs.Common.{◌≡◌, ◌∙◌, sym, ap, subst, List, map}
use Rattle.std.proofs.lemmas.List.{length-map}
use Rattle.std.specs.Borrow.{Bor}
use Rattle.std.specs.Prelude.{Bool}
use Rattle.reading_trees.specs.declared.expr.Definition.{Definition}
use Rattle.names_program.specs.InUnits.{definitions_in}
use Rattle.names_uses.specs.StrictNames.{AreStrict}
use Rattle.names_uses.proofs.StrictLemmas.{as_many_strict, declares, marks_are, strict_exact, strict_leads, strict_within}
use Rattle.base_use_order.specs.Uses.{table_of}
use Rattle.names_uses.proofs.strict.strict_uses.Goals as goal

pub returns-clause-each : goal.returns-clause-each
returns-clause-each c =
    let first : map (λ (d : Bor Definition). d.now) c.deref.result.now ≡ definitions_in c.args.program.now.units = ap (map (λ (d : Bor Definition). d.now)) c.deref.ensures.value ∙ c.in_ok-definitions.ensures in
    let second : map (λ (d : Bor Definition). d.now) c.deref-3.result.now ≡ definitions_in c.args.program.now.units = ap (map (λ (d : Bor Definition). d.now)) c.deref-3.ensures.value ∙ c.in_ok-definitions.ensures in
    let marks : c.in_ok-marks.marks.items ≡ map (declares c.args.program.now) (definitions_in c.args.program.now.units) = marks_are c.args.program.now (λ (d : Bor Definition). d.now) c.deref.result.now (definitions_in c.args.program.now.units) c.in_ok-marks.marks.items first c.in_ok-marks.ensures in
    let used : AreStrict c.in_ok-marks.marks.items c.args.names.now 0 (definitions_in c.args.program.now.units) (table_of c.in_ok-uses.uses.items) = subst (λ (bs : List Bool). AreStrict bs c.args.names.now 0 (definitions_in c.args.program.now.units) (table_of c.in_ok-uses.uses.items)) c.deref-2.ensures.value (subst (λ (l : List Definition). AreStrict c.deref-2.result.now c.args.names.now 0 l (table_of c.in_ok-uses.uses.items)) second c.in_ok-uses.ensures) in
    sym (length-map c.in_ok-uses.uses.items (λ u. u.items)) ∙ as_many_strict c.in_ok-marks.marks.items c.args.names.now 0 (definitions_in c.args.program.now.units) (table_of c.in_ok-uses.uses.items) used

pub returns-clause-within : goal.returns-clause-within
returns-clause-within c =
    let first : map (λ (d : Bor Definition). d.now) c.deref.result.now ≡ definitions_in c.args.program.now.units = ap (map (λ (d : Bor Definition). d.now)) c.deref.ensures.value ∙ c.in_ok-definitions.ensures in
    let second : map (λ (d : Bor Definition). d.now) c.deref-3.result.now ≡ definitions_in c.args.program.now.units = ap (map (λ (d : Bor Definition). d.now)) c.deref-3.ensures.value ∙ c.in_ok-definitions.ensures in
    let marks : c.in_ok-marks.marks.items ≡ map (declares c.args.program.now) (definitions_in c.args.program.now.units) = marks_are c.args.program.now (λ (d : Bor Definition). d.now) c.deref.result.now (definitions_in c.args.program.now.units) c.in_ok-marks.marks.items first c.in_ok-marks.ensures in
    let used : AreStrict c.in_ok-marks.marks.items c.args.names.now 0 (definitions_in c.args.program.now.units) (table_of c.in_ok-uses.uses.items) = subst (λ (bs : List Bool). AreStrict bs c.args.names.now 0 (definitions_in c.args.program.now.units) (table_of c.in_ok-uses.uses.items)) c.deref-2.ensures.value (subst (λ (l : List Definition). AreStrict c.deref-2.result.now c.args.names.now 0 l (table_of c.in_ok-uses.uses.items)) second c.in_ok-uses.ensures) in
    strict_within c.args.program.now c.args.config.now c.requires.are.0 c.args.names.now c.requires.are.1 c.in_ok-marks.marks.items marks (table_of c.in_ok-uses.uses.items) used

pub returns-clause-exact : goal.returns-clause-exact
returns-clause-exact c =
    let first : map (λ (d : Bor Definition). d.now) c.deref.result.now ≡ definitions_in c.args.program.now.units = ap (map (λ (d : Bor Definition). d.now)) c.deref.ensures.value ∙ c.in_ok-definitions.ensures in
    let second : map (λ (d : Bor Definition). d.now) c.deref-3.result.now ≡ definitions_in c.args.program.now.units = ap (map (λ (d : Bor Definition). d.now)) c.deref-3.ensures.value ∙ c.in_ok-definitions.ensures in
    let marks : c.in_ok-marks.marks.items ≡ map (declares c.args.program.now) (definitions_in c.args.program.now.units) = marks_are c.args.program.now (λ (d : Bor Definition). d.now) c.deref.result.now (definitions_in c.args.program.now.units) c.in_ok-marks.marks.items first c.in_ok-marks.ensures in
    let used : AreStrict c.in_ok-marks.marks.items c.args.names.now 0 (definitions_in c.args.program.now.units) (table_of c.in_ok-uses.uses.items) = subst (λ (bs : List Bool). AreStrict bs c.args.names.now 0 (definitions_in c.args.program.now.units) (table_of c.in_ok-uses.uses.items)) c.deref-2.ensures.value (subst (λ (l : List Definition). AreStrict c.deref-2.result.now c.args.names.now 0 l (table_of c.in_ok-uses.uses.items)) second c.in_ok-uses.ensures) in
    strict_exact c.args.program.now c.args.config.now c.requires.are.0 c.args.names.now c.requires.are.1 c.in_ok-marks.marks.items marks (table_of c.in_ok-uses.uses.items) used

pub returns-clause-leads : goal.returns-clause-leads
returns-clause-leads c =
    let first : map (λ (d : Bor Definition). d.now) c.deref.result.now ≡ definitions_in c.args.program.now.units = ap (map (λ (d : Bor Definition). d.now)) c.deref.ensures.value ∙ c.in_ok-definitions.ensures in
    let second : map (λ (d : Bor Definition). d.now) c.deref-3.result.now ≡ definitions_in c.args.program.now.units = ap (map (λ (d : Bor Definition). d.now)) c.deref-3.ensures.value ∙ c.in_ok-definitions.ensures in
    let marks : c.in_ok-marks.marks.items ≡ map (declares c.args.program.now) (definitions_in c.args.program.now.units) = marks_are c.args.program.now (λ (d : Bor Definition). d.now) c.deref.result.now (definitions_in c.args.program.now.units) c.in_ok-marks.marks.items first c.in_ok-marks.ensures in
    let used : AreStrict c.in_ok-marks.marks.items c.args.names.now 0 (definitions_in c.args.program.now.units) (table_of c.in_ok-uses.uses.items) = subst (λ (bs : List Bool). AreStrict bs c.args.names.now 0 (definitions_in c.args.program.now.units) (table_of c.in_ok-uses.uses.items)) c.deref-2.ensures.value (subst (λ (l : List Definition). AreStrict c.deref-2.result.now c.args.names.now 0 l (table_of c.in_ok-uses.uses.items)) second c.in_ok-uses.ensures) in
    strict_leads c.args.program.now c.args.config.now (table_of c.in_ok-uses.uses.items) (strict_exact c.args.program.now c.args.config.now c.requires.are.0 c.args.names.now c.requires.are.1 c.in_ok-marks.marks.items marks (table_of c.in_ok-uses.uses.items) used)
