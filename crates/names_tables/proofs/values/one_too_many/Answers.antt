use Rattle.std.proofs.Common.{◌≡◌, ◌∙◌, sym, ap, length, ◌≤◌, map, arith}
use Rattle.std.specs.Borrow.{Bor}
use Rattle.std.proofs.lemmas.List.{length-map}
use Rattle.std.proofs.lemmas.Option.{slice_get_past}
use Rattle.reading_trees.specs.declared.module.Declared.{Declared}
use Rattle.names_program.specs.InUnits.{variables_in}
use Rattle.names_tables.proofs.Places.{read_at}
use Rattle.names_tables.proofs.values.one_too_many.Goals as goal

pub returns-in-Some : goal.returns-in-Some
returns-in-Some c =
    sym (read_at c.deref.result.now (variables_in c.args.program.now.units) 64 c.in-Some.variable.now (ap (map (λ (d : Bor Declared). d.now)) c.deref.ensures.value ∙ c.in_ok-declared.ensures) c.in-Some.ensures.lookup.3.0 c.in-Some.ensures.lookup.1)

pub returns : goal.returns
returns c =
    let e : map (λ (d : Bor Declared). d.now) c.deref.result.now ≡ variables_in c.args.program.now.units = ap (map (λ (d : Bor Declared). d.now)) c.deref.ensures.value ∙ c.in_ok-declared.ensures in
    let same : length c.deref.result.now ≡ length (variables_in c.args.program.now.units) = sym (length-map c.deref.result.now (λ (d : Bor Declared). d.now)) ∙ ap length e in
    let le : length (variables_in c.args.program.now.units) ≤ 64 = omega (arith, same, c.in-None.ensures.lookup.3) in
    sym (slice_get_past (variables_in c.args.program.now.units) 64 le)
