use Rattle.std.proofs.Common.{◌≡◌, ◌<◌, length, map, arith}
use Rattle.std.proofs.lemmas.List.{length-map}
use Rattle.std.specs.Borrow.{Bor}
use Rattle.reading_trees.specs.declared.expr.Definition.{Definition}
use Rattle.names_found_levels.proofs.Finding.{raised_one, read_there, stands_length}
use Rattle.names_found_levels.proofs.levels.raised_at.Goals as goal

pub index_mut-requires : goal.index_mut-requires
index_mut-requires c =
    let many : length c.args.marks.items ≡ length (map (λ (d : Bor Definition). d.now) c.args.definitions.now) = stands_length c.args.names.now (map (λ (d : Bor Definition). d.now) c.args.definitions.now) c.args.marks.items c.requires.stands in
    omega (arith, many, length-map c.args.definitions.now (λ (d : Bor Definition). d.now), c.requires.within, c.args.marks.ok.0)

pub returns : goal.returns
returns c =
    let ds = map (λ (d : Bor Definition). d.now) c.args.definitions.now in
    let long : c.args.index < length ds = omega (arith, length-map c.args.definitions.now (λ (d : Bor Definition). d.now), c.requires.within) in
    raised_one c.args.names.now ds c.args.marks.items c.deref.result.now c.args.index c.index-definitions-index.result.now c.in_ok-rises.rises c.requires.stands long (read_there (λ (d : Bor Definition). d.now) c.args.definitions.now c.args.index c.index-definitions-index.result c.requires.within c.index-definitions-index.is) c.deref.ensures.value c.in_ok-rises.ensures
