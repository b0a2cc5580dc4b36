use Rattle.std.proofs.Common.{◌∙◌, sym, ap}
use Rattle.std.specs.Prelude.{Bool}
use Rattle.names_least_levels.specs.Levels.{names_rise}
use Rattle.names_found_levels.specs.Raised.{Marks}
use Rattle.names_found_levels.proofs.Telling.{tell, told_tells}
use Rattle.names_found_levels.proofs.around.told.Goals as goal

pub loop-known-init : goal.loop-known-init
loop-known-init c =
    ap (λ (b : Bool). tell b c.items-known-items.result.now c.args.name.now) c.in_program-rises.ensures
    ∙ ap (λ (l : Marks). tell (names_rise c.args.names.now c.args.marks.now c.args.name.now) l c.args.name.now) c.items-known-items.ensures
    ∙ sym (told_tells (names_rise c.args.names.now c.args.marks.now) c.args.around.now c.args.name.now)
