use Rattle.std.proofs.Common.{◌≡◌, true, take}
use Rattle.std.specs.List.{list_all}
use Rattle.serde_json.specs.View.{view}
use Rattle.logs_lines.specs.Values.{is_known_see}
use Rattle.logs_lines.proofs.parts.are_known_sees.Given as goal

abbrev pub invariant-loop-item : goal.invariant-loop-item
invariant-loop-item g l = list_all (λ json. is_known_see (g.N.SpecNames.setting l.names) (view json)) (take l.item-index l.items) ≡ true
