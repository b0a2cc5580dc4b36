use Rattle.std.proofs.Common.{◌≡◌, ◌++◌, string_bytes}
use Rattle.run_near_lines.specs.Texts.{first_told, near_told}
use Rattle.run_near_lines.proofs.firsts.near_told.Given as goal

abbrev pub invariant-loop-text : goal.invariant-loop-text
invariant-loop-text l =
    (string_bytes l.told ++ first_told l.left l.text-iterator ≡ near_told l.most l.texts.keys)
    × (goal.iterator-loop-text).can_next l.text-iterator
    × (goal.iterator-loop-text).is_finite l.text-iterator
