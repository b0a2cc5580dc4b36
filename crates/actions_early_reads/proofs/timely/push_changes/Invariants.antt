use Rattle.std.proofs.Common.{◌≡◌, ◌++◌, false, map, take}
use Rattle.names_terms.specs.TermViews.{changes_of}
use Rattle.names_term_parts.specs.Parts.{part}
use Rattle.names_term_parts.specs.Waiting.{waiting}
use Rattle.actions_early_reads.specs.Paths.{change_terms}
use Rattle.actions_early_reads.proofs.timely.push_changes.Given as goal

abbrev pub invariant-loop-change : goal.invariant-loop-change
invariant-loop-change l = waiting l.stack.items ≡ waiting l.initial.stack.items ++ map (part false) (change_terms (changes_of (take l.change-index l.items)))
