use Rattle.std.proofs.Common.{◌≡◌, ◌++◌, take}
use Rattle.names_terms.specs.TermViews.{changes_of}
use Rattle.names_term_parts.specs.Parts.{change_parts}
use Rattle.names_term_parts.specs.Waiting.{waiting}
use Rattle.names_term_parts.proofs.pending.push_changes.Given as goal

abbrev pub invariant-loop-change : goal.invariant-loop-change
invariant-loop-change l = waiting l.stack.items ≡ waiting l.initial.stack.items ++ change_parts l.primed (changes_of (take l.change-index l.items))
