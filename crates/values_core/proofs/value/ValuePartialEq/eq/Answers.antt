use Rattle.std.proofs.Common.{ap, ◌∙◌}
use Rattle.std.specs.Ordering.{is_eq}
use Rattle.values_core.specs.Order.{val_cmp}
use Rattle.values_core.proofs.Hashing.{told_apart}
use Rattle.values_core.proofs.value.ValuePartialEq.eq.Goals as goal

pub returns-then-deref : goal.returns-then-deref
returns-then-deref c =
    rw (← c.self.view_is, ← c.other.view_is) (told_apart c.self.inside.node c.other.inside.node c.self.invariant c.other.invariant
    (rw (c.in-Set-Set.is-0, c.in-Set-Set.is-1, ← c.deref.ensures, ← c.deref-in-Set-Set.ensures) c.if-deref.true))

pub returns-then-deref-2 : goal.returns-then-deref-2
returns-then-deref-2 c =
    rw (← c.self.view_is, ← c.other.view_is) (told_apart c.self.inside.node c.other.inside.node c.self.invariant c.other.invariant
    (rw (c.in-Sequence-Sequence.is-0, c.in-Sequence-Sequence.is-1, ← c.deref-in-Sequence-Sequence.ensures, ← c.deref-in-Sequence-Sequence-2.ensures) c.if-deref-2.true))

pub returns-then-deref-3 : goal.returns-then-deref-3
returns-then-deref-3 c =
    rw (← c.self.view_is, ← c.other.view_is) (told_apart c.self.inside.node c.other.inside.node c.self.invariant c.other.invariant
    (rw (c.in-Record-Record.is-0, c.in-Record-Record.is-1, ← c.deref-in-Record-Record.ensures, ← c.deref-in-Record-Record-2.ensures) c.if-deref-3.true))

pub returns-then-deref-4 : goal.returns-then-deref-4
returns-then-deref-4 c =
    rw (← c.self.view_is, ← c.other.view_is) (told_apart c.self.inside.node c.other.inside.node c.self.invariant c.other.invariant
    (rw (c.in-Function-Function.is-0, c.in-Function-Function.is-1, ← c.deref-in-Function-Function.ensures, ← c.deref-in-Function-Function-2.ensures) c.if-deref-4.true))

pub returns-in-Int-Int : goal.returns-in-Int-Int
unfolding val_cmp
returns-in-Int-Int c =
    rw (← c.self.view_is, ← c.other.view_is, c.in-Int-Int.is-0, c.in-Int-Int.is-1) (c.is_eq-in-Int-Int.ensures ∙ ap is_eq c.cmp.ensures)

pub returns-in-String-String : goal.returns-in-String-String
unfolding val_cmp
returns-in-String-String c =
    rw (← c.self.view_is, ← c.other.view_is, c.in-String-String.is-0, c.in-String-String.is-1) (c.is_eq-in-String-String.ensures ∙ ap is_eq c.cmp-in-String-String.ensures)

pub returns-in-Model-Model : goal.returns-in-Model-Model
unfolding val_cmp
returns-in-Model-Model c =
    rw (← c.self.view_is, ← c.other.view_is, c.in-Model-Model.is-0, c.in-Model-Model.is-1) (c.is_eq-in-Model-Model.ensures ∙ ap is_eq c.cmp-in-Model-Model.ensures)
