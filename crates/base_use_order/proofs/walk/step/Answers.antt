use Rattle.std.proofs.Common.{◌≡◌, ◌∷◌, length, reverse, get_or, sym, ◌∙◌, subst, refl, arith}
use Rattle.std.proofs.lemmas.List.{length-map, get_or_read_under}
use Rattle.base_use_order.specs.declared.walk.Mark.TheVariants.{New, Open, Done}
use Rattle.base_use_order.specs.declared.walk.Task.{Task}
use Rattle.base_use_order.specs.Uses.{table_of}
use Rattle.base_use_order.specs.Walks.{InTurn, Stands}
use Rattle.base_use_order.proofs.Walking.{task_within, entered, enter_falls, was_left, leave_falls, passes_by, comes_back}
use Rattle.base_use_order.proofs.Turning.{none_in_order, in_turn_by, in_turn_in, in_turn_out}
use Rattle.base_use_order.proofs.walk.step.Goals as goal

pub index-requires : goal.index-requires
index-requires c =
    let tasks = reverse c.args.walk.now.tasks.items in
    let marks = c.args.walk.now.marks in
    let s = subst (λ (t : Task). Stands (table_of c.args.uses.now) marks.items c.args.walk.now.order.items (t ∷ tasks)) c.in-Enter.is c.requires.stands in
    omega (arith, task_within _ _ _ _ _ s, marks.ok.0)

pub used_of-requires : goal.used_of-requires
used_of-requires c =
    let tasks = reverse c.args.walk.now.tasks.items in
    let marks = c.args.walk.now.marks in
    let s = subst (λ (t : Task). Stands (table_of c.args.uses.now) marks.items c.args.walk.now.order.items (t ∷ tasks)) c.in-Enter.is c.requires.stands in
    omega (arith, task_within _ _ _ _ _ s, s.sizes, length-map c.args.uses.now (λ v. v.items))

pub enter-requires : goal.enter-requires
enter-requires c =
    let tasks = reverse c.args.walk.now.tasks.items in
    let marks = c.args.walk.now.marks in
    let s = subst (λ (t : Task). Stands (table_of c.args.uses.now) marks.items c.args.walk.now.order.items (t ∷ tasks)) c.in-Enter.is c.requires.stands in
    task_within _ _ _ _ _ s

pub leave-requires : goal.leave-requires
leave-requires c =
    let tasks = reverse c.args.walk.now.tasks.items in
    let marks = c.args.walk.now.marks in
    let s = subst (λ (t : Task). Stands (table_of c.args.uses.now) marks.items c.args.walk.now.order.items (t ∷ tasks)) c.in-Leave.is c.requires.stands in
    task_within _ _ _ _ _ s

pub returns-in_ok-enter-in-New-clause-stands : goal.returns-in_ok-enter-in-New-clause-stands
returns-in_ok-enter-in-New-clause-stands c =
    let uses = table_of c.args.uses.now in
    let old = c.args.walk.now.tasks.items in
    let marks = c.args.walk.now.marks.items in
    let order = c.args.walk.now.order.items in
    let a = c.in-Enter.definition in
    let walk = c.enter.new.walk in
    let s = subst (λ (t : Task). Stands uses marks order (t ∷ reverse old)) c.in-Enter.is c.requires.stands in
    let mark : get_or marks a New ≡ New = sym (get_or_read_under marks a (length marks) c.index.result.now New c.index.ensures (task_within _ _ _ _ _ s) refl) ∙ c.in-New.is in
    let e = c.in_ok-enter-in-New.ensures in
    entered uses marks order old a c.used_of.result.now c.used_of.ensures walk.tasks.items e.tasks s mark c.requires.within walk.marks.items walk.order.items e.marks e.order

pub returns-in_ok-enter-in-New-clause-falls : goal.returns-in_ok-enter-in-New-clause-falls
returns-in_ok-enter-in-New-clause-falls c =
    let uses = table_of c.args.uses.now in
    let old = c.args.walk.now.tasks.items in
    let marks = c.args.walk.now.marks.items in
    let order = c.args.walk.now.order.items in
    let a = c.in-Enter.definition in
    let walk = c.enter.new.walk in
    let s = subst (λ (t : Task). Stands uses marks order (t ∷ reverse old)) c.in-Enter.is c.requires.stands in
    let mark : get_or marks a New ≡ New = sym (get_or_read_under marks a (length marks) c.index.result.now New c.index.ensures (task_within _ _ _ _ _ s) refl) ∙ c.in-New.is in
    let e = c.in_ok-enter-in-New.ensures in
    enter_falls uses marks order old a c.used_of.result.now c.used_of.ensures walk.tasks.items e.tasks s.sizes (task_within _ _ _ _ _ s) mark walk.marks.items e.marks

pub returns-in-Open-clause-stands : goal.returns-in-Open-clause-stands
returns-in-Open-clause-stands c =
    let uses = table_of c.args.uses.now in
    let tasks = reverse c.args.walk.now.tasks.items in
    let marks = c.args.walk.now.marks.items in
    let order = c.args.walk.now.order.items in
    let a = c.in-Enter.definition in
    let s = subst (λ (t : Task). Stands uses marks order (t ∷ tasks)) c.in-Enter.is c.requires.stands in
    let mark : get_or marks a New ≡ Open = sym (get_or_read_under marks a (length marks) c.index.result.now New c.index.ensures (task_within _ _ _ _ _ s) refl) ∙ c.in-Open.is in
    comes_back uses marks order tasks a s mark

pub returns-in-Done-clause-stands : goal.returns-in-Done-clause-stands
returns-in-Done-clause-stands c =
    let uses = table_of c.args.uses.now in
    let tasks = reverse c.args.walk.now.tasks.items in
    let marks = c.args.walk.now.marks.items in
    let order = c.args.walk.now.order.items in
    let a = c.in-Enter.definition in
    let s = subst (λ (t : Task). Stands uses marks order (t ∷ tasks)) c.in-Enter.is c.requires.stands in
    let mark : get_or marks a New ≡ Done = sym (get_or_read_under marks a (length marks) c.index.result.now New c.index.ensures (task_within _ _ _ _ _ s) refl) ∙ c.in-Done.is in
    passes_by uses marks order tasks a s mark

pub returns-in_ok-leave-in-Leave-clause-stands : goal.returns-in_ok-leave-in-Leave-clause-stands
returns-in_ok-leave-in-Leave-clause-stands c =
    let uses = table_of c.args.uses.now in
    let old = c.args.walk.now.tasks.items in
    let marks = c.args.walk.now.marks.items in
    let order = c.args.walk.now.order.items in
    let walk = c.leave.new.walk in
    let s = subst (λ (t : Task). Stands uses marks order (t ∷ reverse old)) c.in-Leave.is c.requires.stands in
    let e = c.in_ok-leave-in-Leave.ensures in
    was_left uses marks order old c.in-Leave.definition walk.marks.items walk.order.items walk.tasks.items e.marks e.order e.tasks s

pub returns-in_ok-leave-in-Leave-clause-falls : goal.returns-in_ok-leave-in-Leave-clause-falls
returns-in_ok-leave-in-Leave-clause-falls c =
    let walk = c.leave.new.walk in
    let e = c.in_ok-leave-in-Leave.ensures in
    leave_falls (table_of c.args.uses.now) c.args.walk.now.marks.items c.args.walk.now.order.items c.args.walk.now.tasks.items c.in-Leave.definition walk.marks.items walk.order.items walk.tasks.items e.marks e.order e.tasks

pub returns-in_ok-enter-in-New-clause-in_turn : goal.returns-in_ok-enter-in-New-clause-in_turn
returns-in_ok-enter-in-New-clause-in_turn c =
    let uses = table_of c.args.uses.now in
    let n = length c.args.uses.now in
    let old = c.args.walk.now.tasks.items in
    let marks = c.args.walk.now.marks.items in
    let order = c.args.walk.now.order.items in
    let a = c.in-Enter.definition in
    let walk = c.enter.new.walk in
    let s = subst (λ (t : Task). Stands uses marks order (t ∷ reverse old)) c.in-Enter.is c.requires.stands in
    let mark : get_or marks a New ≡ New = sym (get_or_read_under marks a (length marks) c.index.result.now New c.index.ensures (task_within _ _ _ _ _ s) refl) ∙ c.in-New.is in
    let e = c.in_ok-enter-in-New.ensures in
    λ up turn. in_turn_in uses up n marks order a old s mark c.used_of.result.now c.used_of.ensures walk.tasks.items e.tasks walk.order.items e.order
    (subst (λ (t : Task). InTurn n order (t ∷ reverse old)) c.in-Enter.is turn)

pub returns-in-Open-clause-in_turn : goal.returns-in-Open-clause-in_turn
returns-in-Open-clause-in_turn c =
    let uses = table_of c.args.uses.now in
    let tasks = reverse c.args.walk.now.tasks.items in
    let marks = c.args.walk.now.marks.items in
    let order = c.args.walk.now.order.items in
    let a = c.in-Enter.definition in
    let s = subst (λ (t : Task). Stands uses marks order (t ∷ tasks)) c.in-Enter.is c.requires.stands in
    let mark : get_or marks a New ≡ Open = sym (get_or_read_under marks a (length marks) c.index.result.now New c.index.ensures (task_within _ _ _ _ _ s) refl) ∙ c.in-Open.is in
    λ up turn. absurd (none_in_order uses up (comes_back uses marks order tasks a s mark))

pub returns-in-Done-clause-in_turn : goal.returns-in-Done-clause-in_turn
returns-in-Done-clause-in_turn c =
    let uses = table_of c.args.uses.now in
    let n = length c.args.uses.now in
    let tasks = reverse c.args.walk.now.tasks.items in
    let marks = c.args.walk.now.marks.items in
    let order = c.args.walk.now.order.items in
    let a = c.in-Enter.definition in
    let s = subst (λ (t : Task). Stands uses marks order (t ∷ tasks)) c.in-Enter.is c.requires.stands in
    let mark : get_or marks a New ≡ Done = sym (get_or_read_under marks a (length marks) c.index.result.now New c.index.ensures (task_within _ _ _ _ _ s) refl) ∙ c.in-Done.is in
    λ up turn. in_turn_by uses up n marks order a tasks s mark (subst (λ (t : Task). InTurn n order (t ∷ tasks)) c.in-Enter.is turn)

pub returns-in_ok-leave-in-Leave-clause-in_turn : goal.returns-in_ok-leave-in-Leave-clause-in_turn
returns-in_ok-leave-in-Leave-clause-in_turn c =
    let uses = table_of c.args.uses.now in
    let n = length c.args.uses.now in
    let old = c.args.walk.now.tasks.items in
    let order = c.args.walk.now.order.items in
    let walk = c.leave.new.walk in
    let e = c.in_ok-leave-in-Leave.ensures in
    λ up turn. in_turn_out uses up n c.args.walk.now.marks.items order c.in-Leave.definition old walk.order.items walk.tasks.items e.order e.tasks
    (subst (λ (t : Task). InTurn n order (t ∷ reverse old)) c.in-Leave.is turn)
