use Rattle.std.proofs.Common.{◌≡◌, ◌∙◌, ap, [], ◌∷◌, ◌++◌, length, false, true, subst}
use Rattle.names_term_levels.specs.Conjuncts.{Takes, contribution_of}
use Rattle.names_term_levels.specs.Shape.{rows, contribution}
use Rattle.names_term_levels.proofs.Conjuncts.{gathering_begins, gathering_ends, rows-push, stops, takes_less, takes_on, top_is_below}
use Rattle.names_term_levels.proofs.Noted.{popped_nothing}
use Rattle.names_term_levels.proofs.gathering.gather.Goals as goal

pub take-requires-clause-below : goal.take-requires-clause-below
take-requires-clause-below c =
    top_is_below c.args.table.now (length c.args.notes.now) c.args.body.now c.in-Some.term.now (rows c.loop-term.stack.items) (rows c.pop.new.self.items) (contribution_of c.loop-term.gathered) (ap rows c.in-Some.ensures.items ∙ rows-push c.pop.new.self.items c.in-Some.term) c.loop-term.invariant

pub returns-then-not-branch : goal.returns-then-not-branch
returns-then-not-branch c =
    let b : c.in_ok-take.field-0 ≡ false = c.if-not-branch.true in
    stops c.args.table.now (length c.args.notes.now) c.args.body.now c.in-Some.term.now (rows c.loop-term.stack.items) (rows c.pop.new.self.items) (contribution_of c.loop-term.gathered) (ap rows c.in-Some.ensures.items ∙ rows-push c.pop.new.self.items c.in-Some.term) c.loop-term.invariant
    (subst (λ y. Takes c.args.table.now c.in-Some.term.now y (rows c.pop.new.self.items) (rows c.take.new.stack.items) (contribution_of c.loop-term.gathered) (contribution_of c.take.new.gathered)) b c.in_ok-take.ensures)

pub loop-term-smaller : goal.loop-term-smaller
loop-term-smaller c =
    let b : c.in_ok-take.field-0 ≡ true = c.if-not-branch.false in
    let t = subst (λ y. Takes c.args.table.now c.in-Some.term.now y (rows c.pop.new.self.items) (rows c.take.new.stack.items) (contribution_of c.loop-term.gathered) (contribution_of c.take.new.gathered)) b c.in_ok-take.ensures in
    takes_less c.args.table.now c.in-Some.term.now (rows c.loop-term.stack.items) (rows c.pop.new.self.items) (rows c.take.new.stack.items) (contribution_of c.loop-term.gathered) (contribution_of c.take.new.gathered) t.0 (ap rows c.in-Some.ensures.items ∙ rows-push c.pop.new.self.items c.in-Some.term) t.1 t.2

pub loop-term-preserved : goal.loop-term-preserved
loop-term-preserved c =
    let b : c.in_ok-take.field-0 ≡ true = c.if-not-branch.false in
    let t = subst (λ y. Takes c.args.table.now c.in-Some.term.now y (rows c.pop.new.self.items) (rows c.take.new.stack.items) (contribution_of c.loop-term.gathered) (contribution_of c.take.new.gathered)) b c.in_ok-take.ensures in
    takes_on c.args.table.now (length c.args.notes.now) c.args.body.now c.in-Some.term.now (rows c.loop-term.stack.items) (rows c.pop.new.self.items) (contribution_of c.loop-term.gathered) (ap rows c.in-Some.ensures.items ∙ rows-push c.pop.new.self.items c.in-Some.term) c.loop-term.invariant (rows c.take.new.stack.items) (contribution_of c.take.new.gathered) t.0 t.1 t.2

pub loop-term-init : goal.loop-term-init
loop-term-init c =
    gathering_begins c.args.table.now (length c.args.notes.now) c.args.body.now (rows c.push.new.self.items) _ (ap rows c.in_ok-push.ensures.items ∙ ap (λ xs. rows (xs ++ c.args.body ∷ [])) c.new-stack.ensures.items) (ap (λ xs. contribution (rows xs) (rows c.new-2.result.items)) c.new.ensures.items ∙ ap (λ xs. contribution [] (rows xs)) c.new-2.ensures.items) c.requires.below

pub returns : goal.returns
returns c =
    gathering_ends c.args.table.now (length c.args.notes.now) c.args.body.now (rows c.loop-term.stack.items) (contribution_of c.loop-term.gathered) (ap rows (popped_nothing c.loop-term.stack.items c.pop.new.self.items _ c.in_default.ensures.items c.in_default.ensures.rest c.in_default.ensures.cases.0)) c.loop-term.invariant
