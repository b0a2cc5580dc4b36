use Rattle.std.proofs.Common.{◌<◌, arith, subst, sym, ℕ, length}
use Rattle.std.proofs.lemmas.Result.{IfOk-weaker}
use Rattle.std.specs.Prelude.{All}
use Rattle.steps_lines_defs.specs.Asks.{Moves}
use Rattle.steps_lines_defs.specs.Says.{IsState}
use Rattle.steps_ready_defs.specs.Ready.{IsReadyLine}
use Rattle.judge_pairs.proofs.Lines.{line_has, line_tests}
use Rattle.judge_pairs.proofs.pairs.SpecPairsPairs.moves.Goals as goal

pub lead-requires-clause-few : goal.lead-requires-clause-few
lead-requires-clause-few c = let long = c.requires.from.long in let few = c.requires.ready.spec.ordered.few in omega (arith, long, few)

pub lead-requires-clause-within : goal.lead-requires-clause-within
lead-requires-clause-within c =
    let s = c.args.self.now in
    let l = c.line_of-line.result.now in
    let fits = line_has s.log.now.lines c.args.line l c.line_of-line.ensures (IsReadyLine s.spec.now) c.requires.ready.lines in
    subst (λ (n : ℕ). All (λ u. u.path.variable.0 < n) l.updates) (sym c.requires.from.long) fits.updates

pub lead-requires-clause-state : goal.lead-requires-clause-state
lead-requires-clause-state c = subst (λ (n : ℕ). IsState n c.args.to.now) (sym c.requires.from.long) c.requires.to

pub returns : goal.returns
returns c =
    let s = c.args.self.now in
    IfOk-weaker c.lead.result _ _
    (λ b h. line_tests s.log.now.lines c.args.line c.line_of-line.result.now c.line_of-line.ensures (λ l. IsState (length s.spec.now.variables) c.args.to.now × Moves l.updates c.args.from.now c.args.to.now) b
    (λ y. (c.requires.to, h.0 y), λ m. h.1 m.1)) c.lead.ensures
