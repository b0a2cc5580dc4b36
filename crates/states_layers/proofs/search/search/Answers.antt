use Rattle.std.proofs.Common.{◌≡◌, ◌+◌, ◌-◌, length, arith, add-one, subst, sym, ℕ, List}
use Rattle.states_core.specs.Runs.{Run}
use Rattle.states_layers.specs.Kept.{Kept}
use Rattle.states_layers.specs.declared.node.Move.TheVariants.{Go}
use Rattle.states_layers.proofs.AnswerLaws.{explained, stuck, behind_same, line_starts}
use Rattle.states_layers.proofs.LastLaws.{some_at, links_take, reached_take, front_run}
use Rattle.states_layers.proofs.search.search.Goals as goal

pub unexplained-requires-clause-stuck : goal.unexplained-requires-clause-stuck
unexplained-requires-clause-stuck g c =
    let y = g.S.Steps.system c.args.steps.now in
    let b = c.in_ok-widest-2.ensures.behind in
    let same : length c.advance.new.nodes.items ≡ length c.wait.new.nodes.items = omega arith in
    stuck y c.loop-line.line c.loop-line.start c.wait.new.nodes.items c.advance.new.nodes.items c.in_ok-widest.widest c.in_ok-widest-2.widest
    c.in_ok-widest.ensures.kept c.in_ok-widest.ensures.starts c.in_ok-widest-2.ensures.kept b same
    (behind_same y (Go c.loop-line.line) c.wait.new.nodes.items c.advance.new.nodes.items same b)

pub loop-line-preserved : goal.loop-line-preserved
loop-line-preserved g c =
    let y = g.S.Steps.system c.args.steps.now in
    let end : c.len-end.result ≡ length c.wait.new.nodes.items = omega arith in
    record {
      kept = rw add-one c.in_ok-widest-2.ensures.kept;
      starts = line_starts y c.loop-line.line _ c.len-end.result c.wait.new.nodes.items c.advance.new.nodes.items c.in_ok-widest-2.ensures.behind
          c.in_ok-widest.ensures.kept.list (λ e. c.if-len-end.false (omega (arith, e))) end;
      upto = omega arith;
    }

pub read_back-requires-clause-links : goal.read_back-requires-clause-links
read_back-requires-clause-links g c =
    rw c.truncate.ensures.items
    (links_take (g.S.Steps.system c.args.steps.now) c.loop-line.nodes.items (c.loop-line.start + 1) c.loop-line.invariant.kept.links)

pub read_back-requires-clause-reached : goal.read_back-requires-clause-reached
read_back-requires-clause-reached g c =
    rw c.truncate.ensures.items
    (reached_take (g.S.Steps.system c.args.steps.now) c.loop-line.nodes.items (c.loop-line.start + 1) c.loop-line.line 0 c.loop-line.invariant.kept.list)

pub returns-clause-answered : goal.returns-clause-answered
returns-clause-answered g c =
    let y = g.S.Steps.system c.args.steps.now in
    let upto = c.loop-line.invariant.upto in
    let all : c.loop-line.line ≡ y.count = omega (arith, c.count-count.ensures) in
    let whole = c.loop-line.invariant.starts.whole in
    let x = some_at c.loop-line.nodes.items c.loop-line.start whole.some in
    let r = front_run y c.loop-line.line c.loop-line.start c.loop-line.nodes.items x.0 c.in_ok-behaviour.behaviour whole x.1
    (rw c.truncate.ensures.items at c.in_ok-behaviour.ensures) in
    explained y c.loop-line.nodes.items c.loop-line.widest c.in_ok-behaviour.behaviour x.0.entry
    (subst (λ (n : ℕ). Kept y n 0 c.loop-line.nodes.items c.loop-line.widest) all c.loop-line.invariant.kept)
    (subst (λ (n : ℕ). Run y n 0 x.0.entry c.in_ok-behaviour.behaviour) all r)
