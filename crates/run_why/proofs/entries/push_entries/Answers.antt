use Rattle.std.proofs.Common.{◌≤◌, arith, drop, string_bytes, subst, ◌+◌, Option, ℕ}
use Rattle.run_texts.specs.Answers.{named}
use Rattle.run_why.specs.Telling.{IsTold}
use Rattle.run_why.proofs.SoFar.{ended_all, ended_cut, ended_full_on, entry_first, gone_on}
use Rattle.run_why.proofs.entries.push_entries.Goals as goal

pub returns-then-left-eq0 : goal.returns-then-left-eq0
returns-then-left-eq0 c =
    let a = c.args in
    let i = c.loop-entry.entry-index in
    let s = c.entry-item.result in
    ended_full_on a.subject.spec.now a.subject.line.now (named a.labels.now) a.most a.entries.now (string_bytes a.text.now) c.push_more.result c.loop-entry.left s (drop (i + 1) a.entries.now)
    (drop i a.entries.now) (string_bytes c.loop-entry.text) (string_bytes c.push_more.new.text) (entry_first a.entries.now i s c.loop-entry-test.true c.entry-item.is) c.if-left-eq0.true
    c.loop-entry.invariant c.push_more.ensures

pub returns-in-None : goal.returns-in-None
returns-in-None c =
    let a = c.args in
    let i = c.loop-entry.entry-index in
    let s = c.entry-item.result in
    let some : 1 ≤ c.loop-entry.left = omega (arith, c.if-left-eq0.false) in
    let told = subst (λ (o : Option ℕ). IsTold a.subject.spec.now a.subject.line.now (named a.labels.now) c.loop-entry.left s o (string_bytes c.loop-entry.text) (string_bytes c.push_told.new.text))
    c.in-None.is c.in_ok-rest.ensures in
    ended_cut a.subject.spec.now a.subject.line.now (named a.labels.now) a.most a.entries.now (string_bytes a.text.now) c.loop-entry.left s (drop (i + 1) a.entries.now)
    (drop i a.entries.now) (string_bytes c.loop-entry.text) (string_bytes c.push_told.new.text) (entry_first a.entries.now i s c.loop-entry-test.true c.entry-item.is) some
    c.loop-entry.invariant told

pub loop-entry-preserved : goal.loop-entry-preserved
loop-entry-preserved c =
    let a = c.args in
    let i = c.loop-entry.entry-index in
    let s = c.entry-item.result in
    let some : 1 ≤ c.loop-entry.left = omega (arith, c.if-left-eq0.false) in
    let told = subst (λ (o : Option ℕ). IsTold a.subject.spec.now a.subject.line.now (named a.labels.now) c.loop-entry.left s o (string_bytes c.loop-entry.text) (string_bytes c.push_told.new.text))
    c.in-Some.is c.in_ok-rest.ensures in
    gone_on a.subject.spec.now a.subject.line.now (named a.labels.now) a.most a.entries.now (string_bytes a.text.now) c.loop-entry.left c.in-Some.rest s (drop (i + 1) a.entries.now)
    (drop i a.entries.now) (string_bytes c.loop-entry.text) (string_bytes c.push_told.new.text) (entry_first a.entries.now i s c.loop-entry-test.true c.entry-item.is) some
    c.loop-entry.invariant told

pub returns : goal.returns
returns c =
    let a = c.args in
    ended_all a.subject.spec.now a.subject.line.now (named a.labels.now) a.most a.entries.now (string_bytes a.text.now) c.loop-entry.left c.loop-entry.entry-index
    (string_bytes c.loop-entry.text) (omega (arith, c.loop-entry-test.false, c.loop-entry.auto)) c.loop-entry.invariant
