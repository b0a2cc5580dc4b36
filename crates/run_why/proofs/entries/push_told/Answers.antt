use Rattle.run_texts.specs.Answers.{named}
use Rattle.std.proofs.Common.{rules, ◌≡◌, length, string_bytes}
use Rattle.run_why.proofs.Counting.{whys_few}
use Rattle.run_why.proofs.SoFar.{told_cut, told_whole}
use Rattle.run_why.proofs.entries.push_told.Goals as goal

pub returns-then-whys : goal.returns-then-whys
returns-then-whys c =
    let a = c.args in
    let w = c.in_ok-whys.whys in
    told_cut a.subject.spec.now a.subject.line.now (named a.labels.now) a.most a.entry.now c.deref.result.now w.list.items w.more (string_bytes a.text.now)
    (string_bytes c.push_entry.new.text) (string_bytes c.push_whys.new.text) c.in_ok-whys.ensures.list c.deref.ensures.value c.in_ok-push_entry.ensures c.in_ok-push_whys.ensures
    (string_bytes c.push_more.new.text) c.if-whys.true c.in_ok-push_more.ensures

pub returns : goal.returns
returns c =
    let a = c.args in
    let w = c.in_ok-whys.whys in
    let few = whys_few a.subject.spec.now a.subject.line.now a.entry.now a.most w.list.items w.more c.requires.most c.in_ok-whys.ensures.list in
    let long : c.len.result ≡ length w.list.items = search (rules, c.len.ensures) in
    told_whole a.subject.spec.now a.subject.line.now (named a.labels.now) a.most a.entry.now c.deref.result.now w.list.items w.more (string_bytes a.text.now)
    (string_bytes c.push_entry.new.text) (string_bytes c.push_whys.new.text) c.in_ok-whys.ensures.list c.deref.ensures.value c.in_ok-push_entry.ensures c.in_ok-push_whys.ensures
    c.len.result c.if-whys.false long few
