use Rattle.std.proofs.Common.{◌+◌, sym, subst, List}
use Rattle.logs_updates.specs.declared.update.See.{See}
use Rattle.std.specs.Prelude.{All}
use Rattle.steps_why_branches.specs.declared.why.Ended.{Ended}
use Rattle.steps_why_not.specs.Taken.{Lacks}
use Rattle.steps_why_not.specs.Whys.{AreReasons}
use Rattle.steps_why_not.proofs.Answering.{lacking, whys_are, whys_show, whys_some}
use Rattle.steps_why_not.proofs.asking.first_whys.Goals as goal

pub reasons-requires : goal.reasons-requires
reasons-requires c =
    let line = c.args.line.now in
    let all = lacking c.orderly_law.ensures c.whole_law.ensures c.args.spec.now c.requires.ready line c.requires.fits c.args.state.now c.requires.state c.args.places c.requires.updated c.requires.none
    (c.args.most + 1) c.args.most c.in_ok-ends.ends.items c.cut-more.new.ends.items c.in_ok-ends.ensures c.cut-more.ensures.kept in
    subst (λ (ns : List Ended). All (Lacks c.items.result.now) ns) (sym c.deref.ensures.value) (subst (λ (sees : List See). All (Lacks sees) c.cut-more.new.ends.items) (sym c.items.ensures) all)

pub returns-clause-list : goal.returns-clause-list
returns-clause-list c =
    let line = c.args.line.now in
    let e = c.in_ok-ends.ensures in
    let f = e.2.found in
    let reasons = subst (λ (ns : List Ended). AreReasons line.sees ns c.in_ok-list.list.items) c.deref.ensures.value (subst (λ (sees : List See). AreReasons sees c.deref.result.now c.in_ok-list.list.items) c.items.ensures c.in_ok-list.ensures) in
    whys_are c.args.spec.now line c.args.state.now c.requires.state c.args.places c.requires.updated c.requires.exact e.0 e.1 c.args.most f.0 f.1 c.in_ok-ends.ends.items c.cut-more.new.ends.items f.2 c.cut-more.result c.cut-more.ensures.kept c.cut-more.ensures.more c.in_ok-list.list.items reasons

pub returns-clause-some : goal.returns-clause-some
returns-clause-some c =
    let line = c.args.line.now in
    let e = c.in_ok-ends.ensures in
    let f = e.2.found in
    let reasons = subst (λ (ns : List Ended). AreReasons line.sees ns c.in_ok-list.list.items) c.deref.ensures.value (subst (λ (sees : List See). AreReasons sees c.deref.result.now c.in_ok-list.list.items) c.items.ensures c.in_ok-list.ensures) in
    whys_some c.args.spec.now line c.args.state.now c.requires.state c.args.places c.requires.updated c.requires.exact e.0 e.1 c.args.most f.0 f.1 c.in_ok-ends.ends.items c.cut-more.new.ends.items f.2 c.cut-more.result c.cut-more.ensures.kept c.cut-more.ensures.more c.in_ok-list.list.items reasons c.requires.most

pub returns-clause-shows : goal.returns-clause-shows
returns-clause-shows c =
    let line = c.args.line.now in
    let e = c.in_ok-ends.ensures in
    let f = e.2.found in
    let reasons = subst (λ (ns : List Ended). AreReasons line.sees ns c.in_ok-list.list.items) c.deref.ensures.value (subst (λ (sees : List See). AreReasons sees c.deref.result.now c.in_ok-list.list.items) c.items.ensures c.in_ok-list.ensures) in
    whys_show c.args.spec.now line c.args.state.now c.requires.state c.args.places c.requires.updated c.requires.exact e.0 e.1 c.args.most f.0 f.1 c.in_ok-ends.ends.items c.cut-more.new.ends.items f.2 c.cut-more.result c.cut-more.ensures.kept c.cut-more.ensures.more c.in_ok-list.list.items reasons
