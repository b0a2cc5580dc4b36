use Rattle.std.proofs.Common.{◌≡◌, ℕ, List, length, ap, sym, subst, arith}
use Rattle.steps_tied.specs.Tied.{CutState}
use Rattle.steps_cut_source.specs.Listing.{GivesBelow}
use Rattle.steps_cut_source.specs.Spoken.{AreListed, spoken}
use Rattle.steps_cut_source.proofs.Adding.{none_listed}
use Rattle.steps_cut_source.proofs.Untied.{untied}
use Rattle.steps_cut_source.proofs.listing.ready_steps.Goals as goal

pub loop-file-init : goal.loop-file-init
loop-file-init c =
    let s = c.args.steps.now in
    let none = c.new-made.ensures.items in
    let long = ap length none in (
      record {
        gives = subst (λ (xs : List CutState). GivesBelow (spoken s) s.logs.now.files.items s.logs.now.order c.args.from.now 0 xs) (sym none)
            (none_listed (spoken s) s.logs.now.files.items s.logs.now.order (untied s.logs.now s.tied).made c.args.from.now);
      },
      omega (arith, long),
    )

pub add_steps-requires-clause-below : goal.add_steps-requires-clause-below
add_steps-requires-clause-below c = c.loop-file.invariant.0

pub loop-file-preserved : goal.loop-file-preserved
loop-file-preserved c = (c.in_ok-more.ensures.all, c.in_ok-more.ensures.few)

pub returns-clause-all : goal.returns-clause-all
returns-clause-all c =
    let test = c.loop-file-test.false in
    let end = c.loop-file.auto.file-end in
    let all : c.loop-file.file ≡ length c.args.steps.now.logs.now.files.items = omega (arith, test, end) in
    subst (λ (n : ℕ). AreListed c.args.steps.now c.args.from.now n c.loop-file.made.items) all c.loop-file.invariant.0
