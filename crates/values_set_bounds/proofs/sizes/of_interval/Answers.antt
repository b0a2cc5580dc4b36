use Rattle.std.proofs.Common.{rules, FitsSigned}
use Rattle.std.specs.Int.{w64}
use Rattle.std.specs.Int.Signed.{lt_z_yes}
use Rattle.std.proofs.lemmas.Int.{to_z-of_z}
use Rattle.values_set_bounds.proofs.Listed.{interval_within, none_within}
use Rattle.values_set_bounds.proofs.sizes.of_interval.Goals as goal

pub returns-then-first-last : goal.returns-then-first-last
returns-then-first-last c =
    let first : FitsSigned w64 c.args.first = search rules in
    let last : FitsSigned w64 c.args.last = search rules in
    let tested = rw (to_z-of_z w64 c.args.first first, to_z-of_z w64 c.args.last last) at c.if-first-last.true in
    none_within c.args.first c.args.last first last (lt_z_yes (rw tested tt))

pub returns-in-Some : goal.returns-in-Some
returns-in-Some c =
    let first : FitsSigned w64 c.args.first = search rules in
    let last : FitsSigned w64 c.args.last = search rules in
    let counted = rw (to_z-of_z w64 c.args.first first, to_z-of_z w64 c.args.last last) at c.in-Some.ensures in
    interval_within c.args.first c.args.last c.in-Some.count first last counted.0 counted.1
