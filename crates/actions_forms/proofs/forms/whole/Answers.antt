use Rattle.std.proofs.Common.{◌∙◌, ap}
use Rattle.names_terms.specs.Terms.{place_of}
use Rattle.actions_meanings.specs.Outcomes.{not_fixed}
use Rattle.actions_early_reads.specs.Sets.{shown}
use Rattle.actions_forms.specs.Says.{setting}
use Rattle.actions_forms.proofs.Said.{whole-fixed, whole-lacks, whole-stop}
use Rattle.actions_forms.proofs.forms.whole.Goals as goal

pub returns-in-None : goal.returns-in-None
returns-in-None c =
    whole-fixed (setting c.args.which c.args.variables c.args.operators.now) c.args.term.now (shown c.args.before) c.in-Ok.set c.least_missing.result c.not_fixed.result c.least_missing.ensures
    (c.not_fixed.ensures ∙ ap (λ p. not_fixed p c.least_missing.result) (ap place_of c.term.view_is)) c.in-None.is c.in-Ok.ensures

pub returns-in-Some : goal.returns-in-Some
returns-in-Some c =
    whole-lacks (setting c.args.which c.args.variables c.args.operators.now) c.args.term.now (shown c.args.before) c.in-Ok.set c.least_missing.result c.not_fixed.result c.in-Some.fault c.least_missing.ensures
    (c.not_fixed.ensures ∙ ap (λ p. not_fixed p c.least_missing.result) (ap place_of c.term.view_is)) c.in-Some.is c.in-Ok.ensures

pub returns-in-Err : goal.returns-in-Err
returns-in-Err c = whole-stop (setting c.args.which c.args.variables c.args.operators.now) c.args.term.now (shown c.args.before) c.in-Err.fault c.in-Err.ensures
