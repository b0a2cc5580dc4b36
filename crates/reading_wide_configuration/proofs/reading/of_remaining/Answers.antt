use Rattle.std.proofs.Common.{◌≡◌, ◌∙◌, subst, sym}
use Rattle.reading_trees.specs.Laid.{EndsOnce}
use Rattle.reading_wide_configuration.specs.Passed.{remaining}
use Rattle.reading_wide_configuration.proofs.Outcomes.{refused_remaining, told_remaining}
use Rattle.reading_wide_configuration.proofs.Remaining.{remaining_ends}
use Rattle.reading_wide_configuration.proofs.reading.of_remaining.Goals as goal

pub of_tokens-requires : goal.of_tokens-requires
of_tokens-requires c =
    let left : c.deref.result.now ≡ remaining c.args.tokens.now = c.deref.ensures.value ∙ c.in_ok-passed.ensures.tokens in
    subst EndsOnce (sym left) (remaining_ends c.args.tokens.now c.requires)

pub returns-in-Ok : goal.returns-in-Ok
returns-in-Ok c =
    told_remaining c.args.name.now c.args.tokens.now c.deref.result.now c.in_ok-passed.passed.lines c.in-Ok.config c.told_behind.result
    (c.deref.ensures.value ∙ c.in_ok-passed.ensures.tokens) c.in_ok-passed.ensures.lines c.in-Ok.ensures c.told_behind.ensures

pub returns : goal.returns
returns c =
    refused_remaining c.args.name.now c.args.tokens.now c.deref.result.now c.in-Err.fault (c.deref.ensures.value ∙ c.in_ok-passed.ensures.tokens) c.in-Err.ensures
