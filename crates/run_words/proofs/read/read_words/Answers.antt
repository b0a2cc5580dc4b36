use Rattle.std.proofs.Common.{◌≡◌, ◌∙◌, sym, ap, subst, List, ◌∷◌, take, drop, length, ◌-◌}
use Rattle.std.specs.Prelude.{codes}
use Rattle.run_words.specs.Line.{Text, words_of}
use Rattle.run_words.specs.Words.{Reads}
use Rattle.run_words.proofs.JobLaws.{read_meets}
use Rattle.run_words.proofs.ReadLaws.{first_and_rest}
use Rattle.run_words.proofs.read.read_words.Goals as goal

pub returns-in-validate : goal.returns-in-validate
returns-in-validate c =
    let ws = words_of c.args.words.now in
    let rest = words_of (take (length c.args.words.now - 1) (drop 1 c.args.words.now)) in
    let all : ws ≡ codes "validate" ∷ rest =
    first_and_rest c.args.words.now c.first-item.result c.in-len1-up.len_at_least c.first-item.is
    ∙ ap (λ (t : Text). t ∷ rest) (sym c.as_str.ensures.value ∙ c.in-validate.is) in
    let read = subst (λ (ts : List Text). Reads ts c.validate.result) (sym all) c.validate.ensures in
    record { reads = read; meets = read_meets ws c.validate.result read }

pub returns-in-check : goal.returns-in-check
returns-in-check c =
    let ws = words_of c.args.words.now in
    let rest = words_of (take (length c.args.words.now - 1) (drop 1 c.args.words.now)) in
    let all : ws ≡ codes "check" ∷ rest =
    first_and_rest c.args.words.now c.first-item.result c.in-len1-up.len_at_least c.first-item.is
    ∙ ap (λ (t : Text). t ∷ rest) (sym c.as_str.ensures.value ∙ c.in-check.is) in
    let read = subst (λ (ts : List Text). Reads ts c.check.result) (sym all) c.check.ensures in
    record { reads = read; meets = read_meets ws c.check.result read }

pub returns-in-selfrun : goal.returns-in-selfrun
returns-in-selfrun c =
    let ws = words_of c.args.words.now in
    let rest = words_of (take (length c.args.words.now - 1) (drop 1 c.args.words.now)) in
    let all : ws ≡ codes "selfrun" ∷ rest =
    first_and_rest c.args.words.now c.first-item.result c.in-len1-up.len_at_least c.first-item.is
    ∙ ap (λ (t : Text). t ∷ rest) (sym c.as_str.ensures.value ∙ c.in-selfrun.is) in
    let read = subst (λ (ts : List Text). Reads ts c.selfrun.result) (sym all) c.selfrun.ensures in
    record { reads = read; meets = read_meets ws c.selfrun.result read }
