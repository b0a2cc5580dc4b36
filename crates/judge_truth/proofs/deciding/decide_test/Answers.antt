use Rattle.std.proofs.Common.{◌≡◌, ℕ, suc, ◌+◌, subst, arith}
use Rattle.eval_meanings.specs.Answers.{Tells}
use Rattle.eval_meanings.specs.Evaluates.{Evaluates}
use Rattle.eval_meanings.specs.Unchanged.{TruthOf}
use Rattle.eval_meanings.specs.Reads.{Reads}
use Rattle.actions_rows.specs.Rows.{part_term}
use Rattle.judge_truth.specs.Pairs.{at, setting}
use Rattle.judge_truth.proofs.Taken.{test_decided, test_read, tested_part}
use Rattle.judge_truth.proofs.deciding.decide_test.Goals as goal

pub part_truth-requires : goal.part_truth-requires
part_truth-requires c =
    let s = c.args.pair in
    let d = c.args.depth in
    let q = c.args.part in
    let more : suc c.args.depth ≡ c.args.depth + 1 = omega arith in
    record { read = subst (λ (n : ℕ). Reads (setting s).table n (at s) (part_term q)) more (test_read s d q c.requires.form c.requires.ready); tested = tested_part s q c.requires.form }

pub returns : goal.returns
returns c =
    let s = c.args.pair in
    let d = c.args.depth in
    let q = c.args.part in
    let r = c.part_truth.result in
    let less : c.args.depth + 1 ≡ suc c.args.depth = omega arith in
    let told = subst (λ (n : ℕ). Tells r (TruthOf (Evaluates (setting s).table n) (at s) (part_term q))) less c.part_truth.ensures in
    test_decided s d q r c.requires.form c.requires.ready told
