use Rattle.std.proofs.Common.{◌≡◌, ◌≤◌, List, length, IfOk, subst, sym, arith}
use Rattle.logs_lines.specs.declared.file.FileLines.{FileLines}
use Rattle.logs_files.specs.Logs.{AreFew, IsLogOf, NoneFalls, clocks_in}
use Rattle.logs_files.proofs.OneFile.{sole}
use Rattle.logs_files.proofs.placing.log_of.Goals as goal

pub merged_log-requires-clause-none_falls : goal.merged_log-requires-clause-none_falls
merged_log-requires-clause-none_falls c = subst (λ (fs : List FileLines). NoneFalls (clocks_in fs)) (sym c.as_slice.ensures.value) c.requires.none_falls

pub merged_log-requires-clause-few_files : goal.merged_log-requires-clause-few_files
merged_log-requires-clause-few_files c = subst (λ (fs : List FileLines). length fs ≤ 4294967296) (sym c.as_slice.ensures.value) c.requires.few_files

pub merged_log-requires-clause-few_lines : goal.merged_log-requires-clause-few_lines
merged_log-requires-clause-few_lines c = subst (λ (fs : List FileLines). AreFew (clocks_in fs)) (sym c.as_slice.ensures.value) c.requires.few_lines

pub returns-then-len-ne1 : goal.returns-then-len-ne1
returns-then-len-ne1 c = subst (λ (fs : List FileLines). IfOk c.merged_log.result (IsLogOf fs)) c.as_slice.ensures.value c.merged_log.ensures

pub log_of_one-requires : goal.log_of_one-requires
log_of_one-requires c =
    let one : length c.args.files.items ≡ 1 = omega (arith, c.len.ensures, c.if-len-ne1.false, c.args.files.ok.0) in
    let same = sole c.args.files.items c.pop.new.self.items c.in-Some.file c.in-Some.ensures.items one in
    subst (λ (fs : List FileLines). NoneFalls (clocks_in fs)) same c.requires.none_falls

pub returns : goal.returns
returns c =
    let one : length c.args.files.items ≡ 1 = omega (arith, c.len.ensures, c.if-len-ne1.false, c.args.files.ok.0) in
    let same = sole c.args.files.items c.pop.new.self.items c.in-Some.file c.in-Some.ensures.items one in
    subst (λ (fs : List FileLines). IsLogOf fs c.log_of_one.result) (sym same) c.log_of_one.ensures
