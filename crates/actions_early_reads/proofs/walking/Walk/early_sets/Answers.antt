use Rattle.std.proofs.Common.{◌≡◌, ◌∙◌, ap, false, map, rules}
use Rattle.names_term_parts.specs.Parts.{Part, parts_of, set_list}
use Rattle.names_term_parts.specs.Waiting.{waiting}
use Rattle.actions_early_reads.specs.Opened.{TellsFirst, TellsTerms}
use Rattle.actions_early_reads.specs.Sets.{shown}
use Rattle.actions_early_reads.proofs.Found.{if-ok}
use Rattle.actions_early_reads.proofs.Opening.{terms_of_parts}
use Rattle.actions_early_reads.proofs.Way.{early-terms}
use Rattle.actions_early_reads.proofs.walking.Walk.early_sets.Goals as goal

pub returns : goal.returns
returns c =
    let pushed : waiting c.push_sets.new.stack.items ≡ parts_of false (set_list c.args.bounds.now) = search rules in
    if-ok c.early_all.result (λ o. TellsFirst c.args.self.now c.args.bound (shown c.args.before) (waiting c.push_sets.new.stack.items) o) (λ o. TellsTerms c.args.self.now c.args.bound (shown c.args.before) (set_list c.args.bounds.now) o)
    (λ o h. early-terms c.args.self.now c.args.bound (shown c.args.before) (waiting c.push_sets.new.stack.items) (set_list c.args.bounds.now) o (ap (map (λ (p : Part). p.term)) pushed ∙ terms_of_parts false (set_list c.args.bounds.now)) h) c.early_all.ensures
