use Rattle.std.proofs.Common.{◌≡◌, ◌∙◌, ap, false, map, rules}
use Rattle.names_terms.specs.Lists.{terms_list}
use Rattle.names_term_parts.specs.Parts.{Part, listed, parts_of}
use Rattle.names_term_parts.specs.Waiting.{waiting}
use Rattle.actions_early_reads.specs.Opened.{TellsFirst, TellsTerms}
use Rattle.actions_early_reads.specs.Sets.{shown}
use Rattle.actions_early_reads.proofs.Found.{if-ok}
use Rattle.actions_early_reads.proofs.Opening.{terms_of_listed}
use Rattle.actions_early_reads.proofs.Way.{early-terms}
use Rattle.actions_early_reads.proofs.walking.Walk.early_terms.Goals as goal

pub returns : goal.returns
returns c =
    let pushed : waiting c.push_terms.new.stack.items ≡ parts_of false (listed c.args.terms.now) = search rules in
    if-ok c.early_all.result (λ o. TellsFirst c.args.self.now c.args.bound (shown c.args.before) (waiting c.push_terms.new.stack.items) o) (λ o. TellsTerms c.args.self.now c.args.bound (shown c.args.before) (terms_list c.args.terms.now) o)
    (λ o h. early-terms c.args.self.now c.args.bound (shown c.args.before) (waiting c.push_terms.new.stack.items) (terms_list c.args.terms.now) o (ap (map (λ (p : Part). p.term)) pushed ∙ terms_of_listed false c.args.terms.now) h) c.early_all.ensures
