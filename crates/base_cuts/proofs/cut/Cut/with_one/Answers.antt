use Rattle.std.proofs.Common.{◌≡◌, ◌∙◌}
use Rattle.base_cuts.proofs.Heading.{one_set}
use Rattle.base_cuts.proofs.cut.Cut.with_one.Goals as goal

pub returns : goal.returns
returns c =
    let same : c.in_ok-counts.counts.items ≡ c.args.self.now = c.in_ok-counts.ensures ∙ c.as_slice.ensures.value ∙ c.self.view_is in
    one_set c.in_ok-counts.counts.items c.args.self.now c.args.file c.index_mut.result.now same c.requires.inside c.index_mut.ensures.value
