use Rattle.std.proofs.Common.{◌≡◌, ◌∙◌, ap, []}
use Rattle.names_free.specs.Gathered.{NameList, gather}
use Rattle.names_free.proofs.Gathering.{all_found}
use Rattle.names_free.proofs.walk.free_names.Goals as goal

pub returns : goal.returns
returns c =
    let found : c.gather.new.found ≡ gather c.new-hidden.result c.new-found.result c.args.tree.now = c.in_ok-gather.ensures.found in
    record {
      exact = all_found c.args.tree.now c.gather.new.found (found ∙ ap (λ (l : NameList). gather l c.new-found.result c.args.tree.now) c.new-hidden.ensures ∙ ap (λ (l : NameList). gather [] l c.args.tree.now) c.new-found.ensures);
    }
