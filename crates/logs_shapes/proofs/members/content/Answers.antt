use Rattle.std.proofs.Common.{List, ℕ, option_map, ap, ◌∙◌}
use Rattle.serde_json.specs.Find.{get_member}
use Rattle.serde_json.specs.View.{view, members_view}
use Rattle.serde_json.proofs.Views.{view_of_ref, view-lookup}
use Rattle.logs_shapes.proofs.members.content.Goals as goal

pub returns : goal.returns
returns c =
    view_of_ref c.get.result ∙ ap (option_map view) c.get.ensures.value ∙ view-lookup c.text.result.now c.args.members.now.entries
    ∙ ap (λ (name : List ℕ). get_member name (members_view c.args.members.now.entries)) c.text.ensures
