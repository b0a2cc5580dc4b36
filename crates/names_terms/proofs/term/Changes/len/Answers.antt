use Rattle.std.proofs.Common.{◌≡◌, length, sym, ◌∙◌, arith}
use Rattle.std.proofs.lemmas.List.{length-map}
use Rattle.names_terms.specs.TermViews.{change_item}
use Rattle.names_terms.proofs.Listed.{changes_listed}
use Rattle.names_terms.proofs.term.Changes.len.Goals as goal

pub returns : goal.returns
returns c =
    let long : c.len.result ≡ length c.self.inside.items.items = omega arith in
    rw (← c.self.view_is, changes_listed c.self.inside.items.items) (long ∙ sym (length-map c.self.inside.items.items change_item))
