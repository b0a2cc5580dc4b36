use Rattle.std.proofs.Common.{◌≡◌, length, sym, ◌∙◌, arith}
use Rattle.std.proofs.lemmas.List.{length-map}
use Rattle.names_terms.specs.TermViews.{bound_item}
use Rattle.names_terms.proofs.Listed.{bounds_listed}
use Rattle.names_terms.proofs.term.Bounds.len.Goals as goal

pub returns : goal.returns
returns c =
    let long : c.len.result ≡ length c.self.inside.items.items = omega arith in
    rw (← c.self.view_is, bounds_listed c.self.inside.items.items) (long ∙ sym (length-map c.self.inside.items.items bound_item))
