use Rattle.std.proofs.Common.{◌≡◌, length, sym, ◌∙◌, arith}
use Rattle.std.proofs.lemmas.List.{length-map}
use Rattle.names_terms.specs.TermViews.{arm_item}
use Rattle.names_terms.proofs.Listed.{arms_listed}
use Rattle.names_terms.proofs.term.Arms.len.Goals as goal

pub returns : goal.returns
returns c =
    let long : c.len.result ≡ length c.self.inside.items.items = omega arith in
    rw (← c.self.view_is, arms_listed c.self.inside.items.items) (long ∙ sym (length-map c.self.inside.items.items arm_item))
