use Rattle.std.proofs.Common.{◌≡◌, ◌∙◌, sym, ap, subst, List, ℕ, ◌-◌, length, arith}
use Rattle.std.specs.Prelude.{Some, None, vec_len}
use Rattle.std.specs.Str.{bytes_eq}
use Rattle.std.specs.HashMap.{get, Updates}
use Rattle.names_scopes.specs.declared.meant.Entry.{Entry}
use Rattle.names_scopes.specs.Placed.{place_in, ArePlaced}
use Rattle.names_scopes.proofs.EntryPlaces.{placed_new, popped_placed}
use Rattle.names_scopes.proofs.program_names.ProgramNames.push_new.Goals as goal

pub invariant_of-self-in-Ok : goal.invariant_of-self-in-Ok
invariant_of-self-in-Ok c =
    let fresh : place_in c.self.inside.entries.items c.args.item.name ≡ None = ap (λ (es : List Entry). place_in es c.args.item.name) c.self.view_is ∙ c.requires in
    let none : get bytes_eq c.self.inside.places c.in_ok-name.name ≡ None = c.self.invariant c.in_ok-name.name ∙ ap (λ (n : List ℕ). place_in c.self.inside.entries.items n) c.in_ok-name.ensures ∙ fresh in
    let at : c.len-place.result ≡ length c.self.inside.entries.items = omega (arith, c.len-place.ensures, c.self.inside.entries.ok.0) in
    subst (λ (es : List Entry). ArePlaced es c.insert.new.self) (sym c.in_ok-push.ensures.items) (placed_new c.self.inside.entries.items c.self.inside.places c.insert.new.self c.args.item c.in_ok-name.name c.in_ok-name.ensures none c.self.invariant (subst (λ (k : ℕ). Updates bytes_eq c.self.inside.places c.insert.new.self c.in_ok-name.name (Some k)) at c.in-Ok.ensures.updates))

pub invariant_of-self-in-Err : goal.invariant_of-self-in-Err
invariant_of-self-in-Err c =
    let n : vec_len c.push.new.self - 1 ≡ length c.self.inside.entries.items = omega (arith, c.in_ok-push.ensures.len, c.self.inside.entries.ok.0) in
    popped_placed c.self.inside.entries.items c.push.new.self.items c.pop.new.self.items c.self.inside.places c.insert.new.self c.args.item (vec_len c.push.new.self - 1) c.self.invariant c.in_ok-push.ensures.items n c.pop.ensures.rest c.in-Err.ensures.err
