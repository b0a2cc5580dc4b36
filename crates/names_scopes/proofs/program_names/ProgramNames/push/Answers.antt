use Rattle.std.proofs.Common.{sym, subst, List}
use Rattle.names_scopes.specs.declared.meant.Entry.{Entry}
use Rattle.names_scopes.specs.Placed.{ArePlaced}
use Rattle.names_scopes.proofs.EntryPlaces.{placed_known}
use Rattle.names_scopes.proofs.program_names.ProgramNames.push.Goals as goal

pub invariant_of-self-in-Some : goal.invariant_of-self-in-Some
invariant_of-self-in-Some c =
    subst (λ (es : List Entry). ArePlaced es c.self.inside.places) (sym c.in_ok-push-in-Some.ensures.items) (placed_known c.self.inside.entries.items c.self.inside.places c.args.item c.in-Some.field-0.now (sym c.in-Some.ensures.value) c.self.invariant)
