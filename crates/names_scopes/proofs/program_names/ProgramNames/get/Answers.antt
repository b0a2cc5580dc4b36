use Rattle.std.proofs.Common.{◌≡◌, ◌∙◌, sym, ap, subst, List}
use Rattle.std.specs.Prelude.{slice_get, None, Some, MatchOption}
use Rattle.names_scopes.specs.declared.meant.Entry.{Entry}
use Rattle.names_scopes.specs.Scopes.{among}
use Rattle.names_scopes.proofs.EntryPlaces.{among_none, gives_entry}
use Rattle.names_scopes.proofs.program_names.ProgramNames.get.Goals as goal

pub returns-in-Some : goal.returns-in-Some
returns-in-Some c =
    subst (λ (es : List Entry). MatchOption c.entry_at.result (among es c.args.name.now ≡ None) (λ e. among es c.args.name.now ≡ Some e.now.is)) c.self.view_is
    (gives_entry c.self.inside.entries.items c.args.name.now c.in-Some.place.now c.entry_at.result (sym (c.in-Some.ensures.value ∙ c.self.invariant c.args.name.now)) (c.entry_at.ensures ∙ ap (λ (es : List Entry). slice_get es c.in-Some.place.now) c.deref.ensures.value))

pub returns-in-None : goal.returns-in-None
returns-in-None c =
    ap (λ (es : List Entry). among es c.args.name.now) (sym c.self.view_is) ∙ among_none c.self.inside.entries.items c.args.name.now (sym (c.in-None.ensures.value ∙ c.self.invariant c.args.name.now))
