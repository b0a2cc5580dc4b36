-- No text of a unit's definition goes on through the token at which its reader stops or ends.
use Rattle.std.proofs.Common.{◌≡◌, ℕ, List, [], ◌∷◌, ◌++◌, append_assoc, refl, sym, ap, subst, ◌∙◌}
use Rattle.std.proofs.lemmas.List.{append-nil}
use Rattle.base_core.specs.declared.place.Place.{Place}
use Rattle.reading_trees.specs.declared.form.DefinitionForm.{DefinitionForm}
use Rattle.reading_trees.specs.declared.laid.Laid.{Laid}
use Rattle.reading_trees.specs.declared.laid.Laid.TheVariants.{Plain}
use Rattle.reading_tokens.specs.declared.token.Kind.TheVariants as kinds
use Rattle.reading_trees.specs.Fits.{Fits}
use Rattle.reading_trees.specs.Trees.{Tree}
use Rattle.reading_machine.specs.Beginnings.{DefinitionText, BegunDefinition}
use Rattle.reading_machine.specs.LawsOfDefinitions.{run_definition, DefinitionStoppedThere, DefinitionEndsThere, DefinitionClashedThere}
use Rattle.reading_machine.specs.declared.frame.Frame.{Frame}
use Rattle.reading_machine.specs.declared.frame.Mode.{Mode}
use Rattle.reading_machine.specs.declared.frame.Mode.TheVariants as mode
use Rattle.reading_machine.specs.declared.frame.Scope.TheVariants as scopes
use Rattle.reading_machine.specs.Machine.{step, Stepped, Reads, Stops, Clashes, Ends, EndsDefinition, Outcome, StopsAt, ClashesAt, EndsDefinitionAt, after, run}
use Rattle.reading_machine.proofs.Paths.{Reach, reach, IsLast, reach_stops, reach_clashes, along}
use Rattle.reading_machine.proofs.UniqueSpans.{Front}
use Rattle.reading_machine.proofs.UniqueTree.{definition_read}
use Rattle.reading_machine.proofs.FittingFronts.{definition_local}
use Rattle.reading_machine.proofs.DefinitionRuns.{Passes, definition_passes}

-- what comes of the token at which a run is done, whatever stands behind it
done_there : (read rest r : List Laid) (x : Laid) (o : Outcome) (s : Stepped) → (h : Reach read [] (mode.DefinitionName scopes.Unit) x rest o) → step x h.frames h.expects ≡ s → run_definition (read ++ x ∷ r) ≡ after s (x ∷ r) (run r)
done_there read rest r x o s h q = along read (x ∷ r) [] (mode.DefinitionName scopes.Unit) h.frames h.expects h.path ∙ ap (λ v. after v (x ∷ r) (run r)) q

-- what is begun through x, from the token on
passes_there : (read : List Laid) (x : Laid) → (b : BegunDefinition (read ++ x ∷ [])) → Passes (run_definition (read ++ x ∷ b.rest))
passes_there read x b =
    definition_passes b.name b.at b.parameters b.form b.body (read ++ x ∷ b.rest) (subst (λ v. DefinitionText b.name b.at b.parameters b.form b.body v []) (append_assoc read (x ∷ []) b.rest) b.whole)

pub definition_stopped_there : DefinitionStoppedThere
definition_stopped_there read rest x q b =
    let h : Reach read [] (mode.DefinitionName scopes.Unit) x rest (StopsAt (x ∷ rest)) = reach read x rest [] (mode.DefinitionName scopes.Unit) (StopsAt (x ∷ rest)) q refl in
    let e : run_definition (read ++ x ∷ b.rest) ≡ StopsAt (x ∷ b.rest) = done_there read rest b.rest x (StopsAt (x ∷ rest)) Stops h (reach_stops read [] (mode.DefinitionName scopes.Unit) x rest (x ∷ rest) h) in
    subst Passes e (passes_there read x b)

defines_of : (s : Stepped) (here r : List Laid) (next : List Frame → Mode → Outcome) (n : List ℕ) (p : Place) (ns : List (List ℕ)) (form : DefinitionForm) (e : Tree) → IsLast s → after s here next ≡ EndsDefinitionAt n p ns form e r → s ≡ EndsDefinition n p ns form e
defines_of (Reads fs m) here r next n p ns form e l q = absurd l
defines_of Stops here r next n p ns form e l q = cc
defines_of (Clashes a b) here r next n p ns form e l q = cc
defines_of (Ends d) here r next n p ns form e l q = cc
defines_of (EndsDefinition a b c f d) here r next n p ns form e l q = cc

pub definition_ends_there : DefinitionEndsThere
definition_ends_there read rest x n p ns form e q b =
    let o : Outcome = EndsDefinitionAt n p ns form e (x ∷ rest) in
    let h : Reach read [] (mode.DefinitionName scopes.Unit) x rest o = reach read x rest [] (mode.DefinitionName scopes.Unit) o q refl in
    let s : step x h.frames h.expects ≡ EndsDefinition n p ns form e = defines_of (step x h.frames h.expects) (x ∷ rest) (x ∷ rest) (run rest) n p ns form e h.done h.gives in
    subst Passes (done_there read rest b.rest x o (EndsDefinition n p ns form e) h s) (passes_there read x b)

-- a token that ends the text
abbrev the_end : Laid
the_end = Plain (record { kind = kinds.End; place = record { file = 0; line = 0; col = 0 } })

-- what a definition with an End behind it is read as
ended : (n : List ℕ) (p : Place) (ns : List (List ℕ)) (form : DefinitionForm) (e : Tree) (xs : List Laid) → DefinitionText n p ns form e xs [] → Fits e → run_definition (xs ++ the_end ∷ []) ≡ EndsDefinitionAt n p ns form e (the_end ∷ [])
ended n p ns form e xs t f =
    let l : Front (DefinitionText n p ns form e) xs [] = definition_local n p ns form e xs [] t in
    let k : xs ≡ l.front = l.here ∙ append-nil l.front in
    definition_read (xs ++ the_end ∷ []) [] the_end n p ns form e (subst (λ v. DefinitionText n p ns form e (v ++ the_end ∷ []) (the_end ∷ [])) (sym k) (l.anywhere (the_end ∷ []))) f tt

no_clash : (a b : Place) (r s : List Laid) (n : List ℕ) (p : Place) (ns : List (List ℕ)) (form : DefinitionForm) (e : Tree) → ClashesAt a b r ≡ EndsDefinitionAt n p ns form e s → ⊥
no_clash a b r s n p ns form e h = cc

pub definition_clashed_there : DefinitionClashedThere
definition_clashed_there read rest x p q i b =
    let o : Outcome = ClashesAt p q (x ∷ rest) in
    let h : Reach read [] (mode.DefinitionName scopes.Unit) x rest o = reach read x rest [] (mode.DefinitionName scopes.Unit) o i refl in
    let r : List Laid = b.rest ++ the_end ∷ [] in
    let c : run_definition (read ++ x ∷ r) ≡ ClashesAt p q (x ∷ r) = done_there read rest r x o (Clashes p q) h (reach_clashes read [] (mode.DefinitionName scopes.Unit) x rest (x ∷ rest) p q h) in
    let e : run_definition (((read ++ x ∷ []) ++ b.rest) ++ the_end ∷ []) ≡ EndsDefinitionAt b.name b.at b.parameters b.form b.body (the_end ∷ []) =
    ended b.name b.at b.parameters b.form b.body ((read ++ x ∷ []) ++ b.rest) b.whole b.fits in
    let k : ((read ++ x ∷ []) ++ b.rest) ++ the_end ∷ [] ≡ read ++ x ∷ r = append_assoc (read ++ x ∷ []) b.rest (the_end ∷ []) ∙ append_assoc read (x ∷ []) r in
    no_clash p q (x ∷ r) (the_end ∷ []) b.name b.at b.parameters b.form b.body (sym c ∙ ap (λ v. run_definition v) (sym k) ∙ e)
