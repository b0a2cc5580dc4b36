-- What the reader does with the whole text of a unit's definition, whatever its ranges: it reads all of it, or two ranges meet.
use Rattle.std.proofs.Common.{◌≡◌, ℕ, List, [], ◌∷◌, ◌++◌, append_assoc, refl, sym, ap, subst, ◌∙◌}
use Rattle.base_core.specs.declared.place.Place.{Place}
use Rattle.reading_trees.specs.declared.form.DefinitionForm.{DefinitionForm}
use Rattle.reading_trees.specs.declared.form.DefinitionForm.TheVariants as definition_forms
use Rattle.reading_trees.specs.declared.laid.Laid.{Laid}
use Rattle.reading_tokens.specs.declared.token.Kind.TheVariants as kinds
use Rattle.reading_tokens.specs.declared.token.Symbol.{Symbol}
use Rattle.reading_tokens.specs.declared.token.Symbol.TheVariants as symbols
use Rattle.reading_trees.specs.Grammar.{Text, NamesText, ParametersText, BoundsBefore, BoundsText, FunctionRest, DefinitionRest, sign}
use Rattle.reading_trees.specs.Trees as tree
use Rattle.reading_trees.specs.Trees.{Tree, Bounds, NoBounds, MoreBounds}
use Rattle.reading_machine.specs.declared.frame.Scope.TheVariants as scopes
use Rattle.reading_machine.specs.declared.frame.Binder.TheVariants as binders
use Rattle.reading_machine.specs.declared.frame.Binding.{Binding}
use Rattle.reading_machine.specs.declared.frame.Form.{Form}
use Rattle.reading_machine.specs.declared.frame.Form.TheVariants as forms
use Rattle.reading_machine.specs.declared.frame.Frame.{Frame}
use Rattle.reading_machine.specs.declared.frame.Frame.TheVariants as frame
use Rattle.reading_machine.specs.declared.frame.Mode.{Mode}
use Rattle.reading_machine.specs.declared.frame.Mode.TheVariants as mode
use Rattle.reading_machine.specs.Beginnings.{DefinitionText}
use Rattle.reading_machine.specs.LawsOfDefinitions.{run_definition}
use Rattle.reading_machine.specs.Machine.{Stepped, Reads, Stops, Clashes, Ends, EndsDefinition, Outcome, StopsAt, ClashesAt, EndsAt, EndsDefinitionAt, closes, step, after, run}
use Rattle.reading_machine.proofs.Flat as flat
use Rattle.reading_machine.proofs.FlatGoes.{Reached, part}
use Rattle.reading_machine.proofs.FlatStates.{rows, expected, FramesKept, ModeKept, Same}
use Rattle.reading_machine.proofs.FlatSteps.{Goes, steps_same}
use Rattle.reading_machine.proofs.FlatTrees.{good}
use Rattle.reading_machine.proofs.Modelled.{names_run}
use Rattle.reading_machine.proofs.RunsParts.{plain}
use Rattle.reading_machine.proofs.DefinitionSteps.{Waits, over, step_over}

-- ---- a run over one more row

-- what comes of an expression's run where it stands over this row
abbrev pub continued : Frame → Outcome → Outcome
continued b (StopsAt r) = StopsAt r
continued b (ClashesAt p q r) = ClashesAt p q r
continued b (EndsAt e []) = StopsAt []
continued b (EndsAt e (x ∷ r)) = after (closes x (b ∷ []) e) (x ∷ r) (run r)
continued b (EndsDefinitionAt n p ns form e r) = EndsDefinitionAt n p ns form e r

over_after : (b : Frame) (s : Stepped) (x : Laid) (xs : List Laid) → ((fs : List Frame) (m : Mode) → run xs (fs ++ b ∷ []) m ≡ continued b (run xs fs m))
    → after (over b (λ e. closes x (b ∷ []) e) s) (x ∷ xs) (run xs) ≡ continued b (after s (x ∷ xs) (run xs))
over_after b (Reads fs m) x xs f = f fs m
over_after b Stops x xs f = refl
over_after b (Clashes p q) x xs f = refl
over_after b (Ends e) x xs f = refl
over_after b (EndsDefinition n p ns form e) x xs f = refl

pub run_over : (b : Frame) → Waits b → (xs : List Laid) (fs : List Frame) (m : Mode) → run xs (fs ++ b ∷ []) m ≡ continued b (run xs fs m)
run_over b w [] fs m = refl
run_over b w (x ∷ xs) fs m = ap (λ s. after s (x ∷ xs) (run xs)) (step_over b w x fs m) ∙ over_after b (step x fs m) x xs (λ gs n. run_over b w xs gs n)

-- ---- an expression's run, flat

-- what comes of a run comes of the flat run, but a clash
abbrev pub Alike : Outcome → flat.Result → Type 0
Alike (StopsAt r) o = o ≡ flat.StopsAt r
Alike (ClashesAt p q r) o = Unit {0}
Alike (EndsAt e r) o = o ≡ flat.EndsAt r
Alike (EndsDefinitionAt n p ns form e r) o = ⊥

alike_after : (A : Type 0) (s : Stepped) (y : flat.Done) (x : Laid) (xs : List Laid) → Same A s y → ((fs : List Frame) (m : Mode) → FramesKept fs → ModeKept m fs → Alike (run xs fs m) (flat.run xs (rows fs) (expected m)))
    → Alike (after s (x ∷ xs) (run xs)) (flat.after y (x ∷ xs) (flat.run xs))
alike_after A (Reads fs m) y x xs h f = subst (λ v. Alike (run xs fs m) (flat.after v (x ∷ xs) (flat.run xs))) (sym h.0) (f fs m h.1 h.2)
alike_after A Stops y x xs h f = ap (λ v. flat.after v (x ∷ xs) (flat.run xs)) h
alike_after A (Clashes p q) y x xs h f = tt
alike_after A (Ends e) y x xs h f = ap (λ v. flat.after v (x ∷ xs) (flat.run xs)) h
alike_after A (EndsDefinition n p ns form e) y x xs h f = absurd h

pub alike : (xs : List Laid) (fs : List Frame) (m : Mode) → FramesKept fs → ModeKept m fs → Alike (run xs fs m) (flat.run xs (rows fs) (expected m))
alike [] fs m k h = refl
alike (x ∷ xs) fs m k h = alike_after (Goes x fs m) (step x fs m) (flat.step x (rows fs) (expected m)) x xs (steps_same x fs m k h) (λ gs n a b. alike xs gs n a b)

-- ---- the text of an expression, over a row

-- all is read, or two ranges meet
abbrev pub Passes : Outcome → Type 0
Passes (StopsAt []) = Unit {0}
Passes (StopsAt (x ∷ r)) = ⊥
Passes (ClashesAt p q r) = Unit {0}
Passes (EndsAt e r) = ⊥
Passes (EndsDefinitionAt n p ns form e r) = ⊥

stops_end : (x : Laid) (r : List Laid) → flat.StopsAt [] ≡ flat.StopsAt (x ∷ r) → ⊥
stops_end x r q = cc

stops_ends : (r s : List Laid) → flat.StopsAt r ≡ flat.EndsAt s → ⊥
stops_ends r s q = cc

ends_rest : (r s : List Laid) → flat.EndsAt r ≡ flat.EndsAt s → r ≡ s
ends_rest r s q = cc

whole_passes : (b : Frame) (o : Outcome) → Alike o (flat.StopsAt []) → Passes (continued b o)
whole_passes b (StopsAt []) q = tt
whole_passes b (StopsAt (x ∷ r)) q = stops_end x r q
whole_passes b (ClashesAt p c r) q = tt
whole_passes b (EndsAt e r) q = absurd (stops_ends [] r q)
whole_passes b (EndsDefinitionAt n p ns form e r) q = absurd q

part_passes : (b : Frame) (o : Outcome) (x : Laid) (r : List Laid) → Alike o (flat.EndsAt (x ∷ r)) → ((e : Tree) → Passes (after (closes x (b ∷ []) e) (x ∷ r) (run r))) → Passes (continued b o)
part_passes b (StopsAt s) x r q f = absurd (stops_ends s (x ∷ r) (sym q))
part_passes b (ClashesAt p c s) x r q f = tt
part_passes b (EndsAt e s) x r q f = subst (λ v. Passes (continued b (EndsAt e v))) (ends_rest (x ∷ r) s q) (f e)
part_passes b (EndsDefinitionAt n p ns form e s) x r q f = absurd q

-- up to the end of all tokens
body_passes : (b : Frame) → Waits b → (e : Tree) (xs : List Laid) → Text e xs [] → Passes (run xs (b ∷ []) mode.Want)
body_passes b w e xs h =
    let r : Reached (flat.run xs [] flat.Want) [] [] = (good e).goes [] tt xs [] h in
    subst Passes (sym (run_over b w xs [] mode.Want)) (whole_passes b (run xs [] mode.Want) (subst (λ v. Alike (run xs [] mode.Want) v) r.runs (alike xs [] mode.Want tt (tt, tt))))

abbrev mark : Symbol → Place → Laid
mark s at = plain (kinds.Symbol s) at

-- up to a token that ends it
set_passes : (b : Frame) → Waits b → (x : Laid) (e : Tree) (xs ys r : List Laid) → Text e xs ys → ys ≡ x ∷ r → flat.run xs [] flat.Want ≡ flat.EndsAt (x ∷ r)
    → ((d : Tree) → Passes (after (closes x (b ∷ []) d) (x ∷ r) (run r))) → Passes (run xs (b ∷ []) mode.Want)
set_passes b w x e xs ys r h q g f =
    subst Passes (sym (run_over b w xs [] mode.Want)) (part_passes b (run xs [] mode.Want) x r (subst (λ v. Alike (run xs [] mode.Want) v) g (alike xs [] mode.Want tt (tt, tt))) f)

-- ---- definitions

module _ (n : List ℕ) (p q : Place) where
  -- the bounds of a function so far
  abbrev bound : Bounds → Binding
  bound bs = record { binder = binders.Defined scopes.Unit n p q; bounds = bs }

  bound_waits : (bs : Bounds) (ns : List (List ℕ)) → Waits (frame.BoundSet (bound bs) ns)
  bound_waits bs ns = record { delivers = λ e. refl; operator = λ o at e. refl; settles = λ c e. refl; free = refl }

  body_waits : (form : Form) → Waits (frame.DefinitionBody scopes.Unit n p form)
  body_waits form = record { delivers = λ e. refl; operator = λ o at e. refl; settles = λ c e. refl; free = refl }

  -- a bound with a comma behind it
  bound_passes : (bs : Bounds) (ns : List (List ℕ)) (s : Tree) (xs ys zs ws us : List Laid) → NamesText ns xs ys → sign symbols.Member ys zs → Text s zs ws → sign symbols.Comma ws us
      → ((cs : Bounds) → Passes (run us [] (mode.BoundName (bound cs) []))) → Passes (run xs [] (mode.BoundName (bound bs) []))
  bound_passes bs ns s xs ys zs ws us a m t c f =
      subst Passes (sym (names_run (bound bs) [] ns [] xs ys zs a m))
      (set_passes (frame.BoundSet (bound bs) ns) (bound_waits bs ns) (mark symbols.Comma c.0) s zs ws us t c.1
      (part zs ws s [] (good s).goes tt t c.1 refl (λ k gs. refl)) (λ d. f (MoreBounds bs ns d)))

  bounds_before_pass : (bs : Bounds) (xs ys : List Laid) → BoundsBefore bs xs ys → ((cs : Bounds) → Passes (run ys [] (mode.BoundName (bound cs) []))) → (cs : Bounds) → Passes (run xs [] (mode.BoundName (bound cs) []))
  bounds_before_pass NoBounds xs ys h f cs = subst (λ v. Passes (run v [] (mode.BoundName (bound cs) []))) (sym h) (f cs)
  bounds_before_pass (MoreBounds bs ns s) xs ys h f cs =
      bounds_before_pass bs xs h.0 h.1 (λ ds. bound_passes ds ns s h.0 h.2.0 h.2.2.0 h.2.2.2.0 ys h.2.1 h.2.2.1 h.2.2.2.1 h.2.2.2.2 f) cs

  -- the last bound, and the body
  last_passes : (bs : Bounds) (ns : List (List ℕ)) (s e : Tree) (xs ys zs ws us vs : List Laid) → NamesText ns xs ys → sign symbols.Member ys zs → Text s zs ws → sign symbols.CloseBracket ws us → sign symbols.Defined us vs → Text e vs []
      → Passes (run xs [] (mode.BoundName (bound bs) []))
  last_passes bs ns s e xs ys zs ws us vs a m t c d h =
      subst Passes (sym (names_run (bound bs) [] ns [] xs ys zs a m))
      (set_passes (frame.BoundSet (bound bs) ns) (bound_waits bs ns) (mark symbols.CloseBracket c.0) s zs ws us t c.1
      (part zs ws s [] (good s).goes tt t c.1 refl (λ k gs. refl))
      (λ k. subst (λ v. Passes (run v [] (mode.DefinedAs scopes.Unit n p (forms.Function q (MoreBounds bs ns k))))) (sym d.1)
      (body_passes (frame.DefinitionBody scopes.Unit n p (forms.Function q (MoreBounds bs ns k))) (body_waits (forms.Function q (MoreBounds bs ns k))) e vs h)))

  bounds_pass : (bs : Bounds) (e : Tree) (xs ws us vs : List Laid) → BoundsText bs xs ws → sign symbols.CloseBracket ws us → sign symbols.Defined us vs → Text e vs [] → Passes (run xs [] (mode.BoundName (bound NoBounds) []))
  bounds_pass NoBounds e xs ws us vs h c d t = absurd h
  bounds_pass (MoreBounds bs ns s) e xs ws us vs h c d t =
      bounds_before_pass bs xs h.0 h.1 (λ ds. last_passes ds ns s e h.0 h.2.0 h.2.2.0 ws us vs h.2.1 h.2.2.1 h.2.2.2 c d t) NoBounds

function_passes : (n : List ℕ) (p : Place) (e : Tree) (xs : List Laid) → FunctionRest e xs [] → Passes (run xs [] (mode.DefinitionNamed scopes.Unit n p))
function_passes n p (tree.Function at bs e) xs h =
    subst (λ v. Passes (run v [] (mode.DefinitionNamed scopes.Unit n p))) (sym h.1) (bounds_pass n p at bs e h.0 h.2.0 h.2.2.0 h.2.2.2.0 h.2.1 h.2.2.1 h.2.2.2.1 h.2.2.2.2)
function_passes n p _ xs h = absurd h

parameter_names : (n : List ℕ) (p : Place) (ms ns : List (List ℕ)) (xs ys zs : List Laid) → NamesText ns xs ys → sign symbols.CloseParenthesis ys zs
    → run xs [] (mode.Parameter scopes.Unit n p ms) ≡ run zs [] (mode.DefinedAs scopes.Unit n p (forms.Operator (ms ++ ns)))
parameter_names n p ms [] xs ys zs h c = absurd h
parameter_names n p ms (m ∷ []) xs ys zs h c = ap (λ v. run v [] (mode.Parameter scopes.Unit n p ms)) h.1 ∙ ap (λ v. run v [] (mode.ParameterNamed scopes.Unit n p (ms ++ m ∷ []))) c.1
parameter_names n p ms (m ∷ o ∷ ns) xs ys zs h c =
    ap (λ v. run v [] (mode.Parameter scopes.Unit n p ms)) h.1.1
    ∙ ap (λ v. run v [] (mode.ParameterNamed scopes.Unit n p (ms ++ m ∷ []))) h.2.1.1
    ∙ parameter_names n p (ms ++ m ∷ []) (o ∷ ns) h.2.0 ys zs h.2.2 c
    ∙ ap (λ v. run zs [] (mode.DefinedAs scopes.Unit n p (forms.Operator v))) (append_assoc ms (m ∷ []) (o ∷ ns))

pub operator_begins : (n : List ℕ) (p : Place) (ns : List (List ℕ)) (xs ys zs : List Laid) → ParametersText ns xs ys → sign symbols.Defined ys zs
    → run xs [] (mode.DefinitionNamed scopes.Unit n p) ≡ run zs (frame.DefinitionBody scopes.Unit n p (forms.Operator ns) ∷ []) mode.Want
operator_begins n p [] xs ys zs h d = ap (λ v. run v [] (mode.DefinitionNamed scopes.Unit n p)) (h ∙ d.1)
operator_begins n p (m ∷ ns) xs ys zs h d =
    ap (λ v. run v [] (mode.DefinitionNamed scopes.Unit n p)) h.1.1
    ∙ parameter_names n p [] (m ∷ ns) h.0 h.2.0 ys h.2.1 h.2.2
    ∙ ap (λ v. run v [] (mode.DefinedAs scopes.Unit n p (forms.Operator (m ∷ ns)))) d.1

rest_passes : (n : List ℕ) (p : Place) (ns : List (List ℕ)) (form : DefinitionForm) (e : Tree) (xs : List Laid) → DefinitionRest ns form e xs [] → Passes (run xs [] (mode.DefinitionNamed scopes.Unit n p))
rest_passes n p ns definition_forms.Operator e xs h =
    subst Passes (sym (operator_begins n p ns xs h.0 h.2.0 h.1 h.2.1))
    (body_passes (frame.DefinitionBody scopes.Unit n p (forms.Operator ns)) (body_waits n p p (forms.Operator ns)) e h.2.0 h.2.2)
rest_passes n p ns definition_forms.Function e xs h = function_passes n p e xs h.1
rest_passes n p ns definition_forms.Constant e xs h = absurd h

pub definition_passes : (n : List ℕ) (p : Place) (ns : List (List ℕ)) (form : DefinitionForm) (e : Tree) (xs : List Laid) → DefinitionText n p ns form e xs [] → Passes (run_definition xs)
definition_passes n p ns form e xs h = subst (λ v. Passes (run_definition v)) (sym h.1) (rest_passes n p ns form e h.0 h.2)
