-- Where a text ends before a token that ends texts, the reader does not stop.
use Rattle.std.specs.Prelude.{IfErr, Result, Ok, Err}
use Rattle.std.proofs.Common.{◌≡◌, ℕ, List, [], ◌∷◌, ◌++◌, drop, inl, inr, refl, sym, subst, ◌∙◌}
use Rattle.std.proofs.lemmas.List.{append-nil}
use Rattle.base_core.specs.declared.place.Place.{Place}
use Rattle.reading_trees.specs.declared.form.DefinitionForm.{DefinitionForm}
use Rattle.reading_trees.specs.declared.form.DefinitionForm.TheVariants as definition_forms
use Rattle.reading_trees.specs.declared.laid.Laid.{Laid}
use Rattle.reading_tokens.specs.declared.token.Kind.TheVariants as kinds
use Rattle.reading_tokens.specs.declared.token.Symbol.{Symbol}
use Rattle.reading_tokens.specs.declared.token.Symbol.TheVariants as symbols
use Rattle.reading_trees.specs.Grammar.{Text, NamesText, BoundsBefore, BoundsText, FunctionRest, DefinitionRest, sign}
use Rattle.reading_trees.specs.Trees as tree
use Rattle.reading_trees.specs.Trees.{Tree, Bounds, NoBounds, MoreBounds}
use Rattle.reading_expressions.specs.declared.fault.ParseFault.{ParseFault}
use Rattle.reading_expressions.specs.declared.fault.ParseFault.TheVariants.{Expected, Conflict, TooNested, OutOfProfile, NoMemory}
use Rattle.reading_machine.specs.declared.frame.Scope.TheVariants as scopes
use Rattle.reading_machine.specs.declared.frame.Binder.TheVariants as binders
use Rattle.reading_machine.specs.declared.frame.Binding.{Binding}
use Rattle.reading_machine.specs.declared.frame.Form.{Form}
use Rattle.reading_machine.specs.declared.frame.Form.TheVariants as forms
use Rattle.reading_machine.specs.declared.frame.Frame.{Frame}
use Rattle.reading_machine.specs.declared.frame.Frame.TheVariants as frame
use Rattle.reading_machine.specs.declared.frame.Mode.TheVariants as mode
use Rattle.reading_machine.specs.Beginnings.{DefinitionText}
use Rattle.reading_token_steps.specs.Kept.{kept_run}
use Rattle.reading_machine.specs.LawsOfTrees.{EndsText}
use Rattle.reading_machine.specs.Machine.{Outcome, StopsAt, ClashesAt, EndsAt, EndsDefinitionAt, closes, after, run}
use Rattle.reading_expressions.specs.Refused.{Refuses}
use Rattle.reading_expressions.specs.Unended.{EndedText, EndedDefinition, NoneEnds, IsUnended}
use Rattle.reading_machine.proofs.DefinitionRuns.{Alike, alike, continued, run_over, operator_begins}
use Rattle.reading_machine.proofs.DefinitionSteps.{Waits}
use Rattle.reading_machine.proofs.ExtentEnds.{Closes, ends_close, local_text, local_definition}
use Rattle.reading_machine.proofs.Flat as flat
use Rattle.reading_machine.proofs.FlatGoes.{part}
use Rattle.reading_machine.proofs.FlatTrees.{good}
use Rattle.reading_machine.proofs.Modelled.{names_run}
use Rattle.reading_machine.proofs.RunsParts.{plain}

-- ---- what is proved

-- Where the text of an expression ends before a token that ends texts, the reader does not stop: it ends there, or two ranges meet.
abbrev pub TextNeverStops : Type 0
TextNeverStops = (e : Tree) (xs rest left : List Laid) (x : Laid) → Text e xs (x ∷ rest) → EndsText x → ¬ (run xs [] mode.Want ≡ StopsAt left)

-- the same of a unit's definition
abbrev pub DefinitionNeverStops : Type 0
DefinitionNeverStops =
    (n : List ℕ) (at : Place) (ns : List (List ℕ)) (form : DefinitionForm) (e : Tree) (xs rest left : List Laid) (x : Laid) → DefinitionText n at ns form e xs (x ∷ rest) → EndsText x → ¬ (run xs [] (mode.DefinitionName scopes.Unit) ≡ StopsAt left)

-- so a list that the reader refuses is unended
abbrev pub RefusedUnended : Type 0
RefusedUnended = (laid : List Laid) (from : ℕ) (fault : ParseFault) → Refuses laid from mode.Want fault → IsUnended EndedText (drop from laid) fault

abbrev pub RefusedDefinitionUnended : Type 0
RefusedDefinitionUnended =
    (laid : List Laid) (from : ℕ) (fault : ParseFault) → Refuses laid from (mode.DefinitionName scopes.Unit) fault → IsUnended EndedDefinition (drop from laid) fault

-- ---- expressions

-- the flat reader ends behind the text
flat_ends : (e : Tree) (xs rest : List Laid) (x : Laid) → Text e xs (x ∷ rest) → EndsText x → flat.run xs [] flat.Want ≡ flat.EndsAt (x ∷ rest)
flat_ends e xs rest x t h = let c : Closes x = ends_close x h in part xs (x ∷ rest) e [] (good e).goes tt t refl c.no_case c.closing

stops_ends : (r s : List Laid) → flat.StopsAt r ≡ flat.EndsAt s → ⊥
stops_ends r s q = cc

ends_rest : (r s : List Laid) → flat.EndsAt r ≡ flat.EndsAt s → r ≡ s
ends_rest r s q = cc

pub text_never_stops : TextNeverStops
text_never_stops e xs rest left x t h q =
    let a : flat.run xs [] flat.Want ≡ flat.StopsAt left = subst (λ o. Alike o (flat.run xs [] flat.Want)) q (alike xs [] mode.Want tt (tt, tt)) in
    stops_ends left (x ∷ rest) (sym a ∙ flat_ends e xs rest x t h)

-- ---- definitions

-- the reader does not stop
abbrev Goes : Outcome → Type 0
Goes (StopsAt r) = ⊥
Goes (ClashesAt p q r) = Unit {0}
Goes (EndsAt e r) = Unit {0}
Goes (EndsDefinitionAt n p ns form e r) = Unit {0}

part_goes : (b : Frame) (o : Outcome) (x : Laid) (r : List Laid) → Alike o (flat.EndsAt (x ∷ r)) → ((e : Tree) → Goes (after (closes x (b ∷ []) e) (x ∷ r) (run r))) → Goes (continued b o)
part_goes b (StopsAt s) x r q f = absurd (stops_ends s (x ∷ r) (sym q))
part_goes b (ClashesAt p c s) x r q f = tt
part_goes b (EndsAt e s) x r q f = subst (λ v. Goes (continued b (EndsAt e v))) (ends_rest (x ∷ r) s q) (f e)
part_goes b (EndsDefinitionAt n p ns form e s) x r q f = absurd q

-- an expression over a row, up to a token that ends it
set_goes : (b : Frame) → Waits b → (x : Laid) (xs r : List Laid) → flat.run xs [] flat.Want ≡ flat.EndsAt (x ∷ r) → ((d : Tree) → Goes (after (closes x (b ∷ []) d) (x ∷ r) (run r))) → Goes (run xs (b ∷ []) mode.Want)
set_goes b w x xs r g f = subst Goes (sym (run_over b w xs [] mode.Want)) (part_goes b (run xs [] mode.Want) x r (subst (λ v. Alike (run xs [] mode.Want) v) g (alike xs [] mode.Want tt (tt, tt))) f)

abbrev mark : Symbol → Place → Laid
mark s at = plain (kinds.Symbol s) at

module _ (n : List ℕ) (p q : Place) (x : Laid) (rest : List Laid) (ends : EndsText x) where
  -- the bounds of a function so far
  abbrev bound : Bounds → Binding
  bound bs = record { binder = binders.Defined scopes.Unit n p q; bounds = bs }

  bound_waits : (bs : Bounds) (ns : List (List ℕ)) → Waits (frame.BoundSet (bound bs) ns)
  bound_waits bs ns = record { delivers = λ e. refl; operator = λ o at e. refl; settles = λ c e. refl; free = refl }

  body_waits : (form : Form) → Waits (frame.DefinitionBody scopes.Unit n p form)
  body_waits form = record { delivers = λ e. refl; operator = λ o at e. refl; settles = λ c e. refl; free = refl }

  body_goes : (form : Form) (e : Tree) (xs : List Laid) → Text e xs (x ∷ rest) → Goes (run xs (frame.DefinitionBody scopes.Unit n p form ∷ []) mode.Want)
  body_goes form e xs t = set_goes (frame.DefinitionBody scopes.Unit n p form) (body_waits form) x xs rest (flat_ends e xs rest x t ends) (λ d. tt)

  -- a bound with a comma behind it
  bound_goes : (bs : Bounds) (ns : List (List ℕ)) (s : Tree) (xs ys zs ws us : List Laid) → NamesText ns xs ys → sign symbols.Member ys zs → Text s zs ws → sign symbols.Comma ws us
      → ((cs : Bounds) → Goes (run us [] (mode.BoundName (bound cs) []))) → Goes (run xs [] (mode.BoundName (bound bs) []))
  bound_goes bs ns s xs ys zs ws us a m t c f =
      subst Goes (sym (names_run (bound bs) [] ns [] xs ys zs a m))
      (set_goes (frame.BoundSet (bound bs) ns) (bound_waits bs ns) (mark symbols.Comma c.0) zs us
      (part zs ws s [] (good s).goes tt t c.1 refl (λ k gs. refl)) (λ d. f (MoreBounds bs ns d)))

  bounds_before_go : (bs : Bounds) (xs ys : List Laid) → BoundsBefore bs xs ys → ((cs : Bounds) → Goes (run ys [] (mode.BoundName (bound cs) []))) → (cs : Bounds) → Goes (run xs [] (mode.BoundName (bound cs) []))
  bounds_before_go NoBounds xs ys h f cs = subst (λ v. Goes (run v [] (mode.BoundName (bound cs) []))) (sym h) (f cs)
  bounds_before_go (MoreBounds bs ns s) xs ys h f cs =
      bounds_before_go bs xs h.0 h.1 (λ ds. bound_goes ds ns s h.0 h.2.0 h.2.2.0 h.2.2.2.0 ys h.2.1 h.2.2.1 h.2.2.2.1 h.2.2.2.2 f) cs

  -- the last bound, and the body
  last_goes : (bs : Bounds) (ns : List (List ℕ)) (s e : Tree) (xs ys zs ws us vs : List Laid) → NamesText ns xs ys → sign symbols.Member ys zs → Text s zs ws → sign symbols.CloseBracket ws us → sign symbols.Defined us vs → Text e vs (x ∷ rest)
      → Goes (run xs [] (mode.BoundName (bound bs) []))
  last_goes bs ns s e xs ys zs ws us vs a m t c d h =
      subst Goes (sym (names_run (bound bs) [] ns [] xs ys zs a m))
      (set_goes (frame.BoundSet (bound bs) ns) (bound_waits bs ns) (mark symbols.CloseBracket c.0) zs us
      (part zs ws s [] (good s).goes tt t c.1 refl (λ k gs. refl))
      (λ k. subst (λ v. Goes (run v [] (mode.DefinedAs scopes.Unit n p (forms.Function q (MoreBounds bs ns k))))) (sym d.1)
      (body_goes (forms.Function q (MoreBounds bs ns k)) e vs h)))

  bounds_go_on : (bs : Bounds) (e : Tree) (xs ws us vs : List Laid) → BoundsText bs xs ws → sign symbols.CloseBracket ws us → sign symbols.Defined us vs → Text e vs (x ∷ rest) → Goes (run xs [] (mode.BoundName (bound NoBounds) []))
  bounds_go_on NoBounds e xs ws us vs h c d t = absurd h
  bounds_go_on (MoreBounds bs ns s) e xs ws us vs h c d t =
      bounds_before_go bs xs h.0 h.1 (λ ds. last_goes ds ns s e h.0 h.2.0 h.2.2.0 ws us vs h.2.1 h.2.2.1 h.2.2.2 c d t) NoBounds

function_goes : (n : List ℕ) (p : Place) (e : Tree) (xs rest : List Laid) (x : Laid) → EndsText x → FunctionRest e xs (x ∷ rest) → Goes (run xs [] (mode.DefinitionNamed scopes.Unit n p))
function_goes n p (tree.Function at bs e) xs rest x ends h =
    subst (λ v. Goes (run v [] (mode.DefinitionNamed scopes.Unit n p))) (sym h.1) (bounds_go_on n p at x rest ends bs e h.0 h.2.0 h.2.2.0 h.2.2.2.0 h.2.1 h.2.2.1 h.2.2.2.1 h.2.2.2.2)
function_goes n p _ xs rest x ends h = absurd h

rest_goes : (n : List ℕ) (p : Place) (ns : List (List ℕ)) (form : DefinitionForm) (e : Tree) (xs rest : List Laid) (x : Laid) → EndsText x → DefinitionRest ns form e xs (x ∷ rest) → Goes (run xs [] (mode.DefinitionNamed scopes.Unit n p))
rest_goes n p ns definition_forms.Operator e xs rest x ends h =
    subst Goes (sym (operator_begins n p ns xs h.0 h.2.0 h.1 h.2.1)) (body_goes n p p x rest ends (forms.Operator ns) e h.2.0 h.2.2)
rest_goes n p ns definition_forms.Function e xs rest x ends h = function_goes n p e xs rest x ends h.1
rest_goes n p ns definition_forms.Constant e xs rest x ends h = absurd h

definition_goes : (n : List ℕ) (p : Place) (ns : List (List ℕ)) (form : DefinitionForm) (e : Tree) (xs rest : List Laid) (x : Laid) → EndsText x → DefinitionText n p ns form e xs (x ∷ rest) → Goes (run xs [] (mode.DefinitionName scopes.Unit))
definition_goes n p ns form e xs rest x ends h = subst (λ v. Goes (run v [] (mode.DefinitionName scopes.Unit))) (sym h.1) (rest_goes n p ns form e h.0 rest x ends h.2)

pub definition_never_stops : DefinitionNeverStops
definition_never_stops n at ns form e xs rest left x t h q = subst Goes q (definition_goes n at ns form e xs rest x h t)

-- ---- what is refused

-- the whole text of an expression, before other tokens
text_before : (e : Tree) (text ys : List Laid) → Text e text [] → Text e (text ++ ys) ys
text_before e text ys h =
    let l = local_text e text [] h in
    let same : l.0 ≡ text = sym (l.1 ∙ append-nil l.0) in
    subst (λ v. Text e (v ++ ys) ys) same (l.2 ys)

definition_before : (n : List ℕ) (at : Place) (ns : List (List ℕ)) (form : DefinitionForm) (e : Tree) (text ys : List Laid) → DefinitionText n at ns form e text [] → DefinitionText n at ns form e (text ++ ys) ys
definition_before n at ns form e text ys h =
    let l = local_definition n at ns form e text [] h in
    let same : l.0 ≡ text = sym (l.1 ∙ append-nil l.0) in
    subst (λ v. DefinitionText n at ns form e (v ++ ys) ys) same (l.2 ys)

none_ends : (xs left : List Laid) → run xs [] mode.Want ≡ StopsAt left → NoneEnds EndedText xs
none_ends xs left q text rest x w ends h = text_never_stops h.0 xs rest left x (subst (λ v. Text h.0 v (x ∷ rest)) (sym w) (text_before h.0 text (x ∷ rest) h.1)) ends q

no_definition_ends : (xs left : List Laid) → run xs [] (mode.DefinitionName scopes.Unit) ≡ StopsAt left → NoneEnds EndedDefinition xs
no_definition_ends xs left q text rest x w ends h =
    definition_never_stops h.0 h.1 h.2 h.3 h.4 xs rest left x
    (subst (λ v. DefinitionText h.0 h.1 h.2 h.3 h.4 v (x ∷ rest)) (sym w) (definition_before h.0 h.1 h.2 h.3 h.4 text (x ∷ rest) h.5)) ends q

pub refused_unended : RefusedUnended
unfolding kept_run
refused_unended laid from (Expected p) (inl s) = none_ends (drop from laid) (s.0 ∷ s.1) s.2
refused_unended laid from (Expected p) (inr s) = none_ends (drop from laid) [] s.2
refused_unended laid from (OutOfProfile f p) s = none_ends (drop from laid) (s.0 ∷ s.1) s.2
refused_unended laid from (Conflict p q) s = tt
refused_unended laid from (TooNested p) s = tt
refused_unended laid from NoMemory s = tt

pub refused_definition_unended : RefusedDefinitionUnended
unfolding kept_run
refused_definition_unended laid from (Expected p) (inl s) = no_definition_ends (drop from laid) (s.0 ∷ s.1) s.2
refused_definition_unended laid from (Expected p) (inr s) = no_definition_ends (drop from laid) [] s.2
refused_definition_unended laid from (OutOfProfile f p) s = no_definition_ends (drop from laid) (s.0 ∷ s.1) s.2
refused_definition_unended laid from (Conflict p q) s = tt
refused_definition_unended laid from (TooNested p) s = tt
refused_definition_unended laid from NoMemory s = tt

-- ---- what the reader answers

pub unended_result : {A : Type 0} (laid : List Laid) (from : ℕ) (r : Result A ParseFault) → IfErr r (λ e. Refuses laid from mode.Want e) → IfErr r (λ e. IsUnended EndedText (drop from laid) e)
unended_result laid from (Ok v) q = tt
unended_result laid from (Err e) q = refused_unended laid from e q

pub unended_definition : {A : Type 0} (laid : List Laid) (from : ℕ) (r : Result A ParseFault) → IfErr r (λ e. Refuses laid from (mode.DefinitionName scopes.Unit) e) → IfErr r (λ e. IsUnended EndedDefinition (drop from laid) e)
unended_definition laid from (Ok v) q = tt
unended_definition laid from (Err e) q = refused_definition_unended laid from e q
