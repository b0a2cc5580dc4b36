-- The reader goes over the text of definitions and of binders with their bounds.
use Rattle.std.proofs.Common.{◌≡◌, ◌⊎◌, inl, inr, ℕ, Bool, true, false, List, [], ◌∷◌, ◌++◌, append_assoc, refl, sym, ap, subst, ◌∙◌}
use Rattle.std.specs.Prelude.{if◌then◌else◌}
use Rattle.base_core.specs.declared.place.Place.{Place}
use Rattle.reading_trees.specs.declared.laid.Laid.{Laid}
use Rattle.reading_tokens.specs.declared.token.Kind.TheVariants as kinds
use Rattle.reading_tokens.specs.declared.token.Word.TheVariants as words
use Rattle.reading_tokens.specs.declared.token.Symbol.TheVariants as symbols
use Rattle.reading_trees.specs.declared.operators.Quantifier.{Quantifier}
use Rattle.reading_trees.specs.declared.operators.Quantifier.TheVariants as quantifiers
use Rattle.reading_trees.specs.Precedence.{quantifier_symbol}
use Rattle.reading_trees.specs.Fits.{Fits, BoundsFit, DefinitionsFit}
use Rattle.reading_trees.specs.Grammar.{◌⨟◌, token, sign, NamesBefore, NamesText, BoundsBefore, begins_member}
use Rattle.reading_trees.specs.Trees.{NoTrees, Bounds, NoBounds, MoreBounds, Definitions, NoDefinitions, MoreDefinitions}
use Rattle.reading_machine.specs.declared.frame.Scope.{Scope}
use Rattle.reading_machine.specs.declared.frame.Scope.TheVariants as scopes
use Rattle.reading_machine.specs.declared.frame.Form.{Form}
use Rattle.reading_machine.specs.declared.frame.Form.TheVariants as forms
use Rattle.reading_machine.specs.declared.frame.Binder.{Binder}
use Rattle.reading_machine.specs.declared.frame.Binder.TheVariants as binders
use Rattle.reading_machine.specs.declared.frame.Frame.{Frame}
use Rattle.reading_machine.specs.declared.frame.Frame.TheVariants as frame
use Rattle.reading_machine.specs.declared.frame.Mode.{Mode}
use Rattle.reading_machine.specs.declared.frame.Mode.TheVariants as mode
use Rattle.reading_machine.specs.Machine.{Reads, Stops, begin_binding, step}
use Rattle.reading_machine.specs.OpenFits.{FormFits}
use Rattle.reading_machine.specs.OpenRows.{ScopeText, FormText, BinderText, FrameText}
use Rattle.reading_machine.proofs.FittingEnds.{first_mode}
use Rattle.reading_expressions.proofs.ReadingStarts.{Ready, enter, enters_by}
use Rattle.reading_machine.proofs.Runner.{Runner, after, run}
use Rattle.reading_machine.proofs.RunsStarts.{is_closer, Clear}
use Rattle.reading_machine.proofs.RunsParts.{plain, part}
use Rattle.reading_machine.proofs.RunsBounds.{binding, quantifier_begins, names_run, bounds_before, bounds_run}
use Rattle.reading_machine.proofs.RunsBraces.{is_in, braces_start}
use Rattle.reading_machine.proofs.RunsBrackets as brackets
use Rattle.reading_machine.proofs.RunsDefinitions.{operator_begins, parameter_names, in_ends, definition_reads, definitions_run}
use Rattle.reading_machine.proofs.RunsTrees.{good, bounds_good, definitions_good}

append_nil : (xs : List (List ℕ)) → xs ++ [] ≡ xs
append_nil [] = refl
append_nil (x ∷ xs) = ap (λ v. x ∷ v) (append_nil xs)

-- names with commas, where one mode expects a name and the other a comma
module _ (reader : Runner) (fs : List Frame) (before named : List (List ℕ) → Mode)
    (by_name : (ms : List (List ℕ)) (m : List ℕ) (p : Place) → step (plain (kinds.Name m) p) fs (before ms) ≡ Reads fs (named (ms ++ m ∷ [])))
    (by_comma : (ms : List (List ℕ)) (p : Place) → step (plain (kinds.Symbol symbols.Comma) p) fs (named ms) ≡ Reads fs (before ms)) where
  one_name : (ms : List (List ℕ)) (m : List ℕ) (p : Place) (xs ys : List Laid) → xs ≡ plain (kinds.Name m) p ∷ ys → run reader xs fs (before ms) ≡ run reader ys fs (named (ms ++ m ∷ []))
  one_name ms m p xs ys h = ap (λ v. run reader v fs (before ms)) h ∙ ap (λ s. after reader s (plain (kinds.Name m) p ∷ ys) (run reader ys)) (by_name ms m p)

  one_comma : (ms : List (List ℕ)) (p : Place) (xs ys : List Laid) → xs ≡ plain (kinds.Symbol symbols.Comma) p ∷ ys → run reader xs fs (named ms) ≡ run reader ys fs (before ms)
  one_comma ms p xs ys h = ap (λ v. run reader v fs (named ms)) h ∙ ap (λ s. after reader s (plain (kinds.Symbol symbols.Comma) p ∷ ys) (run reader ys)) (by_comma ms p)

  pub names_before_go : (ms ns : List (List ℕ)) (xs ys : List Laid) → NamesBefore ns xs ys → run reader xs fs (before ms) ≡ run reader ys fs (before (ms ++ ns))
  names_before_go ms [] xs ys h = ap (λ v. run reader v fs (before ms)) h ∙ ap (λ v. run reader ys fs (before v)) (sym (append_nil ms))
  names_before_go ms (m ∷ ns) xs ys h =
      one_name ms m h.1.0 xs h.0 h.1.1 ∙ one_comma (ms ++ m ∷ []) h.2.1.0 h.0 h.2.0 h.2.1.1
      ∙ names_before_go (ms ++ m ∷ []) ns h.2.0 ys h.2.2 ∙ ap (λ v. run reader ys fs (before v)) (append_assoc ms (m ∷ []) ns)

  pub names_go : (ms ns : List (List ℕ)) (xs ys : List Laid) → NamesText ns xs ys → run reader xs fs (before ms) ≡ run reader ys fs (named (ms ++ ns))
  names_go ms [] xs ys h = absurd h
  names_go ms (m ∷ []) xs ys h = one_name ms m h.0 xs ys h.1
  names_go ms (m ∷ o ∷ ns) xs ys h =
      one_name ms m h.1.0 xs h.0 h.1.1 ∙ one_comma (ms ++ m ∷ []) h.2.1.0 h.0 h.2.0 h.2.1.1
      ∙ names_go (ms ++ m ∷ []) (o ∷ ns) h.2.0 ys h.2.2 ∙ ap (λ v. run reader ys fs (named v)) (append_assoc ms (m ∷ []) (o ∷ ns))

-- ---- definitions

-- a LET stands where an expression may, a unit's definition in nothing
abbrev pub ScopeStands : Bool → Scope → List Frame → Type 0
ScopeStands unit (scopes.Let at ds) gs = Ready unit gs × DefinitionsFit ds
ScopeStands unit scopes.Unit gs = (gs ≡ []) × (unit ≡ true)

abbrev pub BinderStands : Bool → Binder → List Frame → Type 0
BinderStands unit (binders.Quantifier q at) gs = Ready unit gs
BinderStands unit (binders.Function at) gs = Ready unit gs
BinderStands unit (binders.Map at e) gs = Ready unit gs × Fits e × (begins_member e ≡ false)
BinderStands unit (binders.Defined s n p q) gs = ScopeStands unit s gs

-- without parameters the reader may still read some
abbrev pub form_mode : Scope → List ℕ → Place → Form → Mode
form_mode s n p (forms.Operator []) = mode.DefinitionNamed s n p
form_mode s n p (forms.Operator (m ∷ ns)) = mode.DefinedAs s n p (forms.Operator (m ∷ ns))
form_mode s n p (forms.Function at bs) = mode.DefinedAs s n p (forms.Function at bs)

module _ (reader : Runner) where
  function_form : (s : Scope) (n : List ℕ) (p at : Place) (bs : Bounds) → BoundsFit bs → (gs : List Frame) (xs ys : List Laid) → FormText (forms.Function at bs) xs ys
      → run reader xs gs (mode.DefinitionNamed s n p) ≡ run reader ys gs (mode.DefinedAs s n p (forms.Function at bs))
  function_form s n p at bs f gs xs ys h =
      ap (λ v. run reader v gs (mode.DefinitionNamed s n p)) h.1
      ∙ bounds_run reader symbols.CloseBracket h.2.2.0 (binders.Defined s n p at) bs (bounds_good reader bs f) gs h.0 h.2.0 ys h.2.1 h.2.2.1 refl (λ hs a. refl) (λ b cs ns t hs. refl)

  pub form_goes : (s : Scope) (n : List ℕ) (p : Place) (form : Form) → FormFits form → (gs : List Frame) (xs ys zs : List Laid) → FormText form xs ys → sign symbols.Defined ys zs
      → run reader xs gs (mode.DefinitionNamed s n p) ≡ run reader zs (frame.DefinitionBody s n p form ∷ gs) mode.Want
  form_goes s n p (forms.Operator ns) f gs xs ys zs h d = operator_begins reader s n p ns gs xs ys zs h d
  form_goes s n p (forms.Function at bs) f gs xs ys zs h d =
      function_form s n p at bs f gs xs ys h ∙ ap (λ v. run reader v gs (mode.DefinedAs s n p (forms.Function at bs))) d.1

  pub form_read : (s : Scope) (n : List ℕ) (p : Place) (form : Form) → FormFits form → (gs : List Frame) (xs ys : List Laid) → FormText form xs ys
      → run reader xs gs (mode.DefinitionNamed s n p) ≡ run reader ys gs (form_mode s n p form)
  form_read s n p (forms.Operator []) f gs xs ys h = ap (λ v. run reader v gs (mode.DefinitionNamed s n p)) h
  form_read s n p (forms.Operator (m ∷ ns)) f gs xs ys h =
      ap (λ v. run reader v gs (mode.DefinitionNamed s n p)) h.1.1 ∙ parameter_names reader s n p [] (m ∷ ns) gs h.0 h.2.0 ys h.2.1 h.2.2
  form_read s n p (forms.Function at bs) f gs xs ys h = function_form s n p at bs f gs xs ys h

  pub let_body_goes : (p : Place) (ds : Definitions) → DefinitionsFit ds → (gs : List Frame) (xs ys : List Laid) → FrameText (frame.LetBody p ds) xs ys → run reader xs gs mode.Want ≡ run reader ys (frame.LetBody p ds ∷ gs) mode.Want
  let_body_goes p NoDefinitions f gs xs ys h = absurd h.2.1
  let_body_goes p (MoreDefinitions ds n q ns form d) f gs xs ys h =
      let k = h.2.1 in
      let g = definitions_good reader (MoreDefinitions ds n q ns form d) f in
      ap (λ v. run reader v gs mode.Want) h.1
      ∙ definitions_run reader p ds g.0 n q gs h.0 k.0 k.2.0 k.1 k.2.1
      ∙ definition_reads reader (in_ends h.2.2.0 p ds n q gs) ns form d g.1.runs g.2 k.2.0 h.2.0 ys k.2.2 h.2.2.1

  -- names in a binder, behind other bounds
  pub bound_names_before : (c : Binder) (bs : Bounds) (ms ns : List (List ℕ)) (gs : List Frame) (xs ys : List Laid) → NamesBefore ns xs ys → run reader xs gs (mode.BoundName (binding c bs) ms) ≡ run reader ys gs (mode.BoundName (binding c bs) (ms ++ ns))
  bound_names_before c bs ms ns gs xs ys h = names_before_go reader gs (λ v. mode.BoundName (binding c bs) v) (λ v. mode.BoundNamed (binding c bs) v) (λ us m p. refl) (λ us p. refl) ms ns xs ys h

  pub bound_names : (c : Binder) (bs : Bounds) (ms ns : List (List ℕ)) (gs : List Frame) (xs ys : List Laid) → NamesText ns xs ys → run reader xs gs (mode.BoundName (binding c bs) ms) ≡ run reader ys gs (mode.BoundNamed (binding c bs) (ms ++ ns))
  bound_names c bs ms ns gs xs ys h = names_go reader gs (λ v. mode.BoundName (binding c bs) v) (λ v. mode.BoundNamed (binding c bs) v) (λ us m p. refl) (λ us p. refl) ms ns xs ys h

  pub parameters_before : (s : Scope) (n : List ℕ) (p : Place) (ns : List (List ℕ)) (gs : List Frame) (xs ys : List Laid) → NamesBefore ns xs ys → run reader xs gs (mode.Parameter s n p []) ≡ run reader ys gs (mode.Parameter s n p ns)
  parameters_before s n p ns gs xs ys h = names_before_go reader gs (λ v. mode.Parameter s n p v) (λ v. mode.ParameterNamed s n p v) (λ us m q. refl) (λ us q. refl) [] ns xs ys h

  pub parameters : (s : Scope) (n : List ℕ) (p : Place) (ns : List (List ℕ)) (gs : List Frame) (xs ys : List Laid) → NamesText ns xs ys → run reader xs gs (mode.Parameter s n p []) ≡ run reader ys gs (mode.ParameterNamed s n p ns)
  parameters s n p ns gs xs ys h = names_go reader gs (λ v. mode.Parameter s n p v) (λ v. mode.ParameterNamed s n p v) (λ us m q. refl) (λ us q. refl) [] ns xs ys h

  -- where the reader stands behind the bounds of a binder: the first bound of a function may still be something else
  abbrev pub bounds_state : Binder → Bounds → List Frame → List Laid → reader.Told
  bounds_state (binders.Function at) NoBounds gs xs = run reader xs gs (mode.BracketStart at)
  bounds_state c bs gs xs = run reader xs gs (mode.BoundName (binding c bs) [])

  -- the first name of a function and `\in`, or the row of a bound
  abbrev pub SetRead : reader.Told → Binder → Bounds → List (List ℕ) → List Frame → List Laid → Type 0
  SetRead told c bs ns gs zs =
      (told ≡ run reader zs (frame.BoundSet (binding c bs) ns ∷ gs) mode.Want)
      ⊎ ((at : Place) × (n : List ℕ) × (p : Place) × (q : Place) × (c ≡ binders.Function at) × (told ≡ run reader zs (frame.MaybeFunction at n p q ∷ gs) mode.Want))

  pub set_read : (c : Binder) (bs : Bounds) (ns : List (List ℕ)) (gs : List Frame) (xs ys zs : List Laid) → NamesText ns xs ys → sign symbols.Member ys zs → SetRead (bounds_state c bs gs xs) c bs ns gs zs
  set_read (binders.Function at) NoBounds [] gs xs ys zs h m = absurd h
  set_read (binders.Function at) NoBounds (n ∷ []) gs xs ys zs h m =
      inr (at, n, h.0, m.0, refl, ap (λ v. run reader v gs (mode.BracketStart at)) h.1 ∙ ap (λ v. run reader v gs (mode.BracketName at n h.0)) m.1)
  set_read (binders.Function at) NoBounds (n ∷ o ∷ ns) gs xs ys zs h m =
      inl (ap (λ v. run reader v gs (mode.BracketStart at)) h.1.1 ∙ ap (λ v. run reader v gs (mode.BracketName at n h.1.0)) h.2.1.1
      ∙ names_run reader (binding (binders.Function at) NoBounds) (n ∷ []) (o ∷ ns) gs h.2.0 ys zs h.2.2 m)
  set_read (binders.Function at) (MoreBounds bs us s) ns gs xs ys zs h m = inl (names_run reader (binding (binders.Function at) (MoreBounds bs us s)) [] ns gs xs ys zs h m)
  set_read c bs ns gs xs ys zs h m = inl (names_run reader (binding c bs) [] ns gs xs ys zs h m)

-- ---- behind the rows around

pub quantifier_open : (q : Quantifier) → is_closer (quantifier_symbol q) ≡ false
quantifier_open quantifiers.ForAll = refl
quantifier_open quantifiers.Exists = refl

module _ (reader : Runner) (unit : Bool) where
  pub named_goes : (s : Scope) (n : List ℕ) (p : Place) (gs : List Frame) → ScopeStands unit s gs → (xs ys : List Laid) → (ScopeText s ⨟ token p (kinds.Name n)) xs ys → enter reader unit xs gs ≡ run reader ys gs (mode.DefinitionNamed s n p)
  named_goes (scopes.Let at ds) n p gs r xs ys h =
      enters_by reader unit gs r.0 (kinds.Word words.Let) at xs h.1.0 h.1.1 refl tt
      ∙ ap (λ v. run reader v gs mode.Want) h.1.1
      ∙ definitions_run reader at ds (definitions_good reader ds r.1) n p gs h.1.0 h.0 ys h.1.2 h.2
  named_goes scopes.Unit n p gs r xs ys h =
      ap (λ g. enter reader unit xs g) r.0
      ∙ ap (λ u. run reader xs [] (first_mode u)) r.1
      ∙ ap (λ v. run reader v [] (mode.DefinitionName scopes.Unit)) (h.1 ∙ h.2)
      ∙ ap (λ g. run reader ys g (mode.DefinitionNamed scopes.Unit n p)) (sym r.0)

  pub binder_goes : (c : Binder) (bs : Bounds) → BoundsFit bs → (gs : List Frame) → BinderStands unit c gs → (xs ys : List Laid) → (BinderText c ⨟ BoundsBefore bs) xs ys → enter reader unit xs gs ≡ bounds_state reader c bs gs ys
  binder_goes (binders.Quantifier q at) bs f gs r xs ys h =
      enters_by reader unit gs r (kinds.Symbol (quantifier_symbol q)) at xs h.0 h.1 (quantifier_open q) tt
      ∙ ap (λ v. run reader v gs mode.Want) h.1
      ∙ ap (λ s. after reader s (plain (kinds.Symbol (quantifier_symbol q)) at ∷ h.0) (run reader h.0)) (quantifier_begins q at gs)
      ∙ bounds_before reader (binders.Quantifier q at) bs (bounds_good reader bs f) gs h.0 ys h.2
  binder_goes (binders.Function at) NoBounds f gs r xs ys h =
      enters_by reader unit gs r (kinds.Symbol symbols.OpenBracket) at xs h.0 h.1 refl tt
      ∙ ap (λ v. run reader v gs mode.Want) h.1 ∙ ap (λ v. run reader v gs (mode.BracketStart at)) h.2
  binder_goes (binders.Function at) (MoreBounds bs ns s) f gs r xs ys h =
      enters_by reader unit gs r (kinds.Symbol symbols.OpenBracket) at xs h.0 h.1 refl tt
      ∙ ap (λ v. run reader v gs mode.Want) h.1
      ∙ brackets.bounds_before reader at bs ns s (bounds_good reader (MoreBounds bs ns s) f) gs h.0 ys h.2
  binder_goes (binders.Map at e) bs f gs r xs ys h =
      let k = h.1 in
      enters_by reader unit gs r.0 (kinds.Symbol symbols.OpenBrace) at xs k.0 k.1 refl tt
      ∙ ap (λ v. run reader v gs mode.Want) k.1
      ∙ braces_start reader e r.2 at gs k.0 k.2.0 k.2.1 (subst (Clear is_in) (sym k.2.2.1) refl)
      ∙ part reader _ _ e (frame.Braces at NoTrees ∷ gs) (good reader e r.1).runs tt k.2.1 k.2.2.1 refl (λ hs a. refl)
      ∙ ap (λ b. after reader (if b then Stops else Reads gs (begin_binding (binders.Map at e))) (plain (kinds.Symbol symbols.Colon) k.2.2.0 ∷ h.0) (run reader h.0)) r.2
      ∙ bounds_before reader (binders.Map at e) bs (bounds_good reader bs f) gs h.0 ys h.2
  binder_goes (binders.Defined s n p q) bs f gs r xs ys h =
      let k = h.1 in
      named_goes s n p gs r xs k.2.0 (k.0, k.1, k.2.1)
      ∙ ap (λ v. run reader v gs (mode.DefinitionNamed s n p)) k.2.2
      ∙ bounds_before reader (binders.Defined s n p q) bs (bounds_good reader bs f) gs h.0 ys h.2
