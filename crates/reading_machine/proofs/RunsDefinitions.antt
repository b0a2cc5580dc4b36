-- Definitions, and LET.
use Rattle.std.proofs.Common.{◌≡◌, ℕ, false, List, [], ◌∷◌, ◌++◌, append_assoc, refl, sym, ap, ◌∙◌}
use Rattle.base_core.specs.declared.place.Place.{Place}
use Rattle.reading_trees.specs.declared.form.DefinitionForm.{DefinitionForm}
use Rattle.reading_trees.specs.declared.form.DefinitionForm.TheVariants as definition_forms
use Rattle.reading_trees.specs.declared.laid.Laid.{Laid}
use Rattle.reading_tokens.specs.declared.token.Kind.TheVariants as kinds
use Rattle.reading_tokens.specs.declared.token.Word.TheVariants as words
use Rattle.reading_tokens.specs.declared.token.Symbol.TheVariants as symbols
use Rattle.reading_trees.specs.Trees as tree
use Rattle.reading_machine.specs.declared.frame.Frame.{Frame}
use Rattle.reading_machine.specs.declared.frame.Frame.TheVariants as frame
use Rattle.reading_machine.specs.declared.frame.Mode.TheVariants as mode
use Rattle.reading_trees.specs.Grammar.{Text, NamesText, ParametersText, FunctionRest, DefinitionsText, DefinitionRest, token, sign}
use Rattle.reading_trees.specs.Trees.{Tree, Definitions, NoDefinitions, MoreDefinitions}
use Rattle.reading_machine.specs.declared.frame.Scope.{Scope}
use Rattle.reading_machine.specs.declared.frame.Scope.TheVariants as scopes
use Rattle.reading_machine.specs.declared.frame.Form.{Form}
use Rattle.reading_machine.specs.declared.frame.Form.TheVariants as forms
use Rattle.reading_machine.specs.declared.frame.Binder.TheVariants as binders
use Rattle.reading_machine.specs.Machine.{Stepped, Reads, behind, is_case_mark, parameters_of, form_of, body_of, want}
use Rattle.reading_machine.proofs.Runner.{Runner, after, run}
use Rattle.reading_machine.proofs.RunsParts.{Runs, FunctionGood, DefinitionsGood, Closing, plain, part}
use Rattle.reading_machine.proofs.RunsBounds.{bounds_run}

-- ---- a definition, up to the token behind it

-- what such a token does
pub record Ends (x : Laid) (s : Scope) (n : List ℕ) (p : Place) (fs : List Frame) (next : List (List ℕ) → DefinitionForm → Tree → Stepped) : Type 0 where
  pub closing : Closing x
  pub no_case : is_case_mark x ≡ false
  pub ends : (form : Form) (e : Tree) → behind x (frame.DefinitionBody s n p form ∷ fs) e ≡ next (parameters_of form) (form_of form) (body_of form e)

-- ---- LET

name_ends : (m : List ℕ) (q at : Place) (ds : Definitions) (n : List ℕ) (p : Place) (fs : List Frame)
    → Ends (plain (kinds.Name m) q) (scopes.Let at ds) n p fs (λ ns form e. Reads fs (mode.DefinitionNamed (scopes.Let at (MoreDefinitions ds n p ns form e)) m q))
name_ends m q at ds n p fs = record { closing = λ gs a. refl; no_case = refl; ends = λ form e. refl }

pub in_ends : (q at : Place) (ds : Definitions) (n : List ℕ) (p : Place) (fs : List Frame)
    → Ends (plain (kinds.Word words.In) q) (scopes.Let at ds) n p fs (λ ns form e. want (frame.LetBody at (MoreDefinitions ds n p ns form e) ∷ fs))
in_ends q at ds n p fs = record { closing = λ gs a. refl; no_case = refl; ends = λ form e. refl }

module _ (reader : Runner) where
  -- ---- up to the body

  pub parameter_names : (s : Scope) (n : List ℕ) (p : Place) (ms ns : List (List ℕ)) (fs : List Frame) (xs ys zs : List Laid) → NamesText ns xs ys → sign symbols.CloseParenthesis ys zs
      → run reader xs fs (mode.Parameter s n p ms) ≡ run reader zs fs (mode.DefinedAs s n p (forms.Operator (ms ++ ns)))
  parameter_names s n p ms [] fs xs ys zs h c = absurd h
  parameter_names s n p ms (m ∷ []) fs xs ys zs h c = ap (λ v. run reader v fs (mode.Parameter s n p ms)) h.1 ∙ ap (λ v. run reader v fs (mode.ParameterNamed s n p (ms ++ m ∷ []))) c.1
  parameter_names s n p ms (m ∷ o ∷ ns) fs xs ys zs h c =
      ap (λ v. run reader v fs (mode.Parameter s n p ms)) h.1.1
      ∙ ap (λ v. run reader v fs (mode.ParameterNamed s n p (ms ++ m ∷ []))) h.2.1.1
      ∙ parameter_names s n p (ms ++ m ∷ []) (o ∷ ns) fs h.2.0 ys zs h.2.2 c
      ∙ ap (λ v. run reader zs fs (mode.DefinedAs s n p (forms.Operator v))) (append_assoc ms (m ∷ []) (o ∷ ns))

  pub operator_begins : (s : Scope) (n : List ℕ) (p : Place) (ns : List (List ℕ)) (fs : List Frame) (xs ys zs : List Laid) → ParametersText ns xs ys → sign symbols.Defined ys zs
      → run reader xs fs (mode.DefinitionNamed s n p) ≡ run reader zs (frame.DefinitionBody s n p (forms.Operator ns) ∷ fs) mode.Want
  operator_begins s n p [] fs xs ys zs h d = ap (λ v. run reader v fs (mode.DefinitionNamed s n p)) (h ∙ d.1)
  operator_begins s n p (m ∷ ns) fs xs ys zs h d =
      ap (λ v. run reader v fs (mode.DefinitionNamed s n p)) h.1.1
      ∙ parameter_names s n p [] (m ∷ ns) fs h.0 h.2.0 ys h.2.1 h.2.2
      ∙ ap (λ v. run reader v fs (mode.DefinedAs s n p (forms.Operator (m ∷ ns)))) d.1

  operator_reads : {x : Laid} {s : Scope} {n : List ℕ} {p : Place} {fs : List Frame} {next : List (List ℕ) → DefinitionForm → Tree → Stepped} → Ends x s n p fs next → (ns : List (List ℕ)) (e : Tree) → Runs reader e → (xs ys zs us vs : List Laid)
      → ParametersText ns xs ys → sign symbols.Defined ys zs → Text e zs us → us ≡ x ∷ vs → run reader xs fs (mode.DefinitionNamed s n p) ≡ after reader (next ns definition_forms.Operator e) (x ∷ vs) (run reader vs)
  operator_reads {x} {s} {n} {p} {fs} d ns e r xs ys zs us vs h q t u =
      operator_begins s n p ns fs xs ys zs h q
      ∙ part reader _ _ e (frame.DefinitionBody s n p (forms.Operator ns) ∷ fs) r tt t u d.no_case d.closing
      ∙ ap (λ v. after reader v (x ∷ vs) (run reader vs)) (d.ends (forms.Operator ns) e)

  function_reads : {x : Laid} {s : Scope} {n : List ℕ} {p : Place} {fs : List Frame} {next : List (List ℕ) → DefinitionForm → Tree → Stepped} → Ends x s n p fs next → (e : Tree) → FunctionGood reader e → (xs us vs : List Laid)
      → FunctionRest e xs us → us ≡ x ∷ vs → run reader xs fs (mode.DefinitionNamed s n p) ≡ after reader (next [] definition_forms.Function e) (x ∷ vs) (run reader vs)
  function_reads {x} {s} {n} {p} {fs} d (tree.Function at bs e) g xs us vs h u =
      ap (λ v. run reader v fs (mode.DefinitionNamed s n p)) h.1
      ∙ bounds_run reader symbols.CloseBracket h.2.2.1.0 (binders.Defined s n p at) bs g.0 fs h.0 h.2.0 h.2.2.0 h.2.1 h.2.2.1.1 refl (λ gs a. refl) (λ b cs ns t gs. refl)
      ∙ ap (λ v. run reader v fs (mode.DefinedAs s n p (forms.Function at bs))) h.2.2.2.1.1
      ∙ part reader _ _ e (frame.DefinitionBody s n p (forms.Function at bs) ∷ fs) g.1.runs tt h.2.2.2.2 u d.no_case d.closing
      ∙ ap (λ v. after reader v (x ∷ vs) (run reader vs)) (d.ends (forms.Function at bs) e)
  function_reads d _ g xs us vs h u = absurd h

  pub definition_reads : {x : Laid} {s : Scope} {n : List ℕ} {p : Place} {fs : List Frame} {next : List (List ℕ) → DefinitionForm → Tree → Stepped} → Ends x s n p fs next → (ns : List (List ℕ)) (form : DefinitionForm) (e : Tree) → Runs reader e → FunctionGood reader e → (xs us vs : List Laid)
      → DefinitionRest ns form e xs us → us ≡ x ∷ vs → run reader xs fs (mode.DefinitionNamed s n p) ≡ after reader (next ns form e) (x ∷ vs) (run reader vs)
  definition_reads d ns definition_forms.Operator e r g xs us vs h u = operator_reads d ns e r xs h.0 h.2.0 us vs h.1 h.2.1 h.2.2 u
  definition_reads d ns definition_forms.Constant e r g xs us vs h u = absurd h
  definition_reads {x} {next = next} d ns definition_forms.Function e r g xs us vs h u =
      function_reads d e g xs us vs h.1 u ∙ ap (λ ms. after reader (next ms definition_forms.Function e) (x ∷ vs) (run reader vs)) (sym h.0)

  -- up to behind the name of a definition
  pub definitions_run : (at : Place) (ds : Definitions) → DefinitionsGood reader ds → (m : List ℕ) (q : Place) (fs : List Frame) (xs ys zs : List Laid) → DefinitionsText ds xs ys → token q (kinds.Name m) ys zs
      → run reader xs fs (mode.DefinitionName (scopes.Let at NoDefinitions)) ≡ run reader zs fs (mode.DefinitionNamed (scopes.Let at ds) m q)
  definitions_run at NoDefinitions g m q fs xs ys zs h t = ap (λ v. run reader v fs (mode.DefinitionName (scopes.Let at NoDefinitions))) (h ∙ t)
  definitions_run at (MoreDefinitions ds n p ns form e) g m q fs xs ys zs h t =
      definitions_run at ds g.0 n p fs xs h.0 h.2.0 h.1 h.2.1
      ∙ definition_reads (name_ends m q at ds n p fs) ns form e g.1.runs g.2 h.2.0 ys zs h.2.2 t

  pub let_runs : (at : Place) (ds : Definitions) (e : Tree) → DefinitionsGood reader ds → Runs reader e → Runs reader (tree.Let at ds e)
  let_runs at NoDefinitions e g r fs top xs ys h = absurd h.2.1
  let_runs at (MoreDefinitions ds n p ns form d) e g r fs top xs ys h =
      let k = h.2.1 in
      ap (λ v. run reader v fs mode.Want) h.1
      ∙ definitions_run at ds g.0 n p fs h.0 k.0 k.2.0 k.1 k.2.1
      ∙ definition_reads (in_ends h.2.2.1.0 at ds n p fs) ns form d g.1.runs g.2 k.2.0 h.2.0 h.2.2.0 k.2.2 h.2.2.1.1
      ∙ r (frame.LetBody at (MoreDefinitions ds n p ns form d) ∷ fs) tt h.2.2.0 ys h.2.2.2
