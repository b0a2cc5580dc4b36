-- A text spells one tree.
use Rattle.std.proofs.Common.{◌≡◌, ℕ, List, [], ◌∷◌, ◌++◌, refl, sym, ap, ◌∙◌}
use Rattle.std.proofs.lemmas.List.{append_cancel_right}
use Rattle.base_core.specs.declared.place.Place.{Place}
use Rattle.reading_trees.specs.declared.form.DefinitionForm.{DefinitionForm}
use Rattle.reading_trees.specs.declared.laid.Laid.{Laid}
use Rattle.reading_trees.specs.declared.laid.Laid.TheVariants.{Plain, ListOpen, ListItem, ListClose}
use Rattle.reading_tokens.specs.declared.token.Kind.{Kind}
use Rattle.reading_tokens.specs.declared.token.Kind.TheVariants as kinds
use Rattle.reading_tokens.specs.declared.token.Symbol.TheVariants as symbols
use Rattle.reading_trees.specs.Trees.{Tree}
use Rattle.reading_trees.specs.Grammar.{◌⨟◌, token, Text, DefinitionRest}
use Rattle.reading_trees.specs.Fits.{Spells, Fits}
use Rattle.reading_machine.specs.declared.frame.Mode.TheVariants as mode
use Rattle.reading_machine.specs.declared.frame.Scope.TheVariants as scopes
use Rattle.reading_machine.specs.Machine.{EndsDefinition, EndsAt, EndsDefinitionAt, run}
use Rattle.reading_machine.specs.LawsOfTrees.{EndsKind, SpelledRead, DefinitionRead}
use Rattle.reading_machine.proofs.Runner.{model, model_runs}
use Rattle.reading_machine.proofs.RunsParts.{plain, part}
use Rattle.reading_machine.proofs.RunsDefinitions.{Ends, definition_reads}
use Rattle.reading_machine.proofs.RunsTrees.{good, function_good}
use Rattle.reading_machine.proofs.UniqueSpans.{Front, tree_local}

-- ---- an expression up to a token that ends it

kind_read : (xs rest : List Laid) (k : Kind) (at : Place) (e : Tree) → Fits e → Text e xs (plain k at ∷ rest) → EndsKind k → run xs [] mode.Want ≡ EndsAt e (plain k at ∷ rest)
kind_read xs rest (kinds.Name n) at e f h q = model_runs xs [] mode.Want ∙ part model xs (plain (kinds.Name n) at ∷ rest) e [] (good model e f).runs tt h refl refl (λ fs a. refl)
kind_read xs rest (kinds.Word w) at e f h q = model_runs xs [] mode.Want ∙ part model xs (plain (kinds.Word w) at ∷ rest) e [] (good model e f).runs tt h refl refl (λ fs a. refl)
kind_read xs rest (kinds.Foreign o) at e f h q = model_runs xs [] mode.Want ∙ part model xs (plain (kinds.Foreign o) at ∷ rest) e [] (good model e f).runs tt h refl refl (λ fs a. refl)
kind_read xs rest (kinds.Symbol symbols.Comma) at e f h q = model_runs xs [] mode.Want ∙ part model xs (plain (kinds.Symbol symbols.Comma) at ∷ rest) e [] (good model e f).runs tt h refl refl (λ fs a. refl)
kind_read xs rest kinds.Dashes at e f h q = model_runs xs [] mode.Want ∙ part model xs (plain kinds.Dashes at ∷ rest) e [] (good model e f).runs tt h refl refl (λ fs a. refl)
kind_read xs rest kinds.Equals at e f h q = model_runs xs [] mode.Want ∙ part model xs (plain kinds.Equals at ∷ rest) e [] (good model e f).runs tt h refl refl (λ fs a. refl)
kind_read xs rest kinds.End at e f h q = model_runs xs [] mode.Want ∙ part model xs (plain kinds.End at ∷ rest) e [] (good model e f).runs tt h refl refl (λ fs a. refl)
kind_read xs rest _ at e f h q = absurd q

pub spelled_read : SpelledRead
spelled_read xs rest (Plain t) e s h = kind_read xs rest t.kind t.place e s.fits s.text h
spelled_read xs rest (ListOpen b at) e s h = absurd h
spelled_read xs rest (ListItem b at) e s h = absurd h
spelled_read xs rest (ListClose at) e s h = absurd h

-- ---- a unit's definition up to such a token

kind_ends : (k : Kind) (at : Place) (n : List ℕ) (p : Place) → EndsKind k → Ends (plain k at) scopes.Unit n p [] (λ ns form e. EndsDefinition n p ns form e)
kind_ends (kinds.Name m) at n p q = record { closing = λ fs e. refl; no_case = refl; ends = λ form e. refl }
kind_ends (kinds.Word w) at n p q = record { closing = λ fs e. refl; no_case = refl; ends = λ form e. refl }
kind_ends (kinds.Foreign f) at n p q = record { closing = λ fs e. refl; no_case = refl; ends = λ form e. refl }
kind_ends (kinds.Symbol symbols.Comma) at n p q = record { closing = λ fs e. refl; no_case = refl; ends = λ form e. refl }
kind_ends kinds.Dashes at n p q = record { closing = λ fs e. refl; no_case = refl; ends = λ form e. refl }
kind_ends kinds.Equals at n p q = record { closing = λ fs e. refl; no_case = refl; ends = λ form e. refl }
kind_ends kinds.End at n p q = record { closing = λ fs e. refl; no_case = refl; ends = λ form e. refl }
kind_ends _ at n p q = absurd q

kind_defined : (xs rest : List Laid) (k : Kind) (at : Place) (n : List ℕ) (p : Place) (ns : List (List ℕ)) (form : DefinitionForm) (e : Tree) → (token p (kinds.Name n) ⨟ DefinitionRest ns form e) xs (plain k at ∷ rest) → Fits e → EndsKind k
    → run xs [] (mode.DefinitionName scopes.Unit) ≡ EndsDefinitionAt n p ns form e (plain k at ∷ rest)
kind_defined xs rest k at n p ns form e h f q =
    ap (λ v. run v [] (mode.DefinitionName scopes.Unit)) h.1
    ∙ model_runs h.0 [] (mode.DefinitionNamed scopes.Unit n p)
    ∙ definition_reads model (kind_ends k at n p q) ns form e (good model e f).runs (function_good model e f) h.0 (plain k at ∷ rest) rest h.2 refl

pub definition_read : DefinitionRead
definition_read xs rest (Plain t) n p ns form e h f q = kind_defined xs rest t.kind t.place n p ns form e h f q
definition_read xs rest (ListOpen b at) n p ns form e h f q = absurd q
definition_read xs rest (ListItem b at) n p ns form e h f q = absurd q
definition_read xs rest (ListClose at) n p ns form e h f q = absurd q

-- ---- one tree

same_read : (xs : List Laid) (s t : Tree) → EndsAt s xs ≡ EndsAt t xs → s ≡ t
same_read xs s t q = cc

pub one_between : (xs ys : List Laid) (s t : Tree) → Spells s xs ys → Spells t xs ys → s ≡ t
one_between xs ys s t a b =
    let f : Front (Text s) xs ys = tree_local s xs ys a.text in
    let g : Front (Text t) xs ys = tree_local t xs ys b.text in
    let at : Place = record { file = 0; line = 0; col = 0 } in
    let here : List Laid = plain kinds.End at ∷ [] in
    let q : f.front ≡ g.front = append_cancel_right f.front g.front ys (sym f.here ∙ g.here) in
    same_read here s t
    (sym (kind_read (f.front ++ here) [] kinds.End at s a.fits (f.anywhere here) tt)
    ∙ ap (λ v. run (v ++ here) [] mode.Want) q
    ∙ kind_read (g.front ++ here) [] kinds.End at t b.fits (g.anywhere here) tt)

pub one_tree : (laid : List Laid) (s t : Tree) → Spells s laid [] → Spells t laid [] → s ≡ t
one_tree laid s t a b = one_between laid [] s t a b
