-- What is read is not nothing.
use Rattle.std.proofs.Common.{◌≡◌, ℕ, ◌-◌, ◌<◌, ◌≤◌, List, [], ◌∷◌, length, drop, subst, arith}
use Rattle.std.proofs.lemmas.List.{length-drop}
use Rattle.base_core.specs.declared.place.Place.{Place}
use Rattle.reading_trees.specs.declared.form.DefinitionForm.{DefinitionForm}
use Rattle.reading_trees.specs.declared.laid.Laid.{Laid}
use Rattle.reading_trees.specs.declared.laid.Laid.TheVariants.{Plain, ListOpen, ListItem, ListClose}
use Rattle.reading_tokens.specs.declared.token.Kind.{Kind}
use Rattle.reading_tokens.specs.declared.token.Kind.TheVariants as kinds
use Rattle.reading_tokens.specs.declared.token.Word.{Word}
use Rattle.reading_tokens.specs.declared.token.Word.TheVariants as words
use Rattle.reading_tokens.specs.declared.token.Symbol.{Symbol}
use Rattle.reading_tokens.specs.declared.token.Symbol.TheVariants as symbols
use Rattle.reading_trees.specs.Trees.{Tree}
use Rattle.reading_machine.specs.Machine.{Stepped, Reads, Stops, Clashes, Ends, EndsDefinition, Outcome, StopsAt, ClashesAt, EndsAt, EndsDefinitionAt, after, run, step, token_begins, word_begins, symbol_begins}
use Rattle.reading_machine.specs.declared.frame.Frame.{Frame}
use Rattle.reading_machine.specs.declared.frame.Mode.{Mode}
use Rattle.reading_machine.specs.declared.frame.Mode.TheVariants as mode
use Rattle.reading_machine.specs.declared.frame.Scope.{Scope}

abbrev NeverEnds : Stepped → Type 0
NeverEnds (Ends e) = ⊥
NeverEnds (EndsDefinition n p ns form e) = ⊥
NeverEnds _ = Unit {0}

word_never : (w : Word) (at : Place) (fs : List Frame) → NeverEnds (word_begins w at fs)
word_never words.True at fs = tt
word_never words.False at fs = tt
word_never words.Boolean at fs = tt
word_never words.String at fs = tt
word_never words.Unchanged at fs = tt
word_never words.Enabled at fs = tt
word_never words.Subset at fs = tt
word_never words.Union at fs = tt
word_never words.Domain at fs = tt
word_never words.Choose at fs = tt
word_never words.If at fs = tt
word_never words.Case at fs = tt
word_never words.Let at fs = tt
word_never _ at fs = tt

symbol_never : (s : Symbol) (at : Place) (fs : List Frame) → NeverEnds (symbol_begins s at fs)
symbol_never symbols.At at fs = tt
symbol_never symbols.OpenParenthesis at fs = tt
symbol_never symbols.OpenBracket at fs = tt
symbol_never symbols.OpenBrace at fs = tt
symbol_never symbols.OpenTuple at fs = tt
symbol_never symbols.Not at fs = tt
symbol_never symbols.Always at fs = tt
symbol_never symbols.Eventually at fs = tt
symbol_never symbols.Minus at fs = tt
symbol_never symbols.ForAll at fs = tt
symbol_never symbols.Exists at fs = tt
symbol_never _ at fs = tt

kind_never : (k : Kind) (at : Place) (fs : List Frame) → NeverEnds (token_begins k at fs)
kind_never (kinds.Name n) at fs = tt
kind_never (kinds.Number z) at fs = tt
kind_never (kinds.Str s) at fs = tt
kind_never kinds.Fair at fs = tt
kind_never (kinds.Word w) at fs = word_never w at fs
kind_never (kinds.Symbol s) at fs = symbol_never s at fs
kind_never _ at fs = tt

want_never : (x : Laid) (fs : List Frame) → NeverEnds (step x fs mode.Want)
want_never (Plain t) fs = kind_never t.kind t.place fs
want_never (ListOpen b at) fs = tt
want_never (ListItem b at) fs = tt
want_never (ListClose at) fs = tt

name_never : (k : Kind) (s : Scope) (at : Place) (fs : List Frame) → NeverEnds (step (Plain (record { kind = k; place = at })) fs (mode.DefinitionName s))
name_never (kinds.Name n) s at fs = tt
name_never _ s at fs = tt

definition_never : (x : Laid) (s : Scope) (fs : List Frame) → NeverEnds (step x fs (mode.DefinitionName s))
definition_never (Plain t) s fs = name_never t.kind s t.place fs
definition_never (ListOpen b at) s fs = tt
definition_never (ListItem b at) s fs = tt
definition_never (ListClose at) s fs = tt

-- what is left has at most so many tokens
abbrev Left : ℕ → Outcome → Type 0
Left n (EndsAt e rest) = length rest ≤ n
Left n (EndsDefinitionAt m p ns form e rest) = length rest ≤ n
Left n _ = Unit {0}

more_left : (n m : ℕ) (o : Outcome) → n ≤ m → Left n o → Left m o
more_left n m (EndsAt e rest) k h = omega (arith, h, k)
more_left n m (EndsDefinitionAt w p ns form e rest) k h = omega (arith, h, k)
more_left n m (StopsAt rest) k h = tt
more_left n m (ClashesAt p q rest) k h = tt

after_left : (n : ℕ) (here : List Laid) (s : Stepped) (next : List Frame → Mode → Outcome) → length here ≤ n → ((fs : List Frame) (m : Mode) → Left n (next fs m)) → Left n (after s here next)
after_left n here (Reads fs m) next h g = g fs m
after_left n here Stops next h g = tt
after_left n here (Clashes p q) next h g = tt
after_left n here (Ends e) next h g = h
after_left n here (EndsDefinition m p ns form e) next h g = h

run_left : (xs : List Laid) (fs : List Frame) (m : Mode) → Left (length xs) (run xs fs m)
run_left [] fs m = tt
run_left (x ∷ xs) fs m = after_left (length (x ∷ xs)) (x ∷ xs) (step x fs m) (run xs) (omega arith) (λ gs n. more_left (length xs) (length (x ∷ xs)) (run xs gs n) (omega arith) (run_left xs gs n))

-- where the first token ends nothing, fewer are left
first_left : (x : Laid) (xs : List Laid) (s : Stepped) → NeverEnds s → Left (length xs) (after s (x ∷ xs) (run xs))
first_left x xs (Reads fs m) h = run_left xs fs m
first_left x xs Stops h = tt
first_left x xs (Clashes p q) h = tt
first_left x xs (Ends e) h = absurd h
first_left x xs (EndsDefinition n p ns form e) h = absurd h

one_less : (x : Laid) (xs : List Laid) → length xs ≡ length (x ∷ xs) - 1
one_less x xs = omega arith

begun_left : (ys : List Laid) (m : Mode) (o : Outcome) → 0 < length ys → ((x : Laid) → NeverEnds (step x [] m)) → run ys [] m ≡ o → Left (length ys - 1) o
begun_left [] m o h _ _ = absurd (omega arith)
begun_left (x ∷ xs) m o h never e = subst (λ p. Left p o) (one_less x xs) (subst (λ p. Left (length xs) p) e (first_left x xs (step x [] m) (never x)))

further : (laid : List Laid) (from i : ℕ) → from < length laid → i < length laid → length (drop i laid) ≤ length (drop from laid) - 1 → from < i
further laid from i f w h = omega (arith, length-drop i laid, length-drop from laid)

some_left : (laid : List Laid) (from : ℕ) → from < length laid → 0 < length (drop from laid)
some_left laid from f = omega (arith, length-drop from laid)

pub expression_ahead : (laid : List Laid) (from i : ℕ) (e : Tree) → from < length laid → i < length laid → run (drop from laid) [] mode.Want ≡ EndsAt e (drop i laid) → from < i
expression_ahead laid from i e f w q =
    further laid from i f w (begun_left (drop from laid) mode.Want (EndsAt e (drop i laid)) (some_left laid from f) (λ x. want_never x []) q)

pub definition_ahead : (laid : List Laid) (from i : ℕ) (s : Scope) (n : List ℕ) (p : Place) (ns : List (List ℕ)) (form : DefinitionForm) (e : Tree) → from < length laid → i < length laid → run (drop from laid) [] (mode.DefinitionName s) ≡ EndsDefinitionAt n p ns form e (drop i laid) → from < i
definition_ahead laid from i s n p ns form e f w q =
    further laid from i f w (begun_left (drop from laid) (mode.DefinitionName s) (EndsDefinitionAt n p ns form e (drop i laid)) (some_left laid from f) (λ x. definition_never x s []) q)
