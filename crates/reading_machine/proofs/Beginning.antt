-- What a token does where an expression is expected.
use Rattle.std.proofs.Common.{◌≡◌, ℕ, List, ◌∷◌, refl, ap}
use Rattle.base_core.specs.declared.place.Place.{Place}
use Rattle.reading_trees.specs.declared.laid.Laid.{Laid}
use Rattle.reading_trees.specs.declared.laid.Laid.TheVariants.{Plain, ListOpen, ListItem, ListClose}
use Rattle.reading_tokens.specs.declared.token.Kind.{Kind}
use Rattle.reading_tokens.specs.declared.token.Word.{Word}
use Rattle.reading_tokens.specs.declared.token.Symbol.{Symbol}
use Rattle.reading_trees.specs.declared.operators.PrefixOperator.{PrefixOperator}
use Rattle.reading_trees.specs.Precedence.{prefix_kind}
use Rattle.reading_trees.specs.Trees.{NoArms}
use Rattle.reading_machine.specs.declared.frame.Frame.{Frame}
use Rattle.reading_machine.specs.Machine.{Stepped, prefix_step, word_begins, symbol_begins, token_begins, begins, name_or, on_name, symbol_or, on_symbol, subscript_symbol, subscript_started}
use Rattle.reading_machine.proofs.Opened.{Good, laid_symbol}
use Rattle.reading_machine.proofs.Rows.{want_good, deliver_good}
use Rattle.reading_machine.proofs.Closing.{laid, laid_word, laid_name}
use Rattle.reading_tokens.specs.declared.token.Kind.TheVariants as kinds
use Rattle.reading_tokens.specs.declared.token.Word.TheVariants as words
use Rattle.reading_tokens.specs.declared.token.Symbol.TheVariants as symbols
use Rattle.reading_trees.specs.declared.operators.PrefixOperator.TheVariants as prefixes
use Rattle.reading_trees.specs.Trees as tree
use Rattle.reading_machine.specs.declared.frame.Frame.TheVariants as frame
use Rattle.reading_machine.specs.OpenFits.{FramesFit}
use Rattle.reading_machine.specs.OpenRows.{FramesText}

module _ (xs r : List Laid) (q : Place) (fs : List Frame) where
  prefix_good : (o : PrefixOperator) → FramesText fs xs (laid (prefix_kind o) q ∷ r) → FramesFit fs → Good xs (laid (prefix_kind o) q ∷ r) r (prefix_step o q fs)
  prefix_good o F h = want_good xs (laid (prefix_kind o) q ∷ r) r (frame.Prefix o q) fs (laid (prefix_kind o) q ∷ r) F refl tt h

  word_good : (w : Word) → FramesText fs xs (laid_word w q ∷ r) → FramesFit fs → Good xs (laid_word w q ∷ r) r (word_begins w q fs)
  word_good words.True F h = ((laid_word words.True q ∷ r, F, refl), h, (tt, tt))
  word_good words.False F h = ((laid_word words.False q ∷ r, F, refl), h, (tt, tt))
  word_good words.Boolean F h = ((laid_word words.Boolean q ∷ r, F, refl), h, (tt, tt))
  word_good words.String F h = ((laid_word words.String q ∷ r, F, refl), h, (tt, tt))
  word_good words.Unchanged F h = prefix_good prefixes.Unchanged F h
  word_good words.Enabled F h = prefix_good prefixes.Enabled F h
  word_good words.Subset F h = prefix_good prefixes.Powerset F h
  word_good words.Union F h = prefix_good prefixes.BigUnion F h
  word_good words.Domain F h = prefix_good prefixes.Domain F h
  word_good words.Choose F h = ((laid_word words.Choose q ∷ r, F, refl), h, tt)
  word_good words.If F h = want_good xs (laid_word words.If q ∷ r) r (frame.IfTest q) fs (laid_word words.If q ∷ r) F refl tt h
  word_good words.Case F h = want_good xs (laid_word words.Case q ∷ r) r (frame.CaseTest q NoArms) fs (laid_word words.Case q ∷ r) F (r, refl, refl) tt h
  word_good words.Let F h = ((laid_word words.Let q ∷ r, F, (r, refl, refl)), h, (tt, refl))
  word_good _ F h = tt

  symbol_good : (s : Symbol) → FramesText fs xs (laid_symbol s q ∷ r) → FramesFit fs → Good xs (laid_symbol s q ∷ r) r (symbol_begins s q fs)
  symbol_good symbols.At F h = ((laid_symbol symbols.At q ∷ r, F, refl), h, (tt, tt))
  symbol_good symbols.OpenParenthesis F h =
      want_good xs (laid_symbol symbols.OpenParenthesis q ∷ r) r (frame.Parenthesis q) fs (laid_symbol symbols.OpenParenthesis q ∷ r) F refl tt h
  symbol_good symbols.OpenBracket F h = ((laid_symbol symbols.OpenBracket q ∷ r, F, refl), h, tt)
  symbol_good symbols.OpenBrace F h = ((laid_symbol symbols.OpenBrace q ∷ r, F, refl), h, tt)
  symbol_good symbols.OpenTuple F h = ((laid_symbol symbols.OpenTuple q ∷ r, F, refl), h, tt)
  symbol_good symbols.Not F h = prefix_good prefixes.Not F h
  symbol_good symbols.Always F h = prefix_good prefixes.Always F h
  symbol_good symbols.Eventually F h = prefix_good prefixes.Eventually F h
  symbol_good symbols.Minus F h = prefix_good prefixes.Negate F h
  symbol_good symbols.ForAll F h = ((laid_symbol symbols.ForAll q ∷ r, F, (r, (r, refl, refl), refl)), h, (tt, tt))
  symbol_good symbols.Exists F h = ((laid_symbol symbols.Exists q ∷ r, F, (r, (r, refl, refl), refl)), h, (tt, tt))
  symbol_good _ F h = tt

  kind_good : (c : Kind) → FramesText fs xs (laid c q ∷ r) → FramesFit fs → Good xs (laid c q ∷ r) r (token_begins c q fs)
  kind_good (kinds.Name n) F h = ((laid_name n q ∷ r, F, refl), h, (tt, tt))
  kind_good (kinds.Number z) F h = ((laid (kinds.Number z) q ∷ r, F, refl), h, (tt, tt))
  kind_good (kinds.Str s) F h = ((laid (kinds.Str s) q ∷ r, F, refl), h, (tt, tt))
  kind_good kinds.Fair F h = ((laid kinds.Fair q ∷ r, F, refl), h, tt)
  kind_good (kinds.Word w) F h = word_good w F h
  kind_good (kinds.Symbol s) F h = symbol_good s F h
  kind_good _ F h = tt

-- a token where an expression is expected
pub begins_good : (xs r : List Laid) (x : Laid) (fs : List Frame) → FramesText fs xs (x ∷ r) → FramesFit fs → Good xs (x ∷ r) r (begins x fs)
begins_good xs r (Plain t) fs F h = kind_good xs r t.place fs t.kind F h
begins_good xs r (ListOpen b at) fs F h = ((ListOpen b at ∷ r, F, refl), h, tt)
begins_good xs r (ListItem b at) fs F h = tt
begins_good xs r (ListClose at) fs F h = tt

module _ (G : Stepped → Type 0) where
  name_or_good : (c : Kind) (next : List ℕ → Stepped) (other : Stepped) → ((n : List ℕ) → c ≡ kinds.Name n → G (next n)) → G other → G (name_or c next other)
  name_or_good (kinds.Name n) next other a b = a n refl
  name_or_good _ next other a b = b

  pub on_name_good : (x : Laid) (next : List ℕ → Place → Stepped) (other : Stepped) → ((n : List ℕ) (p : Place) → x ≡ laid_name n p → G (next n p)) → G other → G (on_name x next other)
  on_name_good (Plain t) next other a b =
      name_or_good t.kind (λ n. next n t.place) other (λ n e. a n t.place (ap (λ c. laid c t.place) e)) b
  on_name_good _ next other a b = b

  symbol_or_good : (c : Kind) (next : Symbol → Stepped) (other : Stepped) → ((s : Symbol) → c ≡ kinds.Symbol s → G (next s)) → G other → G (symbol_or c next other)
  symbol_or_good (kinds.Symbol s) next other a b = a s refl
  symbol_or_good _ next other a b = b

  pub on_symbol_good : (x : Laid) (next : Symbol → Place → Stepped) (other : Stepped) → ((s : Symbol) (p : Place) → x ≡ laid_symbol s p → G (next s p)) → G other → G (on_symbol x next other)
  on_symbol_good (Plain t) next other a b =
      symbol_or_good t.kind (λ s. next s t.place) other (λ s e. a s t.place (ap (λ c. laid c t.place) e)) b
  on_symbol_good _ next other a b = b

module _ (xs r : List Laid) (x : Laid) (fs : List Frame) where
  parenthesis_good : (s : Symbol) (q : Place) → x ≡ laid_symbol s q → FramesText fs xs (x ∷ r) → FramesFit fs → Good xs (x ∷ r) r (subscript_symbol fs s q)
  parenthesis_good symbols.OpenParenthesis q e F h = want_good xs (x ∷ r) r (frame.Parenthesis q) fs (x ∷ r) F (ap (λ y. y ∷ r) e) tt h
  parenthesis_good symbols.OpenTuple q e F h = ((x ∷ r, F, ap (λ y. y ∷ r) e), h, tt)
  parenthesis_good _ q e F h = tt

  -- a token where a subscript is expected
  pub subscript_good : FramesText fs xs (x ∷ r) → FramesFit fs → Good xs (x ∷ r) r (subscript_started x fs)
  subscript_good F h =
      on_name_good (Good xs (x ∷ r) r) x _ _ (λ n p e. deliver_good xs (x ∷ r) r (tree.Name p n) fs (x ∷ r) F (ap (λ y. y ∷ r) e) h tt tt tt)
      (on_symbol_good (Good xs (x ∷ r) r) x _ _ (λ s q e. parenthesis_good s q e F h) tt)
