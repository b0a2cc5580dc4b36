-- What a token does where an expression is expected, and on names and symbols, flat.
use Rattle.std.proofs.Common.{◌≡◌, ℕ, true, false, List, [], ◌∷◌, refl, sym, ap, ◌∙◌}
use Rattle.base_core.specs.declared.place.Place.{Place}
use Rattle.reading_trees.specs.declared.laid.Laid.{Laid}
use Rattle.reading_trees.specs.declared.laid.Laid.TheVariants.{Plain, ListOpen, ListItem, ListClose}
use Rattle.reading_tokens.specs.declared.token.Kind.{Kind}
use Rattle.reading_tokens.specs.declared.token.Kind.TheVariants as kinds
use Rattle.reading_tokens.specs.declared.token.Word.{Word}
use Rattle.reading_tokens.specs.declared.token.Word.TheVariants as words
use Rattle.reading_tokens.specs.declared.token.Symbol.{Symbol}
use Rattle.reading_tokens.specs.declared.token.Symbol.TheVariants as symbols
use Rattle.reading_trees.specs.declared.operators.BuiltinSet.TheVariants as builtins
use Rattle.reading_trees.specs.Grammar.{begins_member, is_name}
use Rattle.reading_trees.specs.Trees as tree
use Rattle.reading_trees.specs.Trees.{Tree}
use Rattle.reading_machine.specs.declared.frame.Action.{Action}
use Rattle.reading_machine.specs.declared.frame.Action.TheVariants as actions
use Rattle.reading_machine.specs.declared.frame.Frame.{Frame}
use Rattle.reading_machine.specs.declared.frame.Frame.TheVariants as frame
use Rattle.reading_machine.specs.declared.frame.Mode.TheVariants as mode
use Rattle.reading_machine.specs.Machine.{Stepped, Reads, deliver, word_begins, symbol_begins, token_begins, begins, name_or, on_name, symbol_or, on_symbol, subscript_symbol, subscript_started}
use Rattle.reading_machine.specs.OpenFits.{Open}
use Rattle.reading_machine.proofs.Flat as flat
use Rattle.reading_machine.proofs.FlatStates.{rows, primary, Unfresh, Sits, FramesKept, Same, sits, unfresh_sits}

-- ---- no subscript is expected

abbrev pub FlatOpen : List flat.Row → Type 0
FlatOpen (flat.Subscript ∷ fs) = ⊥
FlatOpen (flat.FairSubscript ∷ fs) = ⊥
FlatOpen _ = Unit {0}

pub open_rows : (fs : List Frame) → FramesKept fs → Open fs → FlatOpen (rows fs)
open_rows [] k o = tt
open_rows (frame.Prefix q p ∷ fs) k o = open_rows fs k.1 k.0
open_rows (frame.Infix q es p ∷ fs) k o = open_rows fs k.1 k.0.0
open_rows (frame.Subscript c at a ∷ fs) k o = absurd o
open_rows (frame.FairSubscript at ∷ fs) k o = absurd o
open_rows (f ∷ fs) k o = tt

pub flat_delivers : (fs : List flat.Row) → FlatOpen fs → flat.deliver fs ≡ flat.Reads fs (flat.Have flat.Other)
flat_delivers [] o = refl
flat_delivers (flat.Subscript ∷ fs) o = absurd o
flat_delivers (flat.FairSubscript ∷ fs) o = absurd o
flat_delivers (f ∷ fs) o = refl

pub flat_no_subscript : (fs : List flat.Row) → FlatOpen fs → flat.is_subscript fs ≡ false
flat_no_subscript [] o = refl
flat_no_subscript (flat.Subscript ∷ fs) o = absurd o
flat_no_subscript (flat.FairSubscript ∷ fs) o = absurd o
flat_no_subscript (f ∷ fs) o = refl

-- a name may not stand right behind a brace
abbrev pub BeginsSits : Kind → List Frame → Type 0
BeginsSits (kinds.Name n) fs = (p : Place) → Sits (tree.Name p n) fs
BeginsSits _ fs = Unit {0}

module _ (A : Type 0) where
  have_same : (e : Tree) (fs : List Frame) (y : flat.Done) → y ≡ flat.Reads (rows fs) (flat.Have flat.Other) → primary e ≡ flat.Other → is_name e ≡ false → begins_member e ≡ false → Open fs → FramesKept fs → Same A (Reads fs (mode.Have e)) y
  have_same e fs y q b a m o k = (q ∙ ap (λ v. flat.Reads (rows fs) (flat.Have v)) (sym b), k, (o, sits e fs a m))

  subscripts_same : (c : Action) (at : Place) (d e : Tree) (fs : List Frame) → FramesKept (frame.Subscript c at d ∷ fs) → Same A (deliver e (frame.Subscript c at d ∷ fs)) (flat.deliver (rows (frame.Subscript c at d ∷ fs)))
  subscripts_same actions.Box at d e fs k = (refl, k.1, (k.0, sits (tree.BoxAction at d e) fs refl refl))
  subscripts_same actions.Angle at d e fs k = (refl, k.1, (k.0, sits (tree.AngleAction at d e) fs refl refl))

  pub deliver_same : (e : Tree) (fs : List Frame) → primary e ≡ flat.Other → is_name e ≡ false → begins_member e ≡ false → FramesKept fs → Same A (deliver e fs) (flat.deliver (rows fs))
  deliver_same e [] b a m k = have_same e [] _ refl b a m tt k
  deliver_same e (frame.Subscript c at d ∷ fs) b a m k = subscripts_same c at d e fs k
  deliver_same e (frame.FairSubscript at ∷ fs) b a m k = (refl, k.1, k.0)
  deliver_same e (frame.Prefix o p ∷ fs) b a m k = have_same e (frame.Prefix o p ∷ fs) _ (flat_delivers (rows fs) (open_rows fs k.1 k.0)) b a m tt k
  deliver_same e (frame.Infix o es p ∷ fs) b a m k = have_same e (frame.Infix o es p ∷ fs) _ (flat_delivers (rows fs) (open_rows fs k.1 k.0.0)) b a m tt k
  deliver_same e (f ∷ fs) b a m k = have_same e (f ∷ fs) _ refl b a m tt k

  -- ---- names and symbols

  name_or_same : (k : Kind) (next : List ℕ → Stepped) (other : Stepped) (flat_next : List ℕ → flat.Done) (flat_other : flat.Done) → ((n : List ℕ) → Same A (next n) (flat_next n)) → Same A other flat_other
      → Same A (name_or k next other) (flat.name_or k flat_next flat_other)
  name_or_same (kinds.Name n) next other fn fo f g = f n
  name_or_same _ next other fn fo f g = g

  pub on_name_same : (x : Laid) (next : List ℕ → Place → Stepped) (other : Stepped) (flat_next : List ℕ → flat.Done) (flat_other : flat.Done) → ((n : List ℕ) (p : Place) → Same A (next n p) (flat_next n)) → Same A other flat_other
      → Same A (on_name x next other) (flat.on_name x flat_next flat_other)
  on_name_same (Plain t) next other fn fo f g = name_or_same t.kind (λ n. next n t.place) other fn fo (λ n. f n t.place) g
  on_name_same _ next other fn fo f g = g

  symbol_or_same : (k : Kind) (next : Symbol → Stepped) (other : Stepped) (flat_next : Symbol → flat.Done) (flat_other : flat.Done) → ((s : Symbol) → Same A (next s) (flat_next s)) → Same A other flat_other
      → Same A (symbol_or k next other) (flat.symbol_or k flat_next flat_other)
  symbol_or_same (kinds.Symbol s) next other fn fo f g = f s
  symbol_or_same _ next other fn fo f g = g

  pub on_symbol_same : (x : Laid) (next : Symbol → Place → Stepped) (other : Stepped) (flat_next : Symbol → flat.Done) (flat_other : flat.Done) → ((s : Symbol) (p : Place) → Same A (next s p) (flat_next s)) → Same A other flat_other
      → Same A (on_symbol x next other) (flat.on_symbol x flat_next flat_other)
  on_symbol_same (Plain t) next other fn fo f g = symbol_or_same t.kind (λ s. next s t.place) other fn fo (λ s. f s t.place) g
  on_symbol_same _ next other fn fo f g = g

  -- ---- where an expression is expected

  word_same : (w : Word) (at : Place) (fs : List Frame) → FramesKept fs → Open fs → Same A (word_begins w at fs) (flat.word_begins w (rows fs))
  word_same words.True at fs k o = (refl, k, (o, sits (tree.Truth at true) fs refl refl))
  word_same words.False at fs k o = (refl, k, (o, sits (tree.Truth at false) fs refl refl))
  word_same words.Boolean at fs k o = (refl, k, (o, sits (tree.Builtin at builtins.Booleans) fs refl refl))
  word_same words.String at fs k o = (refl, k, (o, sits (tree.Builtin at builtins.Strings) fs refl refl))
  word_same words.Unchanged at fs k o = (refl, (o, k), (tt, tt))
  word_same words.Enabled at fs k o = (refl, (o, k), (tt, tt))
  word_same words.Subset at fs k o = (refl, (o, k), (tt, tt))
  word_same words.Union at fs k o = (refl, (o, k), (tt, tt))
  word_same words.Domain at fs k o = (refl, (o, k), (tt, tt))
  word_same words.Choose at fs k o = (refl, k, o)
  word_same words.If at fs k o = (refl, (o, k), (tt, tt))
  word_same words.Case at fs k o = (refl, (o, k), (tt, tt))
  word_same words.Let at fs k o = (refl, k, (o, tt))
  word_same _ at fs k o = refl

  symbol_same : (s : Symbol) (at : Place) (fs : List Frame) → FramesKept fs → Open fs → Same A (symbol_begins s at fs) (flat.symbol_begins s (rows fs))
  symbol_same symbols.At at fs k o = (refl, k, (o, sits (tree.At at) fs refl refl))
  symbol_same symbols.OpenParenthesis at fs k o = (refl, (tt, k), (tt, tt))
  symbol_same symbols.OpenBracket at fs k o = (refl, k, o)
  symbol_same symbols.OpenBrace at fs k o = (refl, k, o)
  symbol_same symbols.OpenTuple at fs k o = (refl, k, tt)
  symbol_same symbols.Not at fs k o = (refl, (o, k), (tt, tt))
  symbol_same symbols.Always at fs k o = (refl, (o, k), (tt, tt))
  symbol_same symbols.Eventually at fs k o = (refl, (o, k), (tt, tt))
  symbol_same symbols.Minus at fs k o = (refl, (o, k), (tt, tt))
  symbol_same symbols.ForAll at fs k o = (refl, k, (o, tt))
  symbol_same symbols.Exists at fs k o = (refl, k, (o, tt))
  symbol_same _ at fs k o = refl

  pub kind_same : (k : Kind) (at : Place) (fs : List Frame) → BeginsSits k fs → FramesKept fs → Open fs → Same A (token_begins k at fs) (flat.kind_begins k (rows fs))
  kind_same (kinds.Name n) at fs s k o = (refl, k, (o, s at))
  kind_same (kinds.Number z) at fs s k o = (refl, k, (o, sits (tree.Number at z) fs refl refl))
  kind_same (kinds.Str t) at fs s k o = (refl, k, (o, sits (tree.Str at t) fs refl refl))
  kind_same kinds.Fair at fs s k o = (refl, k, o)
  kind_same (kinds.Word w) at fs s k o = word_same w at fs k o
  kind_same (kinds.Symbol s) at fs h k o = symbol_same s at fs k o
  kind_same _ at fs s k o = refl

  kind_sits : (k : Kind) (fs : List Frame) → Unfresh fs → BeginsSits k fs
  kind_sits (kinds.Name n) fs u = λ p. unfresh_sits (tree.Name p n) fs u
  kind_sits _ fs u = tt

  pub begins_same : (x : Laid) (fs : List Frame) → Unfresh fs → FramesKept fs → Open fs → Same A (begins x fs) (flat.begins x (rows fs))
  begins_same (Plain t) fs u k o = kind_same t.kind t.place fs (kind_sits t.kind fs u) k o
  begins_same (ListOpen b at) fs u k o = (refl, k, o)
  begins_same (ListItem b at) fs u k o = refl
  begins_same (ListClose at) fs u k o = refl

  -- ---- where a subscript is expected

  open_symbol : (s : Symbol) (q : Place) (fs : List Frame) → FramesKept fs → Same A (subscript_symbol fs s q) (flat.subscript_symbol (rows fs) s)
  open_symbol symbols.OpenParenthesis q fs k = (refl, (tt, k), (tt, tt))
  open_symbol symbols.OpenTuple q fs k = (refl, k, tt)
  open_symbol _ q fs k = refl

  pub action_same : (x : Laid) (c : Action) (at : Place) (d : Tree) (fs : List Frame) → FramesKept fs → Open fs → Same A (subscript_started x (frame.Subscript c at d ∷ fs)) (flat.subscript_started x (flat.Subscript ∷ rows fs))
  action_same x c at d fs k o =
      on_name_same x _ _ _ _ (λ n p. subscripts_same c at d (tree.Name p n) fs (o, k))
      (on_symbol_same x _ _ _ _ (λ s q. open_symbol s q (frame.Subscript c at d ∷ fs) (o, k)) refl)

  pub fair_same : (x : Laid) (at : Place) (fs : List Frame) → FramesKept fs → Open fs → Same A (subscript_started x (frame.FairSubscript at ∷ fs)) (flat.subscript_started x (flat.FairSubscript ∷ rows fs))
  fair_same x at fs k o =
      on_name_same x _ _ _ _ (λ n p. (refl, k, o))
      (on_symbol_same x _ _ _ _ (λ s q. open_symbol s q (frame.FairSubscript at ∷ fs) (o, k)) refl)
