-- What a token does, flat.
use Rattle.std.proofs.Common.{◌≡◌, ℕ, Bool, true, false, List, ◌∷◌, Option, Some, None, refl, sym, ap, subst}
use Rattle.std.specs.Prelude.{if◌then◌else◌}
use Rattle.base_core.specs.declared.place.Place.{Place}
use Rattle.reading_trees.specs.declared.laid.Bullet.{Bullet}
use Rattle.reading_trees.specs.declared.laid.Laid.{Laid}
use Rattle.reading_trees.specs.declared.laid.Laid.TheVariants.{Plain, ListOpen, ListItem, ListClose}
use Rattle.reading_tokens.specs.declared.token.Kind.{Kind}
use Rattle.reading_tokens.specs.declared.token.Kind.TheVariants as kinds
use Rattle.reading_tokens.specs.declared.token.Symbol.{Symbol}
use Rattle.reading_tokens.specs.declared.token.Symbol.TheVariants as symbols
use Rattle.reading_trees.specs.declared.operators.InfixOperator.{InfixOperator}
use Rattle.reading_trees.specs.Precedence.{infix_symbol}
use Rattle.reading_trees.specs.Grammar.{◌⨟◌, qualified, Text}
use Rattle.reading_trees.specs.Fits.{Fits, LeftAbove}
use Rattle.reading_trees.specs.Trees as tree
use Rattle.reading_trees.specs.Trees.{Tree, NoTrees, First, Steps, NoSteps, MoreSteps, Arms}
use Rattle.reading_machine.specs.declared.frame.RecordKind.{RecordKind}
use Rattle.reading_machine.specs.declared.frame.RecordKind.TheVariants as records
use Rattle.reading_machine.specs.declared.frame.Scope.{Scope}
use Rattle.reading_machine.specs.declared.frame.Binding.{Binding}
use Rattle.reading_machine.specs.declared.frame.Form.{Form}
use Rattle.reading_machine.specs.declared.frame.Frame.{Frame}
use Rattle.reading_machine.specs.declared.frame.Frame.TheVariants as frame
use Rattle.reading_machine.specs.declared.frame.Mode.{Mode}
use Rattle.reading_machine.specs.declared.frame.Mode.TheVariants as mode
use Rattle.reading_machine.specs.Machine.{Stepped, Reads, Stops, infix_of_symbol, settle, closes, is_case_mark, behind, instance_step, call_step, infix_or, symbol_follows, kind_follows, follows, same_bullet, has_field, is_other, begins, bound_named, bracket_named, brace_started, brace_named, tuple_started, list_started, choose_named, definition_named, parameter_named, defined_as, except_mark, path_ends, except_path, record_named, fair_opened, case_next, other_arrow, step}
use Rattle.reading_machine.specs.OpenFits.{IsOperand, FramesFit, Open}
use Rattle.reading_machine.specs.OpenRows.{FramesText}
use Rattle.reading_machine.proofs.Opened.{Opened, laid_symbol}
use Rattle.reading_machine.proofs.Edges.{top_all, operand_left, operand_ends}
use Rattle.reading_machine.proofs.Settling.{settles}
use Rattle.reading_machine.proofs.Closing.{laid}
use Rattle.reading_machine.proofs.Flat as flat
use Rattle.reading_machine.proofs.Closing.{SymbolOf, symbol_of}
use Rattle.reading_machine.proofs.FlatStates.{has_steps, names_of, same_names, binds, rows, primary, expected, Sits, Settles, ChainSits, InLet, FramesKept, ModeKept, Same, same_map, sits, half_sits}
use Rattle.reading_machine.proofs.FlatBegins.{BeginsSits, deliver_same, on_name_same, on_symbol_same, kind_same, begins_same, action_same, fair_same}
use Rattle.reading_machine.proofs.FlatFolds.{first_sits, infix_same, settle_same}
use Rattle.reading_machine.proofs.FlatCloses.{Meet, closes_same, step_same}
use Rattle.reading_machine.proofs.OpenEnds.{one, one_tree, ends, suits, sound, close, Ending}

-- ---- behind a primary

-- how the text goes on behind the token x, which stands behind the primary
abbrev pub Follow : Laid → List Frame → Tree → Type 0
Follow x fs e = (c : List Laid) × ((xs : List Laid) → (FramesText fs ⨟ Text e) xs (x ∷ c) → FramesFit fs → FramesKept fs → Open fs → IsOperand e → Fits e → Ending xs)

meet_follow : (x : Laid) (fs : List Frame) (e : Tree) → Settles e fs → Meet x (settle (is_case_mark x) fs e).frames (settle (is_case_mark x) fs e).tree → Follow x fs e
meet_follow x fs e i m = (
  m.0,
  λ xs t f k o p g.
      let s = settles xs (x ∷ m.0) (is_case_mark x) fs e t.0 t.1 t.2 f g (top_all fs (λ r. LeftAbove r e) (λ r. operand_left r e p)) (λ c. operand_ends e p) in
      m.1 xs s.0 s.1 (settle_same (is_case_mark x) fs e k i).1,
)

behind_same : (x : Laid) (fs : List Frame) (e : Tree) → FramesKept fs → Settles e fs → Same (Follow x fs e) (behind x fs e) (flat.behind x (rows fs))
behind_same x fs e k i =
    let s = settle (is_case_mark x) fs e in
    let h = settle_same (is_case_mark x) fs e k i in
    same_map (Meet x s.frames s.tree) (Follow x fs e) (meet_follow x fs e i) (behind x fs e) (flat.behind x (rows fs))
    (subst (λ v. Same (Meet x s.frames s.tree) (closes x s.frames s.tree) (flat.closes x v)) (sym h.0) (closes_same x s.frames s.tree h.1 h.2 h.3))

-- an operator may stand behind the primary as the first of its chain
abbrev OptionSits : Option InfixOperator → Tree → List Frame → Type 0
OptionSits (Some c) e fs = ChainSits c (First e) fs
OptionSits None e fs = Unit {0}

abbrev KindSits : Kind → Tree → List Frame → Type 0
KindSits (kinds.Symbol s) e fs = OptionSits (infix_of_symbol s) e fs
KindSits _ e fs = Unit {0}

abbrev LaidSits : Laid → Tree → List Frame → Type 0
LaidSits (Plain t) e fs = KindSits t.kind e fs
LaidSits _ e fs = Unit {0}

option_sits : (o : Option InfixOperator) (e : Tree) (fs : List Frame) → Sits e fs → OptionSits o e fs
option_sits (Some c) e fs h = first_sits c e fs h
option_sits None e fs h = tt

kind_sits : (k : Kind) (e : Tree) (fs : List Frame) → Sits e fs → KindSits k e fs
kind_sits (kinds.Symbol s) e fs h = option_sits (infix_of_symbol s) e fs h
kind_sits _ e fs h = tt

laid_sits : (x : Laid) (e : Tree) (fs : List Frame) → Sits e fs → LaidSits x e fs
laid_sits (Plain t) e fs h = kind_sits t.kind e fs h
laid_sits _ e fs h = tt

-- an operator behind a primary: its ranges do not matter
infix_follow : (s : Symbol) (q : InfixOperator) (at : Place) (fs : List Frame) (e : Tree) → infix_symbol q ≡ s → Follow (laid_symbol s at) fs e
infix_follow s q at fs e i =
    let c : List Laid = one ∷ ends fs in (
      c,
      λ xs t f k o p g.
          close fs k (sound fs f) (tree.Infix at q (First e) one_tree) (suits (tree.Infix at q (First e) one_tree) fs o) xs t.0 t.1
          (laid_symbol s at ∷ c, t.2, (c, ap (λ z. laid_symbol z at ∷ c) (sym i), refl)),
    )

operator_same : (s : Symbol) (o : Option InfixOperator) (at : Place) (fs : List Frame) (e : Tree) (other : Stepped) (y : flat.Done) → SymbolOf s o → OptionSits o e fs → FramesKept fs → Open fs
    → Same (Follow (laid_symbol s at) fs e) other y → Same (Follow (laid_symbol s at) fs e) (infix_or o at fs e other) (flat.infix_or o (rows fs) y)
operator_same s (Some q) at fs e other y i c k o h = infix_same (Follow (laid_symbol s at) fs e) (infix_follow s q at fs e i) q at fs e k o c
operator_same s None at fs e other y i c k o h = h

call_same : (A : Type 0) (e : Tree) (fs : List Frame) → FramesKept fs → Open fs → Same A (call_step e fs) (flat.call_step (primary e) (rows fs))
call_same A (tree.Name at n) fs k o = (refl, (o, k), (tt, tt))
call_same A (tree.Qualified at n NoTrees) fs k o = (refl, (o, k), (tt, tt))
call_same A e fs k o = refl

instance_same : (A : Type 0) (e : Tree) (fs : List Frame) → FramesKept fs → Open fs → Same A (instance_step e fs) (flat.instance_step (primary e) (rows fs))
instance_same A (tree.Name at i) fs k o = (refl, k, o)
instance_same A (tree.Qualified at n NoTrees) fs k o = refl
instance_same A e fs k o = refl

symbol_follows_same : (s : Symbol) (at : Place) (fs : List Frame) (e : Tree) (other : Stepped) (y : flat.Done) → OptionSits (infix_of_symbol s) e fs → FramesKept fs → Open fs
    → Same (Follow (laid_symbol s at) fs e) other y → Same (Follow (laid_symbol s at) fs e) (symbol_follows s at fs e other) (flat.symbol_follows s (primary e) (rows fs) y)
symbol_follows_same symbols.Prime at fs e other y c k o h = step_same ⊥ e at tree.Prime fs k o
symbol_follows_same symbols.OpenBracket at fs e other y c k o h = (refl, (o, k), (tt, tt))
symbol_follows_same symbols.Dot at fs e other y c k o h = (refl, k, o)
symbol_follows_same symbols.OpenParenthesis at fs e other y c k o h = call_same _ e fs k o
symbol_follows_same symbols.Exclamation at fs e other y c k o h = instance_same _ e fs k o
symbol_follows_same s at fs e other y c k o h = operator_same s (infix_of_symbol s) at fs e other y (symbol_of s) c k o h

kind_follows_same : (c : Kind) (at : Place) (fs : List Frame) (e : Tree) (other : Stepped) (y : flat.Done) → KindSits c e fs → FramesKept fs → Open fs
    → Same (Follow (laid c at) fs e) other y → Same (Follow (laid c at) fs e) (kind_follows c at fs e other) (flat.kind_follows c (primary e) (rows fs) y)
kind_follows_same (kinds.Symbol s) at fs e other y c k o h = symbol_follows_same s at fs e other y c k o h
kind_follows_same _ at fs e other y c k o h = h

follows_same : (x : Laid) (fs : List Frame) (e : Tree) → LaidSits x e fs → FramesKept fs → Open fs → Settles e fs → Same (Follow x fs e) (follows x fs e) (flat.follows x (primary e) (rows fs))
follows_same (Plain t) fs e c k o i = kind_follows_same t.kind t.place fs e (behind (Plain t) fs e) (flat.behind (Plain t) (rows fs)) c k o (behind_same (Plain t) fs e k i)
follows_same (ListOpen b q) fs e c k o i = behind_same (ListOpen b q) fs e k i
follows_same (ListItem b q) fs e c k o i = behind_same (ListItem b q) fs e k i
follows_same (ListClose q) fs e c k o i = behind_same (ListClose q) fs e k i

-- ---- all

-- how the text goes on behind the token x
abbrev pub Goes : Laid → List Frame → Mode → Type 0
Goes x fs m = (c : List Laid) × ((xs : List Laid) → Opened xs fs m (x ∷ c) → FramesKept fs → ModeKept m fs → Ending xs)

unnamed : (c : Kind) (at : Place) (es : tree.Trees) (fs : List Frame) → BeginsSits c (frame.Tuple at es ∷ fs)
unnamed (kinds.Name n) at es fs = λ p. tt
unnamed _ at es fs = tt

module _ (A : Type 0) where
  bound_named_same : (b : Binding) (ns : List (List ℕ)) (fs : List Frame) (s : Symbol) → FramesKept fs → ModeKept (mode.BoundNamed b ns) fs → Same A (bound_named b ns fs s) (flat.bound_named (binds b.binder) (rows fs) s)
  bound_named_same b ns fs symbols.Comma k h = (refl, k, h)
  bound_named_same b ns fs symbols.Member k h = (refl, (h, k), (tt, tt))
  bound_named_same b ns fs _ k h = refl

  list_started_if : (t : Bool) (b : Bullet) (at : Place) (fs : List Frame) → FramesKept fs → Open fs → Same A (if t then Reads (frame.Junction b at NoTrees ∷ fs) mode.Want else Stops) (if t then flat.want (flat.Junction b ∷ rows fs) else flat.Stops)
  list_started_if true b at fs k o = (refl, (o, k), (tt, tt))
  list_started_if false b at fs k o = refl

  list_started_same : (x : Laid) (b : Bullet) (at : Place) (fs : List Frame) → FramesKept fs → Open fs → Same A (list_started x b at fs) (flat.list_started x b (rows fs))
  list_started_same (ListItem c p) b at fs k o = list_started_if (same_bullet b c) b at fs k o
  list_started_same _ b at fs k o = refl

  choose_named_same : (at : Place) (n : List ℕ) (fs : List Frame) (s : Symbol) → FramesKept fs → Open fs → Same A (choose_named at n fs s) (flat.choose_named (rows fs) s)
  choose_named_same at n fs symbols.Member k o = (refl, (o, k), (tt, tt))
  choose_named_same at n fs _ k o = refl

  definition_named_same : (c : Scope) (n : List ℕ) (p : Place) (fs : List Frame) (s : Symbol) (q : Place) → FramesKept fs → Open fs × InLet c → Same A (definition_named c n p fs s q) (flat.definition_named (rows fs) s)
  definition_named_same c n p fs symbols.Defined q k h = (refl, (h, k), (tt, tt))
  definition_named_same c n p fs symbols.OpenParenthesis q k h = (refl, k, h)
  definition_named_same c n p fs symbols.OpenBracket q k h = (refl, k, h)
  definition_named_same c n p fs _ q k h = refl

  parameter_named_same : (c : Scope) (n : List ℕ) (p : Place) (ns : List (List ℕ)) (fs : List Frame) (s : Symbol) → FramesKept fs → Open fs × InLet c → Same A (parameter_named c n p ns fs s) (flat.parameter_named (rows fs) s)
  parameter_named_same c n p ns fs symbols.Comma k h = (refl, k, h)
  parameter_named_same c n p ns fs symbols.CloseParenthesis k h = (refl, k, h)
  parameter_named_same c n p ns fs _ k h = refl

  defined_as_same : (c : Scope) (n : List ℕ) (p : Place) (form : Form) (fs : List Frame) (s : Symbol) → FramesKept fs → Open fs × InLet c → Same A (defined_as c n p form fs s) (flat.defined_as (rows fs) s)
  defined_as_same c n p form fs symbols.Defined k h = (refl, (h, k), (tt, tt))
  defined_as_same c n p form fs _ k h = refl

  except_mark_same : (at : Place) (e : Tree) (cs : tree.Changes) (fs : List Frame) (s : Symbol) → FramesKept fs → Open fs → Same A (except_mark at e cs fs s) (flat.except_mark (rows fs) s)
  except_mark_same at e cs fs symbols.Exclamation k o = (refl, k, o)
  except_mark_same at e cs fs _ k o = refl

  path_ends_same : (at : Place) (e : Tree) (cs : tree.Changes) (ss : Steps) (fs : List Frame) → FramesKept fs → Open fs → Same A (path_ends at e cs ss fs) (flat.path_ends (has_steps ss) (rows fs))
  path_ends_same at e cs NoSteps fs k o = refl
  path_ends_same at e cs (MoreSteps ss p s) fs k o = (refl, (o, k), (tt, tt))

  except_path_same : (at : Place) (e : Tree) (cs : tree.Changes) (ss : Steps) (fs : List Frame) (s : Symbol) (q : Place) → FramesKept fs → Open fs → Same A (except_path at e cs ss fs s q) (flat.except_path (has_steps ss) (rows fs) s)
  except_path_same at e cs ss fs symbols.OpenBracket q k o = (refl, (o, k), (tt, tt))
  except_path_same at e cs ss fs symbols.Dot q k o = (refl, k, o)
  except_path_same at e cs ss fs symbols.Equal q k o = path_ends_same at e cs ss fs k o
  except_path_same at e cs ss fs _ q k o = refl

  record_if : (b : Bool) (c : RecordKind) (at : Place) (hs : tree.Fields) (n : List ℕ) (fs : List Frame) → FramesKept fs → Open fs
      → Same A (if b then Stops else Reads fs (mode.RecordNamed c at hs n)) (if b then flat.Stops else flat.Reads (rows fs) (flat.RecordNamed c (names_of hs) n))
  record_if true c at hs n fs k o = refl
  record_if false c at hs n fs k o = (refl, k, o)

  record_name_same : (c : RecordKind) (at : Place) (hs : tree.Fields) (n : List ℕ) (fs : List Frame) → FramesKept fs → Open fs
      → Same A (if has_field n hs then Stops else Reads fs (mode.RecordNamed c at hs n)) (flat.record_name c (names_of hs) (rows fs) n)
  record_name_same c at hs n fs k o =
      subst (λ b. Same A (if has_field n hs then Stops else Reads fs (mode.RecordNamed c at hs n)) (if b then flat.Stops else flat.Reads (rows fs) (flat.RecordNamed c (names_of hs) n))) (same_names n hs)
      (record_if (has_field n hs) c at hs n fs k o)

  record_named_same : (c : RecordKind) (at : Place) (hs : tree.Fields) (n : List ℕ) (fs : List Frame) (s : Symbol) → FramesKept fs → Open fs → Same A (record_named c at hs n fs s) (flat.record_named c (names_of hs) n (rows fs) s)
  record_named_same records.Record at hs n fs symbols.MapsTo k o = (refl, (o, k), (tt, tt))
  record_named_same records.Set at hs n fs symbols.Colon k o = (refl, (o, k), (tt, tt))
  record_named_same c at hs n fs _ k o = refl

  fair_opened_same : (at : Place) (v : Tree) (fs : List Frame) (s : Symbol) → FramesKept fs → Open fs → Same A (fair_opened at v fs s) (flat.fair_opened (rows fs) s)
  fair_opened_same at v fs symbols.OpenParenthesis k o = (refl, (o, k), (tt, tt))
  fair_opened_same at v fs _ k o = refl

  other_if : (b : Bool) (t : Laid) (at : Place) (arms : Arms) (fs : List Frame) → FramesKept fs → Open fs
      → Same A (if b then Reads fs (mode.OtherArrow at arms) else begins t (frame.CaseTest at arms ∷ fs)) (if b then flat.Reads (rows fs) flat.OtherArrow else flat.begins t (flat.CaseTest ∷ rows fs))
  other_if true t at arms fs k o = (refl, k, o)
  other_if false t at arms fs k o = begins_same A t (frame.CaseTest at arms ∷ fs) tt (o, k) tt

  case_next_same : (x : Laid) (at : Place) (arms : Arms) (fs : List Frame) → FramesKept fs → Open fs → Same A (case_next x at arms fs) (flat.case_next x (rows fs))
  case_next_same (Plain t) at arms fs k o = other_if (is_other t.kind) (Plain t) at arms fs k o
  case_next_same (ListOpen b q) at arms fs k o = (refl, (o, k), tt)
  case_next_same (ListItem b q) at arms fs k o = refl
  case_next_same (ListClose q) at arms fs k o = refl

  other_arrow_same : (at : Place) (arms : Arms) (fs : List Frame) (s : Symbol) → FramesKept fs → Open fs → Same A (other_arrow at arms fs s) (flat.other_arrow (rows fs) s)
  other_arrow_same at arms fs symbols.Arrow k o = (refl, (o, k), (tt, tt))
  other_arrow_same at arms fs _ k o = refl

  tuple_started_same : (s : Symbol) (q at : Place) (fs : List Frame) → FramesKept fs → Same A (tuple_started (laid_symbol s q) at fs s q) (flat.tuple_started (laid_symbol s q) (rows fs) s)
  tuple_started_same symbols.CloseTuple q at fs k = deliver_same A (tree.Tuple at NoTrees) fs refl refl refl k
  tuple_started_same s q at fs k = kind_same A (kinds.Symbol s) q (frame.Tuple at NoTrees ∷ fs) tt (tt, k) tt

  tuple_kind_same : (c : Kind) (q at : Place) (fs : List Frame) → FramesKept fs → Same A (step (laid c q) fs (mode.TupleStart at)) (flat.step (laid c q) (rows fs) flat.TupleStart)
  tuple_kind_same (kinds.Symbol s) q at fs k = tuple_started_same s q at fs k
  tuple_kind_same c q at fs k = kind_same A c q (frame.Tuple at NoTrees ∷ fs) (unnamed c at NoTrees fs) (tt, k) tt

  tuple_same : (x : Laid) (at : Place) (fs : List Frame) → FramesKept fs → Same A (step x fs (mode.TupleStart at)) (flat.step x (rows fs) flat.TupleStart)
  tuple_same (Plain t) at fs k = tuple_kind_same t.kind t.place at fs k
  tuple_same (ListOpen b q) at fs k = (refl, (tt, k), tt)
  tuple_same (ListItem b q) at fs k = refl
  tuple_same (ListClose q) at fs k = refl

  brace_started_same : (s : Symbol) (q at : Place) (fs : List Frame) → FramesKept fs → Open fs → Same A (brace_started (laid_symbol s q) at fs s q) (flat.brace_started (laid_symbol s q) (rows fs) s)
  brace_started_same symbols.CloseBrace q at fs k o = (refl, k, (o, sits (tree.SetOf at NoTrees) fs refl refl))
  brace_started_same s q at fs k o = kind_same A (kinds.Symbol s) q (frame.Braces at NoTrees ∷ fs) tt (o, k) tt

  brace_kind_same : (c : Kind) (q at : Place) (fs : List Frame) → FramesKept fs → Open fs → Same A (step (laid c q) fs (mode.BraceStart at)) (flat.step (laid c q) (rows fs) flat.BraceStart)
  brace_kind_same (kinds.Name n) q at fs k o = (refl, k, o)
  brace_kind_same (kinds.Symbol s) q at fs k o = brace_started_same s q at fs k o
  brace_kind_same c q at fs k o = kind_same A c q (frame.Braces at NoTrees ∷ fs) tt (o, k) tt

  brace_same : (x : Laid) (at : Place) (fs : List Frame) → FramesKept fs → Open fs → Same A (step x fs (mode.BraceStart at)) (flat.step x (rows fs) flat.BraceStart)
  brace_same (Plain t) at fs k o = brace_kind_same t.kind t.place at fs k o
  brace_same (ListOpen b q) at fs k o = (refl, (o, k), tt)
  brace_same (ListItem b q) at fs k o = refl
  brace_same (ListClose q) at fs k o = refl

-- ---- a name right behind a brace, and what is not `\in`

abbrev is_in : Symbol → Bool
is_in symbols.Member = true
is_in _ = false

name_sits : (s : Symbol) → is_in s ≡ false → (p : Place) (n : List ℕ) (at : Place) (fs : List Frame) → OptionSits (infix_of_symbol s) (tree.Name p n) (frame.Braces at NoTrees ∷ fs)
name_sits symbols.Member h p n at fs = absurd (let q : true ≡ false = h in cc)
name_sits symbols.Implies h p n at fs = refl
name_sits symbols.Equivalent h p n at fs = refl
name_sits symbols.LeadsTo h p n at fs = refl
name_sits symbols.And h p n at fs = refl
name_sits symbols.Or h p n at fs = refl
name_sits symbols.Equal h p n at fs = refl
name_sits symbols.NotEqual h p n at fs = refl
name_sits symbols.Less h p n at fs = refl
name_sits symbols.Greater h p n at fs = refl
name_sits symbols.LessOrEqual h p n at fs = refl
name_sits symbols.GreaterOrEqual h p n at fs = refl
name_sits symbols.NotMember h p n at fs = refl
name_sits symbols.SubsetOrEqual h p n at fs = refl
name_sits symbols.MergedFunctions h p n at fs = refl
name_sits symbols.SingleFunction h p n at fs = refl
name_sits symbols.Union h p n at fs = refl
name_sits symbols.Intersection h p n at fs = refl
name_sits symbols.Difference h p n at fs = refl
name_sits symbols.Interval h p n at fs = refl
name_sits symbols.Plus h p n at fs = refl
name_sits symbols.Remainder h p n at fs = refl
name_sits symbols.Minus h p n at fs = refl
name_sits symbols.CartesianProduct h p n at fs = refl
name_sits symbols.Times h p n at fs = refl
name_sits symbols.Concatenation h p n at fs = refl
name_sits symbols.Quotient h p n at fs = refl
name_sits symbols.Power h p n at fs = refl
name_sits _ h p n at fs = tt

module _ (at : Place) (n : List ℕ) (p : Place) (fs : List Frame) (k : FramesKept fs) (o : Open fs) where
  brace_goes : (x : Laid) → Follow x (frame.Braces at NoTrees ∷ fs) (tree.Name p n) → Goes x fs (mode.BraceName at n p)
  brace_goes x f = (f.0, λ xs s c d. let a = s.0.2 in f.1 xs (a.0, (s.0.0, s.0.1, (a.0, a.1, refl)), a.2) (tt, s.1) (d, c) tt tt tt)

  brace_name_follows : (x : Laid) → LaidSits x (tree.Name p n) (frame.Braces at NoTrees ∷ fs)
      → Same (Goes x fs (mode.BraceName at n p)) (follows x (frame.Braces at NoTrees ∷ fs) (tree.Name p n)) (flat.follows x flat.Bare (flat.Braces false ∷ rows fs))
  brace_name_follows x c =
      same_map (Follow x (frame.Braces at NoTrees ∷ fs) (tree.Name p n)) _ (brace_goes x) (follows x (frame.Braces at NoTrees ∷ fs) (tree.Name p n)) (flat.follows x flat.Bare (flat.Braces false ∷ rows fs))
      (follows_same x (frame.Braces at NoTrees ∷ fs) (tree.Name p n) c (o, k) tt refl)

  brace_named_same : (s : Symbol) (q : Place) → Same (Goes (laid_symbol s q) fs (mode.BraceName at n p)) (brace_named (laid_symbol s q) at n p fs s q) (flat.brace_named (laid_symbol s q) (rows fs) s)
  brace_named_same symbols.Member q = (refl, (o, k), (tt, tt))
  brace_named_same s q = brace_name_follows (laid_symbol s q) (name_sits s refl p n at fs)

  brace_name_kind : (c : Kind) (q : Place) → Same (Goes (laid c q) fs (mode.BraceName at n p)) (step (laid c q) fs (mode.BraceName at n p)) (flat.step (laid c q) (rows fs) flat.BraceName)
  brace_name_kind (kinds.Symbol s) q = brace_named_same s q
  brace_name_kind c q = brace_name_follows (laid c q) tt

  brace_name_same : (x : Laid) → Same (Goes x fs (mode.BraceName at n p)) (step x fs (mode.BraceName at n p)) (flat.step x (rows fs) flat.BraceName)
  brace_name_same (Plain t) = brace_name_kind t.kind t.place
  brace_name_same (ListOpen b q) = brace_name_follows (ListOpen b q) tt
  brace_name_same (ListItem b q) = brace_name_follows (ListItem b q) tt
  brace_name_same (ListClose q) = brace_name_follows (ListClose q) tt

  bracket_goes : (x : Laid) → Follow x (frame.Bracket at ∷ fs) (tree.Name p n) → Goes x fs (mode.BracketName at n p)
  bracket_goes x f = (f.0, λ xs s c d. let a = s.0.2 in f.1 xs (a.0, (s.0.0, s.0.1, a.1), a.2) (tt, s.1) (d, c) tt tt tt)

  bracket_name_follows : (x : Laid) → Same (Goes x fs (mode.BracketName at n p)) (follows x (frame.Bracket at ∷ fs) (tree.Name p n)) (flat.follows x flat.Bare (flat.Bracket ∷ rows fs))
  bracket_name_follows x =
      same_map (Follow x (frame.Bracket at ∷ fs) (tree.Name p n)) _ (bracket_goes x) (follows x (frame.Bracket at ∷ fs) (tree.Name p n)) (flat.follows x flat.Bare (flat.Bracket ∷ rows fs))
      (follows_same x (frame.Bracket at ∷ fs) (tree.Name p n) (laid_sits x (tree.Name p n) (frame.Bracket at ∷ fs) tt) (o, k) tt tt)

  bracket_named_same : (x : Laid) (s : Symbol) (q : Place) → Same (Goes x fs (mode.BracketName at n p)) (bracket_named x at n p fs s q) (flat.bracket_named x n (rows fs) s)
  bracket_named_same x symbols.MapsTo q = (refl, (o, k), (tt, tt))
  bracket_named_same x symbols.Colon q = (refl, (o, k), (tt, tt))
  bracket_named_same x symbols.Comma q = (refl, k, (o, tt))
  bracket_named_same x symbols.Member q = (refl, (o, k), (tt, tt))
  bracket_named_same x s q = bracket_name_follows x

  bracket_name_same : (x : Laid) → Same (Goes x fs (mode.BracketName at n p)) (step x fs (mode.BracketName at n p)) (flat.step x (rows fs) (flat.BracketName n))
  bracket_name_same x = on_symbol_same _ x _ _ _ _ (λ s q. bracket_named_same x s q) (bracket_name_follows x)

-- what a token does in a state it does in its flat state
pub steps_same : (x : Laid) (fs : List Frame) (m : Mode) → FramesKept fs → ModeKept m fs → Same (Goes x fs m) (step x fs m) (flat.step x (rows fs) (expected m))
steps_same x fs mode.Want k h = begins_same _ x fs h.1 k h.0
steps_same x fs (mode.Have e) k h =
    same_map (Follow x fs e) _ (λ f. (f.0, λ xs s c d. f.1 xs s.0 s.1 c d.0 s.2.0 s.2.1)) (follows x fs e) (flat.follows x (primary e) (rows fs))
    (follows_same x fs e (laid_sits x e fs h.1) k h.0 (half_sits e fs h.1))
steps_same x fs (mode.BoundName b ns) k h = on_name_same _ x _ _ _ _ (λ n p. (refl, k, h)) refl
steps_same x fs (mode.BoundNamed b ns) k h = on_symbol_same _ x _ _ _ _ (λ s p. bound_named_same _ b ns fs s k h) refl
steps_same x fs (mode.BracketStart at) k h = on_name_same _ x _ _ _ _ (λ n p. (refl, k, h)) (begins_same _ x (frame.Bracket at ∷ fs) tt (h, k) tt)
steps_same x fs (mode.BracketName at n p) k h = bracket_name_same at n p fs k h x
steps_same x fs (mode.BraceStart at) k h = brace_same _ x at fs k h
steps_same x fs (mode.BraceName at n p) k h = brace_name_same at n p fs k h x
steps_same x fs (mode.TupleStart at) k h = tuple_same _ x at fs k
steps_same x fs (mode.ListStart b at) k h = list_started_same _ x b at fs k h
steps_same x fs (mode.ChooseName at) k h = on_name_same _ x _ _ _ _ (λ n p. (refl, k, h)) refl
steps_same x fs (mode.ChooseNamed at n) k h = on_symbol_same _ x _ _ _ _ (λ s p. choose_named_same _ at n fs s k h) refl
steps_same x fs (mode.DefinitionName c) k h = on_name_same _ x _ _ _ _ (λ n p. (refl, k, h)) refl
steps_same x fs (mode.DefinitionNamed c n p) k h = on_symbol_same _ x _ _ _ _ (λ s q. definition_named_same _ c n p fs s q k h) refl
steps_same x fs (mode.Parameter c n p ns) k h = on_name_same _ x _ _ _ _ (λ m q. (refl, k, h)) refl
steps_same x fs (mode.ParameterNamed c n p ns) k h = on_symbol_same _ x _ _ _ _ (λ s q. parameter_named_same _ c n p ns fs s k h) refl
steps_same x fs (mode.DefinedAs c n p form) k h = on_symbol_same _ x _ _ _ _ (λ s q. defined_as_same _ c n p form fs s k h) refl
steps_same x fs (mode.ExceptMark at e cs) k h = on_symbol_same _ x _ _ _ _ (λ s q. except_mark_same _ at e cs fs s k h) refl
steps_same x fs (mode.ExceptPath at e cs ss) k h = on_symbol_same _ x _ _ _ _ (λ s q. except_path_same _ at e cs ss fs s q k h) refl
steps_same x fs (mode.ExceptField at e cs ss q) k h = on_name_same _ x _ _ _ _ (λ n p. (refl, k, h)) refl
steps_same x fs (mode.FieldName e q) k h = on_name_same _ x _ _ _ _ (λ n p. step_same ⊥ e q (tree.Field n) fs k h) refl
steps_same x fs (mode.InstanceName at i) k h = on_name_same _ x _ _ _ _ (λ n p. (refl, k, (h, sits (tree.Qualified at (qualified i n) NoTrees) fs refl refl))) refl
steps_same x fs (mode.RecordName c at hs) k h = on_name_same _ x _ _ _ _ (λ n p. record_name_same _ c at hs n fs k h) refl
steps_same x fs (mode.RecordNamed c at hs n) k h = on_symbol_same _ x _ _ _ _ (λ s q. record_named_same _ c at hs n fs s k h) refl
steps_same x fs (mode.SubscriptStart c at e) k h = action_same _ x c at e fs k h
steps_same x fs (mode.FairStart at) k h = fair_same _ x at fs k h
steps_same x fs (mode.FairOpen at v) k h = on_symbol_same _ x _ _ _ _ (λ s q. fair_opened_same _ at v fs s k h) refl
steps_same x fs (mode.CaseNext at arms) k h = case_next_same _ x at arms fs k h
steps_same x fs (mode.OtherArrow at arms) k h = on_symbol_same _ x _ _ _ _ (λ s q. other_arrow_same _ at arms fs s k h) refl
