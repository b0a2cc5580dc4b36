-- Rows that begin with a token of their own.
use Rattle.std.proofs.Common.{◌≡◌, ℕ, ℤ, Bool, true, false, List, ◌∷◌, refl, sym, ap, ◌∙◌}
use Rattle.base_core.specs.declared.place.Place.{Place}
use Rattle.reading_trees.specs.declared.laid.Bullet.{Bullet}
use Rattle.reading_trees.specs.declared.laid.Bullet.TheVariants as bullets
use Rattle.reading_trees.specs.declared.laid.Laid.{Laid}
use Rattle.reading_trees.specs.declared.laid.Laid.TheVariants.{ListItem}
use Rattle.reading_tokens.specs.declared.token.Kind.TheVariants as kinds
use Rattle.reading_tokens.specs.declared.token.Symbol.TheVariants as symbols
use Rattle.reading_trees.specs.declared.operators.PrefixOperator.{PrefixOperator}
use Rattle.reading_trees.specs.declared.operators.PrefixOperator.TheVariants as prefixes
use Rattle.reading_trees.specs.declared.operators.InfixOperator.{InfixOperator}
use Rattle.reading_trees.specs.declared.operators.InfixOperator.TheVariants as infixes
use Rattle.reading_trees.specs.declared.operators.BuiltinSet.{BuiltinSet}
use Rattle.reading_trees.specs.declared.operators.BuiltinSet.TheVariants as builtins
use Rattle.reading_trees.specs.Precedence.{Above, prefix_range, infix_range, chains, prefix_kind, infix_symbol}
use Rattle.reading_trees.specs.Fits.{LeftAbove, RightAbove, FirstAbove, ChainFits}
use Rattle.reading_trees.specs.Grammar.{QualifiedName, Text, ArgumentsText, Chain, Commas, ItemsBefore, sign, sign_at, list_item}
use Rattle.reading_trees.specs.Trees as tree
use Rattle.reading_trees.specs.Trees.{Tree, Trees, NoTrees, MoreTrees, Operands, First, Next}
use Rattle.reading_machine.specs.declared.frame.Frame.{Frame}
use Rattle.reading_machine.specs.declared.frame.Frame.TheVariants as frame
use Rattle.reading_machine.specs.declared.frame.Mode.TheVariants as mode
use Rattle.reading_machine.specs.Machine.{begins, follows, infix_step, same_bullet, want}
use Rattle.reading_machine.proofs.Runner.{Runner, after, run}
use Rattle.reading_machine.proofs.RunsEdges.{spine, last, Top, top_map, delivers, infix_steps, pushes, extends, first_of}
use Rattle.reading_machine.proofs.RunsParts.{Runs, AllGood, plain, part, commas}

-- ---- operators

pub prefix_begins : (o : PrefixOperator) (at : Place) (fs : List Frame) → begins (plain (prefix_kind o) at) fs ≡ want (frame.Prefix o at ∷ fs)
prefix_begins prefixes.Not at fs = refl
prefix_begins _ at fs = refl

infix_follows : (o : InfixOperator) (at : Place) (fs : List Frame) (e : Tree) → follows (plain (kinds.Symbol (infix_symbol o)) at) fs e ≡ infix_step o at fs e
infix_follows infixes.Implies at fs e = refl
infix_follows _ at fs e = refl

-- how the operands of a chain but its last meet it
abbrev pub Meet : InfixOperator → Operands → Type 0
Meet o (First e) = RightAbove (infix_range o) e
Meet o (Next es at e) = Meet o es × LeftAbove (infix_range o) e × RightAbove (infix_range o) e × (chains o ≡ true)

pub chain_meets : (o : InfixOperator) (es : Operands) → ChainFits o es → Meet o es
chain_meets o (First e) h = h.1
chain_meets o (Next es at e) h = (chain_meets o es h.0, h.2, h.3, h.4)

-- ---- junction lists

pub same_itself : (b : Bullet) → same_bullet b b ≡ true
same_itself bullets.And = refl
same_itself bullets.Or = refl

module _ (reader : Runner) where
  -- ---- one token

  pub number_runs : (at : Place) (n : ℤ) → Runs reader (tree.Number at n)
  number_runs at n fs top xs ys h = ap (λ v. run reader v fs mode.Want) h

  pub str_runs : (at : Place) (s : List ℕ) → Runs reader (tree.Str at s)
  str_runs at s fs top xs ys h = ap (λ v. run reader v fs mode.Want) h

  pub truth_runs : (at : Place) (b : Bool) → Runs reader (tree.Truth at b)
  truth_runs at true fs top xs ys h = ap (λ v. run reader v fs mode.Want) h
  truth_runs at false fs top xs ys h = ap (λ v. run reader v fs mode.Want) h

  pub builtin_runs : (at : Place) (b : BuiltinSet) → Runs reader (tree.Builtin at b)
  builtin_runs at builtins.Booleans fs top xs ys h = ap (λ v. run reader v fs mode.Want) h
  builtin_runs at builtins.Strings fs top xs ys h = ap (λ v. run reader v fs mode.Want) h

  pub name_runs : (at : Place) (n : List ℕ) → Runs reader (tree.Name at n)
  name_runs at n fs top xs ys h = ap (λ v. run reader v fs mode.Want) h

  pub at_runs : (at : Place) → Runs reader (tree.At at)
  at_runs at fs top xs ys h = ap (λ v. run reader v fs mode.Want) h

  pub prefix_runs : (at : Place) (o : PrefixOperator) (e : Tree) → Runs reader e → LeftAbove (prefix_range o) e → Runs reader (tree.Prefix at o e)
  prefix_runs at o e r l fs top xs ys h =
      ap (λ v. run reader v fs mode.Want) h.1
      ∙ ap (λ s. after reader s (plain (prefix_kind o) at ∷ h.0) (run reader h.0)) (prefix_begins o at fs)
      ∙ r (frame.Prefix o at ∷ fs) l h.0 ys h.2

  abbrev pub ChainRuns : Operands → Type 0
  ChainRuns (First e) = Runs reader e
  ChainRuns (Next es at e) = ChainRuns es × Runs reader e

  operand_ends : (o : InfixOperator) (at : Place) (e : Tree) (fs gs : List Frame) (xs ys zs : List Laid) → Runs reader e → Top fs (λ r. LeftAbove r e) → RightAbove (infix_range o) e
      → infix_step o at fs e ≡ want gs → Text e xs ys → sign_at at (infix_symbol o) ys zs → run reader xs fs mode.Want ≡ run reader zs gs mode.Want
  operand_ends o at e fs gs xs ys zs r top right q text sign =
      r fs top xs ys text ∙ ap (λ v. run reader v (spine e fs) (mode.Have (last e))) sign
      ∙ ap (λ s. after reader s (plain (kinds.Symbol (infix_symbol o)) at ∷ zs) (run reader zs)) (infix_follows o at (spine e fs) (last e) ∙ infix_steps o at e fs right ∙ q)

  pub chain_runs : (o : InfixOperator) (es : Operands) → ChainRuns es → Meet o es → (at : Place) (fs : List Frame) → Top fs (λ r. Above (infix_range o) r × FirstAbove r es) → (xs ys zs : List Laid)
      → Chain o es xs ys → sign_at at (infix_symbol o) ys zs → run reader xs fs mode.Want ≡ run reader zs (frame.Infix o es at ∷ fs) mode.Want
  chain_runs o (First e) r m at fs top xs ys zs h s =
      operand_ends o at e fs (frame.Infix o (First e) at ∷ fs) xs ys zs r (top_map fs (λ r. Above (infix_range o) r × LeftAbove r e) (λ r. LeftAbove r e) (λ r k. k.1) top) m
      (pushes o at fs e (top_map fs (λ r. Above (infix_range o) r × LeftAbove r e) (λ r. Above (infix_range o) r) (λ r k. k.0) top)) h s
  chain_runs o (Next es p e) r m at fs top xs ys zs h s =
      chain_runs o es r.0 m.0 p fs top xs h.0 h.2.0 h.1 h.2.1
      ∙ operand_ends o at e (frame.Infix o es p ∷ fs) (frame.Infix o (Next es p e) at ∷ fs) h.2.0 ys zs r.1 m.1 m.2 (extends o at p es fs e m.3) h.2.2 s

  pub infix_runs : (at : Place) (o : InfixOperator) (es : Operands) (e : Tree) → ChainRuns es → Meet o es → Runs reader e → LeftAbove (infix_range o) e → Runs reader (tree.Infix at o es e)
  infix_runs at o es e c m r l fs top xs ys h =
      chain_runs o es c m at fs top xs h.0 h.2.0 h.1 h.2.1 ∙ r (frame.Infix o es at ∷ fs) l h.2.0 ys h.2.2

  -- ---- parentheses, calls, IF

  pub parenthesized_runs : (at : Place) (e : Tree) → Runs reader e → Runs reader (tree.Parenthesized at e)
  parenthesized_runs at e r fs top xs ys h =
      ap (λ v. run reader v fs mode.Want) h.1
      ∙ part reader _ _ e (frame.Parenthesis at ∷ fs) r tt h.2.1 h.2.2.1 refl (λ gs a. refl)
      ∙ ap (λ s. after reader s (plain (kinds.Symbol symbols.CloseParenthesis) h.2.2.0 ∷ ys) (run reader ys)) (delivers fs (λ r. LeftAbove r (tree.Parenthesized at e)) (tree.Parenthesized at e) top)

  call_arguments : (at : Place) (n : List ℕ) (es : Trees) → AllGood reader es → (fs : List Frame) (xs ys zs : List Laid) → Commas es xs ys → sign symbols.CloseParenthesis ys zs
      → run reader xs (frame.Call n at NoTrees ∷ fs) mode.Want ≡ run reader zs fs (mode.Have (tree.Call at n es))
  call_arguments at n NoTrees g fs xs ys zs h s = absurd h
  call_arguments at n (MoreTrees es e) g fs xs ys zs h s =
      commas reader (λ bs. frame.Call n at bs) fs (λ bs a. tt) (λ bs p a. refl) es g.0 xs h.0 h.1
      ∙ part reader _ _ e (frame.Call n at es ∷ fs) g.1.runs tt h.2 s.1 refl (λ gs a. refl)

  pub call_runs : (at : Place) (n : List ℕ) (es : Trees) → AllGood reader es → Runs reader (tree.Call at n es)
  call_runs at n es g fs top xs ys h =
      ap (λ v. run reader v fs mode.Want) h.1
      ∙ ap (λ v. run reader v fs (mode.Have (tree.Name at n))) h.2.1.1
      ∙ call_arguments at n es g fs h.2.0 h.2.2.0 ys h.2.2.1 h.2.2.2

  qualified_call : (at : Place) (n : List ℕ) (es : Trees) → AllGood reader es → (fs : List Frame) (xs ys zs : List Laid) → Commas es xs ys → sign symbols.CloseParenthesis ys zs
      → run reader xs (frame.QualifiedCall n at NoTrees ∷ fs) mode.Want ≡ run reader zs fs (mode.Have (tree.Qualified at n es))
  qualified_call at n NoTrees g fs xs ys zs h s = absurd h
  qualified_call at n (MoreTrees es e) g fs xs ys zs h s =
      commas reader (λ bs. frame.QualifiedCall n at bs) fs (λ bs a. tt) (λ bs p a. refl) es g.0 xs h.0 h.1
      ∙ part reader _ _ e (frame.QualifiedCall n at es ∷ fs) g.1.runs tt h.2 s.1 refl (λ gs a. refl)

  qualified_arguments : (at : Place) (n : List ℕ) (es : Trees) → AllGood reader es → (fs : List Frame) (xs ys : List Laid) → ArgumentsText es xs ys
      → run reader xs fs (mode.Have (tree.Qualified at n NoTrees)) ≡ run reader ys fs (mode.Have (tree.Qualified at n es))
  qualified_arguments at n NoTrees g fs xs ys h = ap (λ v. run reader v fs (mode.Have (tree.Qualified at n NoTrees))) h
  qualified_arguments at n (MoreTrees es e) g fs xs ys h =
      ap (λ v. run reader v fs (mode.Have (tree.Qualified at n NoTrees))) h.1.1 ∙ qualified_call at n (MoreTrees es e) g fs h.0 h.2.0 ys h.2.1 h.2.2

  pub qualified_name : (at : Place) (q : List ℕ) (fs : List Frame) (xs ys : List Laid) → QualifiedName at q xs ys → run reader xs fs mode.Want ≡ run reader ys fs (mode.Have (tree.Qualified at q NoTrees))
  qualified_name at q fs xs ys h =
      let i = h.0 in let n = h.3 in
      ap (λ v. run reader v fs mode.Want) n.1
      ∙ ap (λ v. run reader v fs (mode.Have (tree.Name at i))) n.2.1.1
      ∙ ap (λ v. run reader v fs (mode.InstanceName at i)) n.2.2.1
      ∙ ap (λ v. run reader ys fs (mode.Have (tree.Qualified at v NoTrees))) (sym h.2)

  pub qualified_runs : (at : Place) (q : List ℕ) (es : Trees) → AllGood reader es → Runs reader (tree.Qualified at q es)
  qualified_runs at q es g fs top xs ys h = qualified_name at q fs xs h.0 h.1 ∙ qualified_arguments at q es g fs h.0 ys h.2

  pub if_runs : (at : Place) (p e f : Tree) → Runs reader p → Runs reader e → Runs reader f → Runs reader (tree.If at p e f)
  if_runs at p e f rp re rf fs top xs ys h =
      ap (λ v. run reader v fs mode.Want) h.1
      ∙ part reader _ _ p (frame.IfTest at ∷ fs) rp tt h.2.1 h.2.2.1.1 refl (λ gs a. refl)
      ∙ part reader _ _ e (frame.IfThen at p ∷ fs) re tt h.2.2.2.1 h.2.2.2.2.1.1 refl (λ gs a. refl)
      ∙ rf (frame.IfElse at p e ∷ fs) tt h.2.2.2.2.0 ys h.2.2.2.2.2

  -- up to behind the bullet of an item
  pub items : (at : Place) (b : Bullet) (es : Trees) → AllGood reader es → (fs : List Frame) (xs ys zs : List Laid) → ItemsBefore b es xs ys → list_item b ys zs
      → run reader xs fs (mode.ListStart b at) ≡ run reader zs (frame.Junction b at es ∷ fs) mode.Want
  items at b NoTrees g fs xs ys zs h s =
      ap (λ v. run reader v fs (mode.ListStart b at)) (h ∙ s.1) ∙ ap (λ v. after reader v (ListItem b s.0 ∷ zs) (run reader zs)) (first_of (same_bullet b b) _ _ (same_itself b))
  items at b (MoreTrees es e) g fs xs ys zs h s =
      items at b es g.0 fs xs h.0 h.2.0 h.1 h.2.1
      ∙ part reader _ _ e (frame.Junction b at es ∷ fs) g.1.runs tt h.2.2 s.1 refl (λ gs a. refl)
      ∙ ap (λ v. after reader v (ListItem b s.0 ∷ zs) (run reader zs)) (first_of (same_bullet b b) _ _ (same_itself b))

  pub junction_runs : (at : Place) (b : Bullet) (es : Trees) → AllGood reader es → Runs reader (tree.Junction at b es)
  junction_runs at b NoTrees g fs top xs ys h = absurd h.2.1
  junction_runs at b (MoreTrees es e) g fs top xs ys h =
      ap (λ v. run reader v fs mode.Want) h.1
      ∙ items at b es g.0 fs h.0 h.2.1.0 h.2.1.2.0 h.2.1.1 h.2.1.2.1
      ∙ part reader _ _ e (frame.Junction b at es ∷ fs) g.1.runs tt h.2.1.2.2 h.2.2.1 refl (λ gs a. refl)
