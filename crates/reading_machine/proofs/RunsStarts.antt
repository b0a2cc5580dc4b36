-- What the text of a tree begins with.
use Rattle.std.proofs.Common.{◌≡◌, Bool, true, false, ◌&&◌, ◌||◌, List, [], ◌∷◌, refl, sym, subst}
use Rattle.base_core.specs.declared.place.Place.{Place}
use Rattle.reading_trees.specs.declared.laid.Laid.{Laid}
use Rattle.reading_trees.specs.declared.laid.Laid.TheVariants.{Plain, ListOpen, ListItem, ListClose}
use Rattle.reading_tokens.specs.declared.token.Kind.{Kind}
use Rattle.reading_tokens.specs.declared.token.Kind.TheVariants as kinds
use Rattle.reading_tokens.specs.declared.token.Symbol.{Symbol}
use Rattle.reading_tokens.specs.declared.token.Symbol.TheVariants as symbols
use Rattle.reading_trees.specs.declared.operators.PrefixOperator.{PrefixOperator}
use Rattle.reading_trees.specs.declared.operators.PrefixOperator.TheVariants as prefixes
use Rattle.reading_trees.specs.declared.operators.InfixOperator.{InfixOperator}
use Rattle.reading_trees.specs.declared.operators.Quantifier.TheVariants as quantifiers
use Rattle.reading_trees.specs.declared.operators.BuiltinSet.TheVariants as builtins
use Rattle.reading_trees.specs.Precedence.{infix_symbol, prefix_kind}
use Rattle.reading_trees.specs.Grammar.{IsPrimary, Text, Chain, StepText, StepsText, begins_member, first_begins, is_member, is_name}
use Rattle.reading_trees.specs.Trees as tree
use Rattle.reading_trees.specs.Trees.{Tree, Operands, First, Next, Step, Steps, NoSteps, MoreSteps}
use Rattle.reading_machine.specs.Machine.{is_other_word}
use Rattle.reading_machine.proofs.RunsParts.{plain}

abbrev pub is_closer : Symbol → Bool
is_closer symbols.CloseBrace = true
is_closer symbols.CloseTuple = true
is_closer _ = false

abbrev pub OpenKind : Kind → Type 0
OpenKind (kinds.Symbol s) = is_closer s ≡ false
OpenKind (kinds.Word w) = is_other_word w ≡ false
OpenKind _ = Unit {0}

-- a list that begins with something other than `}`, `>>` and OTHER
abbrev pub Opened : List Laid → Type 0
Opened [] = ⊥
Opened (Plain t ∷ xs) = OpenKind t.kind
Opened (x ∷ xs) = Unit {0}

pub prefix_open : (o : PrefixOperator) → OpenKind (prefix_kind o)
prefix_open prefixes.Not = refl
prefix_open prefixes.Always = refl
prefix_open prefixes.Eventually = refl
prefix_open prefixes.Negate = refl
prefix_open _ = refl

opened_at : (k : Kind) (at : Place) (xs ys : List Laid) → xs ≡ plain k at ∷ ys → OpenKind k → Opened xs
opened_at k at xs ys h o = subst Opened (sym h) o

mutual
  pub opened : (e : Tree) (xs ys : List Laid) → Text e xs ys → Opened xs
  opened (tree.Number at n) xs ys h = opened_at (kinds.Number n) at xs ys h tt
  opened (tree.Str at s) xs ys h = opened_at (kinds.Str s) at xs ys h tt
  opened (tree.Truth at true) xs ys h = subst Opened (sym h) refl
  opened (tree.Truth at false) xs ys h = subst Opened (sym h) refl
  opened (tree.Builtin at builtins.Booleans) xs ys h = subst Opened (sym h) refl
  opened (tree.Builtin at builtins.Strings) xs ys h = subst Opened (sym h) refl
  opened (tree.Name at n) xs ys h = subst Opened (sym h) tt
  opened (tree.Call at n es) xs ys h = subst Opened (sym h.1) tt
  opened (tree.Qualified at q es) xs ys h = subst Opened (sym h.1.3.1) tt
  opened (tree.At at) xs ys h = subst Opened (sym h) refl
  opened (tree.Parenthesized at e) xs ys h = subst Opened (sym h.1) refl
  opened (tree.Junction at b es) xs ys h = subst Opened (sym h.1) tt
  opened (tree.Prefix at o e) xs ys h = subst Opened (sym h.1) (prefix_open o)
  opened (tree.Infix at o es e) xs ys h = chain_opened o es xs h.0 h.1
  opened (tree.Postfix at e ss s) xs ys h = opened e xs h.1.0 h.1.1
  opened (tree.SetOf at es) xs ys h = subst Opened (sym h.1) refl
  opened (tree.Filter at n s e) xs ys h = subst Opened (sym h.1) refl
  opened (tree.Map at e bs) xs ys h = subst Opened (sym h.1.1) refl
  opened (tree.Tuple at es) xs ys h = subst Opened (sym h.1) refl
  opened (tree.Function at bs e) xs ys h = subst Opened (sym h.1) refl
  opened (tree.FunctionSet at s e) xs ys h = subst Opened (sym h.1) refl
  opened (tree.Record at hs) xs ys h = subst Opened (sym h.1.1) refl
  opened (tree.RecordSet at hs) xs ys h = subst Opened (sym h.1.1) refl
  opened (tree.Except at e cs) xs ys h = subst Opened (sym h.1) refl
  opened (tree.Quantified at quantifiers.ForAll bs e) xs ys h = subst Opened (sym h.1) refl
  opened (tree.Quantified at quantifiers.Exists bs e) xs ys h = subst Opened (sym h.1) refl
  opened (tree.Choose at n s e) xs ys h = subst Opened (sym h.1) refl
  opened (tree.If at p e f) xs ys h = subst Opened (sym h.1) refl
  opened (tree.Case at arms) xs ys h = subst Opened (sym h.1) refl
  opened (tree.CaseOther at arms e) xs ys h = subst Opened (sym h.1) refl
  opened (tree.Let at ds e) xs ys h = subst Opened (sym h.1) refl
  opened (tree.BoxAction at e v) xs ys h = subst Opened (sym h.1.1) refl
  opened (tree.AngleAction at e v) xs ys h = subst Opened (sym h.1.1) refl
  opened (tree.Fairness at v e) xs ys h = subst Opened (sym h.1.1) tt

  pub chain_opened : (o : InfixOperator) (es : Operands) (xs ys : List Laid) → Chain o es xs ys → Opened xs
  chain_opened o (First e) xs ys h = opened e xs ys h
  chain_opened o (Next es at e) xs ys h = chain_opened o es xs h.0 h.1

-- ---- what stands behind a name at the beginning

abbrev pub SecondKind : (Symbol → Bool) → Kind → Type 0
SecondKind bad (kinds.Symbol s) = bad s ≡ false
SecondKind bad _ = Unit {0}

-- a list that begins with none of the symbols
abbrev pub Clear : (Symbol → Bool) → List Laid → Type 0
Clear bad [] = Unit {0}
Clear bad (Plain t ∷ xs) = SecondKind bad t.kind
Clear bad (x ∷ xs) = Unit {0}

pub clear_here : (bad : Symbol → Bool) (x : Laid) (xs ys : List Laid) → Clear bad (x ∷ xs) → Clear bad (x ∷ ys)
clear_here bad (Plain t) xs ys h = h
clear_here bad (ListOpen b q) xs ys h = tt
clear_here bad (ListItem b q) xs ys h = tt
clear_here bad (ListClose q) xs ys h = tt

abbrev pub NamedKind : (Symbol → Bool) → Kind → List Laid → Type 0
NamedKind bad (kinds.Name n) xs = Clear bad xs
NamedKind bad _ xs = Unit {0}

-- a list that does not begin with a name and one of the symbols
abbrev pub Named : (Symbol → Bool) → List Laid → Type 0
Named bad [] = Unit {0}
Named bad (Plain t ∷ xs) = NamedKind bad t.kind xs
Named bad (x ∷ xs) = Unit {0}

-- symbols that are, but for `\in`, no operator, begin no step and no arguments and are no `!`
pub record Special (bad : Symbol → Bool) : Type 0 where
  pub infixes : (o : InfixOperator) → is_member o ≡ false → bad (infix_symbol o) ≡ false
  pub prime : bad symbols.Prime ≡ false
  pub bracket : bad symbols.OpenBracket ≡ false
  pub dot : bad symbols.Dot ≡ false
  pub parenthesis : bad symbols.OpenParenthesis ≡ false
  pub exclamation : bad symbols.Exclamation ≡ false

pub prefix_named : (bad : Symbol → Bool) (o : PrefixOperator) (xs : List Laid) → NamedKind bad (prefix_kind o) xs
prefix_named bad prefixes.Not xs = tt
prefix_named bad _ xs = tt

step_clear : (bad : Symbol → Bool) → Special bad → (at : Place) (s : Step) (xs ys : List Laid) → StepText at s xs ys → Clear bad xs
step_clear bad b at tree.Prime xs ys h = subst (Clear bad) (sym h) b.prime
step_clear bad b at (tree.Index es) xs ys h = subst (Clear bad) (sym h.1) b.bracket
step_clear bad b at (tree.Field n) xs ys h = subst (Clear bad) (sym h.1) b.dot

steps_clear : (bad : Symbol → Bool) → Special bad → (ss : Steps) (xs ys : List Laid) → StepsText ss xs ys → Clear bad ys → Clear bad xs
steps_clear bad b NoSteps xs ys h c = subst (Clear bad) (sym h) c
steps_clear bad b (MoreSteps ss at s) xs ys h c = steps_clear bad b ss xs h.0 h.1 (step_clear bad b at s h.0 ys h.2)

or_left : (a b : Bool) → (a || b) ≡ false → a ≡ false
or_left true b e = e
or_left false b e = refl

or_right : (a b : Bool) → (a || b) ≡ false → b ≡ false
or_right true b e = cc
or_right false b e = e

member_false : (a b : Bool) → (a && b) ≡ false → b ≡ true → a ≡ false
member_false true true e q = e
member_false true false e q = cc
member_false false b e q = refl

primary_begins : (e : Tree) → IsPrimary e → begins_member e ≡ false
primary_begins (tree.Infix at o es e) h = absurd h
primary_begins _ h = refl

mutual
  pub named : (bad : Symbol → Bool) → Special bad → (e : Tree) → begins_member e ≡ false → (xs ys : List Laid) → Text e xs ys → (is_name e ≡ true → Clear bad ys) → Named bad xs
  named bad b (tree.Number at n) m xs ys h c = subst (Named bad) (sym h) tt
  named bad b (tree.Str at s) m xs ys h c = subst (Named bad) (sym h) tt
  named bad b (tree.Truth at true) m xs ys h c = subst (Named bad) (sym h) tt
  named bad b (tree.Truth at false) m xs ys h c = subst (Named bad) (sym h) tt
  named bad b (tree.Builtin at builtins.Booleans) m xs ys h c = subst (Named bad) (sym h) tt
  named bad b (tree.Builtin at builtins.Strings) m xs ys h c = subst (Named bad) (sym h) tt
  named bad b (tree.Name at n) m xs ys h c = subst (Named bad) (sym h) (c refl)
  named bad b (tree.Call at n es) m xs ys h c = subst (Named bad) (sym h.1) (subst (Clear bad) (sym h.2.1.1) b.parenthesis)
  named bad b (tree.Qualified at q es) m xs ys h c = subst (Named bad) (sym h.1.3.1) (subst (Clear bad) (sym h.1.3.2.1.1) b.exclamation)
  named bad b (tree.At at) m xs ys h c = subst (Named bad) (sym h) tt
  named bad b (tree.Junction at l es) m xs ys h c = subst (Named bad) (sym h.1) tt
  named bad b (tree.Prefix at o e) m xs ys h c = subst (Named bad) (sym h.1) (prefix_named bad o h.0)
  named bad b (tree.Infix at o es e) m xs ys h c = chain_named bad b o es m xs h.0 h.1 at h.2.0 h.2.1
  named bad b (tree.Postfix at e ss s) m xs ys h c =
      named bad b e (primary_begins e h.0) xs h.1.0 h.1.1 (λ q. steps_clear bad b ss h.1.0 h.1.2.0 h.1.2.1 (step_clear bad b at s h.1.2.0 ys h.1.2.2))
  named bad b (tree.Map at e bs) m xs ys h c = subst (Named bad) (sym h.1.1) tt
  named bad b (tree.Record at hs) m xs ys h c = subst (Named bad) (sym h.1.1) tt
  named bad b (tree.RecordSet at hs) m xs ys h c = subst (Named bad) (sym h.1.1) tt
  named bad b (tree.Quantified at q bs e) m xs ys h c = subst (Named bad) (sym h.1) tt
  named bad b (tree.BoxAction at e v) m xs ys h c = subst (Named bad) (sym h.1.1) tt
  named bad b (tree.AngleAction at e v) m xs ys h c = subst (Named bad) (sym h.1.1) tt
  named bad b (tree.Fairness at v e) m xs ys h c = subst (Named bad) (sym h.1.1) tt
  named bad b _ m xs ys h c = subst (Named bad) (sym h.1) tt

  pub chain_named : (bad : Symbol → Bool) → Special bad → (o : InfixOperator) (es : Operands) → first_begins o es ≡ false → (xs ys : List Laid) → Chain o es xs ys → (at : Place) (zs : List Laid)
      → ys ≡ plain (kinds.Symbol (infix_symbol o)) at ∷ zs → Named bad xs
  chain_named bad b o (First e) m xs ys h at zs q =
      named bad b e (or_right (is_member o && is_name e) (begins_member e) m) xs ys h
      (λ n. subst (Clear bad) (sym q) (b.infixes o (member_false (is_member o) (is_name e) (or_left (is_member o && is_name e) (begins_member e) m) n)))
  chain_named bad b o (Next es p e) m xs ys h at zs q = chain_named bad b o es m xs h.0 h.1 p h.2.0 h.2.1
