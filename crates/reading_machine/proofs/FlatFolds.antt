-- An infix operator behind an operand, and rows that are put together, flat.
use Rattle.std.proofs.Common.{◌≡◌, Bool, true, false, ◌&&◌, ◌||◌, List, [], ◌∷◌, refl}
use Rattle.std.specs.Prelude.{if◌then◌else◌}
use Rattle.base_core.specs.declared.place.Place.{Place}
use Rattle.reading_trees.specs.declared.operators.InfixOperator.{InfixOperator}
use Rattle.reading_trees.specs.Precedence.{prefix_range, infix_range}
use Rattle.reading_trees.specs.Grammar.{begins_member, first_begins, is_member, is_name}
use Rattle.reading_trees.specs.Trees as tree
use Rattle.reading_trees.specs.Trees.{Tree, NoTrees, Arms, MoreArms, Operands, First, Next}
use Rattle.reading_machine.specs.declared.frame.Frame.{Frame}
use Rattle.reading_machine.specs.declared.frame.Frame.TheVariants as frame
use Rattle.reading_machine.specs.Machine.{Stepped, above, goes_on, infix_step, Settled, settle}
use Rattle.reading_machine.specs.OpenFits.{Open}
use Rattle.reading_machine.proofs.Flat as flat
use Rattle.reading_machine.proofs.FlatStates.{rows, Sits, Settles, ChainSits, FramesKept, Same, sits, chain_sits, half_sits}

no_two : (a b c : Bool) → b ≡ false → c ≡ false → (a && b || c) ≡ false
no_two true b c h k = cc
no_two false b c h k = k

begins_no_member : (o : InfixOperator) (e : Tree) → is_name e ≡ false → begins_member e ≡ false → first_begins o (First e) ≡ false
begins_no_member o e a b = no_two (is_member o) (is_name e) (begins_member e) a b

-- a first operand
pub first_sits : (o : InfixOperator) (e : Tree) (fs : List Frame) → Sits e fs → ChainSits o (First e) fs
first_sits o e [] h = tt
first_sits o e (frame.Braces at NoTrees ∷ fs) h = begins_no_member o e h.0 h.1
first_sits o e (f ∷ fs) h = tt

-- one more operand
next_sits : (o : InfixOperator) (es : Operands) (p : Place) (e : Tree) (fs : List Frame) → ChainSits o es fs → ChainSits o (Next es p e) fs
next_sits o es p e [] h = tt
next_sits o es p e (frame.Braces at NoTrees ∷ fs) h = h
next_sits o es p e (f ∷ fs) h = tt

one_of_two : (G : Stepped → Type 0) (b : Bool) (x y : Stepped) → G x → G y → G (if b then x else y)
one_of_two G true x y f g = f
one_of_two G false x y f g = g

-- where a clash comes of it, A is so
pub infix_same : (A : Type 0) → A → (q : InfixOperator) (at : Place) (fs : List Frame) (e : Tree) → FramesKept fs → Open fs → ChainSits q (First e) fs → Same A (infix_step q at fs e) (flat.want (rows fs))
infix_same A a q at [] e k o s = (refl, ((tt, tt), tt), (tt, tt))
infix_same A a q at (frame.Prefix c p ∷ fs) e k o s =
    one_of_two (λ z. Same A z (flat.want (rows fs))) (above (prefix_range c) (infix_range q)) _ _
    (infix_same A a q at fs (tree.Prefix p c e) k.1 k.0 (first_sits q (tree.Prefix p c e) fs (sits (tree.Prefix p c e) fs refl refl)))
    (one_of_two (λ z. Same A z (flat.want (rows fs))) (above (infix_range q) (prefix_range c)) _ _ (refl, ((tt, tt), k), (tt, tt)) a)
infix_same A a q at (frame.Infix c es p ∷ fs) e k o s =
    one_of_two (λ z. Same A z (flat.want (rows fs))) (above (infix_range c) (infix_range q)) _ _
    (infix_same A a q at fs (tree.Infix p c es e) k.1 k.0.0 (first_sits q (tree.Infix p c es e) fs (chain_sits p c es e fs k.0.1)))
    (one_of_two (λ z. Same A z (flat.want (rows fs))) (above (infix_range q) (infix_range c)) _ _ (refl, ((tt, tt), k), (tt, tt))
    (one_of_two (λ z. Same A z (flat.want (rows fs))) (goes_on c q) _ _ (refl, ((k.0.0, next_sits c es p e fs k.0.1), k.1), (tt, tt)) a))
infix_same A a q at (g ∷ fs) e k o s = (refl, ((o, s), k), (tt, tt))

-- ---- rows that are put together

-- the innermost frame is no operator
abbrev pub Waits : List Frame → Type 0
Waits (frame.Prefix o p ∷ fs) = ⊥
Waits (frame.Infix o es p ∷ fs) = ⊥
Waits _ = Unit {0}

abbrev pub SettledSame : Bool → List Frame → Settled → Type 0
SettledSame case fs s = (flat.settle case (rows fs) ≡ rows s.frames) × FramesKept s.frames × Settles s.tree s.frames × Waits s.frames

case_same : (case : Bool) (p : Place) (arms : Arms) (a : Tree) (fs : List Frame) (e : Tree) → FramesKept (frame.CaseValue p arms a ∷ fs) → SettledSame case fs (settle case fs (tree.Case p (MoreArms arms a e)))
    → SettledSame case (frame.CaseValue p arms a ∷ fs) (settle case (frame.CaseValue p arms a ∷ fs) e)
case_same true p arms a fs e k h = (refl, k, tt, tt)
case_same false p arms a fs e k h = h

pub settle_same : (case : Bool) (fs : List Frame) (e : Tree) → FramesKept fs → Settles e fs → SettledSame case fs (settle case fs e)
settle_same case [] e k s = (refl, tt, tt, tt)
settle_same case (frame.Prefix o p ∷ fs) e k s = settle_same case fs (tree.Prefix p o e) k.1 (half_sits (tree.Prefix p o e) fs (sits (tree.Prefix p o e) fs refl refl))
settle_same case (frame.Infix o es p ∷ fs) e k s = settle_same case fs (tree.Infix p o es e) k.1 (half_sits (tree.Infix p o es e) fs (chain_sits p o es e fs k.0.1))
settle_same case (frame.QuantifierBody q p bs ∷ fs) e k s = settle_same case fs (tree.Quantified p q bs e) k.1 (half_sits (tree.Quantified p q bs e) fs (sits (tree.Quantified p q bs e) fs refl refl))
settle_same case (frame.ChooseBody p n a ∷ fs) e k s = settle_same case fs (tree.Choose p n a e) k.1 (half_sits (tree.Choose p n a e) fs (sits (tree.Choose p n a e) fs refl refl))
settle_same case (frame.IfElse p a b ∷ fs) e k s = settle_same case fs (tree.If p a b e) k.1 (half_sits (tree.If p a b e) fs (sits (tree.If p a b e) fs refl refl))
settle_same case (frame.CaseValue p arms a ∷ fs) e k s =
    case_same case p arms a fs e k (settle_same case fs (tree.Case p (MoreArms arms a e)) k.1 (half_sits (tree.Case p (MoreArms arms a e)) fs (sits (tree.Case p (MoreArms arms a e)) fs refl refl)))
settle_same case (frame.CaseOther p arms ∷ fs) e k s = settle_same case fs (tree.CaseOther p arms e) k.1 (half_sits (tree.CaseOther p arms e) fs (sits (tree.CaseOther p arms e) fs refl refl))
settle_same case (frame.LetBody p ds ∷ fs) e k s = settle_same case fs (tree.Let p ds e) k.1 (half_sits (tree.Let p ds e) fs (sits (tree.Let p ds e) fs refl refl))
settle_same case (g ∷ fs) e k s = (refl, k, s, tt)
