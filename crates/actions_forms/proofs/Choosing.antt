-- How a term is taken apart.
use Rattle.std.proofs.Common.{◌≡◌, ◌∙◌, ap, sym, subst, List, [], ◌∷◌, length}
use Rattle.std.specs.Prelude.{ℕ, true, false, nat_eq, Option, None}
use Rattle.base_core.specs.declared.place.Place.{Place}
use Rattle.reading_trees.specs.declared.operators.InfixOperator.{InfixOperator}
use Rattle.names_terms.specs.declared.level.Level.{Level}
use Rattle.names_terms.specs.declared.term.Operand.{Operand}
use Rattle.names_terms.specs.TermViews.{operands_from, operands_of, steps_are_none}
use Rattle.names_terms.specs.Terms as term
use Rattle.names_terms.specs.Terms.{Term, Placed, Meaning, Steps, Step, Operands}
use Rattle.names_term_parts.specs.Parts.{is_prime}
use Rattle.actions_meanings.specs.declared.which.Which.{Which}
use Rattle.actions_meanings.specs.declared.which.Which.TheVariants as which
use Rattle.actions_meanings.specs.Forms.{target}
use Rattle.actions_forms.specs.Kinds.{IsTest, is_equation}
use Rattle.actions_forms.proofs.Opened.{no-equation, target-behind, target-primed, target-unprimed}

-- THE VARIABLE BEFORE A PRIME

pub alone : (at : Place) (l : Level) (b : Term) (p : Place) (q : Level) (m : Meaning) (ss : Steps) (o : Option ℕ) → Placed p q m ≡ b → steps_are_none ss ≡ true → ((at : Place) (l : Level) → o ≡ target which.Init (Placed at l m)) → o ≡ target which.Action (Placed at l (term.Postfix b ss term.Prime))
alone at l b p q m term.NoSteps o seen none own = own p q ∙ ap (target which.Init) seen ∙ sym (target-primed at l b)
alone at l b p q m (term.MoreSteps ss r s) o seen none own = absurd (cc)

pub not-alone : (at : Place) (l : Level) (b : Term) (ss : Steps) (s : Step) → steps_are_none ss ≡ false → None ≡ target which.Action (Placed at l (term.Postfix b ss s))
not-alone at l b term.NoSteps s none = absurd (cc)
not-alone at l b (term.MoreSteps ss r t) s none = sym (target-behind at r l b ss s t)

pub not-primed : (at : Place) (l : Level) (b : Term) (ss : Steps) (s : Step) → is_prime s ≡ false → None ≡ target which.Action (Placed at l (term.Postfix b ss s))
not-primed at l b ss s q = sym (target-unprimed at l b ss s q)

pub as-view : (w : Which) (e : Term) (p : Place) (q : Level) (m : Meaning) (o : Option ℕ) → Placed p q m ≡ e → ((at : Place) (l : Level) → o ≡ target w (Placed at l m)) → o ≡ target w e
as-view w e p q m o seen own = own p q ∙ ap (target w) seen

-- CHAINS

pub unequal : (w : Which) (o : InfixOperator) (os : Operands) (e : Term) → is_equation o ≡ false → IsTest w (term.Infix o os e)
unequal w o (term.First l) e q = no-equation o (target w l) e q
unequal w o (term.Next os at l) e q = tt

more_operands : (w : Which) (o : InfixOperator) (os : Operands) (at : Place) (l e : Term) (xs : List Operand) → IsTest w (term.Infix o (operands_from (term.Next os at l) xs) e)
more_operands w o os at l e [] = tt
more_operands w o os at l e (x ∷ xs) = more_operands w o (term.Next os at l) x.at x.value e xs

pub chained : (w : Which) (o : InfixOperator) (first e : Term) (others : List Operand) (os : Operands) → operands_of first others ≡ os → nat_eq (length others) 0 ≡ false → IsTest w (term.Infix o os e)
chained w o first e [] os q more = absurd (cc)
chained w o first e (x ∷ xs) os q more = subst (λ (z : Operands). IsTest w (term.Infix o z e)) q (more_operands w o (term.First first) x.at x.value e xs)
