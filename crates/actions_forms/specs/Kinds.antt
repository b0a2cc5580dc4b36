-- What the code tells of a term that is taken apart.
use Rattle.std.specs.Prelude.{◌≡◌, Bool, true, false, Option, Some, None}
use Rattle.reading_trees.specs.declared.operators.PrefixOperator.TheVariants as prefix
use Rattle.reading_trees.specs.declared.operators.InfixOperator.{InfixOperator}
use Rattle.reading_trees.specs.declared.operators.InfixOperator.TheVariants as infix_operator
use Rattle.reading_trees.specs.declared.operators.Quantifier.TheVariants as quantifier
use Rattle.names_terms.specs.Terms as term
use Rattle.names_terms.specs.Terms.{Term, Placed, Meaning}
use Rattle.base_core.specs.declared.place.Place.{Place}
use Rattle.names_terms.specs.declared.level.Level.{Level}
use Rattle.actions_meanings.specs.declared.which.Which.{Which}
use Rattle.actions_meanings.specs.Forms.{infix_form, is_taken, target, test}
use Rattle.actions_forms.specs.declared.kinds.Kind.{Kind}
use Rattle.actions_forms.specs.declared.kinds.Kind.TheVariants as kind
use Rattle.actions_forms.specs.declared.kinds.Split.{Split}

abbrev pub is_equation : InfixOperator → Bool
is_equation infix_operator.Equal = true
is_equation infix_operator.Member = true
is_equation o = false

-- a term with that meaning is one test
abbrev pub IsTest : Which → Meaning → Type 0
IsTest w (term.All ts) = ⊥
IsTest w (term.Any ts) = ⊥
IsTest w (term.Quantified quantifier.Exists bs e) = ⊥
IsTest w (term.If p e f) = ⊥
IsTest w (term.Case cs) = ⊥
IsTest w (term.CaseOther cs e) = ⊥
IsTest w (term.Scoped ks e) = ⊥
IsTest w (term.Parenthesized e) = ⊥
IsTest w (term.Use k ts) = ⊥
IsTest w (term.BoxAction e v) = ⊥
IsTest w (term.AngleAction e v) = ⊥
IsTest w (term.Prefix prefix.Unchanged e) = ⊥
IsTest w (term.Infix o (term.First e) f) = infix_form o (target w e) f ≡ test
IsTest w m = Unit {0}

abbrev pub IsKind : Which → Meaning → Kind → Type 0
IsKind w m kind.Test = IsTest w m
IsKind w m (kind.Given o x l e) = (m ≡ term.Infix o (term.First l.now) e.now) × (target w l.now ≡ Some x) × (is_equation o ≡ true)
IsKind w m (kind.Both ts) = m ≡ term.All ts.now
IsKind w m (kind.OneOf ts) = m ≡ term.Any ts.now
IsKind w m (kind.Exists bs e) = m ≡ term.Quantified quantifier.Exists bs.now e.now
IsKind w m (kind.Branch p e f) = m ≡ term.If p.now e.now f.now
IsKind w m (kind.Case cs) = m ≡ term.Case cs.now
IsKind w m (kind.CaseOther cs e) = m ≡ term.CaseOther cs.now e.now
IsKind w m (kind.Scoped ks e) = m ≡ term.Scoped ks.now e.now
IsKind w m (kind.Parenthesized e) = m ≡ term.Parenthesized e.now
IsKind w m (kind.Call k ts) = m ≡ term.Use k ts.now
IsKind w m (kind.BoxAction e v) = m ≡ term.BoxAction e.now v.now
IsKind w m (kind.AngleAction e v) = m ≡ term.AngleAction e.now v.now
IsKind w m (kind.Unchanged e) = m ≡ term.Prefix prefix.Unchanged e.now

abbrev pub IsNoIf : Meaning → Type 0
IsNoIf (term.If p e f) = ⊥
IsNoIf m = Unit {0}

-- the term is an IF that is taken apart, with these parts; and none where it is no such IF
abbrev pub IsSplit : Which → Term → Option Split → Type 0
IsSplit w (Placed at l m) None = is_taken w l ≡ true → IsNoIf m
IsSplit w e (Some s) = (at : Place) × (l : Level) × (is_taken w l ≡ true) × (e ≡ Placed at l (term.If s.test.now s.then.now s.other.now))
