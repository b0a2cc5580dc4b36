-- Terms: expressions with every name resolved, one constructor for each kind of meaning. A term has a place and a level. Lists grow at
-- their end, as they are read. Names that are bound have no name here: a slot is a number, counted from the outermost.
use Rattle.std.specs.Prelude.{ℕ, suc, ◌+◌, List}
use Rattle.base_core.specs.declared.place.Place.{Place}
use Rattle.values_core.specs.Data.{Val}
use Rattle.reading_trees.specs.declared.operators.PrefixOperator.{PrefixOperator}
use Rattle.reading_trees.specs.declared.operators.InfixOperator.{InfixOperator}
use Rattle.reading_trees.specs.declared.operators.Quantifier.{Quantifier}
use Rattle.names_terms.specs.declared.level.Level.{Level}
use Rattle.names_terms.specs.declared.standard.NamedSet.{NamedSet}
use Rattle.names_terms.specs.declared.standard.StandardOperator.{StandardOperator}

mutual
  pub data Term : Type 0 where
    Placed : Place → Level → Meaning → Term

  pub data Meaning : Type 0 where
    Known : Val → Meaning
    Named : NamedSet → Meaning
    Variable : ℕ → Meaning
    Slot : ℕ → Meaning
    Use : ℕ → Terms → Meaning
    Standard : StandardOperator → Terms → Meaning
    Parenthesized : Term → Meaning
    Scoped : List ℕ → Term → Meaning
    All : Terms → Meaning
    Any : Terms → Meaning
    Prefix : PrefixOperator → Term → Meaning
    Infix : InfixOperator → Operands → Term → Meaning
    Postfix : Term → Steps → Step → Meaning
    SetOf : Terms → Meaning
    Filter : Term → Term → Meaning
    Map : Term → Bounds → Meaning
    Tuple : Terms → Meaning
    Function : Bounds → Term → Meaning
    FunctionSet : Term → Term → Meaning
    Record : Fields → Meaning
    RecordSet : Fields → Meaning
    Except : Term → Changes → Meaning
    Quantified : Quantifier → Bounds → Term → Meaning
    Choose : Term → Term → Meaning
    If : Term → Term → Term → Meaning
    Case : Arms → Meaning
    CaseOther : Arms → Term → Meaning
    BoxAction : Term → Term → Meaning
    AngleAction : Term → Term → Meaning
    Fairness : Term → Term → Meaning

  pub data Terms : Type 0 where
    NoTerms : Terms
    MoreTerms : Terms → Term → Terms

  pub data Operands : Type 0 where
    First : Term → Operands
    Next : Operands → Place → Term → Operands

  pub data Step : Type 0 where
    Prime : Step
    Index : Terms → Step
    Field : List ℕ → Step

  pub data Steps : Type 0 where
    NoSteps : Steps
    MoreSteps : Steps → Place → Step → Steps

  pub data Bounds : Type 0 where
    NoBounds : Bounds
    MoreBounds : Bounds → ℕ → Term → Bounds

  pub data Fields : Type 0 where
    NoFields : Fields
    MoreFields : Fields → List ℕ → Term → Fields

  pub data Changes : Type 0 where
    NoChanges : Changes
    MoreChanges : Changes → Steps → Term → Changes

  pub data Arms : Type 0 where
    NoArms : Arms
    MoreArms : Arms → Term → Term → Arms

abbrev pub place_of : Term → Place
place_of (Placed at level m) = at

abbrev pub level_of : Term → Level
level_of (Placed at level m) = level

abbrev pub meaning_of : Term → Meaning
meaning_of (Placed at level m) = m

-- how many terms there are
abbrev pub count : Terms → ℕ
count NoTerms = 0
count (MoreTerms ts t) = suc (count ts)

-- how many names the bounds bind
abbrev pub width : Bounds → ℕ
width NoBounds = 0
width (MoreBounds bs n t) = width bs + n
