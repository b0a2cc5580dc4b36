-- Syntax trees of expressions, one constructor for each row of the grammar (see Grammar). Each begins with the place of the
-- tree: that of its last operator for a chain of infix operators or of postfix steps, and of its first token for all else.
-- Lists grow at their end, as they are read. A qualified name has a mark `!` in it, and arguments or none: `I!N` is one, in which
-- I names an instance of a module and N is of that module.
use Rattle.std.specs.Prelude.{ℕ, ℤ, Bool, List}
use Rattle.base_core.specs.declared.place.Place.{Place}
use Rattle.reading_trees.specs.declared.form.DefinitionForm.{DefinitionForm}
use Rattle.reading_trees.specs.declared.laid.Bullet.{Bullet}
use Rattle.reading_trees.specs.declared.operators.PrefixOperator.{PrefixOperator}
use Rattle.reading_trees.specs.declared.operators.InfixOperator.{InfixOperator}
use Rattle.reading_trees.specs.declared.operators.Quantifier.{Quantifier}
use Rattle.reading_trees.specs.declared.operators.BuiltinSet.{BuiltinSet}

mutual
  pub data Tree : Type 0 where
    Number : Place → ℤ → Tree
    Str : Place → List ℕ → Tree
    Truth : Place → Bool → Tree
    Builtin : Place → BuiltinSet → Tree
    Name : Place → List ℕ → Tree
    Call : Place → List ℕ → Trees → Tree
    Qualified : Place → List ℕ → Trees → Tree
    At : Place → Tree
    Parenthesized : Place → Tree → Tree
    Junction : Place → Bullet → Trees → Tree
    Prefix : Place → PrefixOperator → Tree → Tree
    Infix : Place → InfixOperator → Operands → Tree → Tree
    Postfix : Place → Tree → Steps → Step → Tree
    SetOf : Place → Trees → Tree
    Filter : Place → List ℕ → Tree → Tree → Tree
    Map : Place → Tree → Bounds → Tree
    Tuple : Place → Trees → Tree
    Function : Place → Bounds → Tree → Tree
    FunctionSet : Place → Tree → Tree → Tree
    Record : Place → Fields → Tree
    RecordSet : Place → Fields → Tree
    Except : Place → Tree → Changes → Tree
    Quantified : Place → Quantifier → Bounds → Tree → Tree
    Choose : Place → List ℕ → Tree → Tree → Tree
    If : Place → Tree → Tree → Tree → Tree
    Case : Place → Arms → Tree
    CaseOther : Place → Arms → Tree → Tree
    Let : Place → Definitions → Tree → Tree
    BoxAction : Place → Tree → Tree → Tree
    AngleAction : Place → Tree → Tree → Tree
    Fairness : Place → Tree → Tree → Tree

  pub data Trees : Type 0 where
    NoTrees : Trees
    MoreTrees : Trees → Tree → Trees

  pub data Operands : Type 0 where
    First : Tree → Operands
    Next : Operands → Place → Tree → Operands

  pub data Step : Type 0 where
    Prime : Step
    Index : Trees → Step
    Field : List ℕ → Step

  pub data Steps : Type 0 where
    NoSteps : Steps
    MoreSteps : Steps → Place → Step → Steps

  pub data Bounds : Type 0 where
    NoBounds : Bounds
    MoreBounds : Bounds → List (List ℕ) → Tree → Bounds

  pub data Fields : Type 0 where
    NoFields : Fields
    MoreFields : Fields → List ℕ → Tree → Fields

  pub data Changes : Type 0 where
    NoChanges : Changes
    MoreChanges : Changes → Steps → Tree → Changes

  pub data Arms : Type 0 where
    NoArms : Arms
    MoreArms : Arms → Tree → Tree → Arms

  pub data Definitions : Type 0 where
    NoDefinitions : Definitions
    MoreDefinitions : Definitions → List ℕ → Place → List (List ℕ) → DefinitionForm → Tree → Definitions

-- the place of a tree
abbrev pub place_of : Tree → Place
place_of (Number at a) = at
place_of (Str at a) = at
place_of (Truth at a) = at
place_of (Builtin at a) = at
place_of (Name at a) = at
place_of (Call at a b) = at
place_of (Qualified at a b) = at
place_of (At at) = at
place_of (Parenthesized at a) = at
place_of (Junction at a b) = at
place_of (Prefix at a b) = at
place_of (Infix at a b c) = at
place_of (Postfix at a b c) = at
place_of (SetOf at a) = at
place_of (Filter at a b c) = at
place_of (Map at a b) = at
place_of (Tuple at a) = at
place_of (Function at a b) = at
place_of (FunctionSet at a b) = at
place_of (Record at a) = at
place_of (RecordSet at a) = at
place_of (Except at a b) = at
place_of (Quantified at a b c) = at
place_of (Choose at a b c) = at
place_of (If at a b c) = at
place_of (Case at a) = at
place_of (CaseOther at a b) = at
place_of (Let at a b) = at
place_of (BoxAction at a b) = at
place_of (AngleAction at a b) = at
place_of (Fairness at a b) = at
