-- What is true of every term in a term, however deep: of it and of all its parts, with the number of slots in scope there. The definitions of a
-- LET stand in the table, and not here.
use Rattle.std.specs.Prelude.{ℕ, suc, ◌+◌}
use Rattle.base_core.specs.declared.place.Place.{Place}
use Rattle.names_terms.specs.declared.level.Level.{Level}
use Rattle.names_terms.specs.Terms.{Term, Placed, Meaning, Known, Named, Variable, Slot, Use, Standard, Parenthesized, Scoped, All, Any, Prefix, Infix, Postfix, SetOf, Filter, Map, Tuple, Function, FunctionSet, Record, RecordSet, Except, Quantified, Choose, If, Case, CaseOther, BoxAction, AngleAction, Fairness, Terms, NoTerms, MoreTerms, Operands, First, Next, Step, Prime, Index, Field, Steps, NoSteps, MoreSteps, Bounds, NoBounds, MoreBounds, Fields, NoFields, MoreFields, Changes, NoChanges, MoreChanges, Arms, NoArms, MoreArms, width}

module _ (P : ℕ → Place → Level → Meaning → Type 0) where
  abbrev mutual
    pub Everywhere : ℕ → Term → Type 0
    Everywhere n (Placed at l m) = P n at l m × Inside n m

    pub Inside : ℕ → Meaning → Type 0
    Inside n (Known v) = Unit {0}
    Inside n (Named s) = Unit {0}
    Inside n (Variable x) = Unit {0}
    Inside n (Slot i) = Unit {0}
    Inside n (Use k ts) = InTerms n ts
    Inside n (Standard o ts) = InTerms n ts
    Inside n (Parenthesized e) = Everywhere n e
    Inside n (Scoped ks e) = Everywhere n e
    Inside n (All ts) = InTerms n ts
    Inside n (Any ts) = InTerms n ts
    Inside n (Prefix o e) = Everywhere n e
    Inside n (Infix o os e) = InOperands n os × Everywhere n e
    Inside n (Postfix e ss s) = Everywhere n e × InSteps n ss × InStep n s
    Inside n (SetOf ts) = InTerms n ts
    Inside n (Filter s e) = Everywhere n s × Everywhere (suc n) e
    Inside n (Map e bs) = Everywhere (n + width bs) e × InBounds n bs
    Inside n (Tuple ts) = InTerms n ts
    Inside n (Function bs e) = InBounds n bs × Everywhere (n + width bs) e
    Inside n (FunctionSet s e) = Everywhere n s × Everywhere n e
    Inside n (Record fs) = InFields n fs
    Inside n (RecordSet fs) = InFields n fs
    Inside n (Except e cs) = Everywhere n e × InChanges n cs
    Inside n (Quantified q bs e) = InBounds n bs × Everywhere (n + width bs) e
    Inside n (Choose s e) = Everywhere n s × Everywhere (suc n) e
    Inside n (If p e f) = Everywhere n p × Everywhere n e × Everywhere n f
    Inside n (Case arms) = InArms n arms
    Inside n (CaseOther arms e) = InArms n arms × Everywhere n e
    Inside n (BoxAction e v) = Everywhere n e × Everywhere n v
    Inside n (AngleAction e v) = Everywhere n e × Everywhere n v
    Inside n (Fairness v e) = Everywhere n v × Everywhere n e

    pub InTerms : ℕ → Terms → Type 0
    InTerms n NoTerms = Unit {0}
    InTerms n (MoreTerms ts e) = InTerms n ts × Everywhere n e

    pub InOperands : ℕ → Operands → Type 0
    InOperands n (First e) = Everywhere n e
    InOperands n (Next os at e) = InOperands n os × Everywhere n e

    pub InStep : ℕ → Step → Type 0
    InStep n Prime = Unit {0}
    InStep n (Index ts) = InTerms n ts
    InStep n (Field h) = Unit {0}

    pub InSteps : ℕ → Steps → Type 0
    InSteps n NoSteps = Unit {0}
    InSteps n (MoreSteps ss at s) = InSteps n ss × InStep n s

    -- a set of bounds does not see the names that they bind
    pub InBounds : ℕ → Bounds → Type 0
    InBounds n NoBounds = Unit {0}
    InBounds n (MoreBounds bs k e) = InBounds n bs × Everywhere n e

    pub InFields : ℕ → Fields → Type 0
    InFields n NoFields = Unit {0}
    InFields n (MoreFields fs h e) = InFields n fs × Everywhere n e

    -- `@` is bound in the new value, and not in the path
    pub InChanges : ℕ → Changes → Type 0
    InChanges n NoChanges = Unit {0}
    InChanges n (MoreChanges cs path e) = InChanges n cs × InSteps n path × Everywhere (suc n) e

    pub InArms : ℕ → Arms → Type 0
    InArms n NoArms = Unit {0}
    InArms n (MoreArms arms p e) = InArms n arms × Everywhere n p × Everywhere n e
