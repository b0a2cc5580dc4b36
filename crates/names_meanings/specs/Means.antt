-- What a tree means among the names of a program and those that are bound around it: a term over a table of definitions. Each node of
-- the term has the place of its tree, and the level of its meaning.
use Rattle.std.specs.Prelude.{◌≡◌, ℕ, Bool, true, false, List, [], ◌∷◌, ◌++◌, length, Some, slice_get}
use Rattle.values_core.specs.Data.{integer, string, truth}
use Rattle.reading_trees.specs.declared.laid.Bullet.{Bullet}
use Rattle.reading_trees.specs.declared.laid.Bullet.TheVariants as bullet
use Rattle.reading_trees.specs.declared.operators.BuiltinSet.{BuiltinSet}
use Rattle.reading_trees.specs.declared.operators.BuiltinSet.TheVariants as builtin
use Rattle.reading_trees.specs.declared.operators.InfixOperator.{InfixOperator}
use Rattle.reading_trees.specs.declared.operators.InfixOperator.TheVariants as infix_operator
use Rattle.reading_trees.specs.Trees as tree
use Rattle.reading_trees.specs.Trees.{Tree, Trees, Operands, Step, Steps, Bounds, Fields, Changes, Arms, Definitions, place_of}
use Rattle.names_terms.specs.declared.standard.NamedSet.{NamedSet}
use Rattle.names_terms.specs.declared.standard.NamedSet.TheVariants as sets
use Rattle.names_terms.specs.declared.ids.DefId.{DefId}
use Rattle.names_terms.specs.declared.operator.Operator.{Operator}
use Rattle.names_terms.specs.declared.operator.Own.{Own}
use Rattle.names_terms.specs.declared.operator.Own.TheVariants as owns
use Rattle.names_terms.specs.declared.level.Level.{Level}
use Rattle.names_terms.specs.declared.level.Level.TheVariants as levels
use Rattle.names_terms.specs.Terms as term
use Rattle.names_terms.specs.Terms.{Term, Meaning, Terms, Placed, level_of}
use Rattle.names_scopes.specs.declared.scope.Local.{Local}
use Rattle.names_scopes.specs.declared.scope.Local.TheVariants.{Bound, Defined}
use Rattle.names_scopes.specs.declared.meant.Named.{Named}
use Rattle.names_scopes.specs.declared.meant.Entry.{Entry}
use Rattle.names_scopes.specs.Scopes.{meaning_in, used, bind, bind_bounds, slots, at_sign}
use Rattle.names_terms.specs.Levels.{level_for}
use Rattle.names_meanings.specs.Owning.{own_of}

-- a use of the name with these arguments
abbrev pub Uses : List Entry → List Local → List ℕ → Terms → Meaning → Type 0
Uses names sc n ts m = (what : Named) × (meaning_in names sc n ≡ Some what) × (m ≡ used what.meant ts)

abbrev pub builtin_set : BuiltinSet → NamedSet
builtin_set builtin.Booleans = sets.Booleans
builtin_set builtin.Strings = sets.Strings

-- a junction list means what the chain of its operator means
abbrev pub junction : Bullet → Terms → Meaning
junction bullet.And ts = term.All ts
junction bullet.Or ts = term.Any ts

-- the operands of a chain of `/\` or `\/` as a list
abbrev pub operands_list : term.Operands → Terms
operands_list (term.First e) = term.MoreTerms term.NoTerms e
operands_list (term.Next os at e) = term.MoreTerms (operands_list os) e

abbrev pub is_junction : InfixOperator → Bool
is_junction infix_operator.And = true
is_junction infix_operator.Or = true
is_junction o = false

abbrev pub chain : InfixOperator → term.Operands → Term → Meaning
chain infix_operator.And os e = term.All (term.MoreTerms (operands_list os) e)
chain infix_operator.Or os e = term.Any (term.MoreTerms (operands_list os) e)
chain o os e = term.Infix o os e

-- a definition of a LET that uses itself sees its own name, which takes so many arguments
abbrev pub with_own : Own → List Local → List ℕ → DefId → ℕ → List Local
with_own owns.Apart sc n k count = sc
with_own own sc n k count = sc ++ Defined n k count ∷ []

-- the level of a definition with this body: one that uses itself has level 0, or it is refused
abbrev pub own_level : Own → Term → Level
own_level owns.Apart body = level_of body
own_level own body = levels.Constant

-- the definition of a LET as one of the table
abbrev pub local_operator : ℕ → ℕ → Own → Term → Operator
local_operator around params own body = record { name = []; outer = around; params = params; level = own_level own body; own = own; body = body }

-- what stands for the body of a definition that is not there yet
abbrev pub no_body : Term
no_body = Placed (record { file = 0; line = 0; col = 0 }) levels.Constant (term.Known (truth false))

module _ (names : List Entry) (ops : List Operator) where
  -- the term has the place of the tree and the level of its meaning
  abbrev pub Stands : Tree → Meaning → Term → Type 0
  Stands t m e = e ≡ Placed (place_of t) (level_for ops m) m

  abbrev mutual
    pub Means : List Local → Tree → Term → Type 0
    Means sc (tree.Number at z) e = Stands (tree.Number at z) (term.Known (integer z)) e
    Means sc (tree.Str at s) e = Stands (tree.Str at s) (term.Known (string s)) e
    Means sc (tree.Truth at b) e = Stands (tree.Truth at b) (term.Known (truth b)) e
    Means sc (tree.Builtin at b) e = Stands (tree.Builtin at b) (term.Named (builtin_set b)) e
    Means sc (tree.Name at n) e = (m : Meaning) × Uses names sc n term.NoTerms m × Stands (tree.Name at n) m e
    Means sc (tree.Call at n es) e =
        (ts : Terms) × (m : Meaning) × MeansEach sc es ts × Uses names sc n ts m × Stands (tree.Call at n es) m e
    Means sc (tree.Qualified at n es) e =
        (ts : Terms) × (m : Meaning) × MeansEach sc es ts × Uses names sc n ts m × Stands (tree.Qualified at n es) m e
    Means sc (tree.At at) e = (m : Meaning) × Uses names sc at_sign term.NoTerms m × Stands (tree.At at) m e
    Means sc (tree.Parenthesized at a) e = (x : Term) × Means sc a x × Stands (tree.Parenthesized at a) (term.Parenthesized x) e
    Means sc (tree.Junction at b es) e = (ts : Terms) × MeansEach sc es ts × Stands (tree.Junction at b es) (junction b ts) e
    Means sc (tree.Prefix at o a) e = (x : Term) × Means sc a x × Stands (tree.Prefix at o a) (term.Prefix o x) e
    Means sc (tree.Infix at o os a) e =
        (xs : term.Operands) × (x : Term) × MeansOperands sc os xs × Means sc a x × Stands (tree.Infix at o os a) (chain o xs x) e
    Means sc (tree.Postfix at a ss s) e =
        (x : Term) × (ys : term.Steps) × (y : term.Step) × Means sc a x × MeansSteps sc ss ys × MeansStep sc s y × Stands (tree.Postfix at a ss s) (term.Postfix x ys y) e
    Means sc (tree.SetOf at es) e = (ts : Terms) × MeansEach sc es ts × Stands (tree.SetOf at es) (term.SetOf ts) e
    Means sc (tree.Filter at n a b) e =
        (x y : Term) × Means sc a x × Means (sc ++ Bound n ∷ []) b y × Stands (tree.Filter at n a b) (term.Filter x y) e
    Means sc (tree.Map at a bs) e =
        (x : Term) × (ys : term.Bounds) × Means (bind_bounds sc bs) a x × MeansBounds sc bs ys × Stands (tree.Map at a bs) (term.Map x ys) e
    Means sc (tree.Tuple at es) e = (ts : Terms) × MeansEach sc es ts × Stands (tree.Tuple at es) (term.Tuple ts) e
    Means sc (tree.Function at bs a) e =
        (ys : term.Bounds) × (x : Term) × MeansBounds sc bs ys × Means (bind_bounds sc bs) a x × Stands (tree.Function at bs a) (term.Function ys x) e
    Means sc (tree.FunctionSet at a b) e = (x y : Term) × Means sc a x × Means sc b y × Stands (tree.FunctionSet at a b) (term.FunctionSet x y) e
    Means sc (tree.Record at fs) e = (ys : term.Fields) × MeansFields sc fs ys × Stands (tree.Record at fs) (term.Record ys) e
    Means sc (tree.RecordSet at fs) e = (ys : term.Fields) × MeansFields sc fs ys × Stands (tree.RecordSet at fs) (term.RecordSet ys) e
    Means sc (tree.Except at a cs) e =
        (x : Term) × (ys : term.Changes) × Means sc a x × MeansChanges sc cs ys × Stands (tree.Except at a cs) (term.Except x ys) e
    Means sc (tree.Quantified at q bs a) e =
        (ys : term.Bounds) × (x : Term) × MeansBounds sc bs ys × Means (bind_bounds sc bs) a x × Stands (tree.Quantified at q bs a) (term.Quantified q ys x) e
    Means sc (tree.Choose at n a b) e =
        (x y : Term) × Means sc a x × Means (sc ++ Bound n ∷ []) b y × Stands (tree.Choose at n a b) (term.Choose x y) e
    Means sc (tree.If at p a b) e =
        (x y z : Term) × Means sc p x × Means sc a y × Means sc b z × Stands (tree.If at p a b) (term.If x y z) e
    Means sc (tree.Case at arms) e = (ys : term.Arms) × MeansArms sc arms ys × Stands (tree.Case at arms) (term.Case ys) e
    Means sc (tree.CaseOther at arms a) e =
        (ys : term.Arms) × (x : Term) × MeansArms sc arms ys × Means sc a x × Stands (tree.CaseOther at arms a) (term.CaseOther ys x) e
    Means sc (tree.Let at ds a) e =
        (ks : List ℕ) × (inner : List Local) × (x : Term) × Defines sc ds ks inner × Means inner a x × Stands (tree.Let at ds a) (term.Scoped ks x) e
    Means sc (tree.BoxAction at a v) e = (x y : Term) × Means sc a x × Means sc v y × Stands (tree.BoxAction at a v) (term.BoxAction x y) e
    Means sc (tree.AngleAction at a v) e = (x y : Term) × Means sc a x × Means sc v y × Stands (tree.AngleAction at a v) (term.AngleAction x y) e
    Means sc (tree.Fairness at v a) e = (x y : Term) × Means sc v x × Means sc a y × Stands (tree.Fairness at v a) (term.Fairness x y) e

    pub MeansEach : List Local → Trees → Terms → Type 0
    MeansEach sc tree.NoTrees ts = ts ≡ term.NoTerms
    MeansEach sc (tree.MoreTrees es e) ts =
        (xs : Terms) × (x : Term) × (ts ≡ term.MoreTerms xs x) × MeansEach sc es xs × Means sc e x

    pub MeansOperands : List Local → Operands → term.Operands → Type 0
    MeansOperands sc (tree.First e) os = (x : Term) × (os ≡ term.First x) × Means sc e x
    MeansOperands sc (tree.Next es at e) os =
        (xs : term.Operands) × (x : Term) × (os ≡ term.Next xs at x) × MeansOperands sc es xs × Means sc e x

    pub MeansStep : List Local → Step → term.Step → Type 0
    MeansStep sc tree.Prime s = s ≡ term.Prime
    MeansStep sc (tree.Index es) s = (xs : Terms) × (s ≡ term.Index xs) × MeansEach sc es xs
    MeansStep sc (tree.Field h) s = s ≡ term.Field h

    pub MeansSteps : List Local → Steps → term.Steps → Type 0
    MeansSteps sc tree.NoSteps ss = ss ≡ term.NoSteps
    MeansSteps sc (tree.MoreSteps es at e) ss =
        (xs : term.Steps) × (x : term.Step) × (ss ≡ term.MoreSteps xs at x) × MeansSteps sc es xs × MeansStep sc e x

    -- a set of bounds does not see the names that they bind
    pub MeansBounds : List Local → Bounds → term.Bounds → Type 0
    MeansBounds sc tree.NoBounds ys = ys ≡ term.NoBounds
    MeansBounds sc (tree.MoreBounds bs ns e) ys =
        (xs : term.Bounds) × (x : Term) × (ys ≡ term.MoreBounds xs (length ns) x) × MeansBounds sc bs xs × Means sc e x

    pub MeansFields : List Local → Fields → term.Fields → Type 0
    MeansFields sc tree.NoFields ys = ys ≡ term.NoFields
    MeansFields sc (tree.MoreFields fs n e) ys =
        (xs : term.Fields) × (x : Term) × (ys ≡ term.MoreFields xs n x) × MeansFields sc fs xs × Means sc e x

    -- `@` is bound in the new value, and not in the path
    pub MeansChanges : List Local → Changes → term.Changes → Type 0
    MeansChanges sc tree.NoChanges ys = ys ≡ term.NoChanges
    MeansChanges sc (tree.MoreChanges cs path e) ys =
        (xs : term.Changes) × (p : term.Steps) × (x : Term) × (ys ≡ term.MoreChanges xs p x) × MeansChanges sc cs xs × MeansSteps sc path p × Means (sc ++ Bound at_sign ∷ []) e x

    pub MeansArms : List Local → Arms → term.Arms → Type 0
    MeansArms sc tree.NoArms ys = ys ≡ term.NoArms
    MeansArms sc (tree.MoreArms arms p e) ys =
        (xs : term.Arms) × (x y : Term) × (ys ≡ term.MoreArms xs x y) × MeansArms sc arms xs × Means sc p x × Means sc e y

    -- The numbers of definitions, in their order, and the scope behind them. Each is some row of the table. It sees those before it, and itself where
    -- it uses itself.
    pub Defines : List Local → Definitions → List ℕ → List Local → Type 0
    Defines sc tree.NoDefinitions ks inner = (ks ≡ []) × (inner ≡ sc)
    Defines sc (tree.MoreDefinitions ds n at ps form e) ks inner =
        (before : List ℕ) × (mid : List Local) × (k : DefId) × (x : Term) × Defines sc ds before mid × Means (bind (with_own (own_of form n ps e) mid n k (length ps)) ps) e x × (slice_get ops k.0 ≡ Some (local_operator (slots mid) (length ps) (own_of form n ps e) x)) × (ks ≡ before ++ k.0 ∷ []) × (inner ≡ mid ++ Defined n k (length ps) ∷ [])
