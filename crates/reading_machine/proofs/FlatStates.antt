-- The flat state of each state of the reader, and what every state keeps that is reached from the beginning of an expression.
use Rattle.std.proofs.Common.{◌≡◌, ℕ, Bool, true, false, ◌||◌, List, [], ◌∷◌, refl, ap, nat_eq}
use Rattle.std.specs.Cmp.Lexicographic.{pointwise}
use Rattle.base_core.specs.declared.place.Place.{Place}
use Rattle.reading_trees.specs.declared.operators.InfixOperator.{InfixOperator}
use Rattle.reading_trees.specs.Grammar.{begins_member, first_begins, is_name}
use Rattle.reading_trees.specs.Trees as tree
use Rattle.reading_trees.specs.Trees.{Tree, Trees, NoTrees, MoreTrees, Operands, Steps, NoSteps, MoreSteps, Fields, NoFields, MoreFields}
use Rattle.reading_machine.specs.declared.frame.Scope.{Scope}
use Rattle.reading_machine.specs.declared.frame.Scope.TheVariants as scopes
use Rattle.reading_machine.specs.declared.frame.Binder.{Binder}
use Rattle.reading_machine.specs.declared.frame.Binder.TheVariants as binders
use Rattle.reading_machine.specs.declared.frame.Frame.{Frame}
use Rattle.reading_machine.specs.declared.frame.Frame.TheVariants as frame
use Rattle.reading_machine.specs.declared.frame.Mode.{Mode}
use Rattle.reading_machine.specs.declared.frame.Mode.TheVariants as mode
use Rattle.reading_machine.specs.Machine.{Stepped, Reads, Stops, Clashes, Ends, EndsDefinition, has_field}
use Rattle.reading_machine.specs.OpenFits.{Open}
use Rattle.reading_machine.proofs.Flat as flat

-- ---- flat states

abbrev pub has_trees : Trees → Bool
has_trees NoTrees = false
has_trees (MoreTrees es e) = true

abbrev pub has_steps : Steps → Bool
has_steps NoSteps = false
has_steps (MoreSteps ss p s) = true

abbrev pub names_of : Fields → List (List ℕ)
names_of NoFields = []
names_of (MoreFields hs n e) = n ∷ names_of hs

pub same_names : (n : List ℕ) (hs : Fields) → has_field n hs ≡ flat.has_name n (names_of hs)
same_names n NoFields = refl
same_names n (MoreFields hs m e) = ap (λ b. b || pointwise nat_eq n m) (same_names n hs)

abbrev pub binds : Binder → flat.Binds
binds (binders.Quantifier q at) = flat.ByQuantifier
binds (binders.Function at) = flat.ByFunction
binds (binders.Map at e) = flat.ByMap
binds (binders.Defined s n p q) = flat.ByDefinition

abbrev pub row : Frame → flat.Row
row (frame.Parenthesis at) = flat.Parenthesis
row (frame.Call n at es) = flat.Call
row (frame.QualifiedCall n at es) = flat.Call
row (frame.Junction b at es) = flat.Junction b
row (frame.Index e at es) = flat.Index
row (frame.Braces at es) = flat.Braces (has_trees es)
row (frame.MaybeFilter at n p q) = flat.MaybeFilter
row (frame.FilterTest at n s) = flat.FilterTest
row (frame.Tuple at es) = flat.Tuple (has_trees es)
row (frame.Bracket at) = flat.Bracket
row (frame.MaybeFunction at n p q) = flat.MaybeFunction
row (frame.FunctionBody at bs) = flat.FunctionBody
row (frame.FunctionRange at s) = flat.FunctionRange
row (frame.Record k at hs n) = flat.Record k (n ∷ names_of hs)
row (frame.BoundSet b ns) = flat.BoundSet (binds b.binder)
row (frame.ExceptIndex at e cs ss q es) = flat.ExceptIndex
row (frame.ExceptValue at e cs ss) = flat.ExceptValue
row (frame.ChooseSet p n) = flat.ChooseSet
row (frame.IfTest p) = flat.IfTest
row (frame.IfThen p a) = flat.IfThen
row (frame.CaseTest p arms) = flat.CaseTest
row (frame.CaseValue p arms a) = flat.CaseValue
row (frame.DefinitionBody s n p form) = flat.Definition
row (frame.Subscript k at a) = flat.Subscript
row (frame.FairSubscript at) = flat.FairSubscript
row (frame.FairBody at v) = flat.FairBody
row _ = flat.Rest

-- the rows of the frames but operators
abbrev pub rows : List Frame → List flat.Row
rows [] = []
rows (frame.Prefix o p ∷ fs) = rows fs
rows (frame.Infix o es p ∷ fs) = rows fs
rows (f ∷ fs) = row f ∷ rows fs

-- which primary it is
abbrev pub primary : Tree → flat.Primary
primary (tree.Name at n) = flat.Bare
primary (tree.Qualified at n NoTrees) = flat.Marked
primary _ = flat.Other

abbrev pub expected : Mode → flat.Expected
expected mode.Want = flat.Want
expected (mode.Have e) = flat.Have (primary e)
expected (mode.BoundName b ns) = flat.BoundName (binds b.binder)
expected (mode.BoundNamed b ns) = flat.BoundNamed (binds b.binder)
expected (mode.BracketStart at) = flat.BracketStart
expected (mode.BracketName at n p) = flat.BracketName n
expected (mode.BraceStart at) = flat.BraceStart
expected (mode.BraceName at n p) = flat.BraceName
expected (mode.TupleStart at) = flat.TupleStart
expected (mode.ListStart b at) = flat.ListStart b
expected (mode.ChooseName at) = flat.ChooseName
expected (mode.ChooseNamed at n) = flat.ChooseNamed
expected (mode.DefinitionName s) = flat.DefinitionName
expected (mode.DefinitionNamed s n p) = flat.DefinitionNamed
expected (mode.Parameter s n p ns) = flat.Parameter
expected (mode.ParameterNamed s n p ns) = flat.ParameterNamed
expected (mode.DefinedAs s n p form) = flat.DefinedAs
expected (mode.ExceptMark at e cs) = flat.ExceptMark
expected (mode.ExceptPath at e cs ss) = flat.ExceptPath (has_steps ss)
expected (mode.ExceptField at e cs ss q) = flat.ExceptField
expected (mode.FieldName e q) = flat.FieldName
expected (mode.InstanceName at i) = flat.InstanceName
expected (mode.RecordName k at hs) = flat.RecordName k (names_of hs)
expected (mode.RecordNamed k at hs n) = flat.RecordNamed k (names_of hs) n
expected (mode.SubscriptStart k at e) = flat.SubscriptStart
expected (mode.FairStart at) = flat.FairStart
expected (mode.FairOpen at v) = flat.FairOpen
expected (mode.CaseNext at arms) = flat.CaseNext
expected (mode.OtherArrow at arms) = flat.OtherArrow

-- ---- what is kept

-- the innermost frame is no brace with nothing behind it
abbrev pub Unfresh : List Frame → Type 0
Unfresh (frame.Braces at NoTrees ∷ fs) = ⊥
Unfresh _ = Unit {0}

-- behind a brace the expression does not begin with a name and `\in`
abbrev pub Sits : Tree → List Frame → Type 0
Sits e (frame.Braces at NoTrees ∷ fs) = (is_name e ≡ false) × (begins_member e ≡ false)
Sits e _ = Unit {0}

-- the second half of that, which is enough where no operator follows
abbrev pub Settles : Tree → List Frame → Type 0
Settles e (frame.Braces at NoTrees ∷ fs) = begins_member e ≡ false
Settles e _ = Unit {0}

abbrev pub ChainSits : InfixOperator → Operands → List Frame → Type 0
ChainSits o es (frame.Braces at NoTrees ∷ fs) = first_begins o es ≡ false
ChainSits o es _ = Unit {0}

-- a definition stands in a LET
abbrev pub InLet : Scope → Type 0
InLet (scopes.Let at ds) = Unit {0}
InLet scopes.Unit = ⊥

abbrev pub BinderInLet : Binder → Type 0
BinderInLet (binders.Defined s n p q) = InLet s
BinderInLet _ = Unit {0}

abbrev pub FrameKept : Frame → List Frame → Type 0
FrameKept (frame.Parenthesis at) fs = Unit {0}
FrameKept (frame.Tuple at es) fs = Unit {0}
FrameKept (frame.Infix o es p) fs = Open fs × ChainSits o es fs
FrameKept (frame.BoundSet b ns) fs = Open fs × BinderInLet b.binder
FrameKept (frame.DefinitionBody s n p form) fs = Open fs × InLet s
FrameKept _ fs = Open fs

abbrev pub FramesKept : List Frame → Type 0
FramesKept [] = Unit {0}
FramesKept (f ∷ fs) = FrameKept f fs × FramesKept fs

abbrev pub ModeKept : Mode → List Frame → Type 0
ModeKept mode.Want fs = Open fs × Unfresh fs
ModeKept (mode.Have e) fs = Open fs × Sits e fs
ModeKept (mode.TupleStart at) fs = Unit {0}
ModeKept (mode.BoundName b ns) fs = Open fs × BinderInLet b.binder
ModeKept (mode.BoundNamed b ns) fs = Open fs × BinderInLet b.binder
ModeKept (mode.DefinitionName s) fs = Open fs × InLet s
ModeKept (mode.DefinitionNamed s n p) fs = Open fs × InLet s
ModeKept (mode.Parameter s n p ns) fs = Open fs × InLet s
ModeKept (mode.ParameterNamed s n p ns) fs = Open fs × InLet s
ModeKept (mode.DefinedAs s n p form) fs = Open fs × InLet s
ModeKept _ fs = Open fs

-- What comes of a token in a state comes of it in the flat state too, and the next state keeps what is kept. Where it is a clash, A holds.
abbrev pub Same : Type 0 → Stepped → flat.Done → Type 0
Same A (Reads fs m) y = (y ≡ flat.Reads (rows fs) (expected m)) × FramesKept fs × ModeKept m fs
Same A Stops y = y ≡ flat.Stops
Same A (Clashes p q) y = A
Same A (Ends e) y = y ≡ flat.Ends
Same A (EndsDefinition n p ns form e) y = ⊥

pub same_map : (A B : Type 0) → (A → B) → (s : Stepped) (y : flat.Done) → Same A s y → Same B s y
same_map A B f (Reads fs m) y h = h
same_map A B f Stops y h = h
same_map A B f (Clashes p q) y h = f h
same_map A B f (Ends e) y h = h
same_map A B f (EndsDefinition n p ns form e) y h = absurd h

pub sits : (e : Tree) (fs : List Frame) → is_name e ≡ false → begins_member e ≡ false → Sits e fs
sits e [] a b = tt
sits e (frame.Braces at NoTrees ∷ fs) a b = (a, b)
sits e (f ∷ fs) a b = tt

pub unfresh_sits : (e : Tree) (fs : List Frame) → Unfresh fs → Sits e fs
unfresh_sits e [] h = tt
unfresh_sits e (frame.Braces at NoTrees ∷ fs) h = absurd h
unfresh_sits e (f ∷ fs) h = tt

pub chain_sits : (at : Place) (o : InfixOperator) (es : Operands) (e : Tree) (fs : List Frame) → ChainSits o es fs → Sits (tree.Infix at o es e) fs
chain_sits at o es e [] h = tt
chain_sits at o es e (frame.Braces p NoTrees ∷ fs) h = (refl, h)
chain_sits at o es e (f ∷ fs) h = tt

pub half_sits : (e : Tree) (fs : List Frame) → Sits e fs → Settles e fs
half_sits e [] h = tt
half_sits e (frame.Braces at NoTrees ∷ fs) h = h.1
half_sits e (f ∷ fs) h = tt
