-- Sets that are described: what a term that means such a set makes of its parts, how it is tested, and how it is listed. All parts of one set
-- are evaluated or described first, from left to right; then each must be a set, from left to right.
use Rattle.std.specs.Prelude.{◌≡◌, ℕ, ℤ, Bool, List, [], ◌∷◌, ◌++◌, Result, Ok, Err}
use Rattle.base_core.specs.declared.place.Place.{Place}
use Rattle.values_core.specs.Data.{Val, string}
use Rattle.values_core.specs.Sets.{Member}
use Rattle.values_core.specs.Integers.{int_operands}
use Rattle.values_core.specs.declared.fault.OpFault.{OpFault}
use Rattle.reading_trees.specs.declared.operators.InfixOperator.{InfixOperator}
use Rattle.reading_trees.specs.declared.operators.InfixOperator.TheVariants as infix_operator
use Rattle.names_terms.specs.declared.standard.NamedSet.{NamedSet}
use Rattle.names_terms.specs.declared.standard.NamedSet.TheVariants as sets
use Rattle.names_terms.specs.Lists.{fields_list}
use Rattle.names_terms.specs.Terms as term
use Rattle.names_terms.specs.Terms.{Term, Operands, Fields, place_of}
use Rattle.values_sets.specs.DescribedSets as described
use Rattle.values_sets.specs.DescribedSets.{Described, Listed}
use Rattle.values_sets.specs.Membership.{Belongs}
use Rattle.values_sets.specs.Listings.{Lists, IsListed}
use Rattle.eval_meanings.specs.Outcomes.{Outcome, Gives, Then, Decides, Each, Operated, place_in}
use Rattle.eval_meanings.specs.Contexts.{Context, Describe}
use Rattle.eval_meanings.specs.Operations.{InfixAnswers}

-- Nat, Int, STRING and BOOLEAN
abbrev pub named_set : NamedSet → Described
named_set sets.Nat = described.Nat
named_set sets.Int = described.Int
named_set sets.Strings = described.Strings
named_set sets.Booleans = described.Booleans

-- A part must be a set: a value that is none is refused at the place of the part.
abbrev pub set_at : Place → Described → Outcome Described
set_at at (Listed v) r = Operated (IsListed v) (λ n. at) r
set_at at d r = Gives d r

-- the set that a term means, as an operand
abbrev pub MeansSet : Describe → Context → Term → Outcome Described
MeansSet describe c e = Then (describe c e) (set_at (place_of e))

-- a set where its elements are asked for: a value is itself, and a described set is listed, with its faults at the place of the whole
abbrev pub list_at : Place → Described → Outcome Val
list_at at (Listed v) r = Gives v r
list_at at d r = Operated (Lists d) (λ n. at) r

abbrev pub ListedAt : Place → Outcome Described → Outcome Val
ListedAt at P = Then P (list_at at)

-- whether a value is in a set, and whether all members of a set are: no set is listed for it
abbrev pub IsIn : Described → Val → Outcome Bool
IsIn d v = Decides (Belongs d v)

abbrev pub IsWithin : Described → Val → Outcome Bool
IsWithin d u = Decides ((v : Val) → Member v u → Belongs d v)

-- The operands of a chain: the first, and those behind it with the places of their operators.

abbrev pub first_operand : Operands → Term
first_operand (term.First e) = e
first_operand (term.Next os p e) = first_operand os

abbrev pub other_operands : Operands → List (Place × Term)
other_operands (term.First e) = []
other_operands (term.Next os p e) = other_operands os ++ (p, e) ∷ []

-- a part beside its place
abbrev pub PartDescribed : Describe → Context → Term → Outcome (Place × Described)
PartDescribed describe c e = Then (describe c e) (λ d. Gives (place_of e, d))

abbrev pub parts_of : List Described → described.Parts
parts_of [] = described.NoParts
parts_of (d ∷ ds) = described.MoreParts d (parts_of ds)

abbrev pub fields_of : List (Val × Described) → described.Fields
fields_of [] = described.NoFields
fields_of (f ∷ fs) = described.MoreFields f.0 f.1 (fields_of fs)

-- S \X T: one product of all its operands
abbrev pub ProductDescribed : Describe → Context → List Term → Outcome Described
ProductDescribed describe c es =
    Then (Each (PartDescribed describe c) es) (λ ds. Then (Each (λ d. set_at d.0 d.1) ds) (λ es. Gives (described.Product (parts_of es))))

-- [h : S, k : T]
abbrev pub FieldDescribed : Describe → Context → (List ℕ × Term) → Outcome (List ℕ × Place × Described)
FieldDescribed describe c f = Then (describe c f.1) (λ d. Gives (f.0, place_of f.1, d))

abbrev pub RecordsDescribed : Describe → Context → Fields → Outcome Described
RecordsDescribed describe c fs =
    Then (Each (FieldDescribed describe c) (fields_list fs))
    (λ ds. Then (Each {B = Val × Described} (λ f. Then (set_at f.1 f.2) (λ d. Gives (string f.0, d))) ds) (λ es. Gives (described.Records (fields_of es))))

-- a..b: both are integers, and the first that is none is refused at its place
abbrev pub Between : Result (ℤ × ℤ) OpFault → Result Described OpFault → Type 0
Between (Ok p) r = r ≡ Ok (described.Interval p.0 p.1)
Between (Err f) r = r ≡ Err f

abbrev pub IntervalDescribed : Place → Place → Place → Val → Val → Outcome Described
IntervalDescribed at p q a b = Operated (Between (int_operands a b)) (place_in at (p ∷ q ∷ []))

-- \cup, \cap and \ of two parts: of two values the operation on values, and a description where one of the parts is described
abbrev pub paired : InfixOperator → Described → Described → Described
paired infix_operator.Union d e = described.Union d e
paired infix_operator.Intersection d e = described.Inter d e
paired o d e = described.Minus d e

abbrev pub Joined : InfixOperator → Place → Place → Place → Described → Described → Outcome Described
Joined o at p q (Listed a) (Listed b) r = Then (Operated (InfixAnswers o a b) (place_in at (p ∷ q ∷ []))) (λ v. Gives (Listed v)) r
Joined o at p q d e r = Then (set_at p d) (λ x. Then (set_at q e) (λ y. Gives (paired o x y))) r

-- A chain of them goes as if nested to the left: the beginning, which stands at the place p, is the operand of what follows.
abbrev pub ChainDescribed : Describe → Context → InfixOperator → Place → Described → List (Place × Term) → Outcome Described
ChainDescribed describe c o p d [] = Gives d
ChainDescribed describe c o p d (e ∷ es) =
    Then (describe c e.1) (λ f. Then (Joined o e.0 p (place_of e.1) d f) (λ g. ChainDescribed describe c o e.0 g es))
