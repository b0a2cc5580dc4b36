-- How marks are read one after the other: what is expected and what was given so far decide what a mark
-- leads to. With `once` what is given again is refused; with `ended` there is an end, where there is a
-- behaviour.
use Rattle.std.specs.Prelude.{◌≡◌, ℕ, ℤ, pos, negsuc, neg_ℤ, Bool, true, false, ◌&&◌, ◌==◌, if◌then◌else◌, List, [], ◌∷◌, ◌++◌, length, Option, Some, None, Result, Ok, Err, codes}
use Rattle.base_core.specs.declared.place.Place.{Place}
use Rattle.reading_trees.specs.Lits.{Lit}
use Rattle.reading_trees.specs.Literals.{lit_of}
use Rattle.reading_tokens.specs.declared.token.Token.{Token}
use Rattle.reading_trees.specs.declared.config.Config.{Config}
use Rattle.reading_trees.specs.declared.config.Literal.{Literal}
use Rattle.reading_trees.specs.declared.config.Literal.TheVariants as literal
use Rattle.reading_trees.specs.declared.config.Given.{Given}
use Rattle.reading_trees.specs.declared.config.Given.TheVariants.{Constant, Replaced}
use Rattle.reading_configuration.specs.declared.mark.Mark.{Mark}
use Rattle.reading_configuration.specs.declared.mark.Mark.TheVariants.{Name, Number, Str, Truth, Constants, Equal, Replaces, Minus, Open, Close, Comma, End}
use Rattle.reading_configuration.specs.declared.keyword.Keyword.{Keyword}
use Rattle.reading_configuration.specs.declared.keyword.Keyword.TheVariants as keyword
use Rattle.reading_configuration.specs.declared.keyword.Part.{Part}
use Rattle.reading_configuration.specs.declared.keyword.Listed.{Listed}
use Rattle.reading_configuration.specs.declared.expects.Assigned.{Assigned}
use Rattle.reading_configuration.specs.declared.expects.Expects.{Expects}
use Rattle.reading_configuration.specs.declared.expects.Expects.TheVariants as expects
use Rattle.reading_configuration.specs.declared.expects.Further.{Further}
use Rattle.reading_configuration.specs.declared.expects.Further.TheVariants as further
use Rattle.reading_configuration.specs.declared.fault.ConfigKind.{ConfigKind}
use Rattle.reading_configuration.specs.declared.fault.ConfigKind.TheVariants.{Syntax, Unsupported, Twice, NoBehaviour}
use Rattle.reading_configuration.specs.declared.fault.ConfigFault.{ConfigFault}
use Rattle.reading_configuration.specs.declared.fault.ConfigFault.TheVariants.{Refused, NoMemory}
use Rattle.reading_configuration.specs.declared.fault.Stop.{Stop}
use Rattle.reading_configuration.specs.declared.fault.Stop.TheVariants as stops
use Rattle.reading_configuration.specs.Keywords.{keyword_of}
use Rattle.reading_configuration.specs.Marks.{mark_of}
use Rattle.reading_configuration.specs.Given.{nothing_given, with_given, with_unchecked, with_choice, line_of, is_chosen, is_assigned, has_behaviour}
use Rattle.reading_configuration.specs.Reads.{Outcome, Answers}

-- what a mark leads to
abbrev pub Next : Type 0
Next = Result (Expects × Config) ConfigKind

abbrev pub replaced : Config → Assigned → Given → Config
replaced c a g = with_given c (record { name = a.name; at = a.at; given = g })

-- behind a value: a member of the innermost open set, or the constant's value
abbrev pub placed : Literal → Assigned → List (List Lit) → Config → Expects × Config
placed v a [] c = (expects.Statement further.Assignment, replaced c a (Constant v))
placed v a (set ∷ sets) c = (expects.Separator a ((set ++ lit_of v ∷ []) ∷ sets), c)

abbrev pub number_step : Literal → Bool → Assigned → List (List Lit) → Config → Next
number_step v true a sets c = Ok (placed v a sets c)
number_step v false a sets c = Err Syntax

abbrev pub is_natural : ℤ → Bool
is_natural (pos n) = true
is_natural (negsuc n) = false

-- a value, or what begins one
abbrev pub value_step : Assigned → List (List Lit) → Config → Mark → Next
value_step a sets c (Name text at) = Ok (placed (literal.Model text) a sets c)
value_step a sets c (Number z) = number_step (literal.Number z) (is_natural z) a sets c
value_step a sets c (Str s) = Ok (placed (literal.Str s) a sets c)
value_step a sets c (Truth b) = Ok (placed (literal.Truth b) a sets c)
value_step a sets c Minus = Ok (expects.Number a sets, c)
value_step a sets c Open = if length sets == 32 then Err Syntax else Ok (expects.FirstMember a ([] ∷ sets), c)
value_step a sets c m = Err Syntax

-- the number behind `-`
abbrev pub negative_step : Assigned → List (List Lit) → Config → Mark → Next
negative_step a sets c (Number z) = number_step (literal.Number (neg_ℤ z)) (is_natural z) a sets c
negative_step a sets c m = Err Syntax

-- the innermost open set is whole
abbrev pub close_step : Assigned → List (List Lit) → Config → Next
close_step a [] c = Err Syntax
close_step a (set ∷ sets) c = Ok (placed (literal.Set set) a sets c)

-- `}`, or the first value behind `{`
abbrev pub first_member_step : Assigned → List (List Lit) → Config → Mark → Next
first_member_step a sets c Close = close_step a sets c
first_member_step a sets c m = value_step a sets c m

-- `}`, or `,` and a further value
abbrev pub separator_step : Assigned → List (List Lit) → Config → Mark → Next
separator_step a sets c Close = close_step a sets c
separator_step a sets c Comma = Ok (expects.Value a sets, c)
separator_step a sets c m = Err Syntax

abbrev pub sign_step : Assigned → Config → Mark → Next
sign_step a c Equal = Ok (expects.Value a [], c)
sign_step a c Replaces = Ok (expects.Replacement a, c)
sign_step a c m = Err Syntax

abbrev pub replacement_step : Assigned → Config → Mark → Next
replacement_step a c (Name text at) = Ok (expects.Statement further.Assignment, replaced c a (Replaced text at))
replacement_step a c m = Err Syntax

-- a name that is assigned
abbrev pub assigned_step : Bool → Config → List ℕ → Place → Next
assigned_step once c text at =
    if once && is_assigned text c.givens then Err (Twice text) else Ok (expects.Sign (record { name = text; at = at }), c)

abbrev pub first_step : Bool → Config → Mark → Next
first_step once c (Name text at) = assigned_step once c text at
first_step once c m = Err Syntax

abbrev pub name_step : Listed → Config → Mark → Next
name_step l c (Name text at) = Ok (expects.Statement (further.Name l), with_unchecked c (line_of l text))
name_step l c m = Err Syntax

abbrev pub choice_step : Part → Config → Mark → Next
choice_step p c (Name text at) = Ok (expects.Statement further.Nothing, with_choice c p text)
choice_step p c m = Err Syntax

abbrev pub truth_step : Config → Mark → Next
truth_step c (Truth b) = Ok (expects.Statement further.Nothing, with_unchecked c (codes "CHECK_DEADLOCK"))
truth_step c m = Err Syntax

-- a name that begins no statement
abbrev pub further_step : Bool → Further → Config → List ℕ → Place → Next
further_step once further.Nothing c text at = Err Syntax
further_step once (further.Name l) c text at = name_step l c (Name text at)
further_step once further.Assignment c text at = assigned_step once c text at

-- a name, which begins this statement or none
abbrev pub word_step : Bool → Further → Config → List ℕ → Place → Option Keyword → Next
word_step once f c text at (Some (keyword.Chooses p)) =
    if once && is_chosen c p then Err (Twice text) else Ok (expects.Choice p, c)
word_step once f c text at (Some (keyword.Lists l)) = Ok (expects.FirstName l, c)
word_step once f c text at (Some keyword.Deadlock) = Ok (expects.Truth, c)
word_step once f c text at (Some keyword.Unsupported) = Err (Unsupported text)
word_step once f c text at None = further_step once f c text at

abbrev pub end_step : Bool → Config → Next
end_step true c = if has_behaviour c then Ok (expects.Statement further.Nothing, c) else Err NoBehaviour
end_step false c = Err Syntax

abbrev pub statement_step : Bool → Bool → Further → Config → Mark → Next
statement_step once ended f c (Name text at) = word_step once f c text at (keyword_of text)
statement_step once ended f c Constants = Ok (expects.FirstAssignment, c)
statement_step once ended f c End = end_step ended c
statement_step once ended f c m = Err Syntax

abbrev pub step : Bool → Bool → Expects → Config → Mark → Next
step once ended (expects.Statement f) c m = statement_step once ended f c m
step once ended (expects.Choice p) c m = choice_step p c m
step once ended (expects.FirstName l) c m = name_step l c m
step once ended expects.Truth c m = truth_step c m
step once ended expects.FirstAssignment c m = first_step once c m
step once ended (expects.Sign a) c m = sign_step a c m
step once ended (expects.Replacement a) c m = replacement_step a c m
step once ended (expects.Value a sets) c m = value_step a sets c m
step once ended (expects.Number a sets) c m = negative_step a sets c m
step once ended (expects.FirstMember a sets) c m = first_member_step a sets c m
step once ended (expects.Separator a sets) c m = separator_step a sets c m

-- the mark leads to what was answered; or memory was wanting
abbrev pub Goes : Next → Result Expects Stop → Config → Type 0
Goes next (Ok e) c = next ≡ Ok (e, c)
Goes next (Err (stops.Refused kind)) c = next ≡ Err kind
Goes next (Err stops.NoMemory) c = Unit {0}

-- the refusal, at the place
abbrev pub IsAt : Stop → Place → ConfigFault → Type 0
IsAt (stops.Refused kind) at fault = fault ≡ Refused kind at
IsAt stops.NoMemory at fault = fault ≡ NoMemory

abbrev pub read_on : Next → Place → (Expects → Config → Outcome) → Outcome
read_on (Ok p) at rest = rest p.0 p.1
read_on (Err kind) at rest = Err (kind, at)

-- what comes of tokens
abbrev pub reads : Expects → Config → List Token → Outcome
reads e c [] = Ok c
reads e c (t ∷ ts) = read_on (step true true e c (mark_of t)) t.place (λ f d. reads f d ts)

-- what comes of one token, before whatever follows it; or memory was wanting
abbrev pub Takes : Expects → Config → Token → Result Expects ConfigFault → Config → Type 0
Takes e c t (Ok f) d = (ts : List Token) → reads e c (t ∷ ts) ≡ reads f d ts
Takes e c t (Err (Refused kind at)) d = (ts : List Token) → reads e c (t ∷ ts) ≡ Err (kind, at)
Takes e c t (Err NoMemory) d = Unit {0}

-- what was answered is what comes of the tokens of a text; or memory was wanting
abbrev pub ReadsTo : List ℕ → List Token → Result Config ConfigFault → Type 0
ReadsTo name tokens result = Answers (λ o. o ≡ reads (expects.Statement further.Nothing) (nothing_given name) tokens) result
