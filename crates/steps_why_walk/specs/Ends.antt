-- The ends of single parts, as the walk keeps them.
use Rattle.std.specs.Prelude.{◌≡◌, ◌⊎◌, ℕ, List, [], ◌∷◌, map, Bool, true, false, Option, None, Some, Result, Ok, Err, slice_get, slice_set, if◌then◌else◌}
use Rattle.base_core.specs.declared.place.Place.{Place}
use Rattle.values_core.specs.Data.{Val}
use Rattle.values_core.specs.IsValue.{IsValue}
use Rattle.values_core.specs.Sets.{items_of}
use Rattle.states_core.specs.declared.fault.Fault.{Fault}
use Rattle.values_sets.specs.DescribedSets.{Described}
use Rattle.values_sets.specs.Membership.{Belongs}
use Rattle.eval_meanings.specs.declared.fault.EvalFault.{EvalFault}
use Rattle.eval_meanings.specs.declared.fault.EvalFault.TheVariants.{Refused, NoMemory}
use Rattle.eval_meanings.specs.Contexts.{Places}
use Rattle.eval_meanings.specs.Sets.{list_at}
use Rattle.steps_filling.specs.Fillings.{IsEmpty}
use Rattle.names_terms.specs.Terms.{Term, place_of}
use Rattle.steps_why_branches.specs.PassedOver.{behind_one, may_spare}
use Rattle.steps_why_branches.specs.Traces.{End, SparedPart, Trace, ended, passed, why_at}
use Rattle.steps_why_branches.specs.declared.sparing.Spared.{Spared}
use Rattle.steps_why_branches.specs.declared.sparing.Sparing.{Sparing}
use Rattle.steps_why_branches.specs.Founds.{MembersFound}
use Rattle.steps_why_branches.specs.declared.why.Ended.{Ended}
use Rattle.steps_why_branches.specs.declared.why.Ended.TheVariants.{Ends, Passed}
use Rattle.steps_why_branches.specs.declared.why.WhyKind.{WhyKind}
use Rattle.steps_why_branches.specs.declared.why.WhyKind.TheVariants as why

-- what is kept of the parts that were passed over: the first
abbrev pub first_spared : List SparedPart → Option Spared
first_spared [] = None
first_spared (w ∷ ws) = Some w.told

-- what is kept of a branch

abbrev pub end_with : List SparedPart → End → Ended
end_with ws (passed q) = Passed q (first_spared ws)
end_with ws (ended q s w) = Ends w

abbrev pub end_of : Trace → Ended
end_of x = end_with x.spared x.end

abbrev pub kept : List Trace → List Ended
kept xs = map end_of xs

-- behind a branch in which this was passed over first, if anything was
abbrev pub with_first : Option Spared → Ended → Ended
with_first None n = n
with_first (Some w) (Passed q o) = Passed q (Some w)
with_first (Some w) (Ends v) = Ends v

-- what may be passed over behind a branch in which this was passed over first, if anything was
abbrev pub after_first : Option Spared → Sparing → Sparing
after_first None sp = sp
after_first (Some w) sp = record { at = behind_one w.why.at sp.at; call = sp.call }

-- Of a part that does not hold, with these slots and the value that is wanted, if there is one: it is passed over where it may be, and else ends there.
abbrev pub fail_end : Sparing → Places → List Val → Term → WhyKind → Option Val → Ended
fail_end sp p vs a kind v = if may_spare sp.at a then Passed p (Some (record { why = why_at (place_of a) kind; call = sp.call; slots = vs; wanted = v })) else Ends (why_at (place_of a) kind)

-- it ends with the fault that an evaluation has answered
abbrev pub IsFaultEnd : EvalFault → Ended → Type 0
IsFaultEnd (Refused kind at) n = n ≡ Ends (why_at at (why.Fault kind))
IsFaultEnd NoMemory n = ⊥

-- the ends, or that there is nothing to choose from where there are none
abbrev pub OrNoMember : Place → List Ended → List Ended → Type 0
OrNoMember at [] all = all ≡ Ends (why_at at why.NoMember) ∷ []
OrNoMember at (n ∷ ns) all = all ≡ n ∷ ns

-- gone through where the fact holds, and else this
abbrev pub EndIf : Type 0 → Places → Ended → Ended → Type 0
EndIf P p m n = (P × (n ≡ Passed p None)) ⊎ (¬ P × (n ≡ m))

-- the variable x has the value v, as the part says
abbrev pub IsEquated : Sparing → List Val → Term → ℕ → Val → Places → Ended → Type 0
IsEquated sp vs a x v p n =
    ((w : Val) × (slice_get p x ≡ Some (Some w)) × EndIf (w ≡ v) p (fail_end sp p vs a (why.Differs (record { 0 = x })) (Some v)) n) ⊎ (IsEmpty p x × IsValue v × (n ≡ Passed (slice_set p x (Some v)) None))

-- the variable x has one of the values: the first k ends
abbrev pub IsMembers : ℕ → Places → ℕ → List Val → List Ended → Type 0
IsMembers k p x vs ends = (xs : List Trace) × MembersFound k p x vs xs × (kept xs ≡ ends)

-- what comes of listing the set, which stands at the place: a fault, or its members
abbrev pub OfListed : ℕ → ℕ → Place → Places → List Ended → Result Val Fault → Type 0
OfListed k x at p ends (Ok u) = IsValue u × ((ns : List Ended) × IsMembers k p x (items_of u) ns × OrNoMember at ns ends)
OfListed k x at p ends (Err f) = ends ≡ Ends (why_at f.at (why.Fault f.kind)) ∷ []

abbrev pub IsListedEnds : ℕ → ℕ → Described → Place → Place → Places → List Ended → Type 0
IsListedEnds k x S set_at at p ends = (r : Result Val Fault) × list_at set_at S r × OfListed k x at p ends r

-- the variable x has a member of the set S, as the part says
abbrev pub IsChosen : ℕ → Sparing → List Val → Term → ℕ → Described → Place → Places → List Ended → Type 0
IsChosen k sp vs a x S set_at p ends =
    ((w : Val) × (slice_get p x ≡ Some (Some w)) × ((n : Ended) × EndIf (Belongs S w) p (fail_end sp p vs a (why.NotIn (record { 0 = x })) None) n × (ends ≡ n ∷ [])))
    ⊎ (IsEmpty p x × IsListedEnds k x S set_at (place_of a) p ends)

-- a truth value or a fault of a test: the one end where it is true, the other where it is false
abbrev pub OfTruth : Ended → Ended → Result Bool Fault → Ended → Type 0
OfTruth there lacking (Ok true) n = n ≡ there
OfTruth there lacking (Ok false) n = n ≡ lacking
OfTruth there lacking (Err f) n = n ≡ Ends (why_at f.at (why.Fault f.kind))
