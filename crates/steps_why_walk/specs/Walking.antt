-- What the functions of the walk rest on, and what they list.
use Rattle.std.specs.Prelude.{◌≡◌, ◌≤◌, ℕ, Bool, List, Option, [], ◌∷◌, map, length, Contains, Result, Some, slice_get}
use Rattle.values_core.specs.Data.{Val}
use Rattle.states_core.specs.States.{Values}
use Rattle.states_core.specs.declared.fault.Fault.{Fault}
use Rattle.names_terms.specs.declared.operator.Operator.{Operator}
use Rattle.names_terms.specs.Terms.{Term, place_of}
use Rattle.eval_meanings.specs.Contexts.{Context, Places, bind, enter}
use Rattle.eval_meanings.specs.Evaluates.{Evaluates}
use Rattle.eval_meanings.specs.Laws.{IsWithin}
use Rattle.eval_meanings.specs.Unchanged.{TruthOf}
use Rattle.actions_meanings.specs.Forms.{Form, Setting, form}
use Rattle.actions_meanings.specs.Outcomes.{Fixes}
use Rattle.actions_meanings.specs.Reads.{VariableSet}
use Rattle.eval_meanings.specs.Reads.{Reads}
use Rattle.actions_meanings.specs.Filled.{Completes, Fills, at_next}
use Rattle.steps_found_states.specs.Walks.{StaysPossible}
use Rattle.steps_found_states.specs.Grounds.{Grounds}
use Rattle.steps_found_states.specs.Parts.{FixesAll, GroundsAll, Leads, Parts}
use Rattle.actions_rows.specs.Rows.{before, part_term, setting}
use Rattle.actions_rows.specs.declared.part.Part.{Part}
use Rattle.actions_rows.specs.declared.stage.Stage.{Stage}
use Rattle.steps_why_branches.specs.Traces.{Trace, why_at}
use Rattle.steps_why_branches.specs.Firsts.{Ascends}
use Rattle.steps_why_branches.specs.Founds.{After, ArmsFound, EachFound, FoundOf, TurnsFound}
use Rattle.steps_why_branches.specs.declared.sparing.Spared.{Spared}
use Rattle.steps_why_branches.specs.declared.sparing.Sparing.{Sparing}
use Rattle.steps_why_branches.specs.declared.why.Ended.{Ended}
use Rattle.steps_why_branches.specs.declared.why.Ended.TheVariants.{Ends, Passed}
use Rattle.steps_why_branches.specs.declared.why.WhyKind.TheVariants.{NoMember}
use Rattle.steps_why_walk.specs.Ends.{OfTruth, end_of, kept}

-- some state completes the places
abbrev pub IsPossible : Places → Type 0
IsPossible p = (t : Values) × Completes p t

-- The walk of a term rests on this: just the variables of some set have a value, and some state completes the places. What is seen of that state counts for nothing here.
abbrev pub WhyGrounded : Setting → ℕ → Context → Term → Places → Type 0
WhyGrounded g d c a p = ((B : VariableSet) × Grounds g d [] B p c a) × IsPossible p

-- What is filled at each end that was gone through: further than the places, some state still completes it, and it is what is fixed.
pub record Passes (p : Places) (fixes : VariableSet → Type 0) (ends : List Ended) : Type 0 where
  pub further : (q : Places) (o : Option Spared) → Contains ends (Passed q o) → (length q ≡ length p) × IsWithin p q × StaysPossible p q
  pub filled : (q : Places) (o : Option Spared) (C : VariableSet) → Contains ends (Passed q o) → fixes C → Fills C q

-- The first k branches of the term, in their order, each with its end; and what is filled at those that were gone through.
pub record IsListed (g : Setting) (sp : Sparing) (k d : ℕ) (c : Context) (a : Term) (p : Places) (ends : List Ended) : Type 0 where
  pub found : (xs : List Trace) × FoundOf g sp k d c a p xs × (kept xs ≡ ends)
  pub passes : (B : VariableSet) → Grounds g d [] B p c a → Passes p (Fixes g a B) ends

-- of a stage, with these slots

abbrev pub PartGrounded : Stage → List Val → ℕ → Places → Part → Type 0
PartGrounded s vs d p q = WhyGrounded (setting s) d (before s vs) (part_term q) p

abbrev pub PartListed : Stage → Sparing → List Val → ℕ → ℕ → Places → Part → List Ended → Type 0
PartListed s sp vs k d p q ends = IsListed (setting s) sp k d (before s vs) (part_term q) p ends

abbrev pub IsForm : Stage → List Val → Part → Form → Type 0
IsForm s vs q f = f ≡ form (setting s) (length vs) (part_term q)

-- one end, however many there may be
abbrev pub LeafListed : Stage → Sparing → List Val → ℕ → Places → Part → List Ended → Type 0
LeafListed s sp vs d p q ends = (k : ℕ) → 1 ≤ k → PartListed s sp vs k d p q ends

abbrev pub parts_of : Context → List Part → Parts
parts_of c qs = map (λ q. (c, part_term q)) qs

-- all of several parts

abbrev pub AllGrounded : Setting → ℕ → Places → Parts → Type 0
AllGrounded g d p es = ((B : VariableSet) × GroundsAll g d [] B p es × ((C : VariableSet) × FixesAll g es B C)) × IsPossible p

pub record AllListed (g : Setting) (sp : Sparing) (k d : ℕ) (p : Places) (es : Parts) (ends : List Ended) : Type 0 where
  pub found : (xs : List Trace) × TurnsFound g sp d k p es xs × (kept xs ≡ ends)
  pub passes : (B C : VariableSet) → GroundsAll g d [] B p es → FixesAll g es B C → Passes p (FixesAll g es B) ends

-- one part more, behind each of several branches

abbrev pub EndGrounded : Setting → ℕ → Context × Term → Ended → Type 0
EndGrounded g d e (Passed q o) = WhyGrounded g d e.0 e.1 q
EndGrounded g d e (Ends w) = Unit {0}

abbrev pub EndsGrounded : Setting → ℕ → Context × Term → List Ended → Type 0
EndsGrounded g d e ends = (n : Ended) → Contains ends n → EndGrounded g d e n

-- what is filled then is filled further than at one of the ends before
pub record PassesOn (old : List Ended) (fixes : VariableSet → Type 0) (new : List Ended) : Type 0 where
  pub further : (q : Places) (o : Option Spared) → Contains new (Passed q o) → (p : Places) × (u : Option Spared) × Contains old (Passed p u) × (length q ≡ length p) × IsWithin p q × StaysPossible p q
  pub filled : (q : Places) (o : Option Spared) (C : VariableSet) → Contains new (Passed q o) → fixes C → Fills C q

abbrev pub EndGrounds : Setting → ℕ → VariableSet → Context × Term → Ended → Type 0
EndGrounds g d B e (Passed q o) = Grounds g d [] B q e.0 e.1
EndGrounds g d B e (Ends w) = Unit {0}

pub record IsOnward (g : Setting) (sp : Sparing) (k d : ℕ) (e : Context × Term) (old new : List Ended) : Type 0 where
  pub found : (xs : List Trace) → Ascends xs → kept xs ≡ old → (ys : List Trace) × EachFound g sp d k e xs ys × (kept ys ≡ new)
  pub passes : (B : VariableSet) → ((n : Ended) → Contains old n → EndGrounds g d B e n) → PassesOn old (Fixes g e.1 B) new

-- behind one branch
pub record IsAfter (g : Setting) (sp : Sparing) (k d : ℕ) (e : Context × Term) (n : Ended) (new : List Ended) : Type 0 where
  pub found : (y : Trace) → end_of y ≡ n → (zs : List Trace) × After g sp d k e y zs × (kept zs ≡ new)
  pub passes : (B : VariableSet) → EndGrounds g d B e n → PassesOn (n ∷ []) (Fixes g e.1 B) new

-- one of several parts

abbrev pub AnyGrounded : Setting → ℕ → Places → Parts → Type 0
AnyGrounded g d p es = (e : Context × Term) → Contains es e → WhyGrounded g d e.0 e.1 p

pub record AnyListed (g : Setting) (sp : Sparing) (k d : ℕ) (p : Places) (es : Parts) (ends : List Ended) : Type 0 where
  pub found : (xs : List Trace) × ArmsFound g sp d k p es xs × (kept xs ≡ ends)
  pub passes : (B : VariableSet) (a : Term) → ((e : Context × Term) → Contains es e → Grounds g d [] B p e.0 e.1) → ((e : Context × Term) → Contains es e → Leads g B a e.1) → Passes p (Fixes g a B) ends

-- the same term under each of the combinations
abbrev pub under : Context → Term → List (List Val) → Parts
under c e all = map (λ chosen. (bind c chosen, e)) all

-- the body of a definition on these values of its arguments

abbrev pub BodyGrounded : Setting → ℕ → Context → ℕ → List Val → Places → Type 0
BodyGrounded g d c k vs p = (o : Operator) × (slice_get g.table k ≡ Some o) × (o.outer ≤ length c.slots) × WhyGrounded g d (enter o vs c) o.body p

abbrev pub BodyListed : Setting → Sparing → ℕ → ℕ → Context → ℕ → List Val → Places → List Ended → Type 0
BodyListed g sp k d c j vs p ends = (o : Operator) → slice_get g.table j ≡ Some o → IsListed g sp k d (enter o vs c) o.body p ends

-- a test, which is no part of the text, behind each of several branches

abbrev pub EndReads : Setting → ℕ → Context → Term → Ended → Type 0
EndReads g d c a (Passed q o) = Reads g.table d (at_next g.which c q) a
EndReads g d c a (Ends w) = Unit {0}

abbrev pub EndAltered : Setting → ℕ → Context → Term → Ended → Ended → Type 0
EndAltered g d c a (Passed q o) n = (r : Result Bool Fault) × TruthOf (Evaluates g.table d) (at_next g.which c q) a r × OfTruth (Passed q o) (Ends (why_at (place_of a) NoMember)) r n
EndAltered g d c a (Ends w) n = n ≡ Ends w

abbrev pub EndsAltered : Setting → ℕ → Context → Term → List Ended → List Ended → Type 0
EndsAltered g d c a [] ns = ns ≡ []
EndsAltered g d c a (m ∷ ms) [] = ⊥
EndsAltered g d c a (m ∷ ms) (n ∷ ns) = EndAltered g d c a m n × EndsAltered g d c a ms ns

abbrev pub EndsRead : Setting → ℕ → Context → Term → List Ended → Type 0
EndsRead g d c a ends = (n : Ended) → Contains ends n → EndReads g d c a n
