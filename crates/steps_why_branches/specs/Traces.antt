-- One branch of an action: the choices that are made on the way, the parts that are gone through, those that are passed over, and how it ends.
use Rattle.std.specs.Prelude.{ℕ, List, [], ◌∷◌, ◌++◌, Option, Some, if◌then◌else◌}
use Rattle.steps_why_branches.specs.Choices.{Choices, Before}
use Rattle.states_core.specs.declared.fault.Fault.{Fault}
use Rattle.values_core.specs.Data.{Val}
use Rattle.names_terms.specs.Terms.{Term, place_of}
use Rattle.eval_meanings.specs.Contexts.{Context, Places}
use Rattle.base_core.specs.declared.place.Place.{Place}
use Rattle.steps_why_branches.specs.PassedOver.{behind_one, may_spare}
use Rattle.steps_why_branches.specs.declared.sparing.Spared.{Spared}
use Rattle.steps_why_branches.specs.declared.sparing.Sparing.{Sparing}
use Rattle.steps_why_branches.specs.declared.why.Why.{Why}
use Rattle.steps_why_branches.specs.declared.why.WhyKind.{WhyKind}
use Rattle.steps_why_branches.specs.declared.why.WhyKind.TheVariants as why

-- a part of an action where it stands, with how many evaluations it may have
pub record Stood : Type 0 where
  pub depth : ℕ
  pub at : Context
  pub term : Term

-- It was gone through, the next state being filled so far; or it ends in the part, with the next state so far.
pub data End : Type 0 where
  passed : Places → End
  ended : Places → Stood → Why → End

-- a part that does not hold and was passed over, and what is kept of it
pub record SparedPart : Type 0 where
  pub part : Stood
  pub told : Spared

pub record Trace : Type 0 where
  pub choices : Choices
  pub before : List Stood
  pub spared : List SparedPart
  pub end : End

-- What may be passed over behind these: where those at one place may be, that is the place of the first.
abbrev pub after_spared : List SparedPart → Sparing → Sparing
after_spared [] sp = sp
after_spared (w ∷ ws) sp = record { at = behind_one w.told.why.at sp.at; call = sp.call }

abbrev pub Earlier : Trace → Trace → Type 0
Earlier x y = Before x.choices y.choices

abbrev pub here : Places → Trace
here p = record { choices = []; before = []; spared = []; end = passed p }

abbrev pub why_at : Place → WhyKind → Why
why_at at kind = record { at = Some at; reason = kind }

abbrev pub stops : Places → Stood → Place → WhyKind → Trace
stops p s at kind = record { choices = []; before = []; spared = []; end = ended p s (why_at at kind) }

abbrev pub faulted : Places → Stood → Fault → Trace
faulted p s f = stops p s f.at (why.Fault f.kind)

-- with this choice before its own
abbrev pub chosen : ℕ → Trace → Trace
chosen i x = record { choices = i ∷ x.choices; before = x.before; spared = x.spared; end = x.end }

-- A part that does not hold, with the value that is wanted, if there is one: it is passed over where it may be, and the next state stays as it was; else
-- the branch ends there.

abbrev pub spares : Sparing → Places → Stood → WhyKind → Option Val → Trace
spares sp p s kind v = record {
  choices = [];
  before = [];
  spared = record { part = s; told = record { why = why_at (place_of s.term) kind; call = sp.call; slots = s.at.slots; wanted = v } } ∷ [];
  end = passed p;
}

abbrev pub fails : Sparing → Places → Stood → WhyKind → Option Val → Trace
fails sp p s kind v = if may_spare sp.at s.term then spares sp p s kind v else stops p s (place_of s.term) kind

-- What is gone through of a part: the whole, where nothing of it was passed over; else what stands before, between and behind that, or before the end.
abbrev pub gone : Stood → List SparedPart → End → List Stood → List Stood
gone s [] (passed q) ss = s ∷ []
gone s [] (ended q n w) ss = ss
gone s (w ∷ ws) n ss = ss

-- a branch and, behind it, one of the part s
abbrev pub added : Stood → Trace → Trace → Trace
added s x y = record { choices = x.choices ++ y.choices; before = x.before ++ gone s y.spared y.end y.before; spared = x.spared ++ y.spared; end = y.end }
