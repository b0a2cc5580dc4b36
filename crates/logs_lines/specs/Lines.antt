-- What a line of a log says, and why it is refused.
use Rattle.std.specs.Prelude.{◌≡◌, ◌⊎◌, ◌<◌, ◌≤◌, ℕ, List, length, map, All, Bool, true, false, Option, None, Some, Result, Ok, Err, IsUtf8, MatchBool, is_some}
use Rattle.std.specs.List.{list_all}
use Rattle.serde_json.specs.Data.{Data, Members}
use Rattle.serde_json.specs.Find.{as_object}
use Rattle.serde_json.specs.Read.{read}
use Rattle.values_core.specs.Data.{Val}
use Rattle.values_json.specs.Reads.{ReadsEach}
use Rattle.logs_shapes.specs.Shapes.{LineShape, shape_of}
use Rattle.logs_shapes.specs.declared.key.Key.{Key}
use Rattle.logs_shapes.specs.declared.key.Key.TheVariants as key
use Rattle.logs_updates.specs.declared.clock.Clock.{Clock}
use Rattle.logs_updates.specs.declared.line.Event.{Event}
use Rattle.logs_updates.specs.declared.update.Update.{Update}
use Rattle.logs_lines.specs.Clocks.{FallsBack, IsMissing, IsNoLower, IsOtherForm, clock_or, form_after}
use Rattle.logs_lines.specs.Setting.{Setting}
use Rattle.logs_lines.specs.Values.{EachOf, SeeReads, UpdateReads}
use Rattle.logs_lines.specs.declared.position.Position.{Position}
use Rattle.logs_lines.specs.declared.step.Parts.{Parts}
use Rattle.logs_lines.specs.declared.kind.LogKind.{LogKind}
use Rattle.logs_lines.specs.declared.kind.LogKind.TheVariants as kind
use Rattle.logs_lines.specs.declared.kind.Outcome.{Outcome}
use Rattle.logs_lines.specs.declared.kind.Outcome.TheVariants.{Blank, Init, Step, Refused}

-- P of the value that there is, and Q of it; this refusal where there is none
abbrev pub OnValue : {A : Type 0} → (A → Type 0) → LogKind → (A → Outcome → Type 0) → Outcome → Type 0
OnValue P why Q o = ((a : _) × P a × Q a o) ⊎ (((a : _) → ¬ P a) × (o ≡ Refused why))

-- this refusal where the fact holds, and else Q
abbrev pub Unless : Type 0 → LogKind → (Outcome → Type 0) → Outcome → Type 0
Unless Bad why Q o = (Bad × (o ≡ Refused why)) ⊎ (¬ Bad × Q o)

-- its refusal where the second clock is lower than the first, and else Q
abbrev pub OnBack : Clock → Clock → (Outcome → Type 0) → Outcome → Type 0
OnBack before clock Q o = ((why : LogKind) × FallsBack before clock why × (o ≡ Refused why)) ⊎ (IsNoLower before clock × Q o)

-- the operator that the line names, with its number of parameters
abbrev pub EventIs : Setting → Option (List ℕ) → Option (ℕ × ℕ) → Type 0
EventIs g None event = event ≡ None
EventIs g (Some name) event = (e : ℕ × ℕ) × (g.operator name ≡ Some e) × (event ≡ Some e)

abbrev pub params_of : Option (ℕ × ℕ) → ℕ
params_of None = 0
params_of (Some e) = e.1

abbrev pub event_with : Option (ℕ × ℕ) → List Val → Option Event
event_with None args = None
event_with (Some e) args = Some (record { operator = e.0; args = args })

-- some name is no variable's
abbrev pub HasUnknown : Setting → List (List ℕ) → Type 0
HasUnknown g names = list_all (λ name. is_some (g.variable name)) names ≡ false

abbrev pub HasNoForm : Setting → Option (ℕ × ℕ) → List Update → Type 0
HasNoForm g None updates = ⊥
HasNoForm g (Some e) updates = ¬ g.HasForm e.0 updates

-- the line of a step with these parts
abbrev pub step_line : Position → LineShape → Parts → Outcome
step_line at s p =
    Step
    (record { at = record { file = at.file; line = at.line }; clock = clock_or at.clock s.clock; event = event_with p.event p.args; updates = p.updates; sees = p.sees })
    (form_after at.form s.clock)

-- the refusals behind those of values, in their order
abbrev pub FormSays : Setting → Position → LineShape → Parts → Outcome → Type 0
FormSays g at s p = Unless (HasNoForm g p.event p.updates) kind.EventNotFixed (λ o. o ≡ step_line at s p)

abbrev pub NamesSay : Setting → Position → LineShape → Parts → Outcome → Type 0
NamesSay g at s p =
    Unless (HasUnknown g (map (λ u. u.path.name) s.updates)) kind.UnknownVariable (Unless (HasUnknown g (map (λ v. v.path.name) s.sees)) kind.UnknownVariable (FormSays g at s p))

abbrev pub ClocksSay : Setting → Position → LineShape → Parts → Outcome → Type 0
ClocksSay g at s p =
    Unless (IsMissing at.many s.clock) kind.NoClock (Unless (IsOtherForm at.form s.clock) kind.ClockKind (OnBack at.clock (clock_or at.clock s.clock) (NamesSay g at s p)))

abbrev pub TestsSay : Setting → Position → LineShape → Parts → Outcome → Type 0
TestsSay g at s p = Unless (length p.args ≡ params_of p.event → ⊥) (kind.WrongArgs (length p.args) (params_of p.event)) (ClocksSay g at s p)

-- the values of a line, key by key
abbrev pub SeesSay : Setting → Position → LineShape → Option (ℕ × ℕ) → List Val → List Update → Outcome → Type 0
SeesSay g at s event args updates =
    OnValue (EachOf (SeeReads g) s.sees) (kind.BadValue key.See) (λ sees. TestsSay g at s (record { event = event; args = args; updates = updates; sees = sees }))

abbrev pub UpdatesSay : Setting → Position → LineShape → Option (ℕ × ℕ) → List Val → Outcome → Type 0
UpdatesSay g at s event args = OnValue (EachOf (UpdateReads g) s.updates) (kind.BadValue key.Update) (SeesSay g at s event args)

abbrev pub ArgsSay : Setting → Position → LineShape → Option (ℕ × ℕ) → Outcome → Type 0
ArgsSay g at s event = OnValue (ReadsEach s.args) (kind.BadValue key.Args) (UpdatesSay g at s event)

-- a line that tells of a step
abbrev pub StepSays : Setting → Position → LineShape → Outcome → Type 0
StepSays g at s = Unless (at.room ≤ at.steps) kind.TooManyLines (OnValue (EventIs g s.event) kind.UnknownEvent (ArgsSay g at s))

-- a line that tells of the initial state
abbrev pub InitSays : Setting → Position → LineShape → Outcome → Type 0
InitSays g at s =
    Unless (at.first ≡ false) kind.InitNotFirst (OnValue (EachOf (SeeReads g) s.sees) (kind.BadValue key.See) (λ sees.
    Unless (HasUnknown g (map (λ v. v.path.name) s.sees)) kind.UnknownVariable (λ o. o ≡ Init sees)))

abbrev pub ShapeSays : Setting → Position → Result LineShape Key → Outcome → Type 0
ShapeSays g at (Err key) o = o ≡ Refused (kind.BadField key)
ShapeSays g at (Ok s) o = MatchBool s.init (InitSays g at s o) (StepSays g at s o)

abbrev pub ObjectSays : Setting → Position → Option Members → Outcome → Type 0
ObjectSays g at None o = o ≡ Refused kind.NotObject
ObjectSays g at (Some ms) o = ShapeSays g at (shape_of ms) o

abbrev pub max_line : ℕ
max_line = 1048576

-- spaces, tabs and carriage returns alone
abbrev pub IsBlank : List ℕ → Type 0
IsBlank line = All (λ b. (b ≡ 32) ⊎ (b ≡ 9) ⊎ (b ≡ 13)) line

-- the line is JSON with these data
abbrev pub IsJson : List ℕ → Data → Type 0
IsJson line d = IsUtf8 line × (read line ≡ Some d)

abbrev pub TextSays : Setting → Position → List ℕ → Outcome → Type 0
TextSays g at line = OnValue (IsJson line) kind.NotJson (λ d. ObjectSays g at (as_object d))

-- what a line says, and else the first of its refusals
abbrev pub LineSays : Setting → Position → List ℕ → Outcome → Type 0
LineSays g at line = Unless (max_line < length line) kind.LineTooLong (λ o. (IsBlank line × (o ≡ Blank)) ⊎ (¬ IsBlank line × TextSays g at line o))
