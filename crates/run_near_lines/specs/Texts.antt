-- The near lines: one for a part that alone fails, one for what is seen and alone does not stand there.
use Rattle.std.specs.Prelude.{ℕ, zero, suc, List, [], ◌∷◌, ◌++◌, take, drop, Option, Some, None, slice_get, codes}
use Rattle.serde_json.specs.Written.{compact_text}
use Rattle.base_core.specs.declared.place.LineAt.{LineAt}
use Rattle.base_core.specs.declared.place.Place.{Place}
use Rattle.values_core.specs.Data.{Val}
use Rattle.values_json.specs.Prints.{prints}
use Rattle.names_terms.specs.declared.ids.DefId.{DefId}
use Rattle.names_terms.specs.declared.operator.Operator.{Operator}
use Rattle.names_terms.specs.declared.spec.Spec.{Spec}
use Rattle.eval_meanings.specs.Contexts.{Places}
use Rattle.logs_updates.specs.declared.update.See.{See}
use Rattle.run_texts.specs.Answers.{Named, log_name}
use Rattle.run_texts.specs.Logs.{line_text}
use Rattle.run_texts.specs.Places.{at_place, name_at}
use Rattle.steps_why_branches.specs.declared.sparing.Spared.{Spared}
use Rattle.steps_why_branches.specs.declared.why.WhyKind.{WhyKind}
use Rattle.steps_why_branches.specs.declared.why.WhyKind.TheVariants as why
use Rattle.run_near_lines.specs.Kinds.{kinds_text}

-- a value in its one spelling
abbrev pub json_text : Val → List ℕ
json_text v = compact_text (prints v)

-- the value that there should be, if it is told
abbrev pub wanted_text : Option Val → List ℕ
wanted_text None = []
wanted_text (Some v) = codes " wanted " ++ json_text v

-- the value that there is, if there is one
abbrev pub found_text : Option Val → List ℕ
found_text None = codes " found nothing"
found_text (Some v) = codes " found " ++ json_text v

abbrev pub both_kinds : Option Val → Option Val → List ℕ
both_kinds None found = []
both_kinds (Some v) None = []
both_kinds (Some v) (Some w) = kinds_text v w

abbrev pub values_text : Option Val → Option Val → List ℕ
values_text wanted found = wanted_text wanted ++ found_text found ++ both_kinds wanted found

-- what a place holds, where it is there
abbrev pub held : Option (Option Val) → Option Val
held None = None
held (Some o) = o

-- the place of a part, where there is one
abbrev pub place_behind : List (List ℕ) → Option Place → List ℕ
place_behind files None = []
place_behind files (Some at) = at_place files at

-- what is told of a variable that has another value than the part at the place says
abbrev pub variable_text : Named → List ℕ → ℕ → Option Place → Option Val → Places → List ℕ
variable_text l reason x at wanted q = reason ++ name_at l.variables x ++ place_behind l.files at ++ values_text wanted (held (slice_get q x))

-- why a part fails, where it stands, and which values there are; a part is passed over for no other reason than these
abbrev pub failed_text : Named → WhyKind → Option Place → Option Val → Places → List ℕ
failed_text l why.TestFalse at wanted q = codes " TestFalse" ++ place_behind l.files at
failed_text l (why.Differs x) at wanted q = variable_text l (codes " Differs ") x.0 at wanted q
failed_text l (why.NotIn x) at wanted q = variable_text l (codes " NotIn ") x.0 at wanted q
failed_text l why.NoMember at wanted q = []
failed_text l (why.Fault kind) at wanted q = []
failed_text l (why.NoUpdate x) at wanted q = []
failed_text l (why.NotSeen x) at wanted q = []

-- values, each behind a comma
abbrev pub more_arguments : List Val → List ℕ
more_arguments [] = []
more_arguments (v ∷ vs) = codes ", " ++ json_text v ++ more_arguments vs

abbrev pub arguments_text : List Val → List ℕ
arguments_text [] = []
arguments_text (v ∷ vs) = codes "(" ++ json_text v ++ more_arguments vs ++ codes ")"

-- a definition with the values of its parameters; one of a LET has no name, and is not told
abbrev pub named_call : List ℕ → List Val → List ℕ
named_call [] vs = []
named_call (c ∷ cs) vs = codes " in " ++ (c ∷ cs) ++ arguments_text vs

-- in the slots of a body its parameters stand behind those that are handed on
abbrev pub call_of : Option Operator → List Val → List ℕ
call_of None slots = []
call_of (Some o) slots = named_call o.name (take o.params (drop o.outer slots))

-- the innermost call, if there is one
abbrev pub call_text : List Operator → Option DefId → List Val → List ℕ
call_text operators None slots = []
call_text operators (Some k) slots = call_of (slice_get operators k.0) slots

-- a near line of the line that stands there
abbrev pub near_text : Named → LineAt → List ℕ → List ℕ
near_text l at told = codes "NEAR " ++ line_text (log_name l.logs at.file) at.line ++ told ++ codes "\n"

-- that of a part that was passed over, where these places are filled
abbrev pub spared_text : Spec → Named → LineAt → Spared → Places → List ℕ
spared_text g l at w q = near_text l at (failed_text l w.why.reason w.why.at w.wanted q ++ call_text g.operators w.call w.slots)

-- that of what is seen, where this stands at its path
abbrev pub unseen_text : Named → LineAt → See → Option Val → List ℕ
unseen_text l at see found = near_text l at (codes " NotSeen " ++ name_at l.variables see.path.variable.0 ++ values_text (Some see.value) found)

-- the first so many of them, and that there are more
abbrev pub first_told : ℕ → List (List ℕ) → List ℕ
first_told most [] = []
first_told zero (t ∷ ts) = codes "NEAR MORE\n"
first_told (suc most) (t ∷ ts) = t ++ first_told most ts

-- what is told where these are the near lines
abbrev pub near_told : ℕ → List (List ℕ) → List ℕ
near_told most [] = codes "NEAR NONE\n"
near_told most (t ∷ ts) = first_told most (t ∷ ts)
