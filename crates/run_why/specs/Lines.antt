-- The lines that tell why no step of a line goes on: one for each entry, one for each of its branches, and one where there are more.
use Rattle.std.specs.Prelude.{ℕ, List, [], ◌∷◌, ◌++◌, codes}
use Rattle.base_core.specs.declared.place.LineAt.{LineAt}
use Rattle.values_core.specs.FaultCodes.{eval_code}
use Rattle.states_core.specs.States.{Values}
use Rattle.run_texts.specs.Answers.{Named, log_name}
use Rattle.run_texts.specs.Logs.{line_text}
use Rattle.run_texts.specs.Places.{name_at}
use Rattle.run_texts.specs.States.{state_text}
use Rattle.steps_why_branches.specs.declared.why.Why.{Why}
use Rattle.steps_why_branches.specs.declared.why.WhyKind.{WhyKind}
use Rattle.steps_why_branches.specs.declared.why.WhyKind.TheVariants as why
use Rattle.run_near_lines.specs.Texts.{place_behind}

-- the line of an entry
abbrev pub entry_text : Named → Values → List ℕ
entry_text l s = codes "WHY STATE " ++ state_text l.variables s ++ codes "\n"

-- a reason and what it is of
abbrev pub told_of : List ℕ → List ℕ → List ℕ
told_of reason of = reason ++ of

-- why a branch ends, with its variable or the code of its fault
abbrev pub reason_text : List (List ℕ) → WhyKind → List ℕ
reason_text names why.TestFalse = codes " TestFalse"
reason_text names (why.Differs x) = told_of (codes " Differs ") (name_at names x.0)
reason_text names (why.NotIn x) = told_of (codes " NotIn ") (name_at names x.0)
reason_text names why.NoMember = codes " NoMember"
reason_text names (why.Fault kind) = told_of (codes " Fault ") (eval_code kind)
reason_text names (why.NoUpdate x) = told_of (codes " NoUpdate ") (name_at names x.0)
reason_text names (why.NotSeen x) = told_of (codes " NotSeen ") (name_at names x.0)

-- the line of a branch of the line that stands there
abbrev pub why_text : Named → LineAt → Why → List ℕ
why_text l at w = codes "WHY " ++ line_text (log_name l.logs at.file) at.line ++ reason_text l.variables w.reason ++ place_behind l.files w.at ++ codes "\n"

abbrev pub whys_text : Named → LineAt → List Why → List ℕ
whys_text l at [] = []
whys_text l at (w ∷ ws) = why_text l at w ++ whys_text l at ws

-- the last line, where there are more branches than those that are told of
abbrev pub why_more : List ℕ
why_more = codes "WHY MORE\n"
