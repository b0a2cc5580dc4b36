-- The report of an answer.
use Rattle.std.specs.Prelude.{ℕ, zero, suc, List, [], ◌∷◌, ◌++◌, codes, decimal}
use Rattle.base_core.specs.declared.place.Place.{Place}
use Rattle.base_core.specs.declared.place.LineAt.{LineAt}
use Rattle.values_core.specs.declared.fault.EvalKind.{EvalKind}
use Rattle.values_core.specs.FaultCodes.{eval_code}
use Rattle.states_core.specs.States.{Values}
use Rattle.states_core.specs.declared.state.Shown.{Shown}
use Rattle.states_layers.specs.declared.answer.Answer.{Answer}
use Rattle.states_layers.specs.declared.answer.Answer.TheVariants as answer
use Rattle.run_texts.specs.Places.{name_at, at_place}
use Rattle.run_texts.specs.Logs.{line_text}
use Rattle.run_texts.specs.States.{states_text, faulty_text}
use Rattle.run_texts.specs.declared.labels.Labels.{Labels}

-- What a report names: the specification's files, the logs and the variables, what is not checked, how many
-- lines there are, and how many states a layer may have.
pub record Named : Type 0 where
  pub files : List (List ℕ)
  pub logs : List (List ℕ)
  pub variables : List (List ℕ)
  pub unchecked : List (List ℕ)
  pub lines : ℕ
  pub limit : ℕ

-- what is behind the labels
abbrev pub named : Labels → Named
named l = record { files = l.files.now; logs = l.logs.now; variables = l.variables.now; unchecked = l.unchecked.now; lines = l.lines; limit = l.limit }

-- what went wrong in an evaluation, and where
abbrev pub fault_text : List (List ℕ) → EvalKind → Place → List ℕ
fault_text files kind at = eval_code kind ++ at_place files at

-- which layer: after how many lines and silent steps
abbrev pub layer_text : ℕ → ℕ → List ℕ
layer_text after silent = codes " after=" ++ decimal after ++ codes " silent=" ++ decimal silent ++ codes "\n"

-- a line for each thing that is not checked
abbrev pub unchecked_text : List (List ℕ) → List ℕ
unchecked_text [] = []
unchecked_text (what ∷ others) = codes "NOT CHECKED " ++ what ++ codes "\n" ++ unchecked_text others

-- the name of the log of that number, from 1
abbrev pub log_name : List (List ℕ) → ℕ → List ℕ
log_name logs zero = []
log_name logs (suc n) = name_at logs n

-- the line that comes next
abbrev pub next_text : List (List ℕ) → LineAt → List ℕ
next_text logs at = codes " next=" ++ line_text (log_name logs at.file) at.line

-- a behaviour of all lines
abbrev pub explained_text : Named → List Shown → ℕ → List ℕ
explained_text l behaviour widest =
    codes "EXPLAINED lines=" ++ decimal l.lines ++ codes " widest=" ++ decimal widest ++ codes "\n"
    ++ unchecked_text l.unchecked ++ states_text l.variables behaviour

-- a behaviour of some of the lines, which no behaviour goes beyond
abbrev pub not_explained_text : Named → ℕ → ℕ → LineAt → List Shown → List ℕ
not_explained_text l prefix all next behaviour =
    codes "NOT EXPLAINED prefix=" ++ decimal prefix ++ codes " of=" ++ decimal all ++ next_text l.logs next ++ codes "\n"
    ++ unchecked_text l.unchecked ++ states_text l.variables behaviour

-- a step from this state faults
abbrev pub step_fault_text : Named → ℕ → ℕ → Values → EvalKind → Place → List ℕ
step_fault_text l after silent s kind at =
    codes "FAULT " ++ fault_text l.files kind at ++ layer_text after silent ++ faulty_text l.variables s

-- the report of an answer
abbrev pub answer_text : Named → Answer → List ℕ
answer_text l (answer.Explained behaviour widest) = explained_text l behaviour widest
answer_text l (answer.NotExplained prefix all next behaviour) = not_explained_text l prefix all next behaviour
answer_text l answer.NoInitial = codes "NO INITIAL STATE\n" ++ unchecked_text l.unchecked
answer_text l (answer.InitFault kind at) = codes "FAULT " ++ fault_text l.files kind at ++ codes " in init\n"
answer_text l (answer.Fault after silent s kind at) = step_fault_text l after silent s kind at
answer_text l (answer.AssumeFault kind at) = codes "ASSUME FAULT " ++ fault_text l.files kind at ++ codes "\n"
answer_text l (answer.AssumeFalse at) = codes "ASSUME FALSE" ++ at_place l.files at ++ codes "\n"
answer_text l (answer.LayerLimit after silent) = codes "LAYER LIMIT " ++ decimal l.limit ++ layer_text after silent
answer_text l (answer.TotalLimit after silent) = codes "TOTAL LIMIT 2000000" ++ layer_text after silent
