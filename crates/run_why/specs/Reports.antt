-- The report of an answer, with what is told behind it.
use Rattle.std.specs.Prelude.{◌≡◌, ℕ, List, [], ◌++◌, Option, Some, None}
use Rattle.names_terms.specs.declared.spec.Spec.{Spec}
use Rattle.logs_updates.specs.declared.line.Log.{Log}
use Rattle.steps_lines_defs.specs.Logs.{Asked, system}
use Rattle.states_layers.specs.Gives.{IsReached}
use Rattle.states_layers.specs.declared.answer.Answer.{Answer}
use Rattle.states_layers.specs.declared.answer.Answer.TheVariants.{NotExplained}
use Rattle.run_texts.specs.Answers.{Named, answer_text}
use Rattle.run_why.specs.Tells.{TellsNears, TellsWhy}
use Rattle.run_why.specs.Within.{TellsWithin}

-- the text is told where it is asked for, with at most so much; else nothing is
abbrev pub IsAsked : Option ℕ → (ℕ → List ℕ → Type 0) → List ℕ → Type 0
IsAsked None Tells text = text ≡ []
IsAsked (Some most) Tells text = Tells most text

-- The report, behind it why not more than n lines are explained, and behind that the near lines, each where it is asked for. Behind the near lines it is told
-- where one more silent step would reach more.
pub record IsToldBehind (g : Spec) (log : Log) (a : Asked) (l : Named) (n : ℕ) (why near : Option ℕ) (front report : List ℕ) : Type 0 where
  pub whys : List ℕ
  pub nears : List ℕ
  pub withins : List ℕ
  pub why_told : IsAsked why (TellsWhy g log a l n) whys
  pub near_told : IsAsked near (TellsNears g log a l n) nears
  pub within_told : IsAsked near (λ most. TellsWithin g a (IsReached (system g log a) n)) withins
  pub is : report ≡ front ++ (whys ++ (nears ++ withins))

-- Of an answer this is the report. Only where some of the lines are explained and not all, what is asked for is told behind it.
abbrev pub IsReport : Spec → Log → Asked → Named → Option ℕ → Option ℕ → Answer → List ℕ → Type 0
IsReport g log a l why near (NotExplained n of after w) report = IsToldBehind g log a l n why near (answer_text l (NotExplained n of after w)) report
IsReport g log a l why near answer report = report ≡ answer_text l answer
