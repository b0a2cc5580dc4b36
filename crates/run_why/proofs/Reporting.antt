-- From an answer to its report.
use Rattle.std.proofs.Common.{◌≡◌, ◌∙◌, sym, subst, refl, ℕ, List, [], append-nil, Option, None, Result, Ok, Err, IfOk, string_bytes}
use Rattle.std.specs.Prelude.{String}
use Rattle.std.specs.declared.alloc.AllocError.{AllocError}
use Rattle.std.specs.declared.alloc.Global.{Global}
use Rattle.states_core.specs.States.{Values}
use Rattle.names_terms.specs.declared.spec.Spec.{Spec}
use Rattle.logs_updates.specs.declared.line.Log.{Log}
use Rattle.steps_lines_defs.specs.Logs.{Asked, system}
use Rattle.states_layers.specs.Answers.{IsAnswer}
use Rattle.states_layers.specs.Last.{AreLast}
use Rattle.states_layers.specs.declared.answer.Answer.{Answer}
use Rattle.states_layers.specs.declared.answer.Answer.TheVariants.{Explained, NotExplained, NoInitial, InitFault, Fault, AssumeFault, AssumeFalse, LayerLimit, TotalLimit}
use Rattle.run_texts.specs.Answers.{Named, answer_text}
use Rattle.run_why.specs.Ends.{EndsAt, IsPlain, IsPrefix}
use Rattle.run_why.specs.Reports.{IsReport, IsToldBehind}

plain_report : (g : Spec) (log : Log) (a : Asked) (l : Named) (why near : Option ℕ) (answer : Answer) (report : List ℕ) → IsPlain answer → report ≡ answer_text l answer
    → IsReport g log a l why near answer report
plain_report g log a l why near (Explained w widest) report plain is = is
plain_report g log a l why near (NotExplained m of after w) report plain is = absurd plain
plain_report g log a l why near NoInitial report plain is = is
plain_report g log a l why near (InitFault kind at) report plain is = is
plain_report g log a l why near (Fault after silent s kind at) report plain is = is
plain_report g log a l why near (AssumeFault kind at) report plain is = is
plain_report g log a l why near (AssumeFalse at) report plain is = is
plain_report g log a l why near (LayerLimit after silent) report plain is = is
plain_report g log a l why near (TotalLimit after silent) report plain is = is

nothing_behind : (g : Spec) (log : Log) (a : Asked) (l : Named) (n : ℕ) (front report : List ℕ) → report ≡ front → IsToldBehind g log a l n None None front report
nothing_behind g log a l n front report is = record { whys = []; nears = []; withins = []; why_told = refl; near_told = refl; within_told = refl; is = is ∙ sym (append-nil front) }

-- where nothing is asked for, each report is that of its answer alone
pub unasked_report : (g : Spec) (log : Log) (a : Asked) (l : Named) (answer : Answer) (report : List ℕ) → report ≡ answer_text l answer → IsReport g log a l None None answer report
unasked_report g log a l (Explained w widest) report is = is
unasked_report g log a l (NotExplained m of after w) report is = nothing_behind g log a l m (answer_text l (NotExplained m of after w)) report is
unasked_report g log a l NoInitial report is = is
unasked_report g log a l (InitFault kind at) report is = is
unasked_report g log a l (Fault after silent s kind at) report is = is
unasked_report g log a l (AssumeFault kind at) report is = is
unasked_report g log a l (AssumeFalse at) report is = is
unasked_report g log a l (LayerLimit after silent) report is = is
unasked_report g log a l (TotalLimit after silent) report is = is

told_report : (g : Spec) (log : Log) (a : Asked) (l : Named) (why near : Option ℕ) (n : ℕ) (answer : Answer) (report : List ℕ) → IsPrefix answer n
    → IsToldBehind g log a l n why near (answer_text l answer) report → IsReport g log a l why near answer report
told_report g log a l why near n (Explained w widest) report is told = absurd is
told_report g log a l why near n (NotExplained m of after w) report is told = subst (λ (k : ℕ). IsToldBehind g log a l k why near (answer_text l (NotExplained m of after w)) report) is told
told_report g log a l why near n NoInitial report is told = absurd is
told_report g log a l why near n (InitFault kind at) report is told = absurd is
told_report g log a l why near n (Fault after silent s kind at) report is told = absurd is
told_report g log a l why near n (AssumeFault kind at) report is told = absurd is
told_report g log a l why near n (AssumeFalse at) report is told = absurd is
told_report g log a l why near n (LayerLimit after silent) report is told = absurd is
told_report g log a l why near n (TotalLimit after silent) report is told = absurd is

pub reported : (g : Spec) (log : Log) (a : Asked) (l : Named) (why near : Option ℕ) (n : ℕ) (answer : Answer) (r : Result (String Global) AllocError) → IsPrefix answer n
    → IfOk r (λ whole. IsToldBehind g log a l n why near (answer_text l answer) (string_bytes whole))
    → IfOk r (λ whole. IsReport g log a l why near answer (string_bytes whole))
reported g log a l why near n answer (Ok whole) is told = told_report g log a l why near n answer (string_bytes whole) is told
reported g log a l why near n answer (Err e) is told = tt

pub reported_alone : (g : Spec) (log : Log) (a : Asked) (l : Named) (why near : Option ℕ) (answer : Answer) (r : Result (String Global) AllocError) → IsPlain answer
    → IfOk r (λ whole. string_bytes whole ≡ answer_text l answer) → IfOk r (λ whole. IsReport g log a l why near answer (string_bytes whole))
reported_alone g log a l why near answer (Ok whole) plain is = plain_report g log a l why near answer (string_bytes whole) plain is
reported_alone g log a l why near answer (Err e) plain is = tt

pub ends_at : (g : Spec) (log : Log) (a : Asked) (n : ℕ) (answer : Answer) (last : List Values) → IsPrefix answer n → IsAnswer (system g log a) answer
    → AreLast (system g log a) answer last → EndsAt g log a n last
ends_at g log a n (NotExplained m of after w) last is true_is are =
    subst (λ (k : ℕ). EndsAt g log a k last) (sym is) (record { left = true_is.1.some_left; none = true_is.1.no_more; all = are })
ends_at g log a n (Explained w widest) last is true_is are = absurd is
ends_at g log a n NoInitial last is true_is are = absurd is
ends_at g log a n (InitFault kind at) last is true_is are = absurd is
ends_at g log a n (Fault after silent s kind at) last is true_is are = absurd is
ends_at g log a n (AssumeFault kind at) last is true_is are = absurd is
ends_at g log a n (AssumeFalse at) last is true_is are = absurd is
ends_at g log a n (LayerLimit after silent) last is true_is are = absurd is
ends_at g log a n (TotalLimit after silent) last is true_is are = absurd is
