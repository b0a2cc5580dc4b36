-- A report is read again as its behaviour, whatever is told behind it.
use Rattle.std.proofs.Common.{◌≡◌, ◌∙◌, sym, subst, refl, ℕ, List, [], ◌++◌, length, Option, Some, None, All, append_assoc, codes, decimal}
use Rattle.std.specs.List.{Contains}
use Rattle.std.proofs.lemmas.List.Elements.{All-contains_itself, All-weaker}
use Rattle.std.proofs.lemmas.List.Sorted.{All-permutation}
use Rattle.values_json.specs.Prints.{PrintsReadBack}
use Rattle.states_core.specs.Runs.{Run, go, start, wait}
use Rattle.states_core.specs.States.{Values}
use Rattle.states_core.specs.declared.state.Shown.{Shown}
use Rattle.names_terms.specs.declared.spec.Spec.{Spec}
use Rattle.logs_updates.specs.declared.line.Log.{Log}
use Rattle.steps_lines_defs.specs.Logs.{Asked, system}
use Rattle.steps_lines_defs.specs.Says.{IsState}
use Rattle.states_layers.specs.Gives.{IsReached}
use Rattle.run_texts.specs.Answers.{Named}
use Rattle.run_texts.specs.Ordered.{OrderAscends}
use Rattle.twice_printed.specs.StateFiles.{AreNames, AsidesReadBack}
use Rattle.twice_printed.proofs.Feedless.{feedless-append, feedless-decimal, feedless-tested}
use Rattle.run_why.specs.Reports.{IsAsked}
use Rattle.run_why.specs.Tells.{AreInOrder, TellsNears, TellsWhy}
use Rattle.run_why.specs.Within.{TellsWithin, reaches_all, reaches_more, within_text}
use Rattle.twice_printed.specs.WhyLines.{AreNamedInOneLine, AreOneLine, IsWhole, ReportReadsBack}
use Rattle.twice_printed.proofs.Asides.{log_one_line, tells_aside}
use Rattle.twice_printed.proofs.Lines.{AreAsides, both_aside, feedless_is_one_line, line_aside, none_aside}
use Rattle.twice_printed.proofs.NearAsides.{nears_aside}

-- what is reached is a state of the specification
run_state : (g : Spec) (log : Log) (a : Asked) (n j : ℕ) (s : Values) (w : List Shown) → Run (system g log a) n j s w → IsState (length g.variables) s
run_state g log a _ _ _ _ (start s init seen) = init.0
run_state g log a _ _ _ _ (wait n j s t w r left within step) = step.0
run_state g log a _ _ _ _ (go n j s t w r left step) = step.2.0

-- the line that tells where more steps would reach more
within_aside : (within : ℕ) → AreAsides (within_text within)
within_aside within =
    let first = feedless-append (codes "WITHIN ") (decimal within) (feedless-tested (codes "WITHIN ") refl) (feedless-decimal within) in
    let line = feedless-append (codes "WITHIN " ++ decimal within) (codes " REACHED") first (feedless-tested (codes " REACHED") refl) in
    let body = codes "WITHIN " ++ decimal within ++ codes " REACHED" in
    let is : (body ++ codes "\n") ++ [] ≡ within_text within = append_assoc body (codes "\n") [] ∙ append_assoc (codes "WITHIN " ++ decimal within) (codes " REACHED") (codes "\n") in
    subst AreAsides is (line_aside body [] line (feedless_is_one_line body line, refl) none_aside)

module _ (g : Spec) (log : Log) (a : Asked) (l : Named) (n : ℕ) (are : AreNames l.variables) (same : length l.variables ≡ length g.variables) (one : AreOneLine l)
    (named : AreNamedInOneLine g.operators) where
  -- what is reached has a value for each name
  is_whole : (s : Values) → IsReached (system g log a) n s → IsWhole l.variables s
  is_whole s reached =
      let state : IsState (length g.variables) s = run_state g log a n reached.0 s reached.1.states reached.1.run in
      record { whole = state.long ∙ sym same; values = state.values }

  all_whole : (entries : List Values) → AreInOrder (IsReached (system g log a) n) entries → All (IsWhole l.variables) entries
  all_whole entries h =
      All-permutation (IsWhole l.variables) h.listed entries h.same
      (All-weaker (Contains h.listed) (IsWhole l.variables) (λ s has. is_whole s (h.all.are.members s has)) h.listed (All-contains_itself h.listed))

  whys_aside : PrintsReadBack → OrderAscends → (why : Option ℕ) (text : List ℕ) → IsAsked why (TellsWhy g log a l n) text → AreAsides text
  whys_aside prints_back order None text is = subst AreAsides (sym is) none_aside
  whys_aside prints_back order (Some most) text tells = tells_aside prints_back order g tells.line l are one most tells.entries text (all_whole tells.entries tells.are) tells.told

  nears_told_aside : (near : Option ℕ) (text : List ℕ) → IsAsked near (TellsNears g log a l n) text → AreAsides text
  nears_told_aside None text is = subst AreAsides (sym is) none_aside
  nears_told_aside (Some most) text tells = nears_aside g tells.line l one named most tells.entries text tells.told

  one_within : (text : List ℕ) → TellsWithin g a (IsReached (system g log a) n) text → AreAsides text
  one_within _ (reaches_more more) = within_aside a.within
  one_within _ (reaches_all none) = none_aside

  withins_aside : (near : Option ℕ) (text : List ℕ) → IsAsked near (λ most. TellsWithin g a (IsReached (system g log a) n)) text → AreAsides text
  withins_aside None text is = subst AreAsides (sym is) none_aside
  withins_aside (Some most) text tells = one_within text tells

pub report_reads_back : PrintsReadBack → OrderAscends → AsidesReadBack → ReportReadsBack
report_reads_back prints_back order back g log a l why near prefix all next behaviour report are same shown unchecked one named told =
    let whys = whys_aside g log a l prefix are same one named prints_back order why told.whys told.why_told in
    let nears = nears_told_aside g log a l prefix are same one named near told.nears told.near_told in
    let withins = withins_aside g log a l prefix are same one named near told.withins told.within_told in
    let asides = both_aside told.whys (told.nears ++ told.withins) whys (both_aside told.nears told.withins nears withins) in
    let says = back l prefix all next behaviour asides.lines are shown unchecked (log_one_line l.logs next.file one.logs) asides.aside in
    rw (told.is, asides.is) says
