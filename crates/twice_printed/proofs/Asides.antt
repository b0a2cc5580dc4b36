-- What tells why is made of lines that are no states.
use Rattle.std.proofs.Common.{◌≡◌, sym, ap, subst, refl, ℕ, List, [], ◌∷◌, ◌++◌, Option, Some, None, All, append_assoc, codes}
use Rattle.std.proofs.lemmas.List.Elements.{All-head, All-tail}
use Rattle.serde_json.specs.Data.{object}
use Rattle.values_json.specs.Prints.{PrintsReadBack}
use Rattle.base_core.specs.declared.place.LineAt.{LineAt}
use Rattle.base_core.specs.declared.place.Place.{Place}
use Rattle.values_core.specs.FaultCodes.{eval_code}
use Rattle.values_core.specs.declared.fault.EvalKind.{EvalKind}
use Rattle.values_core.specs.declared.fault.EvalKind.TheVariants as eval
use Rattle.states_core.specs.States.{Values}
use Rattle.names_terms.specs.declared.spec.Spec.{Spec}
use Rattle.logs_updates.specs.declared.line.Line.{Line}
use Rattle.run_texts.specs.Answers.{Named, log_name}
use Rattle.run_texts.specs.Logs.{line_text}
use Rattle.run_texts.specs.Ordered.{OrderAscends}
use Rattle.run_texts.specs.Places.{name_at}
use Rattle.run_texts.specs.States.{state_text}
use Rattle.twice_printed.specs.StateFiles.{AreNames, AsidesReadBack, IsOneLine}
use Rattle.twice_printed.proofs.Feedless.{NoFeed, feedless, feedless-append, feedless-tested}
use Rattle.twice_printed.proofs.ShownData.{state_data, state_written}
use Rattle.twice_printed.proofs.StateData.{state_clean, state_given}
use Rattle.steps_why_branches.specs.declared.why.Why.{Why}
use Rattle.steps_why_branches.specs.declared.why.WhyKind.{WhyKind}
use Rattle.steps_why_branches.specs.declared.why.WhyKind.TheVariants as why
use Rattle.run_near_lines.specs.Texts.{place_behind}
use Rattle.run_why.specs.Lines.{entry_text, reason_text, why_more, why_text, whys_text}
use Rattle.run_why.specs.Tells.{Tells, entry_lines, is_cut, is_whole, no_entry_left, no_room_left}
use Rattle.twice_printed.specs.WhyLines.{AreOneLine, IsWhole, WhyReadsBack}
use Rattle.twice_printed.proofs.Lines.{AreAsides, at_feedless, feedless_is_one_line, line_aside, line_feedless, log_feedless, name_feedless, none_aside}

-- ---- lines without a line feed in them

code_feedless : (kind : EvalKind) → NoFeed (eval_code kind)
code_feedless eval.NotBoolean = feedless-tested (eval_code eval.NotBoolean) refl
code_feedless eval.NotInteger = feedless-tested (eval_code eval.NotInteger) refl
code_feedless eval.NotSet = feedless-tested (eval_code eval.NotSet) refl
code_feedless eval.NotFunction = feedless-tested (eval_code eval.NotFunction) refl
code_feedless eval.NotSequence = feedless-tested (eval_code eval.NotSequence) refl
code_feedless eval.OutsideDomain = feedless-tested (eval_code eval.OutsideDomain) refl
code_feedless eval.Overflow = feedless-tested (eval_code eval.Overflow) refl
code_feedless eval.BadDivisor = feedless-tested (eval_code eval.BadDivisor) refl
code_feedless eval.BadPower = feedless-tested (eval_code eval.BadPower) refl
code_feedless eval.NoChoice = feedless-tested (eval_code eval.NoChoice) refl
code_feedless eval.NoCase = feedless-tested (eval_code eval.NoCase) refl
code_feedless eval.EmptySequence = feedless-tested (eval_code eval.EmptySequence) refl
code_feedless eval.BadRange = feedless-tested (eval_code eval.BadRange) refl
code_feedless eval.TooLarge = feedless-tested (eval_code eval.TooLarge) refl
code_feedless eval.TooDeep = feedless-tested (eval_code eval.TooDeep) refl
code_feedless eval.Nested = feedless-tested (eval_code eval.Nested) refl
code_feedless eval.NotFinite = feedless-tested (eval_code eval.NotFinite) refl

reason_feedless : (names : List (List ℕ)) (k : WhyKind) → All IsOneLine names → NoFeed (reason_text names k)
reason_feedless names why.TestFalse h = feedless-tested (codes " TestFalse") refl
reason_feedless names (why.Differs x) h = feedless-append (codes " Differs ") (name_at names x.0) (feedless-tested (codes " Differs ") refl) (name_feedless names x.0 h)
reason_feedless names (why.NotIn x) h = feedless-append (codes " NotIn ") (name_at names x.0) (feedless-tested (codes " NotIn ") refl) (name_feedless names x.0 h)
reason_feedless names why.NoMember h = feedless-tested (codes " NoMember") refl
reason_feedless names (why.Fault kind) h = feedless-append (codes " Fault ") (eval_code kind) (feedless-tested (codes " Fault ") refl) (code_feedless kind)
reason_feedless names (why.NoUpdate x) h = feedless-append (codes " NoUpdate ") (name_at names x.0) (feedless-tested (codes " NoUpdate ") refl) (name_feedless names x.0 h)
reason_feedless names (why.NotSeen x) h = feedless-append (codes " NotSeen ") (name_at names x.0) (feedless-tested (codes " NotSeen ") refl) (name_feedless names x.0 h)

pub place_feedless : (files : List (List ℕ)) (at : Option Place) → All IsOneLine files → NoFeed (place_behind files at)
place_feedless files None h = tt
place_feedless files (Some at) h = at_feedless files at h

-- ---- what tells why, as lines

-- what begins with the word WHY
told_line : (body rest : List ℕ) → NoFeed body → AreAsides rest → AreAsides (((codes "WHY " ++ body) ++ codes "\n") ++ rest)
told_line body rest h more =
    let line = feedless-append (codes "WHY ") body (feedless-tested (codes "WHY ") refl) h in
    line_aside (codes "WHY " ++ body) rest line (feedless_is_one_line (codes "WHY " ++ body) line, refl) more

regrouped : (a b c d rest : List ℕ) → (a ++ b ++ c ++ d ++ codes "\n") ++ rest ≡ ((a ++ (b ++ c ++ d)) ++ codes "\n") ++ rest
regrouped a b c d rest = simp append_assoc

why_aside : (l : Named) (at : LineAt) (w : Why) (rest : List ℕ) → AreOneLine l → AreAsides rest → AreAsides (why_text l at w ++ rest)
why_aside l at w rest one more =
    let line = line_text (log_name l.logs at.file) at.line in
    let reason = reason_text l.variables w.reason in
    let place = place_behind l.files w.at in
    let feedless_line = line_feedless l.logs at one.logs in
    let body = feedless-append (line ++ reason) place (feedless-append line reason feedless_line (reason_feedless l.variables w.reason one.variables)) (place_feedless l.files w.at one.files) in
    subst AreAsides (sym (regrouped (codes "WHY ") line reason place rest)) (told_line (line ++ reason ++ place) rest body more)

whys_aside : (l : Named) (at : LineAt) (ws : List Why) (rest : List ℕ) → AreOneLine l → AreAsides rest → AreAsides (whys_text l at ws ++ rest)
whys_aside l at [] rest one more = more
whys_aside l at (w ∷ ws) rest one more =
    subst AreAsides (sym (append_assoc (why_text l at w) (whys_text l at ws) rest)) (why_aside l at w (whys_text l at ws ++ rest) one (whys_aside l at ws rest one more))

more_aside : AreAsides why_more
more_aside = told_line (codes "MORE") [] (feedless-tested (codes "MORE") refl) none_aside

state_line : (text rest : List ℕ) → (codes "WHY STATE " ++ text ++ codes "\n") ++ rest ≡ ((codes "WHY " ++ (codes "STATE " ++ text)) ++ codes "\n") ++ rest
state_line text rest = ap (λ (t : List ℕ). (t ++ codes "\n") ++ rest) (append_assoc (codes "WHY ") (codes "STATE ") text)

module _ (prints_back : PrintsReadBack) (order : OrderAscends) (g : Spec) (line : Line) (l : Named) (are : AreNames l.variables) (one : AreOneLine l) where
  state_feedless : (s : Values) → IsWhole l.variables s → NoFeed (state_text l.variables s)
  state_feedless s h =
      let given = state_given l.variables s are.differ are.texts h.whole h.values prints_back order in
      let clean = state_clean l.variables s are.differ are.texts h.whole h.values prints_back order in
      subst NoFeed (sym (state_written l.variables s given)) (feedless (object (state_data l.variables s)) clean)

  entry_aside : (s : Values) (rest : List ℕ) → IsWhole l.variables s → AreAsides rest → AreAsides (entry_text l s ++ rest)
  entry_aside s rest h more =
      let body = feedless-append (codes "STATE ") (state_text l.variables s) (feedless-tested (codes "STATE ") refl) (state_feedless s h) in
      subst AreAsides (sym (state_line (state_text l.variables s) rest)) (told_line (codes "STATE " ++ state_text l.variables s) rest body more)

  entry_lines_aside : (s : Values) (ws : List Why) (rest : List ℕ) → IsWhole l.variables s → AreAsides rest → AreAsides (entry_lines l line s ws ++ rest)
  entry_lines_aside s ws rest h more =
      subst AreAsides (sym (append_assoc (entry_text l s) (whys_text l line.at ws) rest)) (entry_aside s (whys_text l line.at ws ++ rest) h (whys_aside l line.at ws rest one more))

  pub tells_aside : (most : ℕ) (entries : List Values) (told : List ℕ) → All (IsWhole l.variables) entries → Tells g line l most entries told → AreAsides told
  tells_aside _ _ _ h (no_entry_left most) = none_aside
  tells_aside _ _ _ h (no_room_left s ss) = more_aside
  tells_aside _ _ _ h (is_cut most s ss ws are) = entry_lines_aside s ws why_more (All-head (IsWhole l.variables) s ss h) more_aside
  tells_aside _ _ _ h (is_whole most left s ss ws text are sum rest) =
      entry_lines_aside s ws text (All-head (IsWhole l.variables) s ss h) (tells_aside left ss text (All-tail (IsWhole l.variables) s ss h) rest)

pub log_one_line : (logs : List (List ℕ)) (file : ℕ) → All IsOneLine logs → IsOneLine (log_name logs file)
log_one_line logs file h = feedless_is_one_line (log_name logs file) (log_feedless logs file h)

pub why_reads_back : PrintsReadBack → OrderAscends → AsidesReadBack → WhyReadsBack
why_reads_back prints_back order back g line l prefix all most next behaviour entries told are shown unchecked one whole tells =
    let asides = tells_aside prints_back order g line l are one most entries told whole tells in
    let says = back l prefix all next behaviour asides.lines are shown unchecked (log_one_line l.logs next.file one.logs) asides.aside in
    rw (sym asides.is) at says
