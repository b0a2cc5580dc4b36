-- Printed states are read again as the same states.
use Rattle.std.proofs.Common.{◌≡◌, ℕ, ◌+◌, List, [], ◌∷◌, ◌++◌, inl, inr, Result, Ok, refl, sym, ap, ◌∙◌, subst, true≢false, All, append_assoc, append-nil}
use Rattle.std.proofs.lemmas.List.Elements.{All-head, All-tail}
use Rattle.serde_json.specs.Data.{object}
use Rattle.serde_json.specs.Written.{compact_text}
use Rattle.values_json.specs.Prints.{PrintsReadBack}
use Rattle.states_core.specs.declared.state.Shown.{Shown}
use Rattle.states_files.specs.Fields.{LineFields}
use Rattle.states_files.specs.Files.{StateLinesSay, pieces_of}
use Rattle.states_files.specs.Lines.{FieldsSay, StateLineSays, StateSays, ValuesSay}
use Rattle.run_texts.specs.States.{before_text, behind_text, state_text, states_text}
use Rattle.run_texts.specs.Ordered.{OrderAscends}
use Rattle.twice_printed.specs.StateFiles.{AreNames, IsShown, StatesReadBack}
use Rattle.twice_printed.proofs.CleanData.{IsClean, read_back, utf8_printed}
use Rattle.twice_printed.proofs.Feedless.{feedless, first_piece}
use Rattle.twice_printed.proofs.LineData.{fields_back, line_clean, line_low, line_written}
use Rattle.twice_printed.proofs.ShownData.{line_data, state_data}
use Rattle.twice_printed.proofs.StateData.{state_clean, state_given, state_known, state_low, state_reads, state_there}

module _ (prints_back : PrintsReadBack) (order : OrderAscends) (names : List (List ℕ)) (are : AreNames names) where
  abbrev line_of : Shown → List ℕ
  line_of s = compact_text (object (line_data names s.mark s.state))

  object_clean : (s : Shown) → IsShown names s → IsClean (object (line_data names s.mark s.state))
  object_clean s h = line_clean names s.mark s.state h.mark (state_clean names s.state are.differ are.texts h.whole h.values prints_back order)

  values_said : (s : Shown) (o : _) → IsShown names s → ValuesSay names s.mark (state_data names s.state) o → StateSays names s.mark (state_data names s.state) o
  values_said s o h says =
      inr (
        λ f. true≢false (sym (state_known names s.state are.differ are.texts h.whole h.values prints_back order) ∙ f),
        inr (λ f. true≢false (sym (state_there names s.state are.differ are.texts h.whole h.values prints_back order) ∙ f), says),
      )

  -- what the values say, the line of the state says
  line_said : (s : Shown) (o : _) → IsShown names s → StateSays names s.mark (state_data names s.state) o → StateLineSays names (line_of s) o
  line_said s o h says =
      let deep = line_low names s.mark s.state (state_low names s.state are.differ are.texts h.whole h.values prints_back order) in
      inl (
        line_data names s.mark s.state,
        (utf8_printed (object (line_data names s.mark s.state)) (object_clean s h), read_back (object (line_data names s.mark s.state)) (object_clean s h) deep),
        subst (λ (r : Result LineFields (List ℕ)). FieldsSay names r o) (sym (fields_back names s.mark s.state h.mark)) says,
      )

  -- what other lines say behind them
  abbrev pub SayBehind : List Shown → List ℕ → Type 0
  SayBehind found text = (number : ℕ) → StateLinesSay names number found (pieces_of text) (Ok found)

  -- the lines of states say these states, behind those that were found, where what follows says no more
  pub lines_lead : (states found : List Shown) (text : List ℕ) (number : ℕ) → All (IsShown names) states → SayBehind (found ++ states) text
      → StateLinesSay names number found (pieces_of (states_text names states ++ text)) (Ok (found ++ states))
  lines_lead [] found text number h behind =
      subst (λ (all : List Shown). StateLinesSay names number found (pieces_of text) (Ok all)) (sym (append-nil found)) (subst (λ (all : List Shown). SayBehind all text) (append-nil found) behind number)
  lines_lead (s ∷ states) found text number h behind =
      let one : IsShown names s = All-head (IsShown names) s states h in
      let more = states_text names states ++ text in
      let joined : states_text names (s ∷ states) ++ text ≡ before_text s.mark ++ state_text names s.state ++ behind_text s.mark ++ more =
      append_assoc (before_text s.mark ++ state_text names s.state ++ behind_text s.mark) (states_text names states) text in
      let written = line_written names s.mark s.state more (state_given names s.state are.differ are.texts one.whole one.values prints_back order) in
      let values = state_reads names s.state are.differ are.texts one.whole one.values prints_back order in
      let cut : pieces_of (states_text names (s ∷ states) ++ text) ≡ line_of s ∷ pieces_of more =
      ap pieces_of (joined ∙ written) ∙ first_piece (line_of s) more (feedless (object (line_data names s.mark s.state)) (object_clean s one)) in
      let moved = append_assoc found (s ∷ []) states in
      let rest = subst (λ (all : List Shown). StateLinesSay names (number + 1) (found ++ s ∷ []) (pieces_of more) (Ok all)) moved
      (lines_lead states (found ++ s ∷ []) text (number + 1) (All-tail (IsShown names) s states h) (subst (λ (all : List Shown). SayBehind all text) (sym moved) behind)) in
      subst (λ (ps : List (List ℕ)). StateLinesSay names number found ps (Ok (found ++ s ∷ states))) (sym cut) (_, line_said s _ one (values_said s _ one (inl (s.state, values, refl))), rest)

  -- so where nothing follows
  pub lines_say : (states found : List Shown) (number : ℕ) → All (IsShown names) states → StateLinesSay names number found (pieces_of (states_text names states)) (Ok (found ++ states))
  lines_say states found number h =
      subst (λ (text : List ℕ). StateLinesSay names number found (pieces_of text) (Ok (found ++ states))) (append-nil (states_text names states))
      (lines_lead states found [] number h (λ k. (_, refl, refl)))

pub states_read_back : PrintsReadBack → OrderAscends → StatesReadBack
states_read_back prints_back order names states are shown = lines_say prints_back order names are states [] 1 shown
