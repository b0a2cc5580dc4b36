-- The report of a behaviour is read as its states: the lines before them are passed over.
use Rattle.std.proofs.Common.{◌≡◌, ◌≢◌, ℕ, ◌+◌, List, [], ◌∷◌, ◌++◌, Bool, true, false, MatchBool, Result, Ok, refl, sym, subst, All, append_assoc, codes, decimal, ne_eqb, true≢false, append-nil}
use Rattle.std.proofs.lemmas.List.Elements.{All-head, All-nil, All-tail, recursion_from_All}
use Rattle.std.specs.List.{AllByRecursion}
use Rattle.values_json.specs.Prints.{PrintsReadBack}
use Rattle.states_core.specs.declared.state.Shown.{Shown}
use Rattle.states_files.specs.Files.{StateFileSays, StateLinesSay, pieces_of}
use Rattle.states_files.specs.Lines.{is_shown}
use Rattle.states_files.specs.declared.refusal.StateRefusal.{StateRefusal}
use Rattle.run_texts.specs.Answers.{Named, answer_text, log_name, unchecked_text}
use Rattle.run_texts.specs.States.{states_text}
use Rattle.run_texts.specs.Ordered.{OrderAscends}
use Rattle.states_layers.specs.declared.answer.Answer.TheVariants.{Explained, NotExplained}
use Rattle.twice_printed.specs.StateFiles.{AreNames, AsidesReadBack, ExplainedReadsBack, IsAside, IsOneLine, IsShown, NotExplainedReadsBack, asides_text}
use Rattle.twice_printed.proofs.Feedless.{NoFeed, feedless-append, feedless-decimal, feedless-tested, first_piece}
use Rattle.twice_printed.proofs.FileSays.{lines_lead}

pub one_line : (text : List ℕ) → IsOneLine text → NoFeed text
one_line text h = each text (recursion_from_All (λ b. b ≢ 10) text h)
  where
    each : (bs : List ℕ) → AllByRecursion (λ b. b ≢ 10) bs → NoFeed bs
    each [] h = tt
    each (b ∷ bs) h = (ne_eqb b 10 h.0, each bs h.1)

otherwise : (A B : Type 0) (b : Bool) → b ≡ false → B → MatchBool b A B
otherwise A B true e h = absurd (true≢false e)
otherwise A B false e h = h

-- a line that does not begin with { is passed over
pub passed_over : (names : List (List ℕ)) (number : ℕ) (found : List Shown) (line rest : List ℕ) (r : Result (List Shown) StateRefusal) → NoFeed line → is_shown line ≡ false
    → StateLinesSay names (number + 1) found (pieces_of rest) r → StateLinesSay names number found (pieces_of (line ++ 10 ∷ rest)) r
passed_over names number found line rest r h e more =
    subst (λ (ps : List (List ℕ)). StateLinesSay names number found ps r) (sym (first_piece line rest h)) (_, otherwise _ _ (is_shown line) e refl, more)

-- the line feed behind a line of some parts, and what follows
line_first : (a w b u t : List ℕ) → (((a ++ w) ++ b) ++ u) ++ t ≡ (a ++ w) ++ (b ++ (u ++ t))
line_first a w b u t = simp append_assoc

-- lines that are no states say no states
pub asides_say : (names : List (List ℕ)) (found : List Shown) (lines : List (List ℕ)) → All IsAside lines → (number : ℕ) → StateLinesSay names number found (pieces_of (asides_text lines)) (Ok found)
asides_say names found [] h number = (_, refl, refl)
asides_say names found (w ∷ ws) h number =
    let one = All-head IsAside w ws h in
    passed_over names number found w (asides_text ws) (Ok found) (one_line w one.0) one.1 (asides_say names found ws (All-tail IsAside w ws h) (number + 1))

module _ (prints_back : PrintsReadBack) (order : OrderAscends) (l : Named) (are : AreNames l.variables) (behaviour : List Shown) (shown : All (IsShown l.variables) behaviour)
    (asides : List (List ℕ)) (aside : All IsAside asides) where
  -- the states, and what stands behind them
  abbrev states_and : List ℕ
  states_and = states_text l.variables behaviour ++ asides_text asides

  unchecked_say : (number : ℕ) (ws : List (List ℕ)) → All IsOneLine ws → StateLinesSay l.variables number [] (pieces_of (unchecked_text ws ++ states_and)) (Ok behaviour)
  unchecked_say number [] h = lines_lead prints_back order l.variables are behaviour [] (asides_text asides) number shown (asides_say l.variables behaviour asides aside)
  unchecked_say number (w ∷ ws) h =
      let line = feedless-append (codes "NOT CHECKED ") w (feedless-tested (codes "NOT CHECKED ") refl) (one_line w (All-head IsOneLine w ws h)) in
      subst (λ (text : List ℕ). StateLinesSay l.variables number [] (pieces_of text) (Ok behaviour))
      (sym (line_first (codes "NOT CHECKED ") w (codes "\n") (unchecked_text ws) states_and))
      (passed_over l.variables number [] (codes "NOT CHECKED " ++ w) (unchecked_text ws ++ states_and) (Ok behaviour) line refl
      (unchecked_say (number + 1) ws (All-tail IsOneLine w ws h)))

  -- a first line, and what follows it
  headed : (a w : List ℕ) → All IsOneLine l.unchecked → NoFeed a → NoFeed w → is_shown (a ++ w) ≡ false
      → StateFileSays l.variables (((((a ++ w) ++ codes "\n") ++ unchecked_text l.unchecked) ++ states_text l.variables behaviour) ++ asides_text asides) (Ok behaviour)
  headed a w lines h k e =
      let head = ((a ++ w) ++ codes "\n") ++ unchecked_text l.unchecked in
      subst (λ (text : List ℕ). StateFileSays l.variables text (Ok behaviour)) (sym (append_assoc head (states_text l.variables behaviour) (asides_text asides)))
      (subst (λ (text : List ℕ). StateFileSays l.variables text (Ok behaviour)) (sym (line_first a w (codes "\n") (unchecked_text l.unchecked) states_and))
      (passed_over l.variables 1 [] (a ++ w) (unchecked_text l.unchecked ++ states_and) (Ok behaviour) (feedless-append a w h k) e (unchecked_say (1 + 1) l.unchecked lines)))

-- nothing behind a text
alone : (names : List (List ℕ)) (text : List ℕ) (states : List Shown) → StateFileSays names (text ++ asides_text []) (Ok states) → StateFileSays names text (Ok states)
alone names text states says = subst (λ (t : List ℕ). StateFileSays names t (Ok states)) (append-nil text) says

pub explained_reads_back : PrintsReadBack → OrderAscends → ExplainedReadsBack
explained_reads_back prints_back order l behaviour widest are shown lines =
    let feedless = feedless-append (codes "EXPLAINED lines=" ++ decimal l.lines) (codes " widest=")
    (feedless-append (codes "EXPLAINED lines=") (decimal l.lines) (feedless-tested (codes "EXPLAINED lines=") refl) (feedless-decimal l.lines)) (feedless-tested (codes " widest=") refl) in
    alone l.variables (answer_text l (Explained behaviour widest)) behaviour
    (headed prints_back order l are behaviour shown [] (All-nil IsAside) (codes "EXPLAINED lines=" ++ decimal l.lines ++ codes " widest=") (decimal widest) lines feedless (feedless-decimal widest) refl)

pub asides_read_back : PrintsReadBack → OrderAscends → AsidesReadBack
asides_read_back prints_back order l prefix all next behaviour asides are shown lines log aside =
    let counts = feedless-append (codes "NOT EXPLAINED prefix=" ++ decimal prefix ++ codes " of=") (decimal all)
    (feedless-append (codes "NOT EXPLAINED prefix=" ++ decimal prefix) (codes " of=")
    (feedless-append (codes "NOT EXPLAINED prefix=") (decimal prefix) (feedless-tested (codes "NOT EXPLAINED prefix=") refl) (feedless-decimal prefix)) (feedless-tested (codes " of=") refl)) (feedless-decimal all) in
    let place = feedless-append (log_name l.logs next.file ++ codes ":") (decimal next.line)
    (feedless-append (log_name l.logs next.file) (codes ":") (one_line (log_name l.logs next.file) log) (feedless-tested (codes ":") refl)) (feedless-decimal next.line) in
    headed prints_back order l are behaviour shown asides aside (codes "NOT EXPLAINED prefix=" ++ decimal prefix ++ codes " of=" ++ decimal all) (codes " next=" ++ (log_name l.logs next.file ++ codes ":" ++ decimal next.line)) lines counts
    (feedless-append (codes " next=") (log_name l.logs next.file ++ codes ":" ++ decimal next.line) (feedless-tested (codes " next=") refl) place) refl

pub not_explained_reads_back : PrintsReadBack → OrderAscends → NotExplainedReadsBack
not_explained_reads_back prints_back order l prefix all next behaviour are shown lines log =
    alone l.variables (answer_text l (NotExplained prefix all next behaviour)) behaviour
    (asides_read_back prints_back order l prefix all next behaviour [] are shown lines log (All-nil IsAside))
