-- A specification beside several logs, as the search over layers asks for it: a member of a layer is a cut of the logs with
-- a state, and a line may be taken that is ready at the cut.
use Rattle.std.specs.Prelude.{◌≡◌, ◌≤◌, ◌==◌, ℕ, suc, List, [], ◌∷◌, Option, Some, None, slice_get, if◌then◌else◌}
use Rattle.base_core.specs.declared.place.LineAt.{LineAt}
use Rattle.states_core.specs.States.{Values}
use Rattle.states_core.specs.System.{System}
use Rattle.names_terms.specs.declared.spec.Spec.{Spec}
use Rattle.base_clock_order.specs.declared.order.LineRef.{LineRef}
use Rattle.logs_updates.specs.declared.line.Line.{Line}
use Rattle.steps_lines_defs.specs.Logs.{Asked, place_of_line}
use Rattle.base_cuts.specs.Cuts.{Cut, next, total, with_one}
use Rattle.base_cuts.specs.Orders.{IsReadyAt, Order, sizes, start}
use Rattle.logs_tied.specs.Lines.{StandsIn}
use Rattle.logs_tied.specs.declared.logs.Logs.{Logs}
use Rattle.steps_tied.specs.Languages.{Language, language}

-- a cut of the logs with a state
pub record CutState : Type 0 where
  pub cut : Cut
  pub state : Values

-- A line of which the fact holds is taken from the one cut to the other: it is ready at the first, and the second has one
-- more line of its log.
pub record TakesLine (files : List (List Line)) (o : Order) (c d : Cut) (P : Line → Type 0) : Type 0 where
  pub place : LineRef
  pub ready : IsReadyAt o c place
  pub further : d ≡ with_one c place.file
  pub line : Line
  pub stands : StandsIn files place line
  pub holds : P line

-- the first log of which the cuts take different numbers of lines
abbrev pub moved : Cut → Cut → ℕ
moved [] d = 0
moved (m ∷ ms) [] = 0
moved (m ∷ ms) (n ∷ ns) = if m == n then suc (moved ms ns) else 0

-- the line of that number, if the log is there and has one
abbrev pub line_in : Option (List Line) → ℕ → Option Line
line_in None i = None
line_in (Some log) i = slice_get log i

abbrev pub line_at : List (List Line) → LineRef → Option Line
line_at files place = line_in (slice_get files place.file) place.index

-- it is the place of the first log's line among those that are ready
pub record IsFirstReady (files : List (List Line)) (o : Order) (c : Cut) (at : LineAt) : Type 0 where
  pub place : LineRef
  pub ready : IsReadyAt o c place
  pub first : (other : LineRef) → IsReadyAt o c other → place.file ≤ other.file
  pub line : Line
  pub stands : StandsIn files place line
  pub is : at ≡ line.at

abbrev pub by_cuts : Language → List (List Line) → Order → System CutState
by_cuts k files o = record {
  Init = λ e. (e.cut ≡ start o) × k.Init e.state;
  InitSeen = λ e. k.InitSeen e.state;
  Step = λ n e f. TakesLine files o e.cut f.cut (λ l. k.Step l e.state f.state);
  Seen = λ n e f. TakesLine files o e.cut f.cut (λ l. k.Seen l f.state);
  Silent = λ e f. (f.cut ≡ e.cut) × k.Silent e.state f.state;
  FaultInit = λ e f. (e.cut ≡ start o) × k.FaultInit e.state f;
  FaultStep = λ n e f x. TakesLine files o e.cut f.cut (λ l. k.FaultStep l e.state f.state x);
  FaultSilent = λ e f x. (f.cut ≡ e.cut) × k.FaultSilent e.state f.state x;
  at = λ n e f. place_of_line (line_at files (next e.cut (moved e.cut f.cut)));
  Expected = λ n e at. IsFirstReady files o e.cut at;
  state_of = λ e. e.state;
  count = total (sizes o);
  within = k.within;
  limit = k.limit;
  total = k.total;
  assumes = k.assumes;
  IsAssumed = k.IsAssumed;
  FaultAssume = k.FaultAssume;
  IsFalse = k.IsFalse;
}

-- what the specification is beside the logs, where so it is asked
abbrev pub tied_system : Spec → Logs → Asked → System CutState
tied_system g logs asked = by_cuts (language g logs.init asked) logs.files.items logs.order
