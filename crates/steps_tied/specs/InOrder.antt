-- For the prover: the same over one order, where the relations are not looked into. Of a specification this is its `system`.
use Rattle.std.specs.Prelude.{◌≡◌, List, length, slice_get}
use Rattle.states_core.specs.States.{Values}
use Rattle.states_core.specs.System.{System}
use Rattle.logs_updates.specs.declared.line.Line.{Line}
use Rattle.steps_lines_defs.specs.Logs.{OfLine, place_of_line}
use Rattle.steps_tied.specs.Languages.{Language}

abbrev pub in_order : Language → List Line → System Values
in_order k lines = record {
  Init = k.Init;
  InitSeen = k.InitSeen;
  Step = λ n s t. OfLine lines n (λ l. k.Step l s t);
  Seen = λ n s t. OfLine lines n (λ l. k.Seen l t);
  Silent = k.Silent;
  FaultInit = k.FaultInit;
  FaultStep = λ n s t f. OfLine lines n (λ l. k.FaultStep l s t f);
  FaultSilent = k.FaultSilent;
  at = λ n s t. place_of_line (slice_get lines n);
  Expected = λ n s at. at ≡ place_of_line (slice_get lines n);
  state_of = λ s. s;
  count = length lines;
  within = k.within;
  limit = k.limit;
  total = k.total;
  assumes = k.assumes;
  IsAssumed = k.IsAssumed;
  FaultAssume = k.FaultAssume;
  IsFalse = k.IsFalse;
}
