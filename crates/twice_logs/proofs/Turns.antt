-- Saying the same goes both ways.
use Rattle.std.proofs.Common.{sym}
use Rattle.std.specs.Prelude.{◌↔◌}
use Rattle.states_core.specs.System.{System}
use Rattle.states_verdicts.specs.Asks.{PairAsks}
use Rattle.twice_logs.specs.Same.{AskSame, SaySame}

pub back : {A B : Type 0} → A ↔ B → B ↔ A
back e = (e.1, e.0)

pub turned : {A : Type 0} (y z : System A) → SaySame y z → SaySame z y
turned y z same = record {
  init = λ s. back (same.init s);
  init_seen = λ s. back (same.init_seen s);
  step = λ n s t. back (same.step n s t);
  seen = λ n s t. back (same.seen n s t);
  silent = λ s t. back (same.silent s t);
  fault_init = λ s f. back (same.fault_init s f);
  fault_step = λ n s t f. back (same.fault_step n s t f);
  fault_silent = λ s t f. back (same.fault_silent s t f);
  at = λ n s t. sym (same.at n s t);
  expected = λ n s at. back (same.expected n s at);
  state_of = λ s. sym (same.state_of s);
  count = sym same.count;
  within = sym same.within;
  limit = sym same.limit;
  total = sym same.total;
  assumes = sym same.assumes;
  assumed = λ k. back (same.assumed k);
  fault_assume = λ k f. back (same.fault_assume k f);
  is_false = λ k at. back (same.is_false k at);
}

pub asked_back : (a b : PairAsks) → AskSame a b → AskSame b a
asked_back a b same = record {
  systems = turned a.system b.system same.systems;
  moves = λ n s t. back (same.moves n s t);
  acts = λ n s t. back (same.acts n s t);
  stutters = λ n. back (same.stutters n);
  fault_init = λ t f. back (same.fault_init t f);
  fault_acts = λ n s t f. back (same.fault_acts n s t f);
  fault_silent = λ s t f. back (same.fault_silent s t f);
}
