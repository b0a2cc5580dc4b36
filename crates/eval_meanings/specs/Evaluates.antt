-- The value of a term, or its fault with the place, where at most d evaluations stand inside one another; and the set that it describes. Each
-- part of a term has one evaluation less, and with none left the term is nested too deep.
use Rattle.std.specs.Prelude.{ℕ, zero, suc}
use Rattle.values_core.specs.declared.fault.EvalKind.TheVariants.{Nested}
use Rattle.names_terms.specs.Terms.{Placed, place_of}
use Rattle.eval_meanings.specs.Outcomes.{Fails}
use Rattle.eval_meanings.specs.Contexts.{Table, Evaluate, Describe}
use Rattle.eval_meanings.specs.Meanings.{MeaningEvaluates, MeaningDescribes}

-- how many evaluations may stand inside one another
abbrev pub max_evaluations : ℕ
max_evaluations = 400

abbrev mutual
  pub Evaluates : Table → ℕ → Evaluate
  Evaluates ops zero c e r = Fails Nested (place_of e) r
  Evaluates ops (suc d) c (Placed at l m) r = MeaningEvaluates ops (Evaluates ops d) (Describes ops d) c at m r

  -- a term that is no described set is the set that is listed as its value, which may be no set at all: whoever asks tests it
  pub Describes : Table → ℕ → Describe
  Describes ops zero c e r = Fails Nested (place_of e) r
  Describes ops (suc d) c (Placed at l m) r = MeaningDescribes ops (Evaluates ops d) (Describes ops d) c at m r
