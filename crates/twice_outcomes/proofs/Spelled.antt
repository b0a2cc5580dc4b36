-- Terms that no text spells are alike where their parts are.
use Rattle.base_core.specs.declared.place.Place.{Place}
use Rattle.reading_trees.specs.declared.operators.PrefixOperator.TheVariants as prefix
use Rattle.reading_trees.specs.declared.operators.InfixOperator.TheVariants as infix_operator
use Rattle.names_terms.specs.declared.level.Level.TheVariants as levels
use Rattle.names_terms.specs.Terms as term
use Rattle.names_terms.specs.Terms.{Term}
use Rattle.twice_terms.specs.Alike.{placed_alike, prefix_alike, infix_alike, postfix_alike, first_alike, prime_alike, no_steps_alike}
use Rattle.eval_meanings.specs.Contexts.{Table}
use Rattle.eval_meanings.specs.Unchanged.{prime_of, unchanged_of, changed_of}
use Rattle.twice_outcomes.specs.Alikes.{AreAlikeTerms}

module _ (ops all : Table) where
  pub prime_alike_of : (at : Place) (e f : Term) → AreAlikeTerms ops all e f → AreAlikeTerms ops all (prime_of at e) (prime_of at f)
  prime_alike_of at e f a =
      placed_alike at levels.Action (term.Postfix e term.NoSteps term.Prime) (term.Postfix f term.NoSteps term.Prime)
      (postfix_alike e f term.NoSteps term.NoSteps term.Prime term.Prime a no_steps_alike prime_alike)

  pub unchanged_alike_of : (at : Place) (e f : Term) → AreAlikeTerms ops all e f → AreAlikeTerms ops all (unchanged_of at e) (unchanged_of at f)
  unchanged_alike_of at e f a = placed_alike at levels.Action (term.Prefix prefix.Unchanged e) (term.Prefix prefix.Unchanged f) (prefix_alike prefix.Unchanged e f a)

  pub changed_alike_of : (at : Place) (e f : Term) → AreAlikeTerms ops all e f → AreAlikeTerms ops all (changed_of at e) (changed_of at f)
  changed_alike_of at e f a =
      placed_alike at levels.Action (term.Infix infix_operator.NotEqual (term.First (prime_of at e)) e) (term.Infix infix_operator.NotEqual (term.First (prime_of at f)) f)
      (infix_alike infix_operator.NotEqual (term.First (prime_of at e)) (term.First (prime_of at f)) e f (first_alike (prime_of at e) (prime_of at f) (prime_alike_of at e f a)) a)
