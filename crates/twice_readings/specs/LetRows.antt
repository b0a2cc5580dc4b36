-- A specification beside which stands one without definitions that nothing means: laws. What resolving gives may have rows of definitions that have no name and are
-- of no LET, since a table stays one where such rows are added. Beside each stands a specification of the same program that has none of them, and differs from
-- it in nothing else but the numbers of definitions: so it has the same answers and the same verdicts.
use Rattle.std.specs.Prelude.{◌<◌, ◌^◌, ℕ, Bool, length, List, Ok, Option}
use Rattle.base_core.specs.Device.{File}
use Rattle.reading_trees.specs.declared.config.Config.{Config}
use Rattle.reading_trees.specs.declared.module.Program.{Program}
use Rattle.names_program.specs.InUnits.{definitions_in}
use Rattle.names_terms.specs.Lists.{terms_list}
use Rattle.names_terms.specs.declared.spec.Spec.{Spec}
use Rattle.names_specification.specs.Resolving.{ResolvedBy}
use Rattle.names_outcome_laws.specs.Lets.{EachIsOfOneLet}
use Rattle.names_outcome_laws.specs.Programs.{AllAreNamed, IsGiven}
use Rattle.logs_tied.specs.declared.logs.Lined.{Lined}
use Rattle.twice_tables.specs.Outcome.{AreAlike}
use Rattle.run_words.specs.declared.job.Job.{Job}
use Rattle.run_reading_defs.specs.Reaches.{AllRead}

-- The program comes to a specification that is alike to this one, and in whose table each definition without a name is one of a LET, and of one LET.
pub record HasOneOfLets (wide : Bool) (p : Program) (c : Config) (silent : Option (List ℕ)) (s : Spec) : Type 0 where
  pub spec : Spec
  pub resolved : ResolvedBy wide p c silent (Ok spec)
  pub alike : AreAlike s spec
  pub lets : EachIsOfOneLet spec.operators (terms_list spec.assumes)

-- each specification of a program whose definitions have names has such a one beside it
abbrev pub ResolvedHaveOneOfLets : Type 0
ResolvedHaveOneOfLets =
    (wide : Bool) (p : Program) (c : Config) (silent : Option (List ℕ)) (s : Spec) → IsGiven p c → AllAreNamed p → ResolvedBy wide p c silent (Ok s)
    → HasOneOfLets wide p c silent s

-- so has that of an accepted job, with no more definitions than a list in memory holds
abbrev pub AcceptedHaveOneOfLets : Type 0
AcceptedHaveOneOfLets =
    (holds : Option (List File)) (job : Job) (p : Program) (c : Config) (s : Spec) (lined : Lined) → length (definitions_in p.units) < 2 ^ 63 → AllRead holds job p c s lined
    → HasOneOfLets job.wide p c job.silent s
