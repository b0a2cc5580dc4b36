-- A specification of a program without rows that nothing means: the outcome that it has, which is one.
use Rattle.std.proofs.Common.{sym, subst, ℕ, List, [], length, Option, Result, Ok, Err, inl, inr, ◌<◌}
use Rattle.std.specs.Prelude.{◌⊎◌, ◌^◌, Bool, IfOk}
use Rattle.base_core.specs.Device.{File}
use Rattle.reading_trees.specs.declared.config.Config.{Config}
use Rattle.reading_trees.specs.declared.config.GivenAt.{GivenAt}
use Rattle.reading_trees.specs.declared.module.Program.{Program}
use Rattle.reading_trees.specs.declared.module.WholeProgram.{WholeProgram}
use Rattle.names_program.specs.InUnits.{definitions_in}
use Rattle.names_terms.specs.Lists.{terms_list}
use Rattle.names_terms.specs.declared.spec.Spec.{Spec}
use Rattle.names_tables.specs.Values.{AreSpelled}
use Rattle.names_resolving.specs.Resolved.{IsOneForm}
use Rattle.names_resolving.specs.declared.fault.ResolveFault.{ResolveFault}
use Rattle.names_specification.specs.Resolving.{ResolvedBy}
use Rattle.names_resolved_laws.specs.InOrder.{IsWellFormed}
use Rattle.names_load_laws.specs.Loaded.{ConfigurationsAreSpelled, ConfigurationsHaveOneForm, PlainHasOneForm, PlainIsSpelled}
use Rattle.names_expanded_laws.specs.Expansion.{ExpandedAreWellFormed}
use Rattle.names_outcome_laws.specs.Lets.{EachIsOfOneLet}
use Rattle.names_outcome_laws.specs.Programs.{HasOutcomeOfLets, IsGiven, NamedProgramsHaveOne}
use Rattle.twice_tables.specs.OneOutcome.{HasOneOutcome}
use Rattle.run_wide.specs.Laws.{PassedAreWellFormed, PassedHaveOneForm}
use Rattle.run_words.specs.declared.job.Job.{Job}
use Rattle.run_reading_defs.specs.Reaches.{Reaches, configured}
use Rattle.twice_readings.specs.LetRows.{AcceptedHaveOneOfLets, HasOneOfLets, ResolvedHaveOneOfLets}
use Rattle.twice_readings.proofs.GivenPlaces.{passed_stays}
use Rattle.twice_readings.proofs.Outcomes.{one_outcome_by}
use Rattle.twice_readings.proofs.Stages.{ConfiguredBy, LoadedBy, WithText, WithoutText, configured_by, given_by, loaded_by, logged_from, resolved_by}

-- what is known of programs and configurations
pub record KnownOfLets : Type 0 where
  pub lets : NamedProgramsHaveOne
  pub outcome : HasOneOutcome
  pub well_formed : ExpandedAreWellFormed
  pub passed : PassedAreWellFormed
  pub passed_form : PassedHaveOneForm
  pub form : ConfigurationsHaveOneForm
  pub plain_form : PlainHasOneForm
  pub spelled : ConfigurationsAreSpelled
  pub plain_spelled : PlainIsSpelled

module _ (known : KnownOfLets) where
  -- an outcome beside a specification is one that is alike to it
  by_outcome : (wide : Bool) (p : Program) (c : Config) (silent : Option (List ℕ)) (s : Spec) → IsOneForm c → ResolvedBy wide p c silent (Ok s) → (r : Result Spec ResolveFault)
      → ResolvedBy wide p c silent r → IfOk r (λ t. EachIsOfOneLet t.operators (terms_list t.assumes)) → HasOneOfLets wide p c silent s
  by_outcome wide p c silent s form is (Ok t) other lets =
      record { spec = t; resolved = other; alike = one_outcome_by known.outcome wide p c silent form (Ok s) (Ok t) is other; lets = lets }
  by_outcome wide p c silent s form is (Err f) other lets = absurd (one_outcome_by known.outcome wide p c silent form (Ok s) (Err f) is other)

  resolved_one : ResolvedHaveOneOfLets
  resolved_one wide p c silent s g named is =
      let o : HasOutcomeOfLets wide p c silent = known.lets wide p c silent g named in
      by_outcome wide p c silent s g.form is o.0 o.2 o.3

  module _ (holds : Option (List File)) (job : Job) where
    abbrev Given : WholeProgram → Config → Type 0
    Given w c = WithoutText holds job c ⊎ WithText holds job w c

    given_form : (w : WholeProgram) (c : Config) → Given w c → IsOneForm c
    given_form w c (inl a) = subst (λ (x : Config). IsOneForm x) (sym a.1) known.plain_form
    given_form w c (inr a) = known.form job.wide (length w.program.files) a.0 a.1 c a.4

    given_spelled : (w : WholeProgram) (c : Config) → Given w c → AreSpelled c.givens
    given_spelled w c (inl a) = subst (λ (x : Config). AreSpelled x.givens) (sym a.1) known.plain_spelled
    given_spelled w c (inr a) = known.spelled job.wide (length w.program.files) a.0 a.1 c a.4

    module _ (q : Program) (d : Config) (reaches : Reaches holds job (configured q d)) where
      behind : ConfiguredBy holds job q d
      behind = configured_by holds job q d reaches

      texts : Given behind.whole behind.config
      texts = (given_by holds job behind.whole behind.unread behind.config behind.reaches).1

      well_formed : IsWellFormed q
      well_formed =
          let l : LoadedBy holds job behind.whole behind.unread = loaded_by holds job behind.whole behind.unread (given_by holds job behind.whole behind.unread behind.config behind.reaches).0 in
          known.passed job.wide behind.program q behind.config d job.silent behind.unread behind.passed
          (known.well_formed job.wide holds 0 0 job.module (record { program = behind.whole; notes = behind.unread }) (l.0, l.1, l.2, l.3) behind.program behind.expands)

      is_given : length (definitions_in q.units) < 2 ^ 63 → IsGiven q d
      is_given few = record {
        few = few;
        spelled = subst (λ (gs : List GivenAt). AreSpelled gs) (sym (passed_stays behind.program q behind.config d job.silent behind.unread job.wide behind.passed).givens) (given_spelled behind.whole behind.config texts);
        form = known.passed_form job.wide behind.program q behind.config d job.silent behind.unread behind.passed (given_form behind.whole behind.config texts);
      }

  accepted_one : AcceptedHaveOneOfLets
  accepted_one holds job p c s lined few a =
      let r = resolved_by holds job p c s (logged_from holds job p c s a.read [] a.reaches) in
      resolved_one job.wide p c job.silent s (is_given holds job p c r.0 few) (well_formed holds job p c r.0).definitions_named r.1

pub resolved_have_one : KnownOfLets → ResolvedHaveOneOfLets
resolved_have_one known = resolved_one known

pub accepted_have_one : KnownOfLets → AcceptedHaveOneOfLets
accepted_have_one known = accepted_one known
