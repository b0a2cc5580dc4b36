use Rattle.std.proofs.Common.{◌≡◌, ◌++◌, ◌∷◌, [], ℕ, List, Err, subst, sym, arith, length}
use Rattle.base_core.specs.declared.place.Place.{Place}
use Rattle.reading_trees.specs.declared.config.Config.{Config}
use Rattle.reading_configuration.specs.declared.fault.ConfigKind.{ConfigKind}
use Rattle.reading_wide_configuration.specs.Wide.{ReadsBy}
use Rattle.run_texts.specs.Configs.{config_refusal}
use Rattle.run_reading_defs.specs.Texts.{HasText, config_limit}
use Rattle.run_reading_defs.specs.Reaches.{Reaches, config_next, given, loaded, needs_no_configuration}
use Rattle.run_stages.proofs.Reached.{loaded_few}
use Rattle.run_stages.proofs.Stopping.{config_accepted, config_refused}
use Rattle.run_stages.proofs.Told.{on_ok, refused_are_told}
use Rattle.run_stages.proofs.configs.read_config.Goals as goal

pub read_wanted-requires : goal.read_wanted-requires
read_wanted-requires g c = record {
  stage = loaded c.args.modules.now.program c.args.modules.now.notes;
  reaches = c.requires.reaches;
  is_next = config_next c.args.modules.now.program c.args.modules.now.notes c.in-Some.name c.in-Some.is;
}

pub config_of-requires-clause-few : goal.config_of-requires-clause-few
config_of-requires-clause-few g c = loaded_few (g.F.Files.holds c.args.files.now) c.args.job.now c.args.modules.now.program c.args.modules.now.notes c.wide_load_laws.ensures.few c.requires.reaches

pub returns-in_ok-without_file-in-None-clause-accepted : goal.returns-in_ok-without_file-in-None-clause-accepted
returns-in_ok-without_file-in-None-clause-accepted g c =
    subst (λ (k : Config). Reaches (g.F.Files.holds c.args.files.now) c.args.job.now (given c.args.modules.now.program c.args.modules.now.notes k)) (sym c.in_ok-without_file-in-None.ensures)
    (needs_no_configuration c.args.modules.now.program c.args.modules.now.notes c.requires.reaches c.in-None.is)

pub returns-in_ok-text-in-Some-clause-accepted : goal.returns-in_ok-text-in-Some-clause-accepted
returns-in_ok-text-in-Some-clause-accepted g c =
    let holds = g.F.Files.holds c.args.files.now in
    let has = subst (λ (t : List ℕ). HasText holds c.in-Some.name config_limit t) (sym c.as_slice.ensures.value) c.in_ok-text-in-Some.ensures.text in
    config_accepted holds 0 0 c.args.job.now c.args.modules.now.program c.args.modules.now.notes c.in-Some.name c.as_slice.result.now c.config_of.result c.requires.reaches c.in-Some.is has c.config_of.ensures.accepted

pub returns-in_ok-text-in-Some-clause-stopped : goal.returns-in_ok-text-in-Some-clause-stopped
returns-in_ok-text-in-Some-clause-stopped g c =
    let holds = g.F.Files.holds c.args.files.now in
    let has = subst (λ (t : List ℕ). HasText holds c.in-Some.name config_limit t) (sym c.as_slice.ensures.value) c.in_ok-text-in-Some.ensures.text in
    config_refused holds (g.F.Files.faults c.args.files.now) (g.F.Files.faults c.read_wanted.new.files) c.args.job.now c.args.modules.now.program c.args.modules.now.notes c.in-Some.name c.as_slice.result.now
    c.config_of.result c.requires.reaches c.in-Some.is has c.config_of.ensures.refused

pub returns-in_ok-text-in-Some-clause-quiet : goal.returns-in_ok-text-in-Some-clause-quiet
returns-in_ok-text-in-Some-clause-quiet g c = on_ok c.config_of.result c.in_ok-text-in-Some.ensures.quiet

pub returns-in_ok-text-in-Some-clause-told : goal.returns-in_ok-text-in-Some-clause-told
returns-in_ok-text-in-Some-clause-told g c =
    let program = c.args.modules.now.program.program in
    let refusing : List ℕ → Type 0 = λ report. (kind : ConfigKind) × (at : Place) × ReadsBy c.args.job.now.wide (length program.files) c.in-Some.name c.as_slice.result.now (Err (kind, at)) × (report ≡ config_refusal (program.files ++ c.in-Some.name ∷ []) kind at) in
    refused_are_told (g.F.Files.failures c.args.files.now) (g.F.Files.failures c.read_wanted.new.files) refusing c.config_of.result c.in_ok-text-in-Some.ensures.quiet c.config_of.ensures.refused
