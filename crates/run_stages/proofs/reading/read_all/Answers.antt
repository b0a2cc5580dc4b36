use Rattle.std.proofs.Common.{rules, ◌≡◌, ◌≤◌, ◌++◌, ◌∙◌, ℕ, List, [], IfErr, Option, Ok, Err, sym, subst, arith}
use Rattle.base_core.specs.Device.{File}
use Rattle.actions_meanings.specs.declared.fault.FormFault.{FormFault}
use Rattle.steps_forms.specs.Forms.{IsFirstFault}
use Rattle.names_resolving.specs.declared.fault.ResolveFault.{ResolveFault}
use Rattle.names_whole_programs.specs.Expansion.{ExpansionBy}
use Rattle.run_texts.specs.Forms.{form_refusal}
use Rattle.run_texts.specs.Resolved.{names_refusal}
use Rattle.run_reading_defs.specs.Reaches.{Reaches, given, has_forms}
use Rattle.run_reading_defs.specs.Refusals.{all_files}
use Rattle.run_stages.specs.Resolving.{IsUnresolved}
use Rattle.run_stages.specs.Stops.{IsToldBy, RefusedWith, StopsBy}
use Rattle.run_stages.proofs.Reached.{files_ready, one_form, ready_over, resolution_in_order, resolution_reached, spelled}
use Rattle.run_stages.proofs.Stopping.{err_later, err_mapped, expanding_stop, forms_stop, unresolved_stop}
use Rattle.run_stages.proofs.Told.{are_told_from, refused_are_told}
use Rattle.run_stages.proofs.reading.read_all.Goals as goal

pub returns-in_err-config-clause-stopped : goal.returns-in_err-config-clause-stopped
returns-in_err-config-clause-stopped g c =
    let q : IfErr c.from_residual-in_err-config.result (StopsBy (g.F.Files.holds c.load_program.new.files) (g.F.Files.faults c.load_program.new.files) (g.F.Files.faults c.read_config.new.files) c.args.job.now) = search rules in
    err_later (g.F.Files.holds c.args.files.now) (g.F.Files.holds c.load_program.new.files) (g.F.Files.faults c.args.files.now) (g.F.Files.faults c.load_program.new.files)
    (g.F.Files.faults c.read_config.new.files) c.args.job.now c.from_residual-in_err-config.result c.load_program.ensures.same c.load_program.ensures.later q

pub resolve_spec-requires-clause-spelled : goal.resolve_spec-requires-clause-spelled
resolve_spec-requires-clause-spelled g c =
    spelled (g.F.Files.holds c.load_program.new.files) c.args.job.now c.in_ok-modules.modules.program c.in_ok-modules.modules.notes c.in_ok-config.config
    c.configuration_laws.ensures.spelled c.configuration_laws.ensures.plain_spelled c.in_ok-config.ensures.accepted

pub resolve_spec-requires-clause-form : goal.resolve_spec-requires-clause-form
resolve_spec-requires-clause-form g c =
    one_form (g.F.Files.holds c.load_program.new.files) c.args.job.now c.in_ok-modules.modules.program c.in_ok-modules.modules.notes c.in_ok-config.config
    c.configuration_laws.ensures.form c.configuration_laws.ensures.plain_form c.in_ok-config.ensures.accepted

pub returns-in_err-expanded-clause-stopped : goal.returns-in_err-expanded-clause-stopped
returns-in_err-expanded-clause-stopped g c =
    let holds = g.F.Files.holds c.args.files.now in
    let m = c.in_ok-modules.modules in
    let k = c.in_ok-config.config in
    let reaches = subst (λ (h : Option (List File)). Reaches h c.args.job.now (given m.program m.notes k)) c.load_program.ensures.same c.in_ok-config.ensures.accepted in
    let wrong = RefusedWith (λ report. (f : ResolveFault) × ExpansionBy c.args.job.now.wide m.program (Err f) × (report ≡ names_refusal (all_files m.program.program k) f)) in
    let q : IfErr c.from_residual-in_err-expanded.result wrong = search (rules, c.from_residual-in_err-expanded.ensures, c.in_err-expanded.ensures.refused, c.in_err-expanded.is) in
    err_mapped wrong (StopsBy holds (g.F.Files.faults c.args.files.now) (g.F.Files.faults c.read_config.new.files) c.args.job.now) c.from_residual-in_err-expanded.result
    (λ stop h. expanding_stop holds (g.F.Files.faults c.args.files.now) (g.F.Files.faults c.read_config.new.files) c.args.job.now m.program m.notes k stop reaches h) q

pub returns-in_err-resolved-clause-stopped : goal.returns-in_err-resolved-clause-stopped
returns-in_err-resolved-clause-stopped g c =
    let holds = g.F.Files.holds c.args.files.now in
    let m = c.in_ok-modules.modules in
    let k = c.in_ok-config.config in
    let reaches = subst (λ (h : Option (List File)). Reaches h c.args.job.now (given m.program m.notes k)) c.load_program.ensures.same c.in_ok-config.ensures.accepted in
    let p = c.in_ok-expanded.expanded in
    let unresolved = RefusedWith (IsUnresolved c.args.job.now.wide p k c.args.job.now.silent m.notes) in
    let q : IfErr c.from_residual-in_err-resolved.result unresolved = search (rules, c.from_residual-in_err-resolved.ensures, c.in_err-resolved.ensures.refused, c.in_err-resolved.is) in
    err_mapped unresolved (StopsBy holds (g.F.Files.faults c.args.files.now) (g.F.Files.faults c.read_config.new.files) c.args.job.now) c.from_residual-in_err-resolved.result
    (λ stop h. unresolved_stop holds (g.F.Files.faults c.args.files.now) (g.F.Files.faults c.read_config.new.files) c.args.job.now m.program p m.notes k stop reaches c.in_ok-expanded.ensures.accepted h) q

pub test_forms-requires : goal.test_forms-requires
test_forms-requires g c =
    let m = c.in_ok-modules.modules in
    resolution_in_order (g.F.Files.holds c.load_program.new.files) c.args.job.now m.program c.in_ok-expanded.expanded m.notes c.in_ok-config.config c.in_ok-resolved.resolved
    c.expanded_laws.ensures.well_formed c.passing_laws.ensures.well_formed c.resolved_laws.ensures.in_order c.in_ok-config.ensures.accepted c.in_ok-expanded.ensures.accepted c.in_ok-resolved.ensures.accepted

pub returns-in_err-test_forms-clause-stopped : goal.returns-in_err-test_forms-clause-stopped
returns-in_err-test_forms-clause-stopped g c =
    let holds = g.F.Files.holds c.args.files.now in
    let m = c.in_ok-modules.modules in
    let k = c.in_ok-config.config in
    let r = c.in_ok-resolved.resolved in
    let reaches = subst (λ (h : Option (List File)). Reaches h c.args.job.now (given m.program m.notes k)) c.load_program.ensures.same c.in_ok-config.ensures.accepted in
    let unfit = RefusedWith (λ report. (f : FormFault) × IsFirstFault r.spec f × (report ≡ form_refusal (all_files r.program r.config) r.spec.variables f)) in
    let q : IfErr c.from_residual-in_err-test_forms.result unfit = search (rules, c.from_residual-in_err-test_forms.ensures, c.in_err-test_forms.ensures.refused, c.in_err-test_forms.is) in
    err_mapped unfit (StopsBy holds (g.F.Files.faults c.args.files.now) (g.F.Files.faults c.read_config.new.files) c.args.job.now) c.from_residual-in_err-test_forms.result
    (λ stop h. forms_stop holds (g.F.Files.faults c.args.files.now) (g.F.Files.faults c.read_config.new.files) c.args.job.now r.program r.config r.spec stop
    (resolution_reached holds c.args.job.now m.program c.in_ok-expanded.expanded m.notes k r reaches c.in_ok-expanded.ensures.accepted c.in_ok-resolved.ensures.accepted) h) q

pub read_logs-requires-clause-reaches : goal.read_logs-requires-clause-reaches
read_logs-requires-clause-reaches g c =
    let m = c.in_ok-modules.modules in
    let k = c.in_ok-config.config in
    let r = c.in_ok-resolved.resolved in
    let reaches = subst (λ (h : Option (List File)). Reaches h c.args.job.now (given m.program m.notes k)) (sym c.read_config.ensures.same) c.in_ok-config.ensures.accepted in
    has_forms r.program r.config r.spec
    (resolution_reached (g.F.Files.holds c.read_config.new.files) c.args.job.now m.program c.in_ok-expanded.expanded m.notes k r reaches c.in_ok-expanded.ensures.accepted c.in_ok-resolved.ensures.accepted) c.in_ok-test_forms.ensures.accepted

pub returns-in_err-lined-clause-stopped : goal.returns-in_err-lined-clause-stopped
returns-in_err-lined-clause-stopped g c =
    let q : IfErr c.from_residual-in_err-lined.result (StopsBy (g.F.Files.holds c.read_config.new.files) (g.F.Files.faults c.read_config.new.files) (g.F.Files.faults c.read_logs.new.files) c.args.job.now) = search (rules, c.from_residual-in_err-lined.ensures, c.in_err-lined.ensures.stopped, c.in_err-lined.is) in
    err_later (g.F.Files.holds c.args.files.now) (g.F.Files.holds c.read_config.new.files) (g.F.Files.faults c.args.files.now) (g.F.Files.faults c.read_config.new.files)
    (g.F.Files.faults c.read_logs.new.files) c.args.job.now c.from_residual-in_err-lined.result (c.read_config.ensures.same ∙ c.load_program.ensures.same)
    (omega (arith, c.load_program.ensures.later, c.read_config.ensures.later)) q

pub returns-clause-ready : goal.returns-clause-ready
returns-clause-ready g c =
    let m = c.in_ok-modules.modules in
    let r = c.in_ok-resolved.resolved in
    let is = resolution_in_order (g.F.Files.holds c.load_program.new.files) c.args.job.now m.program c.in_ok-expanded.expanded m.notes c.in_ok-config.config r
    c.expanded_laws.ensures.well_formed c.passing_laws.ensures.well_formed c.resolved_laws.ensures.in_order c.in_ok-config.ensures.accepted c.in_ok-expanded.ensures.accepted c.in_ok-resolved.ensures.accepted in
    let read = c.in_ok-lined.ensures.accepted in
    let files = files_ready (g.F.Files.holds c.read_config.new.files) c.args.job.now r.program r.config r.spec read.read [] c.logs_are_ready.ensures.files is read.reaches in
    let lined = c.logs_are_ready.ensures.lined r.spec c.args.job.now.ties read.read.found c.in_ok-lined.lined is files read.lines c.known_values_over.ensures in
    ready_over r.spec c.in_ok-lined.lined c.in_ok-test_forms.ensures.ready lined c.in_ok-lined.ensures.made

-- which calls on files failed

pub returns-in_err-config-clause-told : goal.returns-in_err-config-clause-told
returns-in_err-config-clause-told g c =
    let q : IfErr c.from_residual-in_err-config.result (IsToldBy (g.F.Files.failures c.load_program.new.files) (g.F.Files.failures c.read_config.new.files)) = search rules in
    are_told_from (g.F.Files.failures c.args.files.now) (g.F.Files.failures c.load_program.new.files) (g.F.Files.failures c.read_config.new.files) c.from_residual-in_err-config.result c.in_ok-modules.ensures.quiet q

pub returns-in_err-expanded-clause-told : goal.returns-in_err-expanded-clause-told
returns-in_err-expanded-clause-told g c =
    let m = c.in_ok-modules.modules in
    let k = c.in_ok-config.config in
    let wrong : List ℕ → Type 0 = λ report. (f : ResolveFault) × ExpansionBy c.args.job.now.wide m.program (Err f) × (report ≡ names_refusal (all_files m.program.program k) f) in
    let q : IfErr c.from_residual-in_err-expanded.result (RefusedWith wrong) = search (rules, c.from_residual-in_err-expanded.ensures, c.in_err-expanded.ensures.refused, c.in_err-expanded.is) in
    refused_are_told (g.F.Files.failures c.args.files.now) (g.F.Files.failures c.read_config.new.files) wrong c.from_residual-in_err-expanded.result
    (c.in_ok-config.ensures.quiet ∙ c.in_ok-modules.ensures.quiet) q

pub returns-in_err-resolved-clause-told : goal.returns-in_err-resolved-clause-told
returns-in_err-resolved-clause-told g c =
    let m = c.in_ok-modules.modules in
    let k = c.in_ok-config.config in
    let p = c.in_ok-expanded.expanded in
    let unresolved = RefusedWith (IsUnresolved c.args.job.now.wide p k c.args.job.now.silent m.notes) in
    let q : IfErr c.from_residual-in_err-resolved.result unresolved = search (rules, c.from_residual-in_err-resolved.ensures, c.in_err-resolved.ensures.refused, c.in_err-resolved.is) in
    refused_are_told (g.F.Files.failures c.args.files.now) (g.F.Files.failures c.read_config.new.files) (IsUnresolved c.args.job.now.wide p k c.args.job.now.silent m.notes)
    c.from_residual-in_err-resolved.result (c.in_ok-config.ensures.quiet ∙ c.in_ok-modules.ensures.quiet) q

pub returns-in_err-test_forms-clause-told : goal.returns-in_err-test_forms-clause-told
returns-in_err-test_forms-clause-told g c =
    let r = c.in_ok-resolved.resolved in
    let unfit : List ℕ → Type 0 = λ report. (f : FormFault) × IsFirstFault r.spec f × (report ≡ form_refusal (all_files r.program r.config) r.spec.variables f) in
    let q : IfErr c.from_residual-in_err-test_forms.result (RefusedWith unfit) = search (rules, c.from_residual-in_err-test_forms.ensures, c.in_err-test_forms.ensures.refused, c.in_err-test_forms.is) in
    refused_are_told (g.F.Files.failures c.args.files.now) (g.F.Files.failures c.read_config.new.files) unfit c.from_residual-in_err-test_forms.result
    (c.in_ok-config.ensures.quiet ∙ c.in_ok-modules.ensures.quiet) q

pub returns-in_err-lined-clause-told : goal.returns-in_err-lined-clause-told
returns-in_err-lined-clause-told g c =
    let q : IfErr c.from_residual-in_err-lined.result (IsToldBy (g.F.Files.failures c.read_config.new.files) (g.F.Files.failures c.read_logs.new.files)) = search (rules, c.from_residual-in_err-lined.ensures, c.in_err-lined.ensures.told, c.in_err-lined.is) in
    are_told_from (g.F.Files.failures c.args.files.now) (g.F.Files.failures c.read_config.new.files) (g.F.Files.failures c.read_logs.new.files) c.from_residual-in_err-lined.result
    (c.in_ok-config.ensures.quiet ∙ c.in_ok-modules.ensures.quiet) q
