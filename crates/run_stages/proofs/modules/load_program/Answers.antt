use Rattle.std.proofs.Common.{◌≡◌, ℕ, List, Ok, Err, subst, sym}
use Rattle.reading_modules.specs.Loads.{LoadsBy}
use Rattle.reading_modules.specs.Paths.{IsPath}
use Rattle.run_reading_defs.proofs.Parts.{path_parts}
use Rattle.reading_modules.specs.declared.fault.LoadFault.TheVariants as faults
use Rattle.reading_wide_modules.specs.Wide.{reading_by}
use Rattle.run_reading_defs.specs.Reaches.{loads}
use Rattle.run_stages.proofs.Stopping.{module_stop}
use Rattle.reading_modules.specs.Loads.{IsToldOf}
use Rattle.reading_modules.specs.declared.fault.LoadFault.{LoadFault}
use Rattle.run_stages.proofs.Told.{module_told}
use Rattle.run_stages.proofs.modules.load_program.Goals as goal

pub load_modules-requires : goal.load_modules-requires
load_modules-requires g c =
    subst (λ (path : List ℕ). (folder : List ℕ) × (name : List ℕ) × IsPath path folder name) (sym c.as_str.ensures) (path_parts c.args.job.now.module c.requires)

pub returns-in-Ok-clause-accepted : goal.returns-in-Ok-clause-accepted
returns-in-Ok-clause-accepted g c =
    let h = rw c.as_str.ensures at c.in-Ok.ensures.loads in
    loads h.0 h.1 c.in-Ok.modules.program c.in-Ok.modules.notes h.2 h.3

pub returns-in_ok-refused-in-Err-Refused-clause-stopped : goal.returns-in_ok-refused-in-Err-Refused-clause-stopped
returns-in_ok-refused-in-Err-Refused-clause-stopped g c =
    let h =
    subst (λ (path : List ℕ). LoadsBy (reading_by c.args.job.now.wide) (g.F.Files.holds c.args.files.now) (g.F.Files.faults c.args.files.now) (g.F.Files.faults c.load_modules.new.files) path
    (Err (faults.Refused c.in-Err-Refused.sought c.in-Err-Refused.why))) c.as_str.ensures
    (subst (λ f. LoadsBy (reading_by c.args.job.now.wide) (g.F.Files.holds c.args.files.now) (g.F.Files.faults c.args.files.now) (g.F.Files.faults c.load_modules.new.files) c.as_str.result.now (Err f))
    c.in-Err-Refused.field-0-is c.in-Err-Refused.ensures.loads) in
    module_stop (g.F.Files.holds c.args.files.now) (g.F.Files.faults c.args.files.now) (g.F.Files.faults c.load_modules.new.files) c.args.job.now
    c.in-Err-Refused.sought c.in-Err-Refused.why c.in_ok-refused-in-Err-Refused.field-0 h c.in_ok-refused-in-Err-Refused.ensures

pub returns-in_ok-refused-in-Err-Refused-clause-told : goal.returns-in_ok-refused-in-Err-Refused-clause-told
returns-in_ok-refused-in-Err-Refused-clause-told g c =
    let before = g.F.Files.failures c.args.files.now in
    let now = g.F.Files.failures c.load_modules.new.files in
    module_told before now c.in-Err-Refused.sought c.in-Err-Refused.why c.in_ok-refused-in-Err-Refused.field-0
    (subst (λ (f : LoadFault). IsToldOf before now f) c.in-Err-Refused.field-0-is c.in-Err-Refused.ensures.told) c.in_ok-refused-in-Err-Refused.ensures
