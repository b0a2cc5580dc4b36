use Rattle.std.proofs.Common.{Some, ◌∙◌, ap, sym}
use Rattle.run_library.specs.Served.{served}
use Rattle.run_library.proofs.Serving.{is_missing, lacks_both, opens_own, opens_served}
use Rattle.run_library.proofs.behind.WithLibraryFiles.open.Goals as goal

pub returns-in-Ok-clause-opened : goal.returns-in-Ok-clause-opened
returns-in-Ok-clause-opened g c = opens_own c.args.name c.args.self.now.folder (g.F.Files.holds c.args.self.now.files) (g.F.Files.at c.open.new.self) c.in-Ok.ensures.opened

pub returns-in-Some-clause-opened : goal.returns-in-Some-clause-opened
returns-in-Some-clause-opened g c =
    opens_served c.args.name c.as_bytes.result.now c.args.self.now.folder (g.F.Files.holds c.args.self.now.files) _ _ (c.in-Err-Missing.ensures.missing (is_missing c.in-Err-Missing.field-0 c.in-Err-Missing.field-0-is))
    (ap (λ n. served c.args.self.now.folder n) (sym c.as_str.ensures) ∙ c.in-Some.ensures ∙ ap (λ x. Some x) (sym c.as_bytes.ensures.value))

pub returns-in-None-clause-missing : goal.returns-in-None-clause-missing
returns-in-None-clause-missing g c =
    λ _. lacks_both c.args.name c.args.self.now.folder (g.F.Files.holds c.args.self.now.files) _ _ (c.in-Err-Missing.ensures.missing (is_missing c.in-Err-Missing.field-0 c.in-Err-Missing.field-0-is)) (ap (λ n. served c.args.self.now.folder n) (sym c.as_str.ensures) ∙ c.in-None.ensures)
