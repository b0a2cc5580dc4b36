use Rattle.std.proofs.Common.{refl}
use Rattle.run_library.specs.Calls.{has_run, wants_memory}
use Rattle.run_library.proofs.call.run_with_library.Goals as goal

pub returns-in-Ok-clause-ends : goal.returns-in-Ok-clause-ends
returns-in-Ok-clause-ends g c = has_run _ _ c.in-Ok.ensures (record {
  report = c.run.ensures.report;
  part = c.run.ensures.part;
  device = c.run.ensures.device;
  named = c.run.ensures.named;
  quiet = c.run.ensures.quiet;
})

pub returns-in-Err-clause-ends : goal.returns-in-Err-clause-ends
returns-in-Err-clause-ends g c = wants_memory refl refl refl refl
