use Rattle.std.proofs.Common.{◌∙◌, ap, List, ℕ}
use Rattle.run_texts.specs.Files.{device_text}
use Rattle.run_call.proofs.CallLemmas.{device_part, device_stop, device_told, put_device, put_named, refused_quiet, refused_stop, report_part, runs_no_device}
use Rattle.run_call.proofs.call.run.Goals as goal

pub returns-in-Ok-put-clause-part : goal.returns-in-Ok-put-clause-part
returns-in-Ok-put-clause-part g c =
    report_part c.put.result _ _ _ _ _ _ _ _ _ c.in-Ok.ensures.runs c.as_bytes.ensures.value c.put.ensures.appended c.put.ensures.part

pub returns-in-Ok-put-clause-device : goal.returns-in-Ok-put-clause-device
returns-in-Ok-put-clause-device g c = λ e. absurd (runs_no_device _ _ _ _ _ _ c.in-Ok.ensures.runs e)

pub returns-in-Ok-clause-part : goal.returns-in-Ok-clause-part
returns-in-Ok-clause-part g c =
    report_part c.put.result _ _ _ _ _ _ _ _ _ c.in-Ok.ensures.runs c.as_bytes.ensures.value c.put.ensures.appended c.put.ensures.part

pub returns-in-Ok-put-2-clause-part : goal.returns-in-Ok-put-2-clause-part
returns-in-Ok-put-2-clause-part g c =
    let put = c.put-in-Refused in
    report_part put.result _ _ _ _ _ _ _ _ _ (refused_stop _ _ _ _ _ _ c.in-Refused.is c.in-Err.ensures.stopped) c.as_bytes-in-Refused.ensures.value
    put.ensures.appended put.ensures.part

pub returns-in-Refused-clause-part : goal.returns-in-Refused-clause-part
returns-in-Refused-clause-part g c =
    let put = c.put-in-Refused in
    report_part put.result _ _ _ _ _ _ _ _ _ (refused_stop _ _ _ _ _ _ c.in-Refused.is c.in-Err.ensures.stopped) c.as_bytes-in-Refused.ensures.value
    put.ensures.appended put.ensures.part

pub returns-in-Ok-device_text-clause-part : goal.returns-in-Ok-device_text-clause-part
returns-in-Ok-device_text-clause-part g c =
    let failed = device_stop _ _ _ _ _ _ c.in-Device.is c.in-Err.ensures.stopped in
    let line = c.as_bytes-in-Ok-device_text.ensures.value ∙ c.in-Ok-device_text.ensures ∙ ap (λ (name : List ℕ). device_text name) c.as_str.ensures in
    let put = c.put-in-Ok-device_text in
    device_part put.result _ _ _ _ _ _ _ _ failed.1 line put.ensures.appended put.ensures.part

pub returns-in-Ok-device_text-clause-device : goal.returns-in-Ok-device_text-clause-device
returns-in-Ok-device_text-clause-device g c =
    let failed = device_stop _ _ _ _ _ _ c.in-Device.is c.in-Err.ensures.stopped in
    let line = c.as_bytes-in-Ok-device_text.ensures.value ∙ c.in-Ok-device_text.ensures ∙ ap (λ (name : List ℕ). device_text name) c.as_str.ensures in
    let put = c.put-in-Ok-device_text in
    λ _. put_device put.result _ _ _ _ _ _ _ _ _ _ failed.0 failed.1 line put.ensures.appended put.ensures.failed

pub returns-in-Ok-put-clause-named : goal.returns-in-Ok-put-clause-named
returns-in-Ok-put-clause-named g c = λ e. absurd (runs_no_device _ _ _ _ _ _ c.in-Ok.ensures.runs e)

pub returns-in-Ok-put-2-clause-quiet : goal.returns-in-Ok-put-2-clause-quiet
returns-in-Ok-put-2-clause-quiet g c = λ _ _. (
  refused_quiet (g.F.Files.failures c.args.files.now) (g.F.Files.failures c.judge.new.files) _ _ c.in-Refused.is c.in-Err.ensures.told,
  c.in-Ok-put-2.ensures.quiet,
)

pub returns-in-Ok-device_text-clause-named : goal.returns-in-Ok-device_text-clause-named
returns-in-Ok-device_text-clause-named g c =
    let failed = device_stop _ _ _ _ _ _ c.in-Device.is c.in-Err.ensures.stopped in
    let told = device_told (g.F.Files.failures c.args.files.now) (g.F.Files.failures c.judge.new.files) _ _ c.in-Device.is c.in-Err.ensures.told in
    let line = c.as_bytes-in-Ok-device_text.ensures.value ∙ c.in-Ok-device_text.ensures ∙ ap (λ (name : List ℕ). device_text name) c.as_str.ensures in
    let put = c.put-in-Ok-device_text in
    λ _. put_named put.result _ _ _ _ _ _ _ _ _ _ told failed.1 line put.ensures.appended put.ensures.failed
