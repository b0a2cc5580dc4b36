use Rattle.std.proofs.Common.{rules, ◌∙◌, ◌≡◌, ℕ, List, [], IfErr, Option, Err, sym, subst}
use Rattle.base_core.specs.Device.{File}
use Rattle.states_files.specs.Files.{StateFileSays}
use Rattle.states_files.specs.declared.refusal.StateRefusal.{StateRefusal}
use Rattle.run_texts.specs.GivenStates.{states_refusal}
use Rattle.run_reading_defs.specs.Texts.{HasText}
use Rattle.run_reading_defs.specs.Reaches.{Reaches, logged}
use Rattle.run_reading_defs.specs.Given.{states_limit, wants_states}
use Rattle.run_stages.specs.Stops.{IsToldBy, RefusedWith, StopsBy}
use Rattle.run_stages.specs.GivenStops.{GivenStopsBy}
use Rattle.run_stages.proofs.GivenStopping.{err_given_later, states_stop, stop_before}
use Rattle.run_stages.proofs.Stopping.{err_mapped}
use Rattle.run_stages.proofs.Told.{are_told_from, refused_are_told}
use Rattle.run_stages.proofs.given.read_given.Goals as goal

pub returns-in_err-accepted-clause-stopped : goal.returns-in_err-accepted-clause-stopped
returns-in_err-accepted-clause-stopped g c =
    let stops = StopsBy (g.F.Files.holds c.args.files.now) (g.F.Files.faults c.args.files.now) (g.F.Files.faults c.read_all.new.files) c.args.job.now in
    let q : IfErr c.from_residual.result stops = search rules in
    err_mapped stops (GivenStopsBy (g.F.Files.holds c.args.files.now) (g.F.Files.faults c.args.files.now) (g.F.Files.faults c.read_all.new.files) c.args.job.now c.args.witness.now)
    c.from_residual.result
    (λ stop h. stop_before (g.F.Files.holds c.args.files.now) (g.F.Files.faults c.args.files.now) (g.F.Files.faults c.read_all.new.files) c.args.job.now c.args.witness.now stop h) q

pub read_witness-requires : goal.read_witness-requires
read_witness-requires g c =
    let a = c.in_ok-accepted.accepted in
    let read = c.in_ok-accepted.ensures.accepted in
    wants_states a.program a.config a.spec read.read
    (subst (λ (h : Option (List File)). Reaches h c.args.job.now (logged a.program a.config a.spec read.read [])) (sym c.read_all.ensures.same) read.reaches)

pub returns-in_err-text-clause-stopped : goal.returns-in_err-text-clause-stopped
returns-in_err-text-clause-stopped g c =
    let q : IfErr c.from_residual-in_err-text.result (GivenStopsBy (g.F.Files.holds c.read_all.new.files) (g.F.Files.faults c.read_all.new.files) (g.F.Files.faults c.read_witness.new.files) c.args.job.now c.args.witness.now) =
    search (rules, c.from_residual-in_err-text.ensures, c.in_err-text.ensures.stopped, c.in_err-text.is) in
    err_given_later (g.F.Files.holds c.args.files.now) (g.F.Files.holds c.read_all.new.files) (g.F.Files.faults c.args.files.now) (g.F.Files.faults c.read_all.new.files)
    (g.F.Files.faults c.read_witness.new.files) c.args.job.now c.args.witness.now c.from_residual-in_err-text.result c.read_all.ensures.same c.read_all.ensures.later q

pub states_of-requires : goal.states_of-requires
states_of-requires g c =
    let has = subst (λ (t : List ℕ). HasText (g.F.Files.holds c.read_all.new.files) c.args.witness.now states_limit t) (sym c.as_slice.ensures.value) c.in_ok-text.ensures.text in
    record { short = has.short }

pub returns-in_err-states-clause-stopped : goal.returns-in_err-states-clause-stopped
returns-in_err-states-clause-stopped g c =
    let holds = g.F.Files.holds c.args.files.now in
    let a = c.in_ok-accepted.accepted in
    let read = c.in_ok-accepted.ensures.accepted in
    let has = subst (λ (t : List ℕ). HasText holds c.args.witness.now states_limit t) (sym c.as_slice.ensures.value)
    (subst (λ (h : Option (List File)). HasText h c.args.witness.now states_limit c.in_ok-text.text.items) c.read_all.ensures.same c.in_ok-text.ensures.text) in
    let says = RefusedWith (λ report. (refusal : StateRefusal) × StateFileSays a.spec.variables c.as_slice.result.now (Err refusal) × (report ≡ states_refusal c.args.witness.now refusal)) in
    let q : IfErr c.from_residual-in_err-states.result says = search (rules, c.from_residual-in_err-states.ensures, c.in_err-states.ensures.refused, c.in_err-states.is) in
    err_mapped says (GivenStopsBy holds (g.F.Files.faults c.args.files.now) (g.F.Files.faults c.read_witness.new.files) c.args.job.now c.args.witness.now)
    c.from_residual-in_err-states.result
    (λ stop h. states_stop holds (g.F.Files.faults c.args.files.now) (g.F.Files.faults c.read_witness.new.files) c.args.job.now c.args.witness.now a.program a.config a.spec read.read
    c.as_slice.result.now stop read.reaches has h) q

pub returns-clause-accepted : goal.returns-clause-accepted
returns-clause-accepted g c =
    let holds = g.F.Files.holds c.args.files.now in
    record {
      all_read = c.in_ok-accepted.ensures.accepted;
      text = c.as_slice.result.now;
      has_text = subst (λ (t : List ℕ). HasText holds c.args.witness.now states_limit t) (sym c.as_slice.ensures.value)
          (subst (λ (h : Option (List File)). HasText h c.args.witness.now states_limit c.in_ok-text.text.items) c.read_all.ensures.same c.in_ok-text.ensures.text);
      says = c.in_ok-states.ensures.says;
    }

-- which calls on files failed

pub returns-in_err-text-clause-told : goal.returns-in_err-text-clause-told
returns-in_err-text-clause-told g c =
    let q : IfErr c.from_residual-in_err-text.result (IsToldBy (g.F.Files.failures c.read_all.new.files) (g.F.Files.failures c.read_witness.new.files)) =
    search (rules, c.from_residual-in_err-text.ensures, c.in_err-text.ensures.told, c.in_err-text.is) in
    are_told_from (g.F.Files.failures c.args.files.now) (g.F.Files.failures c.read_all.new.files) (g.F.Files.failures c.read_witness.new.files) c.from_residual-in_err-text.result
    c.in_ok-accepted.ensures.quiet q

pub returns-in_err-states-clause-told : goal.returns-in_err-states-clause-told
returns-in_err-states-clause-told g c =
    let a = c.in_ok-accepted.accepted in
    let says : List ℕ → Type 0 = λ report. (refusal : StateRefusal) × StateFileSays a.spec.variables c.as_slice.result.now (Err refusal) × (report ≡ states_refusal c.args.witness.now refusal) in
    let q : IfErr c.from_residual-in_err-states.result (RefusedWith says) = search (rules, c.from_residual-in_err-states.ensures, c.in_err-states.ensures.refused, c.in_err-states.is) in
    refused_are_told (g.F.Files.failures c.args.files.now) (g.F.Files.failures c.read_witness.new.files) says c.from_residual-in_err-states.result
    (c.in_ok-text.ensures.quiet ∙ c.in_ok-accepted.ensures.quiet) q
