use Rattle.twice_calls.proofs.Answering.{check_answers_valid, check_is_valid, spec_of}
use Rattle.twice_calls.proofs.answered.check_answers_valid.Goals as goal

pub returns-clause-answers : goal.returns-clause-answers
returns-clause-answers g c =
    let a = c.args.accepted.now in
    check_answers_valid c.args.job.now a.program a.config a.spec a.lined (record {
      prints = c.printed_is_valid.ensures.valid;
      one = c.lined_laws.ensures.one;
      own = c.own_place_law.ensures;
      values = (spec_of a.spec a.lined c.requires.ready).known;
      assumed = c.assumed_law.ensures;
      reading = c.reading_laws.ensures.reading;
      answers = c.alike_lined_laws.ensures.answers;
      verdicts = c.alike_lined_laws.ensures.verdicts;
      states = c.state_laws.ensures.file;
    })

pub returns-clause-valid : goal.returns-clause-valid
returns-clause-valid g c =
    let a = c.args.accepted.now in
    check_is_valid c.args.job.now a.program a.config a.spec a.lined (record {
      prints = c.printed_is_valid.ensures.valid;
      one = c.lined_laws.ensures.one;
      own = c.own_place_law.ensures;
      values = (spec_of a.spec a.lined c.requires.ready).known;
      assumed = c.assumed_law.ensures;
      reading = c.reading_laws.ensures.reading;
      answers = c.alike_lined_laws.ensures.answers;
      verdicts = c.alike_lined_laws.ensures.verdicts;
      states = c.state_laws.ensures.file;
    }) c.not_refused_laws.ensures.given
