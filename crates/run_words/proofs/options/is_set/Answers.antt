use Rattle.std.proofs.Common.{sym, subst, ℕ, Bool, [], MatchOption}
use Rattle.clap.specs.Matches.{found_of}
use Rattle.clap.specs.Walk.{rows_of}
use Rattle.run_words.specs.Job.{IsSet}
use Rattle.run_words.specs.Parsers.{texts_of}
use Rattle.run_words.proofs.Rows.{flag_held}
use Rattle.run_words.proofs.options.is_set.Goals as goal

pub returns-in-Some : goal.returns-in-Some
returns-in-Some c =
    subst (λ (n : ℕ). MatchOption c.is_once.result ((b : Bool) → IsSet n b → ⊥) (IsSet n))
    (flag_held (rows_of (found_of c.args.matches.now)) c.args.flag c.id.result.now (texts_of c.in-Some.flags.now) c.id.ensures c.in-Some.ensures) c.is_once.ensures

pub returns-in-None : goal.returns-in-None
returns-in-None c = sym (flag_held (rows_of (found_of c.args.matches.now)) c.args.flag c.id.result.now [] c.id.ensures (sym c.in-None.ensures))
