use Rattle.std.proofs.Common.{◌≡◌, drop}
use Rattle.names_whole_programs.specs.Given.{given_by}
use Rattle.names_whole_programs.proofs.given.given_by.Given as goal

abbrev pub invariant-loop-with : goal.invariant-loop-with
invariant-loop-with l =
    given_by (drop l.with-index l.with-items) l.name ≡ given_by l.with-items l.name
