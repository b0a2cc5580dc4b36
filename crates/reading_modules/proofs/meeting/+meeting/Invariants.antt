-- proofs/meeting/+meeting/Invariants.antt
use Rattle.std.proofs.Common.{◌≡◌, ◌≤◌, ◌+◌, ◌-◌, ◌*◌, length, drop, cond}
use Rattle.reading_modules.specs.Flattened.{OutcomeOf, Follows, MakesAll}
use Rattle.reading_modules.specs.Parts.{IsGoing, Stays}
use Rattle.reading_modules.proofs.meeting.+meeting.Given as goal

-- a program of an instance stands below the one that has it, and each has room for 32 modules
abbrev pub decreases-visit : goal.decreases-visit
decreases-visit g l = cond l.so.now.of_instance 0 1000 + 8 * (32 - length l.so.now.own)

abbrev pub decreases-meet : goal.decreases-meet
decreases-meet g l = cond l.so.now.of_instance 0 1000 + 8 * (32 - length l.so.now.own) + 1

abbrev pub decreases-follow : goal.decreases-follow
decreases-follow g l = cond l.so.now.of_instance 0 1000 + 8 * (32 - length l.so.now.own) + 2

abbrev pub decreases-make : goal.decreases-make
decreases-make g l = cond l.so.now.of_instance 0 1000 + 8 * (32 - length l.so.now.own) + 3

abbrev pub decreases-make_all : goal.decreases-make_all
decreases-make_all g l = cond l.so.now.of_instance 0 1000 + 8 * (32 - length l.so.now.own) + 4

abbrev pub decreases-finish : goal.decreases-finish
decreases-finish g l = cond l.so.now.of_instance 0 1000 + 8 * (32 - length l.so.now.own) + 5

abbrev pub invariant-follow-loop-name : goal.invariant-follow-loop-name
invariant-follow-loop-name g l = record {
  rest : (o : OutcomeOf g.row.R-Note.Denot) → Follows (g.R.ModuleReader.reading l.reader) (g.F.Files.holds l.fn.files) l.folder l.fn.path.items l.so (drop l.name-index l.names) o
      → Follows (g.R.ModuleReader.reading l.reader) (g.F.Files.holds l.fn.files) l.folder l.fn.path.items l.fn.so l.names o;
  path : l.path.items ≡ l.fn.path.items;
  going : IsGoing (g.F.Files.holds l.files) l.folder l.so l.texts.items;
  stays : Stays l.fn.so l.so;
  same : g.F.Files.holds l.files ≡ g.F.Files.holds l.fn.files;
  later : g.F.Files.faults l.fn.files ≤ g.F.Files.faults l.files;
  quiet : g.F.Files.failures l.files ≡ g.F.Files.failures l.fn.files;
}

abbrev pub invariant-make_all-loop-unit : goal.invariant-make_all-loop-unit
invariant-make_all-loop-unit g l = record {
  rest : (o : OutcomeOf g.row.R-Note.Denot) → MakesAll (g.R.ModuleReader.reading l.reader) (g.F.Files.holds l.fn.files) l.folder l.fn.path.items l.so (drop l.unit-index l.units) o
      → MakesAll (g.R.ModuleReader.reading l.reader) (g.F.Files.holds l.fn.files) l.folder l.fn.path.items l.fn.so l.units o;
  path : l.path.items ≡ l.fn.path.items;
  going : IsGoing (g.F.Files.holds l.files) l.folder l.so l.texts.items;
  stays : Stays l.fn.so l.so;
  same : g.F.Files.holds l.files ≡ g.F.Files.holds l.fn.files;
  later : g.F.Files.faults l.fn.files ≤ g.F.Files.faults l.files;
  quiet : g.F.Files.failures l.files ≡ g.F.Files.failures l.fn.files;
}
