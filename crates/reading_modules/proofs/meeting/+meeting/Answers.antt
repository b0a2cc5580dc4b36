-- proofs/meeting/+meeting/Answers.antt
use Rattle.std.proofs.Common.{rules, ◌≡◌, ◌≤◌, ◌<◌, refl, sym, ap, ◌∙◌, subst, arith, ℕ, ◌+◌, List, Some, None, true, false, length, drop}
use Rattle.std.specs.Prelude.{option_copied}
use Rattle.reading_trees.specs.declared.module.Unit.{Unit as ModuleUnit}
use Rattle.reading_modules.specs.Flattened.{HasRoom, IsAllowed, MakesAll, OutcomeOf, most_modules, number_of, was_read}
use Rattle.reading_modules.specs.Instances.{made_by}
use Rattle.reading_modules.specs.Parts.{IsGoing}
use Rattle.reading_modules.specs.Refusals.{told_by}
use Rattle.reading_modules.specs.Standard.{is_among}
use Rattle.reading_modules.proofs.Walks.{follows_on, follows_stop, follows_all, cut_at, cut_end, met_cycle, is_away, met_listed, met_whole, met_stopped, too_many, visit_nested, visit_refused, finish_stopped, finish_whole, makes_all, makes_on, makes_past, makes_stop, stays_on, units_at, units_end}
use Rattle.reading_modules.proofs.Ending.{ends_stopped_within, ends_whole}
use Rattle.reading_modules.proofs.Going.{fewer_left, passed_made, going_as, inner_going, inner_left, listed_going, listed_stays, made_stopped, made_whole, makes_as, module_left, nested_caused, all_told_from, nested_told, no_stop, quiet_from, stays_quiet, told_from, stays_as, stays_so, visited_going}
use Rattle.reading_modules.proofs.Kept.{number_at, number_few}
use Rattle.reading_modules.proofs.meeting.+meeting.Goals as goal
use Rattle.reading_modules.proofs.meeting.+meeting.Goals.{make_all-in-Some+in-Ok, make_all-in_default}

pub follow-returns-in-Err-clause-stopped : goal.follow-returns-in-Err-clause-stopped
follow-returns-in-Err-clause-stopped g t c =
    let names = c.args.names.now in
    let i = c.loop-name.name-index in
    follows_stop (g.R.ModuleReader.reading c.args.reader.now) (g.F.Files.holds c.args.files.now) (g.F.Files.holds c.loop-name.files) c.args.folder.now c.args.path.now.items
    c.loop-name.path.items c.args.so.now c.loop-name.so c.meet.new.so c.name-item.result names (drop i names) (drop (i + 1) names) c.in-Err.stop
    c.loop-name.invariant.same c.loop-name.invariant.path (cut_at names i c.name-item.result c.loop-name-test.true c.name-item.is)
    c.loop-name.invariant.rest c.in-Err.ensures.stopped

pub follow-loop-name-preserved : goal.follow-loop-name-preserved
follow-loop-name-preserved g t c =
    let names = c.args.names.now in
    let i = c.loop-name.name-index in
    record {
      rest = follows_on (g.R.ModuleReader.reading c.args.reader.now) (g.F.Files.holds c.args.files.now) (g.F.Files.holds c.loop-name.files) c.args.folder.now c.args.path.now.items
          c.loop-name.path.items c.args.so.now c.loop-name.so c.meet.new.so c.name-item.result names (drop i names) (drop (i + 1) names)
          c.loop-name.invariant.same c.loop-name.invariant.path (cut_at names i c.name-item.result c.loop-name-test.true c.name-item.is)
          c.loop-name.invariant.rest c.in-Ok.ensures.met;
      path = c.in-Ok.ensures.path ∙ c.loop-name.invariant.path;
      going = c.in-Ok.ensures.going;
      stays = stays_on c.args.so.now c.loop-name.so c.meet.new.so c.loop-name.invariant.stays c.in-Ok.ensures.stays;
      same = c.meet.ensures.same ∙ c.loop-name.invariant.same;
      later = omega (arith, c.meet.ensures.later, c.loop-name.invariant.later);
      quiet = c.in-Ok.ensures.quiet ∙ c.loop-name.invariant.quiet;
    }

pub follow-returns-clause-followed : goal.follow-returns-clause-followed
follow-returns-clause-followed g t c =
    let names = c.args.names.now in
    let i = c.loop-name.name-index in
    follows_all (g.R.ModuleReader.reading c.args.reader.now) (g.F.Files.holds c.args.files.now) c.args.folder.now c.args.path.now.items c.args.so.now c.loop-name.so names (drop i names)
    (cut_end names i (omega arith)) c.loop-name.invariant.rest

pub meet-returns-in-Some-clause-stopped : goal.meet-returns-in-Some-clause-stopped
meet-returns-in-Some-clause-stopped g t c =
    met_cycle (g.R.ModuleReader.reading c.args.reader.now) (g.F.Files.holds c.args.files.now) c.args.folder.now c.args.path.now.items c.deref.result.now c.args.so.now c.args.name.now
    c.in_ok-names.field-0 c.in-Some.names c.deref.ensures.value c.in-Some.is c.in_ok-names.ensures

pub meet-returns-then-is_standard-clause-met : goal.meet-returns-then-is_standard-clause-met
meet-returns-then-is_standard-clause-met g t c =
    met_listed (g.R.ModuleReader.reading c.args.reader.now) (g.F.Files.holds c.args.files.now) c.args.folder.now c.args.path.now.items c.args.so.now c.list_standard.new.so c.args.name.now
    c.list_standard.result
    (is_away c.args.path.now.items c.deref.result.now c.args.name.now c.in_ok-names.field-0 c.deref.ensures.value c.in_default.is c.in_ok-names.ensures)
    (sym c.is_standard.ensures ∙ c.if-is_standard.true) c.list_standard.ensures.listed

pub meet-returns-then-is_among-clause-met : goal.meet-returns-then-is_among-clause-met
meet-returns-then-is_among-clause-met g t c =
    let so = c.args.so.now in
    let name = c.args.name.now in
    let here : is_among name so.own ≡ true =
    subst (λ (ms : List (List ℕ)). is_among name ms ≡ true) c.items.ensures (sym c.is_among.ensures ∙ c.if-is_among.true) in
    was_read c.args.path.now.items so name
    (is_away c.args.path.now.items c.deref.result.now name c.in_ok-names.field-0 c.deref.ensures.value c.in_default.is c.in_ok-names.ensures)
    (sym c.is_standard.ensures ∙ c.if-is_standard.false) here

pub meet-returns-then-is_full-clause-stopped : goal.meet-returns-then-is_full-clause-stopped
meet-returns-then-is_full-clause-stopped g t c =
    let so = c.args.so.now in
    let name = c.args.name.now in
    let new : is_among name so.own ≡ false =
    subst (λ (ms : List (List ℕ)). is_among name ms ≡ false) c.items.ensures (sym c.is_among.ensures ∙ c.if-is_among.false) in
    too_many (g.R.ModuleReader.reading c.args.reader.now) (g.F.Files.holds c.args.files.now) c.args.folder.now c.args.path.now.items so name c.in_ok-copy.field-0
    (is_away c.args.path.now.items c.deref.result.now name c.in_ok-names.field-0 c.deref.ensures.value c.in_default.is c.in_ok-names.ensures)
    (sym c.is_standard.ensures ∙ c.if-is_standard.false) new (c.is_full.ensures.full c.if-is_full.true) c.in_ok-copy.ensures

pub meet-returns-clause-met : goal.meet-returns-clause-met
meet-returns-clause-met g t c =
    let so = c.args.so.now in
    let name = c.args.name.now in
    let new : is_among name so.own ≡ false =
    subst (λ (ms : List (List ℕ)). is_among name ms ≡ false) c.items.ensures (sym c.is_among.ensures ∙ c.if-is_among.false) in
    met_whole (g.R.ModuleReader.reading c.args.reader.now) (g.F.Files.holds c.args.files.now) c.args.folder.now c.args.path.now.items so c.visit.new.so name c.visit.result
    (is_away c.args.path.now.items c.deref.result.now name c.in_ok-names.field-0 c.deref.ensures.value c.in_default.is c.in_ok-names.ensures)
    (sym c.is_standard.ensures ∙ c.if-is_standard.false) new (c.is_full.ensures.room c.if-is_full.false) c.visit.ensures.visited

pub meet-returns-clause-stopped : goal.meet-returns-clause-stopped
meet-returns-clause-stopped g t c =
    let so = c.args.so.now in
    let name = c.args.name.now in
    let new : is_among name so.own ≡ false =
    subst (λ (ms : List (List ℕ)). is_among name ms ≡ false) c.items.ensures (sym c.is_among.ensures ∙ c.if-is_among.false) in
    met_stopped (g.R.ModuleReader.reading c.args.reader.now) (g.F.Files.holds c.args.files.now) c.args.folder.now c.args.path.now.items so c.visit.new.so name c.visit.result
    (is_away c.args.path.now.items c.deref.result.now name c.in_ok-names.field-0 c.deref.ensures.value c.in_default.is c.in_ok-names.ensures)
    (sym c.is_standard.ensures ∙ c.if-is_standard.false) new (c.is_full.ensures.room c.if-is_full.false) c.visit.ensures.stopped

pub meet-returns-then-is_standard-clause-going : goal.meet-returns-then-is_standard-clause-going
meet-returns-then-is_standard-clause-going g t c =
    let going : IsGoing (g.F.Files.holds c.args.files.now) c.args.folder.now c.args.so.now c.args.texts.now.items = search (rules, c.requires) in
    listed_going (g.F.Files.holds c.args.files.now) c.args.folder.now c.args.so.now c.list_standard.new.so c.args.name.now c.args.texts.now.items c.list_standard.result
    c.list_standard.ensures.listed going

pub meet-returns-then-is_standard-clause-stays : goal.meet-returns-then-is_standard-clause-stays
meet-returns-then-is_standard-clause-stays g t c =
    listed_stays c.args.so.now c.list_standard.new.so c.args.name.now c.list_standard.result c.list_standard.ensures.listed

pub meet-returns-then-is_among-clause-stays : goal.meet-returns-then-is_among-clause-stays
meet-returns-then-is_among-clause-stays g t c = stays_so c.args.so.now

pub follow-meet-requires : goal.follow-meet-requires
follow-meet-requires g t c =
    let less = fewer_left c.args.so.now c.loop-name.so 1 2 c.loop-name.invariant.stays (omega arith) in
    search (rules, less, c.loop-name.invariant.going, c.requires)

pub make-meet-requires : goal.make-meet-requires
make-meet-requires g t c =
    let outside : c.args.so.now.of_instance ≡ false = c.if-so.false in
    let going : IsGoing (g.F.Files.holds c.args.files.now) c.args.folder.now c.args.so.now c.args.texts.now.items = search (rules, c.requires) in
    let inner = c.of_instance-inner.result in
    let less = inner_left c.args.so.now inner c.replace-modules.result c.of_instance-inner.ensures outside in
    let begun = inner_going (g.F.Files.holds c.args.files.now) c.args.folder.now c.args.so.now inner c.replace-modules.result c.args.texts.now.items c.of_instance-inner.ensures
    c.replace-modules.ensures.value going in
    search (rules, less, begun, c.requires)

pub make-returns-in-Ok-clause-made : goal.make-returns-in-Ok-clause-made
make-returns-in-Ok-clause-made g t c =
    made_whole (g.R.ModuleReader.reading c.args.reader.now) (g.F.Files.holds c.args.files.now) c.args.folder.now c.args.path.now.items c.args.so.now c.of_instance-inner.result c.meet.new.so c.add_instance.new.so c.replace-modules.result
    c.args.made.now c.add_instance.result c.if-so.false c.of_instance-inner.ensures c.replace-modules.ensures.value c.in-Ok.ensures.met c.add_instance.ensures.added

pub make-returns-in-Err-clause-stopped : goal.make-returns-in-Err-clause-stopped
make-returns-in-Err-clause-stopped g t c =
    made_stopped (g.R.ModuleReader.reading c.args.reader.now) (g.F.Files.holds c.args.files.now) c.args.folder.now c.args.path.now.items c.args.so.now c.of_instance-inner.result c.replace-modules.result c.meet.new.so.modules c.args.made.now
    c.in-Err.stop c.if-so.false c.of_instance-inner.ensures c.replace-modules.ensures.value c.in-Err.ensures.stopped

pub make_all-make-requires : goal.make_all-make-requires
make_all-make-requires g t c =
    let less = fewer_left c.args.so.now c.loop-unit.so 3 4 c.loop-unit.invariant.stays (omega arith) in
    search (rules, less, c.loop-unit.invariant.going, c.requires)

pub make_all-returns-in-Err-clause-stopped : goal.make_all-returns-in-Err-clause-stopped
make_all-returns-in-Err-clause-stopped g t c =
    let units = c.args.units.now in
    let i = c.loop-unit.unit-index in
    makes_stop (g.R.ModuleReader.reading c.args.reader.now) (g.F.Files.holds c.args.files.now) (g.F.Files.holds c.loop-unit.files) c.args.folder.now c.args.path.now.items c.loop-unit.path.items c.args.so.now c.loop-unit.so c.make.new.so
    c.unit-item.result c.in-Some.made.now units (drop i units) (drop (i + 1) units) c.in-Err.stop c.loop-unit.invariant.same c.loop-unit.invariant.path
    (units_at units i c.unit-item.result c.loop-unit-test.true c.unit-item.is) (sym c.in-Some.ensures) c.loop-unit.invariant.rest c.in-Err.ensures.stopped

pub make_all-loop-unit-preserved : goal.make_all-loop-unit-preserved
make_all-loop-unit-preserved g t c =
    let units = c.args.units.now in
    let i = c.loop-unit.unit-index in
    let cut = units_at units i c.unit-item.result c.loop-unit-test.true c.unit-item.is in
    elim c.match-made_by.branch [
      | make_all-in-Some+in-Ok w ↦
          let held = ap (λ f. g.F.Files.holds f) w.files-is in
          let rose = ap (λ f. g.F.Files.faults f) w.files-is in
          record {
            rest = λ o all.
                makes_on (g.R.ModuleReader.reading c.args.reader.now) (g.F.Files.holds c.args.files.now) (g.F.Files.holds c.loop-unit.files) c.args.folder.now c.args.path.now.items c.loop-unit.path.items c.args.so.now c.loop-unit.so w.make.new.so
                c.unit-item.result w.in-Some.made.now units (drop i units) (drop (i + 1) units) c.loop-unit.invariant.same c.loop-unit.invariant.path cut (sym w.in-Some.ensures)
                c.loop-unit.invariant.rest w.in-Ok.ensures.made o
                (makes_as (g.R.ModuleReader.reading c.args.reader.now) (g.F.Files.holds c.args.files.now) c.args.folder.now c.args.path.now.items w.make.new.so c.match-made_by.so (drop (i + 1) units) o w.so-is all);
            path = ap (λ p. p.items) w.path-is ∙ w.in-Ok.ensures.path ∙ c.loop-unit.invariant.path;
            going = going_as (g.F.Files.holds w.make.new.files) (g.F.Files.holds c.match-made_by.files) c.args.folder.now w.make.new.so c.match-made_by.so w.make.new.texts.items
                c.match-made_by.texts.items held w.so-is (ap (λ p. p.items) w.texts-is) w.in-Ok.ensures.going;
            stays = stays_as c.args.so.now w.make.new.so c.match-made_by.so w.so-is (stays_on c.args.so.now c.loop-unit.so w.make.new.so c.loop-unit.invariant.stays w.in-Ok.ensures.stays);
            same = held ∙ w.make.ensures.same ∙ c.loop-unit.invariant.same;
            later = omega (arith, rose, w.make.ensures.later, c.loop-unit.invariant.later);
            quiet = ap (λ f. g.F.Files.failures f) w.files-is ∙ w.in-Ok.ensures.quiet ∙ c.loop-unit.invariant.quiet;
          }
      | make_all-in_default w ↦
          let held = ap (λ f. g.F.Files.holds f) w.files-is in
          let rose = ap (λ f. g.F.Files.faults f) w.files-is in
          let none : made_by c.unit-item.result ≡ None = sym c.made_by.ensures ∙ ap (λ o. option_copied o) w.in_default.is in
          record {
            rest = λ o all.
                makes_past (g.R.ModuleReader.reading c.args.reader.now) (g.F.Files.holds c.args.files.now) c.args.folder.now c.args.path.now.items c.args.so.now c.loop-unit.so c.unit-item.result units (drop i units) (drop (i + 1) units) cut none
                c.loop-unit.invariant.rest o
                (makes_as (g.R.ModuleReader.reading c.args.reader.now) (g.F.Files.holds c.args.files.now) c.args.folder.now c.args.path.now.items c.loop-unit.so c.match-made_by.so (drop (i + 1) units) o w.so-is all);
            path = ap (λ p. p.items) w.path-is ∙ c.loop-unit.invariant.path;
            going = going_as (g.F.Files.holds c.loop-unit.files) (g.F.Files.holds c.match-made_by.files) c.args.folder.now c.loop-unit.so c.match-made_by.so c.loop-unit.texts.items
                c.match-made_by.texts.items held w.so-is (ap (λ p. p.items) w.texts-is) c.loop-unit.invariant.going;
            stays = stays_as c.args.so.now c.loop-unit.so c.match-made_by.so w.so-is c.loop-unit.invariant.stays;
            same = held ∙ c.loop-unit.invariant.same;
            later = omega (arith, rose, c.loop-unit.invariant.later);
            quiet = ap (λ f. g.F.Files.failures f) w.files-is ∙ c.loop-unit.invariant.quiet;
          }
    ]

pub make_all-returns-clause-made : goal.make_all-returns-clause-made
make_all-returns-clause-made g t c =
    let units = c.args.units.now in
    let i = c.loop-unit.unit-index in
    makes_all (g.R.ModuleReader.reading c.args.reader.now) (g.F.Files.holds c.args.files.now) c.args.folder.now c.args.path.now.items c.args.so.now c.loop-unit.so units (drop i units)
    (units_end units i (omega arith)) c.loop-unit.invariant.rest

pub finish-make_all-requires : goal.finish-make_all-requires
finish-make_all-requires g t c =
    let less = fewer_left c.args.so.now c.follow.new.so 4 5 c.in-Ok.ensures.stays (omega arith) in
    search (rules, less, c.in-Ok.ensures.going, c.requires)

pub finish-returns-clause-followed : goal.finish-returns-clause-followed
finish-returns-clause-followed g t c =
    ends_whole (g.R.ModuleReader.reading c.args.reader.now) (g.F.Files.holds c.args.files.now) (g.F.Files.holds c.follow.new.files) c.args.folder.now c.args.path.now.items c.push.new.self.items c.follow.new.path.items c.items.result.now
    c.args.so.now c.follow.new.so c.make_all.new.so c.args.number c.args.read.module c.args.read.notes.items c.items-2.result.now c.append.new.self c.add.new.self
    c.in_ok-push.ensures.items c.items.ensures c.in-Ok.ensures.followed c.follow.ensures.same c.in-Ok.ensures.path c.items-2.ensures c.in-Ok-make_all.ensures.made
    c.in_ok-append.ensures.appended c.in_ok-add.ensures

pub finish-returns-in-Err-make_all-clause-stopped : goal.finish-returns-in-Err-make_all-clause-stopped
finish-returns-in-Err-make_all-clause-stopped g t c =
    ends_stopped_within (g.R.ModuleReader.reading c.args.reader.now) (g.F.Files.holds c.args.files.now) (g.F.Files.holds c.follow.new.files) c.args.folder.now c.args.path.now.items c.push.new.self.items c.follow.new.path.items
    c.items.result.now c.args.so.now c.follow.new.so c.make_all.new.so.modules c.args.read.module c.items-2.result.now c.in-Err-make_all.stop c.in_ok-push.ensures.items
    c.items.ensures c.in-Ok.ensures.followed c.follow.ensures.same c.in-Ok.ensures.path c.items-2.ensures c.in-Err-make_all.ensures.stopped

pub visit-overflow_cast-number : goal.visit-overflow_cast-number
visit-overflow_cast-number g t c =
    let going : IsGoing (g.F.Files.holds c.args.files.now) c.args.folder.now c.args.so.now c.args.texts.now.items = search (rules, c.requires) in
    let at = number_at c.number_of-number.result c.args.name.now c.items.result.now c.args.so.now.modules c.number_of-number.ensures c.items.ensures in
    let low = number_few c.number_of-number.result c.args.name.now c.args.so.now.modules at going.few in
    omega (arith, low)

pub visit-finish-requires : goal.visit-finish-requires
visit-finish-requires g t c =
    let so = c.args.so.now in
    let room : HasRoom so c.args.name.now = search (rules, c.requires) in
    let going : IsGoing (g.F.Files.holds c.args.files.now) c.args.folder.now so c.args.texts.now.items = search (rules, c.requires) in
    let less = module_left so.of_instance so.own c.push.new.self c.in_ok-copy.field-0 c.in_ok-push.ensures.pushed room.0 in
    let goes = visited_going (g.F.Files.holds c.args.files.now) (g.F.Files.holds c.read_module.new.files) c.args.folder.now so c.read_module.new.modules c.push.new.self c.args.name.now
    c.read_module.new.texts.items c.read_module.ensures.same room going.few c.in-Ok.ensures.sought c.in-Ok.ensures.kept in
    search (rules, less, goes, c.requires)

pub visit-returns-in-Err-clause-stopped : goal.visit-returns-in-Err-clause-stopped
visit-returns-in-Err-clause-stopped g t c =
    let so = c.args.so.now in
    visit_refused (g.R.ModuleReader.reading c.args.reader.now) (g.F.Files.holds c.args.files.now) c.args.folder.now c.args.path.now.items so c.read_module.new.modules c.args.name.now c.in-Err.stop c.in-Err.ensures.last c.in-Err.ensures.refused

pub visit-returns-in-Err-check_nested-clause-stopped : goal.visit-returns-in-Err-check_nested-clause-stopped
visit-returns-in-Err-check_nested-clause-stopped g t c =
    visit_nested (g.R.ModuleReader.reading c.args.reader.now) (g.F.Files.holds c.args.files.now) c.args.folder.now c.args.path.now.items c.args.so.now c.read_module.new.modules c.args.name.now c.in-Ok.read.module c.in-Ok.read.notes.items
    c.in-Err-check_nested.stop c.in-Ok.ensures.sought c.in-Ok.ensures.read c.in-Err-check_nested.ensures.nested

pub visit-returns-clause-visited : goal.visit-returns-clause-visited
visit-returns-clause-visited g t c =
    let so = c.args.so.now in
    let at = number_at c.number_of-number.result c.args.name.now c.items.result.now so.modules c.number_of-number.ensures c.items.ensures in
    finish_whole (g.R.ModuleReader.reading c.args.reader.now) (g.F.Files.holds c.args.files.now) (g.F.Files.holds c.read_module.new.files) c.args.folder.now c.args.path.now.items so c.finish.new.so c.read_module.new.modules c.push.new.self
    c.in_ok-copy.field-0 c.args.name.now c.number_of-number.result c.in-Ok.read.module c.in-Ok.read.notes.items c.finish.result c.read_module.ensures.same at
    c.in-Ok.ensures.sought c.in_ok-push.ensures.pushed c.in_ok-copy.ensures c.in-Ok.ensures.read c.in-Ok-check_nested.ensures.allowed c.finish.ensures.followed

pub visit-returns-clause-stopped : goal.visit-returns-clause-stopped
visit-returns-clause-stopped g t c =
    finish_stopped (g.R.ModuleReader.reading c.args.reader.now) (g.F.Files.holds c.args.files.now) (g.F.Files.holds c.read_module.new.files) c.args.folder.now c.args.path.now.items c.args.so.now c.finish.new.so c.read_module.new.modules
    c.push.new.self c.in_ok-copy.field-0 c.args.name.now c.in-Ok.read.module c.in-Ok.read.notes.items c.finish.result c.read_module.ensures.same c.in-Ok.ensures.sought
    c.in_ok-push.ensures.pushed c.in_ok-copy.ensures c.in-Ok.ensures.read c.in-Ok-check_nested.ensures.allowed c.finish.ensures.stopped

pub make-returns-then-so-clause-made : goal.make-returns-then-so-clause-made
make-returns-then-so-clause-made g t c =
    passed_made (g.R.ModuleReader.reading c.args.reader.now) (g.F.Files.holds c.args.files.now) c.args.folder.now c.args.path.now.items c.args.so.now c.args.made.now
    c.if-so.true

pub make-returns-then-so-clause-stays : goal.make-returns-then-so-clause-stays
make-returns-then-so-clause-stays g t c = stays_so c.args.so.now

-- which calls on files failed

pub follow-returns-in-Err-clause-told : goal.follow-returns-in-Err-clause-told
follow-returns-in-Err-clause-told g t c =
    told_from (g.F.Files.failures c.args.files.now) (g.F.Files.failures c.loop-name.files) (g.F.Files.failures c.meet.new.files) c.in-Err.stop c.loop-name.invariant.quiet
    c.in-Err.ensures.told

pub make_all-returns-in-Err-clause-told : goal.make_all-returns-in-Err-clause-told
make_all-returns-in-Err-clause-told g t c =
    told_from (g.F.Files.failures c.args.files.now) (g.F.Files.failures c.loop-unit.files) (g.F.Files.failures c.make.new.files) c.in-Err.stop c.loop-unit.invariant.quiet
    c.in-Err.ensures.told

pub make-returns-in-Ok-clause-told : goal.make-returns-in-Ok-clause-told
make-returns-in-Ok-clause-told g t c =
    no_stop (λ why. g.F.Files.failures c.meet.new.files ≡ told_by why (g.F.Files.failures c.args.files.now)) c.add_instance.result c.add_instance.ensures.no_refusal

pub make-returns-in-Ok-clause-quiet : goal.make-returns-in-Ok-clause-quiet
make-returns-in-Ok-clause-quiet g t c =
    stays_quiet (g.F.Files.failures c.args.files.now) (g.F.Files.failures c.meet.new.files) c.add_instance.result c.in-Ok.ensures.quiet

pub finish-returns-in-Err-make_all-clause-told : goal.finish-returns-in-Err-make_all-clause-told
finish-returns-in-Err-make_all-clause-told g t c =
    told_from (g.F.Files.failures c.args.files.now) (g.F.Files.failures c.follow.new.files) (g.F.Files.failures c.make_all.new.files) c.in-Err-make_all.stop c.in-Ok.ensures.quiet
    c.in-Err-make_all.ensures.told

pub visit-returns-in-Err-check_nested-clause-told : goal.visit-returns-in-Err-check_nested-clause-told
visit-returns-in-Err-check_nested-clause-told g t c =
    nested_told (g.R.ModuleReader.reading c.args.reader.now) (g.F.Files.failures c.args.files.now) (g.F.Files.failures c.read_module.new.files) _ c.in-Ok.read.module
    c.in-Err-check_nested.stop c.in-Ok.ensures.quiet c.in-Err-check_nested.ensures.nested

pub visit-returns-clause-quiet : goal.visit-returns-clause-quiet
visit-returns-clause-quiet g t c =
    quiet_from (g.F.Files.failures c.args.files.now) (g.F.Files.failures c.read_module.new.files) (g.F.Files.failures c.finish.new.files) c.finish.result c.in-Ok.ensures.quiet
    c.finish.ensures.quiet

pub visit-returns-clause-told : goal.visit-returns-clause-told
visit-returns-clause-told g t c =
    all_told_from (g.F.Files.failures c.args.files.now) (g.F.Files.failures c.read_module.new.files) (g.F.Files.failures c.finish.new.files) c.finish.result c.in-Ok.ensures.quiet
    c.finish.ensures.told
