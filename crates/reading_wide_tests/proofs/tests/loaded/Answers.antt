use Rattle.reading_wide_tests.proofs.tests.loaded.Goals as goal

pub load_modules-requires : goal.load_modules-requires
load_modules-requires c = (c.in-Some._folder.now, c.in-Some._name.now, c.in-Some.ensures)
