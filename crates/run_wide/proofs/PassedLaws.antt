-- What stays in what is passed on.
use Rattle.std.proofs.Common.{◌≡◌, ◌≢◌, ◌∙◌, inl, inr, ℕ, List, [], ◌∷◌, ◌++◌, map, refl, sym}
use Rattle.std.specs.Prelude.{All, Bool, true, false, codes, nat_eq, if◌then◌else◌, Option}
use Rattle.std.proofs.lemmas.List.{get_or_default}
use Rattle.std.proofs.lemmas.List.Elements.{All-append, All-cons, All-nil}
use Rattle.std.proofs.lemmas.List.Folds.{list_any-from_Any}
use Rattle.base_core.specs.declared.place.Place.{Place}
use Rattle.reading_trees.specs.declared.config.Config.{Config}
use Rattle.reading_trees.specs.declared.module.Program.{Program}
use Rattle.reading_trees.specs.declared.module.Unit.{Unit as ModuleUnit}
use Rattle.reading_pieces.specs.declared.mark.Mark.{Mark}
use Rattle.reading_pieces.specs.declared.mark.Mark.TheVariants.{Declare, Assume, Local, Instance, Name}
use Rattle.reading_modules.specs.declared.notes.Noted.{Noted}
use Rattle.reading_laws.specs.Telling.{HasNoFeed}
use Rattle.names_resolved_laws.specs.Pruning.{LeftIsWellFormed, SpelledIsWellFormed}
use Rattle.run_texts.specs.Places.{at_place, detail}
use Rattle.names_resolved_laws.specs.InOrder.{IsWellFormed}
use Rattle.reading_wide_modules.specs.declared.unread.Unread.{Unread}
use Rattle.names_pruning.specs.declared.telling.PassedOver.{PassedOver}
use Rattle.names_pruning.specs.declared.telling.PassedOver.TheVariants.{Definition, Assumption}
use Rattle.names_pruning.specs.Needed.{needed_names}
use Rattle.names_pruning.specs.Told.{told}
use Rattle.run_wide.specs.Laws.{PassedAreLines, PassedAreSpelled, PassedAreWellFormed, PassedHaveFiles, PassedHaveOneForm}
use Rattle.run_wide.specs.Lines.{has_feed, in_one_line, is_silent, named_line, named_lines, over_line, passed_lines, piece_lines, placed_line, unread_lines, word_of}
use Rattle.run_wide.specs.Needing.{names_unread}
use Rattle.run_wide.specs.Passing.{Leaves, goes_on, has_many, is_whole, needed_alone, needed_alone_of_it, spelled, without_bad, without_word}

-- ---- programs

left_formed : LeftIsWellFormed → (p : Program) (c : Config) (silent : Option (List ℕ)) (unread : List (Noted Unread)) (q : Program) (over : List ModuleUnit)
    → Leaves p c silent unread q over → IsWellFormed p → IsWellFormed q
left_formed law p c silent unread _ _ (without_bad q over s pruned resolved) h = law p c (names_unread unread) (needed_names c silent) q over (inl pruned) h
left_formed law p c silent unread _ _ (needed_alone q over bad alone) h = law p c (names_unread unread) (needed_names c silent) q over (inr alone) h
left_formed law p c silent unread _ _ (needed_alone_of_it r q gone over fault pruned refused alone) h =
    law r c (names_unread unread) (needed_names c silent) q over (inr alone) (law p c (names_unread unread) (needed_names c silent) r gone (inl pruned) h)

pub well_formed : LeftIsWellFormed → SpelledIsWellFormed → PassedAreWellFormed
well_formed law spells _ p _ c _ silent unread without_word h = h
well_formed law spells _ p _ c _ silent unread (is_whole s none resolved) h = h
well_formed law spells _ p _ c _ silent unread (has_many more) h = h
well_formed law spells _ p _ c _ silent unread (goes_on q over not_whole none leaves) h =
    left_formed law (spelled p c unread) c silent unread q over leaves (spells p c (names_unread unread) h)

left_files : (p : Program) (c : Config) (silent : Option (List ℕ)) (unread : List (Noted Unread)) (q : Program) (over : List ModuleUnit)
    → Leaves p c silent unread q over → q.files ≡ p.files
left_files p c silent unread _ _ (without_bad q over s pruned resolved) = pruned.without.files
left_files p c silent unread _ _ (needed_alone q over bad alone) = alone.files
left_files p c silent unread _ _ (needed_alone_of_it r q gone over fault pruned refused alone) = alone.files ∙ pruned.without.files

pub files_are : PassedHaveFiles
files_are _ p _ c _ silent unread without_word = (refl, refl)
files_are _ p _ c _ silent unread (is_whole s none resolved) = (refl, refl)
files_are _ p _ c _ silent unread (has_many more) = (refl, refl)
files_are _ p _ c _ silent unread (goes_on q over not_whole none leaves) = (left_files (spelled p c unread) c silent unread q over leaves, refl)

-- ---- configurations

pub values_are : PassedAreSpelled
values_are _ p _ c _ silent unread without_word h = h
values_are _ p _ c _ silent unread (is_whole s none resolved) h = h
values_are _ p _ c _ silent unread (has_many more) h = h
values_are _ p _ c _ silent unread (goes_on q over not_whole none leaves) h = h

pub one_form : PassedHaveOneForm
one_form _ p _ c _ silent unread without_word h = h
one_form _ p _ c _ silent unread (is_whole s none resolved) h = h
one_form _ p _ c _ silent unread (has_many more) h = h
one_form _ p _ c _ silent unread (goes_on q over not_whole none leaves) h = h

-- ---- lines

differ : true ≢ false
differ e = cc

no_feed : (text : List ℕ) → has_feed text ≡ false → HasNoFeed text
no_feed text e k d l is =
    differ (sym (list_any-from_Any (λ b. nat_eq b 10) text (k, 10, l, get_or_default text k 10 d l ∙ is, refl)) ∙ e)

one_of : (b : Bool) (word text : List ℕ) → has_feed text ≡ b → HasNoFeed word → HasNoFeed (if b then word else text)
one_of true word text e h = h
one_of false word text e h = no_feed text e

in_line : (word text : List ℕ) → HasNoFeed word → HasNoFeed (in_one_line word text)
in_line word text h = one_of (has_feed text) word text refl h

word_in_line : (m : Mark) → HasNoFeed (word_of m)
word_in_line Assume = no_feed (word_of Assume) refl
word_in_line Instance = no_feed (word_of Instance) refl
word_in_line Declare = no_feed (word_of Declare) refl
word_in_line Local = no_feed (word_of Local) refl
word_in_line Name = no_feed (word_of Name) refl
word_in_line m = no_feed (word_of m) refl

each_named : (files : List (List ℕ)) (word : List ℕ) (at : Place) (names : List (List ℕ)) → HasNoFeed word → All HasNoFeed (map (named_line files word at) names)
each_named files word at [] h = All-nil HasNoFeed
each_named files word at (n ∷ names) h =
    All-cons HasNoFeed (named_line files word at n) (map (named_line files word at) names) (in_line word (word ++ detail n ++ at_place files at) h) (each_named files word at names h)

all_named : (files : List (List ℕ)) (word : List ℕ) (at : Place) (names : List (List ℕ)) → HasNoFeed word → All HasNoFeed (named_lines files word at names)
all_named files word at [] h = All-cons HasNoFeed (placed_line files word at) [] (in_line word (word ++ at_place files at) h) (All-nil HasNoFeed)
all_named files word at (n ∷ names) h = each_named files word at (n ∷ names) h

if_told : (silent : Bool) (lines : List (List ℕ)) → All HasNoFeed lines → All HasNoFeed (if silent then [] else lines)
if_told true lines h = All-nil HasNoFeed
if_told false lines h = h

all_unread : (files : List (List ℕ)) (unread : List (Noted Unread)) → All HasNoFeed (unread_lines files unread)
all_unread files [] = All-nil HasNoFeed
all_unread files (n ∷ unread) =
    let begins = n.note.begins in
    All-append HasNoFeed (piece_lines files begins n.note.at n.note.names) (unread_lines files unread)
    (if_told (is_silent begins) (named_lines files (word_of begins) n.note.at n.note.names) (all_named files (word_of begins) n.note.at n.note.names (word_in_line begins)))
    (all_unread files unread)

over_in_line : (files : List (List ℕ)) (o : PassedOver) → HasNoFeed (over_line files o)
over_in_line files (Definition name at) =
    in_line (codes "DEFINITION") (codes "DEFINITION" ++ detail name ++ at_place files at) (no_feed (codes "DEFINITION") refl)
over_in_line files (Assumption at) = in_line (codes "ASSUME") (codes "ASSUME" ++ at_place files at) (no_feed (codes "ASSUME") refl)

all_over : (files : List (List ℕ)) (over : List PassedOver) → All HasNoFeed (map (over_line files) over)
all_over files [] = All-nil HasNoFeed
all_over files (o ∷ over) = All-cons HasNoFeed (over_line files o) (map (over_line files) over) (over_in_line files o) (all_over files over)

pub lines_are : PassedAreLines
lines_are _ p _ c _ silent unread without_word h = h
lines_are _ p _ c _ silent unread (is_whole s none resolved) h = h
lines_are _ p _ c _ silent unread (has_many more) h = h
lines_are _ p _ c _ silent unread (goes_on q over not_whole none leaves) h =
    All-append HasNoFeed c.unchecked (passed_lines p.files unread over) h
    (All-append HasNoFeed (unread_lines p.files unread) (map (over_line p.files) (told over)) (all_unread p.files unread) (all_over p.files (told over)))
