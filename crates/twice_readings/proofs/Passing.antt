-- Of pieces that are told the same the same is passed over, and of one program with its configuration one program and one configuration are left.
use Rattle.std.proofs.Common.{◌≡◌, ◌⊎◌, ◌<◌, ◌≤◌, ℕ, List, [], ◌∷◌, ◌++◌, length, length-append, map, Option, Some, Ok, Err, inl, inr, refl, ap, sym, ◌∙◌, subst, arith}
use Rattle.std.specs.Prelude.{◌≢◌, Bool, true, false, slice_get}
use Rattle.std.proofs.Math.Seq.{get_or-append_seam}
use Rattle.std.proofs.lemmas.List.{append_assoc}
use Rattle.std.proofs.lemmas.Option.{slice_get_read}
use Rattle.base_core.specs.declared.place.Place.{Place}
use Rattle.reading_trees.specs.declared.config.Config.{Config}
use Rattle.reading_trees.specs.declared.module.Program.{Program}
use Rattle.reading_trees.specs.declared.module.Unit.{Unit as ModuleUnit}
use Rattle.reading_pieces.specs.declared.mark.Mark.{Mark}
use Rattle.reading_modules.specs.declared.notes.Noted.{Noted}
use Rattle.reading_laws.specs.Readings.{noted_by}
use Rattle.reading_wide_configuration.specs.Wide.{also_told}
use Rattle.reading_wide_modules.specs.declared.unread.Unread.{Unread}
use Rattle.reading_wide_modules.specs.Laws.{told}
use Rattle.names_terms.specs.declared.spec.Spec.{Spec}
use Rattle.names_resolving.specs.Resolved.{IsOneForm}
use Rattle.names_resolving.specs.declared.fault.ResolveFault.{ResolveFault}
use Rattle.names_specification.specs.Resolving.{ResolvedWide}
use Rattle.names_tlc_calls.specs.Programs.{spelled_out}
use Rattle.names_pruning.specs.Laws.{OneAlone, OnePruned}
use Rattle.names_pruning.specs.Needed.{needed_names}
use Rattle.names_pruning.specs.Pruning.{Alone, NeedsBad, NoneIsAsked, Pruned}
use Rattle.names_pruning.specs.Told as units
use Rattle.run_wide.specs.Answers.{NeedsPiece}
use Rattle.run_wide.specs.Lines.{over_line, piece_lines, unread_lines}
use Rattle.run_wide.specs.Needing.{IsFirstNeeded, names_unread}
use Rattle.run_wide.specs.Passing.{IsNotWhole, Leaves, Passes, goes_on, has_many, is_whole, needed_alone, needed_alone_of_it, spelled, telling, without_bad, without_word}

-- ---- pieces that are told the same

abbrev Seen : Type 0
Seen = Noted (Mark × Place × List (List ℕ))

abbrev seen : List (Noted Unread) → List Seen
seen unread = map (noted_by told) unread

-- their names, and their lines
abbrev names_seen : List Seen → List (List ℕ)
names_seen [] = []
names_seen (n ∷ ns) = n.note.2 ++ names_seen ns

names_are_seen : (unread : List (Noted Unread)) → names_unread unread ≡ names_seen (seen unread)
names_are_seen [] = refl
names_are_seen (n ∷ unread) = ap (λ (names : List (List ℕ)). n.note.names ++ names) (names_are_seen unread)

abbrev lines_seen : List (List ℕ) → List Seen → List (List ℕ)
lines_seen files [] = []
lines_seen files (n ∷ ns) = piece_lines files n.note.0 n.note.1 n.note.2 ++ lines_seen files ns

lines_are_seen : (files : List (List ℕ)) (unread : List (Noted Unread)) → unread_lines files unread ≡ lines_seen files (seen unread)
lines_are_seen files [] = refl
lines_are_seen files (n ∷ unread) = ap (λ (lines : List (List ℕ)). piece_lines files n.note.begins n.note.at n.note.names ++ lines) (lines_are_seen files unread)

nothing_seen : (unread : List (Noted Unread)) → [] ≡ seen unread → unread ≡ []
nothing_seen [] e = refl
nothing_seen (n ∷ unread) e = absurd cc

module _ (p : Program) (c : Config) (silent : Option (List ℕ)) (unread others : List (Noted Unread)) (same : seen unread ≡ seen others) where
  names_same : names_unread unread ≡ names_unread others
  names_same = names_are_seen unread ∙ ap names_seen same ∙ sym (names_are_seen others)

  lines_same : unread_lines p.files unread ≡ unread_lines p.files others
  lines_same = lines_are_seen p.files unread ∙ ap (lines_seen p.files) same ∙ sym (lines_are_seen p.files others)

  telling_same : (over : List ModuleUnit) → telling p unread over c ≡ telling p others over c
  telling_same over = ap (λ (lines : List (List ℕ)). also_told (lines ++ map (over_line p.files) (units.told over)) c) lines_same

  none_unread : unread ≡ [] → others ≡ []
  none_unread e = nothing_seen others (sym (ap seen e) ∙ same)

  some_unread : unread ≢ [] → others ≢ []
  some_unread some e = some (nothing_seen unread (sym (ap seen e) ∙ sym same))

  lacking : (unread ≢ []) ⊎ ((fault : ResolveFault) × ResolvedWide p c silent (Err fault)) → (others ≢ []) ⊎ ((fault : ResolveFault) × ResolvedWide p c silent (Err fault))
  lacking (inl some) = inl (some_unread some)
  lacking (inr refused) = inr refused

  not_whole : IsNotWhole p c silent unread → IsNotWhole p c silent others
  not_whole whole = record { few = whole.few; lacks = lacking whole.lacks }

  left_same : (q : Program) (over : List ModuleUnit) → Leaves p c silent unread q over → Leaves p c silent others q over
  left_same _ _ (without_bad q over s pruned is) =
      without_bad q over s (subst (λ (names : List (List ℕ)). Pruned p c names (needed_names c silent) q over) names_same pruned)
      (subst (λ (d : Config). ResolvedWide q d silent (Ok s)) (telling_same over) is)
  left_same _ _ (needed_alone q over bad alone) =
      needed_alone q over (subst (λ (names : List (List ℕ)). NeedsBad p c names (needed_names c silent)) names_same bad)
      (subst (λ (names : List (List ℕ)). Alone p c names (needed_names c silent) q over) names_same alone)
  left_same _ _ (needed_alone_of_it r q gone over fault pruned is alone) =
      needed_alone_of_it r q gone over fault (subst (λ (names : List (List ℕ)). Pruned p c names (needed_names c silent) r gone) names_same pruned)
      (subst (λ (d : Config). ResolvedWide r d silent (Err fault)) (telling_same gone) is)
      (subst (λ (names : List (List ℕ)). Alone r c names (needed_names c silent) q over) names_same alone)

  none_same : NoneIsAsked p c (names_unread unread) (needed_names c silent) → NoneIsAsked p c (names_unread others) (needed_names c silent)
  none_same none = subst (λ (names : List (List ℕ)). NoneIsAsked p c names (needed_names c silent)) names_same none

  -- and so is the program with calls spelled out
  spelled_same : spelled p c unread ≡ spelled p c others
  spelled_same = ap (λ (names : List (List ℕ)). spelled_out p c names) names_same

module _ (p : Program) (c : Config) (silent : Option (List ℕ)) (unread others : List (Noted Unread)) (same : seen unread ≡ seen others) where
  -- what is passed over is the same
  pub passes_same : (wide : Bool) (q : Program) (d : Config) → Passes p c silent unread wide q d → Passes p c silent others wide q d
  passes_same _ _ _ without_word = without_word
  passes_same _ _ _ (is_whole s none is) = is_whole s (none_unread p c silent unread others same none) is
  passes_same _ _ _ (has_many many) = has_many many
  passes_same _ _ _ (goes_on q over whole none left) =
      let x = spelled p c unread in
      let is = spelled_same p c silent unread others same in
      subst (λ (d : Config). Passes p c silent others true q d) (sym (telling_same p c silent unread others same over))
      (goes_on q over (not_whole p c silent unread others same whole)
      (subst (λ (y : Program). NoneIsAsked y c (names_unread others) (needed_names c silent)) is (none_same x c silent unread others same none))
      (subst (λ (y : Program). Leaves y c silent others q over) is (left_same x c silent unread others same q over left)))

-- the name of a piece stands among those of all
names_append : (us vs : List (Noted Unread)) → names_unread (us ++ vs) ≡ names_unread us ++ names_unread vs
names_append [] vs = refl
names_append (u ∷ us) vs =
    ap (λ (names : List (List ℕ)). u.note.names ++ names) (names_append us vs) ∙ sym (append_assoc u.note.names (names_unread us) (names_unread vs))

stands_at : (xs : List (List ℕ)) (y : List ℕ) (ys : List (List ℕ)) → slice_get (xs ++ y ∷ ys) (length xs) ≡ Some y
stands_at xs y ys =
    slice_get_read (xs ++ y ∷ ys) (length (xs ++ y ∷ ys)) (length xs) y refl (omega (arith, length-append xs (y ∷ ys))) (sym (get_or-append_seam xs y ys y))

name_stands : (unread earlier later : List (Noted Unread)) (piece : Noted Unread) (name : List ℕ) (before behind : List (List ℕ)) → unread ≡ earlier ++ piece ∷ later
    → piece.note.names ≡ before ++ name ∷ behind → (j : ℕ) × (slice_get (names_unread unread) j ≡ Some name)
name_stands unread earlier later piece name before behind among declares =
    let front : List (List ℕ) = names_unread earlier in
    let back : List (List ℕ) = names_unread later in
    let parts : names_unread unread ≡ front ++ (piece.note.names ++ back) = ap names_unread among ∙ names_append earlier (piece ∷ later) in
    let named : front ++ (piece.note.names ++ back) ≡ front ++ ((before ++ name ∷ behind) ++ back) = ap (λ (names : List (List ℕ)). front ++ (names ++ back)) declares in
    let inner : front ++ ((before ++ name ∷ behind) ++ back) ≡ front ++ (before ++ name ∷ (behind ++ back)) =
    ap (λ (names : List (List ℕ)). front ++ names) (append_assoc before (name ∷ behind) back) in
    let outer : front ++ (before ++ name ∷ (behind ++ back)) ≡ (front ++ before) ++ name ∷ (behind ++ back) = sym (append_assoc front before (name ∷ (behind ++ back))) in (
      length (front ++ before),
      subst (λ (names : List (List ℕ)). slice_get names (length (front ++ before)) ≡ Some name) (sym (parts ∙ named ∙ inner ∙ outer))
          (stands_at (front ++ before) name (behind ++ back)),
    )

-- ---- what is left is one

-- What is known of the parts of passing over: nothing is both accepted and refused, and each way leaves one program.
pub record PassingParts : Type 0 where
  pub never : (p : Program) (c : Config) (silent : Option (List ℕ)) → IsOneForm c → (s : Spec) (fault : ResolveFault) → ResolvedWide p c silent (Ok s)
      → ResolvedWide p c silent (Err fault) → ⊥
  pub pruned : OnePruned
  pub alone : OneAlone

not_many : (n : ℕ) → 64 < n → n ≤ 64 → ⊥
not_many n many few = omega (arith, many, few)

module _ (known : PassingParts) (p : Program) (c : Config) (silent : Option (List ℕ)) (form : IsOneForm c) (unread : List (Noted Unread)) where
  -- the same program, and the same that goes
  abbrev AreOne : Program → Program → List ModuleUnit → List ModuleUnit → Type 0
  AreOne q r over others = (q ≡ r) × (over ≡ others)

  told_form : (over : List ModuleUnit) → IsOneForm (telling p unread over c)
  told_form over = form

  -- what is left without the bad is not both accepted and refused
  both_ways : (q r : Program) (over gone : List ModuleUnit) (s : Spec) (fault : ResolveFault) → AreOne q r over gone → ResolvedWide q (telling p unread over c) silent (Ok s)
      → ResolvedWide r (telling p unread gone c) silent (Err fault) → ⊥
  both_ways q r over gone s fault same is refused =
      let lines : ResolvedWide r (telling p unread over c) silent (Err fault) =
      subst (λ (units : List ModuleUnit). ResolvedWide r (telling p unread units c) silent (Err fault)) (sym same.1) refused in
      known.never q (telling p unread over c) silent (told_form over) s fault is
      (subst (λ (x : Program). ResolvedWide x (telling p unread over c) silent (Err fault)) (sym same.0) lines)

  alone_of_one : (r x q y : Program) (gone went over others : List ModuleUnit) → AreOne r x gone went → Alone r c (names_unread unread) (needed_names c silent) q over
      → Alone x c (names_unread unread) (needed_names c silent) y others → AreOne q y (gone ++ over) (went ++ others)
  alone_of_one r x q y gone went over others same a b =
      let there : Alone r c (names_unread unread) (needed_names c silent) y others =
      subst (λ (z : Program). Alone z c (names_unread unread) (needed_names c silent) y others) (sym same.0) b in
      let one = known.alone r c (names_unread unread) (needed_names c silent) q y over others a there in
      (one.0, ap (λ (us : List ModuleUnit). us ++ over) same.1 ∙ ap (λ (us : List ModuleUnit). went ++ us) one.1)

  one_left : (q r : Program) (over others : List ModuleUnit) → Leaves p c silent unread q over → Leaves p c silent unread r others → AreOne q r over others
  one_left _ _ _ _ (without_bad q over s a is) (without_bad r others t b also) = known.pruned p c (names_unread unread) (needed_names c silent) q r over others a b
  one_left _ _ _ _ (without_bad q over s a is) (needed_alone r others bad alone) = absurd (a.good bad)
  one_left _ _ _ _ (without_bad q over s a is) (needed_alone_of_it x r gone others fault b refused alone) =
      absurd (both_ways q x over gone s fault (known.pruned p c (names_unread unread) (needed_names c silent) q x over gone a b) is refused)
  one_left _ _ _ _ (needed_alone q over bad alone) (without_bad r others t b also) = absurd (b.good bad)
  one_left _ _ _ _ (needed_alone q over bad alone) (needed_alone r others worse other) =
      known.alone p c (names_unread unread) (needed_names c silent) q r over others alone other
  one_left _ _ _ _ (needed_alone q over bad alone) (needed_alone_of_it x r gone others fault b refused other) = absurd (b.good bad)
  one_left _ _ _ _ (needed_alone_of_it x q gone over fault a refused alone) (without_bad r others t b also) =
      absurd (both_ways r x others gone t fault (known.pruned p c (names_unread unread) (needed_names c silent) r x others gone b a) also refused)
  one_left _ _ _ _ (needed_alone_of_it x q gone over fault a refused alone) (needed_alone r others bad other) = absurd (a.good bad)
  one_left _ _ _ _ (needed_alone_of_it x q gone over fault a refused alone) (needed_alone_of_it y r went others failure b also other) =
      alone_of_one x y q r gone went over others (known.pruned p c (names_unread unread) (needed_names c silent) x y gone went a b) alone other

module _ (known : PassingParts) (p : Program) (c : Config) (silent : Option (List ℕ)) (form : IsOneForm c) (unread : List (Noted Unread)) where
  -- a program of which all was read and that resolves is whole
  lacks_nothing : (s : Spec) → unread ≡ [] → ResolvedWide p c silent (Ok s) → (unread ≢ []) ⊎ ((fault : ResolveFault) × ResolvedWide p c silent (Err fault)) → ⊥
  lacks_nothing s none is (inl some) = some none
  lacks_nothing s none is (inr refused) = known.never p c silent form s refused.0 is refused.1

  stays_whole : (s : Spec) → unread ≡ [] → ResolvedWide p c silent (Ok s) → IsNotWhole p c silent unread → ⊥
  stays_whole s none is whole = lacks_nothing s none is whole.lacks

  one_passing_wide : (q r : Program) (d e : Config) → Passes p c silent unread true q d → Passes p c silent unread true r e → (q ≡ r) × (d ≡ e)
  one_passing_wide _ _ _ _ (is_whole s none is) (is_whole t also there) = (refl, refl)
  one_passing_wide _ _ _ _ (is_whole s none is) (has_many many) = (refl, refl)
  one_passing_wide _ _ _ _ (is_whole s none is) (goes_on r others whole asked left) = absurd (stays_whole s none is whole)
  one_passing_wide _ _ _ _ (has_many many) (is_whole t also there) = (refl, refl)
  one_passing_wide _ _ _ _ (has_many many) (has_many more) = (refl, refl)
  one_passing_wide _ _ _ _ (has_many many) (goes_on r others whole asked left) = absurd (not_many _ many whole.few)
  one_passing_wide _ _ _ _ (goes_on q over whole asked left) (is_whole t also there) = absurd (stays_whole t also there whole)
  one_passing_wide _ _ _ _ (goes_on q over whole asked left) (has_many more) = absurd (not_many _ more whole.few)
  one_passing_wide _ _ _ _ (goes_on q over whole asked left) (goes_on r others lacks none other) =
      let one = one_left known (spelled p c unread) c silent form unread q r over others left other in
      (one.0, ap (λ (units : List ModuleUnit). telling p unread units c) one.1)

  one_passing_strict : (q r : Program) (d e : Config) → Passes p c silent unread false q d → Passes p c silent unread false r e → (q ≡ r) × (d ≡ e)
  one_passing_strict _ _ _ _ without_word without_word = (refl, refl)

  pub one_passing : (wide : Bool) (q r : Program) (d e : Config) → Passes p c silent unread wide q d → Passes p c silent unread wide r e → (q ≡ r) × (d ≡ e)
  one_passing true q r d e a b = one_passing_wide q r d e a b
  one_passing false q r d e a b = one_passing_strict q r d e a b

  -- ---- no piece is needed where something is left

  piece_asked : (piece : Noted Unread) (name : List ℕ) → NoneIsAsked (spelled p c unread) c (names_unread unread) (needed_names c silent)
      → IsFirstNeeded (spelled p c unread) c silent unread piece name → ⊥
  piece_asked piece name none needed =
      let place = name_stands unread needed.earlier needed.later piece name needed.before needed.behind needed.among needed.declares in
      none place.0 name place.1 needed.asked

  pub no_piece : (q : Program) (d : Config) (index : ℕ) (root : List ℕ) → Passes p c silent unread true q d → NeedsPiece p c silent unread index root → ⊥
  no_piece _ _ index root (is_whole s none is) needs = stays_whole s none is needs.not_whole
  no_piece _ _ index root (has_many many) needs = not_many _ many needs.not_whole.few
  no_piece _ _ index root (goes_on q over whole none left) needs = piece_asked needs.piece needs.name none needs.needed
