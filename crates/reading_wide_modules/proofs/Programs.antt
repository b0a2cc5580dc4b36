-- What is one of a text that is read wide is one of a program.
use Rattle.std.proofs.Common.{◌≡◌, ◌∙◌, ℕ, Bool, true, false, List, [], ◌∷◌, map, refl, sym, ap}
use Rattle.base_core.specs.declared.place.Place.{Place}
use Rattle.reading_pieces.specs.declared.mark.Mark.{Mark}
use Rattle.reading_laws.specs.Readings.{IsReading, seen_by}
use Rattle.reading_trees.specs.declared.module.Module.{Module}
use Rattle.reading_modules.specs.declared.fault.LoadWhy.{LoadWhy}
use Rattle.reading_modules.specs.Refusals.{Misspells, SpelledBy}
use Rattle.reading_laws.proofs.Seen.{flattening_may_stop_seen, loading_may_stop_seen, nothing_repeats_seen, one_loading_seen, one_program_seen}
use Rattle.reading_wide_modules.specs.declared.unread.Unread.{Unread}
use Rattle.reading_wide_modules.specs.Laws.{NothingRepeatsWide, OneWide, OneWideLoading, OneWideProgram, WideFlatteningMayStop, WideIsNotRefused, WideIsReading, WideLoadingMayStop, told, unread_begins, unread_names, unread_places}
use Rattle.reading_wide_modules.specs.Wide.{plain, reading_by, wide}

head_is : {A : Type 0} (x y : A) (xs ys : List A) → x ∷ xs ≡ y ∷ ys → x ≡ y
head_is x y xs ys e = cc

rest_is : {A : Type 0} (x y : A) (xs ys : List A) → x ∷ xs ≡ y ∷ ys → xs ≡ ys
rest_is x y xs ys e = cc

none_is : {A : Type 0} (x : A) (xs : List A) → [] ≡ x ∷ xs → ⊥
none_is x xs e = cc

told_same : (us vs : List Unread) → unread_begins us ≡ unread_begins vs → unread_places us ≡ unread_places vs → unread_names us ≡ unread_names vs → map told us ≡ map told vs
told_same [] [] b p n = refl
told_same [] (v ∷ vs) b p n = absurd (none_is v.begins (unread_begins vs) b)
told_same (u ∷ us) [] b p n = absurd (none_is u.begins (unread_begins us) (sym b))
told_same (u ∷ us) (v ∷ vs) b p n =
    ap (λ (m : Mark). (m, u.at, u.names) ∷ map told us) (head_is u.begins v.begins (unread_begins us) (unread_begins vs) b)
    ∙ ap (λ (at : Place). (v.begins, at, u.names) ∷ map told us) (head_is u.at v.at (unread_places us) (unread_places vs) p)
    ∙ ap (λ (ns : List (List ℕ)). (v.begins, v.at, ns) ∷ map told us) (head_is u.names v.names (unread_names us) (unread_names vs) n)
    ∙ ap (λ (xs : List (Mark × Place × List (List ℕ))). told v ∷ xs)
    (told_same us vs (rest_is u.begins v.begins (unread_begins us) (unread_begins vs) b) (rest_is u.at v.at (unread_places us) (unread_places vs) p)
    (rest_is u.names v.names (unread_names us) (unread_names vs) n))

wide_is : OneWide → WideIsNotRefused → IsReading (seen_by told wide)
wide_is one never = record {
  one = λ number bytes m n notes others h g.
      let same = one number bytes m n h.0 g.0 h.1 g.1 in
      (same.0, h.2 ∙ told_same h.0 g.0 same.1 same.2 same.3 ∙ sym g.2);
  never = λ number bytes m notes why h w. never number bytes m h.0 why h.1 w;
}

-- what of a text that is read as a whole is one
abbrev pub OneWhole : Type 0
OneWhole = (number : ℕ) (bytes : List ℕ) (m n : Module) → SpelledBy number bytes m → SpelledBy number bytes n → m ≡ n

abbrev pub WholeIsNotRefused : Type 0
WholeIsNotRefused = (number : ℕ) (bytes : List ℕ) (m : Module) (why : LoadWhy) → SpelledBy number bytes m → Misspells number bytes why → ⊥

plain_is : OneWhole → WholeIsNotRefused → IsReading (seen_by told plain)
plain_is one never = record {
  one = λ number bytes m n notes others h g.
      (one number bytes m n h.1.0 g.1.0, h.2 ∙ ap (λ (us : List Unread). map told us) (h.1.1 ∙ sym g.1.1) ∙ sym g.2);
  never = λ number bytes m notes why h w. never number bytes m why h.1.0 w;
}

pub wide_is_reading : OneWide → WideIsNotRefused → OneWhole → WholeIsNotRefused → WideIsReading
wide_is_reading one never whole not true = wide_is one never
wide_is_reading one never whole not false = plain_is whole not

pub one_wide_program : WideIsReading → OneWideProgram
one_wide_program is word = one_program_seen told (reading_by word) (is word)

pub one_wide_loading : WideIsReading → OneWideLoading
one_wide_loading is word = one_loading_seen told (reading_by word) (is word)

pub wide_loading_may_stop : WideIsReading → WideLoadingMayStop
wide_loading_may_stop is word = loading_may_stop_seen told (reading_by word) (is word)

pub wide_flattening_may_stop : WideIsReading → WideFlatteningMayStop
wide_flattening_may_stop is word = flattening_may_stop_seen told (reading_by word) (is word)

pub nothing_repeats_wide : WideIsReading → NothingRepeatsWide
nothing_repeats_wide is word = nothing_repeats_seen told (reading_by word) (is word)
