-- What names are, one name after another.
use Rattle.std.proofs.Common.{◌≡◌, ◌∙◌, ap, refl, List, [], ◌∷◌, ◌++◌}
use Rattle.std.specs.Prelude.{ℕ, Bool, false, if◌then◌else◌}
use Rattle.std.specs.Str.{bytes_eq}
use Rattle.reading_trees.specs.Trees.{Bounds, NoBounds, MoreBounds}
use Rattle.names_found_levels.specs.Raised.{Marks, names_marked, told, bound_by, own}
use Rattle.names_least_levels.specs.Rising.{Rising, with_name, without, without_bounds, with_own}

-- the same for one name
abbrev pub tell : Bool → Marks → List ℕ → Bool
tell b [] n = b
tell b (m ∷ ms) n = tell (if bytes_eq m.name n then m.rises else b) ms n

pub told_tells : (g : Rising) (ms : Marks) (n : List ℕ) → told g ms n ≡ tell (g n) ms n
told_tells g [] n = refl
told_tells g (m ∷ ms) n = told_tells (with_name g m.name m.rises) ms n

pub told_append : (g : Rising) (hs ms : Marks) → told g (hs ++ ms) ≡ told (told g hs) ms
told_append g [] ms = refl
told_append g (h ∷ hs) ms = told_append (with_name g h.name h.rises) hs ms

pub told_bound : (g : Rising) (ns : List (List ℕ)) → told g (names_marked ns) ≡ without g ns
told_bound g [] = refl
told_bound g (n ∷ ns) = told_bound (with_name g n false) ns

pub told_bounds : (g : Rising) (bs : Bounds) → told g (bound_by bs) ≡ without_bounds g bs
told_bounds g NoBounds = refl
told_bounds g (MoreBounds bs ns e) = told_append g (bound_by bs) (names_marked ns) ∙ ap (λ (h : Rising). told h (names_marked ns)) (told_bounds g bs) ∙ told_bound (without_bounds g bs) ns

pub told_own : (g : Rising) (n : List ℕ) → told g (own n) ≡ with_own g n
told_own g n = refl
