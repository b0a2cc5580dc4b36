-- What is found among the files of the library, and among files with others behind them.
use Rattle.std.proofs.Common.{◌≡◌, ◌≢◌, ◌∙◌, ℕ, List, [], ◌∷◌, ◌++◌, Option, Some, None, Bool, true, false, true≢false, refl, sym, ap}
use Rattle.std.specs.Prelude.{if◌then◌else◌, codes}
use Rattle.std.specs.Str.{bytes_eq}
use Rattle.std.proofs.lemmas.Slice.Eq.{bytes_eq-Decides}
use Rattle.std.proofs.lemmas.List.{append_cancel_left, append_cancel_right}
use Rattle.base_core.specs.Device.{File, found}
use Rattle.run_library.specs.Behind.{files_in}
use Rattle.reading_modules.specs.Paths.{file_of}

same_bool : (a b : Bool) → (a ≡ true → b ≡ true) → (b ≡ true → a ≡ true) → a ≡ b
same_bool true b f g = sym (f refl)
same_bool false true f g = g refl
same_bool false false f g = refl

is_false : (b : Bool) → (b ≡ true → ⊥) → b ≡ false
is_false true e = absurd (e refl)
is_false false e = refl

-- one module has one file
one_file : (folder m n : List ℕ) → file_of folder m ≡ file_of folder n → m ≡ n
one_file folder m n e = append_cancel_right m n (codes ".tla") (append_cancel_left folder (m ++ codes ".tla") (n ++ codes ".tla") e)

named_so : (folder m n : List ℕ) → bytes_eq (file_of folder m) (file_of folder n) ≡ bytes_eq m n
named_so folder m n = same_bool (bytes_eq (file_of folder m) (file_of folder n)) (bytes_eq m n)
    (λ e. (bytes_eq-Decides m n).1 (one_file folder m n ((bytes_eq-Decides (file_of folder m) (file_of folder n)).0 e)))
    (λ e. (bytes_eq-Decides (file_of folder m) (file_of folder n)).1 (ap (λ x. file_of folder x) ((bytes_eq-Decides m n).0 e)))

abbrev Chosen : Bool → Option (List ℕ) → Option (List ℕ) → Option (List ℕ)
Chosen b x y = if b then x else y

-- the file of a module is found among files just as the module among modules
pub file_found : (folder module_name : List ℕ) (modules : List File) → found (file_of folder module_name) (files_in folder modules) ≡ found module_name modules
file_found folder name [] = refl
file_found folder name (m ∷ ms) =
    ap (λ b. Chosen b (Some m.1) (found (file_of folder name) (files_in folder ms))) (named_so folder m.0 name)
    ∙ ap (λ rest. Chosen (bytes_eq m.0 name) (Some m.1) rest) (file_found folder name ms)

-- a file that is that of no module is not found
pub none_found : (folder file : List ℕ) (modules : List File) → ((name : List ℕ) → file ≢ file_of folder name) → found file (files_in folder modules) ≡ None
none_found folder file [] never = refl
none_found folder file (m ∷ ms) never =
    ap (λ b. Chosen b (Some m.1) (found file (files_in folder ms)))
    (is_false (bytes_eq (file_of folder m.0) file) (λ e. never m.0 (sym ((bytes_eq-Decides (file_of folder m.0) file).0 e))))
    ∙ none_found folder file ms never

-- ---- behind other files

found_by : (b : Bool) (x : List ℕ) (y z : Option (List ℕ)) (bytes : List ℕ) → (y ≡ Some bytes → z ≡ Some bytes) → Chosen b (Some x) y ≡ Some bytes → Chosen b (Some x) z ≡ Some bytes
found_by true x y z bytes f e = e
found_by false x y z bytes f e = f e

none_by : (b : Bool) (x : List ℕ) (y z w : Option (List ℕ)) → (y ≡ None → z ≡ w) → Chosen b (Some x) y ≡ None → Chosen b (Some x) z ≡ w
none_by true x y z w f e = let no : ⊥ = cc in absurd no
none_by false x y z w f e = f e

-- what is found stays found
pub found_first : (name bytes : List ℕ) (files others : List File) → found name files ≡ Some bytes → found name (files ++ others) ≡ Some bytes
found_first name bytes [] others e = let no : ⊥ = cc in absurd no
found_first name bytes (f ∷ fs) others e = found_by (bytes_eq f.0 name) f.1 (found name fs) (found name (fs ++ others)) bytes (found_first name bytes fs others) e

-- what is not found is sought behind
pub found_behind : (name : List ℕ) (files others : List File) → found name files ≡ None → found name (files ++ others) ≡ found name others
found_behind name [] others e = refl
found_behind name (f ∷ fs) others e = none_by (bytes_eq f.0 name) f.1 (found name fs) (found name (fs ++ others)) (found name others) (found_behind name fs others) e

-- what is found of a module's name is found of its file's
pub text_found : (folder module_name file : List ℕ) (modules : List File) (o : Option (List ℕ)) → file ≡ file_of folder module_name → found module_name modules ≡ o → found file (files_in folder modules) ≡ o
text_found folder name file modules o is e = ap (λ x. found x (files_in folder modules)) is ∙ file_found folder name modules ∙ e
