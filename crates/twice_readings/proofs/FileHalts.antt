-- Where one file is read next and its text tested, what does not go on is one.
use Rattle.std.proofs.Common.{◌≡◌, ◌∙◌, ◌<◌, ℕ, List, length, None, Some, arith, refl, subst, sym}
use Rattle.base_core.specs.Device.{File, IsLonger, found}
use Rattle.run_texts.specs.Files.{missing_text, too_long_text}
use Rattle.run_reading_defs.specs.Texts.{HasText}
use Rattle.twice_readings.proofs.SameLogs.{one_text}
use Rattle.twice_readings.proofs.Stages.{none_is_some, some_is}

-- The file is missing or too long, or its text is refused by R with this report.
pub data FileHalts (files : List File) (name : List ℕ) (limit : ℕ) (R : List ℕ → List ℕ → Type 0) : List ℕ → Type 0 where
  file_missing : found name files ≡ None → FileHalts files name limit R (missing_text name)
  file_long : IsLonger name (Some files) limit → FileHalts files name limit R (too_long_text name)
  file_refused : (text report : List ℕ) → HasText (Some files) name limit text → R text report → FileHalts files name limit R report

module _ (files : List File) (name : List ℕ) (limit : ℕ) where
  is_there : (text : List ℕ) → HasText (Some files) name limit text → found name files ≡ None → ⊥
  is_there text has e = none_is_some text (sym e ∙ has.whole)

  is_short : (text : List ℕ) → HasText (Some files) name limit text → IsLonger name (Some files) limit → ⊥
  is_short text has l =
      let same : l.0 ≡ text = some_is l.0 text (sym l.1 ∙ has.whole) in
      let long : limit < length text = subst (λ (x : List ℕ). limit < length x) same l.2 in
      omega (arith, long, has.short)

  no_both : found name files ≡ None → IsLonger name (Some files) limit → ⊥
  no_both e l = none_is_some l.0 (sym e ∙ l.1)

  -- a file whose text goes on
  pub no_halt : (R : List ℕ → List ℕ → Type 0) (text : List ℕ) → HasText (Some files) name limit text → ((r : List ℕ) → R text r → ⊥) → (r : List ℕ) → FileHalts files name limit R r → ⊥
  no_halt R text has never _ (file_missing e) = is_there text has e
  no_halt R text has never _ (file_long l) = is_short text has l
  no_halt R text has never _ (file_refused other r there bad) =
      never r (subst (λ (x : List ℕ). R x r) (one_text files name name limit limit other text refl there has) bad)

  pub one_halt : (R S : List ℕ → List ℕ → Type 0) → ((text r q : List ℕ) → R text r → S text q → r ≡ q) → (r q : List ℕ) → FileHalts files name limit R r → FileHalts files name limit S q → r ≡ q
  one_halt R S one _ _ (file_missing e) (file_missing f) = refl
  one_halt R S one _ _ (file_missing e) (file_long m) = absurd (no_both e m)
  one_halt R S one _ _ (file_missing e) (file_refused text q has bad) = absurd (is_there text has e)
  one_halt R S one _ _ (file_long l) (file_missing f) = absurd (no_both f l)
  one_halt R S one _ _ (file_long l) (file_long m) = refl
  one_halt R S one _ _ (file_long l) (file_refused text q has bad) = absurd (is_short text has l)
  one_halt R S one _ _ (file_refused text r has bad) (file_missing f) = absurd (is_there text has f)
  one_halt R S one _ _ (file_refused text r has bad) (file_long m) = absurd (is_short text has m)
  one_halt R S one _ _ (file_refused text r has bad) (file_refused other q there worse) =
      one text r q bad (subst (λ (x : List ℕ). S x q) (one_text files name name limit limit other text refl there has) worse)
