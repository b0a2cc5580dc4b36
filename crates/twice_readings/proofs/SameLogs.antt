-- The same files of logs, read beside two specifications that are alike, say what is alike.
use Rattle.std.proofs.Common.{◌≡◌, ◌+◌, ◌-◌, ℕ, suc, List, [], ◌∷◌, ◌++◌, length, Some, Ok, inl, inr, refl, ap, sym, ◌∙◌, subst, arith}
use Rattle.std.specs.Prelude.{drop}
use Rattle.std.specs.List.{AllZip}
use Rattle.base_core.specs.Device.{File}
use Rattle.reading_trees.specs.declared.config.Config.{Config}
use Rattle.reading_trees.specs.declared.module.Program.{Program}
use Rattle.names_terms.specs.declared.operator.Operator.{Operator}
use Rattle.names_terms.specs.declared.spec.Spec.{Spec}
use Rattle.names_specification_laws.specs.IsSpec.{IsSpec}
use Rattle.twice_tables.specs.Outcome.{AreAlike}
use Rattle.logs_lines.specs.Files.{FileSays, first_line}
use Rattle.logs_lines.specs.declared.clocks.ClockForm.{ClockForm}
use Rattle.logs_lines.specs.declared.file.FileLines.{FileLines}
use Rattle.steps_names.specs.Names.{names_of}
use Rattle.twice_logs.specs.AlikeLogs.{AreAlikeLines}
use Rattle.twice_logs.specs.AlikeFiles.{AreAlikeFiles}
use Rattle.twice_logs.specs.Logs.{FilesSayAlike}
use Rattle.twice_logs.proofs.AlikeTexts.{zip_push}
use Rattle.run_words.specs.declared.job.Job.{Job}
use Rattle.run_reading_defs.specs.Texts.{HasText, LogsRead, are_several, no_logs, steps_left, with_log}
use Rattle.run_reading_defs.specs.Reaches.{LogSays, Reaches, has_forms, logged, reads_log}
use Rattle.twice_readings.proofs.Stages.{LastRead, head_is, logged_by, one_longer, some_is, still_named}

-- what two readings found is alike
pub record AreAlikeReads (ops all : List Operator) (read other : LogsRead) : Type 0 where
  pub bytes : read.bytes ≡ other.bytes
  pub steps : read.steps ≡ other.steps
  pub form : read.form ≡ other.form
  pub found : AllZip (AreAlikeFiles ops all) read.found other.found

zip_length : {A B : Type 0} (R : A → B → Type 0) (xs : List A) (ys : List B) → AllZip R xs ys → length xs ≡ length ys
zip_length R [] [] h = refl
zip_length R [] (y ∷ ys) h = absurd h
zip_length R (x ∷ xs) [] h = absurd h
zip_length R (x ∷ xs) (y ∷ ys) h = ap suc (zip_length R xs ys h.1)

pub one_text : (files : List File) (name other : List ℕ) (n m : ℕ) (a b : List ℕ) → name ≡ other → HasText (Some files) name n a → HasText (Some files) other m b → a ≡ b
one_text files name other n m a b e h g =
    let there : HasText (Some files) name m b = subst (λ (x : List ℕ). HasText (Some files) x m b) (sym e) g in
    some_is a b (sym h.whole ∙ there.whole)

nothing_found : (ops all : List Operator) → AreAlikeReads ops all no_logs no_logs
nothing_found ops all = record { bytes = refl; steps = refl; form = refl; found = tt }

not_longer : (all : LogsRead) (fs : List FileLines) (f : FileLines) → all.found ≡ fs ++ f ∷ [] → length all.found ≡ 0 → ⊥
not_longer all fs f e z =
    let n : length (fs ++ f ∷ []) ≡ 0 = subst (λ (x : List FileLines). length x ≡ 0) e z in
    omega (arith, n, one_longer fs f)

none_found : (all : LogsRead) (n : ℕ) → all ≡ no_logs → suc n ≡ length all.found → ⊥
none_found all n is e = let z : suc n ≡ 0 = subst (λ (x : LogsRead). suc n ≡ length x.found) is e in omega (arith, z)

module _ (files : List File) (job : Job) (says : FilesSayAlike) (s t : Spec) (first : IsSpec s) (second : IsSpec t) (alike : AreAlike s t) (q : Program) (d : Config) where
  abbrev Same : LogsRead → LogsRead → Type 0
  Same read other = AreAlikeReads s.operators t.operators read other

  -- nothing is read in both
  both_begin : (other : LogsRead) (others : List (List ℕ)) → Reaches (Some files) job (logged q d t other others) → length other.found ≡ 0 → Same no_logs other
  both_begin other others reaches z = elim (logged_by (Some files) job q d t other others reaches) [
    | inl is ↦ subst (λ (x : LogsRead). Same no_logs x) (sym is) (nothing_found s.operators t.operators)
    | inr last ↦ absurd (not_longer other last.read.found last.file (ap (λ (x : LogsRead). x.found) last.is) z)
  ]

  one_more : (read other : LogsRead) (text also : List ℕ) (f g : FileLines) → Same read other → text ≡ also → LogSays job s read text (Ok f) → LogSays job t other also (Ok g)
      → Same (with_log read text f) (with_log other also g)
  one_more read other text also f g same texts a b =
      let number : length other.found ≡ length read.found = sym (zip_length _ read.found other.found same.found) in
      let many = are_several job.logs in
      let moved : FileSays (names_of t) (first_line (1 + length read.found) many (steps_left other) other.form) also (Ok g) =
      subst (λ (n : ℕ). FileSays (names_of t) (first_line (1 + n) many (steps_left other) other.form) also (Ok g)) number b in
      let left : FileSays (names_of t) (first_line (1 + length read.found) many (steps_left read) other.form) also (Ok g) =
      subst (λ (n : ℕ). FileSays (names_of t) (first_line (1 + length read.found) many (200000 - n) other.form) also (Ok g)) (sym same.steps) moved in
      let formed : FileSays (names_of t) (first_line (1 + length read.found) many (steps_left read) read.form) also (Ok g) =
      subst (λ (form : ClockForm). FileSays (names_of t) (first_line (1 + length read.found) many (steps_left read) form) also (Ok g)) (sym same.form) left in
      let there : FileSays (names_of t) (first_line (1 + length read.found) many (steps_left read) read.form) text (Ok g) =
      subst (λ (x : List ℕ). FileSays (names_of t) (first_line (1 + length read.found) many (steps_left read) read.form) x (Ok g)) (sym texts) formed in
      let lines : AreAlikeFiles s.operators t.operators f g = says s t first second alike (first_line (1 + length read.found) many (steps_left read) read.form) text (Ok f) (Ok g) a there in
      let count : length f.steps ≡ length g.steps = zip_length (AreAlikeLines s.operators t.operators) f.steps g.steps lines.steps in
      record {
        bytes = λ i. same.bytes i + length (texts i);
        steps = λ i. same.steps i + count i;
        form = lines.form;
        found = zip_push (AreAlikeFiles s.operators t.operators) read.found other.found f g same.found lines;
      }

  -- a log more in both
  both_go_on : (p : Program) (c : Config) (read : LogsRead) (name : List ℕ) (names : List (List ℕ)) (text : List ℕ) (f : FileLines) (other : LogsRead) (others : List (List ℕ))
      → ((x : LogsRead) (xs : List (List ℕ)) → Reaches (Some files) job (logged q d t x xs) → length read.found ≡ length x.found → Same read x)
      → Reaches (Some files) job (logged p c s read (name ∷ names)) → HasText (Some files) name (67108864 - read.bytes) text → LogSays job s read text (Ok f)
      → LastRead (Some files) job q d t other others → suc (length read.found) ≡ length other.found → Same (with_log read text f) other
  both_go_on p c read name names text f other others before reaches has said last count =
      let longer : length other.found ≡ suc (length last.read.found) = ap (λ (x : LogsRead). length x.found) last.is ∙ one_longer last.read.found last.file in
      let number : length read.found ≡ length last.read.found = omega (arith, longer, count) in
      let same : Same read last.read = before last.read (last.name ∷ others) last.reaches number in
      let left = still_named (Some files) job p c s read (name ∷ names) reaches in
      let right = still_named (Some files) job q d t last.read (last.name ∷ others) last.reaches in
      let named : name ≡ last.name = head_is name last.name names others (sym left ∙ (ap (λ (n : ℕ). drop n job.logs) number ∙ right)) in
      let texts : text ≡ last.text = one_text files name last.name _ _ text last.text named has last.log in
      subst (λ (x : LogsRead). Same (with_log read text f) x) (sym last.is) (one_more read last.read text last.text f last.file same texts said last.says)

  pub same_logs : (p : Program) (c : Config) (read : LogsRead) (names : List (List ℕ)) (other : LogsRead) (others : List (List ℕ)) → Reaches (Some files) job (logged p c s read names)
      → Reaches (Some files) job (logged q d t other others) → length read.found ≡ length other.found → Same read other
  same_logs _ _ _ _ other others (has_forms p c _ reaches whole) g count = both_begin other others g (sym count)
  same_logs _ _ _ _ other others (reads_log p c _ read name names text f reaches log said) g count =
      let longer : suc (length read.found) ≡ length other.found = sym (one_longer read.found f) ∙ count in
      elim (logged_by (Some files) job q d t other others g) [
        | inl is ↦ absurd (none_found other (length read.found) is longer)
        | inr last ↦ both_go_on p c read name names text f other others (λ x xs r n. same_logs p c read (name ∷ names) x xs reaches r n) reaches log said last longer
      ]
