-- What a file says over one setting, it says over one that is alike, but for the numbers of definitions.
use Rattle.std.proofs.Common.{◌≡◌, ℕ, List, [], ◌∷◌, ◌++◌, Result, Ok, Err, refl, sym, subst}
use Rattle.std.specs.List.{AllZip}
use Rattle.names_terms.specs.declared.operator.Operator.{Operator}
use Rattle.logs_lines.specs.Setting.{Setting}
use Rattle.logs_lines.specs.Files.{FileSays, GoesOn, LinesSay, behind_step, nothing_found, pieces_of}
use Rattle.logs_lines.specs.declared.clocks.ClockForm.{ClockForm}
use Rattle.logs_updates.specs.declared.clock.Clock.{Clock}
use Rattle.logs_lines.specs.declared.position.Position.{Position}
use Rattle.logs_lines.specs.declared.kind.Outcome.{Outcome}
use Rattle.logs_lines.specs.declared.file.FileLines.{FileLines}
use Rattle.logs_lines.specs.declared.file.Refusal.{Refusal}
use Rattle.logs_lines.proofs.OneOutcome.{one_file}
use Rattle.twice_logs.specs.AlikeLogs.{AreAlikeLines}
use Rattle.twice_logs.specs.AlikeFiles.{AlikeOutcomes, AreAlikeFiles, AreAlikeResults, both_blank, both_init, both_refused, both_step}
use Rattle.twice_logs.specs.AlikeNames.{TellAlike}
use Rattle.twice_logs.proofs.AlikeLines.{line_carried}

pub zip_push : {A B : Type 0} (R : A → B → Type 0) (xs : List A) (ys : List B) (a : A) (b : B) → AllZip R xs ys → R a b → AllZip R (xs ++ a ∷ []) (ys ++ b ∷ [])
zip_push R [] [] a b h r = (r, tt)
zip_push R [] (y ∷ ys) a b h r = absurd h
zip_push R (x ∷ xs) [] a b h r = absurd h
zip_push R (x ∷ xs) (y ∷ ys) a b h r = (h.0, zip_push R xs ys a b h.1 r)

module _ (ops all : List Operator) (g h : Setting) (alike : TellAlike ops all g h) where
  -- over the other setting the file has a result that is alike
  abbrev Brought : (Result FileLines Refusal → Type 0) → Result FileLines Refusal → Type 0
  Brought Q r = (q : Result FileLines Refusal) × Q q × AreAlikeResults ops all r q

  stopped : (r : Result FileLines Refusal) (a : Refusal) → r ≡ Err a → AreAlikeResults ops all r (Err a)
  stopped r a e = subst (λ (x : Result FileLines Refusal). AreAlikeResults ops all x (Err a)) (sym e) refl

  ended : (r : Result FileLines Refusal) (f k : FileLines) → AreAlikeFiles ops all f k → r ≡ Ok f → AreAlikeResults ops all r (Ok k)
  ended r f k files e = subst (λ (x : Result FileLines Refusal). AreAlikeResults ops all x (Ok k)) (sym e) files

  goes_on : (at : Position) (f k : FileLines) (rest : List (List ℕ)) (r : Result FileLines Refusal) (o p : Outcome) → AreAlikeFiles ops all f k → AlikeOutcomes ops all o p
      → ((next : Position) (x y : FileLines) → AreAlikeFiles ops all x y → LinesSay g next x rest r → Brought (LinesSay h next y rest) r)
      → GoesOn (λ next more. LinesSay g next more rest r) at f r o → Brought (λ q. GoesOn (λ next more. LinesSay h next more rest q) at k q p) r
  goes_on at f k rest r _ _ files both_blank next w = next _ f k files w
  goes_on at f k rest r _ _ files (both_init sees) next w = next _ _ _ (record { init = refl; steps = files.steps; form = files.form }) w
  goes_on at f k rest r _ _ files (both_step l m form lines) next w =
      let there : LinesSay g (behind_step at form m.clock) (record { init = f.init; steps = f.steps ++ l ∷ []; form = form }) rest r =
      subst (λ (c : Clock). LinesSay g (behind_step at form c) (record { init = f.init; steps = f.steps ++ l ∷ []; form = form }) rest r) lines.clock w in
      next (behind_step at form m.clock) _ _ (record { init = files.init; steps = zip_push (AreAlikeLines ops all) f.steps k.steps l m files.steps lines; form = refl }) there
  goes_on at f k rest r _ _ files (both_refused why) next w = (Err _, refl, stopped r _ w)

  lines_brought : (ps : List (List ℕ)) (at : Position) (f k : FileLines) (r : Result FileLines Refusal) → AreAlikeFiles ops all f k → LinesSay g at f ps r → Brought (LinesSay h at k ps) r
  lines_brought [] at f k r files w = (Ok k, refl, ended r f k files w)
  lines_brought (p ∷ ps) at f k r files w =
      let c = line_carried ops all g h alike at p w.0 w.1 in
      let n = goes_on at f k ps r w.0 c.0 files c.2 (λ next x y more. lines_brought ps next x y r more) w.2 in
      (n.0, (c.0, c.1, n.1), n.2)

  nothing_alike : (form : ClockForm) → AreAlikeFiles ops all (nothing_found form) (nothing_found form)
  nothing_alike form = record { init = refl; steps = tt; form = refl }

  pub file_brought : (at : Position) (text : List ℕ) (r : Result FileLines Refusal) → FileSays g at text r → Brought (FileSays h at text) r
  file_brought at text r w = lines_brought (pieces_of text) at (nothing_found at.form) (nothing_found at.form) r (nothing_alike at.form) w

  pub files_alike : (at : Position) (text : List ℕ) (r q : Result FileLines Refusal) → FileSays g at text r → FileSays h at text q → AreAlikeResults ops all r q
  files_alike at text r q w v =
      let b = file_brought at text r w in
      subst (λ (x : Result FileLines Refusal). AreAlikeResults ops all r x) (one_file h at text b.0 q b.1 v) b.2
