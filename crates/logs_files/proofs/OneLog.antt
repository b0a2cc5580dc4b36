-- The logs of a run have one outcome.
use Rattle.std.proofs.Common.{◌≡◌, ◌+◌, ◌-◌, ℕ, List, [], ◌∷◌, ◌++◌, length, Bool, Some, Result, Ok, Err, ap, subst, sym, ◌∙◌, refl}
use Rattle.std.specs.List.{slice_get, AllZip}
use Rattle.logs_updates.specs.declared.line.Line.{Line}
use Rattle.logs_updates.specs.declared.line.Log.{Log}
use Rattle.base_clock_order.specs.Orders.{IsOnlyOrder}
use Rattle.base_clock_order.specs.declared.order.LineRef.{LineRef}
use Rattle.logs_lines.specs.Setting.{Setting}
use Rattle.logs_lines.specs.Files.{first_line}
use Rattle.logs_lines.specs.Laws.{FileSaysOne}
use Rattle.logs_lines.specs.declared.clocks.ClockForm.{ClockForm}
use Rattle.logs_lines.specs.declared.clocks.ClockForm.TheVariants.{Free}
use Rattle.logs_lines.specs.declared.file.FileLines.{FileLines}
use Rattle.logs_lines.specs.declared.file.Refusal.{Refusal}
use Rattle.logs_files.specs.Logs.{FilesSay, GoesOn, IsLogOf, LogsSayOne, StandsAt, Together, are_several, numbers_in}
use Rattle.logs_files.specs.declared.logs.LogRefusal.{LogRefusal}
use Rattle.logs_files.proofs.PlaceLemmas.{some_is}

one_behind : (Behind Behind' : FileLines → Type 0) (file : ℕ) (r s : Result (List FileLines) LogRefusal) → ((f : FileLines) → Behind f → Behind' f → r ≡ s) → (x : Result FileLines Refusal)
    → GoesOn Behind file r x → GoesOn Behind' file s x → r ≡ s
one_behind B C file r s next (Ok f) h k = next f h k
one_behind B C file r s next (Err refusal) h k = h ∙ sym k

one_files : (g : Setting) → FileSaysOne g → (many : Bool) (texts : List (List ℕ)) (file room : ℕ) (form : ClockForm) (found : List FileLines) (r s : Result (List FileLines) LogRefusal)
    → FilesSay g many file room form found texts r → FilesSay g many file room form found texts s → r ≡ s
one_files g one many [] file room form found r s h k = h ∙ sym k
one_files g one many (text ∷ texts) file room form found r s h k =
    let same : k.0 ≡ h.0 = one (first_line file many room form) text k.0 h.0 k.1 h.1 in
    one_behind (λ f. FilesSay g many (file + 1) (room - length f.steps) f.form (found ++ f ∷ []) texts r) (λ f. FilesSay g many (file + 1) (room - length f.steps) f.form (found ++ f ∷ []) texts s) file r s
    (λ f a b. one_files g one many texts (file + 1) (room - length f.steps) f.form (found ++ f ∷ []) r s a b) h.0 h.2
    (subst (λ (x : Result FileLines Refusal). GoesOn (λ f. FilesSay g many (file + 1) (room - length f.steps) f.form (found ++ f ∷ []) texts s) file s x) same k.2)

one_step : (fs : List FileLines) (place : LineRef) (a b : Line) → StandsAt fs place a → StandsAt fs place b → a ≡ b
one_step fs place a b p q =
    let same : q.0 ≡ p.0 = some_is q.0 p.0 (sym q.1 ∙ p.1) in
    let there : slice_get p.0.steps place.index ≡ Some b = subst (λ (f : FileLines). slice_get f.steps place.index ≡ Some b) same q.2 in
    some_is a b (sym p.2 ∙ there)

one_zip : {A B : Type 0} (R : A → B → Type 0) → ((x : A) (y z : B) → R x y → R x z → y ≡ z) → (xs : List A) (ys zs : List B) → AllZip R xs ys → AllZip R xs zs → ys ≡ zs
one_zip R one [] [] [] p q = refl
one_zip R one [] (y ∷ ys) zs p q = absurd p
one_zip R one [] [] (z ∷ zs) p q = absurd q
one_zip R one (x ∷ xs) [] zs p q = absurd p
one_zip R one (x ∷ xs) (y ∷ ys) [] p q = absurd q
one_zip R one (x ∷ xs) (y ∷ ys) (z ∷ zs) p q =
    let first : y ≡ z = one x y z p.0 q.0 in
    let rest : ys ≡ zs = one_zip R one xs ys zs p.1 q.1 in
    λ i. first i ∷ rest i

one_log : IsOnlyOrder → (fs : List FileLines) (a b : Log) → IsLogOf fs a → IsLogOf fs b → a ≡ b
one_log only fs a b p q =
    let order : q.order ≡ p.order = only (numbers_in fs) q.order p.order q.merged p.merged in
    let there : AllZip (StandsAt fs) p.order b.lines = subst (λ (o : List LineRef). AllZip (StandsAt fs) o b.lines) order q.lines in
    let init : a.init ≡ b.init = p.init ∙ sym q.init in
    let lines : a.lines ≡ b.lines = one_zip (StandsAt fs) (one_step fs) p.order a.lines b.lines p.lines there in
    λ i. record { init = init i; lines = lines i }

one_together : IsOnlyOrder → (s : Result (List FileLines) LogRefusal) (a b : Result Log LogRefusal) → Together s a → Together s b → a ≡ b
one_together only (Ok fs) a b p q = p.2 ∙ ap Ok (one_log only fs p.0 q.0 p.1 q.1) ∙ sym q.2
one_together only (Err refusal) a b p q = p ∙ sym q

pub one_outcome : (g : Setting) → FileSaysOne g → IsOnlyOrder → LogsSayOne g
one_outcome g one only room texts r s h k =
    let same : k.0 ≡ h.0 = one_files g one (are_several texts) texts 1 room Free [] k.0 h.0 k.1 h.1 in
    one_together only h.0 r s h.2 (subst (λ (x : Result (List FileLines) LogRefusal). Together x s) same k.2)
