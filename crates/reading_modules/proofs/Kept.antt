-- The texts that are kept of modules whose files were sought, and the numbers of these.
use Rattle.std.proofs.Common.{◌≡◌, refl, sym, ap, ◌∙◌, subst, cond, arith, ℕ, ◌<◌, ◌≤◌, ◌^◌, zero, suc, Bool, true, false, ◌||◌, List, [], ◌∷◌, ◌++◌, length, get_or}
use Rattle.std.specs.Prelude.{Option, Vec, Result, Ok, Err, IfOk, IfErr}
use Rattle.std.specs.Str.{bytes_eq}
use Rattle.std.specs.declared.alloc.Global.{Global}
use Rattle.base_core.specs.Device.{File}
use Rattle.base_core.specs.Texts.{same_bytes}
use Rattle.reading_modules.specs.Flattened.{number_of, with_name}
use Rattle.reading_modules.specs.Paths.{file_of}
use Rattle.reading_modules.specs.Readings.{Reading}
use Rattle.reading_modules.specs.Refusals.{AreTexts, IsModule, IsText, Refuses, RefusesBytes, StopsBy}
use Rattle.reading_modules.specs.declared.fault.Stop.{Stop}
use Rattle.reading_modules.specs.declared.reader.SpelledModule.{SpelledModule}
use Rattle.reading_modules.specs.Standard.{is_among}
use Rattle.reading_modules.proofs.Declares.{same_name}
use Rattle.reading_modules.proofs.FromFiles.{refuses_bytes}

below_case : (name : List ℕ) (b : Bool) (ms : List (List ℕ)) → (b || is_among name ms) ≡ true → (is_among name ms ≡ true → number_of name ms < length ms)
    → cond b zero (suc (number_of name ms)) < suc (length ms)
below_case name true ms e f = omega arith
below_case name false ms e f = omega (arith, f e)

number_below : (name : List ℕ) (ms : List (List ℕ)) → is_among name ms ≡ true → number_of name ms < length ms
number_below name [] e = absurd (cc)
number_below name (m ∷ ms) e = below_case name (bytes_eq m name) ms e (number_below name ms)

at_end : (n l : ℕ) (b : Bool) → n < l → cond b zero (suc n) < suc l
at_end n l true f = omega arith
at_end n l false f = omega (arith, f)

-- the number of a name behind others is below them all
new_below : (name : List ℕ) (ms : List (List ℕ)) → number_of name (ms ++ name ∷ []) < length (ms ++ name ∷ [])
new_below name [] = subst (λ (b : Bool). cond b zero (suc zero) < suc zero) (sym (same_name name)) (omega arith)
new_below name (m ∷ ms) = at_end (number_of name (ms ++ name ∷ [])) (length (ms ++ name ∷ [])) (bytes_eq m name) (new_below name ms)

new_case : (n k : ℕ) (b r : Bool) → (b || r) ≡ false → (r ≡ false → n ≡ k) → cond b zero (suc n) ≡ cond b zero (suc k)
new_case n k true r e f = refl
new_case n k false r e f = ap (λ (x : ℕ). suc x) (f e)

-- and it is the number that the name has behind them
number_new : (name : List ℕ) (ms : List (List ℕ)) → is_among name ms ≡ false → number_of name (ms ++ name ∷ []) ≡ number_of name ms
number_new name [] e = subst (λ (b : Bool). cond b zero (suc zero) ≡ zero) (sym (same_name name)) refl
number_new name (m ∷ ms) e = new_case (number_of name (ms ++ name ∷ [])) (number_of name ms) (bytes_eq m name) (is_among name ms) e (number_new name ms)

kept_case : (name : List ℕ) (ms : List (List ℕ)) (b : Bool) → is_among name ms ≡ b → number_of name (cond b ms (ms ++ name ∷ [])) ≡ number_of name ms
kept_case name ms true e = refl
kept_case name ms false e = number_new name ms e

within_case : (name : List ℕ) (ms : List (List ℕ)) (b : Bool) → is_among name ms ≡ b
    → number_of name (cond b ms (ms ++ name ∷ [])) < length (cond b ms (ms ++ name ∷ []))
within_case name ms true e = number_below name ms e
within_case name ms false e = new_below name ms

-- a module keeps its number where it is sought
pub number_kept : (name : List ℕ) (ms : List (List ℕ)) → number_of name (with_name ms name) ≡ number_of name ms
number_kept name ms = kept_case name ms (is_among name ms) refl

pub number_within : (name : List ℕ) (ms : List (List ℕ)) → number_of name (with_name ms name) < length (with_name ms name)
number_within name ms = within_case name ms (is_among name ms) refl

-- there are as many texts as modules
pub texts_long : (h : Option (List File)) (folder : List ℕ) (ms : List (List ℕ)) (ts : List (Vec ℕ Global)) → AreTexts h folder ms ts → length ts ≡ length ms
texts_long h folder [] [] k = refl
texts_long h folder [] (t ∷ ts) k = absurd k
texts_long h folder (m ∷ ms) [] k = absurd k
texts_long h folder (m ∷ ms) (t ∷ ts) k = ap (λ (x : ℕ). suc x) (texts_long h folder ms ts k.1)

-- a text more
pub texts_more : (h : Option (List File)) (folder : List ℕ) (ms : List (List ℕ)) (ts : List (Vec ℕ Global)) (name : List ℕ) (t : Vec ℕ Global) → AreTexts h folder ms ts
    → IsText h (file_of folder name) t.items → AreTexts h folder (ms ++ name ∷ []) (ts ++ t ∷ [])
texts_more h folder [] [] name t k is = (is, tt)
texts_more h folder [] (u ∷ ts) name t k is = absurd k
texts_more h folder (m ∷ ms) [] name t k is = absurd k
texts_more h folder (m ∷ ms) (u ∷ ts) name t k is = (k.0, texts_more h folder ms ts name t k.1 is)

text_case : (h : Option (List File)) (folder m name : List ℕ) (t d : Vec ℕ Global) (ts : List (Vec ℕ Global)) (n l : ℕ) (b : Bool) → (b ≡ true → m ≡ name)
    → IsText h (file_of folder m) t.items → (n < l → IsText h (file_of folder name) (get_or ts n d).items)
    → cond b zero (suc n) < suc l → IsText h (file_of folder name) (get_or (t ∷ ts) (cond b zero (suc n)) d).items
text_case h folder m name t d ts n l true same is f below = subst (λ (x : List ℕ). IsText h (file_of folder x) t.items) (same refl) is
text_case h folder m name t d ts n l false same is f below = f (omega (arith, below))

-- the text of a module's number is that of its file
pub text_numbered : (h : Option (List File)) (folder name : List ℕ) (ms : List (List ℕ)) (ts : List (Vec ℕ Global)) (d : Vec ℕ Global) → AreTexts h folder ms ts
    → number_of name ms < length ms → IsText h (file_of folder name) (get_or ts (number_of name ms) d).items
text_numbered h folder name [] [] d k l = absurd (omega (arith, l))
text_numbered h folder name [] (t ∷ ts) d k l = absurd k
text_numbered h folder name (m ∷ ms) [] d k l = absurd k
text_numbered h folder name (m ∷ ms) (t ∷ ts) d k l =
    text_case h folder m name t d ts (number_of name ms) (length ms) (bytes_eq m name) (same_bytes m name) k.0
    (text_numbered h folder name ms ts d k.1) l

-- the file of a name that is sought is read
pub texts_sought : (h : Option (List File)) (folder : List ℕ) (ms next : List (List ℕ)) (ts after : List (Vec ℕ Global)) (name copy file : List ℕ) (t : Vec ℕ Global)
    → AreTexts h folder ms ts → next ≡ ms ++ copy ∷ [] → copy ≡ name → after ≡ ts ++ t ∷ [] → file ≡ file_of folder name → IsText h file t.items → AreTexts h folder next after
texts_sought h folder ms next ts after name copy file t kept e same f at is =
    let here : IsText h (file_of folder name) t.items = subst (λ (x : List ℕ). IsText h x t.items) at is in
    let named : next ≡ ms ++ name ∷ [] = e ∙ ap (λ (x : List ℕ). ms ++ x ∷ []) same in
    subst (λ (us : List (Vec ℕ Global)). AreTexts h folder next us) (sym f)
    (subst (λ (ns : List (List ℕ)). AreTexts h folder ns (ts ++ t ∷ [])) (sym named) (texts_more h folder ms ts name t kept here))

most_case : (n l : ℕ) (b : Bool) → n ≤ l → cond b zero (suc n) ≤ suc l
most_case n l true f = omega arith
most_case n l false f = omega (arith, f)

number_most : (name : List ℕ) (ms : List (List ℕ)) → number_of name ms ≤ length ms
number_most name [] = omega arith
number_most name (m ∷ ms) = most_case (number_of name ms) (length ms) (bytes_eq m name) (number_most name ms)

-- a number is that of a name, among these
pub number_at : (n : ℕ) (name : List ℕ) (given ms : List (List ℕ)) → n ≡ number_of name given → given ≡ ms → n ≡ number_of name ms
number_at n name given ms e same = e ∙ ap (λ (xs : List (List ℕ)). number_of name xs) same

pub number_few : (n : ℕ) (name : List ℕ) (ms : List (List ℕ)) → n ≡ number_of name ms → length ms ≤ 32 → n < 2 ^ 32
number_few n name ms e few = omega (arith, e, number_most name ms, few)

-- the text of a module that was sought stands at its number
pub text_room : (h : Option (List File)) (folder name : List ℕ) (ms next : List (List ℕ)) (ts : List (Vec ℕ Global)) (n : ℕ) → AreTexts h folder next ts
    → next ≡ with_name ms name → n ≡ number_of name ms → n < length ts
text_room h folder name ms next ts n kept sought e =
    let kept2 : AreTexts h folder (with_name ms name) ts = subst (λ (ns : List (List ℕ)). AreTexts h folder ns ts) sought kept in
    omega (arith, e, number_kept name ms, number_within name ms, texts_long h folder (with_name ms name) ts kept2)

pub text_found : (h : Option (List File)) (folder name : List ℕ) (ms next : List (List ℕ)) (ts : List (Vec ℕ Global)) (n : ℕ) (t : Vec ℕ Global) (bytes : List ℕ) → AreTexts h folder next ts
    → next ≡ with_name ms name → n ≡ number_of name ms → t ≡ get_or ts n t → bytes ≡ t.items → IsText h (file_of folder name) bytes
text_found h folder name ms next ts n t bytes kept sought e at same =
    let kept2 : AreTexts h folder (with_name ms name) ts = subst (λ (ns : List (List ℕ)). AreTexts h folder ns ts) sought kept in
    let number : number_of name (with_name ms name) ≡ n = number_kept name ms ∙ sym e in
    let there : IsText h (file_of folder name) (get_or ts (number_of name (with_name ms name)) t).items =
    text_numbered h folder name (with_name ms name) ts t kept2 (number_within name ms) in
    let here : IsText h (file_of folder name) (get_or ts n t).items =
    subst (λ (i : ℕ). IsText h (file_of folder name) (get_or ts i t).items) number there in
    subst (λ (bs : List ℕ). IsText h (file_of folder name) bs) (sym same)
    (subst (λ (x : Vec ℕ Global). IsText h (file_of folder name) x.items) (sym at) here)

pub module_found : {N : Type 0} (reading : Reading N) (h : Option (List File)) (folder : List ℕ) (number n : ℕ) (name bytes : List ℕ) (r : Result (SpelledModule N) Stop) → number ≡ n
    → IsText h (file_of folder name) bytes → IfOk r (λ s. reading.Spells number bytes s.module s.notes.items) → IfOk r (λ s. s.module.name ≡ name)
    → IfOk r (λ s. IsModule reading h folder n name s.module s.notes.items)
module_found reading h folder number n name bytes (Err e) same text spelled named = tt
module_found reading h folder number n name bytes (Ok s) same text spelled named = record {
  bytes = bytes;
  text = text;
  spelled = subst (λ (k : ℕ). reading.Spells k bytes s.module s.notes.items) same spelled;
  named = named;
}

pub module_refused : {N A : Type 0} (reading : Reading N) (h : Option (List File)) (folder : List ℕ) (number n : ℕ) (name bytes : List ℕ) (r : Result A Stop) → number ≡ n
    → IsText h (file_of folder name) bytes → IfErr r (StopsBy (RefusesBytes reading number bytes name)) → IfErr r (StopsBy (Refuses reading h folder n name))
module_refused reading h folder number n name bytes (Ok x) same text m = tt
module_refused reading h folder number n name bytes (Err s) same text m =
    refuses_bytes reading h folder n name (file_of folder name) bytes s refl text (subst (λ (k : ℕ). StopsBy (RefusesBytes reading k bytes name) s) same m)
