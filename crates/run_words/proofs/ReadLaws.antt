-- What a line gives decides what a command asks.
use Rattle.std.proofs.Common.{◌≡◌, ◌↔◌, Bool, true, false, ◌∙◌, sym, ap, subst, refl, ℕ, ◌+◌, ◌-◌, ◌<◌, ◌≤◌, List, [], ◌∷◌, length, get_or, take, drop, drop-cons, add-one, suc, length-drop, Option, Some, None, option_map, MatchOption, IfOk, Result, Ok, Err, String, Global, arith}
use Rattle.std.specs.Prelude.{IsTrue, codes, string_bytes}
use Rattle.std.specs.Borrow.{Bor}
use Rattle.std.specs.declared.alloc.AllocError.{AllocError}
use Rattle.std.proofs.lemmas.List.{take_rest}
use Rattle.run_words.specs.declared.command.Command.{Command}
use Rattle.run_words.specs.declared.command.Command.TheVariants as command
use Rattle.run_words.specs.declared.command.Flag.TheVariants.{Stutter, Ties, Wide}
use Rattle.run_words.specs.declared.command.Setting.TheVariants.{Config, Within, Silent, Limit, Witness, Why, Near}
use Rattle.run_words.specs.declared.job.Job.{Job}
use Rattle.run_words.specs.declared.job.Options.{Options}
use Rattle.run_words.specs.declared.job.Words.{Words}
use Rattle.run_words.specs.declared.job.Words.TheVariants.{Validate, Check, SelfRun}
use Rattle.run_words.specs.Line.{Text, Given, Gives, words_of}
use Rattle.run_words.specs.Job.{AreFiles, IsJob, IsNumberIn, IsNumberOr, IsSet, IsTied, SetsOptions, StandsAlone, times, values_of}
use Rattle.run_words.specs.Parsers.{Agree, Holds, texts_of}
use Rattle.run_words.specs.Values.{IsValue, NumberFrom, NumberIn}
use Rattle.run_words.specs.Words.{AreWords, Asks, AsksCheck, AsksNumber, IsOnlyNumber, IsWitnessed}
use Rattle.run_words.proofs.Readings.{one_given, then_agree, turned}

pub at_some : {X : Type 0} (o : Option X) (x : X) (P : Type 0) (Q : X → Type 0) → o ≡ Some x → MatchOption o P Q → Q x
at_some o x P Q e h = subst (λ o. MatchOption o P Q) e h

pub at_none : {X : Type 0} (o : Option X) (P : Type 0) (Q : X → Type 0) → o ≡ None → MatchOption o P Q → P
at_none o P Q e h = subst (λ o. MatchOption o P Q) e h

-- ---- the order of different options and flags does not matter

options_as : (g h : Given) (o : Options) → Agree g h → SetsOptions g o → SetsOptions h o
options_as g h o a s = record {
  within = subst (λ vs. IsNumberOr 1 vs 1 8 o.within) (a.settings Within) s.within;
  limit = subst (λ vs. IsNumberOr 10000 vs 1 100000 o.limit) (a.settings Limit) s.limit;
  stutter = sym (a.flags Stutter) ∙ s.stutter;
}

tied_as : (g h : Given) (ties : Bool) → Agree g h → IsTied g ties → IsTied h ties
tied_as g h ties a i = record {
  set = sym (a.flags Ties) ∙ i.set;
  alone = subst (λ ns. StandsAlone ties (values_of Why h.options) ns) (a.settings Near) (subst (λ ws. StandsAlone ties ws (values_of Near g.options)) (a.settings Why) i.alone);
}

pub job_as : (g h : Given) (j : Job) → Agree g h → IsJob g j → IsJob h j
job_as g h j a i = record {
  files = subst (λ (ws : List Text). AreFiles ws j.module j.logs) a.positional i.files;
  config = sym (a.settings Config) ∙ i.config;
  silent = sym (a.settings Silent) ∙ i.silent;
  operator = i.operator;
  options = options_as g h j.options a i.options;
  why = subst (λ vs. IsNumberIn vs 1 1000 j.why) (a.settings Why) i.why;
  near = subst (λ vs. IsNumberIn vs 1 1000 j.near) (a.settings Near) i.near;
  wide = sym (a.flags Wide) ∙ i.wide;
  ties = tied_as g h j.ties a i.ties;
}

pub witnessed_as : (g h : Given) (j : Job) (w : Text) → Agree g h → IsWitnessed g j w → IsWitnessed h j w
witnessed_as g h j w a i = record { job_is = job_as g h j a i.job_is; witness_is = sym (a.settings Witness) ∙ i.witness_is }

pub number_as : (g h : Given) (n : ℕ) → Agree g h → IsOnlyNumber g.positional n → IsOnlyNumber h.positional n
number_as g h n a i = subst (λ (ws : List Text). IsOnlyNumber ws n) a.positional i

-- what the words give agrees with what the matches hold
held_agree : (c : Command) (ws : List Text) (g held : Given) → Gives c ws g → Holds c ws held → Agree g held
held_agree c ws g held l h = then_agree g h.given held (one_given c ws g h.given l h.line) h.agree

pub number_at : (default least most : ℕ) (values : List Text) (found : Option (Bor Text)) (r : Option ℕ) → IsValue values found
    → MatchOption r ((n : ℕ) → NumberFrom default (option_map (λ t. t.now) found) least most n → ⊥) (NumberFrom default (option_map (λ t. t.now) found) least most)
    → MatchOption r ((n : ℕ) → IsNumberOr default values least most n → ⊥) (IsNumberOr default values least most)
number_at default least most values None r e h = subst (λ vs. MatchOption r ((n : ℕ) → IsNumberOr default vs least most n → ⊥) (IsNumberOr default vs least most)) (sym e) h
number_at default least most values (Some t) r e h = subst (λ vs. MatchOption r ((n : ℕ) → IsNumberOr default vs least most n → ⊥) (IsNumberOr default vs least most)) (sym e) h

pub number_in_at : (least most : ℕ) (values : List Text) (found : Option (Bor Text)) (r : Option (Option ℕ)) → IsValue values found
    → MatchOption r ((o : Option ℕ) → NumberIn (option_map (λ t. t.now) found) least most o → ⊥) (NumberIn (option_map (λ t. t.now) found) least most)
    → MatchOption r ((o : Option ℕ) → IsNumberIn values least most o → ⊥) (IsNumberIn values least most)
number_in_at least most values None r e h = subst (λ vs. MatchOption r ((o : Option ℕ) → IsNumberIn vs least most o → ⊥) (IsNumberIn vs least most)) (sym e) h
number_in_at least most values (Some t) r e h = subst (λ vs. MatchOption r ((o : Option ℕ) → IsNumberIn vs least most o → ⊥) (IsNumberIn vs least most)) (sym e) h

pub many_numbers : (least most : ℕ) (values : List Text) → 2 ≤ length values → (o : Option ℕ) → IsNumberIn values least most o → ⊥
many_numbers least most [] l o h = omega arith
many_numbers least most (t ∷ []) l o h = omega arith
many_numbers least most (t ∷ u ∷ ts) l o h = h

-- ---- whether an option stands

pub one_stands : (values : List Text) (t : Bor Text) → IsValue values (Some t) → IsTrue true ↔ (values ≡ [] → ⊥)
one_stands values t h = ((λ _ e. let one : t.now ∷ [] ≡ [] = sym h ∙ e in cc), λ _. refl)

pub none_stands : (values : List Text) → IsValue values None → IsTrue false ↔ (values ≡ [] → ⊥)
none_stands values h = ((λ e. cc), λ some. absurd (some h))

pub many_stand : (values : List Text) → 2 ≤ length values → IsTrue true ↔ (values ≡ [] → ⊥)
many_stand values l = ((λ _ e. let none : length values ≡ 0 = ap length e in omega arith), λ _. refl)

none_there : (values : List Text) (b : Bool) → IsTrue b ↔ (values ≡ [] → ⊥) → b ≡ false → values ≡ []
none_there [] b h e = refl
none_there (v ∷ vs) b h e = let yes : b ≡ true = h.1 (λ n. cc) in cc

pub tied_alone : (g : Given) (whys nears : Bool) → IsSet (times Ties g.flags) true → IsTrue whys ↔ (values_of Why g.options ≡ [] → ⊥) → whys ≡ false
    → IsTrue nears ↔ (values_of Near g.options ≡ [] → ⊥) → nears ≡ false → IsTied g true
tied_alone g whys nears set h off i none =
    record { set = set; alone = (none_there (values_of Why g.options) whys h off, none_there (values_of Near g.options) nears i none) }

-- ---- the number of `selfrun`

pub selfrun_some : (ws : List Text) (g : Given) (r : Option ℕ) → Holds command.SelfRun ws g
    → MatchOption r ((n : ℕ) → IsOnlyNumber g.positional n → ⊥) (IsOnlyNumber g.positional)
    → MatchOption r ((n : ℕ) → AsksNumber ws n → ⊥) (AsksNumber ws)
selfrun_some ws g None m h = λ n a. h n (number_as a.given g n (held_agree command.SelfRun ws a.given g a.line m) a.number)
selfrun_some ws g (Some n) m h = record { given = m.given; line = m.line; number = number_as g m.given n (turned m.given g m.agree) h }

pub no_single : (ws : List Text) (n : ℕ) → ws ≡ [] → IsOnlyNumber ws n → ⊥
no_single ws n e o = let q = sym e ∙ o.only in cc

-- ---- jobs

pub job_some : (c : Command) (ws : List Text) (g : Given) (r : Result (Option Job) AllocError) → Holds c ws g
    → IfOk r (λ read. MatchOption read ((j : Job) → IsJob g j → ⊥) (IsJob g))
    → IfOk r (λ read. MatchOption read ((j : Job) → Asks c ws j → ⊥) (Asks c ws))
job_some c ws g (Err e) m h = tt
job_some c ws g (Ok None) m h = λ j a. h j (job_as a.given g j (held_agree c ws a.given g a.line m) a.job_is)
job_some c ws g (Ok (Some j)) m h = record { given = m.given; line = m.line; job_is = job_as g m.given j (turned m.given g m.agree) h }

pub check_some : (ws : List Text) (g : Given) (r : Result (Option (Job × Text)) AllocError) → Holds command.Check ws g
    → IfOk r (λ read. MatchOption read ((j : Job) (w : Text) → IsWitnessed g j w → ⊥) (λ p. IsWitnessed g p.0 p.1))
    → IfOk r (λ read. MatchOption read ((j : Job) (w : Text) → AsksCheck ws j w → ⊥) (λ p. AsksCheck ws p.0 p.1))
check_some ws g (Err e) m h = tt
check_some ws g (Ok None) m h = λ j w a. h j w (witnessed_as a.given g j w (held_agree command.Check ws a.given g a.line m) a.witnessed)
check_some ws g (Ok (Some p)) m h = record { given = m.given; line = m.line; witnessed = witnessed_as g m.given p.0 p.1 (turned m.given g m.agree) h }

-- ---- files

length-texts : (ts : List (Bor Text)) → length (texts_of ts) ≡ length ts
length-texts [] = refl
length-texts (t ∷ ts) = ap suc (length-texts ts)

-- there are as many logs as words behind the first
log_count : (ts : List (Bor Text)) (path : Text) (logs : List Text) → AreFiles (texts_of ts) path logs → length logs + 1 ≡ length ts
log_count ts path logs f = let long = sym (length-texts ts) ∙ ap length f.all in omega arith

pub no_words : (ts : List (Bor Text)) (path : Text) (logs : List Text) → length ts < 1 → AreFiles (texts_of ts) path logs → ⊥
no_words ts path logs l f = let n = log_count ts path logs f in omega arith

pub no_logs : (ts : List (Bor Text)) (path : Text) (logs : List Text) → length (take (length ts - 1) (drop 1 ts)) ≡ 0 → AreFiles (texts_of ts) path logs → ⊥
no_logs ts path logs e f = let n = log_count ts path logs f in let s = f.some in let d : length (drop 1 ts) ≡ 0 = rw take_rest at e in omega (arith, length-drop 1 ts)

pub many_logs : (ts : List (Bor Text)) (path : Text) (logs : List Text) → 64 < length (take (length ts - 1) (drop 1 ts)) → AreFiles (texts_of ts) path logs → ⊥
many_logs ts path logs e f = let n = log_count ts path logs f in let s = f.few in let d : 64 < length (drop 1 ts) = rw take_rest at e in omega (arith, length-drop 1 ts)

-- ---- the first word

words_next : (ws : List (String Global)) (i : ℕ) (w : String Global) → i < length ws → w ≡ get_or ws i w
    → words_of (drop i ws) ≡ string_bytes w ∷ words_of (drop (i + 1) ws)
words_next ws i w l e =
    let front : drop i ws ≡ get_or ws i w ∷ drop (i + 1) ws = rw add-one (drop-cons ws i w l) in
    ap words_of front ∙ ap (λ (s : String Global). string_bytes s ∷ words_of (drop (i + 1) ws)) (sym e)

pub first_and_rest : (ws : List (String Global)) (first : String Global) → 1 ≤ length ws → first ≡ get_or ws 0 first
    → words_of ws ≡ string_bytes first ∷ words_of (take (length ws - 1) (drop 1 ws))
first_and_rest ws first l e = words_next ws 0 first (omega arith) e ∙ ap (λ (r : List (String Global)). string_bytes first ∷ words_of r) (sym (take_rest ws 1))

abbrev rest_of : List Text → List Text
rest_of [] = []
rest_of (w ∷ ws) = ws

abbrev word_of : List Text → Text
word_of [] = []
word_of (w ∷ ws) = w

pub no_validate : (ws : List Text) → ((j : Job) → Asks command.Validate ws j → ⊥) → (w : Words) → AreWords (codes "validate" ∷ ws) w → ⊥
no_validate ws none (Validate j) h = none j (subst (λ (r : List Text). Asks command.Validate r j) (sym (ap rest_of h.1)) h.2)
no_validate ws none (Check j w) h = let e = h.1 in cc
no_validate ws none (SelfRun n) h = let e = h.1 in cc

pub no_check : (ws : List Text) → ((j : Job) (w : Text) → AsksCheck ws j w → ⊥) → (w : Words) → AreWords (codes "check" ∷ ws) w → ⊥
no_check ws none (Validate j) h = let e = h.1 in cc
no_check ws none (Check j w) h = none j w (subst (λ (r : List Text). AsksCheck r j w) (sym (ap rest_of h.1)) h.2)
no_check ws none (SelfRun n) h = let e = h.1 in cc

pub no_selfrun : (ws : List Text) → ((n : ℕ) → AsksNumber ws n → ⊥) → (w : Words) → AreWords (codes "selfrun" ∷ ws) w → ⊥
no_selfrun ws none (Validate j) h = let e = h.1 in cc
no_selfrun ws none (Check j w) h = let e = h.1 in cc
no_selfrun ws none (SelfRun n) h = none n (subst (λ (r : List Text). AsksNumber r n) (sym (ap rest_of h.1)) h.2)

-- no other word is a command
pub no_command : (first : Text) (ws : List Text) → (first ≡ codes "validate" → ⊥) → (first ≡ codes "check" → ⊥) → (first ≡ codes "selfrun" → ⊥)
    → (w : Words) → AreWords (first ∷ ws) w → ⊥
no_command first ws a b d (Validate j) h = a (ap word_of h.1)
no_command first ws a b d (Check j w) h = b (ap word_of h.1)
no_command first ws a b d (SelfRun n) h = d (ap word_of h.1)

pub no_empty : (w : Words) → AreWords [] w → ⊥
no_empty (Validate j) h = let e = h.1 in cc
no_empty (Check j w) h = let e = h.1 in cc
no_empty (SelfRun n) h = let e = h.1 in cc
