-- What the words give is one command, and meets the rules on names, numbers and counts.
use Rattle.std.proofs.Common.{◌≡◌, ◌∙◌, sym, ap, subst, refl, ℕ, ◌≤◌, Bool, true, false, List, [], ◌∷◌, Option, Some, None, IfSome, option_to_list, IfOk, Result, Ok, Err, arith}
use Rattle.std.specs.List.{list_all}
use Rattle.std.specs.declared.alloc.AllocError.{AllocError}
use Rattle.std.proofs.lemmas.Bool.{and_parts}
use Rattle.run_words.specs.declared.command.Command.{Command}
use Rattle.run_words.specs.declared.command.Command.TheVariants as command
use Rattle.run_words.specs.declared.command.Flag.TheVariants.{Stutter, Ties, Wide}
use Rattle.run_words.specs.declared.command.Setting.TheVariants.{Config, Within, Limit, Witness, Why, Near}
use Rattle.run_words.specs.declared.job.Job.{Job}
use Rattle.run_words.specs.declared.job.Options.{Options}
use Rattle.run_words.specs.declared.job.Words.{Words}
use Rattle.run_words.specs.declared.job.Words.TheVariants.{Validate, Check, SelfRun}
use Rattle.run_words.specs.Line.{Text, Given, Gives, is_given}
use Rattle.run_words.specs.Job.{IsJob, IsNumber, IsNumberIn, IsNumberOr, IsSet, IsTied, SetsOptions, StandsAlone, times, values_of}
use Rattle.run_words.specs.Words.{AreWords, Asks, AsksCheck, AsksNumber, IsFew, IsOnlyNumber, IsWitnessed, JobMeets, MeetsRules, OneCommand, OptionsMeet, Reads, TellsNothing}
use Rattle.run_words.proofs.ReadLaws.{job_as, number_as, witnessed_as}
use Rattle.run_words.proofs.Readings.{AllGiven, line_given, one_given}

-- ---- one command

one_number : (text : Text) (least most a b : ℕ) → IsNumber text least most a → IsNumber text least most b → a ≡ b
one_number text least most a b g h = g.value ∙ sym h.value

one_number_or : (default : ℕ) (values : List Text) (least most a b : ℕ) → IsNumberOr default values least most a → IsNumberOr default values least most b → a ≡ b
one_number_or default [] least most a b g h = g ∙ sym h
one_number_or default (t ∷ []) least most a b g h = one_number t least most a b g h
one_number_or default (t ∷ u ∷ ts) least most a b g h = absurd g

one_found : (values : List Text) (least most : ℕ) (a b : Option ℕ) → IsNumberIn values least most a → IsNumberIn values least most b → a ≡ b
one_found [] least most a b g h = g ∙ sym h
one_found (t ∷ []) least most a b g h = g.1 ∙ ap Some (one_number t least most g.0 h.0 g.2 h.2) ∙ sym h.1
one_found (t ∷ u ∷ ts) least most a b g h = absurd g

one_flag : (n : ℕ) (a b : Bool) → IsSet n a → IsSet n b → a ≡ b
one_flag n true true e f = refl
one_flag n false false e f = refl
one_flag n true false e f = absurd (omega arith)
one_flag n false true e f = absurd (omega arith)

one_option : (a b : Option Text) → option_to_list a ≡ option_to_list b → a ≡ b
one_option None None e = refl
one_option (Some x) (Some y) e = cc
one_option None (Some y) e = cc
one_option (Some x) None e = cc

options_are : (a b : Options) → a.within ≡ b.within → a.stutter ≡ b.stutter → a.limit ≡ b.limit → a ≡ b
options_are a b e f g =
    ap (λ w. let o : Options = record { within = w; stutter = a.stutter; limit = a.limit } in o) e
    ∙ ap (λ s. let o : Options = record { within = b.within; stutter = s; limit = a.limit } in o) f
    ∙ ap (λ l. let o : Options = record { within = b.within; stutter = b.stutter; limit = l } in o) g

job_are : (a b : Job) → a.module ≡ b.module → a.logs ≡ b.logs → a.config ≡ b.config → a.silent ≡ b.silent → a.options ≡ b.options → a.why ≡ b.why → a.near ≡ b.near → a.wide ≡ b.wide → a.ties ≡ b.ties → a ≡ b
job_are a b e f g h i k l m n =
    ap (λ m. let j : Job = record { «module» = m; logs = a.logs; config = a.config; silent = a.silent; options = a.options; why = a.why; near = a.near; wide = a.wide; ties = a.ties } in j) e
    ∙ ap (λ l. let j : Job = record { «module» = b.module; logs = l; config = a.config; silent = a.silent; options = a.options; why = a.why; near = a.near; wide = a.wide; ties = a.ties } in j) f
    ∙ ap (λ x. let j : Job = record { «module» = b.module; logs = b.logs; config = x; silent = a.silent; options = a.options; why = a.why; near = a.near; wide = a.wide; ties = a.ties } in j) g
    ∙ ap (λ x. let j : Job = record { «module» = b.module; logs = b.logs; config = b.config; silent = x; options = a.options; why = a.why; near = a.near; wide = a.wide; ties = a.ties } in j) h
    ∙ ap (λ o. let j : Job = record { «module» = b.module; logs = b.logs; config = b.config; silent = b.silent; options = o; why = a.why; near = a.near; wide = a.wide; ties = a.ties } in j) i
    ∙ ap (λ w. let j : Job = record { «module» = b.module; logs = b.logs; config = b.config; silent = b.silent; options = b.options; why = w; near = a.near; wide = a.wide; ties = a.ties } in j) k
    ∙ ap (λ x. let j : Job = record { «module» = b.module; logs = b.logs; config = b.config; silent = b.silent; options = b.options; why = b.why; near = x; wide = a.wide; ties = a.ties } in j) l
    ∙ ap (λ w. let j : Job = record { «module» = b.module; logs = b.logs; config = b.config; silent = b.silent; options = b.options; why = b.why; near = b.near; wide = w; ties = a.ties } in j) m
    ∙ ap (λ t. let j : Job = record { «module» = b.module; logs = b.logs; config = b.config; silent = b.silent; options = b.options; why = b.why; near = b.near; wide = b.wide; ties = t } in j) n

one_options : (g : Given) (a b : Options) → SetsOptions g a → SetsOptions g b → a ≡ b
one_options g a b h i = options_are a b
    (one_number_or 1 (values_of Within g.options) 1 8 a.within b.within h.within i.within)
    (one_flag (times Stutter g.flags) a.stutter b.stutter h.stutter i.stutter)
    (one_number_or 10000 (values_of Limit g.options) 1 100000 a.limit b.limit h.limit i.limit)

one_job : (g : Given) (a b : Job) → IsJob g a → IsJob g b → a ≡ b
one_job g a b h i =
    let files : a.module ∷ a.logs ≡ b.module ∷ b.logs = sym h.files.all ∙ i.files.all in
    job_are a b (let e : a.module ≡ b.module = cc in e) (let e : a.logs ≡ b.logs = cc in e)
    (one_option a.config b.config (sym h.config ∙ i.config)) (one_option a.silent b.silent (sym h.silent ∙ i.silent))
    (one_options g a.options b.options h.options i.options) (one_found (values_of Why g.options) 1 1000 a.why b.why h.why i.why)
    (one_found (values_of Near g.options) 1 1000 a.near b.near h.near i.near) (one_flag (times Wide g.flags) a.wide b.wide h.wide i.wide)
    (one_flag (times Ties g.flags) a.ties b.ties h.ties.set i.ties.set)

one_asked : (c : Command) (ws : List Text) (a b : Job) → Asks c ws a → Asks c ws b → a ≡ b
one_asked c ws a b h i = one_job h.given a b h.job_is (job_as i.given h.given b (one_given c ws i.given h.given i.line h.line) i.job_is)

one_witnessed : (g : Given) (a b : Job) (w v : Text) → IsWitnessed g a w → IsWitnessed g b v → Check a w ≡ Check b v
one_witnessed g a b w v h i =
    let j = one_job g a b h.job_is i.job_is in
    let t : w ∷ [] ≡ v ∷ [] = sym h.witness_is ∙ i.witness_is in
    cc

one_check : (ws : List Text) (a b : Job) (w v : Text) → AsksCheck ws a w → AsksCheck ws b v → Check a w ≡ Check b v
one_check ws a b w v h i =
    one_witnessed h.given a b w v h.witnessed (witnessed_as i.given h.given b v (one_given command.Check ws i.given h.given i.line h.line) i.witnessed)

one_only : (ws : List Text) (m n : ℕ) → IsOnlyNumber ws m → IsOnlyNumber ws n → m ≡ n
one_only ws m n h i =
    let t : h.text ∷ [] ≡ i.text ∷ [] = sym h.only ∙ i.only in
    let s : h.text ≡ i.text = cc in
    one_number h.text 1 20000 m n h.number (subst (λ (t : Text). IsNumber t 1 20000 n) (sym s) i.number)

one_selfrun : (ws : List Text) (m n : ℕ) → AsksNumber ws m → AsksNumber ws n → m ≡ n
one_selfrun ws m n h i =
    one_only h.given.positional m n h.number (number_as i.given h.given n (one_given command.SelfRun ws i.given h.given i.line h.line) i.number)

abbrev rest_of : List Text → List Text
rest_of [] = []
rest_of (w ∷ ws) = ws

pub one_command : OneCommand
one_command ws (Validate a) (Validate b) h i =
    let r : i.0 ≡ h.0 = ap rest_of (sym i.1 ∙ h.1) in
    ap Validate (one_asked command.Validate h.0 a b h.2 (subst (λ (r : List Text). Asks command.Validate r b) r i.2))
one_command ws (Check a w) (Check b v) h i =
    let r : i.0 ≡ h.0 = ap rest_of (sym i.1 ∙ h.1) in
    one_check h.0 a b w v h.2 (subst (λ (r : List Text). AsksCheck r b v) r i.2)
one_command ws (SelfRun m) (SelfRun n) h i =
    let r : i.0 ≡ h.0 = ap rest_of (sym i.1 ∙ h.1) in
    ap SelfRun (one_selfrun h.0 m n h.2 (subst (λ (r : List Text). AsksNumber r n) r i.2))
one_command ws (Validate a) (Check b v) h i = let e = sym h.1 ∙ i.1 in cc
one_command ws (Validate a) (SelfRun n) h i = let e = sym h.1 ∙ i.1 in cc
one_command ws (Check a w) (Validate b) h i = let e = sym h.1 ∙ i.1 in cc
one_command ws (Check a w) (SelfRun n) h i = let e = sym h.1 ∙ i.1 in cc
one_command ws (SelfRun m) (Validate b) h i = let e = sym h.1 ∙ i.1 in cc
one_command ws (SelfRun m) (Check b v) h i = let e = sym h.1 ∙ i.1 in cc

-- ---- the rules on names, numbers and counts

line_is : (c : Command) (ws : List Text) (g : Given) → Gives c ws g → AllGiven g
line_is c ws g h = subst AllGiven (sym h.is) (line_given c h.line h.allowed)

name_meets : (o : Option Text) (vs : List Text) → vs ≡ option_to_list o → list_all is_given vs ≡ true → IfSome o (λ n. is_given n ≡ true)
name_meets None vs e h = tt
name_meets (Some n) vs e h = (and_parts (is_given n) true (subst (λ (vs : List Text). list_all is_given vs ≡ true) e h)).0

number_meets : (default : ℕ) (vs : List Text) (least most n : ℕ) → least ≤ default → default ≤ most → IsNumberOr default vs least most n → (least ≤ n) × (n ≤ most)
number_meets default [] least most n l m h = (omega arith, omega arith)
number_meets default (t ∷ []) least most n l m h = (h.above, h.below)
number_meets default (t ∷ u ∷ ts) least most n l m h = absurd h

options_meet : (g : Given) (o : Options) → SetsOptions g o → OptionsMeet o
options_meet g o h =
    let w = number_meets 1 (values_of Within g.options) 1 8 o.within (omega arith) (omega arith) h.within in
    let l = number_meets 10000 (values_of Limit g.options) 1 100000 o.limit (omega arith) (omega arith) h.limit in
    record { within_least = w.0; within_most = w.1; limit_least = l.0; limit_most = l.1 }

found_meets : (values : List Text) (o : Option ℕ) → IsNumberIn values 1 1000 o → IfSome o IsFew
found_meets [] None h = tt
found_meets [] (Some n) h = cc
found_meets (t ∷ []) None h = tt
found_meets (t ∷ []) (Some n) h = let e : n ≡ h.0 = let same = h.1 in cc in subst IsFew (sym e) (h.2.above, h.2.below)
found_meets (t ∷ u ∷ ts) o h = absurd h

none_found : (values : List Text) (o : Option ℕ) → values ≡ [] → IsNumberIn values 1 1000 o → o ≡ None
none_found values o e h = subst (λ vs. IsNumberIn vs 1 1000 o) e h

tells_nothing : (ws ns : List Text) (ties : Bool) (why near : Option ℕ) → IsNumberIn ws 1 1000 why → IsNumberIn ns 1 1000 near → StandsAlone ties ws ns → TellsNothing ties why near
tells_nothing ws ns false why near h i a = tt
tells_nothing ws ns true why near h i a = (none_found ws why a.0 h, none_found ns near a.1 i)

-- beside these values `--ties` is no flag of a job
pub not_alone : (g : Given) → IsSet (times Ties g.flags) true → (StandsAlone true (values_of Why g.options) (values_of Near g.options) → ⊥) → (b : Bool) → IsTied g b → ⊥
not_alone g set none b i = none (subst (λ t. StandsAlone t (values_of Why g.options) (values_of Near g.options)) (one_flag (times Ties g.flags) b true i.set set) i.alone)

job_meets : (c : Command) (ws : List Text) (g : Given) (j : Job) → Gives c ws g → IsJob g j → JobMeets j
job_meets c ws g j l h =
    let a = line_is c ws g l in
    let f = subst (λ (ts : List Text). list_all is_given ts ≡ true) h.files.all a.words in
    record {
      module_path = h.files.module_path;
      some = h.files.some;
      few = h.files.few;
      logs = (and_parts (is_given j.module) (list_all is_given j.logs) f).1;
      config = name_meets j.config (values_of Config g.options) h.config (a.settings Config);
      silent = h.operator;
      options = options_meet g j.options h.options;
      why = found_meets (values_of Why g.options) j.why h.why;
      near = found_meets (values_of Near g.options) j.near h.near;
      ties = tells_nothing (values_of Why g.options) (values_of Near g.options) j.ties j.why j.near h.why h.near h.ties.alone;
    }

witness_meets : (c : Command) (ws : List Text) (g : Given) (w : Text) → Gives c ws g → values_of Witness g.options ≡ w ∷ [] → is_given w ≡ true
witness_meets c ws g w l e =
    let a = (line_is c ws g l).settings Witness in
    (and_parts (is_given w) true (subst (λ (vs : List Text). list_all is_given vs ≡ true) e a)).0

pub words_meet : (ws : List Text) (w : Words) → AreWords ws w → MeetsRules w
words_meet ws (Validate j) h = job_meets command.Validate h.0 h.2.given j h.2.line h.2.job_is
words_meet ws (Check j w) h =
    (job_meets command.Check h.0 h.2.given j h.2.line h.2.witnessed.job_is, witness_meets command.Check h.0 h.2.given w h.2.line h.2.witnessed.witness_is)
words_meet ws (SelfRun n) h = (h.2.number.number.above, h.2.number.number.below)

pub read_meets : (ws : List Text) (r : Result (Option Words) AllocError) → Reads ws r → IfOk r (λ read. IfSome read MeetsRules)
read_meets ws (Err e) h = tt
read_meets ws (Ok None) h = tt
read_meets ws (Ok (Some w)) h = words_meet ws w h
