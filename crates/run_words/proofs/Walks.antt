-- What clap's walk makes of each part of a line.
use Rattle.std.proofs.Common.{◌≡◌, ◌∙◌, ap, ap₂, refl, ◌&&◌, Bool, true, false, List, [], ◌∷◌, ◌++◌, Some, None, codes}
use Rattle.std.specs.Prelude.{if◌then◌else◌, option_and_then}
use Rattle.clap.specs.Lexer.{long_of, long_of_rest, short_of, short_of_rest, strip_byte}
use Rattle.std.specs.Str.{bytes_eq}
use Rattle.clap.specs.Walk.{Rule, Held, Waiting, idle, option, positional as waits_word, value, Walk, walked, settled, settled_rows, reacted, is_pending, pushed, positional_held, word_met, plain_word, long_or_other, short_or_plain, after_step, Step, trailing}
use Rattle.clap.specs.Simple.{filled, with_index, is_simple}
use Rattle.clap.specs.Kinds.{Kinds, or_else}
use Rattle.clap.specs.declared.error.kind.ErrorKind.TheVariants.{InvalidValue}
use Rattle.std.specs.Option.{option_map_or}
use Rattle.clap.specs.Faults.{is_simple_and_free, positional_fault, step_fault, word_fault, flag_word_fault, bundle_fault}
use Rattle.run_words.proofs.Faults.{ends_fault, turn}
use Rattle.run_words.specs.declared.command.Command.{Command}
use Rattle.run_words.specs.declared.command.Command.TheVariants.{Validate, Check, SelfRun}
use Rattle.run_words.specs.declared.command.Flag.{Flag}
use Rattle.run_words.specs.declared.command.Flag.TheVariants.{Stutter, Ties, Wide}
use Rattle.run_words.specs.declared.command.Setting.{Setting}
use Rattle.run_words.specs.declared.command.Setting.TheVariants.{Config, Within, Silent, Limit, Witness, Why, Near}
use Rattle.run_words.specs.Line.{Text, flag_name, name_of, has_flag, has_setting, begins_with_dash}
use Rattle.run_words.specs.Parsers.{app_for, flag_rule, id_of, rules_for, shape_for, setting_rule, words_rule}

pub simple : (c : Command) → is_simple (app_for c) ≡ true
simple Validate = refl
simple Check = refl
simple SelfRun = refl

pub simple_and_free : (c : Command) → is_simple_and_free (app_for c) ≡ true
simple_and_free Validate = refl
simple_and_free Check = refl
simple_and_free SelfRun = refl

-- where the walk stands before a part: behind an option or behind a positional word
abbrev pub before : Bool → Bool → Held → Walk
before false t h = record { held = h; waiting = idle; position = 1; is_trailing = t; stopped = None }
before true t h = record { held = h; waiting = waits_word; position = 1; is_trailing = t; stopped = None }

abbrev pub word_rule : Rule
word_rule = with_index 1 (filled words_rule)

pub joins : (c : Command) (b : Bool) (s : Setting) (v : Text) (h : Held) → has_setting c s ≡ true
    → walked (rules_for c) [] (before b false h) (name_of s ++ 61 ∷ v) ≡ before false false (reacted (rules_for c) (filled (setting_rule s)) (v ∷ []) h)
unfolding walked
joins Validate false Config v h e = refl
joins Validate false Within v h e = refl
joins Validate false Silent v h e = refl
joins Validate false Limit v h e = refl
joins Validate false Witness v h e = cc
joins Validate false Why v h e = refl
joins Validate false Near v h e = refl
joins Validate true Config v h e = refl
joins Validate true Within v h e = refl
joins Validate true Silent v h e = refl
joins Validate true Limit v h e = refl
joins Validate true Witness v h e = cc
joins Validate true Why v h e = refl
joins Validate true Near v h e = refl
joins Check false Config v h e = refl
joins Check false Within v h e = refl
joins Check false Silent v h e = refl
joins Check false Witness v h e = refl
joins Check false Limit v h e = cc
joins Check false Why v h e = cc
joins Check false Near v h e = cc
joins Check true Config v h e = refl
joins Check true Within v h e = refl
joins Check true Silent v h e = refl
joins Check true Witness v h e = refl
joins Check true Limit v h e = cc
joins Check true Why v h e = cc
joins Check true Near v h e = cc
joins SelfRun b s v h e = cc

pub flags : (c : Command) (b : Bool) (f : Flag) (h : Held) → has_flag c f ≡ true
    → walked (rules_for c) [] (before b false h) (flag_name f) ≡ before false false (reacted (rules_for c) (filled (flag_rule f)) [] h)
unfolding walked
flags Validate false Stutter h e = refl
flags Validate false Wide h e = refl
flags Validate false Ties h e = refl
flags Validate true Stutter h e = refl
flags Validate true Wide h e = refl
flags Validate true Ties h e = refl
flags Check false Stutter h e = refl
flags Check false Wide h e = refl
flags Check false Ties h e = refl
flags Check true Stutter h e = refl
flags Check true Wide h e = refl
flags Check true Ties h e = refl
flags SelfRun b f h e = cc

-- what is held while a value is awaited, and behind it
abbrev pub awaited : Command → Text → List Text → Held → Held
awaited c id vs h = record { rows = settled_rows (rules_for c) h.pending h.rows; pending = Some (id, vs); skip = h.skip }

abbrev pub waits_value : Setting → Held → Walk
waits_value s h = record { held = h; waiting = option (id_of s); position = 1; is_trailing = false; stopped = None }

pub names : (c : Command) (b : Bool) (s : Setting) (h : Held) → has_setting c s ≡ true
    → walked (rules_for c) [] (before b false h) (name_of s) ≡ waits_value s (awaited c (id_of s) [] h)
unfolding walked
names Validate false Config h e = refl
names Validate false Within h e = refl
names Validate false Silent h e = refl
names Validate false Limit h e = refl
names Validate false Witness h e = cc
names Validate false Why h e = refl
names Validate false Near h e = refl
names Validate true Config h e = refl
names Validate true Within h e = refl
names Validate true Silent h e = refl
names Validate true Limit h e = refl
names Validate true Witness h e = cc
names Validate true Why h e = refl
names Validate true Near h e = refl
names Check false Config h e = refl
names Check false Within h e = refl
names Check false Silent h e = refl
names Check false Witness h e = refl
names Check false Limit h e = cc
names Check false Why h e = cc
names Check false Near h e = cc
names Check true Config h e = refl
names Check true Within h e = refl
names Check true Silent h e = refl
names Check true Witness h e = refl
names Check true Limit h e = cc
names Check true Why h e = cc
names Check true Near h e = cc
names SelfRun b s h e = cc

-- a word that begins with no dash, as clap sees it
pub record NoFlag (w : Text) : Type 0 where
  pub no_end : bytes_eq w (45 ∷ 45 ∷ []) ≡ false
  pub no_long : long_of w ≡ None
  pub no_short : short_of w ≡ None

no_strip : (w : Text) → begins_with_dash w ≡ false → strip_byte 45 w ≡ None
no_strip [] h = refl
no_strip (b ∷ bs) h = rw h refl

no_end : (w : Text) → begins_with_dash w ≡ false → bytes_eq w (45 ∷ 45 ∷ []) ≡ false
no_end [] h = refl
no_end (b ∷ bs) h = rw h refl

pub no_flag : (w : Text) → begins_with_dash w ≡ false → NoFlag w
no_flag w h = record {
  no_end = no_end w h;
  no_long = ap (λ o. option_and_then long_of_rest (option_and_then (strip_byte 45) o)) (no_strip w h);
  no_short = ap (option_and_then short_of_rest) (no_strip w h);
}

-- a word that is no flag goes where words are awaited
plain_met : (c : List Rule) (waiting : Waiting) (w : Text) (h : Held) → NoFlag w → word_met c [] false waiting 1 w h ≡ plain_word c waiting w h
plain_met c idle w h n =
    ap (λ b. if b then (h, trailing 1) else long_or_other c idle w (long_of w) h) n.no_end
    ∙ ap (λ o. long_or_other c idle w o h) n.no_long ∙ ap (λ o. short_or_plain c idle w o h) n.no_short
plain_met c waits_word w h n =
    ap (λ b. if b then (h, trailing 1) else long_or_other c waits_word w (long_of w) h) n.no_end
    ∙ ap (λ o. long_or_other c waits_word w o h) n.no_long ∙ ap (λ o. short_or_plain c waits_word w o h) n.no_short
plain_met c (option id) w h n =
    ap (λ b. if b then (h, trailing 1) else long_or_other c (option id) w (long_of w) h) n.no_end
    ∙ ap (λ o. long_or_other c (option id) w o h) n.no_long ∙ ap (λ o. short_or_plain c (option id) w o h) n.no_short

after_met : (c : List Rule) (w : Walk) (word : Text) → (m n : Held × Step) → m ≡ n → after_step c word w m.0 m.1 ≡ after_step c word w n.0 n.1
after_met c w word m n e = ap (λ (m : Held × Step). after_step c word w m.0 m.1) e

value_met : (c : Command) (s : Setting) (w : Text) (h : Held) → NoFlag w
    → after_step (rules_for c) w (waits_value s (awaited c (id_of s) [] h)) (word_met (rules_for c) [] false (option (id_of s)) 1 w (awaited c (id_of s) [] h)).0 (word_met (rules_for c) [] false (option (id_of s)) 1 w (awaited c (id_of s) [] h)).1
    ≡ after_step (rules_for c) w (waits_value s (awaited c (id_of s) [] h)) (plain_word (rules_for c) (option (id_of s)) w (awaited c (id_of s) [] h)).0 (plain_word (rules_for c) (option (id_of s)) w (awaited c (id_of s) [] h)).1
value_met c s w h n = after_met (rules_for c) (waits_value s (awaited c (id_of s) [] h)) w _ _ (plain_met (rules_for c) (option (id_of s)) w (awaited c (id_of s) [] h) n)

pub takes_value : (c : Command) (s : Setting) (w : Text) (h : Held) → has_setting c s ≡ true → NoFlag w
    → walked (rules_for c) [] (waits_value s (awaited c (id_of s) [] h)) w ≡ before false false (awaited c (id_of s) (w ∷ []) h)
unfolding walked
takes_value Validate Config w h e n = value_met Validate Config w h n
takes_value Validate Within w h e n = value_met Validate Within w h n
takes_value Validate Silent w h e n = value_met Validate Silent w h n
takes_value Validate Limit w h e n = value_met Validate Limit w h n
takes_value Validate Witness w h e n = cc
takes_value Validate Why w h e n = value_met Validate Why w h n
takes_value Validate Near w h e n = value_met Validate Near w h n
takes_value Check Config w h e n = value_met Check Config w h n
takes_value Check Within w h e n = value_met Check Within w h n
takes_value Check Silent w h e n = value_met Check Silent w h n
takes_value Check Witness w h e n = value_met Check Witness w h n
takes_value Check Limit w h e n = cc
takes_value Check Why w h e n = cc
takes_value Check Near w h e n = cc
takes_value SelfRun s w h e n = cc

-- a word of its own is not added to what waits
alone : (b : Bool) (x y : Held) → (if b && false then x else y) ≡ y
alone true x y = refl
alone false x y = refl

held_alone : (c : Command) (w : Text) (h : Held) → positional_held (rules_for c) word_rule w h ≡ awaited c (codes "words") (w ∷ []) h
held_alone c w h = ap (pushed (codes "words") w) (alone (is_pending word_rule h.pending) h (settled (rules_for c) h))

pub takes_word : (c : Command) (k : Bool) (w : Text) (h : Held) → NoFlag w
    → walked (rules_for c) [] (before k false h) w ≡ before true false (awaited c (codes "words") (w ∷ []) h)
unfolding walked
takes_word Validate false w h n = after_met (rules_for Validate) (before false false h) w _ _ (plain_met (rules_for Validate) idle w h n) ∙ ap (before true false) (held_alone Validate w h)
takes_word Validate true w h n = after_met (rules_for Validate) (before true false h) w _ _ (plain_met (rules_for Validate) waits_word w h n) ∙ ap (before true false) (held_alone Validate w h)
takes_word Check false w h n = after_met (rules_for Check) (before false false h) w _ _ (plain_met (rules_for Check) idle w h n) ∙ ap (before true false) (held_alone Check w h)
takes_word Check true w h n = after_met (rules_for Check) (before true false h) w _ _ (plain_met (rules_for Check) waits_word w h n) ∙ ap (before true false) (held_alone Check w h)
takes_word SelfRun false w h n = after_met (rules_for SelfRun) (before false false h) w _ _ (plain_met (rules_for SelfRun) idle w h n) ∙ ap (before true false) (held_alone SelfRun w h)
takes_word SelfRun true w h n = after_met (rules_for SelfRun) (before true false h) w _ _ (plain_met (rules_for SelfRun) waits_word w h n) ∙ ap (before true false) (held_alone SelfRun w h)

pub takes_trailing : (c : Command) (k : Bool) (w : Text) (h : Held)
    → walked (rules_for c) [] (before k true h) w ≡ before true true (awaited c (codes "words") (w ∷ []) h)
unfolding walked
takes_trailing Validate false w h = ap (before true true) (held_alone Validate w h)
takes_trailing Validate true w h = ap (before true true) (held_alone Validate w h)
takes_trailing Check false w h = ap (before true true) (held_alone Check w h)
takes_trailing Check true w h = ap (before true true) (held_alone Check w h)
takes_trailing SelfRun false w h = ap (before true true) (held_alone SelfRun w h)
takes_trailing SelfRun true w h = ap (before true true) (held_alone SelfRun w h)

pub ends : (c : Command) (k : Bool) (h : Held) → walked (rules_for c) [] (before k false h) (codes "--") ≡ before k true h
unfolding walked
ends Validate false h = refl
ends Validate true h = refl
ends Check false h = refl
ends Check true h = refl
ends SelfRun false h = refl
ends SelfRun true h = refl

-- ---- what is no fault where what was held is none

pub joins_fault : (c : Command) (b : Bool) (s : Setting) (v : Text) (h : Held) → has_setting c s ≡ true → ends_fault c h ≡ []
    → turn c (before b false h) (name_of s ++ 61 ∷ v) ≡ []
joins_fault Validate false Config v h e g = ap (λ x. or_else (or_else x []) []) g
joins_fault Validate false Within v h e g = ap (λ x. or_else (or_else x []) []) g
joins_fault Validate false Silent v h e g = ap (λ x. or_else (or_else x []) []) g
joins_fault Validate false Limit v h e g = ap (λ x. or_else (or_else x []) []) g
joins_fault Validate false Witness v h e g = cc
joins_fault Validate false Why v h e g = ap (λ x. or_else (or_else x []) []) g
joins_fault Validate false Near v h e g = ap (λ x. or_else (or_else x []) []) g
joins_fault Validate true Config v h e g = ap (λ x. or_else (or_else x []) []) g
joins_fault Validate true Within v h e g = ap (λ x. or_else (or_else x []) []) g
joins_fault Validate true Silent v h e g = ap (λ x. or_else (or_else x []) []) g
joins_fault Validate true Limit v h e g = ap (λ x. or_else (or_else x []) []) g
joins_fault Validate true Witness v h e g = cc
joins_fault Validate true Why v h e g = ap (λ x. or_else (or_else x []) []) g
joins_fault Validate true Near v h e g = ap (λ x. or_else (or_else x []) []) g
joins_fault Check false Config v h e g = ap (λ x. or_else (or_else x []) []) g
joins_fault Check false Within v h e g = ap (λ x. or_else (or_else x []) []) g
joins_fault Check false Silent v h e g = ap (λ x. or_else (or_else x []) []) g
joins_fault Check false Witness v h e g = ap (λ x. or_else (or_else x []) []) g
joins_fault Check false Limit v h e g = cc
joins_fault Check false Why v h e g = cc
joins_fault Check false Near v h e g = cc
joins_fault Check true Config v h e g = ap (λ x. or_else (or_else x []) []) g
joins_fault Check true Within v h e g = ap (λ x. or_else (or_else x []) []) g
joins_fault Check true Silent v h e g = ap (λ x. or_else (or_else x []) []) g
joins_fault Check true Witness v h e g = ap (λ x. or_else (or_else x []) []) g
joins_fault Check true Limit v h e g = cc
joins_fault Check true Why v h e g = cc
joins_fault Check true Near v h e g = cc
joins_fault SelfRun b s v h e g = cc

pub names_fault : (c : Command) (b : Bool) (s : Setting) (h : Held) → has_setting c s ≡ true → ends_fault c h ≡ []
    → turn c (before b false h) (name_of s) ≡ []
names_fault Validate false Config h e g = ap (λ x. or_else x []) g
names_fault Validate false Within h e g = ap (λ x. or_else x []) g
names_fault Validate false Silent h e g = ap (λ x. or_else x []) g
names_fault Validate false Limit h e g = ap (λ x. or_else x []) g
names_fault Validate false Witness h e g = cc
names_fault Validate false Why h e g = ap (λ x. or_else x []) g
names_fault Validate false Near h e g = ap (λ x. or_else x []) g
names_fault Validate true Config h e g = ap (λ x. or_else x []) g
names_fault Validate true Within h e g = ap (λ x. or_else x []) g
names_fault Validate true Silent h e g = ap (λ x. or_else x []) g
names_fault Validate true Limit h e g = ap (λ x. or_else x []) g
names_fault Validate true Witness h e g = cc
names_fault Validate true Why h e g = ap (λ x. or_else x []) g
names_fault Validate true Near h e g = ap (λ x. or_else x []) g
names_fault Check false Config h e g = ap (λ x. or_else x []) g
names_fault Check false Within h e g = ap (λ x. or_else x []) g
names_fault Check false Silent h e g = ap (λ x. or_else x []) g
names_fault Check false Witness h e g = ap (λ x. or_else x []) g
names_fault Check false Limit h e g = cc
names_fault Check false Why h e g = cc
names_fault Check false Near h e g = cc
names_fault Check true Config h e g = ap (λ x. or_else x []) g
names_fault Check true Within h e g = ap (λ x. or_else x []) g
names_fault Check true Silent h e g = ap (λ x. or_else x []) g
names_fault Check true Witness h e g = ap (λ x. or_else x []) g
names_fault Check true Limit h e g = cc
names_fault Check true Why h e g = cc
names_fault Check true Near h e g = cc
names_fault SelfRun b s h e g = cc

pub flags_fault : (c : Command) (b : Bool) (f : Flag) (h : Held) → has_flag c f ≡ true → ends_fault c h ≡ [] → turn c (before b false h) (flag_name f) ≡ []
flags_fault Validate false Stutter h e g = ap (λ x. or_else (or_else x []) []) g
flags_fault Validate false Wide h e g = ap (λ x. or_else (or_else x []) []) g
flags_fault Validate false Ties h e g = ap (λ x. or_else (or_else x []) []) g
flags_fault Validate true Stutter h e g = ap (λ x. or_else (or_else x []) []) g
flags_fault Validate true Wide h e g = ap (λ x. or_else (or_else x []) []) g
flags_fault Validate true Ties h e g = ap (λ x. or_else (or_else x []) []) g
flags_fault Check false Stutter h e g = ap (λ x. or_else (or_else x []) []) g
flags_fault Check false Wide h e g = ap (λ x. or_else (or_else x []) []) g
flags_fault Check false Ties h e g = ap (λ x. or_else (or_else x []) []) g
flags_fault Check true Stutter h e g = ap (λ x. or_else (or_else x []) []) g
flags_fault Check true Wide h e g = ap (λ x. or_else (or_else x []) []) g
flags_fault Check true Ties h e g = ap (λ x. or_else (or_else x []) []) g
flags_fault SelfRun b f h e g = cc

pub marks_fault : (c : Command) (b : Bool) (h : Held) → turn c (before b false h) (codes "--") ≡ []
marks_fault Validate false h = refl
marks_fault Validate true h = refl
marks_fault Check false h = refl
marks_fault Check true h = refl
marks_fault SelfRun false h = refl
marks_fault SelfRun true h = refl

-- a positional word is refused where what was held is
alone_fault : (b : Bool) (x : Kinds) → (if b && false then [] else x) ≡ x
alone_fault true x = refl
alone_fault false x = refl

positional_is : (c : Command) (h : Held) → positional_fault (rules_for c) false word_rule h ≡ ends_fault c h
positional_is c h = alone_fault (is_pending word_rule h.pending) (ends_fault c h)

pub step_is : (c : Command) (h : Held) → step_fault (shape_for c) 1 h value ≡ ends_fault c h
step_is Validate h = positional_is Validate h
step_is Check h = positional_is Check h
step_is SelfRun h = positional_is SelfRun h

pub trailing_fault : (c : Command) (k : Bool) (w : Text) (h : Held) → turn c (before k true h) w ≡ ends_fault c h
trailing_fault c false w h = step_is c h
trailing_fault c true w h = step_is c h

-- a word that is no flag is itself no fault
plain_fault : (c : Command) (waiting : Waiting) (w : Text) (h : Held) → NoFlag w → word_fault (shape_for c) [] false waiting w h ≡ []
plain_fault c idle w h n =
    ap (λ b. if b then [] else flag_word_fault (shape_for c).rules (shape_for c).args_override_self (long_of w) w h) n.no_end
    ∙ ap (λ o. flag_word_fault (shape_for c).rules (shape_for c).args_override_self o w h) n.no_long ∙ ap (λ o. option_map_or (λ flags. bundle_fault (shape_for c).rules (shape_for c).args_override_self flags h) o []) n.no_short
plain_fault c waits_word w h n =
    ap (λ b. if b then [] else flag_word_fault (shape_for c).rules (shape_for c).args_override_self (long_of w) w h) n.no_end
    ∙ ap (λ o. flag_word_fault (shape_for c).rules (shape_for c).args_override_self o w h) n.no_long ∙ ap (λ o. option_map_or (λ flags. bundle_fault (shape_for c).rules (shape_for c).args_override_self flags h) o []) n.no_short
plain_fault c (option id) w h n =
    ap (λ b. if b then [] else flag_word_fault (shape_for c).rules (shape_for c).args_override_self (long_of w) w h) n.no_end
    ∙ ap (λ o. flag_word_fault (shape_for c).rules (shape_for c).args_override_self o w h) n.no_long ∙ ap (λ o. option_map_or (λ flags. bundle_fault (shape_for c).rules (shape_for c).args_override_self flags h) o []) n.no_short

pub word_turn : (c : Command) (k : Bool) (w : Text) (h : Held) → NoFlag w → ends_fault c h ≡ [] → turn c (before k false h) w ≡ []
word_turn c false w h n g = ap₂ or_else (plain_fault c idle w h n) (ap (λ (m : Held × Step). step_fault (shape_for c) 1 m.0 m.1) (plain_met (rules_for c) idle w h n) ∙ step_is c h ∙ g)
word_turn c true w h n g = ap₂ or_else (plain_fault c waits_word w h n) (ap (λ (m : Held × Step). step_fault (shape_for c) 1 m.0 m.1) (plain_met (rules_for c) waits_word w h n) ∙ step_is c h ∙ g)

pub value_turn : (c : Command) (s : Setting) (w : Text) (h : Held) → NoFlag w → turn c (waits_value s h) w ≡ []
value_turn c s w h n = ap₂ or_else (plain_fault c (option (id_of s)) w h n) (ap (λ (m : Held × Step). step_fault (shape_for c) 1 m.0 m.1) (plain_met (rules_for c) (option (id_of s)) w h n))

-- ---- what is held at a part's end is no fault, and an option without its value is one

pub value_ends : (c : Command) (s : Setting) (v : Text) (h : Held) → has_setting c s ≡ true → ends_fault c (awaited c (id_of s) (v ∷ []) h) ≡ []
value_ends Validate Config v h e = refl
value_ends Validate Within v h e = refl
value_ends Validate Silent v h e = refl
value_ends Validate Limit v h e = refl
value_ends Validate Witness v h e = cc
value_ends Validate Why v h e = refl
value_ends Validate Near v h e = refl
value_ends Check Config v h e = refl
value_ends Check Within v h e = refl
value_ends Check Silent v h e = refl
value_ends Check Witness v h e = refl
value_ends Check Limit v h e = cc
value_ends Check Why v h e = cc
value_ends Check Near v h e = cc
value_ends SelfRun s v h e = cc

pub word_ends : (c : Command) (w : Text) (h : Held) → ends_fault c (awaited c (codes "words") (w ∷ []) h) ≡ []
word_ends Validate w h = refl
word_ends Check w h = refl
word_ends SelfRun w h = refl

pub no_value : (c : Command) (s : Setting) (h : Held) → has_setting c s ≡ true → ends_fault c (awaited c (id_of s) [] h) ≡ InvalidValue ∷ []
no_value Validate Config h e = refl
no_value Validate Within h e = refl
no_value Validate Silent h e = refl
no_value Validate Limit h e = refl
no_value Validate Witness h e = cc
no_value Validate Why h e = refl
no_value Validate Near h e = refl
no_value Check Config h e = refl
no_value Check Within h e = refl
no_value Check Silent h e = refl
no_value Check Witness h e = refl
no_value Check Limit h e = cc
no_value Check Why h e = cc
no_value Check Near h e = cc
no_value SelfRun s h e = cc
