-- What clap takes is a line.
use Rattle.std.proofs.Common.{◌≡◌, ◌∙◌, sym, ap, subst, refl, ℕ, Bool, true, false, List, [], ◌∷◌, ◌++◌, Option, Some, None, is_some, length, codes, append_assoc}
use Rattle.std.specs.Prelude.{if◌then◌else◌, slice_get, ◌==◌}
use Rattle.std.specs.List.{before_first}
use Rattle.std.specs.Option.{option_map_or}
use Rattle.std.specs.Str.{IsUtf8, bytes_eq, chars}
use Rattle.clap.specs.Lexer.{long_of, name_and_value, short_of}
use Rattle.clap.specs.Walk.{Held, Rule, Waiting, idle, option, positional as waits_word, Walk, arg_by_long, nothing_held, takes_values, walked}
use Rattle.clap.specs.Kinds.{Kinds}
use Rattle.clap.specs.Faults.{bundle_fault, bundle_step_fault, fault_of, flag_word_fault, flags_fault, long_fault, option_fault, react_fault, settle_fault, word_fault}
use Rattle.clap.specs.declared.error.kind.ErrorKind.TheVariants.{InvalidValue, TooManyValues, UnknownArgument}
use Rattle.run_words.specs.declared.command.Command.{Command}
use Rattle.run_words.specs.declared.command.Command.TheVariants.{Validate, Check, SelfRun}
use Rattle.run_words.specs.declared.command.Flag.{Flag}
use Rattle.run_words.specs.declared.command.Flag.TheVariants.{Stutter, Ties, Wide}
use Rattle.run_words.specs.declared.command.Setting.{Setting}
use Rattle.run_words.specs.declared.command.Setting.TheVariants.{Config, Within, Silent, Limit, Witness, Why, Near}
use Rattle.run_words.specs.Line.{Text, Part, apart, joined, flag, positional, Line, flag_name, name_of, has_flag, has_setting, written, written_part, written_parts, written_behind}
use Rattle.run_words.specs.Parsers.{app_for, flag_id, id_of, rules_for, shape_for}
use Rattle.run_words.proofs.Faults.{ends_fault, fault_from, fault_is, no_more, one_more, or_left, or_right, overrides_none, turn}
use Rattle.run_words.proofs.Walks.{NoFlag, awaited, before, flags, joins, names, no_value, step_is, takes_value, takes_word, value_ends, waits_value, word_ends}
use Rattle.run_words.proofs.Looks.{Looks, marks, plain, long, short, looks, short_chars, Named, alone, valued, named, Means, setting, switch, unknown, means}
use Rattle.run_words.proofs.Lines.{AllFit, Fits, Good}

-- the fault of a word comes first in its turn
any_turn : (c : Command) (k : Bool) (h : Held) (w : Text) (fs : Kinds) → (word_fault (shape_for c) [] false idle w h ≡ fs) → (word_fault (shape_for c) [] false waits_word w h ≡ fs)
    → turn c (before k false h) w ≡ [] → fs ≡ []
any_turn c false h w fs i p e = sym i ∙ or_left _ _ e
any_turn c true h w fs i p e = sym p ∙ or_left _ _ e

-- a long word that clap can not name, and a short word
long_word : (c : Command) (waiting : Waiting) (w : Text) (h : Held) (p : Text × Option Text) → bytes_eq w (codes "--") ≡ false → long_of w ≡ Some p
    → word_fault (shape_for c) [] false waiting w h ≡ flag_word_fault (shape_for c).rules (shape_for c).args_override_self (Some p) w h
long_word c idle w h p n l = ap (λ b. if b then [] else flag_word_fault (shape_for c).rules (shape_for c).args_override_self (long_of w) w h) n ∙ ap (λ o. flag_word_fault (shape_for c).rules (shape_for c).args_override_self o w h) l
long_word c waits_word w h p n l = ap (λ b. if b then [] else flag_word_fault (shape_for c).rules (shape_for c).args_override_self (long_of w) w h) n ∙ ap (λ o. flag_word_fault (shape_for c).rules (shape_for c).args_override_self o w h) l
long_word c (option id) w h p n l = ap (λ b. if b then [] else flag_word_fault (shape_for c).rules (shape_for c).args_override_self (long_of w) w h) n ∙ ap (λ o. flag_word_fault (shape_for c).rules (shape_for c).args_override_self o w h) l

short_word : (c : Command) (waiting : Waiting) (w fs : Text) (h : Held) → bytes_eq w (codes "--") ≡ false → long_of w ≡ None → short_of w ≡ Some fs
    → word_fault (shape_for c) [] false waiting w h ≡ bundle_fault (shape_for c).rules (shape_for c).args_override_self fs h
short_word c idle w fs h n l s = ap (λ b. if b then [] else flag_word_fault (shape_for c).rules (shape_for c).args_override_self (long_of w) w h) n ∙ ap (λ o. flag_word_fault (shape_for c).rules (shape_for c).args_override_self o w h) l
    ∙ ap (λ o. option_map_or (λ flags. bundle_fault (shape_for c).rules (shape_for c).args_override_self flags h) o []) s
short_word c waits_word w fs h n l s = ap (λ b. if b then [] else flag_word_fault (shape_for c).rules (shape_for c).args_override_self (long_of w) w h) n ∙ ap (λ o. flag_word_fault (shape_for c).rules (shape_for c).args_override_self o w h) l
    ∙ ap (λ o. option_map_or (λ flags. bundle_fault (shape_for c).rules (shape_for c).args_override_self flags h) o []) s
short_word c (option id) w fs h n l s = ap (λ b. if b then [] else flag_word_fault (shape_for c).rules (shape_for c).args_override_self (long_of w) w h) n ∙ ap (λ o. flag_word_fault (shape_for c).rules (shape_for c).args_override_self o w h) l
    ∙ ap (λ o. option_map_or (λ flags. bundle_fault (shape_for c).rules (shape_for c).args_override_self flags h) o []) s

no_short : (c : Command) (x k : ℕ) (xs : Text) (h : Held) (next : Text → ℕ → Held → Kinds) → h.skip ≡ 0
    → bundle_step_fault (shape_for c).rules (shape_for c).args_override_self (Some x) xs h.skip (record h { skip = 0 }) next ≡ UnknownArgument ∷ []
no_short Validate x k xs h next e = ap (λ n. bundle_step_fault (shape_for Validate).rules (shape_for Validate).args_override_self (Some x) xs n (record h { skip = 0 }) next) e
no_short Check x k xs h next e = ap (λ n. bundle_step_fault (shape_for Check).rules (shape_for Check).args_override_self (Some x) xs n (record h { skip = 0 }) next) e
no_short SelfRun x k xs h next e = ap (λ n. bundle_step_fault (shape_for SelfRun).rules (shape_for SelfRun).args_override_self (Some x) xs n (record h { skip = 0 }) next) e

short_fails : (c : Command) (x : ℕ) (xs : Text) (h : Held) → h.skip ≡ 0 → (b : ℕ) × (rest : Text) × (chars (x ∷ xs) ≡ b ∷ rest)
    → bundle_fault (shape_for c).rules (shape_for c).args_override_self (x ∷ xs) h ≡ UnknownArgument ∷ []
unfolding flags_fault
short_fails c x xs h s b =
    ap (λ cs. bundle_step_fault (shape_for c).rules (shape_for c).args_override_self (slice_get cs 0) (x ∷ xs) h.skip (record h { skip = 0 }) (flags_fault (shape_for c).rules (shape_for c).args_override_self (length xs))) b.2
    ∙ no_short c b.0 0 (x ∷ xs) h _ s

no_kinds : {X : Type 0} (x : X) (xs : List X) → x ∷ xs ≡ [] → ⊥
no_kinds x xs e = cc

-- a long option is a fault where what was held is one
long_fails : (rs : List Rule) (again : Bool) (o : Option Rule) (v : Option Text) (h : Held) (ks : Kinds) → settle_fault rs again h ≡ InvalidValue ∷ ks → long_fault rs again o v h ≡ [] → ⊥
long_fails rs again None v h ks g e = cc
long_fails rs again (Some a) v h ks g e = by_values (takes_values a) v e
  where
    by_values : (b : Bool) (v : Option Text) → (if b then option_fault rs again a v h else (if is_some v then TooManyValues ∷ [] else react_fault rs again a [] h)) ≡ [] → ⊥
    by_values true None e = let q = sym g ∙ e in cc
    by_values true (Some v) e = let q = sym g ∙ or_left _ _ e in cc
    by_values false None e = let q = sym g ∙ or_left _ _ e in cc
    by_values false (Some v) e = cc

-- ---- one word more

turn_passes : (c : Command) (w : Walk) (word : Text) (ws : List Text) → fault_from c w (word ∷ ws) ≡ [] → turn c w word ≡ []
turn_passes c w word ws e = or_left _ _ (sym (one_more c w word ws) ∙ e)

rest_passes : (c : Command) (w v : Walk) (word : Text) (ws : List Text) → walked (rules_for c) [] w word ≡ v → fault_from c w (word ∷ ws) ≡ [] → fault_from c v ws ≡ []
rest_passes c w v word ws q e = ap (λ v. fault_from c v ws) (sym q) ∙ or_right (turn c w word) _ (sym (one_more c w word ws) ∙ e)

-- words that are a line, where a value or a word may be empty or `-`
pub record Spells (c : Command) (ws : List Text) : Type 0 where
  pub line : Line
  pub fits : AllFit c line.parts
  pub is : ws ≡ written line

part_more : (c : Command) (p : Part) (ws rest : List Text) → Fits c p → ws ≡ written_part p ++ rest → Spells c rest → Spells c ws
part_more c p ws rest f e s = record {
  line = record { parts = p ∷ s.line.parts; behind = s.line.behind };
  fits = (f, s.fits);
  is = e ∙ ap (λ (r : List Text). written_part p ++ r) s.is ∙ sym (append_assoc (written_part p) (written_parts s.line.parts) (written_behind s.line.behind));
}

-- ---- where an option waits for its value

blocked : (c : Command) (s : Setting) (h : Held) → has_setting c s ≡ true → ends_fault c (awaited c (id_of s) [] h) ≡ [] → ⊥
blocked c s h i e = let q = sym (no_value c s h i) ∙ e in cc

behind_marks : Setting → Held → Walk
behind_marks s h = record { held = h; waiting = option (id_of s); position = 1; is_trailing = true; stopped = None }

marks_met : (c : Command) (s : Setting) (h : Held) → walked (rules_for c) [] (waits_value s h) (codes "--") ≡ behind_marks s h
unfolding walked behind_marks
marks_met c s h = refl

no_marks : (c : Command) (s : Setting) (h : Held) (ws : List Text) → has_setting c s ≡ true → fault_from c (behind_marks s (awaited c (id_of s) [] h)) ws ≡ [] → ⊥
unfolding behind_marks
no_marks c s h [] i e = blocked c s h i (sym (no_more c (behind_marks s (awaited c (id_of s) [] h))) ∙ e)
no_marks c s h (w ∷ ws) i e = blocked c s h i (sym (step_is c (awaited c (id_of s) [] h)) ∙ turn_passes c (behind_marks s (awaited c (id_of s) [] h)) w ws e)

value_word : (c : Command) (s : Setting) (h : Held) (w : Text) (ws : List Text) → has_setting c s ≡ true → h.skip ≡ 0 → IsUtf8 w
    → fault_from c (waits_value s (awaited c (id_of s) [] h)) (w ∷ ws) ≡ [] → Looks w → NoFlag w
value_word c s h w ws i k u e (marks q) =
    absurd (no_marks c s h ws i (rest_passes c (waits_value s (awaited c (id_of s) [] h)) _ (codes "--") ws (marks_met c s (awaited c (id_of s) [] h))
    (subst (λ (w : Text). fault_from c (waits_value s (awaited c (id_of s) [] h)) (w ∷ ws) ≡ []) q e)))
value_word c s h w ws i k u e (plain n) = n
value_word c s h w ws i k u e (long t n q l) =
    let held = awaited c (id_of s) [] h in
    absurd (long_fails (shape_for c).rules (shape_for c).args_override_self (arg_by_long (shape_for c).rules (name_and_value t).0) (name_and_value t).1 held [] (ap (λ b. settle_fault (rules_for c) b held) (overrides_none c) ∙ no_value c s h i)
    (sym (long_word c (option (id_of s)) w held (name_and_value t) n l) ∙ or_left _ _ (turn_passes c (waits_value s held) w ws e)))
value_word c s h w ws i k u e (short x xs q n l f) =
    let held = awaited c (id_of s) [] h in
    absurd (no_kinds UnknownArgument [] (sym (short_word c (option (id_of s)) w (x ∷ xs) held n l f ∙ short_fails c x xs held k (short_chars x xs (subst IsUtf8 q u)))
    ∙ or_left _ _ (turn_passes c (waits_value s held) w ws e)))

-- ---- where any part may come

abbrev at : Command → Option Setting → Bool → Held → Walk
at c None k h = before k false h
at c (Some s) k h = waits_value s (awaited c (id_of s) [] h)

abbrev Has : Command → Option Setting → Type 0
Has c None = Unit {0}
Has c (Some s) = has_setting c s ≡ true

abbrev SpellsFrom : Command → Option Setting → List Text → Type 0
SpellsFrom c None ws = Spells c ws
SpellsFrom c (Some s) ws = Spells c (name_of s ∷ ws)

-- what clap takes of these words is spelled
abbrev Rest : Command → List Text → Type 0
Rest c ws = (o : Option Setting) (k : Bool) (h : Held) → Has c o → Good c h → fault_from c (at c o k h) ws ≡ [] → SpellsFrom c o ws

dashed : (s : Setting) → 45 ∷ 45 ∷ id_of s ≡ name_of s
dashed Config = refl
dashed Within = refl
dashed Silent = refl
dashed Limit = refl
dashed Witness = refl
dashed Why = refl
dashed Near = refl

dashed_joined : (s : Setting) (v : Text) → 45 ∷ 45 ∷ id_of s ++ 61 ∷ v ≡ name_of s ++ 61 ∷ v
dashed_joined s v = ap (λ (n : Text). n ++ 61 ∷ v) (dashed s)

flag_dashed : (f : Flag) → 45 ∷ 45 ∷ flag_id f ≡ flag_name f
flag_dashed Stutter = refl
flag_dashed Wide = refl
flag_dashed Ties = refl

flag_valued : (c : Command) (k : Bool) (f : Flag) (v : Text) (h : Held) → has_flag c f ≡ true → turn c (before k false h) (flag_name f ++ 61 ∷ v) ≡ TooManyValues ∷ []
flag_valued Validate false Stutter v h i = refl
flag_valued Validate false Wide v h i = refl
flag_valued Validate false Ties v h i = refl
flag_valued Validate true Stutter v h i = refl
flag_valued Validate true Wide v h i = refl
flag_valued Validate true Ties v h i = refl
flag_valued Check false Stutter v h i = refl
flag_valued Check false Wide v h i = refl
flag_valued Check false Ties v h i = refl
flag_valued Check true Stutter v h i = refl
flag_valued Check true Wide v h i = refl
flag_valued Check true Ties v h i = refl
flag_valued SelfRun k f v h i = cc

module _ (c : Command) (ws : List Text) (k : Bool) (h : Held) (g : Good c h) (rest : Rest c ws) where
  Passes : Text → Type 0
  Passes w = fault_from c (before k false h) (w ∷ ws) ≡ []

  a_name : (s : Setting) → has_setting c s ≡ true → fault_from c (before k false h) (name_of s ∷ ws) ≡ [] → Spells c (name_of s ∷ ws)
  a_name s i e = rest (Some s) k h i g (rest_passes c (before k false h) _ (name_of s) ws (names c k s h i) e)

  a_joined : (s : Setting) (v : Text) → has_setting c s ≡ true → fault_from c (before k false h) ((name_of s ++ 61 ∷ v) ∷ ws) ≡ [] → Spells c ((name_of s ++ 61 ∷ v) ∷ ws)
  a_joined s v i e = part_more c (joined s v) _ ws i refl (rest None false _ tt (record { none = refl; skips = g.skips }) (rest_passes c (before k false h) _ (name_of s ++ 61 ∷ v) ws (joins c k s v h i) e))

  a_flag : (f : Flag) → has_flag c f ≡ true → fault_from c (before k false h) (flag_name f ∷ ws) ≡ [] → Spells c (flag_name f ∷ ws)
  a_flag f i e = part_more c (flag f) _ ws i refl (rest None false _ tt (record { none = refl; skips = g.skips }) (rest_passes c (before k false h) _ (flag_name f) ws (flags c k f h i) e))

  a_word : (w : Text) → NoFlag w → fault_from c (before k false h) (w ∷ ws) ≡ [] → Spells c (w ∷ ws)
  a_word w n e = part_more c (positional w) _ ws n refl (rest None true _ tt (record { none = word_ends c w h; skips = g.skips }) (rest_passes c (before k false h) _ w ws (takes_word c k w h n) e))

  a_setting : (s : Setting) (t w : Text) → has_setting c s ≡ true → (n : Text) → n ≡ id_of s → Named t n → w ≡ 45 ∷ 45 ∷ t → fault_from c (before k false h) (w ∷ ws) ≡ [] → Spells c (w ∷ ws)
  a_setting s t w i n p (alone q v) r e =
      let is : w ≡ name_of s = r ∙ ap (λ (t : Text). 45 ∷ 45 ∷ t) (q ∙ p) ∙ dashed s in
      subst (λ (w : Text). fault_from c (before k false h) (w ∷ ws) ≡ [] → Spells c (w ∷ ws)) (sym is) (a_name s i) e
  a_setting s t w i n p (valued x q v) r e =
      let is : w ≡ name_of s ++ 61 ∷ x = r ∙ ap (λ (t : Text). 45 ∷ 45 ∷ t) (q ∙ ap (λ (n : Text). n ++ 61 ∷ x) p) ∙ dashed_joined s x in
      subst (λ (w : Text). fault_from c (before k false h) (w ∷ ws) ≡ [] → Spells c (w ∷ ws)) (sym is) (a_joined s x i) e

  a_switch : (f : Flag) (t w : Text) → has_flag c f ≡ true → (n : Text) → n ≡ flag_id f → Named t n → w ≡ 45 ∷ 45 ∷ t → fault_from c (before k false h) (w ∷ ws) ≡ [] → Spells c (w ∷ ws)
  a_switch f t w i n p (alone q v) r e =
      let is : w ≡ flag_name f = r ∙ ap (λ (t : Text). 45 ∷ 45 ∷ t) (q ∙ p) ∙ flag_dashed f in
      subst (λ (w : Text). fault_from c (before k false h) (w ∷ ws) ≡ [] → Spells c (w ∷ ws)) (sym is) (a_flag f i) e
  a_switch f t w i n p (valued x q v) r e =
      let is : w ≡ flag_name f ++ 61 ∷ x = r ∙ ap (λ (t : Text). 45 ∷ 45 ∷ t) (q ∙ ap (λ (n : Text). n ++ 61 ∷ x) p) ∙ ap (λ (n : Text). n ++ 61 ∷ x) (flag_dashed f) in
      absurd (no_kinds TooManyValues [] (sym (flag_valued c k f x h i) ∙ ap (turn c (before k false h)) (sym is) ∙ turn_passes c (before k false h) w ws e))

  a_long : (t w : Text) → bytes_eq w (codes "--") ≡ false → w ≡ 45 ∷ 45 ∷ t → long_of w ≡ Some (name_and_value t) → Means c (before_first (λ y. y == 61) t)
      → fault_from c (before k false h) (w ∷ ws) ≡ [] → Spells c (w ∷ ws)
  a_long t w n q l (setting s i p) e = a_setting s t w i _ p (named t) q e
  a_long t w n q l (switch f i p) e = a_switch f t w i _ p (named t) q e
  a_long t w n q l (unknown u) e =
      let fails = ap (λ o. long_fault (shape_for c).rules (shape_for c).args_override_self o (name_and_value t).1 h) u in
      absurd (no_kinds UnknownArgument [] (any_turn c k h w (UnknownArgument ∷ []) (long_word c idle w h (name_and_value t) n l ∙ fails) (long_word c waits_word w h (name_and_value t) n l ∙ fails)
      (turn_passes c (before k false h) w ws e)))

  a_short : (x : ℕ) (xs w : Text) → IsUtf8 w → w ≡ 45 ∷ x ∷ xs → bytes_eq w (codes "--") ≡ false → long_of w ≡ None → short_of w ≡ Some (x ∷ xs)
      → fault_from c (before k false h) (w ∷ ws) ≡ [] → Spells c (w ∷ ws)
  a_short x xs w u q n l f e =
      let fails = short_fails c x xs h g.skips (short_chars x xs (subst IsUtf8 q u)) in
      absurd (no_kinds UnknownArgument [] (any_turn c k h w (UnknownArgument ∷ []) (short_word c idle w (x ∷ xs) h n l f ∙ fails) (short_word c waits_word w (x ∷ xs) h n l f ∙ fails)
      (turn_passes c (before k false h) w ws e)))

  any_word : (w : Text) → IsUtf8 w → Looks w → fault_from c (before k false h) (w ∷ ws) ≡ [] → Spells c (w ∷ ws)
  any_word w u (marks q) e = record { line = record { parts = []; behind = Some ws }; fits = tt; is = ap (λ (w : Text). w ∷ ws) q }
  any_word w u (plain n) e = a_word w n e
  any_word w u (long t n q l) e = a_long t w n q l (means c (before_first (λ y. y == 61) t)) e
  any_word w u (short x xs q n l f) e = a_short x xs w u q n l f e

abbrev pub AllUtf8 : List Text → Type 0
AllUtf8 [] = Unit {0}
AllUtf8 (w ∷ ws) = IsUtf8 w × AllUtf8 ws

a_value : (c : Command) (s : Setting) (h : Held) (w : Text) (ws : List Text) → Rest c ws → has_setting c s ≡ true → Good c h → NoFlag w
    → fault_from c (waits_value s (awaited c (id_of s) [] h)) (w ∷ ws) ≡ [] → Spells c (name_of s ∷ w ∷ ws)
a_value c s h w ws rest i g n e =
    part_more c (apart s w) _ ws (i, n) refl (rest None false _ tt (record { none = value_ends c s w h i; skips = g.skips })
    (rest_passes c (waits_value s (awaited c (id_of s) [] h)) _ w ws (takes_value c s w h i n) e))

spells_from : (c : Command) (ws : List Text) → AllUtf8 ws → Rest c ws
spells_from c [] u None k h i g e = record { line = record { parts = []; behind = None }; fits = tt; is = refl }
spells_from c [] u (Some s) k h i g e = absurd (blocked c s h i (sym (no_more c (waits_value s (awaited c (id_of s) [] h))) ∙ e))
spells_from c (w ∷ ws) u None k h i g e = any_word c ws k h g (spells_from c ws u.1) w u.0 (looks w) e
spells_from c (w ∷ ws) u (Some s) k h i g e = a_value c s h w ws (spells_from c ws u.1) i g (value_word c s h w ws i g.skips u.0 e (looks w)) e

-- words that clap takes are a line
pub taken_spelled : (c : Command) (ws : List Text) → AllUtf8 ws → fault_of (app_for c) ws ≡ [] → Spells c ws
taken_spelled c ws u e = spells_from c ws u None false nothing_held tt (record { none = refl; skips = refl }) (sym (fault_is c ws) ∙ e)
