-- What the rows of a line's matches hold.
use Rattle.std.proofs.Common.{◌≡◌, ◌∙◌, sym, ap, ap₂, subst, refl, ℕ, ◌+◌, Bool, true, false, List, [], ◌∷◌, ◌++◌, map, length, length-append, Option, Some, None, codes, append_assoc, arith}
use Rattle.std.specs.Prelude.{if◌then◌else◌, MatchOption, option_map, unwrap_or}
use Rattle.std.specs.Borrow.{Bor}
use Rattle.std.specs.Str.{bytes_eq}
use Rattle.std.proofs.lemmas.List.{append-nil}
use Rattle.std.proofs.lemmas.Slice.Eq.{bytes_eq-Decides}
use Rattle.clap.specs.Walk.{Row, all_of, rows_of, stronger, used, with_values}
use Rattle.clap.specs.Matches.{matched_of, raw_values}
use Rattle.clap.specs.declared.parser.matches.Found.{Found}
use Rattle.clap.proofs.WalkLemmas.{raw_values-rows}
use Rattle.clap.specs.declared.builder.value_parser.Reading.{Reading}
use Rattle.clap.specs.declared.parser.matches.ValueSource.TheVariants.{CommandLine}
use Rattle.clap.specs.Simple.{filled}
use Rattle.run_words.specs.declared.command.Flag.{Flag}
use Rattle.run_words.specs.declared.command.Flag.TheVariants.{Stutter, Ties, Wide}
use Rattle.run_words.specs.declared.command.Setting.{Setting}
use Rattle.run_words.specs.declared.command.Setting.TheVariants.{Config, Within, Silent, Limit, Witness, Why, Near}
use Rattle.run_words.specs.Job.{is_flag, is_same, times, values_of}
use Rattle.run_words.specs.Line.{Text, Part, apart, joined, flag, positional, Line, Given, given_behind, given_of, given_parts, with_part}
use Rattle.run_words.specs.Parsers.{Agree, flag_id, flag_rule, flags_in, given_in, id_of, options_in, setting_rule, texts_of, vals}
use Rattle.run_words.proofs.Walks.{word_rule}
use Rattle.run_words.proofs.Lines.{used_behind, used_line, used_part, used_parts, used_words}

-- ---- one use of an argument

passed_over : (id : Text) (r : Row) (rs : List Row) → bytes_eq r.id id ≡ false → vals id (r ∷ rs) ≡ vals id rs
passed_over id r rs e = rw e refl

found_at : (id : Text) (r : Row) (rs : List Row) → bytes_eq r.id id ≡ true → vals id (r ∷ rs) ≡ r.values
found_at id r rs e = rw e refl

abbrev more_of : List Text → Row → Row
more_of vs r = record r { values = r.values ++ vs; source = Some (stronger r.source CommandLine) }

changed : (id : Text) (how : Reading) (vs : List Text) (r : Row) (rs : List Row) → bytes_eq r.id id ≡ true → with_values id how CommandLine vs (r ∷ rs) ≡ more_of vs r ∷ rs
changed id how vs r rs e = rw e refl

kept : (id : Text) (how : Reading) (vs : List Text) (r : Row) (rs : List Row) → bytes_eq r.id id ≡ false → with_values id how CommandLine vs (r ∷ rs) ≡ r ∷ with_values id how CommandLine vs rs
kept id how vs r rs e = rw e refl

vals_same : (id : Text) (how : Reading) (vs : List Text) (rows : List Row) → bytes_eq id id ≡ true → vals id (with_values id how CommandLine vs rows) ≡ vals id rows ++ vs
vals_same id how vs [] e = rw e refl
vals_same id how vs (r ∷ rs) e = by_id (bytes_eq r.id id) refl (vals_same id how vs rs e)
  where
    by_id : (b : Bool) → bytes_eq r.id id ≡ b → vals id (with_values id how CommandLine vs rs) ≡ vals id rs ++ vs → vals id (with_values id how CommandLine vs (r ∷ rs)) ≡ vals id (r ∷ rs) ++ vs
    by_id true q i = ap (vals id) (changed id how vs r rs q) ∙ found_at id (more_of vs r) rs q ∙ ap (λ us. us ++ vs) (sym (found_at id r rs q))
    by_id false q i = ap (vals id) (kept id how vs r rs q) ∙ passed_over id r (with_values id how CommandLine vs rs) q ∙ i ∙ ap (λ us. us ++ vs) (sym (passed_over id r rs q))

vals_other : (id other : Text) (how : Reading) (vs : List Text) (rows : List Row) → bytes_eq other id ≡ false → vals id (with_values other how CommandLine vs rows) ≡ vals id rows
vals_other id other how vs [] e = rw e refl
vals_other id other how vs (r ∷ rs) e = by_other (bytes_eq r.id other) refl (vals_other id other how vs rs e)
  where
    by_id : (b : Bool) → bytes_eq r.id other ≡ false → bytes_eq r.id id ≡ b → vals id (with_values other how CommandLine vs rs) ≡ vals id rs
        → vals id (with_values other how CommandLine vs (r ∷ rs)) ≡ vals id (r ∷ rs)
    by_id true o q i = rw (o, q) refl
    by_id false o q i = rw (o, q) i

    by_other : (b : Bool) → bytes_eq r.id other ≡ b → vals id (with_values other how CommandLine vs rs) ≡ vals id rs → vals id (with_values other how CommandLine vs (r ∷ rs)) ≡ vals id (r ∷ rs)
    by_other true o i = let q : bytes_eq r.id id ≡ false = subst (λ (x : Text). bytes_eq x id ≡ false) (sym ((bytes_eq-Decides r.id other).0 o)) e in rw (o, q) refl
    by_other false o i = by_id (bytes_eq r.id id) o refl i

same_ids : (s t : Setting) → bytes_eq (id_of t) (id_of s) ≡ is_same s t
same_ids Config Config = refl
same_ids Config Within = refl
same_ids Config Silent = refl
same_ids Config Limit = refl
same_ids Config Witness = refl
same_ids Config Why = refl
same_ids Config Near = refl
same_ids Within Config = refl
same_ids Within Within = refl
same_ids Within Silent = refl
same_ids Within Limit = refl
same_ids Within Witness = refl
same_ids Within Why = refl
same_ids Within Near = refl
same_ids Silent Config = refl
same_ids Silent Within = refl
same_ids Silent Silent = refl
same_ids Silent Limit = refl
same_ids Silent Witness = refl
same_ids Silent Why = refl
same_ids Silent Near = refl
same_ids Limit Config = refl
same_ids Limit Within = refl
same_ids Limit Silent = refl
same_ids Limit Limit = refl
same_ids Limit Witness = refl
same_ids Limit Why = refl
same_ids Limit Near = refl
same_ids Witness Config = refl
same_ids Witness Within = refl
same_ids Witness Silent = refl
same_ids Witness Limit = refl
same_ids Witness Witness = refl
same_ids Witness Why = refl
same_ids Witness Near = refl
same_ids Why Config = refl
same_ids Why Within = refl
same_ids Why Silent = refl
same_ids Why Limit = refl
same_ids Why Witness = refl
same_ids Why Why = refl
same_ids Why Near = refl
same_ids Near Config = refl
same_ids Near Within = refl
same_ids Near Silent = refl
same_ids Near Limit = refl
same_ids Near Witness = refl
same_ids Near Why = refl
same_ids Near Near = refl

pub same_self : (s : Setting) → is_same s s ≡ true
same_self Config = refl
same_self Within = refl
same_self Silent = refl
same_self Limit = refl
same_self Witness = refl
same_self Why = refl
same_self Near = refl

-- the values of an option behind a use of it, or of another
used_same : (s t : Setting) (v : Text) (rows : List Row) → is_same s t ≡ true → vals (id_of s) (used (filled (setting_rule t)) (v ∷ []) rows) ≡ vals (id_of s) rows ++ v ∷ []
used_same Config Config v rows e = vals_same (codes "config") _ (v ∷ []) rows refl
used_same Within Within v rows e = vals_same (codes "within") _ (v ∷ []) rows refl
used_same Silent Silent v rows e = vals_same (codes "silent") _ (v ∷ []) rows refl
used_same Limit Limit v rows e = vals_same (codes "limit") _ (v ∷ []) rows refl
used_same Witness Witness v rows e = vals_same (codes "witness") _ (v ∷ []) rows refl
used_same Why Why v rows e = vals_same (codes "why") _ (v ∷ []) rows refl
used_same Near Near v rows e = vals_same (codes "near") _ (v ∷ []) rows refl
used_same s t v rows e = cc

option_used : (s t : Setting) (v : Text) (rows : List Row) → vals (id_of s) (used (filled (setting_rule t)) (v ∷ []) rows) ≡ vals (id_of s) rows ++ (if is_same s t then v ∷ [] else [])
option_used s t v rows = by_same (is_same s t) refl
  where
    by_same : (b : Bool) → is_same s t ≡ b → vals (id_of s) (used (filled (setting_rule t)) (v ∷ []) rows) ≡ vals (id_of s) rows ++ (if b then v ∷ [] else [])
    by_same true e = used_same s t v rows e
    by_same false e = vals_other (id_of s) (id_of t) _ (v ∷ []) rows (same_ids s t ∙ e) ∙ sym (append-nil _)

-- the option and the flag have different names
apart_names : (s : Setting) (f : Flag) → (bytes_eq (flag_id f) (id_of s) ≡ false) × (bytes_eq (id_of s) (flag_id f) ≡ false)
apart_names Config Stutter = (refl, refl)
apart_names Config Wide = (refl, refl)
apart_names Config Ties = (refl, refl)
apart_names Within Stutter = (refl, refl)
apart_names Within Wide = (refl, refl)
apart_names Within Ties = (refl, refl)
apart_names Silent Stutter = (refl, refl)
apart_names Silent Wide = (refl, refl)
apart_names Silent Ties = (refl, refl)
apart_names Limit Stutter = (refl, refl)
apart_names Limit Wide = (refl, refl)
apart_names Limit Ties = (refl, refl)
apart_names Witness Stutter = (refl, refl)
apart_names Witness Wide = (refl, refl)
apart_names Witness Ties = (refl, refl)
apart_names Why Stutter = (refl, refl)
apart_names Why Wide = (refl, refl)
apart_names Why Ties = (refl, refl)
apart_names Near Stutter = (refl, refl)
apart_names Near Wide = (refl, refl)
apart_names Near Ties = (refl, refl)

flag_used : (s : Setting) (f : Flag) (rows : List Row) → vals (id_of s) (used (filled (flag_rule f)) [] rows) ≡ vals (id_of s) rows
flag_used s Stutter rows = vals_other (id_of s) (codes "stutter") _ _ rows (apart_names s Stutter).0
flag_used s Wide rows = vals_other (id_of s) (codes "wide") _ _ rows (apart_names s Wide).0
flag_used s Ties rows = vals_other (id_of s) (codes "ties") _ _ rows (apart_names s Ties).0

word_used : (s : Setting) (w : Text) (rows : List Row) → vals (id_of s) (used word_rule (w ∷ []) rows) ≡ vals (id_of s) rows
word_used Config w rows = vals_other (codes "config") (codes "words") _ _ rows refl
word_used Within w rows = vals_other (codes "within") (codes "words") _ _ rows refl
word_used Silent w rows = vals_other (codes "silent") (codes "words") _ _ rows refl
word_used Limit w rows = vals_other (codes "limit") (codes "words") _ _ rows refl
word_used Witness w rows = vals_other (codes "witness") (codes "words") _ _ rows refl
word_used Why w rows = vals_other (codes "why") (codes "words") _ _ rows refl
word_used Near w rows = vals_other (codes "near") (codes "words") _ _ rows refl

no_flag_used : (f : Flag) (s : Setting) (v : Text) (rows : List Row) → vals (flag_id f) (used (filled (setting_rule s)) (v ∷ []) rows) ≡ vals (flag_id f) rows
no_flag_used f Config v rows = vals_other (flag_id f) (codes "config") _ _ rows (apart_names Config f).1
no_flag_used f Within v rows = vals_other (flag_id f) (codes "within") _ _ rows (apart_names Within f).1
no_flag_used f Silent v rows = vals_other (flag_id f) (codes "silent") _ _ rows (apart_names Silent f).1
no_flag_used f Limit v rows = vals_other (flag_id f) (codes "limit") _ _ rows (apart_names Limit f).1
no_flag_used f Witness v rows = vals_other (flag_id f) (codes "witness") _ _ rows (apart_names Witness f).1
no_flag_used f Why v rows = vals_other (flag_id f) (codes "why") _ _ rows (apart_names Why f).1
no_flag_used f Near v rows = vals_other (flag_id f) (codes "near") _ _ rows (apart_names Near f).1

no_word_used : (s : Setting) (v : Text) (rows : List Row) → vals (codes "words") (used (filled (setting_rule s)) (v ∷ []) rows) ≡ vals (codes "words") rows
no_word_used Config v rows = vals_other (codes "words") (codes "config") _ _ rows refl
no_word_used Within v rows = vals_other (codes "words") (codes "within") _ _ rows refl
no_word_used Silent v rows = vals_other (codes "words") (codes "silent") _ _ rows refl
no_word_used Limit v rows = vals_other (codes "words") (codes "limit") _ _ rows refl
no_word_used Witness v rows = vals_other (codes "words") (codes "witness") _ _ rows refl
no_word_used Why v rows = vals_other (codes "words") (codes "why") _ _ rows refl
no_word_used Near v rows = vals_other (codes "words") (codes "near") _ _ rows refl

-- ---- the values of an option

own : Setting → Part → List Text
own s (apart t v) = if is_same s t then v ∷ [] else []
own s (joined t v) = if is_same s t then v ∷ [] else []
own s (flag f) = []
own s (positional w) = []

part_values : (s : Setting) (p : Part) (rows : List Row) → vals (id_of s) (used_part p rows) ≡ vals (id_of s) rows ++ own s p
unfolding own
part_values s (apart t v) rows = option_used s t v rows
part_values s (joined t v) rows = option_used s t v rows
part_values s (flag f) rows = flag_used s f rows ∙ sym (append-nil _)
part_values s (positional w) rows = word_used s w rows ∙ sym (append-nil _)

one_or_none : (b : Bool) (v : Text) (vs : List Text) → (if b then v ∷ [] else []) ++ vs ≡ (if b then v ∷ vs else vs)
one_or_none true v vs = refl
one_or_none false v vs = refl

own_values : (s : Setting) (p : Part) (g : Given) → own s p ++ values_of s g.options ≡ values_of s (with_part p g).options
unfolding own
own_values s (apart t v) g = one_or_none (is_same s t) v (values_of s g.options)
own_values s (joined t v) g = one_or_none (is_same s t) v (values_of s g.options)
own_values s (flag f) g = refl
own_values s (positional w) g = refl

words_values : (s : Setting) (ws : List Text) (rows : List Row) → vals (id_of s) (used_words ws rows) ≡ vals (id_of s) rows
words_values s [] rows = refl
words_values s (w ∷ ws) rows = words_values s ws (used word_rule (w ∷ []) rows) ∙ word_used s w rows

behind_values : (s : Setting) (b : Option (List Text)) (rows : List Row) → vals (id_of s) (used_behind b rows) ≡ vals (id_of s) rows ++ values_of s (given_behind b).options
behind_values s None rows = sym (append-nil _)
behind_values s (Some ws) rows = words_values s ws rows ∙ sym (append-nil _)

parts_values : (s : Setting) (ps : List Part) (b : Option (List Text)) (rows : List Row)
    → vals (id_of s) (used_behind b (used_parts ps rows)) ≡ vals (id_of s) rows ++ values_of s (given_parts ps (given_behind b)).options
parts_values s [] b rows = behind_values s b rows
parts_values s (p ∷ ps) b rows =
    let g = given_parts ps (given_behind b) in
    parts_values s ps b (used_part p rows) ∙ ap (λ vs. vs ++ values_of s g.options) (part_values s p rows)
    ∙ append_assoc (vals (id_of s) rows) (own s p) (values_of s g.options) ∙ ap (λ vs. vals (id_of s) rows ++ vs) (own_values s p g)

-- ---- the positional words

no_flag_word : (f : Flag) (rows : List Row) → vals (codes "words") (used (filled (flag_rule f)) [] rows) ≡ vals (codes "words") rows
no_flag_word Stutter rows = vals_other (codes "words") (codes "stutter") _ _ rows refl
no_flag_word Wide rows = vals_other (codes "words") (codes "wide") _ _ rows refl
no_flag_word Ties rows = vals_other (codes "words") (codes "ties") _ _ rows refl

part_words : (p : Part) (g : Given) (rows : List Row) → vals (codes "words") (used_part p rows) ++ g.positional ≡ vals (codes "words") rows ++ (with_part p g).positional
part_words (apart s v) g rows = ap (λ vs. vs ++ g.positional) (no_word_used s v rows)
part_words (joined s v) g rows = ap (λ vs. vs ++ g.positional) (no_word_used s v rows)
part_words (flag f) g rows = ap (λ vs. vs ++ g.positional) (no_flag_word f rows)
part_words (positional w) g rows = ap (λ vs. vs ++ g.positional) (vals_same (codes "words") _ (w ∷ []) rows refl) ∙ append_assoc (vals (codes "words") rows) (w ∷ []) g.positional

words_words : (ws : List Text) (rows : List Row) → vals (codes "words") (used_words ws rows) ≡ vals (codes "words") rows ++ ws
words_words [] rows = sym (append-nil _)
words_words (w ∷ ws) rows =
    words_words ws (used word_rule (w ∷ []) rows) ∙ ap (λ vs. vs ++ ws) (vals_same (codes "words") _ (w ∷ []) rows refl) ∙ append_assoc (vals (codes "words") rows) (w ∷ []) ws

behind_words : (b : Option (List Text)) (rows : List Row) → vals (codes "words") (used_behind b rows) ≡ vals (codes "words") rows ++ (given_behind b).positional
behind_words None rows = sym (append-nil _)
behind_words (Some ws) rows = words_words ws rows

parts_words : (ps : List Part) (b : Option (List Text)) (rows : List Row) → vals (codes "words") (used_behind b (used_parts ps rows)) ≡ vals (codes "words") rows ++ (given_parts ps (given_behind b)).positional
parts_words [] b rows = behind_words b rows
parts_words (p ∷ ps) b rows = parts_words ps b (used_part p rows) ∙ part_words p (given_parts ps (given_behind b)) rows

-- ---- how often a flag stands

flags : Flag → List Row → ℕ
flags f rows = length (vals (flag_id f) rows)

raised : (f : Flag) (rows : List Row) → flags f (used (filled (flag_rule f)) [] rows) ≡ flags f rows + 1
unfolding flags
raised Stutter rows = ap length (vals_same (codes "stutter") _ (codes "" ∷ []) rows refl) ∙ length-append (vals (codes "stutter") rows) (codes "" ∷ [])
raised Wide rows = ap length (vals_same (codes "wide") _ (codes "" ∷ []) rows refl) ∙ length-append (vals (codes "wide") rows) (codes "" ∷ [])
raised Ties rows = ap length (vals_same (codes "ties") _ (codes "" ∷ []) rows refl) ∙ length-append (vals (codes "ties") rows) (codes "" ∷ [])

one_more : (f g : Flag) (rows : List Row) (fs : List Flag) → flags f (used (filled (flag_rule g)) [] rows) + times f fs ≡ flags f rows + times f (g ∷ fs)
unfolding flags
one_more Stutter Stutter rows fs = let one = raised Stutter rows in omega arith
one_more Stutter Wide rows fs = ap (λ vs. length vs + times Stutter fs) (vals_other (codes "stutter") (codes "wide") _ _ rows refl)
one_more Stutter Ties rows fs = ap (λ vs. length vs + times Stutter fs) (vals_other (codes "stutter") (codes "ties") _ _ rows refl)
one_more Wide Stutter rows fs = ap (λ vs. length vs + times Wide fs) (vals_other (codes "wide") (codes "stutter") _ _ rows refl)
one_more Wide Wide rows fs = let one = raised Wide rows in omega arith
one_more Wide Ties rows fs = ap (λ vs. length vs + times Wide fs) (vals_other (codes "wide") (codes "ties") _ _ rows refl)
one_more Ties Stutter rows fs = ap (λ vs. length vs + times Ties fs) (vals_other (codes "ties") (codes "stutter") _ _ rows refl)
one_more Ties Wide rows fs = ap (λ vs. length vs + times Ties fs) (vals_other (codes "ties") (codes "wide") _ _ rows refl)
one_more Ties Ties rows fs = let one = raised Ties rows in omega arith

word_is_none : (f : Flag) (w : Text) (rows : List Row) → vals (flag_id f) (used word_rule (w ∷ []) rows) ≡ vals (flag_id f) rows
word_is_none Stutter w rows = vals_other (codes "stutter") (codes "words") _ _ rows refl
word_is_none Wide w rows = vals_other (codes "wide") (codes "words") _ _ rows refl
word_is_none Ties w rows = vals_other (codes "ties") (codes "words") _ _ rows refl

part_flags : (f : Flag) (p : Part) (g : Given) (rows : List Row) → flags f (used_part p rows) + times f g.flags ≡ flags f rows + times f (with_part p g).flags
unfolding flags
part_flags f (apart s v) g rows = ap (λ vs. length vs + times f g.flags) (no_flag_used f s v rows)
part_flags f (joined s v) g rows = ap (λ vs. length vs + times f g.flags) (no_flag_used f s v rows)
part_flags f (flag s) g rows = one_more f s rows g.flags
part_flags f (positional w) g rows = ap (λ vs. length vs + times f g.flags) (word_is_none f w rows)

words_flags : (f : Flag) (ws : List Text) (rows : List Row) → flags f (used_words ws rows) ≡ flags f rows
unfolding flags
words_flags f [] rows = refl
words_flags f (w ∷ ws) rows = words_flags f ws (used word_rule (w ∷ []) rows) ∙ ap length (word_is_none f w rows)

behind_flags : (f : Flag) (b : Option (List Text)) (rows : List Row) → flags f (used_behind b rows) ≡ flags f rows + times f (given_behind b).flags
behind_flags f None rows = omega arith
behind_flags f (Some ws) rows = let same = words_flags f ws rows in omega arith

parts_flags : (f : Flag) (ps : List Part) (b : Option (List Text)) (rows : List Row) → flags f (used_behind b (used_parts ps rows)) ≡ flags f rows + times f (given_parts ps (given_behind b)).flags
parts_flags f [] b rows = behind_flags f b rows
parts_flags f (p ∷ ps) b rows = parts_flags f ps b (used_part p rows) ∙ part_flags f p (given_parts ps (given_behind b)) rows

-- ---- what the matches give

values_append : (s : Setting) (os qs : List (Setting × Text)) → values_of s (os ++ qs) ≡ values_of s os ++ values_of s qs
values_append s [] qs = refl
values_append s (o ∷ os) qs = by_same (is_same s o.0) (values_append s os qs)
  where
    by_same : (b : Bool) → values_of s (os ++ qs) ≡ values_of s os ++ values_of s qs
        → (if b then o.1 ∷ values_of s (os ++ qs) else values_of s (os ++ qs)) ≡ (if b then o.1 ∷ values_of s os else values_of s os) ++ values_of s qs
    by_same true e = ap (λ vs. o.1 ∷ vs) e
    by_same false e = e

either : (b : Bool) (vs : List Text) → vs ≡ (if b then vs else vs)
either true vs = refl
either false vs = refl

values_own : (s t : Setting) (vs : List Text) → values_of s (map (λ v. (t, v)) vs) ≡ (if is_same s t then vs else [])
values_own s t [] = either (is_same s t) []
values_own s t (v ∷ vs) = by_same (is_same s t) (values_own s t vs)
  where
    by_same : (b : Bool) → values_of s (map (λ v. (t, v)) vs) ≡ (if b then vs else [])
        → (if b then v ∷ values_of s (map (λ v. (t, v)) vs) else values_of s (map (λ v. (t, v)) vs)) ≡ (if b then v ∷ vs else [])
    by_same true e = ap (λ vs. v ∷ vs) e
    by_same false e = e

held : List Row → Setting → Setting → List Text
held rows s t = if is_same s t then vals (id_of t) rows else []

more_held : (rows : List Row) (s t : Setting) (os : List (Setting × Text)) (vs : List Text) → values_of s os ≡ vs → values_of s (options_in rows t ++ os) ≡ held rows s t ++ vs
unfolding held
more_held rows s t os vs e = values_append s (options_in rows t) os ∙ ap₂ (λ us vs. us ++ vs) (values_own s t (vals (id_of t) rows)) e

all_held : (rows : List Row) (s : Setting)
    → values_of s (given_in rows).options ≡ held rows s Config ++ (held rows s Within ++ (held rows s Silent ++ (held rows s Limit ++ (held rows s Witness ++ (held rows s Why ++ (held rows s Near))))))
unfolding held
all_held rows s =
    more_held rows s Config _ _ (more_held rows s Within _ _ (more_held rows s Silent _ _ (more_held rows s Limit _ _ (more_held rows s Witness _ _ (more_held rows s Why _ _ (values_own s Near (vals (id_of Near) rows)))))))

pub values_in : (rows : List Row) (s : Setting) → values_of s (given_in rows).options ≡ vals (id_of s) rows
unfolding held
values_in rows Config = all_held rows Config ∙ append-nil _
values_in rows Within = all_held rows Within ∙ append-nil _
values_in rows Silent = all_held rows Silent ∙ append-nil _
values_in rows Limit = all_held rows Limit ∙ append-nil _
values_in rows Witness = all_held rows Witness ∙ append-nil _
values_in rows Why = all_held rows Why ∙ append-nil _
values_in rows Near = all_held rows Near

times_append : (f : Flag) (fs gs : List Flag) → times f (fs ++ gs) ≡ times f fs + times f gs
times_append f [] gs = omega arith
times_append f (g ∷ fs) gs = by_same (is_flag f g) (times_append f fs gs)
  where
    by_same : (b : Bool) → times f (fs ++ gs) ≡ times f fs + times f gs
        → (if b then 1 + times f (fs ++ gs) else times f (fs ++ gs)) ≡ (if b then 1 + times f fs else times f fs) + times f gs
    by_same true e = omega arith
    by_same false e = e

either_count : (b : Bool) (n : ℕ) → n ≡ (if b then n else n)
either_count true n = refl
either_count false n = refl

times_own : (f g : Flag) (vs : List Text) → times f (map (λ _. g) vs) ≡ (if is_flag f g then length vs else 0)
times_own f g [] = either_count (is_flag f g) 0
times_own f g (v ∷ vs) = by_same (is_flag f g) (times_own f g vs)
  where
    by_same : (b : Bool) → times f (map (λ _. g) vs) ≡ (if b then length vs else 0)
        → (if b then 1 + times f (map (λ _. g) vs) else times f (map (λ _. g) vs)) ≡ (if b then length (v ∷ vs) else 0)
    by_same true e = omega arith
    by_same false e = e

-- how often a flag stands is how many values the matches hold for it
pub times_in : (rows : List Row) (f : Flag) → times f (given_in rows).flags ≡ length (vals (flag_id f) rows)
times_in rows Stutter =
    let all = times_append Stutter (flags_in rows Stutter) (flags_in rows Wide ++ flags_in rows Ties) in
    let two = times_append Stutter (flags_in rows Wide) (flags_in rows Ties) in
    let stutter = times_own Stutter Stutter (vals (flag_id Stutter) rows) in
    let wide = times_own Stutter Wide (vals (flag_id Wide) rows) in
    let ties = times_own Stutter Ties (vals (flag_id Ties) rows) in
    omega arith
times_in rows Wide =
    let all = times_append Wide (flags_in rows Stutter) (flags_in rows Wide ++ flags_in rows Ties) in
    let two = times_append Wide (flags_in rows Wide) (flags_in rows Ties) in
    let stutter = times_own Wide Stutter (vals (flag_id Stutter) rows) in
    let wide = times_own Wide Wide (vals (flag_id Wide) rows) in
    let ties = times_own Wide Ties (vals (flag_id Ties) rows) in
    omega arith
times_in rows Ties =
    let all = times_append Ties (flags_in rows Stutter) (flags_in rows Wide ++ flags_in rows Ties) in
    let two = times_append Ties (flags_in rows Wide) (flags_in rows Ties) in
    let stutter = times_own Ties Stutter (vals (flag_id Stutter) rows) in
    let wide = times_own Ties Wide (vals (flag_id Wide) rows) in
    let ties = times_own Ties Ties (vals (flag_id Ties) rows) in
    omega arith

pub line_agrees : (l : Line) → Agree (given_of l) (given_in (used_line l))
unfolding flags
line_agrees l = record {
  settings = λ s. sym (values_in (used_line l) s ∙ parts_values s l.parts l.behind []);
  flags = λ f. let e = parts_flags f l.parts l.behind [] in let held = times_in (used_line l) f in omega arith;
  positional = sym (parts_words l.parts l.behind []);
}

-- what the program reads of the matches
pub values_are : (f : Found) (id : Text) (r : Option (Bor (List (Bor Text)))) → option_map (λ s. map (λ v. v.now) s.now) r ≡ option_map raw_values (matched_of f id)
    → MatchOption r (vals id (rows_of f) ≡ []) (λ s. texts_of s.now ≡ vals id (rows_of f))
values_are f id r e = by_rows r (e ∙ raw_values-rows f id)
  where
    by_rows : (r : Option (Bor (List (Bor Text)))) → option_map (λ s. map (λ v. v.now) s.now) r ≡ all_of id (rows_of f) → MatchOption r (vals id (rows_of f) ≡ []) (λ s. texts_of s.now ≡ vals id (rows_of f))
    by_rows None q = ap (λ o. unwrap_or o []) (sym q)
    by_rows (Some s) q = ap (λ o. unwrap_or o []) q

pub setting_held : (rows : List Row) (s : Setting) (id : Text) (vs : List Text) → id ≡ id_of s → vs ≡ vals id rows → vs ≡ values_of s (given_in rows).options
setting_held rows s id vs e q = q ∙ ap (λ id. vals id rows) e ∙ sym (values_in rows s)

pub flag_held : (rows : List Row) (f : Flag) (id : Text) (vs : List Text) → id ≡ flag_id f → vs ≡ vals id rows → length vs ≡ times f (given_in rows).flags
flag_held rows f id vs e q = ap length (q ∙ ap (λ id. vals id rows) e) ∙ sym (times_in rows f)
