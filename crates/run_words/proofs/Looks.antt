-- How a word looks to clap, and which argument a long one names.
use Rattle.std.proofs.Common.{◌≡◌, ◌∙◌, sym, ap, subst, refl, ℕ, ◌+◌, suc, ◌&&◌, ◌||◌, not, Bool, true, false, eqb-true, List, [], ◌∷◌, ◌++◌, take, drop, Option, Some, None, is_some, codes, arith}
use Rattle.std.specs.Prelude.{nat_eq, ◌==◌, if◌then◌else◌}
use Rattle.std.specs.List.{after_first, before_first, list_any, position_or_len}
use Rattle.std.specs.Str.{IsUtf8, bytes_eq, chars, encode_utf8_all}
use Rattle.std.proofs.lemmas.Str.{IsUtf8-drop, IsCharBoundary-after_ascii, encodes-chars}
use Rattle.std.proofs.lemmas.Slice.Eq.{bytes_eq-Decides}
use Rattle.clap.specs.Lexer.{has_byte, long_of, name_and_value, short_of}
use Rattle.clap.specs.Walk.{Rule, arg_by_long, has_long}
use Rattle.clap.specs.Simple.{filled}
use Rattle.run_words.specs.declared.command.Command.{Command}
use Rattle.run_words.specs.declared.command.Command.TheVariants.{Validate, Check, SelfRun}
use Rattle.run_words.specs.declared.command.Flag.{Flag}
use Rattle.run_words.specs.declared.command.Flag.TheVariants.{Stutter, Ties, Wide}
use Rattle.run_words.specs.declared.command.Setting.{Setting}
use Rattle.run_words.specs.declared.command.Setting.TheVariants.{Config, Within, Silent, Limit, Witness, Why, Near}
use Rattle.run_words.specs.Line.{Text, has_flag, has_setting}
use Rattle.run_words.specs.Parsers.{flag_id, flag_rule, id_of, rules_for, setting_rule}
use Rattle.run_words.proofs.Walks.{NoFlag, no_flag, word_rule}

pub data Looks (w : Text) : Type 0 where
  marks : w ≡ codes "--" → Looks w
  plain : NoFlag w → Looks w
  long : (t : Text) → bytes_eq w (codes "--") ≡ false → w ≡ 45 ∷ 45 ∷ t → long_of w ≡ Some (name_and_value t) → Looks w
  short : (x : ℕ) (xs : Text) → w ≡ 45 ∷ x ∷ xs → bytes_eq w (codes "--") ≡ false → long_of w ≡ None → short_of w ≡ Some (x ∷ xs) → Looks w

two_dashes : (xs : Text) → Looks (45 ∷ 45 ∷ xs)
two_dashes [] = marks refl
two_dashes (x ∷ xs) = long (x ∷ xs) refl refl refl

behind_dash : (x : ℕ) (xs : Text) (b : Bool) → nat_eq x 45 ≡ b → Looks (45 ∷ x ∷ xs)
behind_dash x xs true e = subst (λ (x : ℕ). Looks (45 ∷ x ∷ xs)) (sym (eqb-true x 45 e)) (two_dashes xs)
behind_dash x xs false e = short x xs refl (rw e refl) (rw e refl) (rw e refl)

dash : (xs : Text) → Looks (45 ∷ xs)
dash [] = plain (record { no_end = refl; no_long = refl; no_short = refl })
dash (x ∷ xs) = behind_dash x xs (nat_eq x 45) refl

looks_at : (x : ℕ) (xs : Text) (b : Bool) → nat_eq x 45 ≡ b → Looks (x ∷ xs)
looks_at x xs true e = subst (λ (x : ℕ). Looks (x ∷ xs)) (sym (eqb-true x 45 e)) (dash xs)
looks_at x xs false e = plain (no_flag (x ∷ xs) e)

pub looks : (w : Text) → Looks w
looks [] = plain (no_flag [] refl)
looks (x ∷ xs) = looks_at x xs (nat_eq x 45) refl

-- ---- a short word has a character behind its dash

chars_of : (x : ℕ) (xs cs : Text) → encode_utf8_all cs ≡ x ∷ xs → (c : ℕ) × (rest : Text) × (cs ≡ c ∷ rest)
chars_of x xs [] e = cc
chars_of x xs (c ∷ cs) e = (c, cs, refl)

pub short_chars : (x : ℕ) (xs : Text) → IsUtf8 (45 ∷ x ∷ xs) → (c : ℕ) × (rest : Text) × (chars (x ∷ xs) ≡ c ∷ rest)
short_chars x xs u =
    let v : IsUtf8 (x ∷ xs) = IsUtf8-drop (45 ∷ x ∷ xs) (0 + 1) u (IsCharBoundary-after_ascii (45 ∷ x ∷ xs) 0 u (omega arith) (omega arith)) in
    chars_of x xs (chars (x ∷ xs)) (encodes-chars (x ∷ xs) v)

-- ---- what a long word names

same_bytes : (a b : Text) → bytes_eq a b ≡ true → a ≡ b
same_bytes a b e = (bytes_eq-Decides a b).0 e

-- a text with a sign `=` is what stands before it, the sign, and what stands behind it
joined_at : (x : ℕ) (xs : Text) (b : Bool) → nat_eq x 61 ≡ b → list_any (λ y. y == 61) (x ∷ xs) ≡ true
    → (list_any (λ y. y == 61) xs ≡ true → xs ≡ before_first (λ y. y == 61) xs ++ 61 ∷ after_first (λ y. y == 61) xs)
    → x ∷ xs ≡ before_first (λ y. y == 61) (x ∷ xs) ++ 61 ∷ after_first (λ y. y == 61) (x ∷ xs)
joined_at x xs true e h r =
    let z : position_or_len (λ y. y == 61) (x ∷ xs) ≡ 0 = rw e refl in
    ap (λ y. y ∷ xs) (eqb-true x 61 e) ∙ ap (λ k. take k (x ∷ xs) ++ 61 ∷ drop (k + 1) (x ∷ xs)) (sym z)
joined_at x xs false e h r =
    let n = position_or_len (λ y. y == 61) xs in
    let one : 1 + n ≡ suc n = omega arith in
    let z : position_or_len (λ y. y == 61) (x ∷ xs) ≡ suc n = rw e one in
    let rest : list_any (λ y. y == 61) xs ≡ true = rw e at h in
    let two : suc n + 1 ≡ suc (n + 1) = omega arith in
    ap (λ ys. x ∷ ys) (r rest) ∙ ap (λ k. x ∷ take n xs ++ 61 ∷ drop k (x ∷ xs)) (sym two) ∙ ap (λ k. take k (x ∷ xs) ++ 61 ∷ drop (k + 1) (x ∷ xs)) (sym z)

pub joined_text : (t : Text) → has_byte 61 t ≡ true → t ≡ before_first (λ y. y == 61) t ++ 61 ∷ after_first (λ y. y == 61) t
joined_text [] e = cc
joined_text (x ∷ xs) e = joined_at x xs (nat_eq x 61) refl e (joined_text xs)

whole_at : (x : ℕ) (xs : Text) (b : Bool) → nat_eq x 61 ≡ b → list_any (λ y. y == 61) (x ∷ xs) ≡ false
    → (list_any (λ y. y == 61) xs ≡ false → before_first (λ y. y == 61) xs ≡ xs)
    → before_first (λ y. y == 61) (x ∷ xs) ≡ x ∷ xs
whole_at x xs true e h r = let no_sign : true ≡ false = rw e at h in cc
whole_at x xs false e h r =
    let n = position_or_len (λ y. y == 61) xs in
    let one : 1 + n ≡ suc n = omega arith in
    let z : position_or_len (λ y. y == 61) (x ∷ xs) ≡ suc n = rw e one in
    let rest : list_any (λ y. y == 61) xs ≡ false = rw e at h in
    ap (λ k. take k (x ∷ xs)) z ∙ ap (λ ys. x ∷ ys) (r rest)

pub whole_text : (t : Text) → has_byte 61 t ≡ false → before_first (λ y. y == 61) t ≡ t
whole_text [] e = refl
whole_text (x ∷ xs) e = whole_at x xs (nat_eq x 61) refl e (whole_text xs)

-- a long word is a name, or a name with a value behind a sign `=`
pub data Named (t n : Text) : Type 0 where
  alone : t ≡ n → name_and_value t ≡ (n, None) → Named t n
  valued : (v : Text) → t ≡ n ++ 61 ∷ v → name_and_value t ≡ (n, Some v) → Named t n

named_at : (t : Text) (b : Bool) → has_byte 61 t ≡ b → Named t (before_first (λ y. y == 61) t)
named_at t true e = valued (after_first (λ y. y == 61) t) (joined_text t e) (ap (λ b. (before_first (λ y. y == 61) t, (if b then Some (after_first (λ y. y == 61) t) else None))) e)
named_at t false e = alone (sym (whole_text t e)) (ap (λ b. (before_first (λ y. y == 61) t, (if b then Some (after_first (λ y. y == 61) t) else None))) e)

pub named : (t : Text) → Named t (before_first (λ y. y == 61) t)
named t = named_at t (has_byte 61 t) refl

-- which argument a name names
pub data Means (c : Command) (n : Text) : Type 0 where
  setting : (s : Setting) → has_setting c s ≡ true → n ≡ id_of s → Means c n
  switch : (f : Flag) → has_flag c f ≡ true → n ≡ flag_id f → Means c n
  unknown : arg_by_long (rules_for c) n ≡ None → Means c n

passed : (b : Bool) (x y : Option Rule) → (if b && false then x else y) ≡ y
passed true x y = refl
passed false x y = refl

other_rule : (a : Rule) (rs : List Rule) (n : Text) → has_long a n ≡ false → arg_by_long (a ∷ rs) n ≡ arg_by_long rs n
other_rule a rs n e = ap (λ b. if not (is_some a.index) && b then Some a else arg_by_long rs n) e ∙ passed (not (is_some a.index)) (Some a) (arg_by_long rs n)

or_nothing : (b : Bool) → b ≡ false → (b || false) ≡ false
or_nothing b e = ap (λ b. b || false) e

-- the arguments of `validate` and `check`, which differ behind `--ties`
abbrev behind_silent : Setting → List Rule → List Rule
behind_silent last others = filled (flag_rule Stutter) ∷ filled (flag_rule Wide) ∷ filled (flag_rule Ties) ∷ filled (setting_rule last) ∷ others

abbrev behind_config : Setting → List Rule → List Rule
behind_config last others = filled (setting_rule Within) ∷ filled (setting_rule Silent) ∷ behind_silent last others

other_name : (last : Setting) (others : List Rule) (n : Text) → bytes_eq (codes "config") n ≡ false → bytes_eq (codes "within") n ≡ false → bytes_eq (codes "silent") n ≡ false
    → bytes_eq (codes "stutter") n ≡ false → bytes_eq (codes "wide") n ≡ false → bytes_eq (codes "ties") n ≡ false → bytes_eq (id_of last) n ≡ false
    → arg_by_long (filled (setting_rule Config) ∷ behind_config last others) n ≡ arg_by_long others n
other_name last others n p q r s u v t =
    other_rule (filled (setting_rule Config)) (behind_config last others) n (or_nothing _ p)
    ∙ other_rule (filled (setting_rule Within)) (filled (setting_rule Silent) ∷ behind_silent last others) n (or_nothing _ q)
    ∙ other_rule (filled (setting_rule Silent)) (behind_silent last others) n (or_nothing _ r)
    ∙ other_rule (filled (flag_rule Stutter)) (filled (flag_rule Wide) ∷ filled (flag_rule Ties) ∷ filled (setting_rule last) ∷ others) n (or_nothing _ s)
    ∙ other_rule (filled (flag_rule Wide)) (filled (flag_rule Ties) ∷ filled (setting_rule last) ∷ others) n (or_nothing _ u)
    ∙ other_rule (filled (flag_rule Ties)) (filled (setting_rule last) ∷ others) n (or_nothing _ v)
    ∙ other_rule (filled (setting_rule last)) others n (or_nothing _ t)

name_means : (c : Command) (last : Setting) (others : List Rule) (n : Text) → ((f : Flag) → has_flag c f ≡ true) → has_setting c Config ≡ true → has_setting c Within ≡ true → has_setting c Silent ≡ true → has_setting c last ≡ true
    → rules_for c ≡ filled (setting_rule Config) ∷ behind_config last others → (arg_by_long (rules_for c) n ≡ arg_by_long others n → Means c n)
    → (a b d e g x f : Bool) → bytes_eq (codes "config") n ≡ a → bytes_eq (codes "within") n ≡ b → bytes_eq (codes "silent") n ≡ d → bytes_eq (codes "stutter") n ≡ e
    → bytes_eq (codes "wide") n ≡ g → bytes_eq (codes "ties") n ≡ x → bytes_eq (id_of last) n ≡ f
    → Means c n
name_means c last others n h i j k l m o true b d e g x f p q r s u v t = setting Config i (sym (same_bytes _ _ p))
name_means c last others n h i j k l m o false true d e g x f p q r s u v t = setting Within j (sym (same_bytes _ _ q))
name_means c last others n h i j k l m o false false true e g x f p q r s u v t = setting Silent k (sym (same_bytes _ _ r))
name_means c last others n h i j k l m o false false false true g x f p q r s u v t = switch Stutter (h Stutter) (sym (same_bytes _ _ s))
name_means c last others n h i j k l m o false false false false true x f p q r s u v t = switch Wide (h Wide) (sym (same_bytes _ _ u))
name_means c last others n h i j k l m o false false false false false true f p q r s u v t = switch Ties (h Ties) (sym (same_bytes _ _ v))
name_means c last others n h i j k l m o false false false false false false true p q r s u v t = setting last l (sym (same_bytes _ _ t))
name_means c last others n h i j k l m o false false false false false false false p q r s u v t = o (ap (λ rs. arg_by_long rs n) m ∙ other_name last others n p q r s u v t)

-- the arguments of `validate` behind those
abbrev behind_limit : List Rule
behind_limit = filled (setting_rule Why) ∷ filled (setting_rule Near) ∷ word_rule ∷ []

-- of these an option is named, or none
more_means : (n : Text) (a b : Bool) → bytes_eq (codes "why") n ≡ a → bytes_eq (codes "near") n ≡ b → arg_by_long (rules_for Validate) n ≡ arg_by_long behind_limit n → Means Validate n
more_means n true b p q e = setting Why refl (sym (same_bytes _ _ p))
more_means n false true p q e = setting Near refl (sym (same_bytes _ _ q))
more_means n false false p q e =
    unknown
    (e ∙ other_rule (filled (setting_rule Why)) (filled (setting_rule Near) ∷ word_rule ∷ []) n (or_nothing _ p)
    ∙ other_rule (filled (setting_rule Near)) (word_rule ∷ []) n (or_nothing _ q))

pub means : (c : Command) (n : Text) → Means c n
means Validate n =
    name_means Validate Limit behind_limit n (λ f. refl) refl refl refl refl refl (more_means n _ _ refl refl) _ _ _ _ _ _ _ refl refl refl refl refl refl refl
means Check n = name_means Check Witness (word_rule ∷ []) n (λ f. refl) refl refl refl refl refl (λ e. unknown e) _ _ _ _ _ _ _ refl refl refl refl refl refl refl
means SelfRun n = unknown refl
