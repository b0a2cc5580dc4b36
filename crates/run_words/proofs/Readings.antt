-- A line is what clap takes, where no value and no word is empty or `-`.
use Rattle.std.proofs.Common.{◌≡◌, inl, inr, String, Global, ◌∙◌, sym, ap, subst, refl, ℕ, ◌&&◌, not, Bool, true, false, List, [], ◌∷◌, Option, Some, None, codes}
use Rattle.std.specs.Prelude.{if◌then◌else◌, nat_eq}
use Rattle.std.specs.List.{list_all}
use Rattle.std.proofs.lemmas.Bool.{and_parts, and_from, eqb-true, false≢true, not-true}
use Rattle.std.proofs.lemmas.Str.{IsUtf8-string_bytes}
use Rattle.clap.specs.Walk.{Row, rows_of}
use Rattle.clap.specs.Matches.{found_of}
use Rattle.clap.specs.Simple.{App, HasMatchesOf, is_simple, matches_of}
use Rattle.clap.specs.Faults.{fault_of, is_simple_and_free}
use Rattle.clap.specs.Kinds.{HasKind}
use Rattle.clap.specs.Values.{kind_of}
use Rattle.clap.specs.declared.error.Error.{Error}
use Rattle.clap.specs.declared.error.kind.ErrorKind.TheVariants.{OutOfMemory}
use Rattle.clap.specs.declared.parser.matches.ArgMatches.{ArgMatches}
use Rattle.run_words.specs.declared.command.Command.{Command}
use Rattle.run_words.specs.declared.command.Setting.{Setting}
use Rattle.run_words.specs.declared.command.Setting.TheVariants.{Config, Within, Silent, Limit, Witness, Why, Near}
use Rattle.run_words.specs.Job.{is_same, values_of}
use Rattle.run_words.specs.Line.{Text, Part, apart, joined, flag, positional, Line, Given, Gives, begins_with_dash, behind_given, given_behind, given_of, given_parts, has_setting, is_given, is_line, is_part, with_part, words_of, written}
use Rattle.run_words.specs.Parsers.{Agree, Holds, app_for, are_given, given_by, given_in, has_given_alone, id_of, vals}
use Rattle.run_words.proofs.Walks.{NoFlag, no_flag, simple, simple_and_free}
use Rattle.run_words.proofs.Lines.{AllFit, Fits, line_rows, line_taken, used_line}
use Rattle.run_words.proofs.Rows.{line_agrees, same_self, values_in}
use Rattle.run_words.proofs.Spelled.{AllUtf8, taken_spelled}

-- ---- a line is taken

part_fits : (c : Command) (p : Part) → is_part c p ≡ true → Fits c p
part_fits c (apart s v) e =
    let p = and_parts (has_setting c s) (is_given v && not (begins_with_dash v)) e in
    (p.0, no_flag v (not-true _ (and_parts (is_given v) (not (begins_with_dash v)) p.1).1))
part_fits c (joined s v) e = (and_parts (has_setting c s) (is_given v) e).0
part_fits c (flag f) e = e
part_fits c (positional w) e = no_flag w (not-true _ (and_parts (is_given w) (not (begins_with_dash w)) e).1)

parts_fit : (c : Command) (ps : List Part) → list_all (is_part c) ps ≡ true → AllFit c ps
parts_fit c [] e = tt
parts_fit c (p ∷ ps) e = let q = and_parts (is_part c p) (list_all (is_part c) ps) e in (part_fits c p q.0, parts_fit c ps q.1)

line_fits : (c : Command) (l : Line) → is_line c l ≡ true → AllFit c l.parts
line_fits c l e = parts_fit c l.parts (and_parts (list_all (is_part c) l.parts) (behind_given l.behind) e).0

-- ---- what is given

pub record AllGiven (g : Given) : Type 0 where
  pub settings : (s : Setting) → list_all is_given (values_of s g.options) ≡ true
  pub words : list_all is_given g.positional ≡ true

value_more : (b : Bool) (v : Text) (vs : List Text) → is_given v ≡ true → list_all is_given vs ≡ true → list_all is_given (if b then v ∷ vs else vs) ≡ true
value_more true v vs e f = and_from _ _ e f
value_more false v vs e f = f

part_given : (c : Command) (p : Part) (g : Given) → is_part c p ≡ true → AllGiven g → AllGiven (with_part p g)
part_given c (apart s v) g e a =
    let p = and_parts (has_setting c s) (is_given v && not (begins_with_dash v)) e in
    let q = and_parts (is_given v) (not (begins_with_dash v)) p.1 in
    record { settings = λ t. value_more (is_same t s) v (values_of t g.options) q.0 (a.settings t); words = a.words }
part_given c (joined s v) g e a =
    let p = and_parts (has_setting c s) (is_given v) e in
    record { settings = λ t. value_more (is_same t s) v (values_of t g.options) p.1 (a.settings t); words = a.words }
part_given c (flag f) g e a = record { settings = a.settings; words = a.words }
part_given c (positional w) g e a = record { settings = a.settings; words = and_from _ _ (and_parts (is_given w) (not (begins_with_dash w)) e).0 a.words }

parts_given : (c : Command) (ps : List Part) (g : Given) → list_all (is_part c) ps ≡ true → AllGiven g → AllGiven (given_parts ps g)
parts_given c [] g e a = a
parts_given c (p ∷ ps) g e a = let q = and_parts (is_part c p) (list_all (is_part c) ps) e in part_given c p (given_parts ps g) q.0 (parts_given c ps g q.1 a)

behind_all : (b : Option (List Text)) → behind_given b ≡ true → AllGiven (given_behind b)
behind_all None e = record { settings = λ s. refl; words = refl }
behind_all (Some ws) e = record { settings = λ s. refl; words = e }

pub line_given : (c : Command) (l : Line) → is_line c l ≡ true → AllGiven (given_of l)
line_given c l e = let p = and_parts (list_all (is_part c) l.parts) (behind_given l.behind) e in parts_given c l.parts (given_behind l.behind) p.0 (behind_all l.behind p.1)

rows_given : (rows : List Row) → AllGiven (given_in rows) → are_given rows ≡ true
rows_given rows a =
    let one : (s : Setting) → list_all is_given (vals (id_of s) rows) ≡ true = λ s. subst (λ vs. list_all is_given vs ≡ true) (values_in rows s) (a.settings s) in
    and_from _ _ (and_from _ _ (and_from _ _ (and_from _ _ (and_from _ _ (and_from _ _ (and_from _ _ (one Config) (one Within)) (one Silent)) (one Limit)) (one Witness)) (one Why)) (one Near)) a.words

by_setting : (rows : List Row) → list_all is_given (vals (id_of Config) rows) ≡ true → list_all is_given (vals (id_of Within) rows) ≡ true → list_all is_given (vals (id_of Silent) rows) ≡ true
    → list_all is_given (vals (id_of Limit) rows) ≡ true → list_all is_given (vals (id_of Witness) rows) ≡ true → list_all is_given (vals (id_of Why) rows) ≡ true
    → list_all is_given (vals (id_of Near) rows) ≡ true → (s : Setting) → list_all is_given (vals (id_of s) rows) ≡ true
by_setting rows a b c d f g h Config = a
by_setting rows a b c d f g h Within = b
by_setting rows a b c d f g h Silent = c
by_setting rows a b c d f g h Limit = d
by_setting rows a b c d f g h Witness = f
by_setting rows a b c d f g h Why = g
by_setting rows a b c d f g h Near = h

given_rows : (rows : List Row) → are_given rows ≡ true → AllGiven (given_in rows)
given_rows rows e =
    let w = and_parts _ (has_given_alone rows (codes "words")) e in
    let h = and_parts _ (has_given_alone rows (codes "near")) w.0 in
    let g = and_parts _ (has_given_alone rows (codes "why")) h.0 in
    let f = and_parts _ (has_given_alone rows (codes "witness")) g.0 in
    let d = and_parts _ (has_given_alone rows (codes "limit")) f.0 in
    let c = and_parts _ (has_given_alone rows (codes "silent")) d.0 in
    let a = and_parts (has_given_alone rows (codes "config")) (has_given_alone rows (codes "within")) c.0 in
    record { settings = λ s. subst (λ vs. list_all is_given vs ≡ true) (sym (values_in rows s)) (by_setting rows a.0 a.1 c.1 d.1 f.1 g.1 h.1 s); words = w.1 }

as_given : (g h : Given) → Agree g h → AllGiven g → AllGiven h
as_given g h e a = record { settings = λ s. subst (λ vs. list_all is_given vs ≡ true) (e.settings s) (a.settings s); words = subst (λ ws. list_all is_given ws ≡ true) e.positional a.words }

pub turned : (g h : Given) → Agree g h → Agree h g
turned g h e = record { settings = λ s. sym (e.settings s); flags = λ f. sym (e.flags f); positional = sym e.positional }

pub then_agree : (g h i : Given) → Agree g h → Agree h i → Agree g i
then_agree g h i a b = record { settings = λ s. a.settings s ∙ b.settings s; flags = λ f. a.flags f ∙ b.flags f; positional = a.positional ∙ b.positional }

-- ---- what is taken and given is a line

two_dashes : (xs : Text) → NoFlag (45 ∷ 45 ∷ xs) → ⊥
two_dashes [] n = let e = n.no_end in cc
two_dashes (x ∷ xs) n = let e = n.no_long in cc

one_dash : (x : ℕ) (xs : Text) (b : Bool) → nat_eq x 45 ≡ b → NoFlag (45 ∷ x ∷ xs) → ⊥
one_dash x xs true q n = two_dashes xs (subst (λ (x : ℕ). NoFlag (45 ∷ x ∷ xs)) (eqb-true x 45 q) n)
one_dash x xs false q n = let some = n.no_short in let e : Some (x ∷ xs) ≡ None = rw q at some in cc

dashed_no : (xs : Text) → NoFlag (45 ∷ xs) → is_given (45 ∷ xs) ≡ true → ⊥
dashed_no [] n e = cc
dashed_no (x ∷ xs) n e = one_dash x xs (nat_eq x 45) refl n

first_no_dash : (x : ℕ) (xs : Text) (b : Bool) → nat_eq x 45 ≡ b → NoFlag (x ∷ xs) → is_given (x ∷ xs) ≡ true → nat_eq x 45 ≡ false
first_no_dash x xs true q n e = absurd (dashed_no xs (subst (λ (x : ℕ). NoFlag (x ∷ xs)) (eqb-true x 45 q) n) (subst (λ (x : ℕ). is_given (x ∷ xs) ≡ true) (eqb-true x 45 q) e))
first_no_dash x xs false q n e = q

no_dash : (w : Text) → NoFlag w → is_given w ≡ true → begins_with_dash w ≡ false
no_dash [] n e = refl
no_dash (x ∷ xs) n e = first_no_dash x xs (nat_eq x 45) refl n e

value_parts : (b : Bool) (v : Text) (vs : List Text) → list_all is_given (if b then v ∷ vs else vs) ≡ true → list_all is_given vs ≡ true
value_parts true v vs e = (and_parts (is_given v) (list_all is_given vs) e).1
value_parts false v vs e = e

first_value : (s : Setting) (v : Text) (vs : List Text) → list_all is_given (if is_same s s then v ∷ vs else vs) ≡ true → is_given v ≡ true
first_value s v vs e =
    let is : list_all is_given (v ∷ vs) ≡ true = subst (λ (b : Bool). list_all is_given (if b then v ∷ vs else vs) ≡ true) (same_self s) e in
    (and_parts (is_given v) (list_all is_given vs) is).0

with_first : (x y z : Bool) → x ≡ true → (y && z) ≡ true → ((x && y) && z) ≡ true
with_first x y z e f = let p = and_parts y z f in and_from _ _ (and_from x y e p.0) p.1

parts_allowed : (c : Command) (ps : List Part) (b : Option (List Text)) → AllFit c ps → AllGiven (given_parts ps (given_behind b)) → (list_all (is_part c) ps && behind_given b) ≡ true
parts_allowed c [] None f a = refl
parts_allowed c [] (Some ws) f a = a.words
parts_allowed c (apart s v ∷ ps) b f a =
    let vs = values_of s (given_parts ps (given_behind b)).options in
    let i = first_value s v vs (a.settings s) in
    let rest = parts_allowed c ps b f.1 (record { settings = λ t. value_parts (is_same t s) v (values_of t (given_parts ps (given_behind b)).options) (a.settings t); words = a.words }) in
    with_first (is_part c (apart s v)) _ _ (and_from _ _ f.0.0 (and_from _ _ i (ap not (no_dash v f.0.1 i)))) rest
parts_allowed c (joined s v ∷ ps) b f a =
    let vs = values_of s (given_parts ps (given_behind b)).options in
    let i = first_value s v vs (a.settings s) in
    let rest = parts_allowed c ps b f.1 (record { settings = λ t. value_parts (is_same t s) v (values_of t (given_parts ps (given_behind b)).options) (a.settings t); words = a.words }) in
    with_first (is_part c (joined s v)) _ _ (and_from _ _ f.0 i) rest
parts_allowed c (flag s ∷ ps) b f a = with_first (is_part c (flag s)) _ _ f.0 (parts_allowed c ps b f.1 (record { settings = a.settings; words = a.words }))
parts_allowed c (positional w ∷ ps) b f a =
    let p = and_parts (is_given w) (list_all is_given (given_parts ps (given_behind b)).positional) a.words in
    with_first (is_part c (positional w)) _ _ (and_from _ _ p.0 (ap not (no_dash w f.0 p.0))) (parts_allowed c ps b f.1 (record { settings = a.settings; words = p.1 }))

line_allowed : (c : Command) (l : Line) → AllFit c l.parts → are_given (used_line l) ≡ true → is_line c l ≡ true
line_allowed c l f e = parts_allowed c l.parts l.behind f (as_given (given_in (used_line l)) (given_of l) (turned _ _ (line_agrees l)) (given_rows (used_line l) e))

-- ---- what clap makes of the words

-- the words that are a line are taken
pub gives_taken : (c : Command) (ws : List Text) (g : Given) → Gives c ws g → fault_of (app_for c) ws ≡ []
gives_taken c ws g h = ap (fault_of (app_for c)) h.spelled ∙ line_taken c h.line (line_fits c h.line h.allowed)

rows_are : (c : Command) (ws : List Text) (l : Line) → ws ≡ written l → AllFit c l.parts → matches_of (app_for c) ws ≡ used_line l
rows_are c ws l e f = ap (matches_of (app_for c)) e ∙ line_rows c l f

gives_agree : (c : Command) (ws : List Text) (g : Given) → Gives c ws g → Agree g (given_in (matches_of (app_for c) ws))
gives_agree c ws g h =
    subst (λ (g : Given). Agree g (given_in (matches_of (app_for c) ws))) (sym h.is)
    (subst (λ (rows : List Row). Agree (given_of h.line) (given_in rows)) (sym (rows_are c ws h.line h.spelled (line_fits c h.line h.allowed))) (line_agrees h.line))

-- what the words give is the same but for the order of different options
pub one_given : (c : Command) (ws : List Text) (g h : Given) → Gives c ws g → Gives c ws h → Agree g h
one_given c ws g h a b = then_agree g (given_in (matches_of (app_for c) ws)) h (gives_agree c ws g a) (turned h (given_in (matches_of (app_for c) ws)) (gives_agree c ws h b))

pub gives_given : (c : Command) (ws : List Text) (g : Given) → Gives c ws g → are_given (matches_of (app_for c) ws) ≡ true
gives_given c ws g h =
    subst (λ (rows : List Row). are_given rows ≡ true) (sym (rows_are c ws h.line h.spelled (line_fits c h.line h.allowed)))
    (rows_given (used_line h.line) (as_given (given_of h.line) (given_in (used_line h.line)) (line_agrees h.line) (line_given c h.line h.allowed)))

-- words that clap takes are a line, where all is given
pub taken_gives : (c : Command) (ws : List Text) → AllUtf8 ws → fault_of (app_for c) ws ≡ [] → are_given (matches_of (app_for c) ws) ≡ true → Holds c ws (given_in (matches_of (app_for c) ws))
taken_gives c ws u e a =
    let s = taken_spelled c ws u e in
    let r = rows_are c ws s.line s.is s.fits in
    let line : Gives c ws (given_of s.line) = record { line = s.line; spelled = s.is; allowed = line_allowed c s.line s.fits (subst (λ (rows : List Row). are_given rows ≡ true) r a); is = refl } in
    record { given = given_of s.line; line = line; agree = gives_agree c ws (given_of s.line) line }

-- ---- what a parse answers

all_utf8 : (ws : List (String Global)) → AllUtf8 (words_of ws)
all_utf8 [] = tt
all_utf8 (w ∷ ws) = (IsUtf8-string_bytes w, all_utf8 ws)

rows_of_parse : (c : Command) (ws : List Text) (p : App) (m : ArgMatches) → p ≡ app_for c → HasMatchesOf p ws m → rows_of (found_of m) ≡ matches_of (app_for c) ws
rows_of_parse c ws p m q h = (h (ap is_simple q ∙ simple c)).0 ∙ ap (λ (p : App). matches_of p ws) q

pub line_held : (c : Command) (ws : List (String Global)) (p : App) (m : ArgMatches) → p ≡ app_for c → (is_simple_and_free p ≡ true → fault_of p (words_of ws) ≡ []) → HasMatchesOf p (words_of ws) m
    → are_given (rows_of (found_of m)) ≡ true → Holds c (words_of ws) (given_by m)
line_held c ws p m q f h a =
    let rows = rows_of_parse c (words_of ws) p m q h in
    let none = ap (λ (p : App). fault_of p (words_of ws)) (sym q) ∙ f (ap is_simple_and_free q ∙ simple_and_free c) in
    subst (λ (rows : List Row). Holds c (words_of ws) (given_in rows)) (sym rows)
    (taken_gives c (words_of ws) (all_utf8 ws) none (subst (λ (rows : List Row). are_given rows ≡ true) rows a))

pub line_not_given : (c : Command) (ws : List Text) (p : App) (m : ArgMatches) → p ≡ app_for c → HasMatchesOf p ws m → are_given (rows_of (found_of m)) ≡ false → (g : Given) → Gives c ws g → ⊥
line_not_given c ws p m q h a g l =
    let given = gives_given c ws g l in
    let not_given = subst (λ (rows : List Row). are_given rows ≡ false) (rows_of_parse c ws p m q h) a in
    false≢true (sym not_given ∙ given)

pub line_refused : (c : Command) (ws : List Text) (p : App) (e : Error) → p ≡ app_for c → (is_simple_and_free p ≡ true → HasKind (fault_of p ws) e) → (kind_of e ≡ OutOfMemory → ⊥)
    → (g : Given) → Gives c ws g → ⊥
line_refused c ws p e q f n g l =
    let none : fault_of p ws ≡ [] = ap (λ (p : App). fault_of p ws) q ∙ gives_taken c ws g l in
    no_kind e (subst (λ ks. HasKind ks e) none (f (ap is_simple_and_free q ∙ simple_and_free c))) n
  where
    no_kind : (e : Error) → HasKind [] e → (kind_of e ≡ OutOfMemory → ⊥) → ⊥
    no_kind e (inl m) n = n m
    no_kind e (inr a) n = absurd a
