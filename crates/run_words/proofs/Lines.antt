-- clap takes each line, and reads of it what it gives.
use Rattle.std.proofs.Common.{◌≡◌, ◌∙◌, sym, ap, ap₂, subst, refl, Bool, true, false, List, [], ◌∷◌, ◌++◌, Option, Some, None, codes, append_assoc}
use Rattle.clap.specs.Walk.{Row, Held, Walk, nothing_held, walk_from, walked, used, settled_rows}
use Rattle.clap.specs.Simple.{filled, matches_of}
use Rattle.clap.specs.Kinds.{or_else}
use Rattle.clap.specs.Faults.{fault_of}
use Rattle.run_words.specs.declared.command.Command.{Command}
use Rattle.run_words.specs.declared.command.Command.TheVariants.{Validate, Check, SelfRun}
use Rattle.run_words.specs.declared.command.Flag.{Flag}
use Rattle.run_words.specs.declared.command.Flag.TheVariants.{Stutter, Ties, Wide}
use Rattle.run_words.specs.declared.command.Setting.{Setting}
use Rattle.run_words.specs.declared.command.Setting.TheVariants.{Config, Within, Silent, Limit, Witness, Why, Near}
use Rattle.run_words.specs.Line.{Text, Part, apart, joined, flag, positional, Line, flag_name, name_of, has_flag, has_setting, written, written_part, written_parts, written_behind}
use Rattle.run_words.specs.Parsers.{app_for, flag_rule, id_of, rules_for, setting_rule}
use Rattle.run_words.proofs.Faults.{ends_fault, fault_from, fault_is, matches_are, no_more, one_more, turn, walk_on}
use Rattle.run_words.proofs.Walks.{NoFlag, awaited, before, ends, flags, flags_fault, joins, joins_fault, marks_fault, names, names_fault, takes_trailing, takes_value, takes_word, trailing_fault, value_ends, value_turn, waits_value, word_ends, word_rule, word_turn}

-- what clap takes as a part, where a value or a word may be empty or `-`
abbrev pub Fits : Command → Part → Type 0
Fits c (apart s v) = (has_setting c s ≡ true) × NoFlag v
Fits c (joined s v) = has_setting c s ≡ true
Fits c (flag f) = has_flag c f ≡ true
Fits c (positional w) = NoFlag w

abbrev pub AllFit : Command → List Part → Type 0
AllFit c [] = Unit {0}
AllFit c (p ∷ ps) = Fits c p × AllFit c ps

-- the rows behind a part, and behind a line
abbrev pub used_part : Part → List Row → List Row
used_part (apart s v) rows = used (filled (setting_rule s)) (v ∷ []) rows
used_part (joined s v) rows = used (filled (setting_rule s)) (v ∷ []) rows
used_part (flag f) rows = used (filled (flag_rule f)) [] rows
used_part (positional w) rows = used word_rule (w ∷ []) rows

abbrev pub used_parts : List Part → List Row → List Row
used_parts [] rows = rows
used_parts (p ∷ ps) rows = used_parts ps (used_part p rows)

abbrev pub used_words : List Text → List Row → List Row
used_words [] rows = rows
used_words (w ∷ ws) rows = used_words ws (used word_rule (w ∷ []) rows)

abbrev pub used_behind : Option (List Text) → List Row → List Row
used_behind None rows = rows
used_behind (Some ws) rows = used_words ws rows

abbrev pub used_line : Line → List Row
used_line l = used_behind l.behind (used_parts l.parts [])

abbrev pub rows_held : Command → Held → List Row
rows_held c h = settled_rows (rules_for c) h.pending h.rows

value_settled : (c : Command) (s : Setting) (v : Text) (h : Held) → has_setting c s ≡ true
    → rows_held c (awaited c (id_of s) (v ∷ []) h) ≡ used (filled (setting_rule s)) (v ∷ []) (rows_held c h)
value_settled Validate Config v h e = refl
value_settled Validate Within v h e = refl
value_settled Validate Silent v h e = refl
value_settled Validate Limit v h e = refl
value_settled Validate Witness v h e = cc
value_settled Validate Why v h e = refl
value_settled Validate Near v h e = refl
value_settled Check Config v h e = refl
value_settled Check Within v h e = refl
value_settled Check Silent v h e = refl
value_settled Check Witness v h e = refl
value_settled Check Limit v h e = cc
value_settled Check Why v h e = cc
value_settled Check Near v h e = cc
value_settled SelfRun s v h e = cc

word_settled : (c : Command) (w : Text) (h : Held) → rows_held c (awaited c (codes "words") (w ∷ []) h) ≡ used word_rule (w ∷ []) (rows_held c h)
word_settled Validate w h = refl
word_settled Check w h = refl
word_settled SelfRun w h = refl

-- what is held is no fault, and no flag of a bundle is passed over
pub record Good (c : Command) (h : Held) : Type 0 where
  pub none : ends_fault c h ≡ []
  pub skips : h.skip ≡ 0

-- these words are no fault from here on, and lead to these rows
pub record Leads (c : Command) (w : Walk) (ws : List Text) (rows : List Row) : Type 0 where
  pub none : fault_from c w ws ≡ []
  pub rows_are : rows_held c (walk_on c w ws).held ≡ rows

leads_end : (c : Command) (k t : Bool) (h : Held) → Good c h → Leads c (before k t h) [] (rows_held c h)
leads_end c false false h g = record { none = no_more c (before false false h) ∙ g.none; rows_are = refl }
leads_end c false true h g = record { none = no_more c (before false true h) ∙ g.none; rows_are = refl }
leads_end c true false h g = record { none = no_more c (before true false h) ∙ g.none; rows_are = refl }
leads_end c true true h g = record { none = no_more c (before true true h) ∙ g.none; rows_are = refl }

leads_on : (c : Command) (w v : Walk) (word : Text) (ws : List Text) (rows : List Row) → turn c w word ≡ [] → walked (rules_for c) [] w word ≡ v → Leads c v ws rows → Leads c w (word ∷ ws) rows
leads_on c w v word ws rows t e l = record {
  none = one_more c w word ws ∙ ap₂ or_else t (ap (λ v. fault_from c v ws) e ∙ l.none);
  rows_are = ap (λ v. rows_held c (walk_on c v ws).held) e ∙ l.rows_are;
}

-- what follows a part, from each state that may stand behind it
abbrev pub After : Command → List Text → List Row → List Row → Type 0
After c ws before_rows rows = (k : Bool) (h : Held) → Good c h → rows_held c h ≡ before_rows → Leads c (before k false h) ws rows

flag_leads : (c : Command) (s : Flag) (k : Bool) (h : Held) (ws : List Text) (rows : List Row) → has_flag c s ≡ true → Good c h → After c ws (used_part (flag s) (rows_held c h)) rows
    → Leads c (before k false h) (flag_name s ∷ ws) rows
flag_leads c Stutter k h ws rows f g a =
    leads_on c (before k false h) _ (flag_name Stutter) ws rows (flags_fault c k Stutter h f g.none) (flags c k Stutter h f)
    (a false _ (record { none = refl; skips = g.skips }) refl)
flag_leads c Wide k h ws rows f g a =
    leads_on c (before k false h) _ (flag_name Wide) ws rows (flags_fault c k Wide h f g.none) (flags c k Wide h f)
    (a false _ (record { none = refl; skips = g.skips }) refl)
flag_leads c Ties k h ws rows f g a =
    leads_on c (before k false h) _ (flag_name Ties) ws rows (flags_fault c k Ties h f g.none) (flags c k Ties h f)
    (a false _ (record { none = refl; skips = g.skips }) refl)

part_leads : (c : Command) (p : Part) (k : Bool) (h : Held) (ws : List Text) (rows : List Row) → Fits c p → Good c h → After c ws (used_part p (rows_held c h)) rows
    → Leads c (before k false h) (written_part p ++ ws) rows
part_leads c (apart s v) k h ws rows f g a =
    leads_on c (before k false h) (waits_value s (awaited c (id_of s) [] h)) (name_of s) (v ∷ ws) rows (names_fault c k s h f.0 g.none) (names c k s h f.0)
    (leads_on c (waits_value s (awaited c (id_of s) [] h)) (before false false (awaited c (id_of s) (v ∷ []) h)) v ws rows (value_turn c s v (awaited c (id_of s) [] h) f.1) (takes_value c s v h f.0 f.1)
    (a false (awaited c (id_of s) (v ∷ []) h) (record { none = value_ends c s v h f.0; skips = g.skips }) (value_settled c s v h f.0)))
part_leads c (joined s v) k h ws rows f g a =
    leads_on c (before k false h) _ (name_of s ++ 61 ∷ v) ws rows (joins_fault c k s v h f g.none) (joins c k s v h f)
    (a false _ (record { none = refl; skips = g.skips }) refl)
part_leads c (flag s) k h ws rows f g a = flag_leads c s k h ws rows f g a
part_leads c (positional w) k h ws rows f g a =
    leads_on c (before k false h) (before true false (awaited c (codes "words") (w ∷ []) h)) w ws rows (word_turn c k w h f g.none) (takes_word c k w h f)
    (a true (awaited c (codes "words") (w ∷ []) h) (record { none = word_ends c w h; skips = g.skips }) (word_settled c w h))

words_lead : (c : Command) (ws : List Text) (k : Bool) (h : Held) → Good c h → Leads c (before k true h) ws (used_words ws (rows_held c h))
words_lead c [] k h g = leads_end c k true h g
words_lead c (w ∷ ws) k h g =
    subst (λ rows. Leads c (before k true h) (w ∷ ws) (used_words ws rows)) (word_settled c w h)
    (leads_on c (before k true h) (before true true (awaited c (codes "words") (w ∷ []) h)) w ws _ (trailing_fault c k w h ∙ g.none) (takes_trailing c k w h)
    (words_lead c ws true (awaited c (codes "words") (w ∷ []) h) (record { none = word_ends c w h; skips = g.skips })))

behind_leads : (c : Command) (b : Option (List Text)) (k : Bool) (h : Held) → Good c h → Leads c (before k false h) (written_behind b) (used_behind b (rows_held c h))
behind_leads c None k h g = leads_end c k false h g
behind_leads c (Some ws) k h g = leads_on c (before k false h) (before k true h) (codes "--") ws _ (marks_fault c k h) (ends c k h) (words_lead c ws k h g)

parts_lead : (c : Command) (ps : List Part) (b : Option (List Text)) (k : Bool) (h : Held) (start : List Row) → AllFit c ps → Good c h → rows_held c h ≡ start
    → Leads c (before k false h) (written_parts ps ++ written_behind b) (used_behind b (used_parts ps start))
parts_lead c [] b k h start f g e = subst (λ rows. Leads c (before k false h) (written_behind b) (used_behind b rows)) e (behind_leads c b k h g)
parts_lead c (p ∷ ps) b k h start f g e =
    subst (λ ws. Leads c (before k false h) ws (used_behind b (used_parts ps (used_part p start)))) (sym (append_assoc (written_part p) (written_parts ps) (written_behind b)))
    (part_leads c p k h (written_parts ps ++ written_behind b) _ f.0 g (λ l i good at. parts_lead c ps b l i (used_part p start) f.1 good (at ∙ ap (used_part p) e)))

line_leads : (c : Command) (l : Line) → AllFit c l.parts → Leads c (walk_from nothing_held) (written l) (used_line l)
line_leads c l f = parts_lead c l.parts l.behind false nothing_held [] f (record { none = refl; skips = refl }) refl

-- a line is no fault
pub line_taken : (c : Command) (l : Line) → AllFit c l.parts → fault_of (app_for c) (written l) ≡ []
line_taken c l f = fault_is c (written l) ∙ (line_leads c l f).none

-- what the matches of a line are
pub line_rows : (c : Command) (l : Line) → AllFit c l.parts → matches_of (app_for c) (written l) ≡ used_line l
line_rows c l f = matches_are c (written l) ∙ (line_leads c l f).rows_are
