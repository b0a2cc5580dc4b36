-- The faults that clap finds in words, one word at a time.
use Rattle.std.proofs.Common.{◌≡◌, ◌∙◌, ap, ap₂, refl, ◌||◌, Bool, true, false, List, [], ◌∷◌}
use Rattle.std.proofs.lemmas.Bool.{and_parts}
use Rattle.std.specs.Prelude.{fold, if◌then◌else◌}
use Rattle.std.specs.List.{list_all}
use Rattle.clap.specs.Walk.{Held, Row, Rule, Walk, default_rows, finished, has_row, is_empty, nothing_held, reading_by, settled, settled_rows, walk_from, walked, with_default}
use Rattle.clap.specs.Simple.{built, matches_of}
use Rattle.clap.specs.Kinds.{Kinds, or_else}
use Rattle.clap.specs.Faults.{check_fault, default_fault, defaults_fault, given_default_fault, fault_of, level_fault, settle_fault, turn_fault, walk_fault}
use Rattle.clap.proofs.FaultLemmas.{leaf_fault}
use Rattle.clap.proofs.SimpleLemmas.{is_nil}
use Rattle.run_words.specs.declared.command.Command.{Command}
use Rattle.run_words.specs.declared.command.Command.TheVariants.{Validate, Check, SelfRun}
use Rattle.run_words.specs.Line.{Text}
use Rattle.run_words.specs.Parsers.{app_for, rules_for, shape_for}

abbrev pub walk_on : Command → Walk → List Text → Walk
walk_on c w words = fold (walked (rules_for c) []) w words

abbrev pub turn : Command → Walk → Text → Kinds
turn c w word = turn_fault (shape_for c) [] w word

abbrev pub ends_fault : Command → Held → Kinds
ends_fault c h = settle_fault (rules_for c) false h

-- the fault of these words and of their end, from some point of the walk on
abbrev pub fault_from : Command → Walk → List Text → Kinds
fault_from c w ws = or_else (walk_fault (shape_for c) [] w ws) (ends_fault c (walk_on c w ws).held)

or_else_assoc : (a b c : Kinds) → or_else (or_else a b) c ≡ or_else a (or_else b c)
or_else_assoc [] b c = refl
or_else_assoc (k ∷ ks) b c = refl

or_else_nil : (a : Kinds) → or_else a [] ≡ a
or_else_nil [] = refl
or_else_nil (k ∷ ks) = refl

pub or_left : (a b : Kinds) → or_else a b ≡ [] → a ≡ []
or_left [] b e = refl
or_left (k ∷ ks) b e = cc

pub or_right : (a b : Kinds) → or_else a b ≡ [] → b ≡ []
or_right [] b e = e
or_right (k ∷ ks) b e = cc

pub one_more : (c : Command) (w : Walk) (word : Text) (ws : List Text) → fault_from c w (word ∷ ws) ≡ or_else (turn c w word) (fault_from c (walked (rules_for c) [] w word) ws)
unfolding walk_fault
one_more c w word ws = or_else_assoc (turn c w word) _ _

pub no_more : (c : Command) (w : Walk) → fault_from c w [] ≡ ends_fault c w.held
unfolding walk_fault
no_more c w = refl

-- ---- no argument has a value by default

plain_rows : (b : Bool) (rows : List Row) → (if b then rows else rows) ≡ rows
plain_rows true rows = refl
plain_rows false rows = refl

no_default : (a : Rule) (rows : List Row) → a.defaults ≡ [] → with_default rows a ≡ rows
no_default a rows e = ap (λ vs. if has_row a.id rows then rows else default_rows a.id (reading_by a) vs rows) e ∙ plain_rows (has_row a.id rows) rows

abbrev has_no_defaults : List Rule → Bool
has_no_defaults rs = list_all (λ a. is_empty a.defaults) rs

no_defaults : (rs : List Rule) (rows : List Row) → has_no_defaults rs ≡ true → fold with_default rows rs ≡ rows
no_defaults [] rows e = refl
no_defaults (a ∷ rs) rows e =
    let p = and_parts (is_empty a.defaults) (has_no_defaults rs) e in
    ap (λ (rows : List Row). fold with_default rows rs) (no_default a rows (is_nil a.defaults p.0)) ∙ no_defaults rs rows p.1

or_true : (b : Bool) (x : Kinds) → (if b || true then [] else x) ≡ []
or_true true x = refl
or_true false x = refl

no_default_fault : (a : Rule) (rows : List Row) → is_empty a.defaults ≡ true → default_fault rows a ≡ []
no_default_fault a rows e = ap (λ b. if has_row a.id rows || b then [] else given_default_fault a a.defaults) e ∙ or_true (has_row a.id rows) (given_default_fault a a.defaults)

no_defaults_fault : (rs : List Rule) (rows : List Row) → has_no_defaults rs ≡ true → defaults_fault rows rs ≡ []
unfolding defaults_fault
no_defaults_fault [] rows e = refl
no_defaults_fault (a ∷ rs) rows e =
    let p = and_parts (is_empty a.defaults) (has_no_defaults rs) e in
    ap₂ or_else (no_default_fault a rows p.0) (no_defaults_fault rs (with_default rows a) p.1)

defaults_none : (c : Command) → has_no_defaults (rules_for c) ≡ true
defaults_none Validate = refl
defaults_none Check = refl
defaults_none SelfRun = refl

checks_none : (c : Command) (rows : List Row) → check_fault (shape_for c) rows false ≡ []
checks_none Validate rows = refl
checks_none Check rows = refl
checks_none SelfRun rows = refl

abbrev level : Command → List Text → Kinds
level c ws = level_fault (shape_for c) [] nothing_held ws false []

leaf : (c : Command) (ws : List Text) → fault_of (app_for c) ws ≡ level c ws
leaf Validate ws = leaf_fault (built (app_for Validate)) nothing_held ws refl
leaf Check ws = leaf_fault (built (app_for Check)) nothing_held ws refl
leaf SelfRun ws = leaf_fault (built (app_for SelfRun)) nothing_held ws refl

pub overrides_none : (c : Command) → (shape_for c).args_override_self ≡ false
overrides_none Validate = refl
overrides_none Check = refl
overrides_none SelfRun = refl

level_is : (c : Command) (ws : List Text) → level c ws ≡ fault_from c (walk_from nothing_held) ws
level_is c ws =
    let end = (walk_on c (walk_from nothing_held) ws).held in
    ap (or_else (walk_fault (shape_for c) [] (walk_from nothing_held) ws))
    (ap₂ or_else (ap (λ b. settle_fault (rules_for c) b end) (overrides_none c))
    (ap₂ or_else (no_defaults_fault (rules_for c) (settled (rules_for c) end).rows (defaults_none c)) (checks_none c (finished (rules_for c) end)))
    ∙ or_else_nil (ends_fault c end))

-- what clap refuses of the words of a command
pub fault_is : (c : Command) (ws : List Text) → fault_of (app_for c) ws ≡ fault_from c (walk_from nothing_held) ws
fault_is c ws = leaf c ws ∙ level_is c ws

-- the matches are what the walk holds at its end
pub matches_are : (c : Command) (ws : List Text) → matches_of (app_for c) ws ≡ settled_rows (rules_for c) (walk_on c (walk_from nothing_held) ws).held.pending (walk_on c (walk_from nothing_held) ws).held.rows
matches_are Validate ws = no_defaults (rules_for Validate) _ (defaults_none Validate)
matches_are Check ws = no_defaults (rules_for Check) _ (defaults_none Check)
matches_are SelfRun ws = no_defaults (rules_for SelfRun) _ (defaults_none SelfRun)
