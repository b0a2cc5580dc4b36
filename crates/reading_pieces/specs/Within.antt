-- Where a piece begins behind another, by what that one has open.
--
-- 1. No piece begins inside the ASSUME .. PROVE of what a theorem states, nor in the steps of its proof.
-- 2. One begins at CONSTANT, VARIABLE, ASSUME, THEOREM and their synonyms, at LOCAL, USE and HIDE, and at dashes. An ASSUME directly behind
--    a theorem's word, or behind its name and `==`, belongs to the theorem.
-- 3. Outside LET .. IN one begins at RECURSIVE; at INSTANCE, but directly behind `==` or LOCAL; and at a definition, but directly behind
--    LOCAL, and behind the word of an assumption or a theorem, where it is its name. Nor does a definition begin directly behind a symbol with which
--    no unit ends: in `a ++ b == e`, `-. b == e` and `a (+) b == e` the name b is an argument of what is defined.
-- 4. A proof by steps begins where a theorem's proof may: its first step has a level, `<1>`, and the proof of the QED of that level is
--    the end of it, which is by steps again or has none. A proof that begins with BY, OBVIOUS or OMITTED has no steps: `<1>` there is a
--    reference. Behind a step whose level is not told, `<*>` or `<+>`, no piece begins any more.
use Rattle.std.specs.Prelude.{ℕ, ◌+◌, ◌-◌, Bool, true, false, ◌||◌, ◌==◌, nat_lt, if◌then◌else◌, not, List, [], ◌∷◌, Option, Some, None}
use Rattle.reading_tokens.specs.declared.token.Token.{Token}
use Rattle.reading_pieces.specs.declared.mark.Mark.{Mark}
use Rattle.reading_pieces.specs.declared.mark.Mark.TheVariants.{Declare, Assume, Theorem, Dashes, Local, Use, Recursive, Instance, Let, In, Prove, Leaf, Qed, Name, Number, Defined, Less, Greater, Close, Joins}
use Rattle.reading_pieces.specs.declared.within.Proof.{Proof}
use Rattle.reading_pieces.specs.declared.within.Proof.TheVariants.{NoSteps, Awaited, Steps, Endless}
use Rattle.reading_pieces.specs.declared.within.Within.{Within}
use Rattle.reading_pieces.specs.Heads.{begins_definition}
use Rattle.reading_pieces.specs.Marks.{mark_of}

-- ---- where a piece begins

abbrev pub in_steps : Proof → Bool
in_steps NoSteps = false
in_steps Awaited = false
in_steps (Steps until last) = true
in_steps Endless = true

-- the steps of a proof, or what a theorem assumes
abbrev pub is_closed : Within → Bool
is_closed w = nat_lt 0 w.assumed || in_steps w.proof

-- behind the word of a theorem, or behind `==`
abbrev pub states : Mark → Bool
states Theorem = true
states Defined = true
states _ = false

-- an assumption of a theorem's
abbrev pub is_stated : Proof → Mark → Bool
is_stated Awaited last = states last
is_stated _ last = false

-- an instance has no piece of its own here
abbrev pub takes_instance : Mark → Bool
takes_instance Defined = true
takes_instance Local = true
takes_instance _ = false

-- nor has a definition here
abbrev pub takes_name : Mark → Bool
takes_name Local = true
takes_name Assume = true
takes_name Theorem = true
takes_name Less = true
takes_name Greater = true
takes_name Joins = true
takes_name _ = false

-- a piece begins with a token of this mark, where a definition begins there or not
abbrev pub begins_with : Within → Mark → Bool → Bool
begins_with w Declare defines = true
begins_with w Theorem defines = true
begins_with w Dashes defines = true
begins_with w Local defines = true
begins_with w Use defines = true
begins_with w Assume defines = not (is_stated w.proof w.last)
begins_with w Recursive defines = w.lets == 0
begins_with w Instance defines = if takes_instance w.last then false else w.lets == 0
begins_with w Name defines = if takes_name w.last then false else (if w.lets == 0 then defines else false)
begins_with w _ defines = false

-- a piece begins at these tokens, behind what another has so far
unfoldable pub begins_behind : Within → List Token → Bool
begins_behind w [] = false
begins_behind w (t ∷ ts) = if is_closed w then false else begins_with w (mark_of t) (begins_definition (t ∷ ts))

-- ---- what is open behind a token

abbrev pub number_in : Mark → Option ℕ
number_in (Number n) = Some n
number_in _ = None

abbrev pub level_by : Mark → Mark → Mark → Option ℕ
level_by Less n Greater = number_in n
level_by _ n _ = None

-- the level of the step that begins the tokens: `<`, a number and `>`
unfoldable pub level_at : List Token → Option ℕ
level_at (a ∷ b ∷ c ∷ ts) = level_by (mark_of a) (mark_of b) (mark_of c)
level_at _ = None

-- the step that begins the tokens has no number: `<*>` or `<+>`
abbrev pub implied_by : Mark → Mark → Mark → Bool
implied_by Less Joins Greater = true
implied_by _ n _ = false

unfoldable pub is_implied : List Token → Bool
is_implied (a ∷ b ∷ c ∷ ts) = implied_by (mark_of a) (mark_of b) (mark_of c)
is_implied _ = false

abbrev pub lets_behind : ℕ → Mark → ℕ
lets_behind n Let = n + 1
lets_behind n In = n - 1
lets_behind n _ = n

abbrev pub assumed_behind : Proof → ℕ → Mark → ℕ
assumed_behind Awaited n Assume = n + 1
assumed_behind Awaited n Prove = n - 1
assumed_behind _ n _ = n

abbrev pub first_step : Option ℕ → Proof
first_step None = Awaited
first_step (Some level) = Steps level level

abbrev pub next_step : Option ℕ → ℕ → ℕ → Proof
next_step None until last = Steps until last
next_step (Some level) until last = Steps until level

abbrev pub proof_behind : Proof → Mark → Option ℕ → Proof
proof_behind NoSteps m level = NoSteps
proof_behind Endless m level = Endless
proof_behind Awaited Leaf level = NoSteps
proof_behind Awaited _ level = first_step level
proof_behind (Steps until last) Qed level = if until == last then Awaited else Steps until last
proof_behind (Steps until last) _ level = next_step level until last

-- such a step may stand where a proof has steps, or may have
abbrev pub implied_behind : Proof → Bool → Proof → Proof
implied_behind NoSteps implied p = p
implied_behind Endless implied p = p
implied_behind Awaited implied p = if implied then Endless else p
implied_behind (Steps until last) implied p = if implied then Endless else p

-- inside what a theorem assumes there is no step
abbrev pub open_proof_behind : Within → Mark → Option ℕ → Bool → Proof
open_proof_behind w m level implied = if nat_lt 0 w.assumed then w.proof else implied_behind w.proof implied (proof_behind w.proof m level)

-- brackets around such a symbol, as in `(+)`, are an operator too
abbrev pub last_behind : Mark → Mark → Mark
last_behind Joins Close = Joins
last_behind _ m = m

-- behind the first of these tokens
unfoldable pub behind : Within → List Token → Within
behind w [] = w
behind w (t ∷ ts) = record {
  lets = lets_behind w.lets (mark_of t);
  assumed = assumed_behind w.proof w.assumed (mark_of t);
  proof = open_proof_behind w (mark_of t) (level_at (t ∷ ts)) (is_implied (t ∷ ts));
  last = last_behind w.last (mark_of t);
}

abbrev pub proof_of : Mark → Proof
proof_of Theorem = Awaited
proof_of _ = NoSteps

-- behind the token that begins a piece
abbrev pub begun_with : Mark → Within
begun_with m = record { lets = 0; assumed = 0; proof = proof_of m; last = m }
