-- The states that the reader goes through.
use Rattle.std.proofs.Common.{◌≡◌, suc, ◌+◌, ◌≤◌, List, [], ◌∷◌, ◌++◌, length, refl, sym, ap, subst, ◌∙◌, arith}
use Rattle.std.proofs.lemmas.List.{append-nil, length-append}
use Rattle.base_core.specs.declared.place.Place.{Place}
use Rattle.reading_trees.specs.declared.laid.Laid.{Laid}
use Rattle.reading_trees.specs.Trees.{Tree}
use Rattle.reading_machine.specs.declared.frame.Frame.{Frame}
use Rattle.reading_machine.specs.declared.frame.Mode.{Mode}
use Rattle.reading_machine.specs.Machine.{Stepped, Reads, Stops, Clashes, Ends, EndsDefinition, step, Outcome, StopsAt, ClashesAt, EndsAt, EndsDefinitionAt, after, run}

-- the tokens lead from one state to another
abbrev pub Path : List Laid → List Frame → Mode → List Frame → Mode → Type 0
Path [] fs m gs n = (fs ≡ gs) × (m ≡ n)
Path (y ∷ ys) fs m gs n = (hs : List Frame) × (o : Mode) × (step y fs m ≡ Reads hs o) × Path ys hs o gs n

-- what is not read
abbrev pub rest_of : Outcome → List Laid
rest_of (StopsAt r) = r
rest_of (ClashesAt p q r) = r
rest_of (EndsAt e r) = r
rest_of (EndsDefinitionAt n p ns form e r) = r

after_shorter : (s : Stepped) (here r : List Laid) → length here ≡ suc (length r) → ((fs : List Frame) (m : Mode) → length (rest_of (run r fs m)) ≤ length r) → length (rest_of (after s here (run r))) ≤ length here
after_shorter (Reads fs m) here r h f = let k = f fs m in omega (arith, h, k)
after_shorter Stops here r h f = omega arith
after_shorter (Clashes p q) here r h f = omega arith
after_shorter (Ends e) here r h f = omega arith
after_shorter (EndsDefinition n p ns form e) here r h f = omega arith

shorter : (xs : List Laid) (fs : List Frame) (m : Mode) → length (rest_of (run xs fs m)) ≤ length xs
shorter [] fs m = omega arith
shorter (x ∷ xs) fs m = after_shorter (step x fs m) (x ∷ xs) xs refl (λ gs n. shorter xs gs n)

abbrev pub IsLast : Stepped → Type 0
IsLast (Reads fs m) = ⊥
IsLast _ = Unit {0}

-- the state before a token at which the reader is done
pub record Reach (read : List Laid) (fs : List Frame) (m : Mode) (x : Laid) (rest : List Laid) (o : Outcome) : Type 0 where
  pub frames : List Frame
  pub expects : Mode
  pub path : Path read fs m frames expects
  pub done : IsLast (step x frames expects)
  pub gives : after (step x frames expects) (x ∷ rest) (run rest) ≡ o

too_long : (read rest : List Laid) (x y : Laid) → y ∷ read ++ x ∷ rest ≡ x ∷ rest → ⊥
too_long read rest x y q =
    let a : length (read ++ x ∷ rest) ≡ length read + length (x ∷ rest) = length-append read (x ∷ rest) in
    let b : suc (length (read ++ x ∷ rest)) ≡ length (x ∷ rest) = ap length q in
    omega (arith, a, b)

last_reach : (x : Laid) (rest : List Laid) (fs : List Frame) (m : Mode) (o : Outcome) → (s : Stepped) → step x fs m ≡ s → after s (x ∷ rest) (run rest) ≡ o → rest_of o ≡ x ∷ rest → Reach [] fs m x rest o
last_reach x rest fs m o (Reads gs n) q g l =
    let a : length (rest_of (run rest gs n)) ≤ length rest = shorter rest gs n in
    let b : length (rest_of (run rest gs n)) ≡ length (x ∷ rest) = ap (λ v. length (rest_of v)) g ∙ ap length l in
    let c : length (x ∷ rest) ≡ suc (length rest) = refl in
    absurd (omega (arith, a, b, c))
last_reach x rest fs m o Stops q g l = record { frames = fs; expects = m; path = (refl, refl); done = subst IsLast (sym q) tt; gives = ap (λ v. after v (x ∷ rest) (run rest)) q ∙ g }
last_reach x rest fs m o (Clashes a b) q g l = record { frames = fs; expects = m; path = (refl, refl); done = subst IsLast (sym q) tt; gives = ap (λ v. after v (x ∷ rest) (run rest)) q ∙ g }
last_reach x rest fs m o (Ends e) q g l = record { frames = fs; expects = m; path = (refl, refl); done = subst IsLast (sym q) tt; gives = ap (λ v. after v (x ∷ rest) (run rest)) q ∙ g }
last_reach x rest fs m o (EndsDefinition n p ns form e) q g l = record { frames = fs; expects = m; path = (refl, refl); done = subst IsLast (sym q) tt; gives = ap (λ v. after v (x ∷ rest) (run rest)) q ∙ g }

next_reach : (y : Laid) (read : List Laid) (x : Laid) (rest : List Laid) (fs : List Frame) (m : Mode) (o : Outcome) → ((gs : List Frame) (n : Mode) → run (read ++ x ∷ rest) gs n ≡ o → Reach read gs n x rest o) → (s : Stepped) → step y fs m ≡ s
    → after s (y ∷ read ++ x ∷ rest) (run (read ++ x ∷ rest)) ≡ o → rest_of o ≡ x ∷ rest → Reach (y ∷ read) fs m x rest o
next_reach y read x rest fs m o f (Reads gs n) q g l =
    let r = f gs n g in record { frames = r.frames; expects = r.expects; path = (gs, n, q, r.path); done = r.done; gives = r.gives }
next_reach y read x rest fs m o f Stops q g l = absurd (too_long read rest x y (ap rest_of g ∙ l))
next_reach y read x rest fs m o f (Clashes a b) q g l = absurd (too_long read rest x y (ap rest_of g ∙ l))
next_reach y read x rest fs m o f (Ends e) q g l = absurd (too_long read rest x y (ap rest_of g ∙ l))
next_reach y read x rest fs m o f (EndsDefinition n p ns form e) q g l = absurd (too_long read rest x y (ap rest_of g ∙ l))

pub reach : (read : List Laid) (x : Laid) (rest : List Laid) (fs : List Frame) (m : Mode) (o : Outcome) → run (read ++ x ∷ rest) fs m ≡ o → rest_of o ≡ x ∷ rest → Reach read fs m x rest o
reach [] x rest fs m o q l = last_reach x rest fs m o (step x fs m) refl q l
reach (y ∷ read) x rest fs m o q l = next_reach y read x rest fs m o (λ gs n k. reach read x rest gs n o k l) (step y fs m) refl q l

-- ---- what was done there

stops_of : (s : Stepped) (here r : List Laid) (next : List Frame → Mode → Outcome) → IsLast s → after s here next ≡ StopsAt r → s ≡ Stops
stops_of (Reads fs m) here r next l q = absurd l
stops_of Stops here r next l q = refl
stops_of (Clashes a b) here r next l q = cc
stops_of (Ends e) here r next l q = cc
stops_of (EndsDefinition n p ns form e) here r next l q = cc

clashes_of : (s : Stepped) (here r : List Laid) (next : List Frame → Mode → Outcome) (p q : Place) → IsLast s → after s here next ≡ ClashesAt p q r → s ≡ Clashes p q
clashes_of (Reads fs m) here r next p q l i = absurd l
clashes_of Stops here r next p q l i = cc
clashes_of (Clashes a b) here r next p q l i = cc
clashes_of (Ends e) here r next p q l i = cc
clashes_of (EndsDefinition n c ns form e) here r next p q l i = cc

ends_of : (s : Stepped) (here r : List Laid) (next : List Frame → Mode → Outcome) (d : Tree) → IsLast s → after s here next ≡ EndsAt d r → s ≡ Ends d
ends_of (Reads fs m) here r next d l q = absurd l
ends_of Stops here r next d l q = cc
ends_of (Clashes a b) here r next d l q = cc
ends_of (Ends e) here r next d l q = cc
ends_of (EndsDefinition n p ns form e) here r next d l q = cc

pub reach_stops : (read : List Laid) (fs : List Frame) (m : Mode) (x : Laid) (rest r : List Laid) → (h : Reach read fs m x rest (StopsAt r)) → step x h.frames h.expects ≡ Stops
reach_stops read fs m x rest r h = stops_of (step x h.frames h.expects) (x ∷ rest) r (run rest) h.done h.gives

pub reach_clashes : (read : List Laid) (fs : List Frame) (m : Mode) (x : Laid) (rest r : List Laid) (p q : Place) → (h : Reach read fs m x rest (ClashesAt p q r)) → step x h.frames h.expects ≡ Clashes p q
reach_clashes read fs m x rest r p q h = clashes_of (step x h.frames h.expects) (x ∷ rest) r (run rest) p q h.done h.gives

pub reach_ends : (read : List Laid) (fs : List Frame) (m : Mode) (x : Laid) (rest r : List Laid) (d : Tree) → (h : Reach read fs m x rest (EndsAt d r)) → step x h.frames h.expects ≡ Ends d
reach_ends read fs m x rest r d h = ends_of (step x h.frames h.expects) (x ∷ rest) r (run rest) d h.done h.gives

-- ---- all that is read

-- what is read along a path
pub along : (read r : List Laid) (fs : List Frame) (m : Mode) (gs : List Frame) (n : Mode) → Path read fs m gs n → run (read ++ r) fs m ≡ run r gs n
along [] r fs m gs n p = ap (λ v. run r v m) p.0 ∙ ap (λ v. run r gs v) p.1
along (y ∷ read) r fs m gs n p = ap (λ v. after v (y ∷ read ++ r) (run (read ++ r))) p.2 ∙ along read r p.0 p.1 gs n p.3

-- the state behind tokens that are all read
pub record All (read : List Laid) (fs : List Frame) (m : Mode) : Type 0 where
  pub frames : List Frame
  pub expects : Mode
  pub path : Path read fs m frames expects

no_stop : (x : Laid) (xs : List Laid) → StopsAt (x ∷ xs) ≡ StopsAt [] → ⊥
no_stop x xs h = cc

all_after : (s : Stepped) (x : Laid) (xs : List Laid) (fs : List Frame) (m : Mode) → step x fs m ≡ s → after s (x ∷ xs) (run xs) ≡ StopsAt [] → ((gs : List Frame) (n : Mode) → run xs gs n ≡ StopsAt [] → All xs gs n) → All (x ∷ xs) fs m
all_after (Reads gs n) x xs fs m e q f = let a : All xs gs n = f gs n q in record { frames = a.frames; expects = a.expects; path = (gs, n, e, a.path) }
all_after Stops x xs fs m e q f = absurd (no_stop x xs q)
all_after (Clashes a b) x xs fs m e q f = cc
all_after (Ends t) x xs fs m e q f = cc
all_after (EndsDefinition n p ns form t) x xs fs m e q f = cc

pub all_read : (xs : List Laid) (fs : List Frame) (m : Mode) → run xs fs m ≡ StopsAt [] → All xs fs m
all_read [] fs m q = record { frames = fs; expects = m; path = (refl, refl) }
all_read (x ∷ xs) fs m q = all_after (step x fs m) x xs fs m refl q (λ gs n h. all_read xs gs n h)

-- what stands before the token at which a run is done is read
pub read_before : (read rest : List Laid) (x : Laid) (fs : List Frame) (m : Mode) (o : Outcome) → run (read ++ x ∷ rest) fs m ≡ o → rest_of o ≡ x ∷ rest → run read fs m ≡ StopsAt []
read_before read rest x fs m o q l =
    let h : Reach read fs m x rest o = reach read x rest fs m o q l in
    ap (λ v. run v fs m) (sym (append-nil read)) ∙ along read [] fs m h.frames h.expects h.path
