-- One token of a run, by the names that do not unfold.
use Rattle.std.proofs.Common.{◌≡◌, ◌⊎◌, ℕ, Bool, true, false, nat_lt, ◌+◌, ◌<◌, ◌≤◌, List, [], ◌∷◌, ◌++◌, Option, Some, None, length, take, drop, get_or, suc, refl, sym, ap, subst, ◌∙◌, inl, inr, drop_of_length-le, arith}
use Rattle.std.proofs.Math.Seq.{drop-cons}
use Rattle.std.proofs.lemmas.Bool.{ltb-false, ltb-true}
use Rattle.std.proofs.lemmas.List.{append_assoc, take-append-drop}
use Rattle.base_core.specs.declared.place.Place.{Place}
use Rattle.reading_tokens.specs.declared.token.Kind.{Kind}
use Rattle.reading_tokens.specs.declared.token.Kind.TheVariants as kinds
use Rattle.reading_tokens.specs.declared.token.Token.{Token}
use Rattle.reading_trees.specs.Laid.{next_of}
use Rattle.reading_trees.specs.declared.expr.Definition.{Definition}
use Rattle.reading_trees.specs.declared.laid.Laid.{Laid}
use Rattle.reading_trees.specs.Trees.{Tree}
use Rattle.reading_open_rows.specs.Does.{Does}
use Rattle.reading_expressions.specs.Ended.{IsRead}
use Rattle.reading_open_rows.specs.Unfinished.{unfinished}
use Rattle.reading_expressions.specs.Nesting.{deepest}
use Rattle.reading_expressions.specs.Refused.{ShallowIn, IsRefusedAt, Refuses, ShallowUpTo, place_of, refusal_of, refusal_before, refusal_of_kind}
use Rattle.reading_machine.proofs.Paths.{Path}
use Rattle.reading_expressions.proofs.ShallowRuns.{shallow_on, shallow_there}
use Rattle.reading_machine.specs.Machine.{Stepped, Reads, Stops, Clashes, Ends, EndsDefinition, StopsAt, after, run, step}
use Rattle.reading_expressions.specs.declared.fault.ParseFault.{ParseFault}
use Rattle.reading_expressions.specs.declared.fault.ParseFault.TheVariants as faults
use Rattle.reading_token_steps.specs.Kept.{kept_step, kept_run}
use Rattle.reading_machine.specs.declared.frame.Frame.{Frame}
use Rattle.reading_machine.specs.declared.frame.Mode.{Mode}
use Rattle.reading_expressions.specs.declared.reader.Ended.TheVariants as ended
use Rattle.reading_open_rows.specs.declared.stepped.Stepped as code
use Rattle.reading_open_rows.specs.declared.stepped.Stepped.TheVariants as codes

next_index : (i : ℕ) → suc i ≡ i + 1
next_index i = omega arith

here : (laid : List Laid) (i : ℕ) (x : Laid) → i < length laid → x ≡ get_or laid i x → drop i laid ≡ x ∷ drop (i + 1) laid
here laid i x h g = drop-cons laid i x h ∙ (ap (λ z. z ∷ drop (suc i) laid) (sym g) ∙ ap (λ j. x ∷ drop j laid) (next_index i))

one_step : (xs r : List Laid) (x : Laid) (fs : List Frame) (m : Mode) (s : Stepped) → xs ≡ x ∷ r → step x fs m ≡ s → run xs fs m ≡ after s xs (run r)
one_step xs r x fs m s p q = subst (λ ys. run ys fs m ≡ after s ys (run r)) (sym p) (ap (λ t. after t (x ∷ r) (run r)) q)

-- the run from an index on, by what the token there does
kept_after : (laid : List Laid) (i : ℕ) (x : Laid) (fs : List Frame) (m : Mode) (s : Stepped) → i < length laid → x ≡ get_or laid i x → kept_step x fs m ≡ s → kept_run laid i fs m ≡ after s (drop i laid) (kept_run laid (i + 1))
unfolding kept_step kept_run
kept_after laid i x fs m s h g q = one_step (drop i laid) (drop (i + 1) laid) x fs m s (here laid i x h g) q

-- ---- the tokens that were read

-- the tokens from one index up to another lead from the start to this state, and each stands inside few enough unfinished constructs
pub record ReadUpTo (laid : List Laid) (from i : ℕ) (start : Mode) (fs : List Frame) (m : Mode) : Type 0 where
  pub read : List Laid
  pub whole : drop from laid ≡ read ++ drop i laid
  pub path : Path read [] start fs m
  pub shallow : ShallowIn [] start read

pub nothing_read : (laid : List Laid) (from : ℕ) (start : Mode) (fs : List Frame) → fs ≡ [] → ReadUpTo laid from from start fs start
nothing_read laid from start fs e = record { read = []; whole = refl; path = (sym e, refl); shallow = tt }

path_on : (read : List Laid) (x : Laid) (fs gs hs : List Frame) (m n o : Mode) → Path read fs m gs n → step x gs n ≡ Reads hs o → Path (read ++ x ∷ []) fs m hs o
path_on [] x fs gs hs m n o p q = (hs, o, ap (λ v. step x v m) p.0 ∙ (ap (λ v. step x gs v) p.1 ∙ q), (refl, refl))
path_on (y ∷ ys) x fs gs hs m n o p q = (p.0, p.1, p.2, path_on ys x p.0 gs hs p.1 n o p.3 q)

reads_all : (read : List Laid) (fs gs : List Frame) (m n : Mode) → Path read fs m gs n → run read fs m ≡ StopsAt []
reads_all [] fs gs m n p = refl
reads_all (y ∷ ys) fs gs m n p = ap (λ s. after s (y ∷ ys) (run ys)) p.2 ∙ reads_all ys p.0 gs p.1 n p.3

one_more : (read rest : List Laid) (x : Laid) → read ++ x ∷ rest ≡ (read ++ x ∷ []) ++ rest
one_more read rest x = sym (append_assoc read (x ∷ []) rest)

up_to : (laid : List Laid) (from i : ℕ) (start : Mode) (fs : List Frame) (m : Mode) → ReadUpTo laid from i start fs m → ShallowUpTo laid from start (drop i laid)
up_to laid from i start fs m k = record { read = k.read; whole = k.whole; shallow = k.shallow }

reads_there : (x : Laid) (fs gs : List Frame) (m n : Mode) (r : code.Stepped) → Does r gs (kept_step x fs m) → r ≡ codes.Reads n → step x fs m ≡ Reads gs n
unfolding kept_step
reads_there x fs gs m n r d e = subst (λ s. Does s gs (step x fs m)) e d

-- what the test of the count says
pub few_enough : (k : ℕ) (b : Bool) → b ≡ nat_lt deepest k → b ≡ false → k ≤ deepest
few_enough k b e f = ltb-false deepest k (sym e ∙ f)

pub too_many : (k : ℕ) (b : Bool) → b ≡ nat_lt deepest k → b ≡ true → deepest < k
too_many k b e t = ltb-true deepest k (sym e ∙ t)

-- one more token is read, inside few enough
pub read_more : (laid : List Laid) (from i : ℕ) (start m n : Mode) (x : Laid) (fs gs : List Frame) (r : code.Stepped) → ReadUpTo laid from i start fs m → i < length laid → x ≡ get_or laid i x → Does r gs (kept_step x fs m) → r ≡ codes.Reads n
    → unfinished fs m ≤ deepest → ReadUpTo laid from (i + 1) start gs n
read_more laid from i start m n x fs gs r k h g d e u = record {
  read = k.read ++ x ∷ [];
  whole = k.whole ∙ (ap (λ v. k.read ++ v) (here laid i x h g) ∙ one_more k.read (drop (i + 1) laid) x);
  path = path_on k.read x [] fs gs start m n k.path (reads_there x fs gs m n r d e);
  shallow = shallow_on k.read x [] fs start m k.path k.shallow u;
}

-- a token is read inside too many
pub read_too_deep : (laid : List Laid) (from i : ℕ) (start m n : Mode) (p : Place) (x : Laid) (fs gs : List Frame) (r : code.Stepped) → ReadUpTo laid from i start fs m → i < length laid → x ≡ get_or laid i x → Does r gs (kept_step x fs m) → r ≡ codes.Reads n
    → deepest < unfinished fs m → p ≡ place_of x → Refuses laid from start (faults.TooNested p)
read_too_deep laid from i start m n p x fs gs r k h g d e u q = record {
  read = k.read;
  rest = drop (i + 1) laid;
  here = x;
  whole = k.whole ∙ ap (λ v. k.read ++ v) (here laid i x h g);
  reads = reads_all (k.read ++ x ∷ []) [] gs start n (path_on k.read x [] fs gs start m n k.path (reads_there x fs gs m n r d e));
  shallow = k.shallow;
  deep = λ s. let v : unfinished fs m ≤ deepest = shallow_there k.read [] x [] fs start m k.path s in omega (arith, u, v);
  place = sym q;
}

pub read_on : (laid : List Laid) (from i : ℕ) (start m n : Mode) (x : Laid) (fs gs : List Frame) (r : code.Stepped) → kept_run laid from [] start ≡ kept_run laid i fs m → i < length laid → x ≡ get_or laid i x → Does r gs (kept_step x fs m) → r ≡ codes.Reads n → kept_run laid from [] start ≡ kept_run laid (i + 1) gs n
read_on laid from i start m n x fs gs r v h g d e = v ∙ kept_after laid i x fs m (Reads gs n) h g (subst (λ s. Does s gs (kept_step x fs m)) e d)

pub read_ends : (laid : List Laid) (from i : ℕ) (start m : Mode) (t : Tree) (x : Laid) (fs gs : List Frame) (r : code.Stepped) → ReadUpTo laid from i start fs m → kept_run laid from [] start ≡ kept_run laid i fs m → i < length laid → x ≡ get_or laid i x → Does r gs (kept_step x fs m) → r ≡ codes.Ends t → IsRead laid from start (ended.Expression t i)
read_ends laid from i start m t x fs gs r k v h g d e = record {
  ends = v ∙ kept_after laid i x fs m (Ends t) h g (subst (λ s. Does s gs (kept_step x fs m)) e d);
  within = h;
  shallow = up_to laid from i start fs m k;
}

pub read_defines : (laid : List Laid) (from i : ℕ) (start m : Mode) (t : Definition) (x : Laid) (fs gs : List Frame) (r : code.Stepped) → ReadUpTo laid from i start fs m → kept_run laid from [] start ≡ kept_run laid i fs m → i < length laid → x ≡ get_or laid i x → Does r gs (kept_step x fs m) → r ≡ codes.EndsDefinition t → IsRead laid from start (ended.Definition t i)
read_defines laid from i start m t x fs gs r k v h g d e = record {
  ends = v ∙ kept_after laid i x fs m (EndsDefinition t.name t.at t.params t.form t.body) h g (subst (λ s. Does s gs (kept_step x fs m)) e d);
  within = h;
  shallow = up_to laid from i start fs m k;
}

-- ---- why the reader refuses

-- at the beginning, or the token before an index stands at this place
abbrev pub LastBefore : List Laid → ℕ → ℕ → Place → Type 0
LastBefore laid from i p = (i ≡ from) ⊎ ((before : List Laid) × (x : Laid) × (laid ≡ before ++ x ∷ drop i laid) × (place_of x ≡ p))

pub last_read : (laid : List Laid) (from i : ℕ) (x : Laid) (p : Place) → i < length laid → x ≡ get_or laid i x → p ≡ place_of x → LastBefore laid from (i + 1) p
last_read laid from i x p h g q =
    inr (take i laid, x, sym (take-append-drop i laid) ∙ ap (λ r. take i laid ++ r) (here laid i x h g), sym q)

kind_refused : (laid : List Laid) (from : ℕ) (start : Mode) (k : Kind) (own at : Place) (x : Laid) (rest : List Laid) → kept_run laid from [] start ≡ StopsAt (x ∷ rest) → refusal_of x rest ≡ refusal_of_kind k own at → ShallowUpTo laid from start (x ∷ rest) → Refuses laid from start (refusal_of_kind k own at)
kind_refused laid from start (kinds.Foreign f) own at x rest e q s = (x, rest, e, q, s)
kind_refused laid from start _ own at x rest e q s = inl (x, rest, e, q, s)

next_refused : (laid : List Laid) (from : ℕ) (start : Mode) (o : Option Token) (at : Place) (x : Laid) (rest : List Laid) → kept_run laid from [] start ≡ StopsAt (x ∷ rest) → refusal_of x rest ≡ refusal_before o at → ShallowUpTo laid from start (x ∷ rest) → Refuses laid from start (refusal_before o at)
next_refused laid from start (Some t) at x rest e q s = kind_refused laid from start t.kind t.place at x rest e q s
next_refused laid from start None at x rest e q s = inl (x, rest, e, q, s)

laid_refused : (laid : List Laid) (from : ℕ) (start : Mode) (x : Laid) (rest : List Laid) → kept_run laid from [] start ≡ StopsAt (x ∷ rest) → ShallowUpTo laid from start (x ∷ rest) → Refuses laid from start (refusal_of x rest)
laid_refused laid from start x rest e s = next_refused laid from start (next_of (x ∷ rest) None) (place_of x) x rest e refl s

stops_here : (laid : List Laid) (from i : ℕ) (start : Mode) (x : Laid) → i < length laid → x ≡ get_or laid i x → kept_run laid from [] start ≡ StopsAt (drop i laid) → kept_run laid from [] start ≡ StopsAt (x ∷ drop (i + 1) laid)
stops_here laid from i start x h g e = e ∙ ap (λ r. StopsAt r) (here laid i x h g)

pub read_stops : (laid : List Laid) (from i : ℕ) (start m : Mode) (fault : ParseFault) (x : Laid) (fs gs : List Frame) (r : code.Stepped) → ReadUpTo laid from i start fs m → kept_run laid from [] start ≡ kept_run laid i fs m → i < length laid → x ≡ get_or laid i x → Does r gs (kept_step x fs m) → r ≡ codes.Stops → IsRefusedAt (drop i laid) fault → Refuses laid from start fault
read_stops laid from i start m fault x fs gs r k v h g d e q =
    let there : refusal_of x (drop (i + 1) laid) ≡ fault = subst (λ w. IsRefusedAt w fault) (here laid i x h g) q in
    subst (λ f. Refuses laid from start f) there
    (laid_refused laid from start x (drop (i + 1) laid) (stops_here laid from i start x h g (v ∙ kept_after laid i x fs m Stops h g (subst (λ s. Does s gs (kept_step x fs m)) e d)))
    (subst (λ w. ShallowUpTo laid from start w) (here laid i x h g) (up_to laid from i start fs m k)))

pub read_clashes : (laid : List Laid) (from i : ℕ) (start m : Mode) (p q : Place) (x : Laid) (fs gs : List Frame) (r : code.Stepped) → ReadUpTo laid from i start fs m → kept_run laid from [] start ≡ kept_run laid i fs m → i < length laid → x ≡ get_or laid i x → Does r gs (kept_step x fs m) → r ≡ codes.Clashes p q → Refuses laid from start (faults.Conflict p q)
read_clashes laid from i start m p q x fs gs r k v h g d e =
    (drop i laid, v ∙ kept_after laid i x fs m (Clashes p q) h g (subst (λ s. Does s gs (kept_step x fs m)) e d), up_to laid from i start fs m k)

none_left : (laid : List Laid) (i : ℕ) (fs : List Frame) (m : Mode) → drop i laid ≡ [] → kept_run laid i fs m ≡ StopsAt []
unfolding kept_run
none_left laid i fs m e = ap (λ xs. run xs fs m) e

pub read_short : (laid : List Laid) (from i : ℕ) (start m : Mode) (p : Place) (fs : List Frame) → ReadUpTo laid from i start fs m → kept_run laid from [] start ≡ kept_run laid i fs m → LastBefore laid from i p → from < length laid → length laid ≤ i → Refuses laid from start (faults.Expected p)
read_short laid from i start m p fs k v (inl e) f h = absurd (omega (arith, e, f, h))
read_short laid from i start m p fs k v (inr w) f h =
    let d : drop i laid ≡ [] = drop_of_length-le laid h in
    inr (w.0, w.1, v ∙ none_left laid i fs m d, w.2 ∙ ap (λ r. w.0 ++ w.1 ∷ r) d, w.3, subst (λ r. ShallowUpTo laid from start r) d (up_to laid from i start fs m k))
