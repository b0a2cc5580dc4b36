-- Near lines are lines that are no states.
use Rattle.std.proofs.Common.{◌≡◌, sym, ap, subst, refl, ℕ, zero, suc, List, [], ◌∷◌, ◌++◌, take, drop, Option, Some, None, All, Bool, true, false, append-nil, append_assoc, codes, inl, inr, if◌then◌else◌, slice_get}
use Rattle.std.specs.Prelude.{Contains}
use Rattle.std.proofs.lemmas.List.Elements.{All-contains_itself, All-get_or, All-head, All-tail, All-weaker}
use Rattle.std.proofs.lemmas.Option.{get_or_from_slice_get, slice_get_within}
use Rattle.base_core.specs.declared.place.LineAt.{LineAt}
use Rattle.base_core.specs.declared.place.Place.{Place}
use Rattle.values_core.specs.Data.{Val, entries, model, truth, integer, string, set, function}
use Rattle.states_core.specs.States.{Values}
use Rattle.names_terms.specs.declared.ids.DefId.{DefId}
use Rattle.names_terms.specs.declared.operator.Operator.{Operator}
use Rattle.names_terms.specs.declared.spec.Spec.{Spec}
use Rattle.eval_meanings.specs.Contexts.{Places}
use Rattle.logs_updates.specs.declared.line.Line.{Line}
use Rattle.values_json.specs.Prints.{are_numbered}
use Rattle.run_texts.specs.Answers.{Named, log_name}
use Rattle.run_texts.specs.Logs.{line_text}
use Rattle.run_texts.specs.Places.{name_at}
use Rattle.twice_printed.specs.StateFiles.{IsOneLine}
use Rattle.twice_printed.proofs.Feedless.{NoFeed, feedless-append, feedless-tested}
use Rattle.twice_printed.proofs.ReportSays.{one_line}
use Rattle.steps_why_branches.specs.declared.why.WhyKind.{WhyKind}
use Rattle.steps_why_branches.specs.declared.why.WhyKind.TheVariants as why
use Rattle.run_near_lines.specs.Kinds.{are_alike, have_strings, keyed_name, kind_name, kinds_text}
use Rattle.run_near_lines.specs.Tells.{IsNearLine, TellsNear}
use Rattle.run_near_lines.specs.Texts.{arguments_text, both_kinds, call_of, call_text, failed_text, first_told, found_text, held, json_text, more_arguments, named_call, near_text, near_told, place_behind, values_text, variable_text, wanted_text}
use Rattle.twice_printed.specs.WhyLines.{AreNamedInOneLine, AreOneLine}
use Rattle.twice_printed.proofs.Asides.{place_feedless}
use Rattle.twice_printed.proofs.Lines.{AreAsides, feedless_is_one_line, line_aside, line_feedless, name_feedless, none_aside}
use Rattle.twice_printed.proofs.Printed.{printed_feedless}

-- ---- the parts of a near line

both_ways : (b : Bool) (x y : List ℕ) → NoFeed x → NoFeed y → NoFeed (if b then x else y)
both_ways true x y f g = f
both_ways false x y f g = g

kind_feedless : (v : Val) → NoFeed (kind_name v)
kind_feedless (model s) = feedless-tested (codes "model value") refl
kind_feedless (truth b) = feedless-tested (codes "truth value") refl
kind_feedless (integer z) = feedless-tested (codes "number") refl
kind_feedless (string s) = feedless-tested (codes "string") refl
kind_feedless (set vs) = feedless-tested (codes "set") refl
kind_feedless (function ps) =
    both_ways (are_numbered 1 ps) (codes "sequence") (keyed_name (entries ps)) (feedless-tested (codes "sequence") refl)
    (both_ways (have_strings (entries ps)) (codes "record") (codes "function") (feedless-tested (codes "record") refl) (feedless-tested (codes "function") refl))

kinds_feedless : (v w : Val) → NoFeed (kinds_text v w)
kinds_feedless v w =
    let first = feedless-append (codes " kinds ") (kind_name v) (feedless-tested (codes " kinds ") refl) (kind_feedless v) in
    let second = feedless-append (codes " kinds " ++ kind_name v) (codes " and ") first (feedless-tested (codes " and ") refl) in
    both_ways (are_alike v w) [] (codes " kinds " ++ kind_name v ++ codes " and " ++ kind_name w) tt
    (feedless-append (codes " kinds " ++ kind_name v ++ codes " and ") (kind_name w) second (kind_feedless w))

wanted_feedless : (o : Option Val) → NoFeed (wanted_text o)
wanted_feedless None = tt
wanted_feedless (Some v) = feedless-append (codes " wanted ") (json_text v) (feedless-tested (codes " wanted ") refl) (printed_feedless v)

found_feedless : (o : Option Val) → NoFeed (found_text o)
found_feedless None = feedless-tested (codes " found nothing") refl
found_feedless (Some v) = feedless-append (codes " found ") (json_text v) (feedless-tested (codes " found ") refl) (printed_feedless v)

both_feedless : (o p : Option Val) → NoFeed (both_kinds o p)
both_feedless None p = tt
both_feedless (Some v) None = tt
both_feedless (Some v) (Some w) = kinds_feedless v w

values_feedless : (o p : Option Val) → NoFeed (values_text o p)
values_feedless o p =
    feedless-append (wanted_text o ++ found_text p) (both_kinds o p) (feedless-append (wanted_text o) (found_text p) (wanted_feedless o) (found_feedless p)) (both_feedless o p)

variable_feedless : (l : Named) (reason : List ℕ) (x : ℕ) (at : Option Place) (wanted : Option Val) (q : Places) → AreOneLine l → NoFeed reason → NoFeed (variable_text l reason x at wanted q)
variable_feedless l reason x at wanted q one h =
    let named = feedless-append reason (name_at l.variables x) h (name_feedless l.variables x one.variables) in
    let placed = feedless-append (reason ++ name_at l.variables x) (place_behind l.files at) named (place_feedless l.files at one.files) in
    feedless-append (reason ++ name_at l.variables x ++ place_behind l.files at) (values_text wanted (held (slice_get q x))) placed (values_feedless wanted (held (slice_get q x)))

failed_feedless : (l : Named) (reason : WhyKind) (at : Option Place) (wanted : Option Val) (q : Places) → AreOneLine l → NoFeed (failed_text l reason at wanted q)
failed_feedless l why.TestFalse at wanted q one = feedless-append (codes " TestFalse") (place_behind l.files at) (feedless-tested (codes " TestFalse") refl) (place_feedless l.files at one.files)
failed_feedless l (why.Differs x) at wanted q one = variable_feedless l (codes " Differs ") x.0 at wanted q one (feedless-tested (codes " Differs ") refl)
failed_feedless l (why.NotIn x) at wanted q one = variable_feedless l (codes " NotIn ") x.0 at wanted q one (feedless-tested (codes " NotIn ") refl)
failed_feedless l why.NoMember at wanted q one = tt
failed_feedless l (why.Fault kind) at wanted q one = tt
failed_feedless l (why.NoUpdate x) at wanted q one = tt
failed_feedless l (why.NotSeen x) at wanted q one = tt

more_feedless : (vs : List Val) → NoFeed (more_arguments vs)
more_feedless [] = tt
more_feedless (v ∷ vs) =
    feedless-append (codes ", " ++ json_text v) (more_arguments vs) (feedless-append (codes ", ") (json_text v) (feedless-tested (codes ", ") refl) (printed_feedless v)) (more_feedless vs)

arguments_feedless : (vs : List Val) → NoFeed (arguments_text vs)
arguments_feedless [] = tt
arguments_feedless (v ∷ vs) =
    let first = feedless-append (codes "(") (json_text v) (feedless-tested (codes "(") refl) (printed_feedless v) in
    let others = feedless-append (codes "(" ++ json_text v) (more_arguments vs) first (more_feedless vs) in
    feedless-append (codes "(" ++ json_text v ++ more_arguments vs) (codes ")") others (feedless-tested (codes ")") refl)

named_feedless : (name : List ℕ) (vs : List Val) → NoFeed name → NoFeed (named_call name vs)
named_feedless [] vs h = tt
named_feedless (c ∷ cs) vs h =
    feedless-append (codes " in " ++ (c ∷ cs)) (arguments_text vs) (feedless-append (codes " in ") (c ∷ cs) (feedless-tested (codes " in ") refl) h) (arguments_feedless vs)

operator_one_line : (operators : List Operator) (i : ℕ) (o : Operator) → slice_get operators i ≡ Some o → AreNamedInOneLine operators → IsOneLine o.name
operator_one_line operators i o is all =
    subst (λ (o : Operator). IsOneLine o.name) (get_or_from_slice_get operators i o o is) (All-get_or (λ (o : Operator). IsOneLine o.name) operators i o (slice_get_within operators i o is) all)

call_of_feedless : (o : Option Operator) (slots : List Val) → ((p : Operator) → o ≡ Some p → IsOneLine p.name) → NoFeed (call_of o slots)
call_of_feedless None slots h = tt
call_of_feedless (Some o) slots h = named_feedless o.name (take o.params (drop o.outer slots)) (one_line o.name (h o refl))

call_feedless : (operators : List Operator) (call : Option DefId) (slots : List Val) → AreNamedInOneLine operators → NoFeed (call_text operators call slots)
call_feedless operators None slots all = tt
call_feedless operators (Some k) slots all = call_of_feedless (slice_get operators k.0) slots (λ o is. operator_one_line operators k.0 o is all)

-- ---- near lines

-- a line that begins with the word NEAR, and its line feed
record IsNear (text : List ℕ) : Type 0 where
  body : List ℕ
  none : NoFeed body
  is : text ≡ (codes "NEAR " ++ body) ++ codes "\n"

told_line : (text rest : List ℕ) → IsNear text → AreAsides rest → AreAsides (text ++ rest)
told_line text rest near more =
    let line = feedless-append (codes "NEAR ") near.body (feedless-tested (codes "NEAR ") refl) near.none in
    subst (λ (t : List ℕ). AreAsides (t ++ rest)) (sym near.is)
    (line_aside (codes "NEAR " ++ near.body) rest line (feedless_is_one_line (codes "NEAR " ++ near.body) line, refl) more)

alone : (text : List ℕ) → IsNear text → AreAsides text
alone text near = subst AreAsides (append-nil text) (told_line text [] near none_aside)

line_near : (l : Named) (at : LineAt) (told : List ℕ) → AreOneLine l → NoFeed told → IsNear (near_text l at told)
line_near l at told one h =
    let line = line_text (log_name l.logs at.file) at.line in
    record {
      body = line ++ told;
      none = feedless-append line told (line_feedless l.logs at one.logs) h;
      is = ap (λ (t : List ℕ). t ++ codes "\n") (append_assoc (codes "NEAR ") line told);
    }

any_near : (g : Spec) (line : Line) (l : Named) (s : Values) (text : List ℕ) → AreOneLine l → AreNamedInOneLine g.operators → IsNearLine g line l s text → IsNear text
any_near g line l s text one named (inl failed) =
    let w = failed.1.part in
    let told = feedless-append (failed_text l w.why.reason w.why.at w.wanted failed.1.filled) (call_text g.operators w.call w.slots)
    (failed_feedless l w.why.reason w.why.at w.wanted failed.1.filled one) (call_feedless g.operators w.call w.slots named) in
    subst IsNear (sym failed.1.is) (line_near l line.at _ one told)
any_near g line l s text one named (inr unseen) =
    let x = unseen.see.path.variable.0 in
    let named_see = feedless-append (codes " NotSeen ") (name_at l.variables x) (feedless-tested (codes " NotSeen ") refl) (name_feedless l.variables x one.variables) in
    let told = feedless-append (codes " NotSeen " ++ name_at l.variables x) (values_text (Some unseen.see.value) unseen.stands) named_see (values_feedless (Some unseen.see.value) unseen.stands) in
    subst IsNear (sym unseen.is) (line_near l line.at _ one told)

more_near : IsNear (codes "NEAR MORE\n")
more_near = record { body = codes "MORE"; none = feedless-tested (codes "MORE") refl; is = refl }

none_near : IsNear (codes "NEAR NONE\n")
none_near = record { body = codes "NONE"; none = feedless-tested (codes "NONE") refl; is = refl }

first_aside : (most : ℕ) (lines : List (List ℕ)) → All IsNear lines → AreAsides (first_told most lines)
first_aside most [] h = none_aside
first_aside zero (t ∷ ts) h = alone (codes "NEAR MORE\n") more_near
first_aside (suc most) (t ∷ ts) h = told_line t (first_told most ts) (All-head IsNear t ts h) (first_aside most ts (All-tail IsNear t ts h))

told_aside : (most : ℕ) (lines : List (List ℕ)) → All IsNear lines → AreAsides (near_told most lines)
told_aside most [] h = alone (codes "NEAR NONE\n") none_near
told_aside most (t ∷ ts) h = first_aside most (t ∷ ts) h

module _ (g : Spec) (line : Line) (l : Named) (one : AreOneLine l) (named : AreNamedInOneLine g.operators) where
  pub nears_aside : (most : ℕ) (entries : List Values) (text : List ℕ) → TellsNear g line l most entries text → AreAsides text
  nears_aside most entries text tells =
      let member : (t : List ℕ) → Contains tells.lines t → IsNear t = λ t has. let some = (tells.are t).0 has in any_near g line l some.1 t one named some.4 in
      let all : All IsNear tells.lines = All-weaker (Contains tells.lines) IsNear member tells.lines (All-contains_itself tells.lines) in
      subst AreAsides (sym tells.told) (told_aside most tells.lines all)
