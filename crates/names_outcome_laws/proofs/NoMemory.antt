-- Want of memory is no complaint: what is wrong with names is wrong with the text.
use Rattle.std.proofs.Common.{◌≡◌, List, length}
use Rattle.std.specs.Prelude.{ℕ, ◌==◌, Bool, true, false, if◌then◌else◌, Option, Some, None}
use Rattle.base_core.specs.declared.place.Place.{Place}
use Rattle.reading_trees.specs.declared.form.DefinitionForm.{DefinitionForm}
use Rattle.reading_trees.specs.Trees as tree
use Rattle.reading_trees.specs.Trees.{Tree, Trees}
use Rattle.names_scopes.specs.Mentions.{is_one_of, mentions}
use Rattle.names_scopes.specs.Scopes.{at_sign}
use Rattle.names_meanings.specs.declared.fault.NameFault.{NameFault}
use Rattle.names_meanings.specs.declared.fault.NameFault.TheVariants.{WrongArity, Recursion, NoMemory}
use Rattle.names_meanings.specs.Complaints.{Taken, Takes, or_else, bound_name, counted, number_of, with_name, with_names, with_bounds, with_definitions, with_itself, itself, may_use_itself, complaint, complaints, operands_complaint, step_complaint, steps_complaint, bounds_complaint, fields_complaint, changes_complaint, arms_complaint, definitions_complaint}
use Rattle.names_meanings.specs.Owning.{own_of}

abbrev pub IsReal : Option NameFault → Type 0
IsReal o = ¬ (o ≡ Some NoMemory)

none_real : IsReal None
none_real e = cc

pub either_real : (a b : Option NameFault) → IsReal a → IsReal b → IsReal (or_else a b)
either_real None b p q = q
either_real (Some f) b p q = p

if_real : (b : Bool) (f : NameFault) → IsReal (Some f) → IsReal (if b then None else Some f)
if_real true f p = none_real
if_real false f p = p

counted_real : (n : List ℕ) (at : Place) (k : ℕ) (o : Option Taken) → IsReal (counted n at k o)
counted_real n at k None = λ e. cc
counted_real n at k (Some w) = if_real (k == w.needed) (WrongArity n k w.needed at) (λ e. cc)

by_marks : (a b c : Bool) (n : List ℕ) (at : Place) → IsReal (if a then None else (if b then (if c then None else Some (Recursion n at)) else None))
by_marks true b c n at = none_real
by_marks false true true n at = none_real
by_marks false true false n at = λ e. cc
by_marks false false c n at = none_real

itself_real : (g : Takes) (form : DefinitionForm) (n : List ℕ) (at : Place) (ps : List (List ℕ)) (e : Tree) → IsReal (itself g form n at ps e)
itself_real g form n at ps e = by_marks (is_one_of n ps) (mentions n e) (may_use_itself g form n ps e) n at

mutual
  pub complaint_real : (t : Tree) (g : Takes) → IsReal (complaint g t)
  complaint_real (tree.Number at z) g = none_real
  complaint_real (tree.Str at s) g = none_real
  complaint_real (tree.Truth at b) g = none_real
  complaint_real (tree.Builtin at b) g = none_real
  complaint_real (tree.Name at n) g = counted_real n at 0 (g n)
  complaint_real (tree.Call at n es) g = either_real (counted n at (number_of es) (g n)) (complaints g es) (counted_real n at (number_of es) (g n)) (complaints_real es g)
  complaint_real (tree.Qualified at n es) g = either_real (counted n at (number_of es) (g n)) (complaints g es) (counted_real n at (number_of es) (g n)) (complaints_real es g)
  complaint_real (tree.At at) g = counted_real at_sign at 0 (g at_sign)
  complaint_real (tree.Parenthesized at e) g = complaint_real e g
  complaint_real (tree.Junction at b es) g = complaints_real es g
  complaint_real (tree.Prefix at o e) g = complaint_real e g
  complaint_real (tree.Infix at o os e) g = either_real (operands_complaint g os) (complaint g e) (operands_real os g) (complaint_real e g)
  complaint_real (tree.Postfix at e ss s) g = either_real (complaint g e) (or_else (steps_complaint g ss) (step_complaint g s)) (complaint_real e g) (either_real (steps_complaint g ss) (step_complaint g s) (steps_real ss g) (step_real s g))
  complaint_real (tree.SetOf at es) g = complaints_real es g
  complaint_real (tree.Filter at n s e) g = either_real (complaint g s) (complaint (with_name g n bound_name) e) (complaint_real s g) (complaint_real e (with_name g n bound_name))
  complaint_real (tree.Map at e bs) g = either_real (complaint (with_bounds g bs) e) (bounds_complaint g bs) (complaint_real e (with_bounds g bs)) (bounds_real bs g)
  complaint_real (tree.Tuple at es) g = complaints_real es g
  complaint_real (tree.Function at bs e) g = either_real (bounds_complaint g bs) (complaint (with_bounds g bs) e) (bounds_real bs g) (complaint_real e (with_bounds g bs))
  complaint_real (tree.FunctionSet at s e) g = either_real (complaint g s) (complaint g e) (complaint_real s g) (complaint_real e g)
  complaint_real (tree.Record at fs) g = fields_real fs g
  complaint_real (tree.RecordSet at fs) g = fields_real fs g
  complaint_real (tree.Except at e cs) g = either_real (complaint g e) (changes_complaint g cs) (complaint_real e g) (changes_real cs g)
  complaint_real (tree.Quantified at q bs e) g = either_real (bounds_complaint g bs) (complaint (with_bounds g bs) e) (bounds_real bs g) (complaint_real e (with_bounds g bs))
  complaint_real (tree.Choose at n s e) g = either_real (complaint g s) (complaint (with_name g n bound_name) e) (complaint_real s g) (complaint_real e (with_name g n bound_name))
  complaint_real (tree.If at p e f) g = either_real (complaint g p) (or_else (complaint g e) (complaint g f)) (complaint_real p g) (either_real (complaint g e) (complaint g f) (complaint_real e g) (complaint_real f g))
  complaint_real (tree.Case at arms) g = arms_real arms g
  complaint_real (tree.CaseOther at arms e) g = either_real (arms_complaint g arms) (complaint g e) (arms_real arms g) (complaint_real e g)
  complaint_real (tree.Let at ds e) g = either_real (definitions_complaint g ds) (complaint (with_definitions g ds) e) (definitions_real ds g) (complaint_real e (with_definitions g ds))
  complaint_real (tree.BoxAction at e v) g = either_real (complaint g e) (complaint g v) (complaint_real e g) (complaint_real v g)
  complaint_real (tree.AngleAction at e v) g = either_real (complaint g e) (complaint g v) (complaint_real e g) (complaint_real v g)
  complaint_real (tree.Fairness at v e) g = either_real (complaint g v) (complaint g e) (complaint_real v g) (complaint_real e g)

  complaints_real : (es : Trees) (g : Takes) → IsReal (complaints g es)
  complaints_real tree.NoTrees g = none_real
  complaints_real (tree.MoreTrees es e) g = either_real (complaints g es) (complaint g e) (complaints_real es g) (complaint_real e g)

  operands_real : (os : tree.Operands) (g : Takes) → IsReal (operands_complaint g os)
  operands_real (tree.First e) g = complaint_real e g
  operands_real (tree.Next os at e) g = either_real (operands_complaint g os) (complaint g e) (operands_real os g) (complaint_real e g)

  step_real : (s : tree.Step) (g : Takes) → IsReal (step_complaint g s)
  step_real tree.Prime g = none_real
  step_real (tree.Index es) g = complaints_real es g
  step_real (tree.Field h) g = none_real

  steps_real : (ss : tree.Steps) (g : Takes) → IsReal (steps_complaint g ss)
  steps_real tree.NoSteps g = none_real
  steps_real (tree.MoreSteps ss at s) g = either_real (steps_complaint g ss) (step_complaint g s) (steps_real ss g) (step_real s g)

  bounds_real : (bs : tree.Bounds) (g : Takes) → IsReal (bounds_complaint g bs)
  bounds_real tree.NoBounds g = none_real
  bounds_real (tree.MoreBounds bs ns e) g = either_real (bounds_complaint g bs) (complaint g e) (bounds_real bs g) (complaint_real e g)

  fields_real : (fs : tree.Fields) (g : Takes) → IsReal (fields_complaint g fs)
  fields_real tree.NoFields g = none_real
  fields_real (tree.MoreFields fs n e) g = either_real (fields_complaint g fs) (complaint g e) (fields_real fs g) (complaint_real e g)

  changes_real : (cs : tree.Changes) (g : Takes) → IsReal (changes_complaint g cs)
  changes_real tree.NoChanges g = none_real
  changes_real (tree.MoreChanges cs path e) g =
      either_real (changes_complaint g cs) (or_else (steps_complaint g path) (complaint (with_name g at_sign bound_name) e)) (changes_real cs g)
      (either_real (steps_complaint g path) (complaint (with_name g at_sign bound_name) e) (steps_real path g) (complaint_real e (with_name g at_sign bound_name)))

  arms_real : (arms : tree.Arms) (g : Takes) → IsReal (arms_complaint g arms)
  arms_real tree.NoArms g = none_real
  arms_real (tree.MoreArms arms p e) g = either_real (arms_complaint g arms) (or_else (complaint g p) (complaint g e)) (arms_real arms g) (either_real (complaint g p) (complaint g e) (complaint_real p g) (complaint_real e g))

  definitions_real : (ds : tree.Definitions) (g : Takes) → IsReal (definitions_complaint g ds)
  definitions_real tree.NoDefinitions g = none_real
  definitions_real (tree.MoreDefinitions ds n at ps form e) g =
      either_real (definitions_complaint g ds) (or_else (itself (with_definitions g ds) form n at ps e) (complaint (with_names (with_itself (own_of form n ps e) (with_definitions g ds) n (length ps)) ps) e)) (definitions_real ds g)
      (either_real (itself (with_definitions g ds) form n at ps e) (complaint (with_names (with_itself (own_of form n ps e) (with_definitions g ds) n (length ps)) ps) e) (itself_real (with_definitions g ds) form n at ps e) (complaint_real e (with_names (with_itself (own_of form n ps e) (with_definitions g ds) n (length ps)) ps)))
