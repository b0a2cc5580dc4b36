-- What holds of the meaning of a term and of those of all its parts.
use Rattle.names_terms.specs.Terms as term
use Rattle.names_terms.specs.Terms.{Term, Meaning, Terms, Operands, Step, Steps, Bounds, Fields, Changes, Arms, Placed}

abbrev mutual
  pub Everywhere : (Meaning → Type 0) → Term → Type 0
  Everywhere P (Placed at l m) = P m × InParts P m

  pub InParts : (Meaning → Type 0) → Meaning → Type 0
  InParts P (term.Known v) = Unit {0}
  InParts P (term.Named n) = Unit {0}
  InParts P (term.Variable x) = Unit {0}
  InParts P (term.Slot i) = Unit {0}
  InParts P (term.Use k ts) = InTerms P ts
  InParts P (term.Standard o ts) = InTerms P ts
  InParts P (term.Parenthesized e) = Everywhere P e
  InParts P (term.Scoped ks e) = Everywhere P e
  InParts P (term.All ts) = InTerms P ts
  InParts P (term.Any ts) = InTerms P ts
  InParts P (term.Prefix o e) = Everywhere P e
  InParts P (term.Infix o os e) = InOperands P os × Everywhere P e
  InParts P (term.Postfix e ss s) = Everywhere P e × InSteps P ss × InStep P s
  InParts P (term.SetOf ts) = InTerms P ts
  InParts P (term.Filter a p) = Everywhere P a × Everywhere P p
  InParts P (term.Map e bs) = Everywhere P e × InBounds P bs
  InParts P (term.Tuple ts) = InTerms P ts
  InParts P (term.Function bs e) = InBounds P bs × Everywhere P e
  InParts P (term.FunctionSet a b) = Everywhere P a × Everywhere P b
  InParts P (term.Record fs) = InFields P fs
  InParts P (term.RecordSet fs) = InFields P fs
  InParts P (term.Except e cs) = Everywhere P e × InChanges P cs
  InParts P (term.Quantified q bs e) = InBounds P bs × Everywhere P e
  InParts P (term.Choose a p) = Everywhere P a × Everywhere P p
  InParts P (term.If p a b) = Everywhere P p × Everywhere P a × Everywhere P b
  InParts P (term.Case arms) = InArms P arms
  InParts P (term.CaseOther arms e) = InArms P arms × Everywhere P e
  InParts P (term.BoxAction a v) = Everywhere P a × Everywhere P v
  InParts P (term.AngleAction a v) = Everywhere P a × Everywhere P v
  InParts P (term.Fairness v a) = Everywhere P v × Everywhere P a

  pub InTerms : (Meaning → Type 0) → Terms → Type 0
  InTerms P term.NoTerms = Unit {0}
  InTerms P (term.MoreTerms ts e) = InTerms P ts × Everywhere P e

  pub InOperands : (Meaning → Type 0) → Operands → Type 0
  InOperands P (term.First e) = Everywhere P e
  InOperands P (term.Next os at e) = InOperands P os × Everywhere P e

  pub InStep : (Meaning → Type 0) → Step → Type 0
  InStep P term.Prime = Unit {0}
  InStep P (term.Index ts) = InTerms P ts
  InStep P (term.Field h) = Unit {0}

  pub InSteps : (Meaning → Type 0) → Steps → Type 0
  InSteps P term.NoSteps = Unit {0}
  InSteps P (term.MoreSteps ss at s) = InSteps P ss × InStep P s

  pub InBounds : (Meaning → Type 0) → Bounds → Type 0
  InBounds P term.NoBounds = Unit {0}
  InBounds P (term.MoreBounds bs n e) = InBounds P bs × Everywhere P e

  pub InFields : (Meaning → Type 0) → Fields → Type 0
  InFields P term.NoFields = Unit {0}
  InFields P (term.MoreFields fs h e) = InFields P fs × Everywhere P e

  pub InChanges : (Meaning → Type 0) → Changes → Type 0
  InChanges P term.NoChanges = Unit {0}
  InChanges P (term.MoreChanges cs path e) = InChanges P cs × InSteps P path × Everywhere P e

  pub InArms : (Meaning → Type 0) → Arms → Type 0
  InArms P term.NoArms = Unit {0}
  InArms P (term.MoreArms arms p e) = InArms P arms × Everywhere P p × Everywhere P e
