-- How many constructs are unfinished before a token.
--
-- Unfinished are an open bracket, an open junction list, a CASE, an IF before its ELSE, a LET before its IN, a binder before its `:` or
-- the like, and an operator whose last operand has not ended. A chain counts once. (This project's profile.)
use Rattle.std.specs.Prelude.{ℕ, ◌+◌, List, [], ◌∷◌}
use Rattle.reading_machine.specs.declared.frame.Binder.{Binder}
use Rattle.reading_machine.specs.declared.frame.Binder.TheVariants as binders
use Rattle.reading_machine.specs.declared.frame.Frame.{Frame}
use Rattle.reading_machine.specs.declared.frame.Frame.TheVariants as frame
use Rattle.reading_machine.specs.declared.frame.Mode.{Mode}
use Rattle.reading_machine.specs.declared.frame.Mode.TheVariants as mode
use Rattle.reading_machine.specs.declared.frame.Scope.{Scope}
use Rattle.reading_machine.specs.declared.frame.Scope.TheVariants as scopes

-- the LET around a definition
abbrev pub of_scope : Scope → ℕ
of_scope (scopes.Let at ds) = 1
of_scope scopes.Unit = 0

-- a binder with its bracket, or with its bracket and the LET around it
abbrev pub of_binder : Binder → ℕ
of_binder (binders.Quantifier q at) = 1
of_binder (binders.Function at) = 1
of_binder (binders.Map at e) = 1
of_binder (binders.Defined s n p q) = of_scope s + 1

-- an open row, in which an expression is expected or being read
abbrev pub of_frame : Frame → ℕ
of_frame (frame.QuantifierBody q p bs) = 0
of_frame (frame.ChooseBody p n s) = 0
of_frame (frame.IfElse p a b) = 0
of_frame (frame.LetBody p ds) = 0
of_frame (frame.Subscript k at e) = 0
of_frame (frame.FairSubscript at) = 0
of_frame (frame.ExceptIndex at e cs ss q es) = 2
of_frame (frame.BoundSet b ns) = of_binder b.binder
of_frame (frame.DefinitionBody s n p form) = of_scope s
of_frame _ = 1

-- the row in which something else is expected
abbrev pub of_mode : Mode → ℕ
of_mode mode.Want = 0
of_mode (mode.Have e) = 0
of_mode (mode.FieldName e at) = 0
of_mode (mode.InstanceName at i) = 0
of_mode (mode.SubscriptStart k at e) = 0
of_mode (mode.FairStart at) = 0
of_mode (mode.FairOpen at e) = 0
of_mode (mode.BoundName b ns) = of_binder b.binder
of_mode (mode.BoundNamed b ns) = of_binder b.binder
of_mode (mode.DefinitionName s) = of_scope s
of_mode (mode.DefinitionNamed s n p) = of_scope s
of_mode (mode.DefinedAs s n p form) = of_scope s
of_mode (mode.Parameter s n p ns) = of_scope s + 1
of_mode (mode.ParameterNamed s n p ns) = of_scope s + 1
of_mode _ = 1

abbrev pub of_frames : List Frame → ℕ
of_frames [] = 0
of_frames (f ∷ fs) = of_frame f + of_frames fs

-- how many constructs are unfinished where these rows are open and this is expected
abbrev pub unfinished : List Frame → Mode → ℕ
unfinished fs m = of_frames fs + of_mode m
