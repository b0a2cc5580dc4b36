-- The lines on logs that are refused.
use Rattle.std.specs.Prelude.{ℕ, ℤ, List, ◌++◌, codes, decimal}
use Rattle.std.specs.Fmt.{signed_decimal}
use Rattle.logs_shapes.specs.Keys.{key_text}
use Rattle.logs_lines.specs.declared.kind.LogKind.{LogKind}
use Rattle.logs_lines.specs.declared.kind.LogKind.TheVariants as log
use Rattle.logs_lines.specs.FaultCodes.{log_code}
use Rattle.logs_lines.specs.declared.file.Refusal.{Refusal}
use Rattle.run_texts.specs.Places.{detail, found_needed, refused}

-- a line of a log: the log's name and the line's number in it
abbrev pub line_text : List ℕ → ℕ → List ℕ
line_text name line = name ++ codes ":" ++ decimal line

abbrev pub at_line : List ℕ → ℕ → List ℕ
at_line name line = codes " at " ++ line_text name line

-- the clock before, and this one
abbrev pub clocks_text : ℤ → ℤ → List ℕ
clocks_text before now = codes " clocks " ++ signed_decimal before ++ codes " and " ++ signed_decimal now

-- a node, its number before, and this one
abbrev pub node_text : List ℕ → ℕ → ℕ → List ℕ
node_text node before now = codes " node " ++ node ++ codes " clocks " ++ decimal before ++ codes " and " ++ decimal now

-- a line of the log is refused for this
abbrev pub kind_refusal : List ℕ → LogKind → ℕ → List ℕ
kind_refusal name log.NotJson line = refused (log_code log.NotJson) (at_line name line)
kind_refusal name log.NotObject line = refused (log_code log.NotObject) (at_line name line)
kind_refusal name (log.BadField key) line =
    refused (log_code (log.BadField key)) (detail (key_text key) ++ at_line name line)
kind_refusal name log.UnknownVariable line = refused (log_code log.UnknownVariable) (at_line name line)
kind_refusal name log.UnknownEvent line = refused (log_code log.UnknownEvent) (at_line name line)
kind_refusal name (log.WrongArgs found needed) line =
    refused (log_code (log.WrongArgs found needed)) (found_needed found needed ++ at_line name line)
kind_refusal name (log.BadValue key) line =
    refused (log_code (log.BadValue key)) (detail (key_text key) ++ at_line name line)
kind_refusal name log.InitNotFirst line = refused (log_code log.InitNotFirst) (at_line name line)
kind_refusal name log.NoClock line = refused (log_code log.NoClock) (at_line name line)
kind_refusal name (log.ClockBack before now) line =
    refused (log_code (log.ClockBack before now)) (at_line name line ++ clocks_text before now)
kind_refusal name log.ClockKind line = refused (log_code log.ClockKind) (at_line name line)
kind_refusal name (log.VectorBack node before now) line =
    refused (log_code (log.VectorBack node before now)) (at_line name line ++ node_text node before now)
kind_refusal name log.LineTooLong line = refused (log_code log.LineTooLong) (at_line name line)
kind_refusal name log.EventNotFixed line = refused (log_code log.EventNotFixed) (at_line name line)
kind_refusal name log.TooManyLines line = refused (log_code log.TooManyLines) (at_line name line)

abbrev pub log_refusal : List ℕ → Refusal → List ℕ
log_refusal name refusal = kind_refusal name refusal.kind refusal.line
