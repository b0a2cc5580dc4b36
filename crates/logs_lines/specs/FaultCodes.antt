-- The code and the name of why a line of a log is refused.
use Rattle.std.specs.Prelude.{ℕ, List, codes}
use Rattle.logs_lines.specs.declared.kind.LogKind.{LogKind}
use Rattle.logs_lines.specs.declared.kind.LogKind.TheVariants as log

abbrev pub log_code : LogKind → List ℕ
log_code log.NotJson = codes "O1 NotJson"
log_code log.NotObject = codes "O2 NotObject"
log_code (log.BadField key) = codes "O3 BadField"
log_code log.UnknownVariable = codes "O4 UnknownVariable"
log_code log.UnknownEvent = codes "O5 UnknownEvent"
log_code (log.WrongArgs found needed) = codes "O6 WrongArgs"
log_code (log.BadValue key) = codes "O7 BadValue"
log_code log.InitNotFirst = codes "O8 InitNotFirst"
log_code log.NoClock = codes "O9 NoClock"
log_code (log.ClockBack before now) = codes "O10 ClockBack"
log_code log.LineTooLong = codes "O11 LineTooLong"
log_code log.EventNotFixed = codes "O12 EventNotFixed"
log_code log.TooManyLines = codes "O13 TooManyLines"
log_code (log.VectorBack node before now) = codes "O14 VectorBack"
log_code log.ClockKind = codes "O15 ClockKind"
