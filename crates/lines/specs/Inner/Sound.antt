-- What the code of a run asks of the parts of a parsed line: a text fits, "n 1–65,535".
use Rattle.std.specs.Prelude.{◌≡◌, true, List, ℕ, ◌≤◌, length, Option, Some, None}
use Rattle.arguments.specs.declared.argument.Argument.{Argument}
use Rattle.arguments.specs.Inner.Parameter.{parameter_of}
use Rattle.texts.specs.Readers.Text.{text_fits}
use Rattle.lines.specs.declared.command.Line.{Line}
use Rattle.lines.specs.declared.command.Line.TheVariants.{Text, Section, Set, IfNot, If, Compare, Else, EndIf, BeginTable, EndTable, Records, Entries, Datasource, NoFormFeed, NewPage, Heading, NoHeading, Remark}

abbrev pub Small : Argument → Type 0
Small a = parameter_of a.operand ≤ 65535

abbrev pub SmallOptional : Option Argument → Type 0
SmallOptional (Some a) = Small a
SmallOptional None = Unit {0}

abbrev pub Sound : List ℕ → Line → Type 0
Sound l Text = text_fits l 0 ≡ true
Sound l (Section a e) = Unit {0}
Sound l (Set o t a) = Small a
Sound l (IfNot a) = Small a
Sound l (If a) = Small a
Sound l (Compare c a b) = Small a × Small b
Sound l Else = Unit {0}
Sound l EndIf = Unit {0}
Sound l (BeginTable a) = Small a
Sound l (EndTable k) = SmallOptional k
Sound l (Records f) = f.parameter ≤ 65535
Sound l (Entries f) = f.parameter ≤ 65535
Sound l (Datasource i) = Unit {0}
Sound l NoFormFeed = Unit {0}
Sound l (NewPage n) = SmallOptional n
Sound l (Heading n at) = (text_fits l at ≡ true) × (at ≤ length l)
Sound l (NoHeading n) = Unit {0}
Sound l Remark = Unit {0}
