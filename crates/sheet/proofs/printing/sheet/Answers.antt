use Rattle.std.proofs.Common.{rules}
use Rattle.sheet.proofs.Fitting.{sheet_of_law}
use Rattle.sheet.proofs.printing.sheet.Goals as goal

pub returns : goal.returns
returns c = sheet_of_law (search rules) (search rules)
