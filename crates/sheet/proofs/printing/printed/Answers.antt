use Rattle.std.proofs.Common.{rules}
use Rattle.sheet.proofs.Fitting.{printed_of}
use Rattle.sheet.proofs.printing.printed.Goals as goal

pub returns : goal.returns
returns c = printed_of _ _ _ _ _ _ _ _ _ (search rules) c.report.ensures
