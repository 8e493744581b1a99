-- What the lines passed over have, held to what the part has.
use Rattle.template.proofs.SeekLaws.{skip_nothing, skip_cut}
use Rattle.template.proofs.seek.skip_lines.Goals as goal

pub returns-then-rest-gt-LONGEST_TEMPLATE : goal.returns-then-rest-gt-LONGEST_TEMPLATE
returns-then-rest-gt-LONGEST_TEMPLATE c = skip_nothing _ _ c.if-rest-gt-LONGEST_TEMPLATE.true

pub returns : goal.returns
returns c = skip_cut _ _ c.if-rest-gt-LONGEST_TEMPLATE.false _ c.lines_passed-passed.ensures _ c.min.ensures
