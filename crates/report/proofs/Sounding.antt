-- What holds between lines holds before the first line of an accepted template's run.
use Rattle.std.specs.Prelude.{Ok}
use mathlib.Core.Path.{◌≡◌, refl}
use mathlib.Core.List.{List}
use Prim.Native.Nat.{ℕ}
use native.Mathlib.Omega.{arith}
use lib.ListN.{length-replicate}
use Rattle.template.specs.declared.Extent.{Extent}
use Rattle.template.specs.Order.{template_checked}
use Rattle.template.proofs.Accepted.{accepted_runs}
use Rattle.pages.specs.Heading.{no_heading}
use Rattle.control.specs.Inner.Sound.{Fit}
use Rattle.executed_line.proofs.Places.{none_open}
use Rattle.executed_line.proofs.Sounds.{On, each_same, blank_heading, full_none}
use Rattle.report.specs.Report.{start_of}
use Rattle.report.specs.Inner.Stretch.{Standing}

-- The run of an accepted template starts so, on an empty page.
pub start_on : (t name : List ℕ) (r : Extent) → template_checked t name ≡ Ok r → On t 1 (start_of r) 0
start_on t name r e =
    let k = accepted_runs t name r e in
    record {
      sound = record {
        checks = k.checks;
        nested = λ _. record { before = k.start.number; marks = k.start.marks; opens = k.start.opens; number = k.start.line; tabled = none_open t k.start.marks k.start.no_table };
        number = omega arith;
        first_row = omega arith;
        last_row = omega arith;
        datasource = omega arith;
        variables = full_none;
        headings = length-replicate 9 no_heading;
        heads = each_same (Fit t) 9 no_heading (blank_heading t);
      };
      next = refl;
    }

pub start_standing : (t name : List ℕ) (r : Extent) → template_checked t name ≡ Ok r → Standing t 50000 (start_of r)
start_standing t name r h = record { most = omega arith; sound = (start_on t name r h).sound }
