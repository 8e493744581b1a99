-- Headings.
use Rattle.pages.specs.declared.heading.Heading.{Heading}

-- an undefined heading
abbrev pub no_heading : Heading
no_heading = record { start = 0; length = 0; from = 0; number = 0 }
