-- How the code keeps a heading: as one number.
use Rattle.std.specs.Prelude.{List, map, ℕ, ◌/◌, ◌%◌, ◌≤◌, ◌<◌}
use Rattle.pages.specs.declared.heading.Heading.{Heading}

-- from the highest bits down: the line's start, 8 bits of its length, 8 of where the text starts, 16 of the line's number
unfoldable pub heading_in : ℕ → Heading
heading_in w = record { start = w / 4294967296; length = w / 16777216 % 256; from = w / 65536 % 256; number = w % 65536 }

abbrev pub headings_of : List ℕ → List Heading
headings_of words = map heading_in words

-- each number of a heading has its place in a word, as in an accepted template
pub record Small (h : Heading) : Type 0 where
  pub start : h.start ≤ 65536
  pub length : h.length < 256
  pub from : h.from < 256
  pub number : h.number < 65536
