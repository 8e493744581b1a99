-- The names of sections, taken from the forms of their lines.
use Rattle.std.specs.Prelude.{Bool, true, false, cond, List, [], ◌∷◌, ℕ, suc, ◌+◌, ◌-◌, eqb, length, take, drop, Some, None, Option}
use Rattle.lines.specs.declared.command.Line.{Line}
use Rattle.lines.specs.declared.command.Line.TheVariants.{Text, Section, Set, IfNot, If, Compare, Else, EndIf, BeginTable, EndTable, Records, Entries, Datasource, NoFormFeed, NewPage, Heading, NoHeading, Remark}
use Rattle.lines.specs.Readers.Command.{parse_line}
use Rattle.scan.specs.Line.{next_line}
use Rattle.template.specs.declared.Extent.{Extent}
use Rattle.template.specs.Name.{same_bytes}
use Rattle.template.specs.Lines.{lines_of}
use Rattle.template.specs.Sections.{end_at}

-- the name that a form of the line l has, by its first eight characters: "Names are compared by their first eight characters"
unfoldable pub name_in : List ℕ → Line → Option (List ℕ)
name_in l (Section start end) = Some (take 8 (take (end - start) (drop start l)))
name_in l Text = None
name_in l (Set o t a) = None
name_in l (IfNot a) = None
name_in l (If a) = None
name_in l (Compare c a b) = None
name_in l Else = None
name_in l EndIf = None
name_in l (BeginTable a) = None
name_in l (EndTable k) = None
name_in l (Records f) = None
name_in l (Entries f) = None
name_in l (Datasource i) = None
name_in l NoFormFeed = None
name_in l (NewPage n) = None
name_in l (Heading n at) = None
name_in l (NoHeading n) = None
name_in l Remark = None

-- none where the line has no form
abbrev pub name_parsed : List ℕ → Option Line → Option (List ℕ)
name_parsed l (Some f) = name_in l f
name_parsed l None = None

abbrev pub name_spelled : List ℕ → Option (List ℕ)
name_spelled l = name_parsed l (parse_line l)

unfoldable pub is_in : List ℕ → List (List ℕ) → Bool
is_in name [] = false
is_in name (x ∷ xs) = cond (same_bytes name x) true (is_in name xs)

-- 5: "A section name came before; the later line is named": some lines, counted from n, behind sections with the names seen
unfoldable pub repeated_from : ℕ → List (List ℕ) → List (List ℕ) → Option ℕ
repeated_from n seen [] = None
repeated_from n seen (l ∷ ls) =
    elim (name_spelled l) [
      | None ↦ repeated_from (suc n) seen ls
      | Some name ↦ cond (is_in name seen) (Some n) (repeated_from (suc n) (name ∷ seen) ls)
    ]

-- "The caller's name selects one section; an empty name selects all": any section, or this one
unfoldable pub is_section : Option (List ℕ) → Bool
is_section None = false
is_section (Some name) = true

unfoldable pub is_named : List ℕ → Option (List ℕ) → Bool
is_named caller None = false
is_named caller (Some name) = same_bytes (take 8 caller) name

unfoldable pub chooses : List ℕ → List ℕ → Bool
chooses caller l = cond (eqb (length caller) 0) (is_section (name_spelled l)) (is_named caller (name_spelled l))

-- 6: the first of some lines that is chosen: where it starts, and its number; the first line starts at `at` behind n lines
unfoldable pub chosen_from : List ℕ → ℕ → ℕ → List (List ℕ) → Option (ℕ × ℕ)
chosen_from caller at n [] = None
chosen_from caller at n (l ∷ ls) = cond (chooses caller l) (Some (at, suc n)) (chosen_from caller (at + (length l + 1)) (suc n) ls)

-- "to the line before the next $SEC (or to the end)": where the run ends whose $SEC line starts at `at`; "an empty name selects all"
unfoldable pub chosen_end : List ℕ → List ℕ → ℕ → ℕ → ℕ
chosen_end t caller at n =
    cond (eqb (length caller) 0) (length t) (end_at t (chosen_from [] (next_line t at) n (lines_of (drop (next_line t at) t))))

-- "A run goes from the selected (or first) $SEC line to the line before the next $SEC (or to the end)"
unfoldable pub run_of : List ℕ → List ℕ → Option (ℕ × ℕ) → Option Extent
run_of t caller (Some (at, n)) = Some (record { start = at; line = n; until = chosen_end t caller at n })
run_of t caller None = None

unfoldable pub chosen_run : List ℕ → List ℕ → Option Extent
chosen_run t caller = run_of t caller (chosen_from caller 0 0 (lines_of t))
