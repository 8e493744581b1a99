-- "`$REC n Pm record entry count` fills Rn"; "`$TBL` the same for Tn".
use Rattle.std.specs.Prelude.{cond, List, ℕ, ◌+◌, Option, Some, None}
use Rattle.scan.specs.Line.{byte_is}
use Rattle.scan.specs.Readers.Digits.{number_at}
use Rattle.arguments.specs.Readers.Index.{index_at}
use Rattle.lines.specs.declared.command.Fetch.{Fetch}
use Rattle.lines.specs.declared.command.Line.{Line}
use Rattle.lines.specs.Readers.Reading.{index_or, numeral_or}
use Rattle.lines.specs.Readers.Behind.{behind_space, ending}

-- "Pm", "1–65,535", without a filter
unfoldable pub parameter_at : List ℕ → ℕ → Option (ℕ × ℕ)
parameter_at l at = cond (byte_is l at "P") (number_at l (at + 1) 65535) None

-- "record entry count", indexes
unfoldable pub fetched_at : List ℕ → ℕ → ℕ → ℕ → Option (Fetch × ℕ)
fetched_at l at n m =
    index_or None (index_at l (behind_space l at)) (λ r next.
    index_or None (index_at l (behind_space l next)) (λ e after.
    index_or None (index_at l (behind_space l after)) (λ c end.
    Some (record { number = n; parameter = m; «record» = r; entry = e; count = c }, end))))

abbrev pub fetch_or : Option (Fetch × ℕ) → (Fetch → ℕ → Option Line) → Option Line
fetch_or (Some (f, end)) found = found f end
fetch_or None found = None

-- "Rn, Tn (n 1–10)"
unfoldable pub fetch_at : (Fetch → Line) → List ℕ → ℕ → Option Line
fetch_at form l at =
    numeral_or None (number_at l (behind_space l at) 10) (λ n next.
    numeral_or None (parameter_at l (behind_space l next)) (λ m after.
    fetch_or (fetched_at l after n m) (λ f end.
    ending l end (form f))))
