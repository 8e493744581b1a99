-- Asterisks where no field was put.
use Rattle.std.specs.Prelude.{Bool, true, false, List, ℕ, replicate}
use Rattle.buffers.specs.Buffer.{stored}
use Rattle.fields.specs.Field.{asterisk}

-- for the code: asterisks where no field was put
unfoldable pub starred : List ℕ → ℕ → ℕ → Bool → List ℕ
starred b n w true = b
starred b n w false = stored b n (replicate w asterisk)
