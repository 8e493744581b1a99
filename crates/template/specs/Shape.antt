-- What a line is to the checks of a whole template.
use Rattle.std.specs.Prelude.{Bool, true, false, cond, List, [], ◌∷◌, ℕ, Option, Some, None}
use Rattle.scan.specs.Line.{byte_is}
use Rattle.scan.specs.Words.{Spelled, ◌takes◌, first_of}
use Rattle.lines.specs.declared.command.Line.{Line}
use Rattle.lines.specs.declared.command.Line.TheVariants as form
use Rattle.lines.specs.Readers.Command.{parse_line}
use Rattle.nesting.specs.declared.Shape.{Shape}
use Rattle.nesting.specs.declared.Shape.TheVariants.{Section, Remark, Test, Else, EndTest, Table, EndTable, Plain, NoForm}

unfoldable pub shape_in : Option Line → Shape
shape_in None = NoForm
shape_in (Some form.Text) = Plain
shape_in (Some (form.Section a b)) = Section
shape_in (Some (form.Set a b c)) = Plain
shape_in (Some (form.IfNot a)) = Test
shape_in (Some (form.If a)) = Test
shape_in (Some (form.Compare a b c)) = Test
shape_in (Some form.Else) = Else
shape_in (Some form.EndIf) = EndTest
shape_in (Some (form.BeginTable a)) = Table
shape_in (Some (form.EndTable a)) = EndTable
shape_in (Some (form.Records a)) = Plain
shape_in (Some (form.Entries a)) = Plain
shape_in (Some (form.Datasource a)) = Plain
shape_in (Some form.NoFormFeed) = Plain
shape_in (Some (form.NewPage a)) = Plain
shape_in (Some (form.Heading a b)) = Plain
shape_in (Some (form.NoHeading a)) = Plain
shape_in (Some form.Remark) = Remark

-- by the form that the line spells (grammar/proofs/Lines:reads_what_is_spelled)
unfoldable pub shape_of : List ℕ → Shape
shape_of l = shape_in (parse_line l)

-- 3: "A line has no form above, a number literal exceeds ±2,000,000,000, or fields widen a line past 132 bytes."
unfoldable pub has_form : Shape → Bool
has_form Section = true
has_form Remark = true
has_form Test = true
has_form Else = true
has_form EndTest = true
has_form Table = true
has_form EndTable = true
has_form Plain = true
has_form NoForm = false

unfoldable pub is_formed : List ℕ → Bool
is_formed l = has_form (shape_of l)

-- the words that tell a shape: each test's begins with IF
unfoldable pub shape_words : List (Spelled Shape)
shape_words =
    "IF" takes (λ l at. Test)
    ∷ "ELSE" takes (λ l at. Else)
    ∷ "ENDIF" takes (λ l at. EndTest)
    ∷ "BT" takes (λ l at. Table)
    ∷ "ET" takes (λ l at. EndTable)
    ∷ "SEC" takes (λ l at. Section)
    ∷ "REM" takes (λ l at. Remark)
    ∷ []

-- what a line is by its word alone: the same where it has a form (proofs/WordForm:shape_by_word)
unfoldable pub word_shape : List ℕ → Shape
word_shape l = cond (byte_is l 0 "$") (first_of Plain shape_words l 1) Plain
