-- The state that stands for what the code holds between two lines.
use Rattle.meaning.specs.Answer.{Answer}
use Rattle.meaning.specs.declared.question.Question.{Question}
use Rattle.values.specs.Inner.State.{headings_in, tables_in, Held, variables_of}
use Rattle.commands.specs.Inner.Open.{opened}
use Rattle.pages.specs.Inner.Packed.{headings_of}
use Rattle.control.specs.declared.state.Flow.{Flow}
use Rattle.control.specs.State.{State}

-- from the code's state to the definition's, with the source that R and T were answered by
abbrev pub state_of : (Question → Answer) → Held → Flow → State
state_of source h f =
    record {
      position = record { at = f.at; line = f.line };
      variables = variables_of source h;
      datasource = f.datasource;
      tables = opened (tables_in h.words) f.depth;
      layout = record { headings = headings_of (headings_in h.words); form_feeds = f.feeds };
      page = f.page;
    }
