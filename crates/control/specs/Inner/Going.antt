-- The code's state behind a line, with one part of it anew.
use Rattle.std.specs.Prelude.{Bool, List, ℕ, ◌+◌, pos, drop}
use Rattle.template.specs.declared.seek.Sought.{Sought}
use Rattle.template.specs.Seek.{skipped}
use Rattle.values.specs.declared.scene.Scene.{Scene}
use Rattle.commands.specs.Looping.{loop, innermost}
use Rattle.commands.specs.Inner.Open.{opened}
use Rattle.pages.specs.declared.page.Page.{Page}
use Rattle.control.specs.declared.state.Flow.{Flow}

-- what a line with a number is executed in; ws are the words of the open tables
abbrev pub scene_of : List ℕ → Flow → ℕ → Scene
scene_of ws f l = record { datasource = f.datasource; page = f.page.number; row = f.page.row; number = l; turn = pos (loop (opened ws f.depth)) }

abbrev pub placed_at : Flow → ℕ → ℕ → Flow
placed_at f at line = record { at = at; line = line; datasource = f.datasource; feeds = f.feeds; page = f.page; depth = f.depth }

abbrev pub datasource_in : Flow → ℕ → Flow
datasource_in f d = record { at = f.at; line = f.line; datasource = d; feeds = f.feeds; page = f.page; depth = f.depth }

abbrev pub depth_in : Flow → ℕ → Flow
depth_in f d = record { at = f.at; line = f.line; datasource = f.datasource; feeds = f.feeds; page = f.page; depth = d }

abbrev pub feeds_in : Flow → Bool → Flow
feeds_in f x = record { at = f.at; line = f.line; datasource = f.datasource; feeds = x; page = f.page; depth = f.depth }

abbrev pub page_in : Flow → Page → Flow
page_in f p = record { at = f.at; line = f.line; datasource = f.datasource; feeds = f.feeds; page = p; depth = f.depth }

abbrev pub jumped_in : List ℕ → Flow → Sought → Flow
jumped_in t f q = placed_at f (f.at + (skipped (drop f.at t) q).bytes) (f.line + (skipped (drop f.at t) q).lines)

abbrev pub again_in : List ℕ → Flow → Flow
again_in ws f = placed_at f (innermost (opened ws f.depth)).start (innermost (opened ws f.depth)).line
