-- The line that is due: split, parsed, and executed in its form.
use Rattle.std.specs.Prelude.{Option, Some, None, IsSome}
use mathlib.Core.Path.{◌≡◌, refl, sym, ap, ◌∙◌, subst}
use mathlib.Core.List.{List}
use Prim.Native.Nat.{ℕ, ◌+◌, ◌-◌, ◌≤◌}
use native.Mathlib.Omega.{arith}
use lib.ListN.{length, take, drop, length-map, length-drop}
use lib.Seq.{take_all}
use Rattle.scan.specs.declared.run.Class.TheVariants.{InLine}
use Rattle.scan.specs.Line.{line_of, line_at}
use Rattle.scan.proofs.RunLaws.{take_span}
use Rattle.nesting.specs.declared.Shape.TheVariants.{Table}
use Rattle.arguments.specs.declared.argument.Argument.{Argument}
use Rattle.lines.specs.declared.command.Line.{Line}
use Rattle.lines.specs.declared.command.Line.TheVariants.{BeginTable}
use Rattle.lines.specs.Readers.Command.{parse_line}
use Rattle.template.specs.Shape.{shape_in, shape_of}
use Rattle.template.proofs.Opening.{checks_short, opens_line}
use Rattle.values.specs.declared.scene.Scene.{Scene}
use Rattle.values.specs.Inner.State.{tables_in, headings_in, Held}
use Rattle.commands.specs.Inner.Open.{opened}
use Rattle.commands.proofs.Tabling.{opened_length}
use Rattle.pages.specs.Inner.Packed.{heading_in}
use Rattle.lines.proofs.Accepted.{parsed_sound}
use Rattle.lines.specs.Inner.Known.{form_of}
use Rattle.lines.proofs.KnownLaws.{form_known}
use Rattle.control.specs.declared.state.Flow.{Flow}
use Rattle.control.specs.Line.{form_meaning, parsed_meaning, line_meaning}
use Rattle.control.specs.Inner.Sound.{Nested}
use Rattle.control.specs.Inner.Going.{scene_of, placed_at}
use Rattle.control.specs.Inner.Executing.{source_of, state_at, machine_in, Executes, LineReady, FormReady}
use Rattle.lines.specs.declared.command.Line.TheVariants as form
use Rattle.lines.specs.Inner.Sound as parsed
use Rattle.values.specs.Inner.Texts.{Strings, strings, Sized}
use Rattle.values.specs.declared.working.Inputs.{Inputs}
use Rattle.values.specs.Inner.Yielding.{meant}
use Rattle.control.specs.State.{State, seen}
use Rattle.control.specs.Inner.Forms.{optional_input, inputs_of, form_with}
use Rattle.control.proofs.Forms.{form_inputs}
use Rattle.control.proofs.Commanding.{inputs_then, inputs_over}
use Rattle.executed_line.specs.Inner.Performing.{Performs}
use Rattle.executed_line.proofs.Places.{nested_few, nested_line, nested_room}
use Rattle.meaning.specs.declared.end.Stop.{Stop}
use Rattle.meaning.specs.Meaning.{Meaning}
use Rattle.meaning.specs.Number.{ended_in}
use Rattle.meaning.specs.Inner.Place.{Does}
use Rattle.values.specs.declared.log.Log.{Log}
use Rattle.values.specs.Inner.Logged.{filled_to}
use Rattle.values.specs.declared.worth.Worth as D
use Rattle.values.specs.Inner.Working.{Worths, worths, both_meant, inputs_meaning, first_parameter, second_parameter, Workable, WorksOut}
use Rattle.std.specs.Prelude.{Result, Ok, Err}

module _ {b index t : List ℕ} {h : Held} {f : Flow} {T : List ℕ} {u : ℕ} {log : Log} (k : LineReady b index t h f T u log) {body : List ℕ} (e : body ≡ line_of (take (length t - f.at) (drop f.at t))) where
  here : Nested t f.at f.line (opened (tables_in h.words) f.depth)
  here = k.sound.nested k.inside

  body_is : body ≡ line_at t f.at
  body_is = e ∙ ap line_of (take_all (length t - f.at) (drop f.at t) (omega (arith, length-drop f.at t)))

  body_short : length body ≤ 132
  body_short = omega (arith, ap length body_is, (opens_line k.sound.checks here.opens k.inside).short)

  pub past_ready : (f.at + length body ≤ 65536) × (f.line ≤ 65536)
  past_ready = (omega (arith, body_short, k.inside, checks_short k.sound.checks), omega (arith, nested_line k.sound.checks here k.inside, k.inside, checks_short k.sound.checks))

  -- the line was accepted, so it has a form
  known : form_of body ≡ parse_line body
  known = rw body_is (form_known (line_at t f.at) (opens_line k.sound.checks here.opens k.inside).parsed)

  pub has_form : (x : Option Line) → x ≡ form_of body → IsSome x
  has_form (Some f) e = refl
  has_form None e = absurd ((opens_line k.sound.checks here.opens k.inside).parsed (ap parse_line (sym body_is) ∙ sym known ∙ sym e))

  pub form_parsed : {line : Line} (x : Option Line) → x ≡ form_of body → x ≡ Some line → Some line ≡ parse_line body
  form_parsed x e q = sym q ∙ e ∙ known

  module _ {scene : Scene} {next : Flow} {line : Line} (s : scene ≡ scene_of (tables_in h.words) f f.line) (n : next ≡ placed_at f (f.at + length body + 1) (f.line + 1)) (l : Some line ≡ parse_line body) where
    few : f.depth ≤ 5
    few = omega (arith, nested_few k.sound.checks here k.inside, opened_length (tables_in h.words) f.depth)

    table_shape : (x : Argument) → line ≡ BeginTable x → shape_of (line_at t f.at) ≡ Table
    unfolding shape_of shape_in
    table_shape x q = ap shape_in (sym (l ∙ ap parse_line body_is) ∙ ap (λ (y : Line). Some y) q)

    room : (x : Argument) → line ≡ BeginTable x → f.depth ≤ 4
    room x q = omega (arith, nested_room k.sound.checks here k.inside (table_shape x q), opened_length (tables_in h.words) f.depth)

    pub form_ready : (log₁ : Log) → log₁.asked ≤ log.asked + 2 → FormReady body b index t h scene f.at next line T u log₁
    form_ready log₁ few' = rw (n, s) (record {
      kept = k.kept;
      stored = k.stored;
      scened = refl;
      parsed = parsed_sound body line (sym l);
      within = rw body_is (take_span InLine (drop f.at t));
      short = body_short;
      template = checks_short k.sound.checks;
      placed = omega (arith, k.inside, checks_short k.sound.checks);
      numbered = (omega (arith, here.number), omega (arith, nested_line k.sound.checks here k.inside, k.inside, checks_short k.sound.checks));
      few = omega (arith, nested_line k.sound.checks here k.inside, k.inside, checks_short k.sound.checks);
      datasource = k.sound.datasource;
      tables = few;
      room_for_table = room;
      page = k.sound.number;
      row = k.sound.last_row;
      decimals = k.sound.variables.decimals;
      rows = k.rows;
      table_words = k.table_words;
      headings = sym (length-map (headings_in h.words) heading_in) ∙ k.sound.headings;
      heads = k.sound.heads;
      remembered = k.remembered;
      room = k.room;
      places = omega (arith, k.places);
    })

    -- what the arguments require
    small : (x : Option Argument) → parsed.SmallOptional x → (first_parameter (optional_input x) ≤ 65535) × (second_parameter (optional_input x) ≤ 65535)
    unfolding optional_input first_parameter second_parameter
    small (Some y) e = (e, omega arith)
    small None e = (omega arith, omega arith)

    both : (x : Line) → parsed.Sound body x → (first_parameter (inputs_of x) ≤ 65535) × (second_parameter (inputs_of x) ≤ 65535)
    unfolding inputs_of first_parameter second_parameter
    both form.Text e = (omega arith, omega arith)
    both (form.Section x y) e = (omega arith, omega arith)
    both (form.Set o v x) e = (e, omega arith)
    both (form.IfNot x) e = (e, omega arith)
    both (form.If x) e = (e, omega arith)
    both (form.Compare c x y) e = (e.0, e.1)
    both form.Else e = (omega arith, omega arith)
    both form.EndIf e = (omega arith, omega arith)
    both (form.BeginTable x) e = (e, omega arith)
    both (form.EndTable x) e = small x e
    both (form.Records x) e = (omega arith, omega arith)
    both (form.Entries x) e = (omega arith, omega arith)
    both (form.Datasource i) e = (omega arith, omega arith)
    both form.NoFormFeed e = (omega arith, omega arith)
    both (form.NewPage x) e = small x e
    both (form.Heading m from) e = (omega arith, omega arith)
    both (form.NoHeading m) e = (omega arith, omega arith)
    both form.Remark e = (omega arith, omega arith)

    pub inputs_ready : (i : Inputs) → i ≡ inputs_of line → Workable scene.datasource i log.asked × Sized body b
    inputs_ready i q =
        let w = both line (parsed_sound body line (sym l)) in
        rw q (record { datasource = omega (arith, ap (λ (y : Scene). y.datasource) s, k.sound.datasource); first = w.0; second = w.1; places = omega (arith, k.places) }, record { short_line = omega (arith, body_short); short_store = k.stored })

    line_executes : (h' : Held) (f' : Flow) (T' : List ℕ) (u' : ℕ) (log' : Log) (r : Result (Unit {0}) Stop) → Executes 332 (form_meaning t f.at scene.number body (state_at b h next) line) b h next T u log h' f' T' u' log' r → Executes 332 (line_meaning t (state_at b h f)) b h f T u log h' f' T' u' log' r
    unfolding line_meaning
    line_executes h' f' T' u' log' r d =
        let m : Executes 332 (parsed_meaning t f.at scene.number body (state_at b h next) (parse_line body)) b h next T u log h' f' T' u' log' r = subst (λ (y : Option Line). Executes 332 (parsed_meaning t f.at scene.number body (state_at b h next) y) b h next T u log h' f' T' u' log' r) l d in
        let x = rw (n, s) at m in
        rw (← body_is) (record { does = x.does; few = x.few; rows = x.rows })

    -- the arguments, then the line by their values
    module _ (i : Inputs) (same : i ≡ inputs_of line) (log₁ : Log) where
      abbrev now : State
      now = state_at b h next

      abbrev S : Strings
      S = strings body b h.rows

      abbrev asked : Meaning Worths
      asked = inputs_meaning (seen now) body scene.number (inputs_of line)

      seen_same : machine_in b h scene ≡ seen now
      seen_same = rw (n, s)

      did : (v : Result (D.Worth × D.Worth) Stop) → WorksOut body b index h scene i log log₁ v → Does (source_of b) asked (filled_to T u log next.page.number) (filled_to T u log₁ next.page.number) (ended_in (both_meant S) v)
      did v w = rw (← same, ← seen_same) (w.does (length b) k.kept.cells k.kept.ready T u next.page.number)

      pub line_over : (e : Stop) → WorksOut body b index h scene i log log₁ (Err e) → Executes 332 (line_meaning t (state_at b h f)) b h f T u log h next T u log₁ (Err e)
      line_over e w =
          line_executes h next T u log₁ (Err e) (rw (form_inputs t f.at scene.number body now line) (inputs_over asked (form_with t f.at scene.number body now line) w.few e (did (Err e) w)))

      pub line_follows : (v w : D.Worth) → WorksOut body b index h scene i log log₁ (Ok (v, w)) → (h' : Held) (f' : Flow) (T' : List ℕ) (u' : ℕ) (log' : Log) (r : Result (Unit {0}) Stop) → Performs body b t h scene f.at next line v w T u log₁ h' f' T' u' log' r → Executes 332 (line_meaning t (state_at b h f)) b h f T u log h' f' T' u' log' r
      line_follows v w x h' f' T' u' log' r d =
          line_executes h' f' T' u' log' r (rw (form_inputs t f.at scene.number body now line) (inputs_then asked (form_with t f.at scene.number body now line) x.few (worths (meant S v) (meant S w)) (did (Ok (v, w)) x) d.executes))
