-- In every state that a run reaches, a failed test, an executed $ELSE and a skipped table go on behind their match.
use Rattle.std.specs.Prelude.{Ok, Some}
use mathlib.Core.Path.{◌≡◌, refl, sym, ap, ◌∙◌, subst}
use mathlib.Core.Bool.{Bool, true, false, cond}
use mathlib.Core.List.{List, ◌∷◌}
use Prim.Native.Nat.{ℕ, suc, ◌+◌, ◌<◌}
use native.Mathlib.Omega.{arith}
use lib.IntN.{ℤ, pos, nat_abs}
use lib.Signed.{lt_z}
use lib.ListN.{length, drop, length-drop}
use Rattle.scan.specs.Line.{line_at, next_line}
use Rattle.arguments.specs.declared.argument.Argument.{Argument}
use Rattle.lines.specs.declared.command.Line.{Line}
use Rattle.lines.specs.declared.command.Line.TheVariants as form
use Rattle.lines.specs.Readers.Command.{parse_line}
use Rattle.nesting.specs.declared.Shape.TheVariants.{Test}
use Rattle.nesting.specs.Nest.{Mark}
use Rattle.template.specs.declared.Extent.{Extent}
use Rattle.template.specs.declared.seek.Sought.{Sought}
use Rattle.template.specs.declared.seek.Sought.TheVariants.{Branch, TestEnd, TableEnd}
use Rattle.template.specs.Order.{template_checked}
use Rattle.template.specs.Shape.{shape_in, shape_of}
use Rattle.template.specs.Lines.{lines_of}
use Rattle.template.specs.Checks.{nest_step}
use Rattle.template.specs.Opening.{OpenBefore, at_first, at_next, Checks}
use Rattle.template.proofs.Accepted.{accepted_runs}
use Rattle.template.proofs.Opening.{open_inside, behind_test, behind_else, behind_table}
use Rattle.template.proofs.Matching.{here, top_of, over_open}
use Rattle.meaning.specs.Answer.{Answer}
use Rattle.meaning.specs.Tree.{done, bind, finished, run}
use Rattle.meaning.specs.Meaning.{Meaning}
use Rattle.meaning.specs.declared.question.Question.{Question}
use Rattle.meaning.proofs.Binding.{bind_assoc, bind_same}
use Rattle.commands.specs.Settling.{integer_meaning}
use Rattle.commands.specs.Testing.{zero_meaning, test_meaning}
use Rattle.commands.specs.Looping.{Looping, looping, new_table, begun, begin_meaning}
use Rattle.control.specs.State.{Position, State, seen}
use Rattle.control.specs.Line.{jumped, branched, testing, table_begun, form_meaning}
use Rattle.control.specs.Inner.Sound.{Nested}
use Rattle.structure.specs.Matching.{MatchedBy}
use Rattle.structure.proofs.Matches.{skipped_is_match, matched_one}
use Rattle.report.specs.Report.{start_of}
use Rattle.report.specs.Inner.Stretch.{stretch}
use Rattle.demands.specs.Due.{bytes_due, on_next, on_at, in_table}
use Rattle.demands.specs.Matching.{OpenAround, of_test, of_else, of_table, BehindMatch, TestGoesOn, ElseGoesOn, TableGoesOn, GoesOn}
use Rattle.demands.proofs.Due.{by_form, line_means}
use Rattle.demands.proofs.Reached.{reached_sound}

-- ---- there is one position behind the match at most

opens_one : {t : List ℕ} {at at' n : ℕ} {M M' : List Mark} → OpenBefore t at n M → OpenBefore t at' n M' → (at ≡ at') × (M ≡ M')
opens_one at_first at_first = (refl, refl)
opens_one {t} (at_next {M = B} o h e) (at_next {at = a'} o' h' e') =
    let (p, m) = opens_one o o' in
    let q = sym e ∙ ap (λ (x : ℕ). nest_step B (line_at t x)) p ∙ ap (λ (X : List Mark). nest_step X (line_at t a')) m ∙ e' in
    (ap (next_line t) p, (cc q))

around_one : {q : Sought} {B M M' : List Mark} → OpenAround q B M → OpenAround q B M' → M ≡ M'
around_one (of_test M) (of_test M') = refl
around_one (of_else M) (of_else M') = refl
around_one (of_table M) (of_table M') = refl

-- So the matching line is one line.
pub behind_one : {t : List ℕ} {q : Sought} {from to to' : Position} → BehindMatch t q from to → BehindMatch t q from to' → (to.at ≡ to'.at) × (to.line ≡ to'.line)
behind_one {t} {q} {from} a b =
    let n : b.count ≡ a.count = omega (arith, a.from_line, b.from_line) in
    let o = (opens_one (subst (λ (k : ℕ). OpenBefore t from.at k b.before) n b.opens) a.opens).1 in
    let w = (opens_one (subst (λ (k : ℕ). OpenBefore t (next_line t from.at) (suc k) b.behind) n b.opened) a.opened).1 in
    let m = around_one (subst (λ (B : List Mark). OpenAround q B b.around) o b.stands) a.stands in
    let ls = lines_of (drop (next_line t from.at) t) in
    let i = matched_one a.matched (subst (λ (W : List Mark). MatchedBy q a.around W ls b.bytes b.lines) w (subst (λ (M : List Mark). MatchedBy q M b.behind ls b.bytes b.lines) m b.matched)) in
    (omega (arith, a.place, b.place, i.0), omega (arith, a.to_line, b.to_line, i.1))

-- ---- a line that is due where what check 4 has open is known

module _ {t : List ℕ} (c : Checks t) (s : State) (h : s.position.at < length t) (n : Nested t s.position.at s.position.line s.tables) where
  shaped : (f : Line) → parse_line (bytes_due t s) ≡ Some f → shape_of (bytes_due t s) ≡ shape_in (Some f)
  unfolding shape_of
  shaped f e = ap shape_in e

  -- where the search leads from the next line on
  abbrev behind_match : Sought → Position
  behind_match q = (jumped t (on_next t s) q).position

  behind_match_law : (q : Sought) (M : List Mark) → OpenAround q n.marks M → OpenBefore t (next_line t s.position.at) (suc n.before) (top_of q ∷ M) → BehindMatch t q s.position (behind_match q)
  behind_match_law q M a o =
      let p = skipped_is_match c q o in
      let i = open_inside c o (over_open {M = M} q here).1 in
      record {
        count = n.before;
        before = n.marks;
        behind = top_of q ∷ M;
        around = M;
        from_line = n.number;
        opens = n.opens;
        opened = o;
        stands = a;
        bytes = p.bytes;
        lines = _;
        matched = p.matched;
        place = omega (arith, p.passed, length-drop (next_line t s.position.at) t);
        to_line = omega arith;
      }

  -- a test
  test_goes_on : (f : Line) (m : Meaning Bool) → parse_line (bytes_due t s) ≡ Some f → shape_in (Some f) ≡ Test → by_form t s f ≡ testing t (on_next t s) m → TestGoesOn t s m
  unfolding branched
  test_goes_on f m e k w =
      record {
        to = behind_match Branch;
        match = behind_match_law Branch n.marks (of_test n.marks) (behind_test c n.opens h (shaped f e ∙ k));
        means = line_means t s f e ∙ w ∙ bind_same m (λ holds. done (branched t (on_next t s) holds)) (λ holds. done (cond holds (on_next t s) (on_at s (behind_match Branch)))) by;
      }
    where
      by : (b : Bool) → ◌≡◌ {A = Meaning State} (done (branched t (on_next t s) b)) (done (cond b (on_next t s) (on_at s (behind_match Branch))))
      by true = refl
      by false = refl

  else_goes_on : parse_line (bytes_due t s) ≡ Some form.Else → ElseGoesOn t s
  unfolding form_meaning shape_in
  else_goes_on e =
      let o = behind_else c n.opens h (shaped form.Else e) in
      record {
        to = behind_match TestEnd;
        match = behind_match_law TestEnd o.0 (subst (λ (B : List Mark). OpenAround TestEnd B o.0) (sym o.1) (of_else o.0)) o.2;
        means = line_means t s form.Else e;
      }

  table_goes_on : (a : Argument) → parse_line (bytes_due t s) ≡ Some (form.BeginTable a) → TableGoesOn t s a
  unfolding form_meaning shape_in begin_meaning table_begun begun
  table_goes_on a e =
      record {
        to = behind_match TableEnd;
        match = behind_match_law TableEnd n.marks (of_table n.marks) (behind_table c n.opens h (shaped (form.BeginTable a) e)).0;
        means = line_means t s (form.BeginTable a) e ∙ bind_assoc m next (λ x. done (table_begun t (on_next t s) x)) ∙ bind_same m (λ z. bind (next z) (λ x. done (table_begun t (on_next t s) x))) (λ z. done (cond (lt_z z (pos 1)) (on_at s (behind_match TableEnd)) (in_table t s z))) (λ z. by z (lt_z z (pos 1)));
      }
    where
      m : Meaning ℤ
      m = integer_meaning (seen s) (bytes_due t s) s.position.line a

      next : ℤ → Meaning Looping
      next z = done (begun s.tables (next_line t s.position.at) (s.position.line + 1) z)

      by : (z : ℤ) (b : Bool) → ◌≡◌ {A = Meaning State} (done (table_begun t (on_next t s) (cond b (looping s.tables true) (looping (new_table (nat_abs z) (next_line t s.position.at) (s.position.line + 1) ∷ s.tables) false)))) (done (cond b (on_at s (behind_match TableEnd)) (in_table t s z)))
      by z true = refl
      by z false = refl

  goes_on : GoesOn t s
  unfolding form_meaning shape_in
  goes_on =
      record {
        at_if_not = λ a e. test_goes_on (form.IfNot a) (zero_meaning (seen s) (bytes_due t s) s.position.line true a) e refl refl;
        at_if = λ a e. test_goes_on (form.If a) (zero_meaning (seen s) (bytes_due t s) s.position.line false a) e refl refl;
        at_compare = λ k a b e. test_goes_on (form.Compare k a b) (test_meaning (seen s) (bytes_due t s) s.position.line k a b) e refl refl;
        at_an_else = else_goes_on;
        at_begin_table = table_goes_on;
      }

-- The line that is due after any number of lines of an accepted template's run, whatever source answers it.
pub run_goes_behind_match : (t name : List ℕ) (r : Extent) → template_checked t name ≡ Ok r → (source : Question → Answer) (places room k : ℕ) (s : State) → (run source places room (stretch k t r.until (start_of r))).end ≡ finished s → s.position.at < r.until → GoesOn t s
run_goes_behind_match t name r e source places room k s f d =
    let i = (reached_sound t name r e source places room k s f).1 in
    let h : s.position.at < length t = omega (arith, (accepted_runs t name r e).inside) in
    goes_on i.checks s h (i.nested h)
