-- A line read where one is wanted, for each answer of the lexer and of the judge. Assumes nothing.
use Prim.Native.Nat.{ℕ, ◌+◌, ◌≤◌}
use native.Mathlib.Omega.{arith}
use native.Mathlib.Numerals.{add-one}
use mathlib.Core.Path.{◌≡◌, refl, sym, ap, ◌∙◌, subst}
use mathlib.Core.Bool.{Bool, true, false}
use mathlib.Core.List.{List}
use lib.Dec.{T}
use lib.ListN.{length, drop}
use Rattle.lists.proofs.Tests.{and_left, T→true, clash}
use Rattle.sheet_rules.specs.declared.MemberKind.{MemberKind}
use Rattle.sheet_rules.specs.declared.Operation.{Operation}
use Rattle.sheet_rules.specs.declared.Place.{Place}
use Rattle.sheet_rules.specs.declared.Reason.{Reason}
use Rattle.sheet_rules.specs.declared.Reason.TheVariants.{Malformed}
use Rattle.sheet_rules.specs.Limits.{row_limit, form_limit, device_limit}
use Rattle.sheet_rules.specs.Keys.{same_place, takes, stands}
use Rattle.sheet_rules.specs.Lines.{lines_of}
use Rattle.sheet_rules.specs.Sheet.{Instr}
use Rattle.sheet_rules.specs.Reader.{Judged, good, demand, got, refused, settle, one, count_line, existing_line}
use Rattle.sheet_rules.specs.RowLines.{row_line, member_line}
use Rattle.sheet_rules.specs.FormLines.{form_line, body_line, instr_line}
use Rattle.sheet_rules.specs.DeviceLines.{next_is}
use Rattle.lexer.specs.declared.numbers.Numbers.{Numbers}
use Rattle.std.specs.declared.option.Option.TheVariants.{Some, None}
use Rattle.lexer.specs.Scan.{found_line, line_at}
use Rattle.lexer.specs.Told.{list_of, Fitting}
use Rattle.lexer.proofs.LineLaws.{Found, no_line}
use Rattle.lexer.proofs.LineFound.{line_found}
use Rattle.std.specs.Prelude.{OnOk}
use Rattle.line_judges.specs.Told.{line_told, row_told, member_rest}
use Rattle.line_judges.proofs.StrictLaws.{Strict, Strict-count, Strict-existing, Strict-body, Strict-row, Strict-form, Strict-Member, Strict-instr, one_torn, one_line, Taken, line_taken}
use Rattle.line_reader.specs.declared.Cursor.{Cursor}
use Rattle.line_reader.specs.declared.TakenLine.{TakenLine}
use Rattle.std.specs.declared.result.Result.{Result}
use Rattle.std.specs.declared.result.Result.TheVariants.{Ok, Err}
use Rattle.sheet_rules.specs.declared.Refusal.{Refusal}
use Rattle.sheet_rules.specs.Answers.{turned_away}
use Rattle.line_reader.specs.Told.{NextTold, Room, LineThere, next_line, read_from, number, heading, instruction, Judges, settled, line_read, line_asked, Stands, Tells, Onward, LineTold, InstrTold}
use Rattle.line_reader.proofs.ExitLaws.{no_answer, same_answer}
use Rattle.sheet_rules.specs.Reader.{nth}

-- what is so where it is good, of a judgement
on_ok : {P : Type 0} (j : Result Unit Reason) → (j ≡ Ok tt → P) → OnOk j P
on_ok (Ok _) h = h refl
on_ok (Err r) h = tt

-- a judgement where a place is wanted, by which place it is
pub Judges-at : {wanted w : Place} → wanted ≡ w → (b : ℕ) (k : Place) (ns : Numbers) (j : Result Unit Reason) → Judges w b k ns j → Judges wanted b k ns j
Judges-at e b k ns j t = subst (λ (x : Place). Judges x b k ns j) (sym e) t

-- a line that was judged good has an instruction's place
good_place : (forms filled : ℕ) (k : Place) (ns : List ℕ) (i : Instr) → instr_line forms filled k ns ≡ good i → same_place k (Place.Instruction Operation.New) ≡ true
unfolding instr_line demand
good_place forms filled k ns i e =
    T→true (same_place k (Place.Instruction Operation.New))
    (and_left (same_place k (Place.Instruction Operation.New)) (takes k (length ns)) (go (stands (Place.Instruction Operation.New) k ns) _ e))
  where
    go : (b : Bool) (x : Judged Instr) → demand b Malformed x ≡ good i → T b
    go true x e = tt
    go false x e = clash (cc)

-- the key of the next line, by what the lexer gave
module _ (text : List ℕ) (at : ℕ) (wanted : Place) where
  pub next_untaken : line_at text at ≡ None → NextTold wanted (lines_of (drop at text)) false
  next_untaken e = go (subst (Found text at) e (line_found text at))
    where
      go : Found text at None → NextTold wanted (lines_of (drop at text)) false
      go (no_line r) = NextTold.untaken r

  pub next_told : {k : Place} (ns : Numbers) {next : ℕ} → line_at text at ≡ Some (found_line k (list_of ns) next) → {b : Bool} → b ≡ same_place k wanted
      → NextTold wanted (lines_of (drop at text)) b
  next_told {k} ns {next} e h = NextTold.told (h ∙ sym (ap (next_is wanted) (line_taken text at k ns next e).lines))

module _ (text : List ℕ) (c : Cursor) where
  -- no line, or one that no place takes
  module _ (e : line_at text c.at ≡ None) where
    torn : {A : Type 0} (judge : Place → List ℕ → Judged A) → Strict judge → refused Malformed c.line ≡ read_from text c (one judge)
    torn judge st = sym (one_torn text c.at judge st c.line e)

    Tells-torn : (wanted : Place) (b : ℕ) → Tells wanted b text c (turned_away Malformed c.line)
    Tells-torn Place.Types b = torn (count_line Place.Types 1 row_limit) (Strict-count Place.Types 1 row_limit)
    Tells-torn Place.Row b = ((λ earlier. torn (row_line earlier) (Strict-row earlier)), λ line x. no_answer x)
    Tells-torn (Place.Member m) b =
        ((λ limit earlier h before low. torn (member_line limit earlier h before) (Strict-Member limit earlier h before)), λ line x. no_answer x)
    Tells-torn Place.Forms b = torn (count_line Place.Forms 0 form_limit) (Strict-count Place.Forms 0 form_limit)
    Tells-torn Place.Form b = torn (form_line b) (Strict-form b)
    Tells-torn Place.Keep b = torn (existing_line Place.Keep b) (Strict-existing Place.Keep b)
    Tells-torn Place.Init b = torn (existing_line Place.Init b) (Strict-existing Place.Init b)
    Tells-torn Place.Body b = torn (body_line Place.Body b) (Strict-body Place.Body b)
    Tells-torn Place.Devices b = torn (count_line Place.Devices 1 device_limit) (Strict-count Place.Devices 1 device_limit)
    Tells-torn Place.Device b = torn (existing_line Place.Device b) (Strict-existing Place.Device b)
    Tells-torn Place.Main b = torn (body_line Place.Main b) (Strict-body Place.Main b)
    Tells-torn (Place.Instruction o) b = refl
    Tells-torn Place.Nowhere b = refl

    pub told_torn : (wanted : Place) (b : ℕ) → LineTold wanted b text c (turned_away Malformed c.line)
    told_torn wanted b = record { told = Tells-torn wanted b; onward = Onward.stopped }

    pub instr_torn : (forms filled : ℕ) → InstrTold forms filled text c (turned_away Malformed c.line)
    instr_torn forms filled =
        record {
          told = torn (instr_line forms filled) (Strict-instr forms filled);
          stands = λ line x. no_answer x;
          onward = Onward.stopped;
        }

  -- a line, judged
  module _ (line : TakenLine) (e : line_at text c.at ≡ Some (found_line line.place (list_of line.numbers) line.next.at)) (follows : line.next ≡ next_line c line.next.at) where
    abbrev k : Place
    k = line.place

    abbrev ns : Numbers
    ns = line.numbers

    asked : {A : Type 0} (judge : Place → List ℕ → Judged A) (ask : Place → Numbers → Judged A) (j : Result Unit Reason)
        → line_told j (ask k ns) ≡ judge k (list_of ns) → line_asked text c.line ask (settled j line c.line) ≡ read_from text c (one judge)
    unfolding settle
    asked judge ask j t = each j ∙ ap (λ x. settle x (lines_of (drop line.next.at text)) c.line) t ∙ sym (one_line text c.at judge c.line k ns line.next.at e)
      where
        each : (j : Result Unit Reason) → line_asked text c.line ask (settled j line c.line) ≡ settle (line_told j (ask k ns)) (lines_of (drop line.next.at text)) c.line
        each (Ok _) = refl
        each (Err q) = refl

    judged : {A : Type 0} (judge : Place → List ℕ → Judged A) (make : Place → Numbers → A) (j : Result Unit Reason)
        → line_told j (good (make k ns)) ≡ judge k (list_of ns) → line_read text make (settled j line c.line) ≡ read_from text c (one judge)
    unfolding settle
    judged judge make j t = each j ∙ asked judge (λ k ns. good (make k ns)) j t
      where
        each : (j : Result Unit Reason) → line_read text make (settled j line c.line) ≡ line_asked text c.line (λ k ns. good (make k ns)) (settled j line c.line)
        each (Ok _) = ap (λ (m : ℕ). got (make k ns) (lines_of (drop line.next.at text)) m) (ap (λ (x : Cursor). x.line) follows ∙ add-one c.line)
        each (Err q) = refl

    -- a fact of every good line, by what was settled
    of_good : (P : TakenLine → Type 0) (j : Result Unit Reason) → OnOk j (P line) → (line' : TakenLine) → settled j line c.line ≡ Ok line' → P line'
    of_good P (Ok _) h line' x = subst P (same_answer x) h
    of_good P (Err q) h line' x = no_answer x

    here : (w : Place) (j : Result Unit Reason) → OnOk j (same_place k w ≡ true) → Stands w (settled j line c.line)
    here w = of_good (λ x. same_place x.place w ≡ true)

    Tells-line : (wanted : Place) (b : ℕ) (j : Result Unit Reason) → Judges wanted b k ns j → Tells wanted b text c (settled j line c.line)
    Tells-line Place.Types b j t = judged (count_line Place.Types 1 row_limit) number j t
    Tells-line Place.Row b j t = ((λ earlier. asked (row_line earlier) (λ k ns. row_told earlier (nth ns.values 0) (nth ns.values 1)) j (t.0 earlier)), of_good (λ x. (nth x.numbers.values 1) ≤ 8) j t.1)
    Tells-line (Place.Member m) b j t = (
      (λ limit earlier h before low. asked (member_line limit earlier h before) (λ k ns. member_rest limit earlier h before k (list_of ns)) j (t.0 limit earlier h before low)),
      here (Place.Member MemberKind.Method) j t.1,
    )
    Tells-line Place.Forms b j t = judged (count_line Place.Forms 0 form_limit) number j t
    Tells-line Place.Form b j t = judged (form_line b) heading j t
    Tells-line Place.Keep b j t = judged (existing_line Place.Keep b) number j t
    Tells-line Place.Init b j t = judged (existing_line Place.Init b) number j t
    Tells-line Place.Body b j t = judged (body_line Place.Body b) number j t
    Tells-line Place.Devices b j t = judged (count_line Place.Devices 1 device_limit) number j t
    Tells-line Place.Device b j t = judged (existing_line Place.Device b) number j t
    Tells-line Place.Main b j t = judged (body_line Place.Main b) number j t
    Tells-line (Place.Instruction o) b j t = ap (λ (x : Result Unit Reason). settled x line c.line) t
    Tells-line Place.Nowhere b j t = ap (λ (x : Result Unit Reason). settled x line c.line) t

    taken : Taken text c.at k ns line.next.at
    taken = line_taken text c.at k ns line.next.at e

    onward : Room text c → (j : Result Unit Reason) → Onward text c (settled j line c.line)
    onward room (Ok _) =
        let l : line.next.line ≡ c.line + 1 = ap (λ (x : Cursor). x.line) follows in
        let u : line.next.used ≡ c.used = ap (λ (x : Cursor). x.used) follows in
        let lines : line.next.line ≤ line.next.at + 1 = omega (arith, room.lines, taken.later) in
        let pool : line.next.used ≤ 1024 = omega (arith, room.pool) in
        Onward.moved
        (record {
          later = taken.later;
          room = record { small = room.small; inside = taken.inside; lines = lines; pool = pool };
          fitting = taken.fitting;
          follows = l;
          pool = u;
        })
    onward room (Err q) = Onward.stopped

  -- by what the lexer gave
  pub was_torn : line_at text c.at ≡ None → LineThere text c (turned_away Malformed c.line)
  was_torn e = LineThere.torn e

  pub was_there : {k : Place} {ns : Numbers} {at : ℕ} → line_at text c.at ≡ Some (found_line k (list_of ns) at) → {next : Cursor} → next ≡ next_line c at
      → LineThere text c (Ok (record { place = k; numbers = ns; next = next }))
  was_there {k} {ns} {at} e f =
      let g = ap (λ (x : Cursor). x.at) f in
      LineThere.there (e ∙ ap (λ (i : ℕ). Some (found_line k (list_of ns) i)) (sym g)) (f ∙ ap (next_line c) (sym g))

  pub there_fitting : {r : Result TakenLine Refusal} → LineThere text c r → {line : TakenLine} → r ≡ Ok line → Fitting line.place line.numbers
  there_fitting t x = go (subst (LineThere text c) x t)
    where
      go : {line : TakenLine} → LineThere text c (Ok line) → Fitting line.place line.numbers
      go (LineThere.there e f) = (taken _ e f).fitting

  module _ {r : Result TakenLine Refusal} (t : LineThere text c r) {q : Refusal} (x : r ≡ Err q) where
    pub told_stop : (wanted : Place) (b : ℕ) → LineTold wanted b text c (Err q)
    told_stop wanted b = go (subst (LineThere text c) x t)
      where
        go : {q : Refusal} → LineThere text c (Err q) → LineTold wanted b text c (Err q)
        go (LineThere.torn e) = told_torn e wanted b

    pub instr_stop : (forms filled : ℕ) → InstrTold forms filled text c (Err q)
    instr_stop forms filled = go (subst (LineThere text c) x t)
      where
        go : {q : Refusal} → LineThere text c (Err q) → InstrTold forms filled text c (Err q)
        go (LineThere.torn e) = instr_torn e forms filled

  module _ (room : Room text c) {r : Result TakenLine Refusal} (t : LineThere text c r) {line : TakenLine} (x : r ≡ Ok line) where
    pub told_line : (wanted : Place) (b : ℕ) (j : Result Unit Reason) → Judges wanted b line.place line.numbers j → LineTold wanted b text c (settled j line c.line)
    told_line wanted b j h = go (subst (LineThere text c) x t) h
      where
        go : {line : TakenLine} → LineThere text c (Ok line) → Judges wanted b line.place line.numbers j → LineTold wanted b text c (settled j line c.line)
        go (LineThere.there e f) h = record { told = Tells-line _ e f wanted b j h; onward = onward _ e f room j }

    pub instr_told : (forms filled : ℕ) (j : Result Unit Reason) → line_told j (good (instruction line.place line.numbers)) ≡ instr_line forms filled line.place (list_of line.numbers)
        → InstrTold forms filled text c (settled j line c.line)
    instr_told forms filled j h = go (subst (LineThere text c) x t) h
      where
        go : {line : TakenLine} → LineThere text c (Ok line) → line_told j (good (instruction line.place line.numbers)) ≡ instr_line forms filled line.place (list_of line.numbers)
            → InstrTold forms filled text c (settled j line c.line)
        go {line} (LineThere.there e f) h =
            record {
              told = judged _ e f (instr_line forms filled) instruction j h;
              stands =
                  here _ e f (Place.Instruction Operation.New) j
                  (on_ok j λ d. good_place forms filled line.place (list_of line.numbers) (instruction line.place line.numbers) (sym h ∙ ap (λ x. line_told x (good (instruction line.place line.numbers))) d));
              onward = onward _ e f room j;
            }
