-- The stricter kind of sheet: a body of method N calls only methods with names below N, and main may call any (document 02, order 4).
-- The rule is a judge of lines, as typing is. Stands on Typing and on the machine's look-up of a body.
use Rattle.std.specs.Prelude.{ℕ, ◌<◌, ◌≡◌, Bool, true, List, ltb}
use Rattle.std.proofs.Math.Option.{Option, none, some}
use Rattle.lists.specs.In.{In}
use Rattle.sheet_rules.specs.declared.Reason.TheVariants.{CircularCall}
use Rattle.sheet_rules.specs.declared.Verdict.{Verdict}
use Rattle.sheet_rules.specs.Sheet.{Instr, called_name, Form, Sheet}
use Rattle.type_rules.specs.SlotRows.{members_at}
use Rattle.type_rules.specs.Typing.{unless, LineJudge, line_faults, first_fault, first_form_line}
use Rattle.machine_rules.specs.Step.{body_in}

-- in a body of method n: no call, or one of a name below; the own name is not below (order 4)
abbrev pub calls_below : ℕ → Option ℕ → Bool
calls_below n none = true
calls_below n (some m) = ltb m n

-- each line by this rule: only a `call` line of a body can be against it (order 4, 12)
abbrev pub strict_lines : LineJudge
strict_lines =
    record {
      of_form = λ k f. none;
      of_keep = λ k f row. none;
      of_init = λ k f n row kept. none;
      of_body = λ k f n result rows i is. unless (calls_below n (called_name i)) CircularCall;
      of_device = λ f. none;
      of_main = λ rows i is. none;
    }

-- whether a sheet is of the stricter kind, with the first `call` line against it (order 4, 12)
unfoldable pub strictness : Sheet → Verdict
strictness s = first_fault (first_form_line s) (line_faults strict_lines s)

-- the body of method n in a form, as the machine finds it (order 4)
abbrev pub body_of : Sheet → Form → ℕ → Option (List Instr)
body_of s f n = body_in (members_at s f.row) f.parts n

-- each call among some instructions is of a name below n (order 4)
abbrev pub CallsBelow : ℕ → List Instr → Type 0
CallsBelow n is = (i : Instr) → In i is → (m : ℕ) → called_name i ≡ some m → m < n

-- a sheet of the stricter kind, as a fact: whatever form's body of whatever method n, each of its calls is of a name below n. These
-- are exactly the sheets without a line against the rule (StrictLaws.Strict-exactly) (order 4)
abbrev pub Strict : Sheet → Type 0
Strict s = (f : Form) → In f s.forms → (n : ℕ) (is : List Instr) → body_of s f n ≡ some is → CallsBelow n is
