-- The sheet that the work buffer holds: a function of its numbers. Stands on Layout and on the rules' sheet.
use Rattle.std.specs.Prelude.{ℕ, ◌+◌, cond, List, eqb, get_or, take, drop}
use Rattle.lists.specs.Tab.{tab}
use Rattle.sheet_rules.specs.declared.Member.{Member}
use Rattle.sheet_rules.specs.declared.Member.TheVariants.{Method, Field}
use Rattle.sheet_rules.specs.declared.MemberKind.{MemberKind}
use Rattle.sheet_rules.specs.declared.Operation.{Operation}
use Rattle.sheet_rules.specs.declared.Operation.TheVariants.{New, Call, Get, Put, Copy}
use Rattle.sheet_rules.specs.Sheet.{Row, Instr, new, call, get, put, copy, Part, init, body, Form, Sheet}
use Rattle.sheet_rules.specs.Reader.{nth}
use Rattle.sheet_rules.specs.RowLines.{kind_of}
use Rattle.table.specs.Layout.{row_count_at, form_count_at, main_start_at, main_count_at, device_count_at, device_address, row_address, member_address, member_count_address, form_address, keep_address, part_address, keep_count_address, part_count_address, body_start_address, body_size_address, instr_address, number_count_address, number_address}

-- the number at a place; 0 past the end
abbrev pub cell : List ℕ → ℕ → ℕ
cell w i = get_or w i 0

-- how a member's kind is stored
abbrev pub kind_tag : MemberKind → ℕ
kind_tag MemberKind.Method = 0
kind_tag MemberKind.Field = 1

-- a member from its four numbers
abbrev pub member_from : ℕ → ℕ → ℕ → ℕ → Member
member_from tag n a b = cond (eqb tag 0) (Method n a b) (Field n a)

-- member j of row i
unfoldable pub member_in : List ℕ → ℕ → ℕ → Member
member_in w i j =
    member_from (cell w (member_address i j)) (cell w (member_address i j + 1)) (cell w (member_address i j + 2)) (cell w (member_address i j + 3))

-- the first n members of row i
abbrev pub members_in : List ℕ → ℕ → ℕ → List Member
members_in w i n = tab (member_in w i) n

-- row i
unfoldable pub row_in : List ℕ → ℕ → Row
row_in w i = record { kind = kind_of (cell w (row_address i)); members = members_in w i (cell w (member_count_address i)) }

-- the first n rows
abbrev pub rows_in : List ℕ → ℕ → List Row
rows_in w n = tab (row_in w) n

-- the nine numbers of instruction p
abbrev pub numbers_in : List ℕ → ℕ → List ℕ
numbers_in w p = tab (λ k. cell w (number_address p k)) 9

-- how an operation is stored
abbrev pub operation_code : Operation → ℕ
operation_code New = 0
operation_code Call = 1
operation_code Get = 2
operation_code Put = 3
operation_code Copy = 4

-- an instruction from its operation's code, how many numbers it has, and all nine; only a `new` has more or fewer of them
unfoldable pub instr_from : ℕ → ℕ → List ℕ → Instr
instr_from code count ns =
    cond (eqb code (operation_code New)) (new (nth ns 0) (drop 1 (take count ns)))
    (cond (eqb code (operation_code Call)) (call (nth ns 0) (nth ns 1) (nth ns 2))
    (cond (eqb code (operation_code Get)) (get (nth ns 0))
    (cond (eqb code (operation_code Put)) (put (nth ns 0) (nth ns 1)) (copy (nth ns 0)))))

-- instruction p of the pool
unfoldable pub instr_in : List ℕ → ℕ → Instr
instr_in w p = instr_from (cell w (instr_address p)) (cell w (number_count_address p)) (numbers_in w p)

-- n instructions from p on
abbrev pub instrs_in : List ℕ → ℕ → ℕ → List Instr
instrs_in w p n = tab (λ k. instr_in w (p + k)) n

-- a part from its three numbers
abbrev pub part_from : List ℕ → ℕ → ℕ → ℕ → Part
part_from w tag a b = cond (eqb tag 0) (init a) (body (instrs_in w a b))

-- part j of form f
unfoldable pub part_in : List ℕ → ℕ → ℕ → Part
part_in w f j = part_from w (cell w (part_address f j)) (cell w (body_start_address f j)) (cell w (body_size_address f j))

-- the first n kept rows of form f
abbrev pub keeps_in : List ℕ → ℕ → ℕ → List ℕ
keeps_in w f n = tab (λ j. cell w (keep_address f j)) n

-- the first n parts of form f
abbrev pub parts_in : List ℕ → ℕ → ℕ → List Part
parts_in w f n = tab (part_in w f) n

-- form f
unfoldable pub form_in : List ℕ → ℕ → Form
form_in w f =
    record {
      row = cell w (form_address f);
      keeps = keeps_in w f (cell w (keep_count_address f));
      parts = parts_in w f (cell w (part_count_address f));
    }

-- the first n forms
abbrev pub forms_in : List ℕ → ℕ → List Form
forms_in w n = tab (form_in w) n

-- the forms of the first n devices
abbrev pub devices_in : List ℕ → ℕ → List ℕ
devices_in w n = tab (λ i. cell w (device_address i)) n

-- the sheet
unfoldable pub sheet_in : List ℕ → Sheet
sheet_in w =
    record {
      rows = rows_in w (cell w row_count_at);
      forms = forms_in w (cell w form_count_at);
      devices = devices_in w (cell w device_count_at);
      main = instrs_in w (cell w main_start_at) (cell w main_count_at);
    }
