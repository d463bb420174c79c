-- The buffer after a store of the reader's. Stands on Layout and View.
use Rattle.std.specs.Prelude.{ℕ, ◌+◌, List, set}
use Rattle.sheet_rules.specs.declared.MemberKind.{MemberKind}
use Rattle.sheet_rules.specs.declared.Operation.{Operation}
use Rattle.table.specs.Layout.{row_count_at, main_count_at, row_address, member_address, member_count_address, form_address, part_address, instr_address, number_count_address}
use Rattle.table.specs.View.{kind_tag, operation_code}

-- a row's kind, and how many members it has
abbrev pub row_head_put : List ℕ → ℕ → ℕ → ℕ → List ℕ
row_head_put w i kind members = set (set w (row_address i) kind) (member_count_address i) members

-- a member's kind, its name, and its one or two rows
abbrev pub member_put : List ℕ → ℕ → ℕ → MemberKind → ℕ → ℕ → ℕ → List ℕ
member_put w i j kind name first second =
    set (set (set (set w (member_address i j) (kind_tag kind)) (member_address i j + 1) name) (member_address i j + 2) first) (member_address i j + 3) second

-- an instruction's operation, and how many numbers it has
abbrev pub operation_put : List ℕ → ℕ → Operation → ℕ → List ℕ
operation_put w p operation count = set (set w (instr_address p) (operation_code operation)) (number_count_address p) count

-- three numbers from a place on
unfoldable pub three_put : List ℕ → ℕ → ℕ → ℕ → ℕ → List ℕ
three_put w at x y z = set (set (set w at x) (at + 1) y) (at + 2) z

-- a form's row, and how many kept values and parts it has
abbrev pub heading_put : List ℕ → ℕ → ℕ → ℕ → ℕ → List ℕ
heading_put w f row keeps parts = three_put w (form_address f) row keeps parts

-- a part's kind and its two numbers
abbrev pub part_put : List ℕ → ℕ → ℕ → ℕ → ℕ → ℕ → List ℕ
part_put w f j tag first second = three_put w (part_address f j) tag first second

-- how many rows and forms a sheet has, where main's instructions begin, and how many they are
abbrev pub counts_put : List ℕ → ℕ → ℕ → ℕ → ℕ → List ℕ
counts_put w rows forms start count = set (three_put w row_count_at rows forms start) main_count_at count
