-- The numbers of documents 01 and 02 that bound a sheet and the machine, each named once. Stands on nothing.
use Rattle.std.specs.Prelude.{ℕ}

-- a text has at most 65,535 bytes (Turned away, 2)
abbrev pub text_limit : ℕ
text_limit = 65535

-- a decimal is at most 65,535 (The sheet)
abbrev pub decimal_limit : ℕ
decimal_limit = 65535

-- a sheet has 1 to 64 type rows (The sheet, `types`)
abbrev pub row_limit : ℕ
row_limit = 64

-- a row has at most 8 members (The sheet, `type`)
abbrev pub member_limit : ℕ
member_limit = 8

-- a name is at most 63, wherever it stands (The sheet, `def` and `var`)
abbrev pub name_limit : ℕ
name_limit = 63

-- a sheet has at most 64 forms (The sheet, `forms`)
abbrev pub form_limit : ℕ
form_limit = 64

-- a form keeps at most 8 values (The sheet, `form`)
abbrev pub keep_limit : ℕ
keep_limit = 8

-- a sheet that names devices has 1 to 8 of them (document 02, order 7)
abbrev pub device_limit : ℕ
device_limit = 8

-- a body, and main, has 1 to 32 instructions (The sheet, `body` and `main`)
abbrev pub body_limit : ℕ
body_limit = 32

-- a sheet has at most 1,024 instructions, main's included (The sheet, `main`)
abbrev pub instruction_limit : ℕ
instruction_limit = 1024

-- the store has 256 places (The machine)
abbrev pub store_limit : ℕ
store_limit = 256

-- the stack has 64 frames, main's included (The machine)
abbrev pub stack_limit : ℕ
stack_limit = 64
