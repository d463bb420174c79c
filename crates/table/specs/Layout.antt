-- Where everything lies in the 32,768 numbers of the work buffer. Every place is clamped into its own part, so that parts never
-- overlap, whatever the numbers in them are. The rules of the view and of the stores say every
-- address by these names. Stands on nothing.
use Rattle.std.specs.Prelude.{ℕ, ◌+◌, ◌*◌, min}

-- the sheet's counts: rows, forms, where main's instructions begin, and how many they are
abbrev pub row_count_at : ℕ
row_count_at = 0

abbrev pub form_count_at : ℕ
form_count_at = 1

abbrev pub main_start_at : ℕ
main_start_at = 2

abbrev pub main_count_at : ℕ
main_count_at = 3

-- how many devices there are, and the forms of up to 8
abbrev pub device_count_at : ℕ
device_count_at = 4

abbrev pub device_address : ℕ → ℕ
device_address i = 5 + min i 7

-- 64 rows of 36: kind, number of members, two to spare, and 8 members of 4 (kind of member, name, and one or two rows)
abbrev pub row_address : ℕ → ℕ
row_address i = 16 + 36 * min i 63

abbrev pub member_address : ℕ → ℕ → ℕ
member_address i j = row_address i + (4 + 4 * min j 7)

abbrev pub member_count_address : ℕ → ℕ
member_count_address i = row_address i + 1

abbrev pub member_end : ℕ → ℕ → ℕ
member_end i j = member_address i j + 4

abbrev pub row_end : ℕ → ℕ
row_end i = row_address i + 36

-- 64 forms of 36: row, number of kept values, number of parts, 8 kept rows, and 8 parts of 3 (kind of part, and its kept value;
-- or where the body's instructions begin, and how many they are)
abbrev pub form_address : ℕ → ℕ
form_address f = 2320 + 36 * min f 63

abbrev pub keep_address : ℕ → ℕ → ℕ
keep_address f j = form_address f + (3 + min j 7)

abbrev pub part_address : ℕ → ℕ → ℕ
part_address f j = form_address f + (11 + 3 * min j 7)

abbrev pub keep_count_address : ℕ → ℕ
keep_count_address f = form_address f + 1

abbrev pub part_count_address : ℕ → ℕ
part_count_address f = form_address f + 2

abbrev pub body_start_address : ℕ → ℕ → ℕ
body_start_address f j = part_address f j + 1

abbrev pub body_size_address : ℕ → ℕ → ℕ
body_size_address f j = part_address f j + 2

-- 1,024 instructions of 11: the operation's code, how many numbers, and 9 numbers
abbrev pub instr_address : ℕ → ℕ
instr_address p = 4624 + 11 * min p 1023

abbrev pub number_count_address : ℕ → ℕ
number_count_address p = instr_address p + 1

abbrev pub number_address : ℕ → ℕ → ℕ
number_address p k = instr_address p + (2 + k)

abbrev pub instr_end : ℕ → ℕ
instr_end p = instr_address p + 11

-- where `count` instructions from p on end
abbrev pub instrs_end : ℕ → ℕ → ℕ
instrs_end p count = instr_address p + 11 * count

-- where the instructions from p on begin, which for p 1,024 is where they end
abbrev pub pool_address : ℕ → ℕ
pool_address p = 4624 + 11 * min p 1024

-- the sheet's table ends here; all that comes after is the state of a question
abbrev pub table_end : ℕ
table_end = 15888

-- 64 times 64 answers of fit
abbrev pub fit_address : ℕ → ℕ → ℕ
fit_address a b = 15888 + (64 * min a 63 + min b 63)

-- in a run the same room holds, by name, the places of each form's members
abbrev pub place_address : ℕ → ℕ → ℕ
place_address f n = fit_address f n

-- the rows of up to 64 slots
abbrev pub slot_row_address : ℕ → ℕ
slot_row_address v = 19984 + min v 63

abbrev pub slot_rows_end : ℕ
slot_rows_end = 20048

-- 256 objects of 17: form, 8 kept values, 8 fields
abbrev pub object_address : ℕ → ℕ
object_address o = 20048 + 17 * min o 255

abbrev pub kept_address : ℕ → ℕ → ℕ
kept_address o i = object_address o + (1 + min i 7)

abbrev pub field_address : ℕ → ℕ → ℕ
field_address o i = object_address o + (9 + min i 7)

-- 64 frames of 48: its receiver, how many slots are filled, its next instruction, the end of its code, and up to 44 slots
abbrev pub frame_address : ℕ → ℕ
frame_address f = 24400 + 48 * min f 63

abbrev pub slot_address : ℕ → ℕ → ℕ
slot_address f v = frame_address f + (4 + min v 43)

abbrev pub filled_address : ℕ → ℕ
filled_address f = frame_address f + 1

abbrev pub next_address : ℕ → ℕ
next_address f = frame_address f + 2

abbrev pub end_address : ℕ → ℕ
end_address f = frame_address f + 3

-- the machine's state ends here
abbrev pub state_end : ℕ
state_end = 27472

-- 256 marks of objects
abbrev pub mark_address : ℕ → ℕ
mark_address b = 27472 + min b 255

-- 44 notes: the slots that the code of a frame names
abbrev pub code_notes_at : ℕ
code_notes_at = 27728

-- marks and these notes end here
abbrev pub marks_end : ℕ
marks_end = 27772

-- 44 notes for each of 64 forms: the slots that its bodies name
abbrev pub form_notes_address : ℕ → ℕ
form_notes_address f = 27772 + 44 * min f 63

-- and then room to spare, from here to the end
abbrev pub notes_end : ℕ
notes_end = 30588

abbrev pub work_size : ℕ
work_size = 32768
